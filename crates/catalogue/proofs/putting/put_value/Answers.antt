-- `catalogue::putting::put_value` meets its contract: the line of the empty key has room, and is what stands behind a key. Assumes nothing.
use mathlib.Core.Path.{◌≡◌, refl, sym, ap, ◌∙◌}
use mathlib.Core.List.{List, [], ◌++◌, append-nil}
use Prim.Native.Nat.{ℕ, ◌+◌, ◌-◌, ◌≤◌}
use native.Mathlib.Omega.{arith}
use lib.ListN.{length, take, drop, length-drop, drop_of_length-le}
use lib.Seq.{take_all}
use borrow.Author.Tests.{le-ltb}
use borrow.Rule.Slice.PartMut.{put_mid}
use Rattle.std.specs.Prelude.{Result, Ok}
use Rattle.keymap.specs.declared.refusals.Refusal.{Refusal}
use Rattle.keymap.specs.Buffers.{over}
use Rattle.lines.specs.Answers.{said_written}
use Rattle.lines.specs.Writing.{tab_text, write_line_says, write_line_out}
use Rattle.lines.proofs.Laws.Answers.{said-written-one}
use Rattle.catalogue.proofs.putting.put_value.Goals.{After-unwrap}
use Rattle.catalogue.proofs.putting.put_value.Goals as goal

module _ (v at : ℕ) (out new : List ℕ) (r : Result ℕ Refusal) (room : at + length (tab_text ([], v)) ≤ length out) where
  abbrev text : List ℕ
  text = tab_text ([], v)

  -- what is lent: all from the place on
  lent : take (length out - at) (drop at out) ≡ drop at out
  lent = take_all (length out - at) (drop at out) (omega (arith, length-drop at out))

  inside : length text ≤ length (drop at out)
  inside = omega (arith, room, length-drop at out)

  written : said_written r ≡ write_line_says ([], v) (take (length out - at) (drop at out)) → r ≡ Ok (length text)
  unfolding write_line_says
  written said = said-written-one r (Ok (length text)) (said ∙ rw (lent, le-ltb _ _ inside))

  left : new ≡ write_line_out ([], v) (take (length out - at) (drop at out)) → put_mid at (length out - at) out new ≡ take at out ++ over text (drop at out)
  unfolding write_line_out
  left is =
      let line : new ≡ over text (drop at out) = is ∙ rw (lent, le-ltb _ _ inside) in
      ap (λ (t : List ℕ). take at out ++ (new ++ t)) (drop_of_length-le (drop at out) {i = length out - at} (omega (arith, length-drop at out)))
      ∙ ap (λ (t : List ℕ). take at out ++ t) (append-nil new ∙ line)

pub unwrap-requires : goal.unwrap-requires
unwrap-requires c = rw (written _ _ _ c.write_line.new.out _ c.requires c.write_line.ensures.answer) refl

length-is : (c : After-unwrap) → c.unwrap.result ≡ length (tab_text ([], c.args.value))
length-is c =
    let same : Ok c.unwrap.result ≡ Ok (length (tab_text ([], c.args.value))) = sym c.unwrap.ensures ∙ written _ _ _ c.write_line.new.out _ c.requires c.write_line.ensures.answer in
    cc

pub overflow_add-result : goal.overflow_add-result
overflow_add-result c =
    let is = length-is c in record { fits = omega (arith, is, c.requires, c.well_formed) }

pub returns : goal.returns
returns c =
    let a = c.args in
    record { answer = ap (λ (n : ℕ). a.at + n) (length-is c); left = left a.value a.at a.out.now _ c.write_line.result c.requires c.write_line.ensures.left }
