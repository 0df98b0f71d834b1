-- `lines::write_line` meets its contract: the length that it compares is that of the entry's text. Assumes nothing.
use mathlib.Core.Path.{◌≡◌, ◌∙◌}
use mathlib.Core.List.{List, [], ◌∷◌}
use Prim.Native.Nat.{ℕ, ◌+◌, ◌≤◌, ◌<◌}
use native.Mathlib.Omega.{arith}
use lib.ListN.{length}
use borrow.Author.Tests.{lt-ltb, le-ltb}
use Rattle.keymap.specs.Key.{Key}
use Rattle.keymap.specs.Buffers.{over}
use Rattle.lines.specs.Decimal.{decimal}
use Rattle.lines.specs.Writing.{tab_text, write_line_says, write_line_out}
use Rattle.lines.proofs.Laws.Decimal.{length-decimal-most}
use Rattle.lines.proofs.Laws.Writing.{length-tab_text}
use Rattle.lines.proofs.write_line.Goals as goal

module _ (key : Key) (n d : ℕ) (e : d ≡ length (decimal n)) (out : List ℕ) where
  short : length out < length key + d + 2 → (8 ∷ [] ≡ write_line_says (key, n) out) × (out ≡ write_line_out (key, n) out)
  unfolding write_line_says write_line_out
  short h =
      let l : length out < length (tab_text (key, n)) = omega (arith, length-tab_text (key, n)) in
      (rw (lt-ltb _ _ l), rw (lt-ltb _ _ l))

  long : length key + d + 2 ≤ length out
      → (0 ∷ (length key + d + 2) ∷ [] ≡ write_line_says (key, n) out) × (over (tab_text (key, n)) out ≡ write_line_out (key, n) out)
  unfolding write_line_says write_line_out
  long h =
      let same : length (tab_text (key, n)) ≡ length key + d + 2 = omega (arith, length-tab_text (key, n)) in
      let l : length (tab_text (key, n)) ≤ length out = omega arith in
      (rw (le-ltb _ _ l, same), rw (le-ltb _ _ l))

pub overflow_add-length : goal.overflow_add-length
overflow_add-length c =
    omega (arith, c.well_formed.0.1, c.digit_count-digits.ensures, length-decimal-most c.args.number c.ranges.number.fits)

pub overflow_add-length-2 : goal.overflow_add-length-2
overflow_add-length-2 c =
    omega (arith, c.well_formed.0.1, c.digit_count-digits.ensures, length-decimal-most c.args.number c.ranges.number.fits)

pub returns-then-out-length : goal.returns-then-out-length
returns-then-out-length c =
    let both = short _ _ _ c.digit_count-digits.ensures _ (omega arith) in
    record { answer = both.0; left = both.1 }

pub returns : goal.returns
returns c =
    let a = c.args in
    let both = long a.key.now a.number _ c.digit_count-digits.ensures a.out.now (omega arith) in
    record { answer = both.0; left = c.put_line.ensures ∙ both.1 }
