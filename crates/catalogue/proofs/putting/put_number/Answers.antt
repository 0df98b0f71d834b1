-- `catalogue::putting::put_number` meets its contract: what `io::decimal` writes is the number's decimal. Assumes nothing.
use mathlib.Core.Path.{ap, ◌∙◌}
use mathlib.Core.List.{List, ◌++◌}
use Prim.Native.Nat.{ℕ, ◌+◌}
use native.Mathlib.Omega.{arith}
use lib.ListN.{length, take, drop}
use Rattle.keymap.specs.Buffers.{over}
use Rattle.catalogue.proofs.Laws.Putting.{fewest-decimal}
use Rattle.catalogue.proofs.putting.put_number.Goals as goal

pub put_text-requires : goal.put_text-requires
put_text-requires c =
    let d = c.decimal-count in
    let spelled = d.ensures.digits ∙ fewest-decimal _ _ d.ensures.len in
    omega (arith, c.requires, ap length spelled)

pub returns : goal.returns
returns c =
    let a = c.args in
    let d = c.decimal-count in
    let p = c.put_text.ensures in
    let spelled = d.ensures.digits ∙ fewest-decimal _ _ d.ensures.len in record { answer = p.answer ∙ ap (λ (t : List ℕ). a.at + length t) spelled; left = p.left ∙ ap (λ (t : List ℕ). take a.at a.out.now ++ over t (drop a.at a.out.now)) spelled }
