use mathlib.Core.Path.{◌≡◌, refl, ◌∙◌}
use mathlib.Core.List.{List, ◌∷◌, ◌++◌, append_assoc}
use Prim.Native.Nat.{ℕ, zero, suc, ◌+◌, ◌-◌, ◌/◌, ◌%◌, ◌≤◌, ◌<◌}
use native.Mathlib.Omega.{arith}
use lib.ListN.{length, drop, set, length-set}
use lib.Seq.{drop-cons, drop-set-lt, get_or-set_same}
use Rattle.keymap.specs.Buffers.{over}
use Rattle.lines.specs.Decimal.{zero_digit, decimal}
use Rattle.lines.proofs.Laws.Decimal.{final_digits, final_digits-all}
use Rattle.lines.proofs.decimal.put_decimal.Goals as goal

turn : (out : List ℕ) (left rest : ℕ) → 0 < left → left ≤ length out
    → final_digits (left - 1) (rest / 10) ++ drop (left - 1) (set out (left - 1) (zero_digit + rest % 10)) ≡ final_digits left rest ++ drop left out
unfolding final_digits
turn out zero rest h l = absurd (omega arith)
turn out (suc k) rest h l =
    let d : ℕ = zero_digit + rest % 10 in
    let one_less : suc k - 1 ≡ k = omega arith in
    let still : k < length (set out k d) = omega (arith, length-set out k d) in
    let from : drop k (set out k d) ≡ d ∷ drop (suc k) out =
    drop-cons (set out k d) k 0 still ∙ rw (get_or-set_same out k d 0 (omega arith), drop-set-lt (suc k) out k d (omega arith)) in
    rw (one_less, from, append_assoc)

pub loop-i-init : goal.loop-i-init
loop-i-init c = (refl, refl)

pub loop-i-preserved : goal.loop-i-preserved
loop-i-preserved c =
    let i = c.loop-i in (
      length-set i.out (i.i - 1) (zero_digit + i.rest % 10) ∙ i.invariant.0,
      turn i.out i.i i.rest (omega arith) (omega (arith, c.requires.room, i.invariant.0)) ∙ i.invariant.1,
    )

-- no digit is left to be put
put : (out before : List ℕ) (left rest n k : ℕ) → left ≤ 0 → k ≡ length (decimal n) → final_digits left rest ++ drop left out ≡ final_digits k n ++ drop k before → out ≡ over (decimal n) before
unfolding final_digits over
put out before zero rest n k h e q = q ∙ rw (e, final_digits-all n)
put out before (suc left) rest n k h e q = absurd (omega arith)

pub returns : goal.returns
returns c = put c.loop-i.out c.args.out.now c.loop-i.i c.loop-i.rest c.args.number c.args.count c.loop-i-test.false c.requires.counted c.loop-i.invariant.1
