use native.Mathlib.Omega.{arith}
use mathlib.Core.Path.{◌≡◌}
use Prim.Native.Nat.{ℕ, ◌+◌, ◌≤◌}
use lib.ListN.{get_or}
use lib.Count.{ones}
use Rattle.descents.proofs.Laws.Far.{ones-most, four-passed}
use Rattle.descents.proofs.far.pass_fours.Goals as goal

pub loop-w-preserved : goal.loop-w-preserved
loop-w-preserved c =
    let a = c.args in
    let l = c.loop-w in
    let few : (i : ℕ) → ones (get_or a.words.now i 0) ≤ 64 = ones-most a.words.now (λ i. (c.type_inv.words i).fits) in
    let there = c.ones_in.result + c.ones_in-in-loop-w.result + c.ones_in-in-loop-w-2.result + c.ones_in-in-loop-w-3.result in
    let four : there ≡ ones (get_or a.words.now l.w 0) + ones (get_or a.words.now (l.w + 1) 0) + ones (get_or a.words.now (l.w + 2) 0) + ones (get_or a.words.now (l.w + 3) 0) =
    omega (arith, c.ones_in.ensures, c.ones_in-in-loop-w.ensures, c.ones_in-in-loop-w-2.ensures, c.ones_in-in-loop-w-3.ensures) in (
      omega (arith, c.loop-w-test.true),
      four-passed a.words.now (λ i. (c.type_inv.words i).fits) a.first a.k l.w l.left there l.invariant.1 four (omega (arith, four, few l.w, few (l.w + 1), few (l.w + 2), few (l.w + 3))) c.if-left-zeros.false,
    )
