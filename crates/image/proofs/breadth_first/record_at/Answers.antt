-- `image::breadth_first::record_at` meets its contract: what is not the first is behind the root. Assumes nothing.
use mathlib.Core.Path.{◌≡◌, ap}
use Prim.Native.Nat.{ℕ, suc, ◌-◌}
use mathlib.Core.List.{◌∷◌}
use native.Mathlib.Omega.{arith}
use lib.ListN.{get_or}
use Rattle.image.proofs.breadth_first.record_at.Goals as goal

pub returns-else-k-eq0 : goal.returns-else-k-eq0
returns-else-k-eq0 c =
    let k = c.args.k in
    let e : suc (k - 1) ≡ k = omega arith in
    ap (λ (i : ℕ). get_or (0 ∷ c.args.queue.now) i 0) e
