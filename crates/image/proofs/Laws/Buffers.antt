-- A bit that is set in the front of a buffer leaves the tail as it was.
--
--     with_one-over, with_run-over    a bit, a run of bits, in the front
-- Assumes nothing.
use Prim.Native.Nat.{ℕ, zero, suc, ◌+◌, ◌*◌, ◌/◌, ◌≤◌, ◌<◌}
use mathlib.Core.Path.{◌≡◌, refl, ap, ◌∙◌}
use mathlib.Core.List.{List}
use native.Mathlib.Omega.{arith}
use lib.ListN.{length, drop, get_or-append}
use lib.Seq.{set-append_left}
use Rattle.keymap.specs.Limits.{word_bits}
use Rattle.keymap.specs.Buffers.{over}
use Rattle.louds.specs.Put.{with_one}
use Rattle.louds.proofs.Laws.Put.{length-with_one}
use Rattle.image.specs.Buffers.{with_run}

pub with_one-over : (front ys : List ℕ) (p : ℕ) → p / word_bits < length front → with_one (over front ys) p ≡ over (with_one front p) ys
unfolding over
with_one-over front ys p h = rw (length-with_one front p) (unfold with_one in rw (get_or-append front (drop (length front) ys) 0 (p / word_bits) h) (set-append_left front (drop (length front) ys) (p / word_bits) _ h))

pub with_run-over : (d : ℕ) (front ys : List ℕ) (p : ℕ) → p + d ≤ length front * word_bits → with_run (over front ys) p d ≡ over (with_run front p d) ys
unfolding with_run
with_run-over zero front ys p h = refl
with_run-over (suc d) front ys p h =
    ap (λ (ws : List ℕ). with_run ws (suc p) d) (with_one-over front ys p (omega arith)) ∙ with_run-over d (with_one front p) ys (suc p) (omega (arith, length-with_one front p))
