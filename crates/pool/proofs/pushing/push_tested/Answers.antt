-- `pool::pushing::push_tested` meets its contract: at each return the tests that led there say which case of `tested_says` holds. Assumes nothing.
use mathlib.Core.Path.{◌≡◌, refl, sym, ap₂, ◌∙◌}
use Prim.Native.Nat.{ℕ, ◌+◌, ◌-◌, ◌≤◌}
use native.Mathlib.Omega.{arith}
use lib.ListN.{length, take, drop}
use borrow.Author.Tests.{eqb-true, eqb-false}
use Rattle.std.proofs.lemmas.List.{take_all, length-drop}
use Rattle.keymap.specs.Key.{Bytes}
use Rattle.records.specs.Words.{Pool, used_count, capacity}
use Rattle.std.specs.Prelude.{Err}
use Rattle.keymap.specs.declared.refusals.Refusal.{Refusal}
use Rattle.pool.specs.Writing.{marked}
use Rattle.pool.proofs.Laws.Push.{tested-empty, tested-refused, depth-within, full-refused, can-enter-from, end-inside, done-accepted}
use Rattle.pool.proofs.Laws.Path.{bytes-from}
use Rattle.pool.proofs.pushing.push_tested.Goals.{After-reach_of-reach, Else-most-needed}
use Rattle.pool.proofs.pushing.push_tested.Goals as goal

bytes : (c : After-reach_of-reach) → Bytes c.args.key.now
bytes c = bytes-from c.args.key.now (λ i. omega (arith, c.type_inv.key i))

room : (c : Else-most-needed)
    →
    used_count c.args.pool.now + (length c.args.key.now - c.reach_of-reach.result.depth) ≤ capacity c.args.pool.now
room c = omega (arith, c.used_count.ensures, c.capacity_of-most.ensures, c.if-most-needed.false)

pub returns-then-is_empty : goal.returns-then-is_empty
returns-then-is_empty c = tested-refused _ _ _ c.requires (Err Refusal.EmptyKey) (tested-empty _ _ (eqb-true _ _ (sym c.is_empty.ensures ∙ c.if-is_empty.true))) refl

pub overflow_sub-needed : goal.overflow_sub-needed
overflow_sub-needed c = omega (arith, depth-within _ _ c.args.value c.requires _ c.reach_of-reach.ensures)

pub shape_of-pool-then-most-needed : goal.shape_of-pool-then-most-needed
shape_of-pool-then-most-needed c = refl

pub returns-then-most-needed : goal.returns-then-most-needed
returns-then-most-needed c =
    full-refused _ _ _ c.requires _ c.reach_of-reach.ensures (eqb-false _ _ (sym c.is_empty.ensures ∙ c.if-is_empty.false)) (omega (arith, c.used_count.ensures, c.capacity_of-most.ensures))

whole : (c : Else-most-needed)
    →
    take (length c.args.key.now - c.reach_of-reach.result.depth) (drop c.reach_of-reach.result.depth c.args.key.now) ≡ drop c.reach_of-reach.result.depth c.args.key.now
whole c = take_all _ _ (simp length-drop (omega arith))

pub slice_bounds-enter_all-count : goal.slice_bounds-enter_all-count
slice_bounds-enter_all-count c = depth-within _ _ c.args.value c.requires _ c.reach_of-reach.ensures

pub slice_bounds-enter_all-start : goal.slice_bounds-enter_all-start
slice_bounds-enter_all-start c = depth-within _ _ c.args.value c.requires _ c.reach_of-reach.ensures

pub enter_all-end-requires : goal.enter_all-end-requires
enter_all-end-requires c =
    rw (whole (goal.at.enter_all-end-requires c).Else-most-needed)
    (can-enter-from _ _ c.args.value c.requires _ c.reach_of-reach.ensures (bytes (goal.at.enter_all-end-requires c).After-reach_of-reach) (eqb-false _ _ (sym c.is_empty.ensures ∙ c.if-is_empty.false)) (room (goal.at.enter_all-end-requires c).Else-most-needed))

pub mark-requires : goal.mark-requires
mark-requires c =
    end-inside _ _ c.args.value c.requires _ c.reach_of-reach.ensures (bytes (goal.at.mark-requires c).After-reach_of-reach) (eqb-false _ _ (sym c.is_empty.ensures ∙ c.if-is_empty.false)) (room (goal.at.mark-requires c).Else-most-needed) _ _ (rw (whole (goal.at.mark-requires c).Else-most-needed) at c.enter_all-end.ensures.1) (rw (whole (goal.at.mark-requires c).Else-most-needed) at c.enter_all-end.ensures.0)

pub shape_of-pool : goal.shape_of-pool
shape_of-pool c = c.mark.auto.pool ∙ c.enter_all-end.auto.pool

pub returns : goal.returns
returns c =
    done-accepted _ _ _ c.requires _ c.reach_of-reach.ensures (bytes (goal.at.returns c).After-reach_of-reach) (eqb-false _ _ (sym c.is_empty.ensures ∙ c.if-is_empty.false)) (room (goal.at.returns c).Else-most-needed) _ (c.mark.ensures ∙ ap₂ (λ (q : Pool) (t : ℕ). marked q t c.args.value) (rw (whole (goal.at.returns c).Else-most-needed) at c.enter_all-end.ensures.1) (rw (whole (goal.at.returns c).Else-most-needed) at c.enter_all-end.ensures.0))
