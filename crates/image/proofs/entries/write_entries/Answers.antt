use Prim.Native.Nat.{ℕ, ◌<◌}
use mathlib.Core.Path.{◌≡◌, refl, sym, ap, ap₂, ◌∙◌}
use mathlib.Core.List.{List, map}
use native.Mathlib.Omega.{arith}
use lib.ListN.{take, set, length-set}
use Rattle.records.specs.Words.{entry, value}
use Rattle.keymap.specs.Buffers.{over}
use Rattle.keymap.proofs.Laws.Buffers.{over_none, over-told}
use Rattle.image.proofs.entries.write_entries.Goals as goal

pub loop-j-init : goal.loop-j-init
loop-j-init c = (refl, refl, sym (over_none _), sym (over_none _))

pub bounds-order-j : goal.bounds-order-j
bounds-order-j c =
    omega (arith, c.requires.listed)

pub overflow_cast-labels : goal.overflow_cast-labels
overflow_cast-labels c =
    omega (arith, c.entry_of.ensures, c.requires.small c.loop-j.j c.loop-j-test.true)

pub bounds-labels-j : goal.bounds-labels-j
bounds-labels-j c =
    omega (arith, c.requires.labels-fit)

pub bounds-values-j : goal.bounds-values-j
bounds-values-j c =
    omega (arith, c.requires.values-fit)

pub loop-j-preserved : goal.loop-j-preserved
loop-j-preserved c =
    let a = c.args in
    let i = c.loop-j in
    let h = c.requires in
    let l : i.j < a.n = omega arith in (
      simp length-set i.invariant.0,
      simp length-set i.invariant.1,
      ap₂ (λ (ls : List ℕ) (e : ℕ). set ls i.j e) i.invariant.2 c.entry_of.ensures ∙ over-told (entry a.pool.now) a.order.now a.labels.now i.j (omega (arith, h.listed)) (omega (arith, h.labels-fit)),
      ap₂ (λ (vs : List ℕ) (v : ℕ). set vs i.j v) i.invariant.3 c.value_of.ensures ∙ over-told (value a.pool.now) a.order.now a.values.now i.j (omega (arith, h.listed)) (omega (arith, h.values-fit)),
    )

pub shape_of-labels : goal.shape_of-labels
shape_of-labels c = c.loop-j.invariant.0

pub shape_of-values : goal.shape_of-values
shape_of-values c = c.loop-j.invariant.1

pub returns : goal.returns
returns c =
    let a = c.args in
    let e : c.loop-j.j ≡ a.n = omega arith in record { labels = c.loop-j.invariant.2 ∙ ap (λ (k : ℕ). over (map (entry a.pool.now) (take k a.order.now)) a.labels.now) e; values = c.loop-j.invariant.3 ∙ ap (λ (k : ℕ). over (map (value a.pool.now) (take k a.order.now)) a.values.now) e }
