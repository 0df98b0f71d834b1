use Rattle.std.specs.Prelude.{Option, Some}
use mathlib.Core.Path.{◌≡◌, refl, sym, ap, ◌∙◌, subst}
use mathlib.Core.List.{List}
use Prim.Native.Nat.{ℕ, ◌+◌, ◌-◌, ◌*◌, ◌^◌, ◌≤◌, ◌<◌}
use native.Mathlib.Omega.{arith}
use lib.ListN.{length, get_or, drop}
use lib.Bits.{bit_and}
use lib.Count.{count_trailing_zeros}
use Rattle.keymap.specs.Limits.{word_bits}
use Rattle.keymap.specs.Bits.{bit}
use Rattle.walks.specs.Rule.{lowest_by, child_by, walked_from}
use Rattle.walks.specs.Stands.{reached_at}
use Rattle.descents.specs.declared.far.Kept.{Kept}
use Rattle.descents.specs.Far.{zero_bits, HasZero, went_on}
use Rattle.walks.proofs.Laws.Rule.{walked_from-next, walked_from-lost}
use Rattle.walks.proofs.Laws.Siblings.{lowest-bounds}
use Rattle.descents.proofs.Laws.Far.{Settled, keeping_start, settled-found, settled-kept, settled-keeping, keeping-next, keeping-stand, gone-rule, Stood, stood, NextAt, ahead_in, ahead-beyond, child-rule-far, zeros-most}
use Rattle.descents.proofs.far.go_far.Goals.{After-ones_from-rest, In_ok-m, then-kept+in-Some, else-kept, then-more-ne0, else-more-ne0+in-Some-word_with_zero}
use Rattle.descents.proofs.far.go_far.Goals as goal

pub loop-i-init : goal.loop-i-init
loop-i-init c = (keeping_start c.args.bits.words.now c.whole_words-whole.result, refl, refl)

-- the word that is kept now has the node's zero
module _ (o : After-ones_from-rest) where
  abbrev ws : List ℕ
  ws = o.args.bits.words.now

  abbrev whole : ℕ
  whole = o.whole_words-whole.result

  abbrev node : ℕ
  node = o.loop-i.node

  abbrev kept : Kept
  kept = o.if-kept.kept

  abbrev rest : ℕ
  rest = o.ones_from-rest.result

  abbrev more : ℕ
  more = bit_and rest (rest - 1)

  wide : (i : ℕ) → get_or ws i 0 < 2 ^ word_bits
  wide = o.whole_words-whole.ensures.wide

  settled : Settled ws whole node kept
  settled =
      let l = o.loop-i in
      elim o.if-kept.branch [
        | then-kept+in-Some t ↦
            subst (Settled ws whole node) (sym t.kept-is)
            (settled-found ws wide whole node l.kept t.in-Some.next l.invariant.0 t.if-kept.true (t.in-Some.ensures (omega (arith, t.if-kept.true))))
        | else-kept e ↦ subst (Settled ws whole node) (sym e.kept-is) (settled-kept ws wide whole node l.kept l.invariant.0 e.if-kept.false)
      ]

  -- where the node's zero is
  stands : Stood ws wide whole node kept settled rest o.ones_from-rest.ensures
  stands = stood ws wide whole node kept settled rest o.ones_from-rest.ensures

  -- the next zero, in the word or beyond it
  abbrev Next : ℕ → Type 0
  Next to = NextAt ws wide whole node kept settled rest o.ones_from-rest.ensures to

  in-word : (low : ℕ) → (more ≡ 0 → ⊥) → low ≡ count_trailing_zeros word_bits more → Next (kept.words * 64 - node + low - 64) × (low < 64) × (node ≤ (kept.words - 1) * 64 + low)
  in-word low much is =
      subst (λ (x : ℕ). Next (kept.words * 64 - node + x - 64) × (x < 64) × (node ≤ (kept.words - 1) * 64 + x)) (sym is)
      (ahead_in ws wide whole node kept settled rest o.ones_from-rest.ensures more refl much)

  beyond : (v low : ℕ) → more ≡ 0 → HasZero ws whole kept.words v → low ≡ count_trailing_zeros word_bits (zero_bits ws v) → Next (v * 64 + low - node) × (low < 64) × (node ≤ v * 64 + low)
  beyond v low gone h is =
      subst (λ (x : ℕ). Next (v * 64 + x - node) × (x < 64) × (node ≤ v * 64 + x)) (sym is) (ahead-beyond ws wide whole node kept settled rest o.ones_from-rest.ensures more refl v gone h)

  next-in : (low to : ℕ) → to ≡ kept.words * 64 - node + low - 64 → (more ≡ 0 → ⊥) → low ≡ count_trailing_zeros word_bits more → Next to
  next-in low to at much is = subst Next (sym at) (in-word low much is).0

  next-beyond : (v low to : ℕ) → to ≡ v * 64 + low - node → more ≡ 0 → HasZero ws whole kept.words v → low ≡ count_trailing_zeros word_bits (zero_bits ws v) → Next to
  next-beyond v low to at gone h is = subst Next (sym at) (beyond v low gone h is).0

  -- what was looked for, from the place that the lowest one gives
  module _ (low to label : ℕ) where
    abbrev from : ℕ
    from = kept.words * 64 - node + low - 63

    abbrev sought : Option ℕ
    sought = lowest_by o.args.labels.now node (to - from) (from + 1) label

    -- what a step answers, by the rule
    step : low ≡ count_trailing_zeros word_bits rest → Next to → child_by o.args.labels.now (bit ws) o.args.bits.len node label ≡ sought
    step first next =
        let z = stands in
        child-rule-far ws wide whole node kept settled rest o.ones_from-rest.ensures o.args.labels.now o.args.bits.len label from to (omega (arith, o.whole_words-whole.ensures.count))
        (omega (arith, settled.kept, z.few, z.one, z.upto, z.near, z.lowest, first))
        next

pub returns-in_default : goal.returns-in_default
returns-in_default c =
    let a = c.args in
    let l = c.loop-i in
    gone-rule a.labels.now a.bits.words.now a.bits.len a.query.now l.node l.i l.kept.words l.kept.left l.invariant.1
    (keeping-stand a.bits.words.now c.whole_words-whole.result l.node a.bits.len l.kept l.invariant.0)

pub overflow_sub-base : goal.overflow_sub-base
overflow_sub-base c = (stands (goal.at.overflow_sub-base c).After-ones_from-rest).upto

pub overflow_sub-from : goal.overflow_sub-from
overflow_sub-from c =
    let o = (goal.at.overflow_sub-from c).After-ones_from-rest in
    let s = settled o in
    let t = stands o in
    omega (arith, s.kept, t.few, t.near, t.lowest, c.lowest_one.ensures)

pub overflow_sub-more : goal.overflow_sub-more
overflow_sub-more c = omega (arith, (stands (goal.at.overflow_sub-more c).After-ones_from-rest).some)

pub overflow_sub-to : goal.overflow_sub-to
overflow_sub-to c =
    let o = (goal.at.overflow_sub-to c).After-ones_from-rest in
    let n = in-word o c.lowest_one-then-more-ne0.result c.if-more-ne0.true c.lowest_one-then-more-ne0.ensures in
    omega (arith, (settled o).kept, (stands o).upto, n.2)

pub returns-in_default-word_with_zero : goal.returns-in_default-word_with_zero
returns-in_default-word_with_zero c =
    let o = (goal.at.returns-in_default-word_with_zero c).After-ones_from-rest in
    let a = c.args in
    let l = c.loop-i in
    let k = kept o in
    gone-rule a.labels.now a.bits.words.now a.bits.len a.query.now l.node l.i k.words k.left l.invariant.1
    (keeping-stand a.bits.words.now (whole o) l.node a.bits.len k (settled-keeping a.bits.words.now (whole o) l.node k (settled o)))

pub overflow_sub-to-in-Some-word_with_zero : goal.overflow_sub-to-in-Some-word_with_zero
overflow_sub-to-in-Some-word_with_zero c =
    let o = (goal.at.overflow_sub-to-in-Some-word_with_zero c).After-ones_from-rest in
    (beyond o c.in-Some-word_with_zero.v c.lowest_one-in-Some-word_with_zero.result c.if-more-ne0.false c.in-Some-word_with_zero.ensures c.lowest_one-in-Some-word_with_zero.ensures).2

pub returns-in_err-m : goal.returns-in_err-m
returns-in_err-m c =
    let a = c.args in
    let l = c.loop-i in
    let b = bit a.bits.words.now in
    let o = (goal.at.returns-in_err-m c).After-ones_from-rest in
    let n : Next o c.if-more-ne0.to =
    elim c.if-more-ne0.branch [
      | then-more-ne0 t ↦ next-in o _ _ t.to-is t.if-more-ne0.true t.lowest_one-then-more-ne0.ensures
      | else-more-ne0+in-Some-word_with_zero e ↦ next-beyond o _ _ _ e.to-is e.if-more-ne0.false e.in-Some-word_with_zero.ensures e.lowest_one-in-Some-word_with_zero.ensures
    ] in
    let lost = step o c.lowest_one.result c.if-more-ne0.to _ c.lowest_one.ensures n ∙ sym c.in_err-m.ensures in
    ap (went_on a.labels.now b a.bits.len a.query.now) c.from_residual.ensures
    ∙ sym
    (ap (reached_at b a.bits.len)
    (l.invariant.1
    ∙ walked_from-next a.labels.now b a.bits.len a.query.now l.i l.node c.loop-i-test.true
    ∙ ap (walked_from a.labels.now b a.bits.len (drop (l.i + 1) a.query.now)) lost
    ∙ walked_from-lost a.labels.now b a.bits.len (drop (l.i + 1) a.query.now)))

-- a child is above its node, and has an entry
bounds : (c : In_ok-m) → (c.loop-i.node < c.in_ok-m.m) × (c.in_ok-m.m ≤ length c.args.labels.now + 1)
bounds c = lowest-bounds c.args.labels.now c.loop-i.node _ _ _ c.in_ok-m.m (sym c.in_ok-m.ensures)

pub overflow_sub-kept-in-loop-i-2 : goal.overflow_sub-kept-in-loop-i-2
overflow_sub-kept-in-loop-i-2 c = omega (arith, bounds c)

pub overflow_add-kept : goal.overflow_add-kept
overflow_add-kept c =
    let o = (goal.at.overflow_add-kept c).After-ones_from-rest in
    let s = settled o in
    omega (arith, bounds (goal.at.overflow_add-kept c).In_ok-m, s.enough, s.own.all, zeros-most (ws o) ((kept o).words - 1) (wide o), c.well_formed.0.1)

pub loop-i-preserved : goal.loop-i-preserved
loop-i-preserved c =
    let a = c.args in
    let l = c.loop-i in
    let b = bit a.bits.words.now in
    let o = (goal.at.loop-i-preserved c).After-ones_from-rest in
    let n : Next o c.if-more-ne0.to =
    elim c.if-more-ne0.branch [
      | then-more-ne0 t ↦ next-in o _ _ t.to-is t.if-more-ne0.true t.lowest_one-then-more-ne0.ensures
      | else-more-ne0+in-Some-word_with_zero e ↦ next-beyond o _ _ _ e.to-is e.if-more-ne0.false e.in-Some-word_with_zero.ensures e.lowest_one-in-Some-word_with_zero.ensures
    ] in
    let there = step o c.lowest_one.result c.if-more-ne0.to _ c.lowest_one.ensures n ∙ sym c.in_ok-m.ensures in (
      keeping-next (ws o) (whole o) l.node c.in_ok-m.m (kept o) (settled o) (omega (arith, bounds (goal.at.loop-i-preserved c).In_ok-m)),
      l.invariant.1
          ∙ walked_from-next a.labels.now b a.bits.len a.query.now l.i l.node c.loop-i-test.true
          ∙ ap (walked_from a.labels.now b a.bits.len (drop (l.i + 1) a.query.now)) there,
      l.invariant.2,
    )

pub returns-after-loop-i : goal.returns-after-loop-i
returns-after-loop-i c =
    let a = c.args in
    let l = c.loop-i in
    let steps : l.i ≡ l.steps = omega (arith, c.loop-i-test.false, l.auto.i-end, l.invariant.2) in
    gone-rule a.labels.now a.bits.words.now a.bits.len a.query.now l.node l.steps l.kept.words l.kept.left
    (l.invariant.1 ∙ ap (λ (i : ℕ). walked_from a.labels.now (bit a.bits.words.now) a.bits.len (drop i a.query.now) (Some l.node)) steps)
    (keeping-stand a.bits.words.now c.whole_words-whole.result l.node a.bits.len l.kept l.invariant.0)
