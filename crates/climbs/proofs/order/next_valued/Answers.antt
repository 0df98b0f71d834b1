use mathlib.Core.Path.{◌≡◌, sym, ap, ap₂, ◌∙◌}
use Prim.Native.Nat.{ℕ, ◌+◌, ◌-◌}
use native.Mathlib.Omega.{arith}
use lib.ListN.{length}
use Rattle.keymap.specs.Bits.{bit}
use Rattle.keymap.proofs.Laws.Bits.{bit-small}
use Rattle.climbs.specs.declared.perches.Perch.{Perch}
use Rattle.climbs.specs.Perches.{perch_at}
use Rattle.climbs.specs.Order.{advance_by, sought_from, given_of}
use Rattle.climbs.proofs.Laws.Order.{next-starts, sought-done, sought-lost, sought-value, sought-on}
use Rattle.climbs.proofs.Laws.Moves.{MovedTold, moved_to, moved-lost}
use Rattle.climbs.proofs.order.next_valued.Goals.{In_ok-at}
use Rattle.climbs.proofs.order.next_valued.Goals as goal

pub loop-init : goal.loop-init
loop-init c =
    let a = c.args in
    let b = bit a.bits.words.now in
    let told = c.perch_at-at.ensures in
    let own = ap (λ (p : Perch). p.node) told in
    let whole : length a.labels.now + 1 - 0 ≡ length a.labels.now + 1 = omega arith in (
      told ∙ ap (perch_at b a.bits.len) (sym own),
      next-starts a.labels.now a.values.now b a.bits.len a.top a.node
          ∙ ap₂ (λ (n k : ℕ). sought_from a.labels.now a.values.now b a.bits.len a.top n (advance_by b a.bits.len (length a.labels.now + 1) a.top k)) (sym whole) (sym own),
    )

pub returns-in_err-at : goal.returns-in_err-at
returns-in_err-at c =
    let a = c.args in
    let l = c.loop in
    let b = bit a.bits.words.now in
    let left = length a.labels.now + 1 - l.counter in
    let lost = moved-lost b (bit-small a.bits.words.now) a.bits.len (length a.labels.now + 1) a.top l.at l.invariant.0 _ c.advance.ensures c.in_err-at.was in
    c.from_residual.ensures
    ∙ sym
    (ap given_of
    (l.invariant.1
    ∙ ap (sought_from a.labels.now a.values.now b a.bits.len a.top left) lost
    ∙ sought-lost a.labels.now a.values.now b a.bits.len a.top left))

-- where the step led
there : (c : In_ok-at)
    →
    let a = c.args in
    MovedTold (bit a.bits.words.now) a.bits.len (advance_by (bit a.bits.words.now) a.bits.len (length a.labels.now + 1) a.top c.loop.at.node) c.in_ok-at.at
there c =
    let a = c.args in
    let l = c.loop in
    moved_to (bit a.bits.words.now) (bit-small a.bits.words.now) a.bits.len (length a.labels.now + 1) a.top l.at l.invariant.0 _ c.advance.ensures _ c.in_ok-at.was

pub returns-in-Some : goal.returns-in-Some
returns-in-Some c =
    let a = c.args in
    let l = c.loop in
    let b = bit a.bits.words.now in
    let left = length a.labels.now + 1 - l.counter in
    let value = sym c.value_at.ensures ∙ c.in-Some.is in
    sym
    (ap given_of
    (l.invariant.1
    ∙ ap (sought_from a.labels.now a.values.now b a.bits.len a.top left) (there (goal.at.returns-in-Some c).In_ok-at).node
    ∙ sought-value a.labels.now a.values.now b a.bits.len a.top left _ _ (omega arith) value))

pub loop-preserved : goal.loop-preserved
loop-preserved c =
    let a = c.args in
    let l = c.loop in
    let b = bit a.bits.words.now in
    let left = length a.labels.now + 1 - l.counter in
    let fewer : left - 1 ≡ length a.labels.now + 1 - (l.counter + 1) = omega arith in
    let valueless = sym c.value_at.ensures ∙ c.in_default.is in (
      (there (goal.at.loop-preserved c).In_ok-at).knows,
      l.invariant.1
          ∙ ap (sought_from a.labels.now a.values.now b a.bits.len a.top left) (there (goal.at.loop-preserved c).In_ok-at).node
          ∙ sought-on a.labels.now a.values.now b a.bits.len a.top left _ (omega arith) valueless
          ∙ ap (λ n. sought_from a.labels.now a.values.now b a.bits.len a.top n (advance_by b a.bits.len (length a.labels.now + 1) a.top c.in_ok-at.at.node)) fewer,
    )

pub returns : goal.returns
returns c =
    let a = c.args in
    let l = c.loop in
    let b = bit a.bits.words.now in
    let o = advance_by b a.bits.len (length a.labels.now + 1) a.top l.at.node in
    let done : length a.labels.now + 1 - l.counter ≡ 0 = omega arith in
    sym
    (ap given_of
    (l.invariant.1
    ∙ ap (λ n. sought_from a.labels.now a.values.now b a.bits.len a.top n o) done
    ∙ sought-done a.labels.now a.values.now b a.bits.len a.top o))
