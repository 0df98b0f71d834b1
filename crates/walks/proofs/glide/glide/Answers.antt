use mathlib.Core.Path.{◌≡◌, sym, ap, ◌∙◌}
use Prim.Native.Nat.{◌+◌, ◌-◌, ◌≤◌, ◌<◌}
use native.Mathlib.Omega.{arith}
use mathlib.Core.Bool.{true}
use lib.ListN.{length}
use Rattle.keymap.specs.Bits.{bit}
use Rattle.walks.specs.declared.stands.Stand.{Stand}
use Rattle.walks.specs.Glide.{goes_through, only_kid, glides}
use Rattle.walks.proofs.Laws.Glide.{through-told, onward-to, onward-end, glided-starts, glides-end, glides-on}
use Rattle.walks.proofs.glide.glide.Goals.{In-Some}
use Rattle.walks.proofs.glide.glide.Goals as goal

pub loop-t-init : goal.loop-t-init
loop-t-init c =
    let a = c.args in
    (omega arith, glided-starts a.labels.now a.values.now (bit a.bits.words.now) a.bits.len a.s)

pub returns : goal.returns
returns c =
    let a = c.args in
    let l = c.loop-t in
    let b = bit a.bits.words.now in
    let ends = onward-end a.labels.now a.values.now b a.bits.len l.stand (sym c.onward.ensures ∙ c.in_default.is) in
    sym (l.invariant.1 ∙ glides-end a.labels.now a.values.now b a.bits.len (length a.labels.now + 1 - l.stand.node) l.stand l.steps ends)

-- the step that was made
further : (c : In-Some)
    → (goes_through c.args.labels.now c.args.values.now (bit c.args.bits.words.now) c.args.bits.len c.loop-t.stand ≡ true)
    × (only_kid (bit c.args.bits.words.now) c.args.bits.len c.loop-t.stand ≡ c.in-Some.t)
further c =
    let a = c.args in
    onward-to a.labels.now a.values.now (bit a.bits.words.now) a.bits.len c.loop-t.stand _ (sym c.onward.ensures ∙ c.in-Some.is)

-- it led to a higher number, up to n + 1
higher : (c : In-Some)
    → (c.loop-t.stand.node < c.in-Some.t.node) × (c.in-Some.t.node ≤ length c.args.labels.now + 1)
higher c =
    let a = c.args in
    let t = through-told a.labels.now a.values.now (bit a.bits.words.now) a.bits.len c.loop-t.stand (further c).0 in
    let node = ap (λ (s : Stand). s.node) (further c).1 in
    (omega (arith, t.above, node), omega (arith, t.within, node))

pub overflow_add-steps : goal.overflow_add-steps
overflow_add-steps c = let (above, within) = higher c in omega arith

pub loop-t-smaller : goal.loop-t-smaller
loop-t-smaller c = omega (arith, higher c)

pub loop-t-preserved : goal.loop-t-preserved
loop-t-preserved c =
    let a = c.args in
    let l = c.loop-t in
    let b = bit a.bits.words.now in (
      omega (arith, l.invariant.0, higher c),
      l.invariant.1
          ∙ glides-on a.labels.now a.values.now b a.bits.len l.stand l.steps (further c).0
          ∙ ap (λ (s : Stand). glides a.labels.now a.values.now b a.bits.len (length a.labels.now + 1 - s.node) s (l.steps + 1)) (further c).1,
    )
