use mathlib.Core.Path.{◌≡◌, sym, ap, ◌∙◌}
use Prim.Native.Nat.{◌-◌}
use native.Mathlib.Omega.{arith}
use Rattle.std.specs.Prelude.{Some}
use lib.ListN.{set}
use Rattle.keymap.specs.Bits.{bit}
use Rattle.keymap.proofs.Laws.Bits.{bit-small}
use Rattle.climbs.specs.declared.perches.Perch.{Perch}
use Rattle.climbs.specs.Perches.{parent_by, perch_at}
use Rattle.climbs.specs.Spelling.{spelled_from, spelled_by}
use Rattle.climbs.proofs.Laws.Perches.{rise-to, rise-lost}
use Rattle.climbs.proofs.Laws.Spelling.{spelled_from-done, spelled_from-lost, spelled_from-bare, spelled_from-next, spelled_by-short, spelled_by-room}
use Rattle.climbs.proofs.spelling.spell.Goals.{After-parent_of}
use Rattle.climbs.proofs.spelling.spell.Goals as goal

pub returns-then-out-count : goal.returns-then-out-count
returns-then-out-count c =
    let a = c.args in
    sym (spelled_by-short a.labels.now (bit a.bits.words.now) a.bits.len a.node a.count a.out.now (omega arith))

pub loop-place-init : goal.loop-place-init
loop-place-init c =
    let a = c.args in
    let b = bit a.bits.words.now in
    let told = c.perch_at-at.ensures in
    let own = ap (λ (p : Perch). p.node) told in (
      told ∙ ap (perch_at b a.bits.len) (sym own),
      spelled_by-room a.labels.now b a.bits.len a.node a.count a.out.now (omega arith)
          ∙ ap (λ k. spelled_from a.labels.now b a.bits.len a.count (Some k) a.out.now) (sym own),
    )

pub returns-then-not-has_entry : goal.returns-then-not-has_entry
returns-then-not-has_entry c =
    let a = c.args in
    let l = c.loop-place in
    sym (l.invariant.1 ∙ spelled_from-bare a.labels.now (bit a.bits.words.now) a.bits.len l.place l.at.node l.out (sym c.has_entry.ensures ∙ c.if-not-has_entry.true))

-- the buffer with one label more
one_more : (c : After-parent_of)
    →
    let a = c.args in
    let l = c.loop-place in
    let b = bit a.bits.words.now in
    spelled_by a.labels.now b a.bits.len a.node a.count a.out.now
    ≡ spelled_from a.labels.now b a.bits.len (l.place - 1) (parent_by b a.bits.len l.at.node) (set l.out (l.place - 1) c.label_in.result)
one_more c =
    let a = c.args in
    let l = c.loop-place in
    let b = bit a.bits.words.now in
    l.invariant.1
    ∙ spelled_from-next a.labels.now b a.bits.len l.place l.at.node l.out (omega arith) (sym c.has_entry.ensures ∙ c.if-not-has_entry.false)
    ∙ ap (λ x. spelled_from a.labels.now b a.bits.len (l.place - 1) (parent_by b a.bits.len l.at.node) (set l.out (l.place - 1) x)) (sym c.label_in.ensures)

pub returns-in_default : goal.returns-in_default
returns-in_default c =
    let a = c.args in
    let l = c.loop-place in
    let b = bit a.bits.words.now in
    let top = rise-lost b (bit-small a.bits.words.now) a.bits.len l.at l.invariant.0 _ c.parent_of.ensures c.in_default.is in
    let out = set l.out (l.place - 1) c.label_in.result in
    sym
    (one_more (goal.at.returns-in_default c).After-parent_of
    ∙ ap (λ o. spelled_from a.labels.now b a.bits.len (l.place - 1) o out) top
    ∙ spelled_from-lost a.labels.now b a.bits.len (l.place - 1) out)

pub loop-place-preserved : goal.loop-place-preserved
loop-place-preserved c =
    let a = c.args in
    let l = c.loop-place in
    let b = bit a.bits.words.now in
    let there = rise-to b (bit-small a.bits.words.now) a.bits.len l.at l.invariant.0 _ c.parent_of.ensures _ c.in-Some.is in
    let out = set l.out (l.place - 1) c.label_in.result in (
      there.knows,
      one_more (goal.at.loop-place-preserved c).After-parent_of
          ∙ ap (λ o. spelled_from a.labels.now b a.bits.len (l.place - 1) o out) there.node,
    )

pub returns : goal.returns
returns c =
    let a = c.args in
    let l = c.loop-place in
    let done : l.place ≡ 0 = omega arith in
    sym
    (l.invariant.1
    ∙ ap (λ n. spelled_from a.labels.now (bit a.bits.words.now) a.bits.len n (Some l.at.node) l.out) done
    ∙ spelled_from-done a.labels.now (bit a.bits.words.now) a.bits.len (Some l.at.node) l.out)
