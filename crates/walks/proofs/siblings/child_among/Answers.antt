use mathlib.Core.Path.{sym, ◌∙◌}
use native.Mathlib.Omega.{arith}
use Rattle.walks.proofs.Laws.Siblings.{among-start, among-here, among-past, among-end}
use Rattle.walks.proofs.siblings.child_among.Goals as goal

pub loop-at-init : goal.loop-at-init
loop-at-init c =
    let a = c.args in
    let inner = c.max.ensures in
    let outer = c.max-low.ensures in (
      omega (arith, inner, outer),
      omega (arith, inner, outer),
      among-start a.labels.now a.node a.label a.from a.to c.max-low.result c.min-at-end.result (omega (arith, inner, outer)) (omega (arith, inner, outer)) c.min-at-end.ensures,
    )

pub returns-then-entry_matches : goal.returns-then-entry_matches
returns-then-entry_matches c =
    let a = c.args in
    let l = c.loop-at in
    let high = c.min-at-end.result in
    sym
    (l.invariant.2
    ∙ among-here a.labels.now a.node a.label l.at high l.invariant.0 l.invariant.1 (omega arith) (omega (arith, c.min-at-end.ensures))
    (sym c.entry_matches.ensures ∙ c.if-entry_matches.true))

pub loop-at-preserved : goal.loop-at-preserved
loop-at-preserved c =
    let a = c.args in
    let l = c.loop-at in
    let high = c.min-at-end.result in (
      omega (arith, l.invariant.0),
      omega arith,
      l.invariant.2
          ∙ among-past a.labels.now a.node a.label l.at high l.invariant.0 l.invariant.1 (omega arith) (omega (arith, c.min-at-end.ensures))
          (sym c.entry_matches.ensures ∙ c.if-entry_matches.false),
    )

pub returns : goal.returns
returns c =
    let a = c.args in
    let l = c.loop-at in
    sym (l.invariant.2 ∙ among-end a.labels.now a.node a.label l.at c.min-at-end.result (omega arith))
