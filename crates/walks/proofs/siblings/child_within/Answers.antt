-- `walks::siblings::child_within` meets its contract: the first that counts is looked at, and then the others. Assumes nothing.
use mathlib.Core.Path.{◌≡◌, sym, ◌∙◌}
use Prim.Native.Nat.{◌+◌, ◌-◌}
use native.Mathlib.Omega.{arith}
use Rattle.walks.specs.Rule.{lowest_by}
use Rattle.walks.proofs.Laws.Siblings.{among-start, among-here, among-past, among-end}
use Rattle.walks.proofs.siblings.child_within.Goals.{After-max-low}
use Rattle.walks.proofs.siblings.child_within.Goals as goal

-- those that count, by the two bounds
counted : (c : After-max-low)
    → lowest_by c.args.labels.now c.args.node (c.args.to - c.args.from) (c.args.from + 1) c.args.label
    ≡ lowest_by c.args.labels.now c.args.node (c.min-end.result - c.max-low.result) (c.max-low.result + 1) c.args.label
counted c =
    let a = c.args in
    let low = c.max-low.ensures in
    among-start a.labels.now a.node a.label a.from a.to c.max-low.result c.min-end.result (omega (arith, low)) (omega (arith, low)) c.min-end.ensures

pub returns-then-end-low : goal.returns-then-end-low
returns-then-end-low c =
    let a = c.args in
    sym (counted (goal.at.returns-then-end-low c).After-max-low ∙ among-end a.labels.now a.node a.label c.max-low.result c.min-end.result (omega arith))

pub returns-then-entry_matches : goal.returns-then-entry_matches
returns-then-entry_matches c =
    let a = c.args in
    sym
    (counted (goal.at.returns-then-entry_matches c).After-max-low
    ∙ among-here a.labels.now a.node a.label c.max-low.result c.min-end.result (omega (arith, c.max-low.ensures)) (omega (arith, c.max-low.ensures, c.if-node-eq0.false)) (omega (arith, c.if-end-low.false)) (omega (arith, c.min-end.ensures))
    (sym c.entry_matches.ensures ∙ c.if-entry_matches.true))

pub returns : goal.returns
returns c =
    let a = c.args in
    c.child_among-2.ensures
    ∙ sym
    (counted (goal.at.returns c).After-max-low
    ∙ among-past a.labels.now a.node a.label c.max-low.result c.min-end.result (omega (arith, c.max-low.ensures)) (omega (arith, c.max-low.ensures, c.if-node-eq0.false)) (omega (arith, c.if-end-low.false)) (omega (arith, c.min-end.ensures))
    (sym c.entry_matches.ensures ∙ c.if-entry_matches.false))
