use Rattle.std.specs.Prelude.{Option, Some}
use mathlib.Core.Path.{◌≡◌, sym, ap, ◌∙◌}
use Prim.Native.Nat.{◌+◌}
use native.Mathlib.Omega.{arith}
use lib.ListN.{drop}
use Rattle.keymap.specs.Bits.{bit}
use Rattle.walks.specs.declared.stands.Stand.{Stand}
use Rattle.walks.specs.Stands.{down_along}
use Rattle.walks.proofs.Laws.Stands.{down_along-next, down_along-over, down_along-lost}
use Rattle.descents.proofs.queries.go_on.Goals.{After-down}
use Rattle.descents.proofs.queries.go_on.Goals as goal

-- a step down, and what is left from there
next : (c : After-down) (t : Option Stand) → c.down.result ≡ t
    → let a = c.args in
    let l = c.loop-j in
    down_along a.labels.now (bit a.bits.words.now) a.bits.len (drop l.j a.query.now) (Some l.s)
    ≡ down_along a.labels.now (bit a.bits.words.now) a.bits.len (drop (l.j + 1) a.query.now) t
next c t e =
    let a = c.args in
    let l = c.loop-j in
    let b = bit a.bits.words.now in
    down_along-next a.labels.now b a.bits.len a.query.now l.j l.s (omega arith)
    ∙ ap (down_along a.labels.now b a.bits.len (drop (l.j + 1) a.query.now)) (sym c.down.ensures ∙ e)

pub returns-in_err-s : goal.returns-in_err-s
returns-in_err-s c =
    let a = c.args in
    let l = c.loop-j in
    c.from_residual.ensures
    ∙ sym (l.invariant ∙ next (goal.at.returns-in_err-s c).After-down _ c.in_err-s.was ∙ down_along-lost a.labels.now (bit a.bits.words.now) a.bits.len (drop (l.j + 1) a.query.now))

pub loop-j-preserved : goal.loop-j-preserved
loop-j-preserved c = c.loop-j.invariant ∙ next (goal.at.loop-j-preserved c).After-down _ c.in_ok-s.was

pub returns : goal.returns
returns c =
    let a = c.args in
    let l = c.loop-j in
    sym (l.invariant ∙ down_along-over a.labels.now (bit a.bits.words.now) a.bits.len a.query.now l.j (Some l.s) (omega (arith, c.loop-j-test.false)))
