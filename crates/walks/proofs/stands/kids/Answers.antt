-- `walks::stands::kids` meets its contract: the next zero lies behind the node's own. Assumes nothing.
use mathlib.Core.Path.{◌≡◌, sym, ◌∙◌}
use native.Mathlib.Omega.{arith}
use Rattle.keymap.specs.Bits.{bit}
use Rattle.walks.specs.Stands.{next_zero}
use Rattle.walks.proofs.Laws.Stands.{is_stand-told, next_zero-ahead}
use Rattle.walks.proofs.stands.kids.Goals as goal

pub overflow_sub-result-3 : goal.overflow_sub-result-3
overflow_sub-result-3 c =
    let a = c.args in
    let t = is_stand-told _ _ _ (sym c.is_stand.ensures ∙ c.if-not-is_stand.false) in
    let spot = c.zero_from.ensures in
    let found = c.unwrap_or-next.ensures in
    let next : c.unwrap_or-next.result ≡ next_zero (bit a.bits.words.now) a.bits.len a.s.zero = cc in
    omega (arith, next, next_zero-ahead (bit a.bits.words.now) a.bits.len a.s.zero t.0)
