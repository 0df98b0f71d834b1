use mathlib.Core.Path.{sym, ◌∙◌}
use native.Mathlib.Omega.{arith}
use native.Mathlib.Numerals.{add-one}
use Rattle.records.proofs.Laws.SoundTest.{pass-start, pass-more, pass-broken}
use Rattle.records.proofs.soundness.all_records.Goals as goal

pub returns-in_err-left : goal.returns-in_err-left
returns-in_err-left c = c.from_residual.ensures ∙ sym (pass-broken _ _ _ _ _ (omega arith) (pass-more _ _ _ _ _ _ c.loop-c.invariant (sym c.record_and_chain.ensures ∙ c.in_err-left.was)))

pub loop-c-preserved : goal.loop-c-preserved
loop-c-preserved c = rw add-one (pass-more _ _ _ _ _ _ c.loop-c.invariant (sym c.record_and_chain.ensures ∙ c.in_ok-left.was))

pub loop-c-init : goal.loop-c-init
loop-c-init c = pass-start _ _ _
