-- `pool::push` meets its contract: a refusal of the pool is the call's, and a sound pool is pushed into. Assumes nothing.
use mathlib.Core.Path.{◌≡◌, sym, ◌∙◌, ap}
use Rattle.std.proofs.Common.{rules}
use Rattle.std.specs.Prelude.{Err}
use Rattle.records.proofs.Laws.SoundTest.{passed-test}
use Rattle.pool.specs.Answers.{said_pushed}
use Rattle.pool.proofs.Laws.Push.{push-unchecked, push-tested, push-left}
use Rattle.pool.proofs.push.Goals as goal

pub returns-in_err-check_sound : goal.returns-in_err-check_sound
returns-in_err-check_sound c =
    let e : c.from_residual.result ≡ Err c.in_err-check_sound.field-0.0 = search rules in
    let d = push-unchecked _ _ c.args.value _ (sym c.check_sound.ensures.answer ∙ c.in_err-check_sound.was) in
    record { answer = ap said_pushed e ∙ d.0; left = d.1 }

pub returns : goal.returns
returns c =
    let t = passed-test _ (sym c.check_sound.ensures.answer ∙ c.in_ok-check_sound.was) in
    let e = push-tested _ c.args.key.now t.0 t.1 in
    record { answer = c.push_tested.ensures.answer ∙ e; left = push-left _ _ _ _ e c.push_tested.ensures.left }
