-- `image::build` meets its contract: at each return the tests that led there say which case of `build_says` holds, and where nothing refuses the two writers
-- leave what is to be left. Assumes nothing.
use Prim.Native.Nat.{◌≤◌}
use mathlib.Core.Path.{◌≡◌, refl, sym, ◌∙◌, ap}
use lib.ListN.{length}
use Rattle.keymap.specs.Bits.{words_for}
use Rattle.keymap.specs.Image.{bits_for}
use Rattle.records.specs.Sound.{Sound}
use Rattle.records.specs.Words.{used_count}
use Rattle.std.specs.Prelude.{Ok, Err}
use Rattle.std.proofs.Common.{rules}
use Rattle.keymap.specs.declared.refusals.Refusal.{Refusal}
use Rattle.records.proofs.Laws.SoundTest.{passed-test}
use Rattle.pool.proofs.Laws.Answers.{refused-not}
use Rattle.image.specs.Build.{said_built}
use Rattle.image.proofs.Laws.Build.{fit_all, says-refused, says-short, says-done, build-refused, build-done, tell-levels, told-labels, told-values}
use Rattle.image.proofs.build.Goals.{Else-not-buffers_fit}
use Rattle.image.proofs.build.Goals as goal

pub returns-in_err-check_sound : goal.returns-in_err-check_sound
returns-in_err-check_sound c =
    let e : c.from_residual.result ≡ Err c.in_err-check_sound.field-0.0 = search rules in
    let refused = says-refused _ _ _ _ _ _ (sym c.check_sound.ensures.answer ∙ c.in_err-check_sound.was) in
    let said = build-refused _ _ _ _ _ (Err c.in_err-check_sound.field-0.0) refused (refused-not _) in
    record { answer = ap said_built e ∙ said.0; labels = said.1.0; values = said.1.1.0; words = said.1.1.1.0; scratch = said.1.1.1.1 }

pub returns-then-not-buffers_fit : goal.returns-then-not-buffers_fit
returns-then-not-buffers_fit c =
    let said = build-refused _ _ _ _ _ (Err Refusal.OutTooSmall) (says-short _ _ _ _ _ _ c.used_count-n.ensures (passed-test _ (sym c.check_sound.ensures.answer ∙ c.in_ok-check_sound.was)).0 (passed-test _ (sym c.check_sound.ensures.answer ∙ c.in_ok-check_sound.was)).1 (sym c.buffers_fit.ensures ∙ c.if-not-buffers_fit.true)) refl in
    record { answer = said.0; labels = said.1.0; values = said.1.1.0; words = said.1.1.1.0; scratch = said.1.1.1.1 }

-- behind the tests: the pool is sound, the count is its own, and every buffer fits
granted : (c : Else-not-buffers_fit) →
    let a = c.args in
    let n = c.used_count-n.result in
    Sound a.pool.now × (n ≡ used_count a.pool.now) × (n ≤ length a.labels.now) × (n ≤ length a.values.now) × (words_for (bits_for n) ≤ length a.words.now) × (n ≤ length a.scratch.now)
granted c =
    let f = fit_all _ _ _ _ _ (sym c.buffers_fit.ensures ∙ c.if-not-buffers_fit.false) in
    (c.check_sound.ensures.meaning.0 c.in_ok-check_sound.was, c.used_count-n.ensures, f.0, f.1, f.2, f.3)

pub write_levels-requires : goal.write_levels-requires
write_levels-requires c = let g = granted (goal.at.write_levels-requires c).Else-not-buffers_fit in record { sound = g.0; count = g.1; words-fit = g.4; queue-fits = g.5 }

pub write_entries-requires : goal.write_entries-requires
write_entries-requires c =
    let g = granted (goal.at.write_entries-requires c).Else-not-buffers_fit in tell-levels _ g.0 _ g.1 _ _ c.write_levels.ensures.order g.5 _ _ g.2 g.3

pub returns : goal.returns
returns c =
    let g = granted (goal.at.returns c).Else-not-buffers_fit in
    let says = says-done _ _ _ _ _ _ g.1 (passed-test _ (sym c.check_sound.ensures.answer ∙ c.in_ok-check_sound.was)).0 (passed-test _ (sym c.check_sound.ensures.answer ∙ c.in_ok-check_sound.was)).1 (sym c.buffers_fit.ensures ∙ c.if-not-buffers_fit.false) in
    let d = build-done _ _ _ _ _ (Ok c.used_count-n.result) says refl in
    let l = c.write_levels.ensures in
    let w = c.write_entries.ensures in record { answer = d.0; labels = w.labels ∙ told-labels _ g.0 _ g.1 _ _ l.order g.5 _ ∙ d.1.0; values = w.values ∙ told-values _ g.0 _ g.1 _ _ l.order g.5 _ ∙ d.1.1.0; words = l.bits ∙ d.1.1.1.0; scratch = l.order ∙ d.1.1.1.1 }
