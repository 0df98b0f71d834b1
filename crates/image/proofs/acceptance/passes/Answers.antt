-- `image::acceptance::passes` meets its contract: the count, the entries and the words each stop the pass, and together are it. Assumes nothing.
use mathlib.Core.Path.{sym, ◌∙◌}
use borrow.Author.Tests.{ne_eqb}
use Rattle.std.proofs.lemmas.Bool.{true≢false}
use Rattle.image.proofs.Laws.WordTest.{count-stop, entries-stop, words-pass}
use Rattle.image.proofs.acceptance.passes.Goals.{then-ones_before-n, else-ones_before-n}
use Rattle.image.proofs.acceptance.passes.Goals as goal

pub words_fit-requires : goal.words_fit-requires
words_fit-requires c =
    elim c.if-ones_before-n.branch [
      | then-ones_before-n w ↦ record { framed = c.requires.framed; ones = sym c.ones_before.ensures ∙ w.if-ones_before-n.true }
      | else-ones_before-n w ↦ absurd (true≢false (sym c.if-entries_fit.true ∙ w.value-is ∙ ne_eqb _ _ w.if-ones_before-n.false))
    ]

pub returns-then-entries_fit : goal.returns-then-entries_fit
returns-then-entries_fit c =
    let a = c.args in
    elim c.if-ones_before-n.branch [
      | then-ones_before-n w ↦ c.words_fit.ensures ∙ words-pass a.labels.now a.values.now a.words.now (record { framed = c.requires.framed; ones = sym c.ones_before.ensures ∙ w.if-ones_before-n.true }) (sym w.entries_fit.ensures ∙ sym w.value-is ∙ c.if-entries_fit.true)
      | else-ones_before-n w ↦ absurd (true≢false (sym c.if-entries_fit.true ∙ w.value-is ∙ ne_eqb _ _ w.if-ones_before-n.false))
    ]

pub returns-else-entries_fit : goal.returns-else-entries_fit
returns-else-entries_fit c =
    let a = c.args in
    c.if-entries_fit.false
    ∙ elim c.if-ones_before-n.branch [
      | then-ones_before-n w ↦ sym (entries-stop a.labels.now a.values.now a.words.now c.requires.framed (sym w.entries_fit.ensures ∙ sym w.value-is ∙ c.if-entries_fit.false))
      | else-ones_before-n w ↦ sym (count-stop a.labels.now a.values.now a.words.now c.requires.framed (λ e. w.if-ones_before-n.false (c.ones_before.ensures ∙ e)))
    ]
