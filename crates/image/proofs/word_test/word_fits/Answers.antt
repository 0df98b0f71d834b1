-- `image::word_test::word_fits` meets its contract: at each return the tests that led there say which case of `word_fits` holds. Assumes nothing.
use mathlib.Core.Path.{◌≡◌, sym, ap, ◌∙◌, subst}
use Prim.Native.Nat.{ℕ, ◌-◌}
use lib.ListN.{length}
use Rattle.keymap.specs.Limits.{word_bits}
use Rattle.louds.specs.Digits.{complement}
use Rattle.louds.proofs.Laws.Words.{one-shl-pos, masked}
use Rattle.image.specs.WordTest.{all_below, leaf_at, zeros_of, prev_of, LeavesInside}
use Rattle.image.proofs.Laws.WordTest.{zeros_of-part, zeros_of-whole, word_fits-parents, word_fits-siblings, word_fits-leaves}
use Rattle.image.proofs.word_test.word_fits.Goals.{Joined-left-lt-WORD_BITS, then-left-lt-WORD_BITS, else-left-lt-WORD_BITS}
use Rattle.image.proofs.word_test.word_fits.Goals as goal

pub parents_fit-requires : goal.parents_fit-requires
parents_fit-requires c = c.requires.few

pub returns-then-not-parents_fit : goal.returns-then-not-parents_fit
returns-then-not-parents_fit c =
    let a = c.args in
    sym (word_fits-parents a.labels.now a.x a.last a.at a.before a.left (sym c.parents_fit.ensures ∙ c.if-not-parents_fit.true))

pub siblings_fit-requires : goal.siblings_fit-requires
siblings_fit-requires c = c.requires.siblings

pub returns-then-not-siblings_fit : goal.returns-then-not-siblings_fit
returns-then-not-siblings_fit c =
    let a = c.args in
    sym (word_fits-siblings a.labels.now a.x a.last a.at a.before a.left (sym c.parents_fit.ensures ∙ c.if-not-parents_fit.false)
    (sym c.siblings_fit.ensures ∙ c.if-not-siblings_fit.true))

pub overflow_sub-zeros : goal.overflow_sub-zeros
overflow_sub-zeros c =
    one-shl-pos c.args.left c.if-left-lt-WORD_BITS.true

-- the zeros of the sequence
zeros-are : (c : Joined-left-lt-WORD_BITS) → c.if-left-lt-WORD_BITS.zeros ≡ zeros_of c.args.x c.args.left
zeros-are c =
    let a = c.args in
    elim c.if-left-lt-WORD_BITS.branch [
      | then-left-lt-WORD_BITS t ↦ t.zeros-is ∙ masked (complement a.x) a.left t.if-left-lt-WORD_BITS.true ∙ sym (zeros_of-part a.x a.left t.if-left-lt-WORD_BITS.true)
      | else-left-lt-WORD_BITS t ↦ t.zeros-is ∙ sym (zeros_of-whole a.x a.left t.if-left-lt-WORD_BITS.false)
    ]

pub overflow_sub-at : goal.overflow_sub-at
overflow_sub-at c =
    c.requires.behind

pub leaves_fit-requires : goal.leaves_fit-requires
leaves_fit-requires c =
    subst (λ (z : ℕ). LeavesInside (length c.args.labels.now) z (c.args.at - c.args.before)) (sym (zeros-are c)) c.requires.leaves

pub returns : goal.returns
returns c =
    let a = c.args in
    c.leaves_fit.ensures
    ∙ ap (λ (z : ℕ). all_below (leaf_at a.labels.now z (complement (prev_of a.x a.last)) (a.at - a.before)) word_bits) (zeros-are (goal.at.returns c).Joined-left-lt-WORD_BITS)
    ∙ sym (word_fits-leaves a.labels.now a.x a.last a.at a.before a.left (sym c.parents_fit.ensures ∙ c.if-not-parents_fit.false)
    (sym c.siblings_fit.ensures ∙ c.if-not-siblings_fit.false))
