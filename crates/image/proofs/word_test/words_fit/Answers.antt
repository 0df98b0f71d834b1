use mathlib.Core.Path.{◌≡◌, sym, ap, ap₂, ◌∙◌}
use Prim.Native.Nat.{ℕ, ◌+◌, ◌-◌, ◌*◌}
use native.Mathlib.Omega.{arith}
use lib.ListN.{length, get_or}
use Rattle.keymap.specs.Bits.{bit}
use Rattle.keymap.specs.Image.{bits_for}
use Rattle.keymap.proofs.Laws.Bits.{bit-small}
use Rattle.keymap.proofs.Laws.Sums.{sum_below-zero}
use Rattle.louds.specs.Rank.{ones_before}
use Rattle.louds.proofs.Laws.Rank.{ones-zeros}
use Rattle.louds.proofs.Laws.Words.{ones-whole}
use Rattle.image.specs.WordTest.{all_below, word_fits, word_at}
use Rattle.image.proofs.Laws.AllBelow.{all-zero, all-next, all-stop, and-made}
use Rattle.image.proofs.Laws.WordTest.{at-inside, word-inside, last_before-first, last_before-next, word_at-is}
use Rattle.image.proofs.word_test.words_fit.Goals.{After-ones_in-before, After-word_fits}
use Rattle.image.proofs.word_test.words_fit.Goals as goal

pub overflow_mul-len : goal.overflow_mul-len
overflow_mul-len c = omega (arith, c.requires.framed.few)

pub overflow_add-len : goal.overflow_add-len
overflow_add-len c = omega (arith, c.requires.framed.few)

pub loop-w-init : goal.loop-w-init
loop-w-init c =
    let a = c.args in
    (sym (sum_below-zero (bit a.words.now)), sym (last_before-first a.words.now), all-zero (word_at a.labels.now a.words.now))

pub overflow_mul-at : goal.overflow_mul-at
overflow_mul-at c =
    omega (arith, at-inside c.args.labels.now c.args.words.now c.requires c.loop-w.w c.loop-w-test.true, c.requires.framed.few)

pub overflow_sub-len : goal.overflow_sub-len
overflow_sub-len c =
    at-inside c.args.labels.now c.args.words.now c.requires c.loop-w.w c.loop-w-test.true

pub word_fits-requires : goal.word_fits-requires
word_fits-requires c =
    let a = c.args in
    let l = c.loop-w in
    let inside = word-inside a.labels.now a.words.now c.requires l.w c.loop-w-test.true in
    rw (l.invariant.0, l.invariant.1) inside

-- what `word_fits` says
said : (c : After-word_fits)
    → c.word_fits.result ≡ word_at c.args.labels.now c.args.words.now c.loop-w.w
said c =
    let a = c.args in
    let l = c.loop-w in
    c.word_fits.ensures
    ∙ ap₂ (λ (u v : ℕ). word_fits a.labels.now (get_or a.words.now l.w 0) v (l.w * 64) u (bits_for (length a.labels.now) - l.w * 64)) l.invariant.0 l.invariant.1
    ∙ sym (word_at-is a.labels.now a.words.now l.w)

pub returns-then-not-word_fits : goal.returns-then-not-word_fits
returns-then-not-word_fits c =
    let a = c.args in
    let l = c.loop-w in
    sym (all-stop (word_at a.labels.now a.words.now) (length a.words.now) l.w c.loop-w-test.true (sym (said (goal.at.returns-then-not-word_fits c).After-word_fits) ∙ c.if-not-word_fits.true))

-- the ones before the next word
step : (c : After-ones_in-before)
    → c.loop-w.before + c.ones_in-before.result ≡ ones_before (bit c.args.words.now) ((c.loop-w.w + 1) * 64)
step c =
    let l = c.loop-w in
    ap₂ (λ (u v : ℕ). u + v) l.invariant.0 c.ones_in-before.ensures ∙ sym (ones-whole c.args.words.now l.w (c.requires.framed.wide l.w))

pub overflow_add-before : goal.overflow_add-before
overflow_add-before c =
    let l = c.loop-w in
    let ws = c.args.words.now in
    omega (
      arith,
      step c,
      ones-zeros (bit ws) (bit-small ws) ((l.w + 1) * 64),
      at-inside c.args.labels.now ws c.requires l.w c.loop-w-test.true,
      c.requires.framed.few,
    )

pub loop-w-preserved : goal.loop-w-preserved
loop-w-preserved c =
    let a = c.args in
    let l = c.loop-w in (
      step c,
      sym (last_before-next a.words.now l.w),
      all-next (word_at a.labels.now a.words.now) l.w
          ∙ and-made (all_below (word_at a.labels.now a.words.now) l.w) (word_at a.labels.now a.words.now l.w) l.invariant.2 (sym (said (goal.at.loop-w-preserved c).After-word_fits) ∙ c.if-not-word_fits.false),
    )

pub returns : goal.returns
returns c =
    let a = c.args in
    let l = c.loop-w in
    let done : length a.words.now ≡ l.w = omega arith in
    sym (ap (all_below (word_at a.labels.now a.words.now)) done ∙ l.invariant.2)
