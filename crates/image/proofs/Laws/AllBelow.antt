-- Tests of all numbers below a bound.
--
--     both-ways, false-by, ..     two tests that are true together are equal, a test that cannot be true is false
--     and-true, -false, -made     two tests, by the second
--     all-zero, -suc, -next       by the bound
--     all_made, -told             each passes
--     all-stop                    one that does not pass
--     all-skip                    numbers that pass do not matter
-- Assumes nothing.
use mathlib.Core.Path.{◌≡◌, refl, sym, ap, ◌∙◌}
use mathlib.Core.Logic.{⊎_elim}
use Prim.Native.Nat.{ℕ, zero, suc, ◌+◌, ◌≤◌, ◌<◌}
use native.Mathlib.Nat.{eq-or-lt_of_le}
use native.Mathlib.Omega.{arith}
use mathlib.Core.Bool.{Bool, true, false, ◌&&◌}
use Rattle.image.specs.WordTest.{all_below}
use Rattle.image.proofs.Laws.BitTests.{both}

pub both_ways : (s t : Bool) → (s ≡ true → t ≡ true) → (t ≡ true → s ≡ true) → s ≡ t
both_ways true t f g = sym (f refl)
both_ways false true f g = g refl
both_ways false false f g = refl

pub and-true : (s t : Bool) → t ≡ true → (s && t) ≡ s
and-true true t h = h
and-true false t h = refl

pub and-false : (s t : Bool) → t ≡ false → (s && t) ≡ false
and-false true t h = h
and-false false t h = refl

pub and-made : (s t : Bool) → s ≡ true → t ≡ true → (s && t) ≡ true
and-made true t h k = k
and-made false t h k = h

pub not-both : (s : Bool) → s ≡ true → s ≡ false → ⊥
not-both s h k = let z : ◌≡◌ {A = ℕ} 0 1 = cc in omega arith

pub false-by : (s : Bool) → (s ≡ true → ⊥) → s ≡ false
false-by true h = absurd (h refl)
false-by false h = refl

module _ (f : ℕ → Bool) where
  pub all-zero : all_below f 0 ≡ true
  unfolding all_below
  all-zero = refl

  pub all-suc : (n : ℕ) → all_below f (suc n) ≡ (all_below f n && f n)
  unfolding all_below
  all-suc n = refl

  pub all-next : (n : ℕ) → all_below f (n + 1) ≡ (all_below f n && f n)
  all-next n = let e : n + 1 ≡ suc n = omega arith in ap (all_below f) e ∙ all-suc n

  pub all_made : (n : ℕ) → ((j : ℕ) → j < n → f j ≡ true) → all_below f n ≡ true
  all_made zero h = all-zero
  all_made (suc n) h = all-suc n ∙ and-made (all_below f n) (f n) (all_made n (λ j l. h j (omega arith))) (h n (omega arith))

  pub all_told : (n : ℕ) → all_below f n ≡ true → (j : ℕ) → j < n → f j ≡ true
  all_told zero h j l = absurd (omega arith)
  all_told (suc n) h j l =
      let (s, t) = both (all_below f n) (f n) (sym (all-suc n) ∙ h) in
      let less : j ≤ n = omega arith in
      ⊎_elim (λ e. ap f e ∙ t) (λ k. all_told n s j k) (eq-or-lt_of_le less)

  pub all-stop : (n j : ℕ) → j < n → f j ≡ false → all_below f n ≡ false
  all-stop zero j l h = absurd (omega arith)
  all-stop (suc n) j l h =
      let less : j ≤ n = omega arith in
      ⊎_elim (λ e. all-suc n ∙ and-false (all_below f n) (f n) (ap f (sym e) ∙ h)) (λ k. all-suc n ∙ ap (λ (s : Bool). s && f n) (all-stop n j k h)) (eq-or-lt_of_le less)

  pub all-skip : (k n : ℕ) → n ≤ k → ((j : ℕ) → n ≤ j → j < k → f j ≡ true) → all_below f k ≡ all_below f n
  all-skip zero n l h = let e : 0 ≡ n = omega arith in ap (all_below f) e
  all-skip (suc k) n l h =
      ⊎_elim
      (λ e. ap (all_below f) (sym e))
      (λ less.
      let le : n ≤ k = omega arith in
      all-suc k ∙ and-true (all_below f k) (f k) (h k le (omega arith)) ∙ all-skip k n le (λ j a b. h j a (omega arith)))
      (eq-or-lt_of_le l)
