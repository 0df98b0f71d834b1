-- Sums of a function below a bound: each law is by induction on the bound, and says a sum by smaller ones.
--
--     sum_below-zero   the empty sum
--     sum_below-suc    the last summand, at `suc n`
--     sum_below-next   the same at `n + 1`
--     sum_below-first  the first summand
--     sum_below-add    a sum in two parts
--     sum_below-mono   more places, no less
--     sum_below-lt     the smaller sum has the fewer places
--     sum_below-ext    equal below the bound, equal sums
--     sum_below-none   zeros below the bound, no sum
--     in_list          the elements of a list, bits or degrees, by their places
--
-- Assumes nothing.
use mathlib.Core.Path.{◌≡◌, refl, sym, ap, ap₂, ◌∙◌}
use Prim.Native.Nat.{ℕ, zero, suc, ◌+◌, ◌≤◌, ◌<◌}
use native.Mathlib.Nat.{le_refl, le_trans, le-suc, lt-suc_self, lt_of_not-le, not-le_of_lt, le-add_right, add_comm, add-zero, add-suc, add_assoc}
use native.Mathlib.Decide.{le_ind}
use native.Mathlib.Numerals.{add-one}
use native.Mathlib.Omega.{arith}
use mathlib.Core.List.{List}
use lib.ListN.{get_or}
use Rattle.keymap.specs.Bits.{sum_below}

module _ (f : ℕ → ℕ) where
  pub sum_below-zero : sum_below f 0 ≡ 0
  unfolding sum_below
  sum_below-zero = refl

  pub sum_below-suc : (n : ℕ) → sum_below f (suc n) ≡ sum_below f n + f n
  unfolding sum_below
  sum_below-suc n = refl

  pub sum_below-next : (n : ℕ) → sum_below f (n + 1) ≡ sum_below f n + f n
  sum_below-next n = ap (sum_below f) (add-one n) ∙ sum_below-suc n

  pub sum_below-first : (n : ℕ) → sum_below f (suc n) ≡ f 0 + sum_below (λ j. f (suc j)) n
  unfolding sum_below
  sum_below-first zero = add_comm 0 (f 0)
  sum_below-first (suc n) = ap (λ (x : ℕ). x + f (suc n)) (sum_below-first n) ∙ add_assoc (f 0) (sum_below (λ j. f (suc j)) n) (f (suc n))

  pub sum_below-add : (a c : ℕ) → sum_below f (a + c) ≡ sum_below f a + sum_below (λ j. f (a + j)) c
  unfolding sum_below
  sum_below-add a zero = ap (sum_below f) (add-zero a) ∙ sym (add-zero (sum_below f a))
  sum_below-add a (suc c) =
      ap (sum_below f) (add-suc a c) ∙ ap (λ (x : ℕ). x + f (a + c)) (sum_below-add a c)
      ∙ add_assoc (sum_below f a) (sum_below (λ j. f (a + j)) c) (f (a + c))

  pub sum_below-mono : {i j : ℕ} → i ≤ j → sum_below f i ≤ sum_below f j
  unfolding sum_below
  sum_below-mono {i} {j} h =
      le_ind (λ (n : ℕ). sum_below f i ≤ sum_below f n) (le_refl (sum_below f i)) (λ n k e. le_trans e (le-add_right (sum_below f n) (f n))) j h

  pub sum_below-lt : (i j : ℕ) → sum_below f i < sum_below f j → i < j
  sum_below-lt i j l = lt_of_not-le (λ h. not-le_of_lt l (sum_below-mono h))

  pub sum_below-none : (n : ℕ) → ((j : ℕ) → j < n → f j ≡ 0) → sum_below f n ≡ 0
  unfolding sum_below
  sum_below-none zero h = refl
  sum_below-none (suc n) h = omega (arith, sum_below-none n (λ j l. h j (le_trans l (le-suc n))), h n (lt-suc_self n))

pub sum_below-ext : (f g : ℕ → ℕ) (n : ℕ) → ((j : ℕ) → j < n → f j ≡ g j) → sum_below f n ≡ sum_below g n
unfolding sum_below
sum_below-ext f g zero h = refl
sum_below-ext f g (suc n) h = ap₂ (λ (x y : ℕ). x + y) (sum_below-ext f g n (λ j l. h j (le_trans l (le-suc n)))) (h n (lt-suc_self n))

-- 0 behind its end
abbrev pub in_list : List ℕ → ℕ → ℕ
in_list xs i = get_or xs i 0
