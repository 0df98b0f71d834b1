-- Lists of numbers with no number twice, and the pigeonhole: taking one number out of a list and counting what is left shows that n of them from 1 to n are all.
--
--     Once                                   no number stands twice
--     Within                                 all are from 1 to n
--     once-at-most                           distinct numbers from 1 to n are at most n
--     cover-at-least                         a list with all of 1 to n is at least n long
--     once-covers                            n distinct numbers from 1 to n are all of them
--     equal_or_not, below_or_not, in-or-not  the cases to go by
-- Assumes nothing.
use Prim.Native.Nat.{ℕ, zero, suc, ◌+◌, ◌≤◌, ◌<◌}
use mathlib.Core.Path.{◌≡◌, refl, sym, ◌∙◌, subst}
use mathlib.Core.Bool.{Bool, true, false, cond}
use mathlib.Core.List.{List, [], ◌∷◌, ◌++◌}
use mathlib.Core.Logic.{◌⊎◌, inl, inr, ⊎_elim}
use lib.Dec.{eqb, ltb}
use lib.ListN.{length}
use borrow.Author.Tests.{eqb-true, eqb-false, ltb-true, ltb-false}
use native.Mathlib.Omega.{arith}
use Rattle.records.specs.Sound.{Among}

abbrev pub Once : List ℕ → Type 0
Once [] = Unit {0}
Once (x ∷ xs) = (Among x xs → ⊥) × Once xs

abbrev pub Within : ℕ → List ℕ → Type 0
Within n xs = (c : ℕ) → Among c xs → (0 < c) × (c ≤ n)

pub equal_or_not : (a b : ℕ) → (a ≡ b) ⊎ (a ≡ b → ⊥)
equal_or_not a b = go (eqb a b) refl
  where
    go : (t : Bool) → eqb a b ≡ t → (a ≡ b) ⊎ (a ≡ b → ⊥)
    go true e = inl (eqb-true a b e)
    go false e = inr (eqb-false a b e)

pub below_or_not : (a b : ℕ) → (a < b) ⊎ (b ≤ a)
below_or_not a b = go (ltb a b) refl
  where
    go : (t : Bool) → ltb a b ≡ t → (a < b) ⊎ (b ≤ a)
    go true e = inl (ltb-true a b e)
    go false e = inr (ltb-false a b e)

pub in-or-not : (c : ℕ) (xs : List ℕ) → Among c xs ⊎ (Among c xs → ⊥)
in-or-not c [] = inr (λ h. h)
in-or-not c (x ∷ xs) = ⊎_elim (λ e. inl (inl e)) (λ ne. ⊎_elim (λ h. inl (inr h)) (λ nh. inr (λ m. ⊎_elim ne nh m)) (in-or-not c xs)) (equal_or_not c x)

pub in-append : (c : ℕ) (xs ys : List ℕ) → Among c (xs ++ ys) → Among c xs ⊎ Among c ys
in-append c [] ys h = inr h
in-append c (x ∷ xs) ys (inl e) = inl (inl e)
in-append c (x ∷ xs) ys (inr h) = ⊎_elim (λ a. inl (inr a)) (λ b. inr b) (in-append c xs ys h)

pub in_left : (c : ℕ) (xs ys : List ℕ) → Among c xs → Among c (xs ++ ys)
in_left c [] ys h = absurd h
in_left c (x ∷ xs) ys (inl e) = inl e
in_left c (x ∷ xs) ys (inr h) = inr (in_left c xs ys h)

pub in_right : (c : ℕ) (xs ys : List ℕ) → Among c ys → Among c (xs ++ ys)
in_right c [] ys h = h
in_right c (x ∷ xs) ys h = inr (in_right c xs ys h)

pub once-append : (xs ys : List ℕ) → Once xs → Once ys → ((c : ℕ) → Among c xs → Among c ys → ⊥) → Once (xs ++ ys)
once-append [] ys a b d = b
once-append (x ∷ xs) ys a b d =
    ((λ h. ⊎_elim a.0 (λ y. d x (inl refl) y) (in-append x xs ys h)), once-append xs ys a.1 b (λ c h. d c (inr h)))

-- the list without m
abbrev without : ℕ → List ℕ → List ℕ
without m [] = []
without m (x ∷ xs) = cond (eqb x m) (without m xs) (x ∷ without m xs)

unless-in : (t : Bool) (c x : ℕ) (xs : List ℕ) → Among c (cond t xs (x ∷ xs)) → ((t ≡ false) × (c ≡ x)) ⊎ Among c xs
unless-in true c x xs h = inr h
unless-in false c x xs (inl e) = inl (refl, e)
unless-in false c x xs (inr h) = inr h

without_in : (m c : ℕ) (xs : List ℕ) → Among c (without m xs) → Among c xs × (c ≡ m → ⊥)
without_in m c [] h = absurd h
without_in m c (x ∷ xs) h = ⊎_elim (λ w. (inl w.1, λ e. eqb-false x m w.0 (sym w.1 ∙ e))) (λ t. let r = without_in m c xs t in (inr r.0, r.1)) (unless-in (eqb x m) c x (without m xs) h)

in_without : (m c : ℕ) (xs : List ℕ) → Among c xs → (c ≡ m → ⊥) → Among c (without m xs)
in_without m c [] h ne = absurd h
in_without m c (x ∷ xs) h ne = go (eqb x m) refl h (λ q. in_without m c xs q ne)
  where
    go : (t : Bool) → eqb x m ≡ t → (c ≡ x) ⊎ Among c xs → (Among c xs → Among c (without m xs)) → Among c (cond t (without m xs) (x ∷ without m xs))
    go true e (inl q) ih = absurd (ne (q ∙ eqb-true x m e))
    go true e (inr q) ih = ih q
    go false e (inl q) ih = inl q
    go false e (inr q) ih = inr (ih q)

unless-once : (t : Bool) (x : ℕ) (xs : List ℕ) → (Among x xs → ⊥) → Once xs → Once (cond t xs (x ∷ xs))
unless-once true x xs a d = d
unless-once false x xs a d = (a, d)

without-once : (m : ℕ) (xs : List ℕ) → Once xs → Once (without m xs)
without-once m [] d = d
without-once m (x ∷ xs) d = unless-once (eqb x m) x (without m xs) (λ h. d.0 (without_in m x xs h).0) (without-once m xs d.1)

-- at most one is lost, and where m is there one is
without-absent : (m : ℕ) (xs : List ℕ) → (Among m xs → ⊥) → length xs ≤ length (without m xs)
without-absent m [] a = omega arith
without-absent m (x ∷ xs) a = go (eqb x m) refl (without-absent m xs (λ h. a (inr h)))
  where
    go : (t : Bool) → eqb x m ≡ t → length xs ≤ length (without m xs) → suc (length xs) ≤ length (cond t (without m xs) (x ∷ without m xs))
    go true e r = absurd (a (inl (sym (eqb-true x m e))))
    go false e r = omega arith

without-most : (m : ℕ) (xs : List ℕ) → Once xs → length xs ≤ length (without m xs) + 1
without-most m [] d = omega arith
without-most m (x ∷ xs) d = go (eqb x m) refl (without-most m xs d.1)
  where
    go : (t : Bool) → eqb x m ≡ t → length xs ≤ length (without m xs) + 1 → suc (length xs) ≤ length (cond t (without m xs) (x ∷ without m xs)) + 1
    go true e r =
        let q : length xs ≤ length (without m xs) = without-absent m xs (λ h. d.0 (subst (λ (k : ℕ). Among k xs) (sym (eqb-true x m e)) h)) in
        omega arith
    go false e r = omega arith

unless-at-most : (t : Bool) (x : ℕ) (xs : List ℕ) → length (cond t xs (x ∷ xs)) ≤ suc (length xs)
unless-at-most true x xs = omega arith
unless-at-most false x xs = omega arith

without-at-most : (m : ℕ) (xs : List ℕ) → length (without m xs) ≤ length xs
without-at-most m [] = omega arith
without-at-most m (x ∷ xs) = omega (arith, unless-at-most (eqb x m) x (without m xs), without-at-most m xs)

without-less : (m : ℕ) (xs : List ℕ) → Among m xs → length (without m xs) + 1 ≤ length xs
without-less m [] h = absurd h
without-less m (x ∷ xs) h = go (eqb x m) refl h (without-less m xs)
  where
    go : (t : Bool) → eqb x m ≡ t → (m ≡ x) ⊎ Among m xs → (Among m xs → length (without m xs) + 1 ≤ length xs) → length (cond t (without m xs) (x ∷ without m xs)) + 1 ≤ suc (length xs)
    go true e q ih = omega (arith, without-at-most m xs)
    go false e (inl q) ih = absurd (eqb-false x m e (sym q))
    go false e (inr q) ih = omega (arith, ih q)

pub once-at-most : (n : ℕ) (xs : List ℕ) → Once xs → Within n xs → length xs ≤ n
once-at-most zero [] d w = omega arith
once-at-most zero (x ∷ xs) d w = let h = w x (inl refl) in absurd (omega arith)
once-at-most (suc n) xs d w =
    let a : length xs ≤ length (without (suc n) xs) + 1 = without-most (suc n) xs d in
    let b : length (without (suc n) xs) ≤ n = once-at-most n (without (suc n) xs) (without-once (suc n) xs d) inside in
    omega arith
  where
    inside : (c : ℕ) → Among c (without (suc n) xs) → (0 < c) × (c ≤ n)
    inside c h =
        let r = without_in (suc n) c xs h in
        let q = w c r.0 in
        (q.0, omega (arith, r.1))

pub cover-at-least : (n : ℕ) (xs : List ℕ) → ((c : ℕ) → 0 < c → c ≤ n → Among c xs) → n ≤ length xs
cover-at-least zero xs a = omega arith
cover-at-least (suc n) xs a =
    let l : length (without (suc n) xs) + 1 ≤ length xs = without-less (suc n) xs (a (suc n) (omega arith) (omega arith)) in
    let r : n ≤ length (without (suc n) xs) = cover-at-least n (without (suc n) xs) (λ c p q. in_without (suc n) c xs (a c p (omega arith)) (λ e. omega arith)) in
    omega arith

pub once-covers : (n : ℕ) (xs : List ℕ) → Once xs → Within n xs → n ≤ length xs → (c : ℕ) → 0 < c → c ≤ n → Among c xs
once-covers n xs d w l c p q =
    ⊎_elim (λ h. h) (λ nh. let r : suc (length xs) ≤ n = once-at-most n (c ∷ xs) (nh, d) (more nh) in absurd (omega arith)) (in-or-not c xs)
  where
    more : (Among c xs → ⊥) → (x : ℕ) → (x ≡ c) ⊎ Among x xs → (0 < x) × (x ≤ n)
    more nh x (inl e) = (omega arith, omega arith)
    more nh x (inr h) = w x h
