-- Membership in lists that are joined and mapped, order in them, and the length of a list without repeats: where each of its elements is one of another list's,
-- that list is at least as long, since taking an element out of both leaves as much.
--
--     in_map           what a mapped list has
--     get_or-in        what stands at an index
--     ordered-get_or   elements stand as their indexes do
--     ordered-one      two lists in one order that have the same elements are one list
--     ordered-append   two ordered lists make one, if the first stands before the second
--     distinct-same    two lists without repeats that have the same elements are equally long
--
-- Assumes nothing.
use mathlib.Core.Path.{◌≡◌, refl, sym, ap, ◌∙◌, subst}
use mathlib.Core.Logic.{◌↔◌, ◌⊎◌, inl, inr, ⊎_elim}
use Prim.Native.Nat.{ℕ, zero, suc, ◌≤◌, ◌<◌}
use native.Mathlib.Nat.{le_of_suc-le-suc}
use native.Mathlib.Omega.{arith}
use mathlib.Core.List.Memᴰ
use mathlib.Core.List.{List, [], ◌∷◌, ◌++◌, map}
use Rattle.std.specs.Prelude.{None, Some}
use Rattle.std.proofs.lemmas.Option.{none-some, same_Some}
use lib.ListN.{length, get_or, length-append}
use Rattle.keymap.specs.Members.{In, here, there, Ordered, Distinct, head_of}

module _ {A B : Type 0} (f : A → B) where
  in-map-from : {y : B} (xs : List A) → In y (map f xs) → (x : A) × In x xs × (y ≡ f x)
  in-map-from [] h = absurd (Memᴰ.not-nil h)
  in-map-from {y} (x ∷ xs) h = go (λ k. in-map-from xs k) (Memᴰ.cases_cons h)
    where
      go : (In y (map f xs) → (z : A) × In z xs × (y ≡ f z)) → (y ≡ f x) ⊎ In y (map f xs) → (z : A) × In z (x ∷ xs) × (y ≡ f z)
      go ih (inl e) = (x, here refl, e)
      go ih (inr k) = let (z, i, e) = ih k in (z, there i, e)

  in-map-to : {x : A} {xs : List A} → In x xs → In (f x) (map f xs)
  in-map-to (here e) = here (ap f e)
  in-map-to (there h) = there (in-map-to h)

  pub in_map : (y : B) (xs : List A) → In y (map f xs) ↔ ((x : A) × In x xs × (y ≡ f x))
  in_map y xs = (in-map-from xs, λ h. Memᴰ.cast h.2 (in-map-to h.1))

module _ {A : Type 0} where
  pub head_in : {x : A} (xs : List A) → head_of xs ≡ Some x → In x xs
  head_in {x} [] e = absurd (none-some x e)
  head_in {x} (y ∷ xs) e = here (sym (same_Some y x e))

  pub head-none : (xs : List A) → head_of xs ≡ None → xs ≡ []
  head-none [] e = refl
  head-none (x ∷ xs) e = absurd (none-some x (sym e))

  -- the head stands before all others
  pub head-before : (R : A → A → Type 0) {x : A} (xs : List A) → Ordered R xs → head_of xs ≡ Some x → (y : A) → In y xs → (y ≡ x) ⊎ R x y
  head-before R {x} [] o e y i = absurd (Memᴰ.not-nil i)
  head-before R {x} (z ∷ xs) o e y i =
      let s : z ≡ x = same_Some z x e in
      ⊎_elim (λ t. inl (t ∙ s)) (λ j. inr (rw s at (o.0 y j))) (Memᴰ.cases_cons i)

  -- what stands at an index of a list is one of it
  pub get_or-in : (d : A) (xs : List A) (i : ℕ) → i < length xs → In (get_or xs i d) xs
  get_or-in d [] i h = absurd (omega arith)
  get_or-in d (x ∷ xs) zero h = here refl
  get_or-in d (x ∷ xs) (suc i) h = there (get_or-in d xs i (le_of_suc-le-suc h))

  pub members-none : (xs : List A) → ((x : A) → ¬ In x xs) → xs ≡ []
  members-none [] h = refl
  members-none (x ∷ xs) h = absurd (h x (here refl))

  -- what stands before an element, and what stands behind it
  in_split : {x : A} {ys : List A} → In x ys → (s t : List A) × (ys ≡ s ++ (x ∷ t))
  in_split (here {xs = ys} e) = ([], ys, ap (λ z. z ∷ ys) (sym e))
  in_split (there {x = y} h) = let (s, t, e) = in_split h in (y ∷ s, t, ap (λ zs. y ∷ zs) e)

  -- to be one of a list with x in it is to be x or one of the others
  in-middle : {x y : A} (s t : List A) → In y (s ++ (x ∷ t)) → (y ≡ x) ⊎ In y (s ++ t)
  in-middle {x} {y} s t h = go (Memᴰ.append_cases s h)
    where
      back : (y ≡ x) ⊎ In y t → (y ≡ x) ⊎ In y (s ++ t)
      back (inl e) = inl e
      back (inr k) = inr (Memᴰ.append_right s k)

      go : In y s ⊎ In y (x ∷ t) → (y ≡ x) ⊎ In y (s ++ t)
      go (inl k) = inr (Memᴰ.append_left t k)
      go (inr k) = back (Memᴰ.cases_cons k)

  distinct-length : (xs ys : List A) → Distinct xs → ((x : A) → In x xs → In x ys) → length xs ≤ length ys
  distinct-length [] ys d h = omega arith
  distinct-length (x ∷ xs) ys d h =
      let (s, t, e) = in_split (h x (here refl)) in
      let rest : (y : A) → In y xs → In y (s ++ t) = λ y k. ⊎_elim (λ p. absurd (d.0 y k (sym p))) (λ j. j) (in-middle s t (rw e at (h y (there k)))) in
      let shorter : length xs ≤ length (s ++ t) = distinct-length xs (s ++ t) d.1 rest in
      omega (arith, ap length e, length-append s t, length-append s (x ∷ t))

  pub distinct-same : (xs ys : List A) → Distinct xs → Distinct ys → ((x : A) → In x xs ↔ In x ys) → length xs ≡ length ys
  distinct-same xs ys d c h = omega (arith, distinct-length xs ys d (λ x. (h x).0), distinct-length ys xs c (λ x. (h x).1))

  module _ (R : A → A → Type 0) where
    ordered-join : (xs ys : List A) → Ordered R xs → Ordered R ys → ((x y : A) → In x xs → In y ys → R x y) → Ordered R (xs ++ ys)
    ordered-join [] ys p q h = q
    ordered-join (x ∷ xs) ys p q h =
        (λ y i. ⊎_elim (λ j. p.0 y j) (λ j. h x y (here refl) j) (Memᴰ.append_cases xs i), ordered-join xs ys p.1 q (λ z y i j. h z y (there i) j))

    ordered-left : (xs ys : List A) → Ordered R (xs ++ ys) → Ordered R xs
    ordered-left [] ys o = tt
    ordered-left (x ∷ xs) ys o = (λ y i. o.0 y (Memᴰ.append_left ys i), ordered-left xs ys o.1)

    ordered-right : (xs ys : List A) → Ordered R (xs ++ ys) → Ordered R ys
    ordered-right [] ys o = o
    ordered-right (x ∷ xs) ys o = ordered-right xs ys o.1

    ordered-apart : (xs ys : List A) → Ordered R (xs ++ ys) → (x y : A) → In x xs → In y ys → R x y
    ordered-apart [] ys o x y i j = absurd (Memᴰ.not-nil i)
    ordered-apart (z ∷ xs) ys o x y i j = ⊎_elim (λ e. rw e (o.0 y (Memᴰ.append_right xs j))) (λ k. ordered-apart xs ys o.1 x y k j) (Memᴰ.cases_cons i)

    pub ordered-append : (xs ys : List A) → Ordered R (xs ++ ys) ↔ (Ordered R xs × Ordered R ys × ((x y : A) → In x xs → In y ys → R x y))
    ordered-append xs ys =
        (λ o. (ordered-left xs ys o, ordered-right xs ys o, ordered-apart xs ys o), λ p. ordered-join xs ys p.0 p.1 p.2)

  -- two lists in the order of one relation that have the same elements are one list
  pub ordered-one : (R : A → A → Type 0) → ((x y : A) → R x y → ¬ R y x) → (xs ys : List A) → Ordered R xs → Ordered R ys → ((x : A) → In x xs ↔ In x ys) → xs ≡ ys
  ordered-one R away [] [] o p h = refl
  ordered-one R away [] (y ∷ ys) o p h = absurd (Memᴰ.not-nil ((h y).1 (here refl)))
  ordered-one R away (x ∷ xs) [] o p h = absurd (Memᴰ.not-nil ((h x).0 (here refl)))
  ordered-one R away (x ∷ xs) (y ∷ ys) o p h =
      let rest : xs ≡ ys = ordered-one R away xs ys o.1 p.1 (λ z. (from z, to z)) in
      λ j. first j ∷ rest j
    where
      self : (z : A) → ¬ R z z
      self z r = away z z r r

      first : x ≡ y
      first = ⊎_elim (λ e. e) (λ i. ⊎_elim (λ e. sym e) (λ j. absurd (away x y (o.0 y j) (p.0 x i))) (Memᴰ.cases_cons ((h y).1 (here refl)))) (Memᴰ.cases_cons ((h x).0 (here refl)))

      from : (z : A) → In z xs → In z ys
      from z i = ⊎_elim (λ e. absurd (self x (subst (λ (t : A). R x t) (e ∙ sym first) (o.0 z i)))) (λ j. j) (Memᴰ.cases_cons ((h z).0 (there i)))

      to : (z : A) → In z ys → In z xs
      to z i = ⊎_elim (λ e. absurd (self y (subst (λ (t : A). R y t) (e ∙ first) (p.0 z i)))) (λ j. j) (Memᴰ.cases_cons ((h z).1 (there i)))

  -- elements stand as their indexes do
  pub ordered-get_or : (R : A → A → Type 0) (d : A) (xs : List A) → Ordered R xs → (i j : ℕ) → i < j → j < length xs → R (get_or xs i d) (get_or xs j d)
  ordered-get_or R d [] o i j l h = absurd (omega arith)
  ordered-get_or R d (x ∷ xs) o i zero l h = absurd (omega arith)
  ordered-get_or R d (x ∷ xs) o zero (suc j) l h = o.0 (get_or xs j d) (get_or-in d xs j (le_of_suc-le-suc h))
  ordered-get_or R d (x ∷ xs) o (suc i) (suc j) l h = ordered-get_or R d xs o.1 i j (le_of_suc-le-suc l) (le_of_suc-le-suc h)

  pub ordered-weak : {R S : A → A → Type 0} (xs : List A) → ((x y : A) → In x xs → In y xs → R x y → S x y) → Ordered R xs → Ordered S xs
  ordered-weak [] w o = tt
  ordered-weak (x ∷ xs) w o = (λ y i. w x y (here refl) (there i) (o.0 y i), ordered-weak xs (λ y z i j. w y z (there i) (there j)) o.1)

pub ordered-map : {A B : Type 0} (R : A → A → Type 0) (S : B → B → Type 0) (f : A → B) → ((x y : A) → R x y → S (f x) (f y)) → (xs : List A) → Ordered R xs → Ordered S (map f xs)
ordered-map R S f w [] o = tt
ordered-map R S f w (x ∷ xs) o =
    (λ y h. let (z, i, e) = (in_map f y xs).0 h in rw e (w x z (o.0 z i)), ordered-map R S f w xs o.1)
