-- The k-th marked place, of any marks m. A place is the k-th exactly if fewer than k marks stand before it and k up to and with it;
-- so the two laws that introduce an answer speak of sums alone, and every other law follows from those two and from sums being monotone.
--
--     kth-at          a place with fewer than k marks before it, and k with its own, is the k-th
--     kth-none        where the marks are fewer than k it is missing
--     kth-zero        the 0-th is missing
--     kth-find        one of the two holds
--     kth-told        what the answer "here" tells
--     kth-missing     what the answer "missing" tells
--     kth-longer      found among fewer places, found among more
--     kth-exists      k marks, so the k-th is there
--     kth-bare        where there are no marks, none is the k-th
--     kth-ext         only the places below len matter
--     rank-kth        the rank of what was selected, where a place bears at most one mark
--     kth-rank        the place selected by its rank
--     kth-mono        of two marks the one of higher number stands further
--     kth-back        counted down from the k-th mark, the j-th is k - j marks back
--     onward-at       from its place on, `onward` keeps the marks
--     onward-before   before it, none
--     sum_below-onward the marks before it and those from it on
--     kth-onward      the k-th mark from a place on, by the marks before it
--     kth-start       from place 0 on
--     kth-next        the k-th mark past the j-th is the mark j + k
--     marks-zero      the marks of the zeros
--     marks-one       the marks of the ones
--
-- Assumes nothing.
use Rattle.std.specs.Prelude.{None, Some}
use Rattle.std.proofs.Common.{◌≡◌, ℕ, zero, suc, ◌+◌, ◌-◌, ◌<◌, ◌≤◌, ◌⊎◌, sym, refl, ap, ◌∙◌, subst, inl, inr, ⊎_elim, zero-le, le_trans, lt_of_le_of_lt, lt-suc_self, eq-zero-or-pos, lt_of_not-le, not-le_of_lt, arith, le-leb}
use Rattle.std.proofs.lemmas.Option.{none-some}
use native.Mathlib.Nat.{le-suc}
use native.Mathlib.Decide.{le_ind, dec_le}
use borrow.Author.Tests.{lt-leb}
use Rattle.keymap.specs.Bits.{sum_below}
use Rattle.keymap.proofs.Laws.Sums.{sum_below-zero, sum_below-suc, sum_below-next, sum_below-add, sum_below-mono, sum_below-lt, sum_below-ext, sum_below-none}
use Rattle.louds.specs.Rank.{gap}
use Rattle.louds.specs.Select.{kth, onward, marks}

module _ (m : ℕ → ℕ) where
  -- ---- what settles the answer

  kth-here : (p k : ℕ) → sum_below m p < k → k ≤ sum_below m (suc p) → kth m (suc p) k ≡ Some p
  unfolding kth
  kth-here p k a b = simp (lt-leb _ _ a, le-leb _ _ b)

  kth-step : (n k : ℕ) → k ≤ sum_below m n → kth m (suc n) k ≡ kth m n k
  unfolding kth
  kth-step n k a = simp (le-leb _ _ a)

  pub kth-at : (len p k : ℕ) → p < len → sum_below m p < k → k ≤ sum_below m p + m p → kth m len k ≡ Some p
  kth-at len p k h a b =
      let upto : k ≤ sum_below m (suc p) = omega (arith, sum_below-suc m p) in
      le_ind (λ (n : ℕ). kth m n k ≡ Some p) (kth-here p k a upto) (λ n l e. kth-step n k (le_trans upto (sum_below-mono m l)) ∙ e) len h

  pub kth-none : (len k : ℕ) → sum_below m len < k → kth m len k ≡ None
  unfolding kth
  kth-none zero k h = refl
  kth-none (suc n) k h = simp (lt-leb _ _ (lt_of_le_of_lt (sum_below-mono m (le-suc n)) h), lt-leb _ _ h)

  pub kth-zero : (len : ℕ) → kth m len 0 ≡ None
  unfolding kth
  kth-zero zero = refl
  kth-zero (suc n) = kth-step n 0 zero-le ∙ kth-zero n

  -- ---- what the answer tells

  pub record Found (len k p : ℕ) : Type 0 where
    pub answer : kth m len k ≡ Some p
    pub inside : p < len
    pub before : sum_below m p < k
    pub upto : k ≤ sum_below m p + m p

  pub record Short (len k : ℕ) : Type 0 where
    pub answer : kth m len k ≡ None
    pub few : sum_below m len < k

  pub kth-find : (len k : ℕ) → 0 < k → ((p : ℕ) × Found len k p) ⊎ Short len k
  kth-find zero k h = let few : sum_below m 0 < k = omega (arith, sum_below-zero m) in inr (record { answer = kth-none zero k few; few = few })
  kth-find (suc n) k h = ⊎_elim earlier (λ s. here s.few (dec_le k (sum_below m n + m n))) (kth-find n k h)
    where
      earlier : (p : ℕ) × Found n k p → ((p : ℕ) × Found (suc n) k p) ⊎ Short (suc n) k
      earlier f =
          let i : f.0 < suc n = le_trans f.1.inside (le-suc n) in
          inl (f.0, record { answer = kth-at (suc n) f.0 k i f.1.before f.1.upto; inside = i; before = f.1.before; upto = f.1.upto })

      here : sum_below m n < k → Dec (k ≤ sum_below m n + m n) → ((p : ℕ) × Found (suc n) k p) ⊎ Short (suc n) k
      here l (yes u) = inl (n, record { answer = kth-at (suc n) n k (lt-suc_self n) l u; inside = lt-suc_self n; before = l; upto = u })
      here l (no u) = let few : sum_below m (suc n) < k = omega (arith, sum_below-suc m n) in inr (record { answer = kth-none (suc n) k few; few = few })

  pub kth-told : (len k p : ℕ) → kth m len k ≡ Some p → Found len k p
  kth-told len k p e = ⊎_elim (λ z. absurd (never (ap (kth m len) z ∙ kth-zero len))) (λ h. ⊎_elim same (λ s. absurd (never s.answer)) (kth-find len k h)) (eq-zero-or-pos k)
    where
      never : kth m len k ≡ None → ⊥
      never q = none-some p (sym q ∙ e)

      same : (q : ℕ) × Found len k q → Found len k p
      same f =
          let g = f.1 in
          let i = g.answer in
          let z : f.0 ≡ p = cc in
          subst (λ (x : ℕ). Found len k x) z g

  pub kth-longer : (short len k p : ℕ) → short ≤ len → kth m short k ≡ Some p → kth m len k ≡ Some p
  kth-longer short len k p h e = let f = kth-told short k p e in kth-at len p k (le_trans f.inside h) f.before f.upto

  pub kth-missing : (len k : ℕ) → 0 < k → kth m len k ≡ None → sum_below m len < k
  kth-missing len k h e = ⊎_elim (λ f. absurd (never f.0 f.1.answer)) (λ s. s.few) (kth-find len k h)
    where
      never : (p : ℕ) → kth m len k ≡ Some p → ⊥
      never p q = none-some p (sym e ∙ q)

  pub kth-exists : (len k : ℕ) → 0 < k → k ≤ sum_below m len → (p : ℕ) × Found len k p
  kth-exists len k h l = ⊎_elim (λ f. f) (λ s. absurd (not-le_of_lt s.few l)) (kth-find len k h)

  -- the k-th mark: its rank, where a place bears at most one
  pub record Stands (len k p : ℕ) : Type 0 where
    pub inside : p < len
    pub rank : sum_below m p + 1 ≡ k
    pub marked : m p ≡ 1

pub kth-bare : (m : ℕ → ℕ) (len k : ℕ) → ((i : ℕ) → i < len → m i ≡ 0) → kth m len k ≡ None
kth-bare m len k none = ⊎_elim (λ z. ap (kth m len) z ∙ kth-zero m len) (λ s. kth-none m len k (omega (arith, s, sum_below-none m len none))) (eq-zero-or-pos k)

pub kth-ext : (m n : ℕ → ℕ) (len k : ℕ) → ((j : ℕ) → j < len → m j ≡ n j) → kth m len k ≡ kth n len k
kth-ext m n len k same = ⊎_elim (λ z. ap (kth m len) z ∙ kth-zero m len ∙ sym (ap (kth n len) z ∙ kth-zero n len)) (λ h. ⊎_elim found short (kth-find m len k h)) (eq-zero-or-pos k)
  where
    sums : (p : ℕ) → p ≤ len → sum_below m p ≡ sum_below n p
    sums p h = sum_below-ext m n p (λ j l. same j (le_trans l h))

    found : (p : ℕ) × Found m len k p → kth m len k ≡ kth n len k
    found f =
        let p : ℕ = f.0 in
        let g = f.1 in
        g.answer ∙ sym (kth-at n len p k g.inside (omega (arith, g, sums p (omega (arith, g)))) (omega (arith, g, sums p (omega (arith, g)), same p g.inside)))

    short : Short m len k → kth m len k ≡ kth n len k
    short s = s.answer ∙ sym (kth-none n len k (omega (arith, s, sums len (omega arith))))

-- ---- rank and select undo each other
module _ (m : ℕ → ℕ) (small : (i : ℕ) → m i ≤ 1) where
  pub rank-kth : (len k p : ℕ) → kth m len k ≡ Some p → Stands m len k p
  rank-kth len k p e =
      let f = kth-told m len k p e in
      record { inside = f.inside; rank = omega (arith, f, small p); marked = omega (arith, f, small p) }

  pub kth-rank : (len p : ℕ) → p < len → m p ≡ 1 → kth m len (sum_below m p + 1) ≡ Some p
  kth-rank len p h e = kth-at m len p (sum_below m p + 1) h (omega arith) (omega arith)

  pub kth-mono : (len j k p q : ℕ) → kth m len j ≡ Some p → kth m len k ≡ Some q → j < k → p < q
  kth-mono len j k p q e f l =
      let s = rank-kth len j p e in
      let t = rank-kth len k q f in
      sum_below-lt m p q (omega (arith, s, t, l))

  pub kth-back : (len j k p q : ℕ) → kth m len j ≡ Some p → kth m len k ≡ Some q → j < k → kth m q (sum_below m q + 1 - (k - j)) ≡ Some p
  kth-back len j k p q e f l =
      let s = rank-kth len j p e in
      let t = rank-kth len k q f in
      kth-at m q p (sum_below m q + 1 - (k - j)) (kth-mono len j k p q e f l) (omega (arith, s, t)) (omega (arith, s, t))

-- ---- going on from a place
module _ (m : ℕ → ℕ) (from : ℕ) where
  pub onward-at : (i : ℕ) → from ≤ i → onward from m i ≡ m i
  unfolding onward
  onward-at i h = simp (le-leb _ _ h)

  pub onward-before : (i : ℕ) → i < from → onward from m i ≡ 0
  unfolding onward
  onward-before i h = simp (lt-leb _ _ h)

  pub sum_below-onward : (p : ℕ) → from ≤ p → sum_below m from + sum_below (onward from m) p ≡ sum_below m p
  sum_below-onward p h =
      let c : ℕ = p - from in
      let e : p ≡ from + c = omega arith in
      let before = sum_below-none (onward from m) from (λ j l. onward-before j l) in
      let past = sum_below-ext (λ j. onward from m (from + j)) (λ j. m (from + j)) c (λ j l. onward-at (from + j) (omega arith)) in
      rw e (omega (arith, sum_below-add (onward from m) from c, sum_below-add m from c, before, past))

  pub kth-onward : (len k : ℕ) → 0 < k → kth (onward from m) len k ≡ kth m len (sum_below m from + k)
  kth-onward len k h = ⊎_elim found short (kth-find (onward from m) len k h)
    where
      found : (p : ℕ) × Found (onward from m) len k p → kth (onward from m) len k ≡ kth m len (sum_below m from + k)
      found f = go (dec_le from f.0)
        where
          go : Dec (from ≤ f.0) → kth (onward from m) len k ≡ kth m len (sum_below m from + k)
          go (yes l) =
              let g = f.1 in
              let s = sum_below-onward f.0 l in
              g.answer ∙ sym (kth-at m len f.0 (sum_below m from + k) g.inside (omega (arith, g, s)) (omega (arith, g, s, onward-at f.0 l)))
          go (no l) = absurd (omega (arith, f.1, onward-before f.0 (lt_of_not-le l)))

      short : Short (onward from m) len k → kth (onward from m) len k ≡ kth m len (sum_below m from + k)
      short s = s.answer ∙ sym (kth-none m len (sum_below m from + k) (few (dec_le from len)))
        where
          few : Dec (from ≤ len) → sum_below m len < sum_below m from + k
          few (yes l) = omega (arith, s, sum_below-onward len l)
          few (no l) = omega (arith, sum_below-mono m {i = len} {j = from} (omega arith))

pub kth-start : (m : ℕ → ℕ) (len k : ℕ) → kth (onward 0 m) len k ≡ kth m len k
kth-start m len k = kth-ext (onward 0 m) m len k (λ j l. onward-at m 0 j zero-le)

pub kth-next : (m : ℕ → ℕ) (small : (i : ℕ) → m i ≤ 1) (len j k p : ℕ) → kth m len j ≡ Some p → 0 < k → kth (onward (p + 1) m) len k ≡ kth m len (j + k)
kth-next m small len j k p e h =
    let s = rank-kth m small len j p e in
    kth-onward m (p + 1) len k h ∙ ap (kth m len) (omega (arith, s, sum_below-next m p))

-- ---- the bits of one value
module _ (b : ℕ → ℕ) where
  pub marks-zero : marks b 0 ≡ gap b
  unfolding marks
  marks-zero = refl

  pub marks-one : marks b 1 ≡ b
  unfolding marks
  marks-one = refl
