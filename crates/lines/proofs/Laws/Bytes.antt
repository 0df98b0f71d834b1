-- Laws of the first of a byte in a text: the stretch before it has none of them, and a text that has none is one stretch.
--
--     stretch-within        it is no longer than the text
--     stretch-split         a text with a b is the stretch, b and the rest
--     stretch-append        the stretch of a text without b, put before a b, is that text
--     holds-stretch         the stretch has no b
--     holds-take            a leading part has a b exactly if it is longer than the stretch, and `holds-whole` the
--                           whole text
--     position-Some         the place at which b is found ends the stretch, and `position-None`: the stretch is the
--                           whole text where it is found nowhere; `is_some-position`: it is found where the text has it
-- Assumes nothing.
use mathlib.Core.Path.{◌≡◌, refl, sym, ap, ◌∙◌}
use Prim.Native.Nat.{ℕ, zero, suc, ◌≤◌, ◌<◌}
use mathlib.Core.Bool.{Bool, true, false, cond, ◌||◌, or_assoc}
use Rattle.std.specs.Prelude.{Some, None, is_some, position}
use Rattle.std.specs.List.{position_or_len}
use Rattle.std.proofs.lemmas.List.Recursion.{is_position_or_len}
use mathlib.Core.List.{List, [], ◌∷◌, ◌++◌}
use native.Mathlib.Omega.{arith}
use lib.ListN.{length, take, drop, get_or}
use lib.Seq.{split_at, take-length}
use lib.Dec.{eqb, ltb}
use borrow.Author.Tests.{eqb-true, eq-eqb, lt-ltb, le-ltb, ltb-true, ltb-false}
use Rattle.lines.specs.Bytes.{holds, stretch}

module _ (b : ℕ) where
  pub stretch-within : (t : List ℕ) → stretch b t ≤ length t
  unfolding stretch
  stretch-within [] = omega arith
  stretch-within (a ∷ t) = go (eqb a b) refl (stretch-within t)
    where
      go : (s : Bool) → eqb a b ≡ s → stretch b t ≤ length t → stretch b (a ∷ t) ≤ length (a ∷ t)
      go true e ih = rw e (omega arith)
      go false e ih = rw e (omega arith)

  ltb-suc : (m n : ℕ) → ltb (suc m) (suc n) ≡ ltb m n
  ltb-suc m n = go (ltb m n) refl
    where
      go : (s : Bool) → ltb m n ≡ s → ltb (suc m) (suc n) ≡ ltb m n
      go true e = lt-ltb (suc m) (suc n) (let h : m < n = ltb-true m n e in omega arith) ∙ sym e
      go false e = le-ltb (suc m) (suc n) (let h : n ≤ m = ltb-false m n e in omega arith) ∙ sym e

  pub holds-take : (t : List ℕ) (n : ℕ) → n ≤ length t → holds b (take n t) ≡ ltb (stretch b t) n
  unfolding holds stretch
  holds-take t zero h = sym (le-ltb (stretch b t) 0 (omega arith))
  holds-take [] (suc n) h = absurd (omega arith)
  holds-take (a ∷ t) (suc n) h = go (eqb a b) refl (holds-take t n (omega arith))
    where
      go : (s : Bool) → eqb a b ≡ s → holds b (take n t) ≡ ltb (stretch b t) n → holds b (take (suc n) (a ∷ t)) ≡ ltb (stretch b (a ∷ t)) (suc n)
      go true e ih = rw e (sym (lt-ltb 0 (suc n) (omega arith)))
      go false e ih = rw e (ih ∙ sym (ltb-suc (stretch b t) n))

  pub holds-stretch : (t : List ℕ) → holds b (take (stretch b t) t) ≡ false
  holds-stretch t = holds-take t (stretch b t) (stretch-within t) ∙ le-ltb (stretch b t) (stretch b t) (omega arith)

  pub holds-whole : (t : List ℕ) → holds b t ≡ ltb (stretch b t) (length t)
  holds-whole t = ap (holds b) (sym (take-length t)) ∙ holds-take t (length t) (omega arith)

  -- what stands behind the stretch is b
  pub stretch-ends : (t : List ℕ) → stretch b t < length t → get_or t (stretch b t) 0 ≡ b
  unfolding stretch
  stretch-ends [] h = absurd (omega arith)
  stretch-ends (a ∷ t) h = go (eqb a b) refl (stretch-ends t)
    where
      go : (s : Bool) → eqb a b ≡ s → (stretch b t < length t → get_or t (stretch b t) 0 ≡ b) → get_or (a ∷ t) (stretch b (a ∷ t)) 0 ≡ b
      go true e ih = rw e (eqb-true a b e)
      go false e ih = rw e (ih (let l : suc (stretch b t) < suc (length t) = rw e at h in omega arith))

  pub stretch-split : (t : List ℕ) → stretch b t < length t → t ≡ take (stretch b t) t ++ (b ∷ drop (suc (stretch b t)) t)
  stretch-split t h = split_at t (stretch b t) 0 h ∙ rw (stretch-ends t h)

  pub holds-append : (s t : List ℕ) → holds b (s ++ t) ≡ (holds b s || holds b t)
  unfolding holds
  holds-append [] t = refl
  holds-append (a ∷ s) t = rw (holds-append s t) (sym (or_assoc (eqb a b) (holds b s) (holds b t)))

  pub stretch-append : (s t : List ℕ) → holds b s ≡ false → stretch b (s ++ (b ∷ t)) ≡ length s
  unfolding holds stretch
  stretch-append [] t h = rw (eq-eqb b b refl)
  stretch-append (a ∷ s) t h = go (eqb a b) refl (stretch-append s t)
    where
      go : (c : Bool) → eqb a b ≡ c → (holds b s ≡ false → stretch b (s ++ (b ∷ t)) ≡ length s) → stretch b ((a ∷ s) ++ (b ∷ t)) ≡ length (a ∷ s)
      go true e ih = absurd (let k : true ≡ false = rw e at h in let z : ◌≡◌ {A = ℕ} 0 1 = cc in omega arith)
      go false e ih = rw e (ap suc (ih (rw e at h)))

  -- ---- by the word of std

  stretch-position : (t : List ℕ) → stretch b t ≡ position_or_len (λ (a : ℕ). eqb a b) t
  unfolding stretch
  stretch-position = is_position_or_len (stretch b) (λ (a : ℕ). eqb a b) refl (λ a t. ap (cond (eqb a b) 0) (omega arith))

  pub position-Some : (t : List ℕ) (i : ℕ) → position (λ (a : ℕ). eqb a b) t ≡ Some i → (i ≡ stretch b t) × (i < length t)
  position-Some t i h = go (ltb (position_or_len (λ (a : ℕ). eqb a b) t) (length t)) refl
    where
      go : (s : Bool) → ltb (position_or_len (λ (a : ℕ). eqb a b) t) (length t) ≡ s → (i ≡ stretch b t) × (i < length t)
      go true e =
          let at : Some (position_or_len (λ (a : ℕ). eqb a b) t) ≡ Some i = rw e at h in
          let same : position_or_len (λ (a : ℕ). eqb a b) t ≡ i = cc in
          (sym same ∙ sym (stretch-position t), omega (arith, same, ltb-true _ _ e))
      go false e = let k : None ≡ Some i = rw e at h in cc

  pub position-None : (t : List ℕ) → position (λ (a : ℕ). eqb a b) t ≡ None → length t ≤ stretch b t
  position-None t h = go (ltb (position_or_len (λ (a : ℕ). eqb a b) t) (length t)) refl
    where
      go : (s : Bool) → ltb (position_or_len (λ (a : ℕ). eqb a b) t) (length t) ≡ s → length t ≤ stretch b t
      go true e = let k : Some (position_or_len (λ (a : ℕ). eqb a b) t) ≡ None = rw e at h in cc
      go false e = rw (stretch-position t) (ltb-false _ _ e)

  pub is_some-position : (t : List ℕ) → is_some (position (λ (a : ℕ). eqb a b) t) ≡ holds b t
  is_some-position t = found (ltb (position_or_len (λ (a : ℕ). eqb a b) t) (length t)) ∙ ap (λ (n : ℕ). ltb n (length t)) (sym (stretch-position t)) ∙ sym (holds-whole t)
    where
      found : (s : Bool) → is_some (cond s (Some (position_or_len (λ (a : ℕ). eqb a b) t)) None) ≡ s
      found true = refl
      found false = refl
