-- What is written over the front of a buffer grows by the element that is stored right behind it.
--
--     length_over          the length stays
--     get_d_over, take-over what is read from the front
--     over_none              nothing written
--     over-over              what is written over as many again
--     over-set               one element more
--     over-sets              several
--     over-behind            a list written behind another
--     over_zeros, over-told  one 0 more, one element of a list more
-- Assumes nothing.
use Prim.Native.Nat.{ℕ, suc, ◌+◌, ◌≤◌, ◌<◌}
use mathlib.Core.Path.{◌≡◌, refl, sym, ap, ◌∙◌}
use mathlib.Core.List.{List, [], ◌∷◌, ◌++◌, map, map-append, append-nil, append_assoc}
use native.Mathlib.Omega.{arith}
use native.Mathlib.Numerals.{add-one}
use lib.ListN.{length, get_or, take, drop, set, replicate, length-append, length-drop, length-map, length-replicate, replicate-append-replicate, get_or-append}
use lib.Seq.{drop-cons, drop-drop, take_at, drop_at, append_snoc, set-append_seam, take-append_seam, drop-append_seam, take-suc, length-take-le, sets}
use Rattle.keymap.specs.Buffers.{over}

module _ (xs ys : List ℕ) where
  pub length_over : length xs ≤ length ys → length (over xs ys) ≡ length ys
  unfolding over
  length_over h = omega (arith, length-append xs (drop (length xs) ys), length-drop (length xs) ys)

  pub get_d_over : (i : ℕ) → i < length xs → get_or (over xs ys) i 0 ≡ get_or xs i 0
  unfolding over
  get_d_over i h = get_or-append xs (drop (length xs) ys) 0 i h

  pub take-over : take (length xs) (over xs ys) ≡ xs
  unfolding over
  take-over = take-append_seam xs (drop (length xs) ys)

pub over_none : (ys : List ℕ) → over [] ys ≡ ys
unfolding over
over_none ys = refl

pub over-over : (xs ys zs : List ℕ) → length xs ≡ length ys → over xs (over ys zs) ≡ over xs zs
unfolding over
over-over xs ys zs e =
    ap (λ (k : ℕ). xs ++ drop k (ys ++ drop (length ys) zs)) e ∙ ap (λ (us : List ℕ). xs ++ us) (drop-append_seam ys (drop (length ys) zs)) ∙ ap (λ (k : ℕ). xs ++ drop k zs) (sym e)

pub over-set : (xs ys : List ℕ) (i a : ℕ) → i ≡ length xs → i < length ys → set (over xs ys) i a ≡ over (xs ++ (a ∷ [])) ys
unfolding over
over-set xs ys i a e h =
    let l : length (xs ++ (a ∷ [])) ≡ suc (length xs) = omega (arith, length-append xs (a ∷ [])) in
    ap (λ (k : ℕ). set (xs ++ drop (length xs) ys) k a) e
    ∙ ap (λ (zs : List ℕ). set (xs ++ zs) (length xs) a) (drop-cons ys (length xs) 0 (omega arith))
    ∙ set-append_seam xs (get_or ys (length xs) 0) (drop (suc (length xs)) ys) a
    ∙ sym (append_snoc xs a (drop (suc (length xs)) ys))
    ∙ ap (λ (k : ℕ). (xs ++ (a ∷ [])) ++ drop k ys) (sym l)

pub over-sets : (vs xs ys : List ℕ) (i : ℕ) → i ≡ length xs → i + length vs ≤ length ys → sets (over xs ys) i vs ≡ over (xs ++ vs) ys
over-sets [] xs ys i e h = ap (λ (zs : List ℕ). over zs ys) (sym (append-nil xs))
over-sets (v ∷ vs) xs ys i e h =
    ap (λ (zs : List ℕ). sets zs (suc i) vs) (over-set xs ys i v e (omega arith))
    ∙ over-sets vs (xs ++ (v ∷ [])) ys (suc i) (omega (arith, length-append xs (v ∷ []))) (omega arith)
    ∙ ap (λ (zs : List ℕ). over zs ys) (append_snoc xs v vs)

pub over_zeros : (ys : List ℕ) (w : ℕ) → w < length ys → set (over (replicate w 0) ys) w 0 ≡ over (replicate (w + 1) 0) ys
over_zeros ys w h =
    over-set (replicate w 0) ys w 0 (sym (length-replicate w 0)) h ∙ ap (λ (zs : List ℕ). over zs ys) (replicate-append-replicate w 1 0)

pub over-told : (f : ℕ → ℕ) (qs ys : List ℕ) (j : ℕ) → j < length qs → j < length ys
    → set (over (map f (take j qs)) ys) j (f (get_or qs j 0)) ≡ over (map f (take (j + 1) qs)) ys
over-told f qs ys j h l =
    over-set (map f (take j qs)) ys j (f (get_or qs j 0)) (sym (length-map (take j qs) f ∙ length-take-le j qs (omega arith))) l
    ∙ ap (λ (zs : List ℕ). over zs ys)
    (sym (ap (λ (k : ℕ). map f (take k qs)) (add-one j) ∙ ap (map f) (take-suc qs j 0 h) ∙ map-append f (take j qs) (get_or qs j 0 ∷ [])))

pub over-behind : (s t out : List ℕ) (n : ℕ) → length s ≡ n → take n (over s out) ++ over t (drop n (over s out)) ≡ over (s ++ t) out
unfolding over
over-behind s t out n e =
    rw (take_at s (drop (length s) out) n e, drop_at s (drop (length s) out) n e, drop-drop, length-append, append_assoc)
