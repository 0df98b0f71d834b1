-- The order of bytes and of keys, by cases: one view to a comparison carries what it says either way round.
--
--     order                 how two numbers stand
--     key_order             how two keys stand
--     below-byte            the lower byte stands first
--     compare_keys-refl     a key stands with itself
--     compare_keys-trans    below what is below is below
-- Assumes nothing.
use mathlib.Core.Path.{◌≡◌, refl, sym, ap, ◌∙◌}
use Prim.Native.Nat.{ℕ, zero, suc, ◌<◌, suc-le-suc, zero-le, compare, Ordering}
use Prim.Native.Nat.compare
use native.Mathlib.Omega.{arith}
use mathlib.Core.List.{[], ◌∷◌, ◌++◌}
use Rattle.keymap.specs.Key.{Key, Bytes, compare_keys, last_byte, Below}
use Rattle.keymap.specs.Limits.{byte_limit}

-- how two numbers stand, with what `compare` says of them either way
pub data Order (a b : ℕ) : Type 0 where
  below : a < b → compare a b ≡ Ordering.lt → compare b a ≡ Ordering.gt → Order a b
  same : a ≡ b → compare a b ≡ Ordering.eq → Order a b
  above : b < a → compare a b ≡ Ordering.gt → compare b a ≡ Ordering.lt → Order a b

order-suc : {a b : ℕ} → Order a b → Order (suc a) (suc b)
order-suc {a} {b} (below l e f) = below (suc-le-suc l) (compare.suc-suc a b ∙ e) (compare.suc-suc b a ∙ f)
order-suc {a} {b} (same l e) = same (ap suc l) (compare.suc-suc a b ∙ e)
order-suc {a} {b} (above l e f) = above (suc-le-suc l) (compare.suc-suc a b ∙ e) (compare.suc-suc b a ∙ f)

pub order : (a b : ℕ) → Order a b
order zero zero = same refl compare.zero-zero
order zero (suc b) = below (suc-le-suc zero-le) (compare.zero-suc b) (compare.suc-zero b)
order (suc a) zero = above (suc-le-suc zero-le) (compare.suc-zero a) (compare.zero-suc a)
order (suc a) (suc b) = order-suc (order a b)

pub compare-lt : (a b : ℕ) → a < b → compare a b ≡ Ordering.lt
compare-lt a b h = elim (order a b) [ below l e f ↦ e | same l e ↦ absurd (omega arith) | above l e f ↦ absurd (omega arith) ]

pub compare_refl : (a : ℕ) → compare a a ≡ Ordering.eq
compare_refl a = elim (order a a) [ below l e f ↦ absurd (omega arith) | same l e ↦ e | above l e f ↦ absurd (omega arith) ]

-- byte order: the lower byte stands first, whatever follows
pub below-byte : (a b : ℕ) (x y : Key) → a < b → Below (a ∷ x) (b ∷ y)
unfolding compare_keys
below-byte a b x y l = rw (compare-lt a b l)

pub compare_keys-refl : (x : Key) → compare_keys x x ≡ Ordering.eq
unfolding compare_keys
compare_keys-refl [] = refl
compare_keys-refl (a ∷ x) = rw compare_refl (compare_keys-refl x)

-- how two keys stand
pub data KeyOrder (x y : Key) : Type 0 where
  below : compare_keys x y ≡ Ordering.lt → compare_keys y x ≡ Ordering.gt → KeyOrder x y
  same : x ≡ y → compare_keys x y ≡ Ordering.eq → KeyOrder x y
  above : compare_keys x y ≡ Ordering.gt → compare_keys y x ≡ Ordering.lt → KeyOrder x y

pub key_order : (x y : Key) → KeyOrder x y
unfolding compare_keys
key_order [] [] = same refl refl
key_order [] (b ∷ y) = below refl refl
key_order (a ∷ x) [] = above refl refl
key_order (a ∷ x) (b ∷ y) = go (order a b) (key_order x y)
  where
    go : Order a b → KeyOrder x y → KeyOrder (a ∷ x) (b ∷ y)
    go (below l e f) k = below (rw e) (rw f)
    go (above l e f) k = above (rw e) (rw f)
    go (same l e) (below p q) = below (rw (e, p)) (rw (l, compare_refl, q))
    go (same l e) (same p q) = same (cc) (rw (e, q))
    go (same l e) (above p q) = above (rw (e, p)) (rw (l, compare_refl, q))

pub compare_keys-trans : (x y z : Key) → compare_keys x y ≡ Ordering.lt → compare_keys y z ≡ Ordering.lt → compare_keys x z ≡ Ordering.lt
unfolding compare_keys
compare_keys-trans [] [] z p q = cc
compare_keys-trans [] (b ∷ y) [] p q = cc
compare_keys-trans [] (b ∷ y) (c ∷ z) p q = refl
compare_keys-trans (a ∷ x) [] z p q = cc
compare_keys-trans (a ∷ x) (b ∷ y) [] p q = cc
compare_keys-trans (a ∷ x) (b ∷ y) (c ∷ z) p q = go (λ f g. compare_keys-trans x y z f g) (order a b) (order b c)
  where
    go : (compare_keys x y ≡ Ordering.lt → compare_keys y z ≡ Ordering.lt → compare_keys x z ≡ Ordering.lt) → Order a b → Order b c → compare_keys (a ∷ x) (c ∷ z) ≡ Ordering.lt
    go ih (above l e f) r = cc
    go ih (below l e f) (above l' e' f') = cc
    go ih (below l e f) (same l' e') = rw (compare-lt a c (omega arith))
    go ih (below l e f) (below l' e' f') = rw (compare-lt a c (omega arith))
    go ih (same l e) (above l' e' f') = cc
    go ih (same l e) (below l' e' f') = rw (compare-lt a c (omega arith))
    go ih (same l e) (same l' e') = rw (l, l', compare_refl) (ih (cc) (cc))

pub last_byte-append : (p : Key) (a : ℕ) → last_byte (p ++ (a ∷ [])) ≡ a
last_byte-append [] a = refl
last_byte-append (b ∷ []) a = refl
last_byte-append (b ∷ c ∷ p) a = last_byte-append (c ∷ p) a

pub bytes-last : (p : Key) → Bytes p → last_byte p < byte_limit
bytes-last [] b = omega arith
bytes-last (a ∷ []) b = b.0
bytes-last (a ∷ c ∷ p) b = bytes-last (c ∷ p) b.1

pub below_irrefl : (x : Key) → ¬ Below x x
below_irrefl x h =
    let c : Ordering.lt ≡ Ordering.eq = sym h ∙ compare_keys-refl x in
    let z : ◌≡◌ {A = ℕ} 0 1 = cc in
    omega arith

pub below-asym : (x y : Key) → Below x y → ¬ Below y x
below-asym x y h g = below_irrefl x (compare_keys-trans x y x h g)
