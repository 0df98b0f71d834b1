-- Keys, and the byte order in which 01 has listings rise.
--
--     Key            the bytes of a key, first to last
--     Bytes          every element of it is a byte
--     compare_keys   byte order
--     Below          the first key stands below the second in it; `is_below` as a test
--     same_key       two keys are one, as a test
--     PrefixOf       the second key begins with the first; `begins_with` as a test
--     extends        it begins with it and is longer
--     common_prefix  the longest common prefix of two keys
--     last_byte      the last byte, 0 of the empty key
-- Assumes nothing.
use Rattle.std.specs.Prelude.{◌≡◌, Bool, true, false, cond, ◌&&◌, List, [], ◌∷◌, length, eqb, ltb}
use Prim.Native.Nat.{ℕ, ◌<◌, compare, Ordering}
use Rattle.keymap.specs.Limits.{byte_limit}

abbrev pub Key : Type 0
Key = List ℕ

abbrev pub Bytes : Key → Type 0
Bytes [] = Unit {0}
Bytes (a ∷ k) = (a < byte_limit) × Bytes k

-- the first, the second or the third, as a comparison came out
abbrev pub pick : {A : Type 0} → Ordering → A → A → A → A
pick Ordering.lt x y z = x
pick Ordering.eq x y z = y
pick Ordering.gt x y z = z

-- the first byte that differs decides, and a key stands before all that begin with it
unfoldable pub compare_keys : Key → Key → Ordering
compare_keys [] [] = Ordering.eq
compare_keys [] (b ∷ y) = Ordering.lt
compare_keys (a ∷ x) [] = Ordering.gt
compare_keys (a ∷ x) (b ∷ y) = pick (compare a b) Ordering.lt (compare_keys x y) Ordering.gt

abbrev pub Below : Key → Key → Type 0
Below x y = compare_keys x y ≡ Ordering.lt

abbrev pub is_below : Key → Key → Bool
is_below x y = pick (compare_keys x y) true false false

abbrev pub same_key : Key → Key → Bool
same_key x y = pick (compare_keys x y) false true false

unfoldable pub begins_with : Key → Key → Bool
begins_with [] k = true
begins_with (a ∷ q) [] = false
begins_with (a ∷ q) (b ∷ k) = cond (eqb a b) (begins_with q k) false

abbrev pub PrefixOf : Key → Key → Type 0
PrefixOf q k = begins_with q k ≡ true

unfoldable pub extends : Key → Key → Bool
extends q k = begins_with q k && ltb (length q) (length k)

unfoldable pub common_prefix : Key → Key → Key
common_prefix [] y = []
common_prefix (a ∷ x) [] = []
common_prefix (a ∷ x) (b ∷ y) = cond (eqb a b) (a ∷ common_prefix x y) []

abbrev pub last_byte : Key → ℕ
last_byte [] = 0
last_byte (a ∷ []) = a
last_byte (a ∷ b ∷ k) = last_byte (b ∷ k)
