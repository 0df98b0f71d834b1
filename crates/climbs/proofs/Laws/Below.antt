-- Whether a node is a top or below it. On an image that some map has it says whether the node's path begins with the top's.
--
--     below_by-here, -lost, -up  a node, by its number and its parent
--     below-path                 on an image that some map has, by paths
-- Assumes nothing.
use mathlib.Core.Path.{◌≡◌, refl, sym, ap, subst, ◌∙◌}
use Prim.Native.Nat.{ℕ, zero, suc, ◌≤◌, ◌<◌}
use native.Mathlib.Nat.{lt_of_not-le}
use native.Mathlib.Decide.{dec_le, ℕ_discrete}
use native.Mathlib.Omega.{arith}
use mathlib.Core.Bool.{Bool, true, false, cond}
use mathlib.Core.List.{[], ◌∷◌}
use Rattle.std.specs.Prelude.{Option, None, Some}
use lib.ListN.{length}
use lib.Dec.{eqb, ltb}
use borrow.Author.Tests.{lt-ltb, le-ltb, eqb-true, eq-eqb}
use Rattle.keymap.specs.Key.{Key, PrefixOf, begins_with, last_byte}
use Rattle.keymap.specs.Map.{Map, Catalogue}
use Rattle.keymap.specs.Bits.{bit}
use Rattle.keymap.specs.Image.{Image, bits_for}
use Rattle.keymap.specs.Paths.{IsNode, path_of, node_of}
use Rattle.keymap.specs.Steps.{upper}
use Rattle.keymap.specs.Decode.{image_map}
use Rattle.keymap.proofs.Laws.Begins.{prefix-iff, prefix_refl, prefix_trans, prefix-chain, prefix-proper}
use Rattle.keymap.proofs.Laws.Paths.{path_of-one, path_of-longer, tests_same}
use Rattle.image.specs.Accept.{entries}
use Rattle.image.specs.Meaning.{MapImage}
use Rattle.climbs.specs.Perches.{parent_by}
use Rattle.climbs.specs.Below.{meets, below_by}
use Rattle.climbs.proofs.Laws.Perches.{parent_by-told}
use Rattle.climbs.proofs.Laws.MapClimb.{step-up, upper-path}

-- ---- by cases

-- the bound is enough
abbrev Upto : ℕ → Option ℕ → Type 0
Upto n None = Unit {0}
Upto n (Some k) = k ≤ n

module _ (b : ℕ → ℕ) (len top : ℕ) where
  parent-upto : (k n : ℕ) → k ≤ suc n → (o : Option ℕ) → parent_by b len k ≡ o → Upto n o
  parent-upto k n l None e = tt
  parent-upto k n l (Some j) e = omega (arith, parent_by-told b len k j e)

  meets-enough : (f g : ℕ) (o : Option ℕ) → Upto f o → Upto g o → meets b len top f o ≡ meets b len top g o
  unfolding meets
  meets-enough zero zero o v w = refl
  meets-enough zero (suc g) None v w = refl
  meets-enough zero (suc g) (Some k) v w = rw (le-ltb top k (omega (arith, v)))
  meets-enough (suc f) zero None v w = refl
  meets-enough (suc f) zero (Some k) v w = rw (le-ltb top k (omega (arith, w)))
  meets-enough (suc f) (suc g) None v w = refl
  meets-enough (suc f) (suc g) (Some k) v w =
      ap (λ (t : Bool). cond (ltb top k) t (eqb k top))
      (meets-enough f g (parent_by b len k) (parent-upto k f v (parent_by b len k) refl) (parent-upto k g w (parent_by b len k) refl))

  meets-none : (f : ℕ) → meets b len top f None ≡ false
  unfolding meets
  meets-none zero = refl
  meets-none (suc f) = refl

  meets-some : (f k : ℕ) → top < k → meets b len top (suc f) (Some k) ≡ meets b len top f (parent_by b len k)
  unfolding meets
  meets-some f k l = rw (lt-ltb top k l)

  meets-here : (f k : ℕ) → k ≤ top → meets b len top f (Some k) ≡ eqb k top
  unfolding meets
  meets-here zero k l = refl
  meets-here (suc f) k l = rw (le-ltb top k l)

  pub below_by-here : (m : ℕ) → m ≤ top → below_by b len top m ≡ eqb m top
  unfolding below_by
  below_by-here m l = meets-here m m l

  pub below_by-lost : (m : ℕ) → top < m → parent_by b len m ≡ None → below_by b len top m ≡ false
  unfolding below_by
  below_by-lost zero l e = absurd (omega arith)
  below_by-lost (suc m) l e = meets-some m (suc m) l ∙ ap (meets b len top m) e ∙ meets-none m

  pub below_by-up : (m k : ℕ) → top < m → parent_by b len m ≡ Some k → below_by b len top m ≡ below_by b len top k
  unfolding below_by
  below_by-up zero k l e = absurd (omega arith)
  below_by-up (suc m) k l e =
      meets-some m (suc m) l
      ∙ ap (meets b len top m) e
      ∙ meets-enough m k (Some k) (omega (arith, parent_by-told b len (suc m) k e)) (omega arith)

-- ---- paths

-- on the way up from a node to `at` nothing changes
record Ascending (m : Map) (top node at : ℕ) : Type 0 where
  inside : IsNode m at
  same : begins_with (path_of m top) (path_of m at) ≡ begins_with (path_of m top) (path_of m node)

module _ (m : Map) (c : Catalogue m) (top node at : ℕ) (top-inside : IsNode m top) (ascending : Ascending m top node at) where
  begins-later : ¬ (at ≡ top) → PrefixOf (path_of m top) (path_of m at) → length (path_of m top) < length (path_of m at)
  begins-later n b = (prefix-proper (path_of m top) (path_of m at) b).1 (λ e. n (path_of-one m c.rising at top ascending.inside top-inside e))

  ascend-up : top < at → Ascending m top node (node_of m (upper (path_of m at)))
  ascend-up l =
      let x : Key = path_of m at in
      let s = step-up m c at ascending.inside (omega (arith, top-inside)) in
      let y : Key = path_of m (node_of m (upper x)) in
      let part : PrefixOf y x = (prefix-iff y x).1 (last_byte x ∷ [], s.path) in
      let away : ¬ (at ≡ top) = λ z. omega arith in
      record {
        inside = s.inside;
        same =
            tests_same (begins_with (path_of m top) y) (begins_with (path_of m top) x)
            (λ b. prefix_trans (path_of m top) y x b part)
            (λ b. prefix-chain (path_of m top) y x b part (omega (arith, begins-later away b, s.shorter)))
            ∙ ascending.same;
      }

  ascend-ends : at ≤ top → eqb at top ≡ begins_with (path_of m top) (path_of m node)
  ascend-ends n =
      tests_same (eqb at top) (begins_with (path_of m top) (path_of m at))
      (λ b. subst (λ (k : ℕ). PrefixOf (path_of m top) (path_of m k)) (sym (eqb-true at top b)) (prefix_refl (path_of m top)))
      (λ b. go (ℕ_discrete at top) b)
      ∙ ascending.same
    where
      go : Dec (at ≡ top) → PrefixOf (path_of m top) (path_of m at) → eqb at top ≡ true
      go (yes e) b = eq-eqb at top e
      go (no d) b = absurd (omega (arith, n, path_of-longer m c.rising top at top-inside ascending.inside (begins-later d b)))

module _ (i : Image) (h : MapImage i) where
  below-from : (bound top node : ℕ) → IsNode (image_map i) top → (at : ℕ) → at ≤ bound → Ascending (image_map i) top node at
      → below_by (bit i.words) (bits_for (entries i)) top at ≡ begins_with (path_of (image_map i) top) (path_of (image_map i) node)
  below-from zero top node t at l a = absurd (omega (arith, a.inside))
  below-from (suc bound) top node t at l a = go (dec_le at top) (λ up u b. below-from bound top node t up u b)
    where
      m : Map
      m = image_map i

      go : Dec (at ≤ top)
          → ((up : ℕ) → up ≤ bound → Ascending m top node up → below_by (bit i.words) (bits_for (entries i)) top up ≡ begins_with (path_of m top) (path_of m node))
          → below_by (bit i.words) (bits_for (entries i)) top at ≡ begins_with (path_of m top) (path_of m node)
      go (yes e) goes_on = below_by-here (bit i.words) (bits_for (entries i)) top at e ∙ ascend-ends m h.catalogue top node at t a e
      go (no e) goes_on =
          let higher : top < at = lt_of_not-le e in
          let low : 2 ≤ at = omega (arith, t) in
          let up : ℕ = node_of m (upper (path_of m at)) in
          below_by-up (bit i.words) (bits_for (entries i)) top at up higher (upper-path i h at a.inside low)
          ∙ goes_on up (omega (arith, l, (step-up m h.catalogue at a.inside low).lower)) (ascend-up m h.catalogue top node at t a higher)

  pub below-path : (top node : ℕ) → IsNode (image_map i) top → IsNode (image_map i) node
      → below_by (bit i.words) (bits_for (entries i)) top node ≡ begins_with (path_of (image_map i) top) (path_of (image_map i) node)
  below-path top node t n = below-from node top node t node (omega arith) (record { inside = n; same = refl })
