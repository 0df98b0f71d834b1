-- What the tests of a bit ask, by their parts: each is true exactly if all that it asks holds.
--
--     both                        of two tests that are true together each is true
--     entry_fits-told, -made      an entry
--     OneFits                     what is asked of a one's node
--     one_fits-told, -made        the test of a one asks it
--     childless_fits-told, -made  a node without child
-- Assumes nothing.
use mathlib.Core.Path.{◌≡◌, refl}
use Prim.Native.Nat.{ℕ, ◌+◌, ◌-◌, ◌*◌, ◌≤◌, ◌<◌}
use native.Mathlib.Decide.{dec_le}
use native.Mathlib.Omega.{arith}
use mathlib.Core.Bool.{Bool, true, false, cond, ◌&&◌}
use mathlib.Core.List.{List}
use lib.ListN.{length, get_or}
use lib.Dec.{eqb, ltb, leb}
use borrow.Author.Tests.{lt-ltb, le-ltb, le-leb, eq-eqb, ne_eqb, ltb-true, ltb-false, leb-true, eqb-true, eqb-false}
use Rattle.keymap.specs.Label.{mark, label_in}
use Rattle.image.specs.AcceptTest.{entry_fits, labels_rise, one_fits, childless_fits}

pub both : (s t : Bool) → (s && t) ≡ true → (s ≡ true) × (t ≡ true)
both true t h = (refl, h)
both false t h = let z : ◌≡◌ {A = ℕ} 0 1 = cc in absurd (omega arith)

pub entry_fits-told : (e v : ℕ) → entry_fits e v ≡ true → (e < 2 * mark) × (e < mark → v ≡ 0)
unfolding entry_fits
entry_fits-told e v h = go (ltb e mark) refl
  where
    go : (t : Bool) → ltb e mark ≡ t → (e < 2 * mark) × (e < mark → v ≡ 0)
    go true p = let l : e < mark = ltb-true e mark p in (omega arith, λ u. eqb-true v 0 (rw p at h))
    go false p = let l : mark ≤ e = ltb-false e mark p in (ltb-true e (2 * mark) (rw p at h), λ u. absurd (omega arith))

pub entry_fits-made : (e v : ℕ) → e < 2 * mark → (e < mark → v ≡ 0) → entry_fits e v ≡ true
unfolding entry_fits
entry_fits-made e v l z = go (ltb e mark) refl
  where
    go : (t : Bool) → ltb e mark ≡ t → entry_fits e v ≡ true
    go true p = rw p (eq-eqb v 0 (z (ltb-true e mark p)))
    go false p = rw p (lt-ltb e (2 * mark) l)

-- what the test of a one asks of its node, whose parent is the count of zeros before it
pub record OneFits (ls vs : List ℕ) (before ones zeros : ℕ) : Type 0 where
  pub climbs : zeros ≤ ones
  pub inside : ones ≤ length ls
  pub small : get_or ls (ones - 1) 0 < 2 * mark
  pub plain : get_or ls (ones - 1) 0 < mark → get_or vs (ones - 1) 0 ≡ 0
  pub rises : before ≡ 1 → label_in (get_or ls (ones - 2) 0) < label_in (get_or ls (ones - 2 + 1) 0)

module _ (ls vs : List ℕ) where
  pub one_fits-told : (before ones zeros : ℕ) → one_fits ls vs before ones zeros ≡ true → OneFits ls vs before ones zeros
  unfolding one_fits labels_rise
  one_fits-told before ones zeros h =
      let (c, h') = both (leb zeros ones) _ h in
      let (d, h'') = both (leb ones (length ls)) _ h' in
      let (e, r) = both (entry_fits (get_or ls (ones - 1) 0) (get_or vs (ones - 1) 0)) _ h'' in
      let entry = entry_fits-told (get_or ls (ones - 1) 0) (get_or vs (ones - 1) 0) e in
      record {
        climbs = leb-true zeros ones c;
        inside = leb-true ones (length ls) d;
        small = entry.0;
        plain = entry.1;
        rises = λ one. ltb-true _ _ (rw (ne_eqb before 0 (λ z. omega arith)) at r);
      }

  pub one_fits-made : (before ones zeros : ℕ) → before ≤ 1 → OneFits ls vs before ones zeros → one_fits ls vs before ones zeros ≡ true
  unfolding one_fits labels_rise
  one_fits-made before ones zeros few f =
      rw (le-leb zeros ones f.climbs, le-leb ones (length ls) f.inside, entry_fits-made (get_or ls (ones - 1) 0) (get_or vs (ones - 1) 0) f.small f.plain)
      (go (eqb before 0) refl)
    where
      go : (t : Bool) → eqb before 0 ≡ t
          → cond (eqb before 0) true (ltb (label_in (get_or ls (ones - 2) 0)) (label_in (get_or ls (ones - 2 + 1) 0))) ≡ true
      go true p = rw p
      go false p =
          let other = eqb-false before 0 p in
          rw p (lt-ltb _ _ (f.rises (one other)))
        where
          one : (before ≡ 0 → ⊥) → before ≡ 1
          one other = pick-one (dec_le 1 before)
            where
              pick-one : Dec (1 ≤ before) → before ≡ 1
              pick-one (yes h) = omega arith
              pick-one (no h) = absurd (other (omega arith))

  -- a zero after a zero closes a node without child, which is the root or marked
  pub childless_fits-told : (m : ℕ) → childless_fits ls m ≡ true → 2 ≤ m → mark ≤ get_or ls (m - 2) 0
  unfolding childless_fits
  childless_fits-told m h l = leb-true mark (get_or ls (m - 2) 0) (rw (le-ltb m 2 l) at h)

  pub childless_fits-made : (m : ℕ) → (2 ≤ m → mark ≤ get_or ls (m - 2) 0) → childless_fits ls m ≡ true
  unfolding childless_fits
  childless_fits-made m h = go (ltb m 2) refl
    where
      go : (t : Bool) → ltb m 2 ≡ t → childless_fits ls m ≡ true
      go true p = rw p
      go false p = rw p (le-leb mark (get_or ls (m - 2) 0) (h (ltb-false m 2 p)))
