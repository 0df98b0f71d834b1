-- The entries in one pass: all are below 512 if all together are, and all unmarked ones have value 0 if all their values together are 0.
-- Assumes nothing.
use mathlib.Core.Path.{◌≡◌, refl, sym, ◌∙◌}
use mathlib.Core.Bool.{Bool, true, cond, ◌&&◌}
use Prim.Native.Nat.{ℕ, ◌*◌, ◌<◌}
use native.Mathlib.Decide.{dec_lt}
use native.Mathlib.Omega.{arith}
use lib.Dec.{eqb, ltb}
use lib.Bits.{bit_or, or_lt, or_add_and, and_le_l, and_le_r}
use borrow.Author.Tests.{lt-ltb, le-ltb, ltb-true, eqb-true, eq-eqb}
use Rattle.keymap.specs.Label.{mark}
use Rattle.image.specs.AcceptTest.{entry_fits}
use Rattle.image.proofs.Laws.BitTests.{both, entry_fits-told, entry_fits-made}
use Rattle.image.proofs.Laws.AllBelow.{both_ways, and-made}
use Rattle.image.proofs.Laws.WordWalks.{or-none}

-- the test of what was gathered
abbrev pub gathered : ℕ → ℕ → Bool
gathered any bad = ltb any (2 * mark) && eqb bad 0

pub gathered_none : gathered 0 0 ≡ true
gathered_none = refl

module _ (any bad e v : ℕ) where
  -- what the entry gives to the values
  abbrev plain : ℕ
  plain = cond (ltb e mark) v 0

  pub gathered_next : gathered (bit_or any e) (bit_or bad (cond (ltb e mark) v 0)) ≡ (gathered any bad && entry_fits e v)
  gathered_next = both_ways (gathered (bit_or any e) (bit_or bad plain)) (gathered any bad && entry_fits e v) to from
    where
      unmarked : plain ≡ 0 → e < mark → v ≡ 0
      unmarked z l = let is : plain ≡ v = rw (lt-ltb e mark l) in sym is ∙ z

      none : (e < mark → v ≡ 0) → plain ≡ 0
      none z = go (dec_lt e mark)
        where
          go : Dec (e < mark) → plain ≡ 0
          go (yes l) = rw (lt-ltb e mark l) (z l)
          go (no l) = rw (le-ltb e mark (omega arith))

      to : gathered (bit_or any e) (bit_or bad plain) ≡ true → (gathered any bad && entry_fits e v) ≡ true
      to h =
          let (s, t) = both (ltb (bit_or any e) (2 * mark)) (eqb (bit_or bad plain) 0) h in
          let less : bit_or any e < 2 * mark = ltb-true (bit_or any e) (2 * mark) s in
          let (u, w) = both (eqb bad 0) (eqb plain 0) (sym (or-none bad plain) ∙ t) in
          and-made (gathered any bad) (entry_fits e v)
          (and-made (ltb any (2 * mark)) (eqb bad 0) (lt-ltb any (2 * mark) (omega (arith, less, or_add_and any e, and_le_r any e))) u)
          (entry_fits-made e v (omega (arith, less, or_add_and any e, and_le_l any e)) (unmarked (eqb-true plain 0 w)))

      from : (gathered any bad && entry_fits e v) ≡ true → gathered (bit_or any e) (bit_or bad plain) ≡ true
      from h =
          let (s, t) = both (gathered any bad) (entry_fits e v) h in
          let (u, w) = both (ltb any (2 * mark)) (eqb bad 0) s in
          let told = entry_fits-told e v t in
          and-made (ltb (bit_or any e) (2 * mark)) (eqb (bit_or bad plain) 0)
          (lt-ltb (bit_or any e) (2 * mark) (or_lt 9 any e (ltb-true any (2 * mark) u) told.0))
          (or-none bad plain ∙ and-made (eqb bad 0) (eqb plain 0) w (eq-eqb plain 0 (none told.1)))
