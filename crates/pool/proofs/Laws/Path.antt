-- Laws of paths. The walk by cases, for the loop; then the walk cuts the key in two: bytes that lead to the record reached, and bytes of which the first leads nowhere.
--
--     reach-..        the walk's cases: the key's end, no such child, one step on
--     reach_split     where the walk cuts the key
--     split-..        what that says of the bytes that are missing
-- Assumes nothing.
use Prim.Native.Nat.{ℕ, suc, ◌+◌, ◌≤◌, ◌<◌}
use mathlib.Core.Path.{◌≡◌, refl, ap}
use Rattle.std.specs.Prelude.{Option, None, Some}
use mathlib.Core.List.{[], ◌∷◌, ◌++◌}
use mathlib.Core.Logic.{inl, inr}
use native.Mathlib.Omega.{arith}
use native.Mathlib.Numerals.{add-one}
use lib.ListN.{length, drop, get_or, length-append, drop_of_length-le}
use lib.Seq.{drop-cons, drop-append_seam}
use Rattle.keymap.specs.Key.{Key, Bytes}
use Rattle.records.specs.Words.{Pool, InUse, Node}
use Rattle.records.specs.Sound.{ChildChain}
use Rattle.records.specs.Spelling.{Spells, Stops}
use Rattle.pool.specs.declared.path.Reach.{Reach}
use Rattle.pool.specs.Siblings.{child_at}
use Rattle.pool.specs.Path.{reach_at, on_child, reach_from, reach_of, missing_labels}
use Rattle.pool.proofs.Laws.Siblings.{child-is, child-absent}

module _ (p : Pool) (key : Key) (i d : ℕ) where
  pub reach-end : length key ≤ d → reach_from p i d (drop d key) ≡ reach_at i d
  unfolding reach_from
  reach-end h = rw (drop_of_length-le key h)

  pub reach-none : d < length key → child_at p i (get_or key d 0) ≡ None → reach_from p i d (drop d key) ≡ reach_at i d
  unfolding reach_from
  reach-none l h = rw (drop-cons key d 0 l) (rw h)

  pub reach_step : (c : ℕ) → d < length key → child_at p i (get_or key d 0) ≡ Some c → reach_from p i d (drop d key) ≡ reach_from p c (d + 1) (drop (d + 1) key)
  unfolding reach_from
  reach_step c l h = rw (drop-cons key d 0 l) (rw (h, add-one))

pub reach-of-start : (p : Pool) (key : Key) → reach_of p key ≡ reach_from p 0 0 key
unfolding reach_of
reach-of-start p key = refl

pub record Split (p : Pool) (i d : ℕ) (bs : Key) (r : Reach) : Type 0 where
  pub there : Key
  pub rest : Key
  pub whole : bs ≡ there ++ rest
  pub depth : r.depth ≡ d + length there
  pub spells : Spells p i there r.at
  pub stops : Stops p r.at rest

module _ (p : Pool) (K : (c : ℕ) → Node p c → ChildChain p c) where
  split_from : (bs : Key) (i d : ℕ) → Node p i → Split p i d bs (reach_from p i d bs)
  unfolding reach_from
  split_from [] i d n = record { there = []; rest = []; whole = refl; depth = omega arith; spells = refl; stops = tt }
  split_from (b ∷ bs) i d n = go (child_at p i b) refl (λ c u. split_from bs c (d + 1) (inr u))
    where
      go : (o : Option ℕ) → child_at p i b ≡ o → ((c : ℕ) → InUse p c → Split p c (d + 1) bs (reach_from p c (d + 1) bs))
          → Split p i d (b ∷ bs) (on_child o (λ c. reach_from p c (d + 1) bs) (reach_at i d))
      go None e on = record { there = []; rest = b ∷ bs; whole = refl; depth = omega arith; spells = refl; stops = child-absent p i b (K i n) e }
      go (Some k) e on =
          let c = child-is p i b (K i n) k e in
          let r = on k c.0 in
          record {
            there = b ∷ r.there;
            rest = r.rest;
            whole = ap (λ (l : Key). b ∷ l) r.whole;
            depth = omega (arith, r.depth);
            spells = (k, c, r.spells);
            stops = r.stops;
          }

  pub reach_split : (key : Key) → Split p 0 0 key (reach_of p key)
  unfolding reach_of
  reach_split key = split_from key 0 0 (inl refl)

module _ (p : Pool) (key : Key) (s : Split p 0 0 key (reach_of p key)) where
  pub split_rest : drop (reach_of p key).depth key ≡ s.rest
  split_rest =
      let d : (reach_of p key).depth ≡ length s.there = omega (arith, s.depth) in
      rw d (rw s.whole (drop-append_seam s.there s.rest))

  pub split-missing : missing_labels p key ≡ length s.rest
  unfolding missing_labels
  split-missing = omega (arith, s.depth, ap length s.whole, length-append s.there s.rest)

  pub split-within : (reach_of p key).depth ≤ length key
  split-within = omega (arith, s.depth, ap length s.whole, length-append s.there s.rest)

pub bytes-from : (l : Key) → ((i : ℕ) → get_or l i 0 < 256) → Bytes l
bytes-from [] h = tt
bytes-from (b ∷ bs) h = (h 0, bytes-from bs (λ i. h (suc i)))

pub bytes-right : (xs ys : Key) → Bytes (xs ++ ys) → Bytes ys
bytes-right [] ys h = h
bytes-right (x ∷ xs) ys h = bytes-right xs ys h.1
