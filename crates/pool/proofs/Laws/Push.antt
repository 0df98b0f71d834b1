-- Laws of push. Its cases; then an accepted push keeps a pool sound, since where the walk stops the key's next byte leads nowhere, so the missing records can be entered,
-- and marking the last of them leaves no record unfinished.
--
--     tested-..        what a tested pool answers in each case
--     push-..          what any pool answers in each case, and what is left of it
--     can-insert       where there is room the missing records can be entered
--     insert-keeps     an insert keeps a pool sound
--     push-keeps       so does a push, whatever it answers
-- Assumes nothing.
use Prim.Native.Nat.{ℕ, ◌+◌, ◌-◌, ◌≤◌, ◌<◌}
use mathlib.Core.Path.{◌≡◌, refl, sym, ◌∙◌, ap, subst}
use mathlib.Core.Bool.{Bool, true, false, cond}
use mathlib.Core.List.{[], ◌∷◌}
use mathlib.Core.Logic.{◌⊎◌, inl, inr, ⊎_elim}
use native.Mathlib.Omega.{arith}
use lib.ListN.{length, drop, length-append}
use lib.Dec.{leb, ltb, eqb}
use borrow.Author.Tests.{le-ltb, lt-ltb, le-leb, lt-leb, eq-eqb, ne_eqb, leb-true, eqb-false}
use Rattle.keymap.specs.Key.{Key, Bytes}
use Rattle.keymap.specs.Refusals.{refuses}
use Rattle.keymap.specs.declared.refusals.Refusal.{Refusal}
use Rattle.records.specs.Words.{Pool, record_words, used_count, InUse, Node, capacity}
use Rattle.records.specs.Sound.{Sound}
use Rattle.records.specs.SoundTest.{sound_test, check_sound}
use Rattle.records.proofs.Laws.Spelling.{spells-node, spells-in-use}
use Rattle.records.proofs.Laws.SoundTest.{test-sound}
use Rattle.std.specs.Prelude.{Result, Ok, Err}
use Rattle.pool.specs.declared.path.Reach.{Reach}
use Rattle.pool.specs.Answers.{said_pushed, accepted}
use Rattle.pool.specs.Path.{reach_of, missing_labels}
use Rattle.pool.specs.Writing.{marked, Inside}
use Rattle.pool.specs.Entering.{entered_all, last_entered, CanEnterAll}
use Rattle.pool.specs.Push.{inserted_at, inserted, has_room, tested_says, push_says, push_pool, TestedPush}
use Rattle.pool.proofs.Laws.Path.{Split, reach_split, split_rest, split-missing, split-within, bytes-right}
use Rattle.pool.proofs.Laws.Writing.{length_marked}
use Rattle.pool.proofs.Laws.Entering.{sound-but, node-inside, EnteredAll, entered_all_lem, mark-keeps}

module _ (p : Pool) (key : Key) where
  pub tested-empty : length key ≡ 0 → refuses Refusal.EmptyKey ≡ tested_says p key
  unfolding tested_says
  tested-empty h = simp (eq-eqb _ _ h)

  pub tested-full : (length key ≡ 0 → ⊥) → capacity p < used_count p + missing_labels p key → refuses Refusal.NoRoom ≡ tested_says p key
  unfolding tested_says has_room
  tested-full n h = simp (ne_eqb _ _ n, lt-leb _ _ h)

  pub tested-done : (length key ≡ 0 → ⊥) → used_count p + missing_labels p key ≤ capacity p → 0 ∷ [] ≡ tested_says p key
  unfolding tested_says has_room
  tested-done n h = simp (ne_eqb _ _ n, le-leb _ _ h)

  pub missing-reach : (r : Reach) → r ≡ reach_of p key → missing_labels p key ≡ length key - r.depth
  unfolding missing_labels
  missing-reach r e = rw e refl

  pub push-small : length p < record_words → refuses Refusal.PoolTooSmall ≡ push_says p key
  unfolding push_says
  push-small h = simp (lt-ltb _ _ h)

  pub push-unsound : record_words ≤ length p → sound_test p ≡ false → refuses Refusal.NotAPool ≡ push_says p key
  unfolding push_says
  push-unsound h e = simp (le-ltb _ _ h, e)

  pub push-tested : record_words ≤ length p → sound_test p ≡ true → tested_says p key ≡ push_says p key
  unfolding push_says
  push-tested h e = simp (le-ltb _ _ h, e)

  -- a refusal leaves the pool as it was
  pub push-refused : (v : ℕ) (r : Result (Unit {0}) Refusal) → said_pushed r ≡ push_says p key → accepted (said_pushed r) ≡ false → p ≡ push_pool p key v
  unfolding push_pool
  push-refused v r e f = rw (← e, f)

  -- a refusal of the pool is the push's, and leaves the pool as it was
  pub push-unchecked : (v : ℕ) (r : Refusal) → check_sound p ≡ Err r → (refuses r ≡ push_says p key) × (p ≡ push_pool p key v)
  unfolding check_sound push_says push_pool
  push-unchecked v r e = go (ltb (length p) record_words) (sound_test p) e
    where
      go : (t u : Bool) → cond t (Err Refusal.PoolTooSmall) (cond u (Ok (tt {0})) (Err Refusal.NotAPool)) ≡ Err r
          → (refuses r ≡ cond t (refuses Refusal.PoolTooSmall) (cond u (tested_says p key) (refuses Refusal.NotAPool)))
          × (p ≡ cond (accepted (cond t (refuses Refusal.PoolTooSmall) (cond u (tested_says p key) (refuses Refusal.NotAPool)))) (inserted p key v) p)
      go true u q = let k : Refusal.PoolTooSmall ≡ r = cc in (ap refuses (sym k), refl)
      go false true q = absurd (cc)
      go false false q = let k : Refusal.NotAPool ≡ r = cc in (ap refuses (sym k), refl)

  pub push-left : (v : ℕ) (q : Pool) → tested_says p key ≡ push_says p key → q ≡ cond (accepted (tested_says p key)) (inserted p key v) p → q ≡ push_pool p key v
  unfolding push_pool
  push-left v q e f = f ∙ rw e refl

-- ---- the insert
module _ (p : Pool) (key : Key) (v : ℕ) (s : Sound p) (bytes : Bytes key) (nonempty : length key ≡ 0 → ⊥) (room : used_count p + missing_labels p key ≤ capacity p) where
  abbrev r : Reach
  r = reach_of p key

  cut : Split p 0 0 key (reach_of p key)
  cut = reach_split p s.children key

  reached-node : Node p r.at
  reached-node = spells-node p 0 cut.there r.at (inl refl) cut.spells

  can-rest : CanEnterAll p r.at cut.rest
  can-rest = record {
    sound = sound-but p r.at s;
    node = reached-node;
    bytes = bytes-right cut.there cut.rest (subst Bytes cut.whole bytes);
    ends = cut.stops;
    room = omega (arith, split-missing p key cut);
  }

  pub can-insert : CanEnterAll p (reach_of p key).at (drop (reach_of p key).depth key)
  can-insert = rw (split_rest p key cut) can-rest

  all-entered : EnteredAll p r.at (drop r.depth key)
  all-entered = entered_all_lem (drop r.depth key) p r.at can-insert

  lens : length key ≡ length cut.there + length cut.rest
  lens = ap length cut.whole ∙ length-append cut.there cut.rest

  started : (0 < r.at) ⊎ (0 < length (drop r.depth key))
  started = go cut.there refl
    where
      go : (xs : Key) → xs ≡ cut.there → (0 < r.at) ⊎ (0 < length (drop r.depth key))
      go [] q = inr (rw (split_rest p key cut) (omega (arith, lens, nonempty, ap length q)))
      go (x ∷ xs) q = inl (spells-in-use p 0 cut.there r.at (inr (omega (arith, ap length q))) (inl refl) cut.spells).0

  -- the record where the key ends
  pub end-in-use : InUse (entered_all p (reach_of p key).at (drop (reach_of p key).depth key)) (last_entered p (reach_of p key).at (drop (reach_of p key).depth key))
  end-in-use = ⊎_elim (λ z. absurd (omega (arith, all-entered.positive started))) (λ u. u) all-entered.node

  end-within : Inside (entered_all p r.at (drop r.depth key)) (last_entered p r.at (drop r.depth key))
  end-within = node-inside _ (last_entered p r.at (drop r.depth key)) _ all-entered.sound all-entered.node

  pub insert-keeps : Sound (inserted p key v)
  unfolding inserted inserted_at
  insert-keeps =
      mark-keeps (entered_all p r.at (drop r.depth key)) (last_entered p r.at (drop r.depth key)) v all-entered.sound end-in-use

  length_inserted : length (inserted p key v) ≡ length p
  unfolding inserted inserted_at
  length_inserted = length_marked (entered_all p r.at (drop r.depth key)) (last_entered p r.at (drop r.depth key)) v ∙ all-entered.len

-- ---- the promise of a push into a sound pool, where the walk came to r
module _ (p : Pool) (key : Key) (v : ℕ) (s : Sound p) where
  pub tested-refused : (a : Result (Unit {0}) Refusal) → said_pushed a ≡ tested_says p key → accepted (said_pushed a) ≡ false → TestedPush p key v a p
  tested-refused a e f = record { answer = e; left = rw (← e, f); sound = s }

  module _ (r : Reach) (walked : r ≡ reach_of p key) where
    pub depth-within : r.depth ≤ length key
    depth-within = rw walked (split-within p key (reach_split p s.children key))

    pub full-refused : (length key ≡ 0 → ⊥) → capacity p < used_count p + (length key - r.depth) → TestedPush p key v (Err Refusal.NoRoom) p
    full-refused n h = tested-refused (Err Refusal.NoRoom) (tested-full p key n (omega (arith, missing-reach p key r walked))) refl

    module _ (bytes : Bytes key) (nonempty : length key ≡ 0 → ⊥) (room : used_count p + (length key - r.depth) ≤ capacity p) where
      fits : used_count p + missing_labels p key ≤ capacity p
      fits = omega (arith, missing-reach p key r walked)

      pub can-enter-from : CanEnterAll p r.at (drop r.depth key)
      can-enter-from = rw walked (can-insert p key v s bytes nonempty fits)

      pub end-inside : (q : Pool) (t : ℕ) → q ≡ entered_all p r.at (drop r.depth key) → t ≡ last_entered p r.at (drop r.depth key) → Inside q t
      end-inside q t e f = rw (e, f, walked) (end-within p key v s bytes nonempty fits)

      pub done-accepted : (q : Pool) → q ≡ marked (entered_all p r.at (drop r.depth key)) (last_entered p r.at (drop r.depth key)) v → TestedPush p key v (Ok tt) q
      unfolding inserted inserted_at
      done-accepted q e =
          let d = tested-done p key nonempty fits in
          let f : q ≡ inserted p key v = e ∙ rw walked refl in
          record { answer = d; left = rw (← d) f; sound = rw f (insert-keeps p key v s bytes nonempty fits) }

-- ---- what an accepted answer tells
pub record Admitted (p : Pool) (key : Key) : Type 0 where
  pub sound : Sound p
  pub nonempty : length key ≡ 0 → ⊥
  pub room : used_count p + missing_labels p key ≤ capacity p

pub push-accepted : (p : Pool) (key : Key) → accepted (push_says p key) ≡ true → Admitted p key
unfolding push_says tested_says has_room
push-accepted p key e =
    go (ltb (length p) record_words) (sound_test p) (eqb (length key) 0) (leb (used_count p + missing_labels p key) (capacity p)) refl refl refl e
  where
    go : (t u w x : Bool) → sound_test p ≡ u → eqb (length key) 0 ≡ w → leb (used_count p + missing_labels p key) (capacity p) ≡ x
        → accepted (cond t (refuses Refusal.PoolTooSmall) (cond u (cond w (refuses Refusal.EmptyKey) (cond x (0 ∷ []) (refuses Refusal.NoRoom)))
        (refuses Refusal.NotAPool))) ≡ true → Admitted p key
    go true u w x a b c q = let z : ◌≡◌ {A = ℕ} 0 1 = cc in absurd (omega arith)
    go false true true x a b c q = let z : ◌≡◌ {A = ℕ} 0 1 = cc in absurd (omega arith)
    go false true false true a b c q = record { sound = test-sound p a; nonempty = eqb-false (length key) 0 b; room = leb-true _ _ c }
    go false true false false a b c q = let z : ◌≡◌ {A = ℕ} 0 1 = cc in absurd (omega arith)
    go false false w x a b c q = let z : ◌≡◌ {A = ℕ} 0 1 = cc in absurd (omega arith)

pub push-keeps : (p : Pool) (key : Key) (v : ℕ) → Bytes key → Sound p → Sound (push_pool p key v)
unfolding push_pool
push-keeps p key v bytes s = go (accepted (push_says p key)) refl
  where
    go : (t : Bool) → accepted (push_says p key) ≡ t → Sound (cond t (inserted p key v) p)
    go true e = let a = push-accepted p key e in insert-keeps p key v s bytes a.nonempty a.room
    go false e = s

pub length_push : (p : Pool) (key : Key) (v : ℕ) → Bytes key → length (push_pool p key v) ≡ length p
unfolding push_pool
length_push p key v bytes = go (accepted (push_says p key)) refl
  where
    go : (t : Bool) → accepted (push_says p key) ≡ t → length (cond t (inserted p key v) p) ≡ length p
    go true e = let a = push-accepted p key e in length_inserted p key v a.sound bytes a.nonempty a.room
    go false e = refl
