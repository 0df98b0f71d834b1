-- What the calls mean. Entering a record changes no key's value: the record is at the end of one path, has no value, and every other record keeps its parent, label and value;
-- marking the record that a key spells gives that key its value and leaves all others. So an accepted push is an insert, and it is refused for room by the map alone.
--
--     reset-means-empty     a pool that was reset holds nothing
--     push-means-insert     an accepted push of a sound pool holds the insert
--     push-means-same       a refused one holds the same map
--     missing-means-missing the labels that the walk misses are the prefixes that the map misses
--     room-means-prefixes   there is room exactly if the map with the key has no more distinct nonempty prefixes than
--                           capacity
--     present-accepted      a key that is present is accepted, also in a full pool
-- Assumes nothing.
use Prim.Native.Nat.{ℕ, ◌+◌, ◌≤◌}
use mathlib.Core.Path.{◌≡◌, refl, sym, ◌∙◌, ap, subst}
use mathlib.Core.Bool.{true, false}
use mathlib.Core.List.{[], ◌∷◌, ◌++◌, append_assoc, append-nil}
use mathlib.Core.Logic.{◌⊎◌, inl, inr, ⊎_elim, ◌↔◌}
use Rattle.std.specs.Prelude.{None, Some}
use native.Mathlib.Omega.{arith}
use native.Mathlib.Nat.{mod-eq_of_lt}
use lib.ListN.{length, drop}
use lib.Dec.{leb}
use borrow.Author.Tests.{lt-leb, le-leb}
use Rattle.keymap.specs.Label.{mark, label_in}
use Rattle.keymap.specs.Key.{Key, Bytes}
use Rattle.keymap.specs.Map.{Entry, insert, lookup}
use Rattle.keymap.specs.Members as members
use Rattle.keymap.specs.Prefixes.{prefixes, missing}
use Rattle.keymap.proofs.Laws.Map.{insert-rising, insert_iff, map-members}
use Rattle.keymap.proofs.Laws.Members.{members-none}
use Rattle.keymap.proofs.Laws.Prefixes.{prefixes-insert, missing-present}
use Rattle.records.specs.Words.{Pool, record_words, word, entry, label, value, record_value, parent, last_record, used_count, InUse, Node, next_record, capacity}
use Rattle.records.specs.Sound.{Sound}
use Rattle.records.specs.Spelling.{ChildBy, Spells}
use Rattle.records.specs.Meaning.{pool_map, Holds}
use Rattle.records.proofs.Laws.Distinct.{equal_or_not}
use Rattle.records.proofs.Laws.Words.{next-unused, in-use-taken, in-use-stays, next-in-use}
use Rattle.records.proofs.Laws.Sound.{used-within, none-in-use}
use Rattle.records.proofs.Laws.SoundTest.{sound-test}
use Rattle.records.proofs.Laws.Spelling.{spells-child, spells-one-path, spells-one-record}
use Rattle.records.proofs.Laws.Meaning.{map-rising, map-holds, count-prefixes, missing-rest}
use Rattle.pool.specs.Answers.{accepted}
use Rattle.pool.specs.Siblings.{slot_of}
use Rattle.pool.specs.Path.{reach_of, missing_labels}
use Rattle.pool.specs.Writing.{Inside, marked}
use Rattle.pool.specs.Entering.{entered, entered_all, last_entered, SoundBut, CanEnter, CanEnterAll}
use Rattle.pool.specs.Reset.{reset_pool}
use Rattle.pool.specs.Push.{inserted_at, inserted, has_room, push_says, push_pool}
use Rattle.pool.proofs.Laws.Path.{Split, reach_split, split_rest, split-missing}
use Rattle.pool.proofs.Laws.Writing.{marked_other, marked-entry, marked-value, marked-label, marked-last}
use Rattle.pool.proofs.Laws.Entering.{Entered, enter-words, can-enter, can-enter-rest, EnteredAll, entered_all_lem, parent-or-root, node-inside}
use Rattle.pool.proofs.Laws.Reset.{reset-sound, reset-count}
use Rattle.pool.proofs.Laws.Push.{tested-done, push-tested, push-accepted, can-insert, end-in-use, insert-keeps}

-- ---- a record entered
module _ (p : Pool) (i b : ℕ) (can : CanEnter p i b) where
  abbrev q : Pool
  q = entered p i b

  abbrev m : ℕ
  m = next_record p

  A : Entered p q i b m (slot_of p i b).prev (slot_of p i b).next
  A = enter-words p i b can

  kept : (c l : ℕ) → InUse p c → (l ≡ 0) ⊎ ((l ≡ 1) ⊎ (l ≡ 4)) → word q c l ≡ word p c l
  kept c l u w =
      A.same c l (⊎_elim (λ (e : l ≡ 0). omega arith) (λ v. ⊎_elim (λ (e : l ≡ 1). omega arith) (λ (e : l ≡ 4). omega arith) v) w)
      (λ e. next-unused p (subst (Node p) e (inr u))) (λ e z. omega (arith, u.0))
      (λ e z t. ⊎_elim (λ (x : l ≡ 0). omega arith) (λ v. ⊎_elim (λ (x : l ≡ 1). omega arith) (λ (x : l ≡ 4). omega arith) v) w)
      (λ e z t. ⊎_elim (λ (x : l ≡ 0). omega arith) (λ v. ⊎_elim (λ (x : l ≡ 1). omega arith) (λ (x : l ≡ 4). omega arith) v) w)

  entry_kept : (c : ℕ) → InUse p c → entry q c ≡ entry p c
  entry_kept c u = kept c 0 u (inl refl)

  value-kept : (c : ℕ) → InUse p c → value q c ≡ value p c
  value-kept c u = kept c 1 u (inr (inl refl))

  parent-kept : (c : ℕ) → InUse p c → parent q c ≡ parent p c
  parent-kept c u = kept c 4 u (inr (inr refl))

  child-stays : (j c x : ℕ) → ChildBy p j c x → ChildBy q j c x
  child-stays j c x h = (in-use-stays p q A.last x h.0, parent-kept x h.0 ∙ h.1, ap label_in (entry_kept x h.0) ∙ h.2)

  child-back : (j c x : ℕ) → ChildBy q j c x → InUse p x → ChildBy p j c x
  child-back j c x h u = (u, sym (parent-kept x u) ∙ h.1, sym (ap label_in (entry_kept x u)) ∙ h.2)

  pub child-entered : ChildBy q i b m
  child-entered = (next-in-use p q A.last, A.own-parent, ap label_in A.own-entry ∙ mod-eq_of_lt can.byte)

  -- the record entered has no child
  childless : (c x : ℕ) → ChildBy q m c x → ⊥
  childless c x h =
      ⊎_elim (λ u. next-unused p (subst (Node p) (sym (parent-kept x u) ∙ h.1) (parent-or-root p i x can.sound u)))
      (λ (e : x ≡ m). next-unused p (subst (Node p) (sym A.own-parent ∙ ap (λ (k : ℕ). parent q k) (sym e) ∙ h.1) can.node)) (in-use-taken p q A.last x h.0)

  pub spells-stays : (j : ℕ) (bs : Key) (c : ℕ) → Spells p j bs c → Spells q j bs c
  spells-stays j [] c h = h
  spells-stays j (b ∷ bs) c h = (h.0, child-stays j b h.0 h.1, spells-stays h.0 bs c h.2)

  spells-entered : (bs : Key) (c : ℕ) → Spells q m bs c → c ≡ m
  spells-entered [] c h = sym h
  spells-entered (b ∷ bs) c h = absurd (childless b h.0 h.1)

  spells-back : (j : ℕ) (bs : Key) (c : ℕ) → Spells q j bs c → InUse p c → Spells p j bs c
  spells-back j [] c h u = h
  spells-back j (b ∷ bs) c h u =
      ⊎_elim (λ v. (h.0, child-back j b h.0 h.1 v, spells-back h.0 bs c h.2 u))
      (λ (e : h.0 ≡ m). absurd (next-unused p (subst (Node p) (spells-entered bs c (subst (λ (k : ℕ). Spells q k bs c) e h.2)) (inr u))))
      (in-use-taken p q A.last h.0 h.1.0)

  value-of-kept : (c : ℕ) → InUse p c → record_value q c ≡ record_value p c
  value-of-kept c u = rw (entry_kept c u, value-kept c u)

  enter-holds : (k : Key) (v : ℕ) → Holds q k v ↔ Holds p k v
  enter-holds k v = (
    λ h.
        ⊎_elim (λ u. record { at = h.at; used = u; spelled = spells-back 0 k h.at h.spelled u; valued = sym (value-of-kept h.at u) ∙ h.valued })
        (λ (e : h.at ≡ m).
        let w : record_value q m ≡ Some v = subst (λ (c : ℕ). record_value q c ≡ Some v) e h.valued in
        let n : record_value q m ≡ None = rw A.own-entry (simp (lt-leb _ _ can.byte)) in
        let z : ◌≡◌ {A = ℕ} 0 1 = cc in absurd (omega arith))
        (in-use-taken p q A.last h.at h.used),
    λ h. record { at = h.at; used = in-use-stays p q A.last h.at h.used; spelled = spells-stays 0 k h.at h.spelled; valued = value-of-kept h.at h.used ∙ h.valued },
  )

-- ---- a record for each byte
enter-all-holds : (bs : Key) (p : Pool) (i : ℕ) → CanEnterAll p i bs → (k : Key) (v : ℕ) → Holds (entered_all p i bs) k v ↔ Holds p k v
unfolding entered_all
enter-all-holds [] p i all k v = (λ h. h, λ h. h)
enter-all-holds (b ∷ bs) p i all k v =
    let one = enter-holds p i b (can-enter p i b bs all) k v in
    let rest = enter-all-holds bs (entered p i b) (next_record p) (can-enter-rest p i b bs all) k v in
    (λ h. one.0 (rest.0 h), λ h. rest.1 (one.1 h))

enter-all-spells : (bs : Key) (p : Pool) (i : ℕ) → CanEnterAll p i bs → (k : Key) → Spells p 0 k i → Spells (entered_all p i bs) 0 (k ++ bs) (last_entered p i bs)
unfolding entered_all last_entered
enter-all-spells [] p i all k h = rw (append-nil k) h
enter-all-spells (b ∷ bs) p i all k h =
    let can = can-enter p i b bs all in
    let on = spells-child (entered p i b) 0 k i b (next_record p) (spells-stays p i b can 0 k i h) (child-entered p i b can) in
    rw (← append_assoc k (b ∷ []) bs) (enter-all-spells bs (entered p i b) (next_record p) (can-enter-rest p i b bs all) (k ++ (b ∷ [])) on)

-- ---- the mark
module _ (p : Pool) (t v : ℕ) (s : SoundBut p t) (u : InUse p t) (key : Key) (spelled : Spells p 0 key t) where
  abbrev M : Pool
  M = marked p t v

  inside : Inside p t
  inside = node-inside p t t s (inr u)

  last-same : last_record M ≡ last_record p
  last-same = marked-last p t v u.0

  mark-child : (j b x : ℕ) → ChildBy M j b x ↔ ChildBy p j b x
  mark-child j b x =
      let up = marked_other p t v x 4 (omega arith) (λ e. omega arith) in
      let by = marked-label p t v inside x in
      let l = last-same in
      ((λ h. ((h.0.0, omega (arith, h.0.1)), sym up ∙ h.1, sym by ∙ h.2)), λ h. ((h.0.0, omega (arith, h.0.1)), up ∙ h.1, by ∙ h.2))

  mark-spells : (bs : Key) (j c : ℕ) → Spells M j bs c ↔ Spells p j bs c
  mark-spells [] j c = (λ h. h, λ h. h)
  mark-spells (b ∷ bs) j c =
      (λ h. (h.0, (mark-child j b h.0).0 h.1, (mark-spells bs h.0 c).0 h.2), λ h. (h.0, (mark-child j b h.0).1 h.1, (mark-spells bs h.0 c).1 h.2))

  marked-here : record_value M t ≡ Some v
  marked-here =
      let e = marked-entry p t v inside in
      let w : value M t ≡ v = marked-value p t v inside in
      rw (e, w) (simp (le-leb _ _ (above (label p t))))
    where
      above : (l : ℕ) → mark ≤ l + mark
      above l = omega arith

  marked-elsewhere : (c : ℕ) → (c ≡ t → ⊥) → record_value M c ≡ record_value p c
  marked-elsewhere c ne = rw (marked_other p t v c 0 (omega arith) (λ e. absurd (ne (sym e))), marked_other p t v c 1 (omega arith) (λ e. absurd (ne (sym e))))

  mark-holds : (k : Key) (w : ℕ) → Holds M k w ↔ (((k ≡ key) × (w ≡ v)) ⊎ (Holds p k w × (¬ (k ≡ key))))
  mark-holds k w = (to, from)
    where
      to : Holds M k w → ((k ≡ key) × (w ≡ v)) ⊎ (Holds p k w × (¬ (k ≡ key)))
      to h =
          let l = last-same in
          let way = (mark-spells k 0 h.at).0 h.spelled in
          ⊎_elim
          (λ (e : h.at ≡ t).
          let a : record_value M t ≡ Some w = subst (λ (c : ℕ). record_value M c ≡ Some w) e h.valued in
          let b = marked-here in
          inl (spells-one-path p k key t (subst (λ (c : ℕ). Spells p 0 k c) e way) spelled, cc))
          (λ (ne : h.at ≡ t → ⊥).
          inr (
            record { at = h.at; used = (h.used.0, omega (arith, h.used.1)); spelled = way; valued = sym (marked-elsewhere h.at ne) ∙ h.valued },
            λ q. ne (spells-one-record p s.children 0 key h.at t (inl refl) (subst (λ (x : Key). Spells p 0 x h.at) q way) spelled),
          ))
          (equal_or_not h.at t)

      from : ((k ≡ key) × (w ≡ v)) ⊎ (Holds p k w × (¬ (k ≡ key))) → Holds M k w
      from (inl r) =
          let l = last-same in
          record {
            at = t;
            used = (u.0, omega (arith, u.1));
            spelled = (mark-spells k 0 t).1 (subst (λ (x : Key). Spells p 0 x t) (sym r.0) spelled);
            valued = marked-here ∙ ap Some (sym r.1);
          }
      from (inr r) =
          let l = last-same in
          let h = r.0 in
          record {
            at = h.at;
            used = (h.used.0, omega (arith, h.used.1));
            spelled = (mark-spells k 0 h.at).1 h.spelled;
            valued = marked-elsewhere h.at (λ e. r.1 (spells-one-path p k key t (subst (λ (c : ℕ). Spells p 0 k c) e h.spelled) spelled)) ∙ h.valued;
          }

-- ---- the insert
module _ (p : Pool) (key : Key) (v : ℕ) (s : Sound p) (bytes : Bytes key) (nonempty : length key ≡ 0 → ⊥) (room : used_count p + missing_labels p key ≤ capacity p) where
  abbrev at : ℕ
  at = (reach_of p key).at

  abbrev rest : Key
  rest = drop (reach_of p key).depth key

  cut : Split p 0 0 key (reach_of p key)
  cut = reach_split p s.children key

  can : CanEnterAll p at rest
  can = can-insert p key v s bytes nonempty room

  all : EnteredAll p at rest
  all = entered_all_lem rest p at can

  end-spelled : Spells (entered_all p at rest) 0 key (last_entered p at rest)
  end-spelled =
      let e : cut.there ++ rest ≡ key = ap (λ (r : Key). cut.there ++ r) (split_rest p key cut) ∙ sym cut.whole in
      subst (λ (k : Key). Spells (entered_all p at rest) 0 k (last_entered p at rest)) e (enter-all-spells rest p at can cut.there cut.spells)

  insert-holds : (k : Key) (w : ℕ) → Holds (inserted p key v) k w ↔ (((k ≡ key) × (w ≡ v)) ⊎ (Holds p k w × (¬ (k ≡ key))))
  unfolding inserted inserted_at
  insert-holds k w =
      let m = mark-holds (entered_all p at rest) (last_entered p at rest) v all.sound (end-in-use p key v s bytes nonempty room) key end-spelled k w in
      let e = enter-all-holds rest p at can k w in
      (λ h. ⊎_elim (λ l. inl l) (λ r. inr (e.0 r.0, r.1)) (m.0 h), λ h. m.1 (⊎_elim (λ l. inl l) (λ r. inr (e.1 r.0, r.1)) h))

  pub insert-means : pool_map (inserted p key v) ≡ insert key v (pool_map p)
  insert-means =
      let kept = insert-keeps p key v s bytes nonempty room in
      map-members (pool_map (inserted p key v)) (insert key v (pool_map p)) (map-rising (inserted p key v) kept) (insert-rising key v (pool_map p) (map-rising p s)) (λ e. (to e, from e))
    where
      kept : Sound (inserted p key v)
      kept = insert-keeps p key v s bytes nonempty room

      to : (e : Entry) → members.In e (pool_map (inserted p key v)) → members.In e (insert key v (pool_map p))
      to e i =
          (insert_iff key v (pool_map p) (map-rising p s) e).1
          (⊎_elim (λ r. inl (λ t. (r.0 t, r.1 t))) (λ r. inr ((map-holds p s e.0 e.1).1 r.0, r.1)) ((insert-holds e.0 e.1).0 ((map-holds (inserted p key v) kept e.0 e.1).0 i)))

      from : (e : Entry) → members.In e (insert key v (pool_map p)) → members.In e (pool_map (inserted p key v))
      from e i =
          (map-holds (inserted p key v) kept e.0 e.1).1
          ((insert-holds e.0 e.1).1
          (⊎_elim (λ r. inl (ap (λ (d : Entry). d.0) r, ap (λ (d : Entry). d.1) r)) (λ r. inr ((map-holds p s e.0 e.1).0 r.0, r.1)) ((insert_iff key v (pool_map p) (map-rising p s) e).0 i)))

-- ---- the calls
pub reset-means-empty : (p : Pool) → record_words ≤ length p → pool_map (reset_pool p) ≡ []
reset-means-empty p h =
    members-none (pool_map (reset_pool p)) (λ e i.
    let a = (map-holds (reset_pool p) (reset-sound p h) e.0 e.1).0 i in
    none-in-use (reset_pool p) (reset-sound p h) (reset-count p h) a.at a.used)

module _ (p : Pool) (key : Key) (v : ℕ) where
  pub push-means-insert : Bytes key → accepted (push_says p key) ≡ true → pool_map (push_pool p key v) ≡ insert key v (pool_map p)
  unfolding push_pool
  push-means-insert bytes e = let a = push-accepted p key e in rw e (insert-means p key v a.sound bytes a.nonempty a.room)

  pub push-means-same : accepted (push_says p key) ≡ false → pool_map (push_pool p key v) ≡ pool_map p
  unfolding push_pool
  push-means-same e = rw e

-- ---- room
module _ (p : Pool) (key : Key) (s : Sound p) (nonempty : length key ≡ 0 → ⊥) where
  pub missing-means-missing : missing_labels p key ≡ missing key (pool_map p)
  missing-means-missing =
      let c = reach_split p s.children key in
      let m = missing-rest p s c.there c.rest (reach_of p key).at c.spells c.stops (rw (← c.whole) (omega (arith, nonempty))) in
      split-missing p key c ∙ sym m ∙ ap (λ (k : Key). missing k (pool_map p)) (sym c.whole)

  pub room-means-prefixes : (v : ℕ) → has_room p key ≡ leb (length (prefixes (insert key v (pool_map p)))) (capacity p)
  unfolding has_room
  room-means-prefixes v =
      let e : used_count p + missing_labels p key ≡ length (prefixes (insert key v (pool_map p))) =
      omega (arith, prefixes-insert key v (pool_map p) (map-rising p s), count-prefixes p s, missing-means-missing) in
      ap (λ (n : ℕ). leb n (capacity p)) e

  pub present-accepted : (w : ℕ) → lookup key (pool_map p) ≡ Some w → push_says p key ≡ 0 ∷ []
  present-accepted w e =
      let z = missing-present key w (pool_map p) (map-rising p s) e in
      let n = missing-means-missing in
      sym (tested-done p key nonempty (omega (arith, used-within p s)) ∙ push-tested p key s.rooted (sound-test p s))
