-- What a push leaves as it was. Entering a record writes that record, the root's words, and the link of its parent or of the sibling before it; below a record that was
-- itself just entered there are no siblings. So of the records in use before only the one that the key reaches and one sibling below it are written, and of the others those that are taken.
--
--     push-unused      a record that is not in use afterwards keeps its words
--     push-untaken     so do the records behind the missing labels' own
--     push-surplus     and the surplus words
--     push-others      and a record in use that the key does not reach and that stands before no record entered
-- Assumes nothing.
use Prim.Native.Nat.{ℕ, ◌+◌, ◌*◌, ◌/◌, ◌%◌, ◌≤◌, ◌<◌}
use mathlib.Core.Path.{◌≡◌, refl, sym, ◌∙◌, ap, subst}
use mathlib.Core.Bool.{Bool, true, false}
use mathlib.Core.List.{[], ◌∷◌}
use mathlib.Core.Logic.{inl, inr, ⊎_elim}
use native.Mathlib.Omega.{arith}
use lib.ListN.{length, drop, get_or, drop_of_length-le}
use lib.Seq.{drop-cons}
use Rattle.keymap.specs.Key.{Key, Bytes}
use Rattle.records.specs.Words.{Pool, record_words, word, first_child, last_record, used_count, InUse, Node, next_record, capacity}
use Rattle.records.specs.Sound.{Sound}
use Rattle.records.proofs.Laws.Distinct.{below_or_not}
use Rattle.records.proofs.Laws.Words.{word_at, count-last, node-within, next-unused, in-use-stays}
use Rattle.pool.specs.declared.siblings.Slot.{Slot}
use Rattle.pool.specs.Answers.{accepted}
use Rattle.pool.specs.Siblings.{slot_of}
use Rattle.pool.specs.Path.{reach_of, missing_labels}
use Rattle.pool.specs.Entering.{entered, entered_all, last_entered, CanEnter, CanEnterAll}
use Rattle.pool.specs.Push.{inserted_at, inserted, push_says, push_pool}
use Rattle.pool.proofs.Laws.Siblings.{slot-from-end, slot-of-start, slot-prev-node}
use Rattle.pool.proofs.Laws.Path.{reach_split, split_rest, split-missing}
use Rattle.pool.proofs.Laws.Writing.{marked_other, marked-last}
use Rattle.pool.proofs.Laws.Entering.{enter-words, enter-node, can-enter, can-enter-rest, entered_all_lem}
use Rattle.pool.proofs.Laws.Push.{push-accepted, can-insert, end-in-use}

-- ---- records entered
module _ (p : Pool) (i b : ℕ) (can : CanEnter p i b) where
  use-stays : (c : ℕ) → InUse p c → InUse (entered p i b) c
  use-stays c u = in-use-stays p (entered p i b) (enter-words p i b can).last c u

  node_stays : (c : ℕ) → Node p c → Node (entered p i b) c
  node_stays c h = ⊎_elim (λ e. inl e) (λ u. inr (use-stays c u)) h

  enter-unused : (c l : ℕ) → l < record_words → (Node (entered p i b) c → ⊥) → word (entered p i b) c l ≡ word p c l
  enter-unused c l h out =
      let known : (d : ℕ) → c ≡ d → Node p d → ⊥ = λ d e n. out (subst (Node (entered p i b)) (sym e) (node_stays d n)) in
      (enter-words p i b can).same c l h (λ e. out (subst (Node (entered p i b)) (sym e) (enter-node p i b can))) (λ e z. known 0 e (inl refl))
      (λ e z t. known i e can.node) (λ e z t. known (slot_of p i b).prev e (slot-prev-node p i b (can.sound.children i can.node)))

  enter-others : (c l : ℕ) → l < record_words → InUse p c → (c ≡ i → ⊥) → (c ≡ (slot_of p i b).prev → ((slot_of p i b).prev ≡ 0 → ⊥) → ⊥)
      → word (entered p i b) c l ≡ word p c l
  enter-others c l h u ni na =
      (enter-words p i b can).same c l h (λ e. next-unused p (subst (Node p) e (inr u))) (λ e z. omega (arith, u.0)) (λ e z t. ni e) (λ e z t. na e t)

node-stays-all : (bs : Key) (p : Pool) (i : ℕ) → CanEnterAll p i bs → (c : ℕ) → Node p c → Node (entered_all p i bs) c
unfolding entered_all
node-stays-all [] p i all c n = n
node-stays-all (b ∷ bs) p i all c n =
    node-stays-all bs (entered p i b) (next_record p) (can-enter-rest p i b bs all) c (node_stays p i b (can-enter p i b bs all) c n)

enter-all-unused : (bs : Key) (p : Pool) (i : ℕ) → CanEnterAll p i bs → (c l : ℕ) → l < record_words → (Node (entered_all p i bs) c → ⊥)
    → word (entered_all p i bs) c l ≡ word p c l
unfolding entered_all
enter-all-unused [] p i all c l h out = refl
enter-all-unused (b ∷ bs) p i all c l h out =
    let rest = can-enter-rest p i b bs all in
    enter-all-unused bs (entered p i b) (next_record p) rest c l h out
    ∙ enter-unused p i b (can-enter p i b bs all) c l h (λ n. out (node-stays-all bs (entered p i b) (next_record p) rest c n))

-- below a record without children no sibling stands before what is entered
enter-leaf-others : (bs : Key) (p : Pool) (i : ℕ) → CanEnterAll p i bs → first_child p i ≡ 0 → (c l : ℕ) → l < record_words → InUse p c → (c ≡ i → ⊥)
    → word (entered_all p i bs) c l ≡ word p c l
unfolding entered_all
enter-leaf-others [] p i all leaf c l h u ni = refl
enter-leaf-others (b ∷ bs) p i all leaf c l h u ni =
    let can = can-enter p i b bs all in
    let none : (slot_of p i b).prev ≡ 0 = ap (λ (s : Slot). s.prev) (slot-of-start p i b ∙ slot-from-end p (last_record p) 0 (first_child p i) b leaf) in
    enter-leaf-others bs (entered p i b) (next_record p) (can-enter-rest p i b bs all) (enter-words p i b can).own-child c l h (use-stays p i b can c u)
    (λ e. next-unused p (subst (Node p) e (inr u)))
    ∙ enter-others p i b can c l h u ni (λ e t. t none)

enter-all-others : (b : ℕ) (bs : Key) (p : Pool) (i : ℕ) → CanEnterAll p i (b ∷ bs) → (c l : ℕ) → l < record_words → InUse p c → (c ≡ i → ⊥) → (c ≡ (slot_of p i b).prev → ⊥)
    → word (entered_all p i (b ∷ bs)) c l ≡ word p c l
unfolding entered_all
enter-all-others b bs p i all c l h u ni na =
    let can = can-enter p i b bs all in
    enter-leaf-others bs (entered p i b) (next_record p) (can-enter-rest p i b bs all) (enter-words p i b can).own-child c l h (use-stays p i b can c u)
    (λ e. next-unused p (subst (Node p) e (inr u)))
    ∙ enter-others p i b can c l h u ni (λ e t. na e)

last-entered-unused : (b : ℕ) (bs : Key) (p : Pool) (i : ℕ) → CanEnterAll p i (b ∷ bs) → (c : ℕ) → InUse p c → last_entered p i (b ∷ bs) ≡ c → ⊥
unfolding last_entered
last-entered-unused b [] p i all c u e = next-unused p (subst (Node p) (sym e) (inr u))
last-entered-unused b (d ∷ bs) p i all c u e =
    last-entered-unused d bs (entered p i b) (next_record p) (can-enter-rest p i b (d ∷ bs) all) c (use-stays p i b (can-enter p i b (d ∷ bs) all) c u) e

-- ---- the insert
module _ (p : Pool) (key : Key) (v : ℕ) (s : Sound p) (bytes : Bytes key) (nonempty : length key ≡ 0 → ⊥) (room : used_count p + missing_labels p key ≤ capacity p) where
  abbrev at : ℕ
  at = (reach_of p key).at

  abbrev rest : Key
  rest = drop (reach_of p key).depth key

  can : CanEnterAll p at rest
  can = can-insert p key v s bytes nonempty room

  end : InUse (entered_all p at rest) (last_entered p at rest)
  end = end-in-use p key v s bytes nonempty room

  last-inserted : last_record (inserted p key v) ≡ last_record (entered_all p at rest)
  unfolding inserted inserted_at
  last-inserted = marked-last (entered_all p at rest) (last_entered p at rest) v end.0

  insert-unused : (c l : ℕ) → l < record_words → (Node (inserted p key v) c → ⊥) → word (inserted p key v) c l ≡ word p c l
  unfolding inserted inserted_at
  insert-unused c l h out =
      let e = last-inserted in
      let away : Node (entered_all p at rest) c → ⊥ = λ n. out (⊎_elim (λ z. inl z) (λ u. inr (u.0, omega (arith, u.1))) n) in
      marked_other (entered_all p at rest) (last_entered p at rest) v c l h (λ t. absurd (away (subst (Node (entered_all p at rest)) t (inr end))))
      ∙ enter-all-unused rest p at can c l h away

  insert-last : last_record (inserted p key v) ≡ used_count p + missing_labels p key
  insert-last =
      let cut = reach_split p s.children key in
      omega (arith, last-inserted, (entered_all_lem rest p at can).count, count-last (entered_all p at rest), ap length (split_rest p key cut), split-missing p key cut)

  -- the sibling before the first record that is entered, 0 if there is none
  abbrev before : ℕ
  before = (slot_of p at (get_or key (reach_of p key).depth 0)).prev

  all_others : (c l : ℕ) → l < record_words → InUse p c → (c ≡ at → ⊥) → (c ≡ before → ⊥)
      → (bs : Key) → CanEnterAll p at bs → ((b : ℕ) (ds : Key) → bs ≡ b ∷ ds → b ≡ get_or key (reach_of p key).depth 0)
      → (word (entered_all p at bs) c l ≡ word p c l) × (last_entered p at bs ≡ c → ⊥)
  unfolding entered_all last_entered
  all_others c l h u na nb [] all first = (refl, λ e. na (sym e))
  all_others c l h u na nb (b ∷ ds) all first =
      let e = first b ds refl in (
        enter-all-others b ds p at all c l h u na (λ t. nb (t ∙ ap (λ (k : ℕ). (slot_of p at k).prev) e)),
        last-entered-unused b ds p at all c u,
      )

  rest-first : (b : ℕ) (ds : Key) → rest ≡ b ∷ ds → b ≡ get_or key (reach_of p key).depth 0
  rest-first b ds e =
      ⊎_elim (λ (l : (reach_of p key).depth < length key). let c = sym e ∙ drop-cons key (reach_of p key).depth 0 l in cc)
      (λ (l : length key ≤ (reach_of p key).depth). absurd (omega (arith, ap length (sym e ∙ drop_of_length-le key l)))) (below_or_not (reach_of p key).depth (length key))

  insert-others : (c l : ℕ) → l < record_words → InUse p c → (c ≡ at → ⊥) → (c ≡ before → ⊥) → word (inserted p key v) c l ≡ word p c l
  unfolding inserted inserted_at
  insert-others c l h u na nb =
      let r = all_others c l h u na nb rest can rest-first in
      marked_other (entered_all p at rest) (last_entered p at rest) v c l h (λ t. absurd (r.1 t)) ∙ r.0

-- ---- the push
push-same : (p : Pool) (key : Key) (v : ℕ) → accepted (push_says p key) ≡ false → push_pool p key v ≡ p
unfolding push_pool
push-same p key v e = rw e

push-inserted : (p : Pool) (key : Key) (v : ℕ) → accepted (push_says p key) ≡ true → push_pool p key v ≡ inserted p key v
unfolding push_pool
push-inserted p key v e = rw e

module _ (p : Pool) (key : Key) (v : ℕ) (bytes : Bytes key) where
  -- for a claim about the words of the pool after a push: it is the same pool, or that of an insert into a sound one
  of-push : (c l : ℕ)
      → (accepted (push_says p key) ≡ true → (s : Sound p) → (length key ≡ 0 → ⊥) → used_count p + missing_labels p key ≤ capacity p → word (inserted p key v) c l ≡ word p c l)
      → word (push_pool p key v) c l ≡ word p c l
  of-push c l h = go (accepted (push_says p key)) refl
    where
      go : (t : Bool) → accepted (push_says p key) ≡ t → word (push_pool p key v) c l ≡ word p c l
      go true e =
          let a = push-accepted p key e in ap (λ (q : Pool). word q c l) (push-inserted p key v e) ∙ h e a.sound a.nonempty a.room
      go false e = ap (λ (q : Pool). word q c l) (push-same p key v e)

  pub push-unused : (c l : ℕ) → l < record_words → (Node (push_pool p key v) c → ⊥) → word (push_pool p key v) c l ≡ word p c l
  push-unused c l h out =
      of-push c l (λ e s n r. insert-unused p key v s bytes n r c l h (λ u. out (subst (λ (q : Pool). Node q c) (sym (push-inserted p key v e)) u)))

  pub push-untaken : (c l : ℕ) → l < record_words → used_count p + missing_labels p key < c → word (push_pool p key v) c l ≡ word p c l
  push-untaken c l h far =
      of-push c l (λ e s n r. insert-unused p key v s bytes n r c l h (λ u. omega (arith, node-within (inserted p key v) c u, insert-last p key v s bytes n r)))

  pub push-surplus : (j : ℕ) → record_words * (capacity p + 1) ≤ j → get_or (push_pool p key v) j 0 ≡ get_or p j 0
  push-surplus j h =
      let c : ℕ = j / record_words in
      word_at (push_pool p key v) j
      ∙ of-push (j / record_words) (j % record_words) (λ e s n r.
      insert-unused p key v s bytes n r (j / record_words) (j % record_words) (omega arith)
      (λ u. omega (arith, node-within (inserted p key v) (j / record_words) u, insert-last p key v s bytes n r)))
      ∙ sym (word_at p j)

  pub push-others : (c l : ℕ) → l < record_words → InUse p c → (c ≡ (reach_of p key).at → ⊥) → (c ≡ (slot_of p (reach_of p key).at (get_or key (reach_of p key).depth 0)).prev → ⊥)
      → word (push_pool p key v) c l ≡ word p c l
  push-others c l h u na nb = of-push c l (λ e s n r. insert-others p key v s bytes n r c l h u na nb)
