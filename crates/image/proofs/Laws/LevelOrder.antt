-- The queue over a sound pool's records. A record stands in one chain only, that of its parent, so what is taken and what waits names no record twice; every
-- record is reached from the root, so none is left out. Hence the level order Q has each record in use once, and Q = the children of the root and of each of Q in turn.
--
--     child-records, child-chain  the children of a record are its chain
--     child-only                  and have it for their parent
--     level-count                 the level order is as long as records are in use
--     level-law                   it is the children of the root and of each of it in turn
--     level_all                   every record in use is in it
--     node_at                     what is taken is the root or in use
--     queued                      what has been put into the queue when k are taken
--     queued-front                it is a leading part of the level order
--     queued-next                 the children of the next one come behind it
--     queued-ahead                the queue is never empty before its end
--     queued-node                 so what is taken from it is the next of the level order
--     queued-all                  in the end it is the level order
-- Assumes nothing.
use Prim.Native.Nat.{ℕ, zero, suc, ◌+◌, ◌≤◌, ◌<◌}
use mathlib.Core.Path.{◌≡◌, refl, sym, ap, ap₂, ◌∙◌, subst}
use mathlib.Core.Logic.{◌⊎◌, inl, inr, ⊎_elim}
use mathlib.Core.List.{List, [], ◌∷◌, ◌++◌, flat_map, append-nil, append_assoc}
use native.Mathlib.Omega.{arith}
use native.Mathlib.Numerals.{add-one}
use lib.ListN.{length, get_or, take, drop, length-append, take-append-drop, get_or-append}
use lib.Seq.{append_snoc, take-suc, take_all}
use borrow.Author.Tests.{eq-eqb, ne_eqb}
use Rattle.keymap.proofs.Laws.Children.{flat_map-append}
use Rattle.records.specs.Words.{Pool, first_child, next_sibling, parent, used_count, InUse, Node}
use Rattle.records.specs.Sound.{Among, Chain, ChildChain, Sound}
use Rattle.records.proofs.Laws.Distinct.{Once, in-append, in_left, in_right, once-append}
use Rattle.records.proofs.Laws.Sound.{rises-distinct}
use Rattle.records.proofs.Laws.Reached.{used-at-most, used-at-least, reached}
use Rattle.keymap.specs.Buffers.{over}
use Rattle.keymap.proofs.Laws.Buffers.{get_d_over}
use Rattle.image.specs.LevelOrder.{sibling_records, child_records, taken_from, level_records}

-- ---- chains

siblings-end : (p : Pool) (f x : ℕ) → x ≡ 0 → sibling_records p f x ≡ []
unfolding sibling_records
siblings-end p zero x e = refl
siblings-end p (suc f) x e = simp (eq-eqb x 0 e)

siblings-next : (p : Pool) (f x : ℕ) → 0 < x → sibling_records p (suc f) x ≡ x ∷ sibling_records p f (next_sibling p x)
unfolding sibling_records
siblings-next p f x h = simp (ne_eqb x 0 (λ e. omega arith))

siblings-chain : (p : Pool) (xs : List ℕ) (f x : ℕ) → Chain (next_sibling p) x xs → length xs ≤ f → sibling_records p f x ≡ xs
siblings-chain p [] f x h l = siblings-end p f x h
siblings-chain p (y ∷ ys) zero x h l = absurd (omega arith)
siblings-chain p (y ∷ ys) (suc f) x h l =
    siblings-next p f x (omega (arith, h.0, h.1))
    ∙ ap₂ (λ (a : ℕ) (zs : List ℕ). a ∷ zs) h.0
    (siblings-chain p ys f (next_sibling p x) (subst (λ (k : ℕ). Chain (next_sibling p) (next_sibling p k) ys) (sym h.0) h.2) (omega arith))

-- ---- the queue

-- what is put into the queue until k are taken, the root first
unfoldable pub queued : Pool → ℕ → List ℕ
queued p k = flat_map (child_records p) (take k (0 ∷ level_records p))

-- what is left in the queue when m are taken
left_from : Pool → ℕ → List ℕ → List ℕ
left_from p zero q = q
left_from p (suc m) [] = []
left_from p (suc m) (c ∷ q) = left_from p m (q ++ child_records p c)

taken-left : (p : Pool) (m : ℕ) (q : List ℕ) → taken_from p m q ++ left_from p m q ≡ q ++ flat_map (child_records p) (taken_from p m q)
unfolding taken_from left_from flat_map
taken-left p zero q = sym (append-nil q)
taken-left p (suc m) [] = refl
taken-left p (suc m) (c ∷ q) =
    ap (λ (zs : List ℕ). c ∷ zs) (taken-left p m (q ++ child_records p c) ∙ append_assoc q (child_records p c) (flat_map (child_records p) (taken_from p m (q ++ child_records p c))))

-- it gives m, unless nothing is left
taken-whole : (p : Pool) (m : ℕ) (q : List ℕ) → (length (taken_from p m q) ≡ m) ⊎ (left_from p m q ≡ [])
unfolding taken_from left_from
taken-whole p zero q = inl refl
taken-whole p (suc m) [] = inr refl
taken-whole p (suc m) (c ∷ q) = ⊎_elim (λ e. inl (ap suc e)) (λ e. inr e) (taken-whole p m (q ++ child_records p c))

taken-ahead : (p : Pool) (m : ℕ) (q : List ℕ) → length (taken_from p m q) ≡ m → (k : ℕ) → k < m → k < length (q ++ flat_map (child_records p) (take k (taken_from p m q)))
unfolding taken_from flat_map
taken-ahead p zero q h k l = absurd (omega arith)
taken-ahead p (suc m) [] h k l = absurd (omega arith)
taken-ahead p (suc m) (c ∷ q) h zero l = omega arith
taken-ahead p (suc m) (c ∷ q) h (suc k) l =
    let r = taken-ahead p m (q ++ child_records p c) (omega arith) k (omega arith) in
    let e = ap length (append_assoc q (child_records p c) (flat_map (child_records p) (take k (taken_from p m (q ++ child_records p c))))) in
    omega (arith, r, e)

once-apart : (c : ℕ) (xs ys : List ℕ) → Once (xs ++ ys) → Among c xs → Among c ys → ⊥
once-apart c [] ys d h m = h
once-apart c (x ∷ xs) ys d (inl e) m = d.0 (subst (λ (k : ℕ). Among k (xs ++ ys)) e (in_right c xs ys m))
once-apart c (x ∷ xs) ys d (inr h) m = once-apart c xs ys d.1 h m

pub get_or-in : (xs : List ℕ) (i : ℕ) → i < length xs → Among (get_or xs i 0) xs
get_or-in [] i l = absurd (omega arith)
get_or-in (x ∷ xs) zero l = inl refl
get_or-in (x ∷ xs) (suc i) l = inr (get_or-in xs i (omega arith))

module _ (p : Pool) (s : Sound p) where
  pub child-records : (c : ℕ) (k : ChildChain p c) → child_records p c ≡ k.kids
  unfolding child_records
  child-records c k =
      siblings-chain p k.kids (used_count p) (first_child p c) k.chain (used-at-most p k.kids (rises-distinct p 0 k.kids k.rising) (λ x m. (k.only x m).0))

  module _ (c : ℕ) (v : Node p c) where
    abbrev asked : ChildChain p c
    asked = s.children c v

    pub child-chain : Chain (next_sibling p) (first_child p c) (child_records p c)
    child-chain = rw (child-records c asked) asked.chain

    child-once : Once (child_records p c)
    child-once = rw (child-records c asked) (rises-distinct p 0 asked.kids asked.rising)

    pub child-only : (x : ℕ) → Among x (child_records p c) → InUse p x × (parent p x ≡ c)
    child-only = rw (child-records c asked) asked.only

    child-all : (x : ℕ) → InUse p x → parent p x ≡ c → Among x (child_records p c)
    child-all = rw (child-records c asked) asked.all

  -- these are taken, and these wait in the queue
  record Met (done q : List ℕ) : Type 0 where
    once : Once (done ++ q)
    used : (x : ℕ) → Among x (done ++ q) → InUse p x
    below : (x : ℕ) → Among x (done ++ q) → Among (parent p x) (0 ∷ done)
    all : (x : ℕ) → InUse p x → Among (parent p x) (0 ∷ done) → Among x (done ++ q)

  met-root : Met [] (child_records p 0)
  met-root = record {
    once = child-once 0 (inl refl);
    used = λ x h. (child-only 0 (inl refl) x h).0;
    below = λ x h. inl (child-only 0 (inl refl) x h).1;
    all = λ x u h. ⊎_elim (λ e. child-all 0 (inl refl) x u e) (λ m. absurd m) h;
  }

  met_next : (done : List ℕ) (c : ℕ) (q : List ℕ) → Met done (c ∷ q) → Met (done ++ (c ∷ [])) (q ++ child_records p c)
  met_next done c q m = record {
    once = rw together (once-append (done ++ c ∷ q) (child_records p c) m.once (child-once c node) apart);
    used = λ x h. ⊎_elim (λ a. m.used x a) (λ b. (child-only c node x b).0) (split x h);
    below = λ x h. ⊎_elim (λ a. further (parent p x) (m.below x a)) (λ b. inr (in_right (parent p x) done (c ∷ []) (inl (child-only c node x b).1))) (split x h);
    all = λ x u h. rw together (⊎_elim (λ a. in_left x (done ++ c ∷ q) (child_records p c) (m.all x u a)) (λ e. in_right x (done ++ c ∷ q) (child_records p c) (child-all c node x u e)) (nearer (parent p x) h));
  }
    where
      node : Node p c
      node = inr (m.used c (in_right c done (c ∷ q) (inl refl)))

      together : (done ++ (c ∷ [])) ++ (q ++ child_records p c) ≡ (done ++ c ∷ q) ++ child_records p c
      together = append_snoc done c (q ++ child_records p c) ∙ sym (append_assoc done (c ∷ q) (child_records p c))

      split : (x : ℕ) → Among x ((done ++ (c ∷ [])) ++ (q ++ child_records p c)) → Among x (done ++ c ∷ q) ⊎ Among x (child_records p c)
      split x h = in-append x (done ++ c ∷ q) (child_records p c) (rw together at h)

      further : (y : ℕ) → Among y (0 ∷ done) → Among y (0 ∷ (done ++ (c ∷ [])))
      further y h = ⊎_elim (λ e. inl e) (λ a. inr (in_left y done (c ∷ []) a)) h

      nearer : (y : ℕ) → Among y (0 ∷ (done ++ (c ∷ []))) → Among y (0 ∷ done) ⊎ (y ≡ c)
      nearer y h = ⊎_elim (λ e. inl (inl e)) (λ a. ⊎_elim (λ b. inl (inr b)) (λ d. ⊎_elim (λ e. inr e) (λ z. absurd z) d) (in-append y done (c ∷ []) a)) h

      apart : (x : ℕ) → Among x (done ++ c ∷ q) → Among x (child_records p c) → ⊥
      apart x a b =
          let e : parent p x ≡ c = (child-only c node x b).1 in
          let u = m.used c (in_right c done (c ∷ q) (inl refl)) in
          ⊎_elim (λ (z : parent p x ≡ 0). omega arith) (λ d. once-apart c done (c ∷ q) m.once (subst (λ (k : ℕ). Among k done) e d) (inl refl)) (m.below x a)

  met-taken : (m : ℕ) (done q : List ℕ) → Met done q → Met (done ++ taken_from p m q) (left_from p m q)
  unfolding taken_from left_from
  met-taken zero done q h = rw (append-nil done) h
  met-taken (suc m) done [] h = rw (append-nil done) h
  met-taken (suc m) done (c ∷ q) h =
      rw append_snoc at (met-taken m (done ++ (c ∷ [])) (q ++ child_records p c) (met_next done c q h))

  abbrev order : List ℕ
  order = level_records p

  waiting : List ℕ
  waiting = left_from p (used_count p) (child_records p 0)

  met_all : Met order waiting
  unfolding level_records waiting
  met_all = met-taken (used_count p) [] (child_records p 0) met-root

  length_none : (xs : List ℕ) → length xs ≡ 0 → xs ≡ []
  length_none [] e = refl
  length_none (x ∷ xs) e = absurd (omega arith)

  none-waits : waiting ≡ []
  unfolding level_records waiting
  none-waits =
      ⊎_elim (λ e. length_none waiting (omega (arith, used-at-most p (order ++ waiting) met_all.once met_all.used, length-append order waiting, e))) (λ e. e) (taken-whole p (used_count p) (child_records p 0))

  met-order : Met order []
  met-order = rw none-waits at met_all

  pub level-once : Once order
  level-once = rw append-nil at met-order.once

  pub level-used : (x : ℕ) → Among x order → InUse p x
  level-used x h = met-order.used x (in_left x order [] h)

  pub level_all : (x : ℕ) → InUse p x → Among x order
  level_all x u = ⊎_elim (λ (e : x ≡ 0). absurd (omega arith)) (λ h. h) (reached p (λ c. Among c (0 ∷ order)) (inl refl) (λ c v h. inr (found c v h)) s x u)
    where
      found : (c : ℕ) → InUse p c → Among (parent p c) (0 ∷ order) → Among c order
      found c v h = ⊎_elim (λ a. a) (λ z. absurd z) (in-append c order [] (met-order.all c v h))

  pub level-count : length order ≡ used_count p
  level-count = omega (arith, used-at-most p order level-once level-used, used-at-least p order level_all)

  pub level-law : order ≡ flat_map (child_records p) (0 ∷ order)
  unfolding level_records flat_map
  level-law = sym (append-nil order) ∙ ap (λ (xs : List ℕ). order ++ xs) (sym none-waits) ∙ (unfold waiting in taken-left p (used_count p) (child_records p 0))

  -- ---- in the midst of it

  pub node_at : (k : ℕ) → k ≤ used_count p → Node p (get_or (0 ∷ order) k 0)
  node_at zero h = inl refl
  node_at (suc k) h = inr (level-used (get_or order k 0) (get_or-in order k (omega (arith, level-count))))

  queued-more : (k : ℕ) → queued p k ++ flat_map (child_records p) (drop k (0 ∷ order)) ≡ order
  unfolding queued
  queued-more k =
      sym (flat_map-append (child_records p) (take k (0 ∷ order)) (drop k (0 ∷ order))) ∙ ap (flat_map (child_records p)) (take-append-drop k (0 ∷ order)) ∙ sym level-law

  pub queued-front : (k : ℕ) → length (queued p k) ≤ used_count p
  queued-front k = omega (arith, ap length (queued-more k), length-append (queued p k) (flat_map (child_records p) (drop k (0 ∷ order))), level-count)

  pub queued-next : (k : ℕ) → k ≤ used_count p → queued p (k + 1) ≡ queued p k ++ child_records p (get_or (0 ∷ order) k 0)
  unfolding queued flat_map
  queued-next k h =
      let more : take (k + 1) (0 ∷ order) ≡ take k (0 ∷ order) ++ (get_or (0 ∷ order) k 0 ∷ []) =
      ap (λ (i : ℕ). take i (0 ∷ order)) (add-one k) ∙ take-suc (0 ∷ order) k 0 (omega (arith, level-count)) in
      ap (flat_map (child_records p)) more
      ∙ flat_map-append (child_records p) (take k (0 ∷ order)) (get_or (0 ∷ order) k 0 ∷ [])
      ∙ ap (λ (xs : List ℕ). flat_map (child_records p) (take k (0 ∷ order)) ++ xs) (append-nil (child_records p (get_or (0 ∷ order) k 0)))

  pub queued-ahead : (k : ℕ) → k ≤ used_count p → k ≤ length (queued p k)
  unfolding queued flat_map
  queued-ahead zero h = omega arith
  queued-ahead (suc k) h = unfold level_records in taken-ahead p (used_count p) (child_records p 0) level-count k (omega arith)

  pub queued-node : (ys : List ℕ) (k : ℕ) → k ≤ used_count p → get_or (0 ∷ over (queued p k) ys) k 0 ≡ get_or (0 ∷ order) k 0
  queued-node ys zero h = refl
  queued-node ys (suc k) h =
      let l : k < length (queued p (suc k)) = queued-ahead (suc k) h in
      get_d_over (queued p (suc k)) ys k l
      ∙ sym (get_or-append (queued p (suc k)) (flat_map (child_records p) (drop (suc k) (0 ∷ order))) 0 k l)
      ∙ ap (λ (xs : List ℕ). get_or xs k 0) (queued-more (suc k))

  pub queued-all : (k : ℕ) → used_count p < k → queued p k ≡ order
  unfolding queued
  queued-all k h = ap (flat_map (child_records p)) (take_all k (0 ∷ order) (omega (arith, level-count))) ∙ sym level-law
