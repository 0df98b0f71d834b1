-- Laws of entering records. The words after one record is entered follow from the puts; with them the chain of its parent is what it was with the record put in by label,
-- every other chain is as it was, and the record's own is empty. So the pool stays sound but for that record, until its child is entered or it is marked.
--
--     Entered                    the words after a record is entered
--     enter-words                they are so after `entered`
--     parent-or-root             the parent of a record in use is the root or in use
--     enter-keeps                it keeps a pool sound but for the record entered
--     can-enter, can-enter-rest  entering many is entering one, then the rest
--     entered_all_lem            what is so after all are entered
--     mark-keeps                 marking the record that is left makes the pool sound
-- Assumes nothing.
use Prim.Native.Nat.{ℕ, ◌+◌, ◌≤◌, ◌<◌}
use mathlib.Core.Path.{◌≡◌, refl, sym, ◌∙◌, ap, subst}
use mathlib.Core.List.{[], ◌∷◌}
use mathlib.Core.Logic.{◌⊎◌, inl, inr, ⊎_elim}
use native.Mathlib.Omega.{arith}
use native.Mathlib.Nat.{mod-eq_of_lt}
use native.Mathlib.Numerals.{add-one}
use lib.ListN.{length, drop, get_or, drop_of_length-le}
use lib.Seq.{drop-cons}
use Rattle.keymap.specs.Limits.{byte_limit}
use Rattle.keymap.specs.Label.{mark, label_in}
use Rattle.keymap.specs.Key.{Key}
use Rattle.records.specs.Words.{Pool, record_words, word, entry, label, value, first_child, next_sibling, parent, last_record, used_count, InUse, Node, next_record, taken, capacity}
use Rattle.records.specs.Sound.{Among, Fits, ChildChain, Sound}
use Rattle.records.specs.Spelling.{Stops}
use Rattle.records.proofs.Laws.Distinct.{equal_or_not}
use Rattle.records.proofs.Laws.Words.{word-put-same, node-within, parent-node, next_last, next-unused, next_fits, length_taken, word-taken, last_taken, in-use-taken, in-use-stays, next-in-use, count-taken}
use Rattle.records.proofs.Laws.Sound.{chain_same, chain-starts, rises-same, rises-distinct, children-most}
use Rattle.pool.specs.declared.siblings.Slot.{Slot}
use Rattle.pool.specs.Siblings.{slot, slot_from, slot_of}
use Rattle.pool.specs.Writing.{Inside, filled, linked, marked}
use Rattle.pool.specs.Entering.{entered_at, entered, entered_all, last_entered, FitsBut, SoundBut, CanEnter, CanEnterAll}
use Rattle.pool.proofs.Laws.Writing.{length-filled, filled-other, filled-parent, filled-sibling, filled-child, filled-value, filled-entry, linked-first, linked-next, length-linked, linked-other, length_marked, marked_other, marked-last, marked-entry, marked-label}
use Rattle.pool.proofs.Laws.Siblings.{placed, in-placed, placed-in, placed-rises, placed-chain, slot-of-start, slot-prev-child, slot-prev-node, slot-next-node}

-- ---- one record entered: the words of q, which is p with record m entered with label b under i, after a and before x
pub record Entered (p q : Pool) (i b m a x : ℕ) : Type 0 where
  pub len : length q ≡ length p
  pub last : last_record q ≡ m
  pub own-entry : entry q m ≡ b
  pub own_value : value q m ≡ 0
  pub own-child : first_child q m ≡ 0
  pub own-sibling : next_sibling q m ≡ x
  pub own-parent : parent q m ≡ i
  pub from-parent : a ≡ 0 → first_child q i ≡ m
  pub from-sibling : (a ≡ 0 → ⊥) → next_sibling q a ≡ m
  pub same : (d l : ℕ) → l < record_words → (d ≡ m → ⊥) → (d ≡ 0 → l ≡ 0 → ⊥) → (d ≡ i → l ≡ 2 → a ≡ 0 → ⊥) → (d ≡ a → l ≡ 3 → (a ≡ 0 → ⊥) → ⊥) → word q d l ≡ word p d l

module _ (p : Pool) (i b m : ℕ) (s : Slot) (mi : i ≡ m → ⊥) (ma : s.prev ≡ m → ⊥) (mz : 0 < m) (inside : Inside p m) (inside_i : Inside p i) (inside_a : Inside p s.prev) where
  abbrev filled_pool : Pool
  filled_pool = filled p m b s.next i

  abbrev linked_pool : Pool
  linked_pool = linked filled_pool i s.prev m

  abbrev taken_pool : Pool
  taken_pool = taken linked_pool m

  length-of-filled : length filled_pool ≡ length p
  length-of-filled = length-filled p m b s.next i

  length-of-linked : length linked_pool ≡ length p
  length-of-linked = length-linked filled_pool i s.prev m ∙ length-of-filled

  of-entered : (l : ℕ) → l < record_words → word taken_pool m l ≡ word filled_pool m l
  of-entered l h = word-taken linked_pool m m l h (λ u v. omega arith) ∙ linked-other filled_pool i s.prev m m l h (λ u v w. mi (sym u)) (λ u v w. ma (sym u))

  entered-at : Entered p (entered_at p i b m s) i b m s.prev s.next
  unfolding entered_at
  entered-at = record {
    len = length_taken linked_pool m ∙ length-of-linked;
    last = last_taken linked_pool m (omega (arith, length-of-linked));
    own-entry = of-entered 0 (omega arith) ∙ filled-entry p m b s.next i inside;
    own_value = of-entered 1 (omega arith) ∙ filled-value p m b s.next i inside;
    own-child = of-entered 2 (omega arith) ∙ filled-child p m b s.next i inside;
    own-sibling = of-entered 3 (omega arith) ∙ filled-sibling p m b s.next i inside;
    own-parent = of-entered 4 (omega arith) ∙ filled-parent p m b s.next i inside;
    from-parent = λ e.
        word-taken linked_pool m i 2 (omega arith) (λ u v. omega arith) ∙ ap (λ (r : Pool). word r i 2) (linked-first filled_pool i s.prev m e) ∙ word-put-same filled_pool i 2 m (omega (arith, length-of-filled));
    from-sibling = λ ne.
        word-taken linked_pool m s.prev 3 (omega arith) (λ u v. omega arith) ∙ ap (λ (r : Pool). word r s.prev 3) (linked-next filled_pool i s.prev m ne)
        ∙ word-put-same filled_pool s.prev 3 m (omega (arith, length-of-filled));
    same = λ d l h nm root first next.
        word-taken linked_pool m d l h root ∙ linked-other filled_pool i s.prev m d l h first next ∙ filled-other p m b s.next i d l h nm;
  }

-- ---- sound but for a record
pub sound-but : (p : Pool) (e : ℕ) → Sound p → SoundBut p e
sound-but p e s = record {
  rooted = s.rooted;
  within = s.within;
  root = s.root;
  fits = λ c u.
      let f = s.fits c u in
      record {
        entry-below = f.entry-below;
        child-within = f.child-within;
        sibling-within = f.sibling-within;
        parent-below = f.parent-below;
        unvalued = λ h. ((f.unvalued h).0, λ _. (f.unvalued h).1);
      };
  children = s.children;
}

pub parent-or-root : (p : Pool) (e c : ℕ) → SoundBut p e → InUse p c → Node p (parent p c)
parent-or-root p e c s u = parent-node p c u (s.fits c u).parent-below

pub node-inside : (p : Pool) (e c : ℕ) → SoundBut p e → Node p c → Inside p c
node-inside p e c s h = let r = s.within in let l = s.rooted in omega (arith, node-within p c h)

module _ (p q : Pool) (i b m a x : ℕ) (s : SoundBut p i) (node : Node p i) (byte : b < byte_limit) (A : Entered p q i b m a x)
    (positive : 0 < m) (unused : Node p m → ⊥) (low : i < m) (within : last_record q ≤ capacity q)
    (known-or-entered : (c : ℕ) → InUse q c → InUse p c ⊎ (c ≡ m)) (stays : (c : ℕ) → InUse p c → InUse q c) (used : InUse q m) (more : last_record p ≤ last_record q)
    (after : (a ≡ 0) ⊎ Among a (s.children i node).kids) (upto : Node p x) (seeks : slot a x ≡ slot_from p (last_record p) 0 (first_child p i) b)
    (absent : (k : ℕ) → Among k (s.children i node).kids → label p k ≡ b → ⊥) where
  abbrev K : ChildChain p i
  K = s.children i node

  a-child : (a ≡ 0 → ⊥) → InUse p a × (parent p a ≡ i)
  a-child na = ⊎_elim (λ z. absurd (na z)) (λ h. K.only a h) after

  other-than : (c : ℕ) → Node p c → c ≡ m → ⊥
  other-than c h e = unused (subst (Node p) e h)

  entry-same : (c : ℕ) → InUse p c → entry q c ≡ entry p c
  entry-same c u = A.same c 0 (omega arith) (other-than c (inr u)) (λ z v. omega arith) (λ z v t. omega arith) (λ z v t. omega arith)

  value_same : (c : ℕ) → Node p c → value q c ≡ value p c
  value_same c h = A.same c 1 (omega arith) (other-than c h) (λ z v. omega arith) (λ z v t. omega arith) (λ z v t. omega arith)

  child-same : (c : ℕ) → Node p c → (c ≡ i → a ≡ 0 → ⊥) → first_child q c ≡ first_child p c
  child-same c h ne = A.same c 2 (omega arith) (other-than c h) (λ z v. omega arith) (λ z v t. ne z t) (λ z v t. omega arith)

  sibling-same : (c : ℕ) → Node p c → (c ≡ a → (a ≡ 0 → ⊥) → ⊥) → next_sibling q c ≡ next_sibling p c
  sibling-same c h ne = A.same c 3 (omega arith) (other-than c h) (λ z v. omega arith) (λ z v t. omega arith) (λ z v t. ne z t)

  parent-same : (c : ℕ) → Node p c → parent q c ≡ parent p c
  parent-same c h = A.same c 4 (omega arith) (other-than c h) (λ z v. omega arith) (λ z v t. omega arith) (λ z v t. omega arith)

  label_same : (c : ℕ) → InUse p c → label q c ≡ label p c
  label_same c u = ap label_in (entry-same c u)

  own-label : label q m ≡ b
  own-label = ap label_in A.own-entry ∙ mod-eq_of_lt byte

  -- the chain of i has m more
  here : ChildChain q i
  here = record {
    kids = placed p b m K.kids;
    chain =
        placed-chain p q b m own-label (last_record p) 0 (first_child p i) K.kids (slot a x) seeks K.chain (children-most p i K) (rises-distinct p 0 K.kids K.rising)
        (λ h. omega (arith, (K.only 0 h).0.0)) positive A.own-sibling
        (λ k h ne. sibling-same k (inr (K.only k h).0) (λ u v. ne u))
        (λ k h z. rw z (A.from-sibling (λ t. omega (arith, (K.only k h).0.0))))
        (first_child q i) A.from-parent (λ z. child-same i node (λ u v. z v));
    rising = placed-rises p q b m own-label 0 K.kids K.rising (omega arith) (λ k h. label_same k (K.only k h).0) absent;
    only = λ c h. ⊎_elim (λ (z : c ≡ m). (subst (InUse q) (sym z) used, rw z A.own-parent)) (λ r. let o = K.only c r in (stays c o.0, parent-same c (inr o.0) ∙ o.1)) (in-placed p b m c K.kids h);
    all = λ c u t. placed-in p b m c K.kids (⊎_elim (λ v. inr (K.all c v (sym (parent-same c (inr v)) ∙ t))) (λ z. inl z) (known-or-entered c u));
  }

  -- the chain of any other is as it was
  there : (c : ℕ) → Node p c → (c ≡ i → ⊥) → ChildChain q c
  there c h ne =
      let k = s.children c h in
      record {
        kids = k.kids;
        chain =
            rw (child-same c h (λ u v. ne u))
            (chain_same (next_sibling p) (next_sibling q) (first_child p c) k.kids k.chain
            (λ y n. sibling-same y (inr (k.only y n).0) (λ u v. ne (sym (k.only y n).1 ∙ ap (λ (t : ℕ). parent p t) u ∙ (a-child v).1))));
        rising = rises-same p q 0 k.kids k.rising (λ y n. label_same y (k.only y n).0);
        only = λ y n. let o = k.only y n in (stays y o.0, parent-same y (inr o.0) ∙ o.1);
        all = λ y u t. ⊎_elim (λ v. k.all y v (sym (parent-same y (inr v)) ∙ t)) (λ (z : y ≡ m). absurd (ne (sym t ∙ rw z A.own-parent))) (known-or-entered y u);
      }

  -- the record entered has no child: no parent is a record that was not in use
  alone : ChildChain q m
  alone = record {
    kids = [];
    chain = A.own-child;
    rising = tt;
    only = λ c h. absurd h;
    all = λ c u t.
        ⊎_elim (λ v. unused (subst (Node p) (sym (parent-same c (inr v)) ∙ t) (parent-or-root p i c s v)))
        (λ (z : c ≡ m). other-than i node (sym A.own-parent ∙ rw z at t)) (known-or-entered c u);
  }

  first-or : (c : ℕ) → Node p c → (first_child q c ≡ first_child p c) ⊎ (first_child q c ≡ m)
  first-or c h =
      ⊎_elim (λ (e : c ≡ i). ⊎_elim (λ (z : a ≡ 0). inr (ap (λ (k : ℕ). first_child q k) e ∙ A.from-parent z)) (λ na. inl (child-same c h (λ u v. na v))) (equal_or_not a 0))
      (λ ne. inl (child-same c h (λ u v. ne u))) (equal_or_not c i)

  next-or : (c : ℕ) → Node p c → (next_sibling q c ≡ next_sibling p c) ⊎ (next_sibling q c ≡ m)
  next-or c h =
      ⊎_elim (λ (e : c ≡ a). ⊎_elim (λ (z : a ≡ 0). inl (sibling-same c h (λ u v. v z))) (λ na. inr (ap (λ (k : ℕ). next_sibling q k) e ∙ A.from-sibling na)) (equal_or_not a 0))
      (λ ne. inl (sibling-same c h (λ u v. ne u))) (equal_or_not c a)

  i-parent : 0 < first_child q i
  i-parent =
      ⊎_elim (λ (z : a ≡ 0). omega (arith, A.from-parent z))
      (λ na. ⊎_elim (λ z. absurd (na z)) (λ h. omega (arith, child-same i node (λ u v. na v), chain-starts (next_sibling p) (first_child p i) K.kids K.chain a h)) after) (equal_or_not a 0)

  kept-fits : (c : ℕ) → InUse p c → FitsBut q m c
  kept-fits c u =
      let f = s.fits c u in
      record {
        entry-below = omega (arith, entry-same c u, f.entry-below);
        child-within = ⊎_elim (λ (t : first_child q c ≡ first_child p c). omega (arith, f.child-within)) (λ (t : first_child q c ≡ m). omega (arith, used.1)) (first-or c (inr u));
        sibling-within = ⊎_elim (λ (t : next_sibling q c ≡ next_sibling p c). omega (arith, f.sibling-within)) (λ (t : next_sibling q c ≡ m). omega (arith, used.1)) (next-or c (inr u));
        parent-below = omega (arith, parent-same c (inr u), f.parent-below);
        unvalued = λ h.
            let g = f.unvalued (omega (arith, entry-same c u)) in (
              value_same c (inr u) ∙ g.0,
              λ _.
                  ⊎_elim (λ (t : c ≡ i). rw t i-parent)
                  (λ nt. ⊎_elim (λ (t : first_child q c ≡ first_child p c). omega (arith, g.1 nt)) (λ (t : first_child q c ≡ m). omega arith) (first-or c (inr u))) (equal_or_not c i),
            );
      }

  own-fits : FitsBut q m m
  own-fits = record {
    entry-below = omega (arith, A.own-entry);
    child-within = omega (arith, A.own-child);
    sibling-within = omega (arith, A.own-sibling, node-within p x upto);
    parent-below = omega (arith, A.own-parent);
    unvalued = λ h. (A.own_value, λ ne. absurd (ne refl));
  }

  entered-keeps : SoundBut q m
  entered-keeps = record {
    rooted = omega (arith, s.rooted, A.len);
    within = within;
    root = (value_same 0 (inl refl) ∙ s.root.0, sibling-same 0 (inl refl) (λ u v. v (sym u)) ∙ s.root.1, parent-same 0 (inl refl) ∙ s.root.2);
    fits = λ c u. ⊎_elim (λ v. kept-fits c v) (λ (z : c ≡ m). subst (λ (k : ℕ). FitsBut q m k) (sym z) own-fits) (known-or-entered c u);
    children = λ c h. ⊎_elim (λ (z : c ≡ 0). known c (inl z)) (λ u. ⊎_elim (λ v. known c (inr v)) (λ (z : c ≡ m). subst (λ (k : ℕ). ChildChain q k) (sym z) alone) (known-or-entered c u)) h;
  }
    where
      known : (c : ℕ) → Node p c → ChildChain q c
      known c h = ⊎_elim (λ (e : c ≡ i). subst (λ (k : ℕ). ChildChain q k) (sym e) here) (λ ne. there c h ne) (equal_or_not c i)

-- the steps that enter a record
pub enter-steps : (p : Pool) (i b m : ℕ) (s : Slot) → m ≡ next_record p → s ≡ slot_of p i b
    → (q r t : Pool) → q ≡ filled p m b s.next i → r ≡ linked q i s.prev m → t ≡ taken r m → t ≡ entered p i b
unfolding entered entered_at
enter-steps p i b m s e f q r t fill link take = rw (take, link, fill, e, f)

-- ---- one record entered where it can be
module _ (p : Pool) (i b : ℕ) (can : CanEnter p i b) where
  pub next-inside : Inside p (next_record p)
  next-inside = let r = next_fits p can.sound.within can.room in let l = can.sound.rooted in omega arith

  pub prev-inside : (s : Slot) → s ≡ slot_of p i b → Inside p s.prev
  prev-inside s e = rw e (node-inside p i (slot_of p i b).prev can.sound (slot-prev-node p i b (can.sound.children i can.node)))

  pub enter-words : Entered p (entered p i b) i b (next_record p) (slot_of p i b).prev (slot_of p i b).next
  unfolding entered
  enter-words =
      entered-at p i b (next_record p) (slot_of p i b) (λ e. next-unused p (subst (Node p) e can.node))
      (λ e. next-unused p (subst (Node p) e (slot-prev-node p i b (can.sound.children i can.node)))) (omega (arith, next_last p)) next-inside
      (node-inside p i i can.sound can.node) (prev-inside (slot_of p i b) refl)

  pub enter-count : used_count (entered p i b) ≡ used_count p + 1
  enter-count = count-taken p (entered p i b) enter-words.last

  pub enter-node : Node (entered p i b) (next_record p)
  enter-node = inr (next-in-use p (entered p i b) enter-words.last)

  pub enter-keeps : SoundBut (entered p i b) (next_record p)
  enter-keeps =
      let q = entered p i b in
      let l = enter-words.last in
      let e = enter-words.len in
      let K = can.sound.children i can.node in
      entered-keeps p q i b (next_record p) (slot_of p i b).prev (slot_of p i b).next can.sound can.node can.byte enter-words
      (omega (arith, next_last p)) (next-unused p) (omega (arith, next_last p, node-within p i can.node)) (omega (arith, next_fits p can.sound.within can.room))
      (in-use-taken p q l) (in-use-stays p q l) (next-in-use p q l) (omega (arith, next_last p))
      (slot-prev-child p i b K) (slot-next-node p i b K) (slot-of-start p i b) (λ k h e. let o = K.only k h in can.absent k (o.0, o.1, e))

-- ---- a record for each byte
stops-leaf : (p : Pool) (c : ℕ) (bs : Key) → ChildChain p c → first_child p c ≡ 0 → Stops p c bs
stops-leaf p c [] k z = tt
stops-leaf p c (b ∷ bs) k z = λ x h. omega (arith, chain-starts (next_sibling p) (first_child p c) k.kids k.chain x (k.all x h.0 h.1))

module _ (p : Pool) (i b : ℕ) (bs : Key) (all : CanEnterAll p i (b ∷ bs)) where
  pub can-enter : CanEnter p i b
  can-enter = let r = all.room in record { sound = all.sound; node = all.node; byte = all.bytes.0; absent = all.ends; room = omega arith }

  pub can-enter-rest : CanEnterAll (entered p i b) (next_record p) bs
  can-enter-rest =
      let r = all.room in
      let l = (enter-words p i b can-enter).len in
      record {
        sound = enter-keeps p i b can-enter;
        node = enter-node p i b can-enter;
        bytes = all.bytes.1;
        ends =
            stops-leaf (entered p i b) (next_record p) bs ((enter-keeps p i b can-enter).children (next_record p) (enter-node p i b can-enter))
            (enter-words p i b can-enter).own-child;
        room = omega (arith, enter-count p i b can-enter);
      }

pub record EnteredAll (p : Pool) (i : ℕ) (bs : Key) : Type 0 where
  pub sound : SoundBut (entered_all p i bs) (last_entered p i bs)
  pub node : Node (entered_all p i bs) (last_entered p i bs)
  pub positive : (0 < i) ⊎ (0 < length bs) → 0 < last_entered p i bs
  pub count : used_count (entered_all p i bs) ≡ used_count p + length bs
  pub len : length (entered_all p i bs) ≡ length p

pub entered_all_lem : (bs : Key) (p : Pool) (i : ℕ) → CanEnterAll p i bs → EnteredAll p i bs
unfolding entered_all last_entered
entered_all_lem [] p i all = record { sound = all.sound; node = all.node; positive = λ h. ⊎_elim (λ z. z) (λ z. absurd (omega arith)) h; count = omega arith; len = refl }
entered_all_lem (b ∷ bs) p i all =
    let can = can-enter p i b bs all in
    let g = entered_all_lem bs (entered p i b) (next_record p) (can-enter-rest p i b bs all) in
    record {
      sound = g.sound;
      node = g.node;
      positive = λ h. g.positive (inl (omega (arith, next_last p)));
      count = omega (arith, g.count, enter-count p i b can);
      len = g.len ∙ (enter-words p i b can).len;
    }

-- the loop's cases
module _ (p : Pool) (key : Key) (i d : ℕ) where
  pub enter-all-end : length key ≤ d → entered_all p i (drop d key) ≡ p
  unfolding entered_all
  enter-all-end h = rw (drop_of_length-le key h)

  pub last-entered-end : length key ≤ d → last_entered p i (drop d key) ≡ i
  unfolding last_entered
  last-entered-end h = rw (drop_of_length-le key h)

  pub enter-all-step : d < length key → entered_all p i (drop d key) ≡ entered_all (entered p i (get_or key d 0)) (next_record p) (drop (d + 1) key)
  unfolding entered_all
  enter-all-step l = rw (drop-cons key d 0 l, add-one d)

  pub last-entered-step : d < length key → last_entered p i (drop d key) ≡ last_entered (entered p i (get_or key d 0)) (next_record p) (drop (d + 1) key)
  unfolding last_entered
  last-entered-step l = rw (drop-cons key d 0 l, add-one d)

  module _ (l : d < length key) (all : CanEnterAll p i (drop d key)) where
    cons : CanEnterAll p i (get_or key d 0 ∷ drop (d + 1) key)
    cons = rw (add-one d) (rw (drop-cons key d 0 l) at all)

    pub can-enter-here : CanEnter p i (get_or key d 0)
    can-enter-here = can-enter p i (get_or key d 0) (drop (d + 1) key) cons

    pub can-enter-on : (q : Pool) (m : ℕ) → q ≡ entered p i (get_or key d 0) → m ≡ next_record p → CanEnterAll q m (drop (d + 1) key)
    can-enter-on q m e f = rw (e, f) (can-enter-rest p i (get_or key d 0) (drop (d + 1) key) cons)

-- ---- the mark
module _ (p : Pool) (t v : ℕ) (s : SoundBut p t) (u : InUse p t) where
  abbrev marked_pool : Pool
  marked_pool = marked p t v

  inside : Inside p t
  inside = node-inside p t t s (inr u)

  last-same : last_record marked_pool ≡ last_record p
  last-same = marked-last p t v u.0

  use-back : (c : ℕ) → InUse marked_pool c → InUse p c
  use-back c h = (h.0, omega (arith, last-same))

  use-stays : (c : ℕ) → InUse p c → InUse marked_pool c
  use-stays c h = (h.0, omega (arith, last-same))

  mark-fits : (c : ℕ) → InUse p c → Fits marked_pool c
  mark-fits c h =
      let f = s.fits c h in
      let word2 = marked_other p t v c 2 (omega arith) (λ e. omega arith) in
      let word3 = marked_other p t v c 3 (omega arith) (λ e. omega arith) in
      let word4 = marked_other p t v c 4 (omega arith) (λ e. omega arith) in
      let l = last-same in
      record {
        entry-below =
            ⊎_elim (λ (e : c ≡ t). rw e (omega (arith, marked-entry p t v inside)))
            (λ ne. omega (arith, f.entry-below, marked_other p t v c 0 (omega arith) (λ e. absurd (ne (sym e))))) (equal_or_not c t);
        child-within = omega (arith, f.child-within);
        sibling-within = omega (arith, f.sibling-within);
        parent-below = omega (arith, f.parent-below);
        unvalued = λ b.
            ⊎_elim (λ (e : c ≡ t). let z : entry marked_pool t < mark = rw e at b in absurd (omega (arith, marked-entry p t v inside)))
            (λ ne.
            let word0 = marked_other p t v c 0 (omega arith) (λ e. absurd (ne (sym e))) in
            let g = f.unvalued (omega arith) in
            (marked_other p t v c 1 (omega arith) (λ e. absurd (ne (sym e))) ∙ g.0, omega (arith, g.1 ne))) (equal_or_not c t);
      }

  mark-children : (c : ℕ) → Node p c → ChildChain marked_pool c
  mark-children c h =
      let k = s.children c h in
      record {
        kids = k.kids;
        chain =
            rw (marked_other p t v c 2 (omega arith) (λ e. omega arith))
            (chain_same (next_sibling p) (next_sibling marked_pool) (first_child p c) k.kids k.chain (λ x m. marked_other p t v x 3 (omega arith) (λ e. omega arith)));
        rising = rises-same p marked_pool 0 k.kids k.rising (λ x m. marked-label p t v inside x);
        only = λ x m. let o = k.only x m in (use-stays x o.0, marked_other p t v x 4 (omega arith) (λ e. omega arith) ∙ o.1);
        all = λ x w q. k.all x (use-back x w) (sym (marked_other p t v x 4 (omega arith) (λ e. omega arith)) ∙ q);
      }

  pub mark-keeps : Sound marked_pool
  mark-keeps =
      let l = length_marked p t v in
      let z : t ≡ 0 → ⊥ = λ e. omega (arith, u.0) in
      record {
        rooted = omega (arith, s.rooted);
        within = omega (arith, s.within, last-same);
        root = (
          marked_other p t v 0 1 (omega arith) (λ e. absurd (z e)) ∙ s.root.0,
          marked_other p t v 0 3 (omega arith) (λ e. absurd (z e)) ∙ s.root.1,
          marked_other p t v 0 4 (omega arith) (λ e. absurd (z e)) ∙ s.root.2,
        );
        fits = λ c h. mark-fits c (use-back c h);
        children = λ c h. mark-children c (⊎_elim (λ e. inl e) (λ w. inr (use-back c w)) h);
      }
