-- Two images that agree on what a walk meets answer alike: the children of a node depend on the first 2n+3 bits alone, which of them is taken
-- on the entries of those that count up to it, and so the walk goes on alike; its last node is one of those.
--
--     lowest-alike           the search, by the entries looked at
--     walk-alike             the walk
--     end-looked             where it ends
--     untested-alike-looked  the answer
--     looked-met             those looked at are among those met
--     untested-alike         so the answer is the same where those met agree: 02's sentence
-- Assumes nothing.
use mathlib.Core.Path.{◌≡◌, refl, sym, ap, ap₂, ◌∙◌}
use mathlib.Core.Logic.{◌⊎◌, inl, inr, ⊎_elim}
use Prim.Native.Nat.{ℕ, zero, suc, ◌+◌, ◌-◌, ◌*◌, ◌≤◌, ◌<◌}
use native.Mathlib.Nat.{lt_of_not-le}
use native.Mathlib.Decide.{dec_le}
use native.Mathlib.Omega.{arith}
use mathlib.Core.Bool.{Bool, true, false, false≢true, cond, ◌&&◌}
use mathlib.Core.List.Memᴰ
use mathlib.Core.List.{List, [], ◌∷◌}
use Rattle.std.specs.Prelude.{Option, None, Some}
use Rattle.std.proofs.lemmas.Option.{none-some}
use lib.ListN.{length, get_or}
use lib.Dec.{leb}
use borrow.Author.Tests.{lt-ltb, le-leb}
use Rattle.keymap.specs.Members.{In, here, there}
use Rattle.keymap.specs.Key.{Key}
use Rattle.keymap.specs.Label.{mark}
use Rattle.keymap.specs.Answers.{says_value}
use Rattle.keymap.specs.Bits.{bit}
use Rattle.keymap.specs.Image.{Image, bits_for}
use Rattle.louds.specs.declared.answers.Children.{Children}
use Rattle.louds.specs.Nodes.{children_of}
use Rattle.louds.proofs.Laws.Nodes.{children-agree}
use Rattle.image.specs.Accept.{entries, node_entry}
use Rattle.image.specs.AcceptTest.{lengths_fit}
use Rattle.image.proofs.Laws.AcceptTest.{lengths-told}
use Rattle.walks.specs.Rule.{counts, matches, is_child_by, lowest_by, child_by, step_by, walked_from, walked, value_of_node, value_at_end, node_by}
use Rattle.searches.specs.Untested.{untested_says}
use Rattle.searches.specs.Met.{counted, siblings_at, met_from, looked_at, looked_over, looked_from, looked, AgreeOn, Alike}
use Rattle.walks.proofs.Laws.Rule.{is_child_by-told, child_by-none, child_by-run, walked_from-end, walked_from-step, value_of_node-root, value_of_node-short, value_of_node-plain, value_of_node-large, value_of_node-held}
use Rattle.searches.proofs.Laws.Untested.{untested_says-refused, untested_says-found}

-- ---- the search

is_child_by-alike : (ls ks : List ℕ) (k m a : ℕ) → length ls ≡ length ks → (counts (length ls) k m ≡ true → get_or ls (m - 2) 0 ≡ get_or ks (m - 2) 0)
    → is_child_by ls k m a ≡ is_child_by ks k m a
unfolding is_child_by
is_child_by-alike ls ks k m a same agree = go (counts (length ls) k m) refl
  where
    go : (t : Bool) → counts (length ls) k m ≡ t → is_child_by ls k m a ≡ is_child_by ks k m a
    go true e = ap₂ (λ (n x : ℕ). leb 2 m && (counts n k m && matches x a)) same (agree e)
    go false e =
        ap (λ (t : Bool). leb 2 m && (t && matches (get_or ls (m - 2) 0) a)) e
        ∙ sym (ap (λ (t : Bool). leb 2 m && (t && matches (get_or ks (m - 2) 0) a)) (ap (λ (n : ℕ). counts n k m) (sym same) ∙ e))

lowest-alike : (left : ℕ) (ls ks : List ℕ) (k m a : ℕ) → length ls ≡ length ks
    → ((c : ℕ) → In c (looked_at ls k left m a) → get_or ls (c - 2) 0 ≡ get_or ks (c - 2) 0)
    → lowest_by ls k left m a ≡ lowest_by ks k left m a
unfolding lowest_by looked_at
lowest-alike zero ls ks k m a same agree = refl
lowest-alike (suc left) ls ks k m a same agree = go (counts (length ls) k m) refl (λ rest. lowest-alike left ls ks k (m + 1) a same rest)
  where
    both : is_child_by ls k m a ≡ is_child_by ks k m a → (t : Bool) → is_child_by ls k m a ≡ t → (is_child_by ls k m a ≡ false → lowest_by ls k left (m + 1) a ≡ lowest_by ks k left (m + 1) a)
        → lowest_by ls k (suc left) m a ≡ lowest_by ks k (suc left) m a
    both e true f ih = rw (f, sym e ∙ f)
    both e false f ih = rw (f, sym e ∙ f) (ih f)

    go : (t : Bool) → counts (length ls) k m ≡ t
        → (((c : ℕ) → In c (looked_at ls k left (m + 1) a) → get_or ls (c - 2) 0 ≡ get_or ks (c - 2) 0) → lowest_by ls k left (m + 1) a ≡ lowest_by ks k left (m + 1) a)
        → lowest_by ls k (suc left) m a ≡ lowest_by ks k (suc left) m a
    go true e ih =
        let own : (c : ℕ) → In c (m ∷ cond (is_child_by ls k m a) [] (looked_at ls k left (m + 1) a)) → get_or ls (c - 2) 0 ≡ get_or ks (c - 2) 0 = rw e at agree in
        both (is_child_by-alike ls ks k m a same (λ f. own m (here refl))) (is_child_by ls k m a) refl (λ f. ih (λ c n. own c (there (rw f n))))
    go false e ih =
        let own : (c : ℕ) → In c (looked_at ls k left (m + 1) a) → get_or ls (c - 2) 0 ≡ get_or ks (c - 2) 0 = rw e at agree in
        let other : counts (length ls) k m ≡ true → get_or ls (m - 2) 0 ≡ get_or ks (m - 2) 0 = λ f. absurd (false≢true (sym e ∙ f)) in
        both (is_child_by-alike ls ks k m a same other) (is_child_by ls k m a) refl (λ f. ih own)

-- the one that is taken is looked at
taken-looked : (left : ℕ) (ls : List ℕ) (k m a c : ℕ) → lowest_by ls k left m a ≡ Some c → In c (looked_at ls k left m a)
unfolding lowest_by looked_at
taken-looked zero ls k m a c e = absurd (none-some c e)
taken-looked (suc left) ls k m a c e = go (is_child_by ls k m a) refl (λ f. taken-looked left ls k (m + 1) a c f)
  where
    later : (t : Bool) → counts (length ls) k m ≡ t → is_child_by ls k m a ≡ false → In c (looked_at ls k left (m + 1) a) → In c (looked_at ls k (suc left) m a)
    later true g f n = rw (g, f) (there n)
    later false g f n = rw g n

    go : (t : Bool) → is_child_by ls k m a ≡ t → (lowest_by ls k left (m + 1) a ≡ Some c → In c (looked_at ls k left (m + 1) a)) → In c (looked_at ls k (suc left) m a)
    go true f ih =
        let g : ◌≡◌ {A = Option ℕ} (Some m) (Some c) = rw f at e in
        let same : c ≡ m = cc in
        let own = is_child_by-told ls k m a f in
        rw (lt-ltb k m own.above, le-leb m (length ls + 1) own.within, f) (here same)
    go false f ih = later (counts (length ls) k m) refl f (ih (rw f at e))

-- ---- the walk

module _ (ls ks : List ℕ) (b c : ℕ → ℕ) (len : ℕ) (same : length ls ≡ length ks) (bits : (p : ℕ) → p < len → b p ≡ c p) where
  child-alike : (k a : ℕ) → ((m : ℕ) → In m (looked_over ls b len a (Some k)) → get_or ls (m - 2) 0 ≡ get_or ks (m - 2) 0) → child_by ls b len k a ≡ child_by ks c len k a
  child-alike k a agree = go (children_of b len k) refl
    where
      go : (t : Option Children) → children_of b len k ≡ t → child_by ls b len k a ≡ child_by ks c len k a
      go None e = child_by-none ls b len k a e ∙ sym (child_by-none ks c len k a (sym (children-agree b c len bits k) ∙ e))
      go (Some r) e =
          let own : (m : ℕ) → In m (looked_at ls k r.count r.first a) → get_or ls (m - 2) 0 ≡ get_or ks (m - 2) 0 = rw e at agree in
          child_by-run ls b len k a r.first r.count e ∙ lowest-alike r.count ls ks k r.first a same own ∙ sym (child_by-run ks c len k a r.first r.count (sym (children-agree b c len bits k) ∙ e))

  step-alike : (a : ℕ) (o : Option ℕ) → ((m : ℕ) → In m (looked_over ls b len a o) → get_or ls (m - 2) 0 ≡ get_or ks (m - 2) 0) → step_by ls b len a o ≡ step_by ks c len a o
  step-alike a None agree = refl
  step-alike a (Some k) agree = child-alike k a agree

  pub walk-alike : (q : Key) (o : Option ℕ) → ((m : ℕ) → In m (looked_from ls b len q o) → get_or ls (m - 2) 0 ≡ get_or ks (m - 2) 0)
      → walked_from ls b len q o ≡ walked_from ks c len q o
  unfolding looked_from
  walk-alike [] o agree = walked_from-end ls b len o ∙ sym (walked_from-end ks c len o)
  walk-alike (a ∷ q) o agree =
      walked_from-step ls b len a q o
      ∙ walk-alike q (step_by ls b len a o) (λ m n. agree m (Memᴰ.append_right (looked_over ls b len a o) n))
      ∙ ap (walked_from ks c len q) (step-alike a o (λ m n. agree m (Memᴰ.append_left (looked_from ls b len q (step_by ls b len a o)) n)))
      ∙ sym (walked_from-step ks c len a q o)

module _ (ls : List ℕ) (b : ℕ → ℕ) (len : ℕ) where
  child-looked : (k a m : ℕ) → child_by ls b len k a ≡ Some m → In m (looked_over ls b len a (Some k))
  child-looked k a m e = go (children_of b len k) refl
    where
      go : (t : Option Children) → children_of b len k ≡ t → In m (looked_over ls b len a (Some k))
      go None f = absurd (none-some m (sym (child_by-none ls b len k a f) ∙ e))
      go (Some r) g = rw g (taken-looked r.count ls k r.first a m (sym (child_by-run ls b len k a r.first r.count g) ∙ e))

  step-looked : (a : ℕ) (o : Option ℕ) (m : ℕ) → step_by ls b len a o ≡ Some m → In m (looked_over ls b len a o)
  step-looked a None m e = absurd (none-some m e)
  step-looked a (Some k) m e = child-looked k a m e

  pub end-looked : (q : Key) (o : Option ℕ) (m : ℕ) → walked_from ls b len q o ≡ Some m → (o ≡ Some m) ⊎ In m (looked_from ls b len q o)
  unfolding looked_from
  end-looked [] o m e = inl (sym (walked_from-end ls b len o) ∙ e)
  end-looked (a ∷ q) o m e =
      ⊎_elim (λ f. inr (Memᴰ.append_left (looked_from ls b len q (step_by ls b len a o)) (step-looked a o m f)))
      (λ n. inr (Memᴰ.append_right (looked_over ls b len a o) n))
      (end-looked q (step_by ls b len a o) m (sym (walked_from-step ls b len a q o) ∙ e))

-- ---- the value

value-alike : (ls ks vs us : List ℕ) (m : ℕ) → length vs ≡ length us → (2 ≤ m → get_or ls (m - 2) 0 ≡ get_or ks (m - 2) 0)
    → ((v : ℕ) → value_of_node ls vs m ≡ Some v → get_or us (m - 2) 0 ≡ v) → value_of_node ls vs m ≡ value_of_node ks us m
value-alike ls ks vs us m lengths entry value = root (dec_le 2 m)
  where
    large : 2 ≤ m → m - 2 < length vs → mark ≤ get_or ls (m - 2) 0 → Dec (2 * mark ≤ get_or ls (m - 2) 0) → value_of_node ls vs m ≡ value_of_node ks us m
    large two inside marked (yes l) =
        let same = entry two in
        value_of_node-large ls vs m two inside marked l ∙ sym (value_of_node-large ks us m two (omega (arith, lengths)) (omega (arith, same)) (omega (arith, same)))
    large two inside marked (no l) =
        let same = entry two in
        let held = value_of_node-held ls vs m two inside marked (lt_of_not-le l) in
        held
        ∙ ap Some (sym (value (get_or vs (m - 2) 0) held))
        ∙ sym (value_of_node-held ks us m two (omega (arith, lengths)) (omega (arith, same)) (omega (arith, same, lt_of_not-le l)))

    plain : 2 ≤ m → m - 2 < length vs → Dec (mark ≤ get_or ls (m - 2) 0) → value_of_node ls vs m ≡ value_of_node ks us m
    plain two inside (yes l) = large two inside l (dec_le (2 * mark) (get_or ls (m - 2) 0))
    plain two inside (no l) =
        let same = entry two in
        value_of_node-plain ls vs m two inside (lt_of_not-le l) ∙ sym (value_of_node-plain ks us m two (omega (arith, lengths)) (omega (arith, same, lt_of_not-le l)))

    short : 2 ≤ m → Dec (length vs ≤ m - 2) → value_of_node ls vs m ≡ value_of_node ks us m
    short two (yes l) = value_of_node-short ls vs m two l ∙ sym (value_of_node-short ks us m two (omega (arith, lengths)))
    short two (no l) = plain two (lt_of_not-le l) (dec_le mark (get_or ls (m - 2) 0))

    root : Dec (2 ≤ m) → value_of_node ls vs m ≡ value_of_node ks us m
    root (yes two) = short two (dec_le (length vs) (m - 2))
    root (no l) = value_of_node-root ls vs m (lt_of_not-le l) ∙ sym (value_of_node-root ks us m (lt_of_not-le l))

-- ---- the answer

pub untested-alike-looked : (i j : Image) (q : Key) → AgreeOn i j q (looked i q) → untested_says i q ≡ untested_says j q
untested-alike-looked i j q h = go (lengths_fit i) refl
  where
    ends : node_by i q ≡ node_by j q
    ends =
        walk-alike i.labels j.labels (bit i.words) (bit j.words) (bits_for (entries i)) h.number h.bits q (Some 1) h.siblings
        ∙ ap (λ (n : ℕ). walked j.labels (bit j.words) (bits_for n) q) h.number

    end : lengths_fit i ≡ true → (o : Option ℕ) → node_by i q ≡ o → value_at_end i.labels i.values o ≡ value_at_end j.labels j.values o
    end fit None e = refl
    end fit (Some m) e =
        value-alike i.labels j.labels i.values j.values m lengths entry (λ v f. h.value m v e (ap (value_at_end i.labels i.values) e ∙ f))
      where
        lengths : length i.values ≡ length j.values
        lengths = omega (arith, (lengths-told i fit).values-fit, (lengths-told j (sym h.lengths ∙ fit)).values-fit, h.number)

        entry : 2 ≤ m → node_entry i m ≡ node_entry j m
        entry two = ⊎_elim (λ f. absurd (omega (arith, two, one f))) (λ n. h.siblings m n) (end-looked i.labels (bit i.words) (bits_for (entries i)) q (Some 1) m e)
          where
            one : ◌≡◌ {A = Option ℕ} (Some 1) (Some m) → 1 ≡ m
            one f = cc

    go : (t : Bool) → lengths_fit i ≡ t → untested_says i q ≡ untested_says j q
    go false e = untested_says-refused i q e ∙ sym (untested_says-refused j q (sym h.lengths ∙ e))
    go true e =
        untested_says-found i q e
        ∙ ap says_value (end e (node_by i q) refl ∙ ap (value_at_end j.labels j.values) ends)
        ∙ sym (untested_says-found j q (sym h.lengths ∙ e))

-- ---- those looked at are among those met

counted-looked : (left : ℕ) (ls : List ℕ) (k m a c : ℕ) → In c (looked_at ls k left m a) → In c (counted (length ls) k left m)
unfolding looked_at counted
counted-looked zero ls k m a c n = n
counted-looked (suc left) ls k m a c n = go (counts (length ls) k m) refl (λ i. counted-looked left ls k (m + 1) a c i)
  where
    rest : (t : Bool) → is_child_by ls k m a ≡ t → (In c (looked_at ls k left (m + 1) a) → In c (counted (length ls) k left (m + 1)))
        → (c ≡ m) ⊎ In c (cond (is_child_by ls k m a) [] (looked_at ls k left (m + 1) a)) → In c (m ∷ counted (length ls) k left (m + 1))
    rest t f ih (inl e) = here e
    rest true f ih (inr i) = absurd (Memᴰ.not-nil (rw f at i))
    rest false f ih (inr i) = there (ih (rw f at i))

    go : (t : Bool) → counts (length ls) k m ≡ t → (In c (looked_at ls k left (m + 1) a) → In c (counted (length ls) k left (m + 1))) → In c (counted (length ls) k (suc left) m)
    go true e ih =
        let own : In c (m ∷ cond (is_child_by ls k m a) [] (looked_at ls k left (m + 1) a)) = rw e at n in
        rw e (rest (is_child_by ls k m a) refl ih (Memᴰ.cases_cons own))
    go false e ih = rw e (ih (rw e at n))

module _ (ls : List ℕ) (b : ℕ → ℕ) (len : ℕ) where
  over-met : (a : ℕ) (o : Option ℕ) (m : ℕ) → In m (looked_over ls b len a o) → In m (siblings_at ls b len o)
  over-met a None m n = n
  over-met a (Some k) m n = go (children_of b len k) refl
    where
      go : (t : Option Children) → children_of b len k ≡ t → In m (siblings_at ls b len (Some k))
      go None e = rw e (rw e at n)
      go (Some r) e = rw e (counted-looked r.count ls k r.first a m (rw e at n))

  pub looked-met : (q : Key) (o : Option ℕ) (m : ℕ) → In m (looked_from ls b len q o) → In m (met_from ls b len q o)
  unfolding looked_from met_from
  looked-met [] o m n = n
  looked-met (a ∷ q) o m n =
      ⊎_elim (λ i. Memᴰ.append_left (met_from ls b len q (step_by ls b len a o)) (over-met a o m i))
      (λ i. Memᴰ.append_right (siblings_at ls b len o) (looked-met q (step_by ls b len a o) m i))
      (Memᴰ.append_cases (looked_over ls b len a o) n)

pub untested-alike : (i j : Image) (q : Key) → Alike i j q → untested_says i q ≡ untested_says j q
untested-alike i j q h =
    untested-alike-looked i j q
    (record {
      number = h.number;
      lengths = h.lengths;
      bits = h.bits;
      siblings = λ m n. h.siblings m (looked-met i.labels (bit i.words) (bits_for (entries i)) q (Some 1) m n);
      value = h.value;
    })
