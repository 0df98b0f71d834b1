-- Laws of the test. Its functions by cases, for the loops that compute them; then both directions. A pass that ends with none left has met as many different
-- records as are in use, so, by the pigeonhole, all of them, and each in the chain of its parent; and in a sound pool every step of the pass goes through.
--
--     chain-rest-..                      the chain's cases: its end, too many met, no child, a step
--     record-rest-..                     the record's cases
--     pass-..                            the pass's: one record more, broken for good
--     test-sound, sound-test, sound-iff  the test is true exactly of a sound pool
--     said-means-sound                   and so is an answer that is the test's
--     check-..                           the cases of the refusal; it is none exactly of a sound pool
-- Assumes nothing.
use Prim.Native.Nat.{ℕ, zero, suc, ◌+◌, ◌-◌, ◌≤◌, ◌<◌}
use mathlib.Core.Path.{◌≡◌, refl, sym, ◌∙◌, ap, subst}
use mathlib.Core.Bool.{Bool, true, false, cond, ◌&&◌, and-eq-true_iff}
use mathlib.Core.List.{List, [], ◌∷◌, ◌++◌}
use mathlib.Core.Logic.{inl, inr, ⊎_elim, ◌↔◌}
use lib.Dec.{leb, ltb, eqb}
use lib.ListN.{length, length-append}
use borrow.Author.Tests.{lt-ltb, le-leb, eq-eqb, ne_eqb, leb-true, ltb-true, eqb-true, eqb-false, le-ltb, ltb-false}
use native.Mathlib.Omega.{arith}
use native.Mathlib.Nat.{eq-or-lt_of_le}
use native.Mathlib.Numerals.{sub-one}
use Rattle.keymap.specs.Limits.{byte_limit}
use Rattle.keymap.specs.Label.{mark}
use Rattle.std.specs.Prelude.{Option, None, Some, Result, Ok, Err}
use Rattle.std.specs.Option.{option_eq}
use Rattle.std.proofs.lemmas.Bool.Decides.{nat_tests}
use Rattle.keymap.specs.declared.refusals.Refusal.{Refusal}
use Rattle.records.specs.Words.{Pool, record_words, entry, label, value, first_child, next_sibling, parent, last_record, used_count, InUse}
use Rattle.records.specs.Sound.{Among, Chain, LabelsRise, ChildChain, Sound}
use Rattle.records.specs.SoundTest.{both, words_fit, record_fits, is_child, chain_rest, record_rest, pass_rest, none_left, root_fits, sound_test, check_sound}
use Rattle.records.proofs.Laws.Distinct.{Once, equal_or_not, in-append, in_left, in_right, once-append, once-at-most, cover-at-least, once-covers}
use Rattle.records.proofs.Laws.Words.{count-last, node-within, within-node}
use Rattle.records.proofs.Laws.Sound.{rises-distinct}

pub both_first : (a b : Bool) → both a b ≡ true → a ≡ true
unfolding both
both_first a b e = ((and-eq-true_iff a b).0 e).0

pub both-second : (a b : Bool) → both a b ≡ true → b ≡ true
unfolding both
both-second a b e = ((and-eq-true_iff a b).0 e).1

both_true : (a b : Bool) → a ≡ true → b ≡ true → both a b ≡ true
unfolding both
both_true a b e f = simp (e, f)

pub both_is : (a b : Bool) → both a b ≡ (a && b)
unfolding both
both_is a b = refl

-- what tests of numbers say, taken together
pub ruleset tests = (nat_tests, both_is)

-- ---- the loops' cases
module _ (p : Pool) (n c : ℕ) where
  pub chain-rest-end : (left x l : ℕ) → x ≡ 0 → chain_rest p n c left x l ≡ Some left
  unfolding chain_rest
  chain-rest-end zero x l e = simp (eq-eqb _ _ e)
  chain-rest-end (suc k) x l e = simp (eq-eqb _ _ e)

  pub chain-rest-full : (left x l : ℕ) → left ≡ 0 → (x ≡ 0 → ⊥) → chain_rest p n c left x l ≡ None
  unfolding chain_rest
  chain-rest-full zero x l z e = simp (ne_eqb _ _ e)
  chain-rest-full (suc k) x l z e = absurd (omega arith)

  pub chain-rest-stray : (left x l : ℕ) → (x ≡ 0 → ⊥) → is_child p n c x l ≡ false → chain_rest p n c left x l ≡ None
  unfolding chain_rest
  chain-rest-stray zero x l e b = simp (ne_eqb _ _ e)
  chain-rest-stray (suc k) x l e b = simp (ne_eqb _ _ e, b)

  pub chain-rest-step : (left x l : ℕ) → (x ≡ 0 → ⊥) → (left ≡ 0 → ⊥) → is_child p n c x l ≡ true
      → chain_rest p n c left x l ≡ chain_rest p n c (left - 1) (next_sibling p x) (label p x + 1)
  unfolding chain_rest
  chain-rest-step zero x l e z b = absurd (z refl)
  chain-rest-step (suc k) x l e z b = simp (ne_eqb _ _ e, b, sub-one)

  pub record-rest-fit : (left : ℕ) → record_fits p n c ≡ true → record_rest p n c (Some left) ≡ chain_rest p n c left (first_child p c) 0
  unfolding record_rest
  record-rest-fit left e = simp e

pub ruleset chain_cases = (chain-rest-end, chain-rest-full, chain-rest-stray, chain-rest-step)

module _ (p : Pool) (n all : ℕ) where
  pub pass-start : pass_rest p n all 0 ≡ Some all
  unfolding pass_rest
  pass-start = refl

  pub pass-more : (c left : ℕ) (r : Option ℕ) → pass_rest p n all c ≡ Some left → record_rest p n c (Some left) ≡ r → pass_rest p n all (suc c) ≡ r
  unfolding pass_rest
  pass-more c left r a b = rw a b

  pub pass-broken : (j m : ℕ) → j ≤ m → pass_rest p n all j ≡ None → pass_rest p n all m ≡ None
  unfolding pass_rest record_rest
  pass-broken j zero l e = let z : j ≡ zero = omega arith in subst (λ (k : ℕ). pass_rest p n all k ≡ None) z e
  pass-broken j (suc m) l e =
      ⊎_elim (λ q. subst (λ (k : ℕ). pass_rest p n all k ≡ None) q e) (λ lt. rw (pass-broken j m (omega arith) e)) (eq-or-lt_of_le l)

-- how the code asks whether none are left
pub eq-none_left : (r : Option ℕ) → option_eq eqb r (Some 0) ≡ none_left r
eq-none_left None = refl
eq-none_left (Some k) = refl

pub root-fits-within : (n most v x q : ℕ) → root_fits n most v x q ≡ true → n ≤ most
unfolding root_fits
root-fits-within n most v x q e = leb-true n most (both_first _ _ e)

-- ---- one record
cond-unvalued : (e v f : ℕ) → cond (ltb e mark) (both (eqb v 0) (ltb 0 f)) true ≡ true → e < mark → (v ≡ 0) × (0 < f)
cond-unvalued e v f h l =
    let q : both (eqb v 0) (ltb 0 f) ≡ true = simp (lt-ltb _ _ l) at h in
    (eqb-true v 0 (both_first _ _ q), ltb-true 0 f (both-second _ _ q))

unvalued-cond : (e v f : ℕ) → (e < mark → (v ≡ 0) × (0 < f)) → cond (ltb e mark) (both (eqb v 0) (ltb 0 f)) true ≡ true
unvalued-cond e v f h = go (ltb e mark) refl
  where
    go : (t : Bool) → ltb e mark ≡ t → cond t (both (eqb v 0) (ltb 0 f)) true ≡ true
    go true q = let b = h (ltb-true _ _ q) in both_true _ _ (eq-eqb _ _ b.0) (lt-ltb _ _ b.1)
    go false q = refl

-- what is asked of a record's words, where n is the last record
abbrev OwnWords : Pool → ℕ → ℕ → Type 0
OwnWords p n c = (entry p c < byte_limit + mark) × (first_child p c ≤ n) × (next_sibling p c ≤ n) × (parent p c < c) × (entry p c < mark → (value p c ≡ 0) × (0 < first_child p c))

fits-own : (p : Pool) (n c : ℕ) → 0 < c → record_fits p n c ≡ true → OwnWords p n c
unfolding record_fits words_fit
fits-own p n c z h =
    let e : both (ltb (entry p c) (byte_limit + mark)) (both (leb (first_child p c) n) (both (leb (next_sibling p c) n) (both (ltb (parent p c) c)
    (cond (ltb (entry p c) mark) (both (eqb (value p c) 0) (ltb 0 (first_child p c))) true)))) ≡ true = simp (ne_eqb c 0 (λ q. omega arith)) at h in
    let e1 = both-second _ _ e in
    let e2 = both-second _ _ e1 in
    let e3 = both-second _ _ e2 in
    (ltb-true _ _ (both_first _ _ e), leb-true _ _ (both_first _ _ e1), leb-true _ _ (both_first _ _ e2), ltb-true _ _ (both_first _ _ e3), cond-unvalued _ _ _ (both-second _ _ e3))

own-fits : (p : Pool) (n c : ℕ) → 0 < c → OwnWords p n c → record_fits p n c ≡ true
unfolding record_fits words_fit
own-fits p n c z f =
    simp (ne_eqb c 0 (λ q. omega arith))
    (both_true _ _ (lt-ltb _ _ f.0) (both_true _ _ (le-leb _ _ f.1) (both_true _ _ (le-leb _ _ f.2)
    (both_true _ _ (lt-ltb _ _ f.3) (unvalued-cond _ _ _ f.4)))))

root-passes : (p : Pool) (n : ℕ) → record_fits p n 0 ≡ true
unfolding record_fits words_fit
root-passes p n = refl

-- ---- one chain
-- what a chain that was followed to its end, with k records left, has shown
record Followed (p : Pool) (n c left x l k : ℕ) : Type 0 where
  kids : List ℕ
  chain : Chain (next_sibling p) x kids
  rising : LabelsRise p l kids
  only : (y : ℕ) → Among y kids → (0 < y) × (y ≤ n) × (parent p y ≡ c)
  count : left ≡ length kids + k

left-same : (a b : ℕ) → Some a ≡ Some b → a ≡ b
left-same a b e = cc

broken-left : (k : ℕ) → None ≡ Some k → ⊥
broken-left k e = let z : ◌≡◌ {A = ℕ} 0 1 = cc in omega arith

module _ (p : Pool) (n c : ℕ) where
  child-of : (x l : ℕ) → is_child p n c x l ≡ true → (x ≤ n) × (parent p x ≡ c) × (l ≤ label p x)
  unfolding is_child
  child-of x l e = (leb-true _ _ (both_first _ _ e), eqb-true _ _ (both_first _ _ (both-second _ _ e)), leb-true _ _ (both-second _ _ (both-second _ _ e)))

  of-child : (x l : ℕ) → x ≤ n → parent p x ≡ c → l ≤ label p x → is_child p n c x l ≡ true
  unfolding is_child
  of-child x l a b d = both_true _ _ (le-leb _ _ a) (both_true _ _ (eq-eqb _ _ b) (le-leb _ _ d))

  ends-here : (left x l k : ℕ) → x ≡ 0 → left ≡ k → Followed p n c left x l k
  ends-here left x l k e q = record { kids = []; chain = e; rising = tt; only = λ y h. absurd h; count = omega arith }

  goes_on : (left x l k : ℕ) → (x ≡ 0 → ⊥) → is_child p n c x l ≡ true → Followed p n c left (next_sibling p x) (label p x + 1) k → Followed p n c (suc left) x l k
  goes_on left x l k ne e w =
      let q = child-of x l e in
      record {
        kids = x ∷ w.kids;
        chain = (refl, omega (arith, ne), w.chain);
        rising = (q.2, w.rising);
        only = λ y h. ⊎_elim (λ (m : y ≡ x). (omega (arith, ne), omega arith, subst (λ (z : ℕ). parent p z ≡ c) (sym m) q.1)) (λ m. w.only y m) h;
        count = omega (arith, w.count);
      }

  rest-followed : (left x l k : ℕ) → chain_rest p n c left x l ≡ Some k → Followed p n c left x l k
  unfolding chain_rest
  rest-followed zero x l k e = go (eqb x 0) refl e
    where
      go : (t : Bool) → eqb x 0 ≡ t → cond t (Some zero) None ≡ Some k → Followed p n c zero x l k
      go true a b = ends-here zero x l k (eqb-true _ _ a) (left-same _ _ b)
      go false a b = absurd (broken-left k b)
  rest-followed (suc m) x l k e = go (eqb x 0) (is_child p n c x l) refl refl e (λ q. rest-followed m (next_sibling p x) (label p x + 1) k q)
    where
      go : (t s : Bool) → eqb x 0 ≡ t → is_child p n c x l ≡ s
          → cond t (Some (suc m)) (cond s (chain_rest p n c m (next_sibling p x) (label p x + 1)) None) ≡ Some k
          → (chain_rest p n c m (next_sibling p x) (label p x + 1) ≡ Some k → Followed p n c m (next_sibling p x) (label p x + 1) k)
          → Followed p n c (suc m) x l k
      go true s a d b ih = ends-here (suc m) x l k (eqb-true _ _ a) (left-same _ _ b)
      go false true a d b ih = goes_on m x l k (eqb-false _ _ a) d (ih b)
      go false false a d b ih = absurd (broken-left k b)

  followed-rest : (xs : List ℕ) (left x l : ℕ) → Chain (next_sibling p) x xs → LabelsRise p l xs → ((y : ℕ) → Among y xs → (0 < y) × (y ≤ n) × (parent p y ≡ c))
      → length xs ≤ left → chain_rest p n c left x l ≡ Some (left - length xs)
  followed-rest [] left x l a r o h = let z : left ≡ left - 0 = omega arith in chain-rest-end p n c left x l a ∙ ap Some z
  followed-rest (y ∷ xs) left x l a r o h =
      let m = o y (inl refl) in
      let e : x ≡ y = a.0 in
      let k : is_child p n c x l ≡ true = subst (λ (z : ℕ). is_child p n c z l ≡ true) (sym e) (of-child y l m.1 m.2 r.0) in
      let s = chain-rest-step p n c left x l (λ q. omega arith) (λ q. omega arith) k in
      let rest : chain_rest p n c (left - 1) (next_sibling p y) (label p y + 1) ≡ Some (left - 1 - length xs) =
      followed-rest xs (left - 1) (next_sibling p y) (label p y + 1) a.2 r.1 (λ z q. o z (inr q)) (omega arith) in
      let z : left - 1 - length xs ≡ left - suc (length xs) = omega arith in
      s ∙ subst (λ (w : ℕ). chain_rest p n c (left - 1) (next_sibling p w) (label p w + 1) ≡ Some (left - suc (length xs))) (sym e) (rest ∙ ap Some z)

-- ---- the pass, from the test to soundness
module _ (p : Pool) (n all : ℕ) where
  -- the chain of record c, which names each of the records met whose parent is c
  record Part (met : List ℕ) (c : ℕ) : Type 0 where
    own : 0 < c → OwnWords p n c
    kids : List ℕ
    chain : Chain (next_sibling p) (first_child p c) kids
    rising : LabelsRise p 0 kids
    only : (x : ℕ) → Among x kids → (0 < x) × (x ≤ n) × (parent p x ≡ c)
    back : (x : ℕ) → Among x met → parent p x ≡ c → Among x kids

  -- after records 0 to j - 1, with k records left
  record Passed (j k : ℕ) : Type 0 where
    met : List ℕ
    once : Once met
    inside : (x : ℕ) → Among x met → (0 < x) × (x ≤ n) × (parent p x < j)
    count : all ≡ length met + k
    each : (c : ℕ) → c < j → Part met c

  passed-next : (j k rest : ℕ) → Passed j k → record_fits p n j ≡ true → Followed p n j k (first_child p j) 0 rest → Passed (suc j) rest
  passed-next j k rest u f w = record {
    met = w.kids ++ u.met;
    once = once-append w.kids u.met (rises-distinct p 0 w.kids w.rising) u.once (λ x a b. omega (arith, w.only x a, u.inside x b));
    inside = λ x h. ⊎_elim (λ a. let q = w.only x a in (q.0, q.1, omega arith)) (λ b. let q = u.inside x b in (q.0, q.1, omega arith)) (in-append x w.kids u.met h);
    count = omega (arith, u.count, w.count, length-append w.kids u.met);
    each = λ c l. ⊎_elim (λ (e : suc c ≡ suc j). let q : c ≡ j = omega arith in subst (λ (m : ℕ). Part (w.kids ++ u.met) m) (sym q) here) (λ lt. there c (omega arith)) (eq-or-lt_of_le l);
  }
    where
      here : Part (w.kids ++ u.met) j
      here = record {
        own = λ z. fits-own p n j z f;
        kids = w.kids;
        chain = w.chain;
        rising = w.rising;
        only = w.only;
        back = λ x h e. ⊎_elim (λ a. a) (λ b. let q = u.inside x b in absurd (omega arith)) (in-append x w.kids u.met h);
      }

      there : (c : ℕ) → c < j → Part (w.kids ++ u.met) c
      there c l =
          let h = u.each c l in
          record {
            own = h.own;
            kids = h.kids;
            chain = h.chain;
            rising = h.rising;
            only = h.only;
            back = λ x m e. ⊎_elim (λ a. let q = w.only x a in absurd (omega arith)) (λ b. h.back x b e) (in-append x w.kids u.met m);
          }

  rest-passed : (j k : ℕ) → pass_rest p n all j ≡ Some k → Passed j k
  unfolding pass_rest record_rest
  rest-passed zero k e = record { met = []; once = tt; inside = λ x h. absurd h; count = omega (arith, left-same _ _ e); each = λ c l. absurd (omega arith) }
  rest-passed (suc j) k e = go (pass_rest p n all j) refl e (λ m q. rest-passed j m q)
    where
      fit : (t : Bool) (m : ℕ) → record_fits p n j ≡ t → cond t (chain_rest p n j m (first_child p j) 0) None ≡ Some k → Passed j m → Passed (suc j) k
      fit true m f b u = passed-next j m k u f (rest-followed p n j m (first_child p j) 0 k b)
      fit false m f b u = absurd (broken-left k b)

      go : (r : Option ℕ) → pass_rest p n all j ≡ r → record_rest p n j r ≡ Some k → ((m : ℕ) → pass_rest p n all j ≡ Some m → Passed j m) → Passed (suc j) k
      go (Some m) a b ih = fit (record_fits p n j) m refl b (ih m a)
      go None a b ih = absurd (broken-left k b)

-- ---- and from soundness to the test
module _ (p : Pool) (s : Sound p) where
  abbrev n : ℕ
  n = last_record p

  record Passes (j : ℕ) : Type 0 where
    met : List ℕ
    left : pass_rest p n n j ≡ Some (n - length met)
    once : Once met
    inside : (x : ℕ) → Among x met → (0 < x) × (x ≤ n) × (parent p x < j)
    all : (x : ℕ) → InUse p x → parent p x < j → Among x met

  own-words : (c : ℕ) → InUse p c → OwnWords p n c
  own-words c u = let f = s.fits c u in (f.entry-below, f.child-within, f.sibling-within, f.parent-below, f.unvalued)

  fits_each : (c : ℕ) → c ≤ n → record_fits p n c ≡ true
  fits_each c l =
      ⊎_elim (λ (e : c ≡ 0). subst (λ (k : ℕ). record_fits p n k ≡ true) (sym e) (root-passes p n))
      (λ (ne : c ≡ 0 → ⊥). own-fits p n c (omega (arith, ne)) (own-words c (omega (arith, ne), l))) (equal_or_not c 0)

  abbrev chained : (j : ℕ) → j ≤ n → ChildChain p j
  chained j l = s.children j (within-node p j l)

  passes-next : (j : ℕ) → j ≤ n → Passes j → Passes (suc j)
  passes-next j l d =
      let k = chained j l in
      let short : length (k.kids ++ d.met) ≤ n = once-at-most n (k.kids ++ d.met) once (λ x h. ((within x h).0, (within x h).1)) in
      let len = length-append k.kids d.met in
      let z : n - length d.met - length k.kids ≡ n - length (k.kids ++ d.met) = omega arith in
      record {
        met = k.kids ++ d.met;
        left =
            pass-more p n n j (n - length d.met) _ d.left
            (record-rest-fit p n j (n - length d.met) (fits_each j l)
            ∙ followed-rest p n j k.kids (n - length d.met) (first_child p j) 0 k.chain k.rising (λ x h. let o = k.only x h in (o.0.0, o.0.1, o.1)) (omega arith) ∙ ap Some z);
        once = once;
        inside = within;
        all = λ x u e. ⊎_elim (λ (q : suc (parent p x) ≡ suc j). in_left x k.kids d.met (k.all x u (omega arith))) (λ lt. in_right x k.kids d.met (d.all x u (omega arith))) (eq-or-lt_of_le e);
      }
    where
      once : Once ((chained j l).kids ++ d.met)
      once = once-append (chained j l).kids d.met (rises-distinct p 0 (chained j l).kids (chained j l).rising) d.once (λ x a b. omega (arith, ((chained j l).only x a).1, d.inside x b))

      within : (x : ℕ) → Among x ((chained j l).kids ++ d.met) → (0 < x) × (x ≤ n) × (parent p x < suc j)
      within x h =
          ⊎_elim (λ a. let q = (chained j l).only x a in (q.0.0, q.0.1, omega arith)) (λ b. let q = d.inside x b in (q.0, q.1, omega arith)) (in-append x (chained j l).kids d.met h)

  passes : (j : ℕ) → j ≤ suc n → Passes j
  unfolding pass_rest
  passes zero l = record { met = []; left = let z : n ≡ n - 0 = omega arith in ap Some z; once = tt; inside = λ x h. absurd h; all = λ x u e. absurd (omega arith) }
  passes (suc j) l = passes-next j (omega arith) (passes j (omega arith))

  passes-all : pass_rest p n n (suc n) ≡ Some 0
  passes-all =
      let d = passes (suc n) (omega arith) in
      let m : n ≤ length d.met = cover-at-least n d.met (λ x a b. d.all x (a, b) (omega (arith, (s.fits x (a, b)).parent-below))) in
      let z : n - length d.met ≡ 0 = omega arith in
      d.left ∙ ap Some z

none_left_lem : (r : Option ℕ) → none_left r ≡ true → r ≡ Some 0
none_left_lem (Some k) e = ap Some (eqb-true k 0 e)
none_left_lem None e = let z : ◌≡◌ {A = ℕ} 0 1 = cc in absurd (omega arith)

pub test-sound : (p : Pool) → sound_test p ≡ true → Sound p
unfolding sound_test root_fits
test-sound p e =
    let r = both_first _ _ (both-second _ _ e) in
    let r1 = both-second _ _ r in
    let r2 = both-second _ _ r1 in
    let u = rest-passed p (last_record p) (used_count p) (suc (last_record p)) 0 (none_left_lem _ (both-second _ _ (both-second _ _ e))) in
    let every : (x : ℕ) → InUse p x → Among x u.met =
    λ x v. once-covers (last_record p) u.met u.once (λ y m. ((u.inside y m).0, (u.inside y m).1)) (omega (arith, u.count, count-last p)) x v.0 v.1 in
    record {
      rooted = leb-true _ _ (both_first _ _ e);
      within = leb-true _ _ (both_first _ _ r);
      root = (eqb-true _ _ (both_first _ _ r1), eqb-true _ _ (both_first _ _ r2), eqb-true _ _ (both-second _ _ r2));
      fits = λ c v. let f = (u.each c (omega arith)).own v.0 in record { entry-below = f.0; child-within = f.1; sibling-within = f.2; parent-below = f.3; unvalued = f.4 };
      children = λ c v.
          let h = u.each c (omega (arith, node-within p c v)) in
          record { kids = h.kids; chain = h.chain; rising = h.rising; only = λ x m. let o = h.only x m in ((o.0, o.1), o.2); all = λ x w q. h.back x (every x w) q };
    }

pub sound-test : (p : Pool) → Sound p → sound_test p ≡ true
unfolding sound_test root_fits
sound-test p s =
    both_true _ _ (le-leb _ _ s.rooted)
    (both_true _ _ (both_true _ _ (le-leb _ _ s.within) (both_true _ _ (eq-eqb _ _ s.root.0) (both_true _ _ (eq-eqb _ _ s.root.1) (eq-eqb _ _ s.root.2))))
    (let z : pass_rest p (last_record p) (used_count p) (suc (last_record p)) ≡ Some 0 = rw count-last (passes-all p s) in ap none_left z))

pub sound-iff : (p : Pool) → (sound_test p ≡ true) ↔ Sound p
sound-iff p = (test-sound p, sound-test p)

pub said-means-sound : (p : Pool) (said : Bool) → said ≡ sound_test p → (said ≡ true) ↔ Sound p
said-means-sound p said e = (λ t. test-sound p (sym e ∙ t), λ s. e ∙ sound-test p s)

-- ---- how a slice that is no sound pool is refused
module _ (p : Pool) where
  pub check-small : length p < record_words → Err Refusal.PoolTooSmall ≡ check_sound p
  unfolding check_sound
  check-small h = simp (lt-ltb _ _ h)

  pub check-unsound : record_words ≤ length p → sound_test p ≡ false → Err Refusal.NotAPool ≡ check_sound p
  unfolding check_sound
  check-unsound h e = simp (le-ltb _ _ h, e)

  pub check-passed : record_words ≤ length p → sound_test p ≡ true → Ok tt ≡ check_sound p
  unfolding check_sound
  check-passed h e = simp (le-ltb _ _ h, e)

  pub passed-test : check_sound p ≡ Ok tt → (record_words ≤ length p) × (sound_test p ≡ true)
  unfolding check_sound
  passed-test e = go (ltb (length p) record_words) (sound_test p) refl refl e
    where
      go : (t u : Bool) → ltb (length p) record_words ≡ t → sound_test p ≡ u
          → cond t (Err Refusal.PoolTooSmall) (cond u (Ok (tt {0})) (Err Refusal.NotAPool)) ≡ Ok (tt {0}) → (record_words ≤ length p) × (sound_test p ≡ true)
      go true u a b q = absurd (cc)
      go false true a b q = (ltb-false _ _ a, b)
      go false false a b q = absurd (cc)

  pub sound-passed : Sound p → check_sound p ≡ Ok tt
  sound-passed s = sym (check-passed s.rooted (sound-test p s))

  pub check-means-sound : (r : Result (Unit {0}) Refusal) → r ≡ check_sound p → (r ≡ Ok tt) ↔ Sound p
  check-means-sound r e = (λ q. test-sound p (passed-test (sym e ∙ q)).1, λ s. e ∙ sound-passed s)
