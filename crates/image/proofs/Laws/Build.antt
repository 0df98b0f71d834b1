-- Laws of build: which buffers fit, what it says in each case, and what it then leaves: a refusal leaves every buffer as it was.
--
--     fit_all                                what fitting buffers are
--     says-refused, ..                       what build says in each case
--     build-refused                          a refusal leaves all four
--     build-done                             what else is left of them
--     says-sound                             what build says of a sound pool, by the lengths alone
--     tell-levels, told-labels, told-values  the entries are those of the level order
--     said-built-one                         equal numbers mean equal answers
-- Assumes nothing.
use Prim.Native.Nat.{ℕ, ◌^◌, ◌≤◌, ◌<◌}
use mathlib.Core.Path.{◌≡◌, refl, sym, ap, ◌∙◌, subst}
use mathlib.Core.Bool.{Bool, true, false, cond, ◌&&◌}
use mathlib.Core.List.{List, [], ◌∷◌, map}
use native.Mathlib.Omega.{arith}
use lib.ListN.{length, get_or, take}
use lib.Dec.{leb, ltb}
use borrow.Author.Tests.{leb-true, le-ltb, lt-ltb}
use Rattle.keymap.specs.Refusals.{refuses}
use Rattle.keymap.specs.declared.refusals.Refusal.{Refusal}
use Rattle.keymap.specs.Bits.{words_for}
use Rattle.keymap.specs.Image.{bits_for}
use Rattle.records.specs.Words.{Pool, record_words, entry, value, used_count}
use Rattle.records.specs.Sound.{Sound}
use Rattle.records.specs.SoundTest.{sound_test, check_sound}
use Rattle.records.proofs.Laws.SoundTest.{sound-test}
use Rattle.pool.specs.Answers.{accepted}
use Rattle.std.specs.Prelude.{Result, Ok, Err}
use Rattle.keymap.specs.Buffers.{over}
use Rattle.image.specs.LevelOrder.{level_records, pool_labels, pool_values, pool_words}
use Rattle.keymap.specs.Answers.{told_count}
use Rattle.keymap.proofs.Laws.Answers.{said-one, count-one}
use Rattle.image.specs.Build.{said_built, buffers_fit, fit_says, build_says, build_labels, build_values, build_words, build_scratch, CanTell}
use Rattle.keymap.proofs.Laws.Buffers.{length_over, get_d_over, take-over}
use Rattle.image.proofs.Laws.LevelOrder.{level-count, level-used, get_or-in}

module _ (n labels values words scratch : ℕ) where
  pub fit_all : buffers_fit n labels values words scratch ≡ true → (n ≤ labels) × (n ≤ values) × (words_for (bits_for n) ≤ words) × (n ≤ scratch)
  unfolding buffers_fit
  fit_all e =
      let a = first (leb n labels) _ e in
      let b = first (leb n values) _ a.1 in
      let c = first (leb (words_for (bits_for n)) words) _ b.1 in
      (leb-true _ _ a.0, leb-true _ _ b.0, leb-true _ _ c.0, leb-true _ _ c.1)
    where
      first : (s t : Bool) → s && t ≡ true → (s ≡ true) × (t ≡ true)
      first true t q = (refl, q)
      first false t q = let z : ◌≡◌ {A = ℕ} 0 1 = cc in absurd (omega arith)

left-as-was : {t : Bool} (xs ys : List ℕ) → t ≡ false → ys ≡ cond t xs ys
left-as-was xs ys e = ap (λ (b : Bool). cond b xs ys) (sym e)

left-written : {t : Bool} (xs ys : List ℕ) → t ≡ true → xs ≡ cond t xs ys
left-written xs ys e = ap (λ (b : Bool). cond b xs ys) (sym e)

module _ (p : Pool) (ls vs ws qs : List ℕ) where
  pub says-small : length p < record_words → refuses Refusal.PoolTooSmall ≡ build_says p ls vs ws qs
  unfolding build_says
  says-small h = simp (lt-ltb _ _ h)

  pub says-unsound : record_words ≤ length p → sound_test p ≡ false → refuses Refusal.NotAPool ≡ build_says p ls vs ws qs
  unfolding build_says
  says-unsound h e = simp (le-ltb _ _ h, e)

  pub says-refused : (r : Refusal) → check_sound p ≡ Err r → refuses r ≡ build_says p ls vs ws qs
  unfolding check_sound build_says
  says-refused r e = go (ltb (length p) record_words) (sound_test p) e
    where
      go : (t u : Bool) → cond t (Err Refusal.PoolTooSmall) (cond u (Ok (tt {0})) (Err Refusal.NotAPool)) ≡ Err r
          → refuses r ≡ cond t (refuses Refusal.PoolTooSmall) (cond u (fit_says (used_count p) (length ls) (length vs) (length ws) (length qs)) (refuses Refusal.NotAPool))
      go true u q = let k : Refusal.PoolTooSmall ≡ r = cc in ap refuses (sym k)
      go false true q = absurd (cc)
      go false false q = let k : Refusal.NotAPool ≡ r = cc in ap refuses (sym k)

  -- n is the count of the records in use
  module _ (n : ℕ) (count : n ≡ used_count p) (long : record_words ≤ length p) (sound : sound_test p ≡ true) where
    pub says-short : buffers_fit n (length ls) (length vs) (length ws) (length qs) ≡ false → refuses Refusal.OutTooSmall ≡ build_says p ls vs ws qs
    unfolding build_says fit_says
    says-short f = simp (le-ltb _ _ long, sound, ← count, f)

    pub says-done : buffers_fit n (length ls) (length vs) (length ws) (length qs) ≡ true → 0 ∷ n ∷ [] ≡ build_says p ls vs ws qs
    unfolding build_says fit_says
    says-done f = simp (le-ltb _ _ long, sound, ← count, f)

  -- an answer with what it leaves of the buffers
  abbrev Leaves : Result ℕ Refusal → (labels values words scratch : List ℕ) → Type 0
  Leaves r labels values words scratch =
      (said_built r ≡ build_says p ls vs ws qs)
      × ((labels ≡ build_labels p ls vs ws qs) × ((values ≡ build_values p ls vs ws qs) × ((words ≡ build_words p ls vs ws qs) × (scratch ≡ build_scratch p ls vs ws qs))))

  pub build-refused : (r : Result ℕ Refusal) → said_built r ≡ build_says p ls vs ws qs → accepted (said_built r) ≡ false → Leaves r ls vs ws qs
  unfolding build_labels build_values build_words build_scratch
  build-refused r e f =
      let a : accepted (build_says p ls vs ws qs) ≡ false = ap accepted (sym e) ∙ f in
      (e, (left-as-was (over (pool_labels p) ls) ls a, (left-as-was (over (pool_values p) vs) vs a, (left-as-was (over (pool_words p) ws) ws a, left-as-was (over (level_records p) qs) qs a))))

  pub build-done : (r : Result ℕ Refusal) → said_built r ≡ build_says p ls vs ws qs → accepted (said_built r) ≡ true → Leaves r (over (pool_labels p) ls) (over (pool_values p) vs) (over (pool_words p) ws) (over (level_records p) qs)
  unfolding build_labels build_values build_words build_scratch
  build-done r e f =
      let a : accepted (build_says p ls vs ws qs) ≡ true = ap accepted (sym e) ∙ f in
      (e, (left-written (over (pool_labels p) ls) ls a, (left-written (over (pool_values p) vs) vs a, (left-written (over (pool_words p) ws) ws a, left-written (over (level_records p) qs) qs a))))

  -- what it says of a sound pool is settled by the lengths
  pub says-sound : Sound p → build_says p ls vs ws qs ≡ fit_says (used_count p) (length ls) (length vs) (length ws) (length qs)
  unfolding build_says
  says-sound s = simp (le-ltb _ _ s.rooted, sound-test p s)

-- ---- the entries

module _ (p : Pool) (s : Sound p) (n : ℕ) (count : n ≡ used_count p) (queue qs : List ℕ) (is : queue ≡ over (level_records p) qs) (room : n ≤ length qs) where
  pub tell-levels : (ls vs : List ℕ) → n ≤ length ls → n ≤ length vs → CanTell p queue n ls vs
  tell-levels ls vs a b = record {
    listed = omega (arith, ap length is, length_over (level_records p) qs (omega (arith, level-count p s)));
    small = λ j l.
        let h : j < length (level_records p) = omega (arith, level-count p s) in
        let e : get_or queue j 0 ≡ get_or (level_records p) j 0 = ap (λ (xs : List ℕ). get_or xs j 0) is ∙ get_d_over (level_records p) qs j h in
        let u = (s.fits (get_or (level_records p) j 0) (level-used p s (get_or (level_records p) j 0) (get_or-in (level_records p) j h))).entry-below in
        subst (λ (c : ℕ). entry p c < 2 ^ 16) (sym e) (omega arith);
    labels-fit = a;
    values-fit = b;
  }

  told : take n queue ≡ level_records p
  told = ap (λ (xs : List ℕ). take n xs) is ∙ ap (λ (k : ℕ). take k (over (level_records p) qs)) (count ∙ sym (level-count p s)) ∙ take-over (level_records p) qs

  pub told-labels : (ls : List ℕ) → over (map (entry p) (take n queue)) ls ≡ over (pool_labels p) ls
  unfolding pool_labels
  told-labels ls = ap (λ (cs : List ℕ). over (map (entry p) cs) ls) told

  pub told-values : (vs : List ℕ) → over (map (value p) (take n queue)) vs ≡ over (pool_values p) vs
  unfolding pool_values
  told-values vs = ap (λ (cs : List ℕ). over (map (value p) cs) vs) told

-- ---- the answer

pub said-built-one : (r s : Result ℕ Refusal) → said_built r ≡ said_built s → r ≡ s
said-built-one = said-one told_count count-one
