-- Demand 3, by the laws of histories: each call on a sound pool answers what the map tells, and build writes the image of the map that the pool holds.
--
--     every-history       demand 3 of any pool of 5 words or more and any calls
--     map-alone           the image that a build leaves is told by the map
-- Assumes nothing.
use Prim.Native.Nat.{ℕ, suc, ◌≤◌, ◌<◌}
use mathlib.Core.Path.{◌≡◌, refl, sym, ap, subst, ◌∙◌}
use mathlib.Core.Logic.{◌↔◌, inl, inr}
use mathlib.Core.Bool.{Bool, true, false}
use mathlib.Core.List.{List, [], ◌∷◌}
use native.Mathlib.Omega.{arith}
use lib.ListN.{length, get_or}
use lib.Dec.{leb, eqb}
use borrow.Author.Tests.{ne_eqb, leb-false, leb-true}
use Rattle.keymap.specs.Members.{In}
use Rattle.keymap.specs.Key.{Key}
use Rattle.keymap.specs.Map.{Map, Catalogue, insert}
use Rattle.keymap.specs.Prefixes.{prefixes}
use Rattle.keymap.specs.Refusals.{refuses}
use Rattle.keymap.specs.declared.refusals.Refusal.{Refusal}
use Rattle.keymap.specs.Image.{image}
use Rattle.keymap.specs.Paths.{path_of}
use Rattle.keymap.proofs.Laws.Prefixes.{prefixes-iff, prefixes-distinct}
use Rattle.records.specs.Words.{Pool, record_words, used_count, InUse, capacity}
use Rattle.records.specs.Sound.{Sound}
use Rattle.records.specs.Spelling as spelling
use Rattle.records.specs.Meaning.{pool_map}
use Rattle.records.proofs.Laws.Spelling.{spells-one-record, path-spells}
use Rattle.records.proofs.Laws.Meaning.{map-prefixes, count-prefixes}
use Rattle.pool.specs.Answers.{accepted}
use Rattle.pool.specs.Reset.{reset_pool}
use Rattle.pool.specs.Push.{push_says}
use Rattle.pool.specs.History.{PoolCall as PoolCall, AllLent, map_says}
use Rattle.pool.proofs.Laws.Reset.{reset-done, reset-sound, length-reset}
use Rattle.pool.proofs.Laws.History.{call-says, reset-run-sound, reset-run-map, reset-run-within}
use Rattle.image.specs.History.{Call, pool_calls}
use Rattle.image.specs.Build.{fit_says, build_says, build_scratch}
use Rattle.image.proofs.Laws.LevelPaths.{scratch-node}
use Rattle.image.proofs.Laws.History.{build-says, reset-history-says}
use Rattle.theorems.specs.Built.{pool_after, map_after, built_image}
use Rattle.theorems.specs.Demand3.{Exceeds, EveryHistory, MapAlone}
use Rattle.theorems.proofs.Built.{run-capacity, built-image}

-- a push of a nonempty key, by whether the prefixes would be too many
push-room : (most : ℕ) (m : Map) (k : Key) (v : ℕ) → ¬ (k ≡ []) → (map_says most m (PoolCall.push k v) ≡ refuses Refusal.NoRoom) ↔ Exceeds (length (prefixes (insert k v m))) most
push-room most m [] v n = absurd (n refl)
push-room most m (b ∷ k) v n = go (leb size most) refl
  where
    size : ℕ
    size = length (prefixes (insert (b ∷ k) v m))

    some : eqb (length (b ∷ k)) 0 ≡ false
    some = ne_eqb (length (b ∷ k)) 0 (λ e. omega arith)

    go : (t : Bool) → leb size most ≡ t → (map_says most m (PoolCall.push (b ∷ k) v) ≡ refuses Refusal.NoRoom) ↔ Exceeds size most
    go true e =
        let done : map_says most m (PoolCall.push (b ∷ k) v) ≡ 0 ∷ [] = rw (some, e) in
        (λ h. let z : ◌≡◌ {A = ℕ} 0 4 = cc in absurd (omega arith), λ h. absurd (omega (arith, leb-true size most e)))
    go false e = (λ h. omega (arith, leb-false size most e), λ h. rw (some, e))

module _ (p : Pool) (h : record_words ≤ length p) (cs : List Call) (lent : AllLent (pool_calls cs)) where
  sound : Sound (pool_after p cs)
  sound = reset-run-sound p h (pool_calls cs) lent

  holds : pool_map (pool_after p cs) ≡ map_after p cs
  holds = reset-run-map p h (pool_calls cs) lent

  catalogue : Catalogue (map_after p cs)
  catalogue = (reset-run-within p h (pool_calls cs) lent).0

  same : capacity (pool_after p cs) ≡ capacity p
  same =
      let e : capacity (reset_pool p) ≡ capacity p = rw (length-reset p) in
      run-capacity (pool_calls cs) (reset_pool p) (reset-sound p h) lent ∙ e

  -- one more call answers what the map tells
  says : (c : PoolCall) → map_says (capacity (pool_after p cs)) (pool_map (pool_after p cs)) c ≡ map_says (capacity p) (map_after p cs) c
  says c = let n = same in let m = holds in λ i. map_says (n i) (m i) c

  room : (k : Key) → ¬ (k ≡ []) → (v : ℕ) → (push_says (pool_after p cs) k ≡ refuses Refusal.NoRoom) ↔ Exceeds (length (prefixes (insert k v (map_after p cs)))) (capacity p)
  room k n v =
      let told = call-says (pool_after p cs) sound (PoolCall.push k v) ∙ says (PoolCall.push k v) in
      let (from, to) = push-room (capacity p) (map_after p cs) k v n in
      (λ e. from (sym told ∙ e), λ e. told ∙ to e)

  builds : (n : ℕ) (ls vs ws qs : List ℕ) → build_says (pool_after p cs) ls vs ws qs ≡ 0 ∷ n ∷ []
      → (n ≡ length (prefixes (map_after p cs))) × (built_image n (pool_after p cs) ls vs ws qs ≡ image (map_after p cs))
  builds n ls vs ws qs e =
      subst (λ (m : Map). (n ≡ length (prefixes m)) × (built_image n (pool_after p cs) ls vs ws qs ≡ image m)) holds
      (built-image (pool_after p cs) sound (subst Catalogue (sym holds) catalogue) n ls vs ws qs e)

  records : (k : Key) → In k (prefixes (map_after p cs)) ↔ ((c : ℕ) × InUse (pool_after p cs) c × (k ≡ spelling.record_path (pool_after p cs) c))
  records k = rw (← holds) (map-prefixes (pool_after p cs) sound k)

  apart : (c d : ℕ) → InUse (pool_after p cs) c → InUse (pool_after p cs) d → spelling.record_path (pool_after p cs) c ≡ spelling.record_path (pool_after p cs) d → c ≡ d
  apart c d u v e =
      spells-one-record (pool_after p cs) sound.children 0 (spelling.record_path (pool_after p cs) c) c d (inl refl) (path-spells (pool_after p cs) sound c (inr u))
      (subst (λ (k : Key). spelling.Spells (pool_after p cs) 0 k d) (sym e) (path-spells (pool_after p cs) sound d (inr v)))

  scratch : (n : ℕ) (ls vs ws qs : List ℕ) → build_says (pool_after p cs) ls vs ws qs ≡ 0 ∷ n ∷ [] → (j : ℕ) → j < n
      → InUse (pool_after p cs) (get_or (build_scratch (pool_after p cs) ls vs ws qs) j 0) × (spelling.record_path (pool_after p cs) (get_or (build_scratch (pool_after p cs) ls vs ws qs) j 0) ≡ path_of (map_after p cs) (suc (suc j)))
  scratch n ls vs ws qs e j l =
      let many : n ≡ used_count (pool_after p cs) = (builds n ls vs ws qs e).0 ∙ ap (λ (m : Map). length (prefixes m)) (sym holds) ∙ count-prefixes (pool_after p cs) sound in
      let (used, path) = scratch-node (pool_after p cs) sound ls vs ws qs (ap accepted e) j (omega arith) in
      (used, path ∙ ap (λ (m : Map). path_of m (suc (suc j))) holds)

pub every-history : EveryHistory
every-history p h cs lent =
    record {
      resets = sym (reset-done p h).0;
      answers = reset-history-says p h cs lent;
      holds = holds p h cs lent;
      catalogue = catalogue p h cs lent;
      prefix = prefixes-iff (map_after p cs);
      distinct = prefixes-distinct (map_after p cs) (catalogue p h cs lent).rising;
      counts = call-says (pool_after p cs) (sound p h cs lent) PoolCall.use_count ∙ says p h cs lent PoolCall.use_count;
      records = records p h cs lent;
      apart = apart p h cs lent;
      room = room p h cs lent;
      within = (reset-run-within p h (pool_calls cs) lent).1;
      needs = λ ls vs ws qs. build-says (pool_after p cs) (sound p h cs lent) ls vs ws qs ∙ ap (λ (m : Map). fit_says (length (prefixes m)) (length ls) (length vs) (length ws) (length qs)) (holds p h cs lent);
      builds = builds p h cs lent;
      scratch = scratch p h cs lent;
    }

pub map-alone : MapAlone
map-alone p q hp hq cs ds lp lq e n m ls vs ws qs ls₂ vs₂ ws₂ qs₂ one other =
    (builds p hp cs lp n ls vs ws qs one).1 ∙ ap image e ∙ sym (builds q hq ds lq m ls₂ vs₂ ws₂ qs₂ other).1
