-- Laws of histories with builds. What a build says and writes is told by the map that the pool holds, and that map is told by the other calls.
--
--     build-says          what a build of a sound pool says, by the map
--     history-says        any calls on a sound pool answer what the map tells
--     reset-history-says  so do any calls after an accepted reset, by the keys accepted since the last reset
--     reset-run-build     an accepted build after any such calls writes the image of the map of those keys
-- Assumes nothing.
use Prim.Native.Nat.{ℕ, ◌≤◌}
use mathlib.Core.Path.{◌≡◌, refl, sym, ◌∙◌, ap, subst}
use mathlib.Core.Bool.{true}
use mathlib.Core.List.{List, [], ◌∷◌}
use lib.ListN.{length}
use Rattle.keymap.specs.Map.{Map}
use Rattle.keymap.specs.Prefixes.{prefixes}
use Rattle.keymap.specs.Image.{image}
use Rattle.records.specs.Words.{Pool, record_words, capacity}
use Rattle.records.specs.Sound.{Sound}
use Rattle.records.specs.Meaning.{pool_map}
use Rattle.records.proofs.Laws.Meaning.{count-prefixes}
use Rattle.pool.specs.Answers.{accepted}
use Rattle.pool.specs.Reset.{reset_pool}
use Rattle.pool.specs.History.{AllLent, run_pool, map_run}
use Rattle.pool.proofs.Laws.Reset.{reset-sound, length-reset}
use Rattle.pool.proofs.Laws.Meaning.{reset-means-empty}
use Rattle.pool.proofs.Laws.History.{call-says, call-map, call-sound, call-capacity, reset-run-sound, reset-run-map}
use Rattle.image.specs.Build.{fit_says, build_says}
use Rattle.image.specs.History.{Call, pool_calls, history_says, map_history_says}
use Rattle.image.proofs.Laws.Build.{says-sound}
use Rattle.image.proofs.Laws.PoolImage.{Shows, build-means-image}

pub build-says : (p : Pool) → Sound p → (ls vs ws qs : List ℕ) → build_says p ls vs ws qs ≡ fit_says (length (prefixes (pool_map p))) (length ls) (length vs) (length ws) (length qs)
build-says p s ls vs ws qs =
    says-sound p ls vs ws qs s ∙ ap (λ (n : ℕ). fit_says n (length ls) (length vs) (length ws) (length qs)) (sym (count-prefixes p s))

pub history-says : (cs : List Call) (p : Pool) → Sound p → AllLent (pool_calls cs) → history_says p cs ≡ map_history_says (capacity p) (pool_map p) cs
unfolding history_says map_history_says pool_calls
history-says [] p s l = refl
history-says (Call.on_pool c ∷ cs) p s l =
    let first = call-says p s c in
    let rest = history-says cs _ (call-sound p s c l.0) l.1 in
    let m = call-map p s c l.0 in
    let n = call-capacity p s c l.0 in
    λ i. first i ∷ (rest ∙ (λ j. map_history_says (n j) (m j) cs)) i
history-says (Call.build ls vs ws qs ∷ cs) p s l =
    let first = build-says p s ls vs ws qs in
    let rest = history-says cs p s l in
    λ i. first i ∷ rest i

module _ (p : Pool) (h : record_words ≤ length p) (cs : List Call) (lent : AllLent (pool_calls cs)) where
  pub reset-history-says : history_says (reset_pool p) cs ≡ map_history_says (capacity p) [] cs
  reset-history-says =
      let e : capacity (reset_pool p) ≡ capacity p = rw (length-reset p) in
      let m = reset-means-empty p h in
      history-says cs (reset_pool p) (reset-sound p h) lent ∙ (λ i. map_history_says (e i) (m i) cs)

  pub reset-run-build : (ls vs ws qs : List ℕ) → accepted (build_says (run_pool (reset_pool p) (pool_calls cs)) ls vs ws qs) ≡ true
      → Shows (image (map_run (capacity p) [] (pool_calls cs))) (run_pool (reset_pool p) (pool_calls cs)) ls vs ws qs
  reset-run-build ls vs ws qs e =
      let q = run_pool (reset_pool p) (pool_calls cs) in
      subst (λ (m : Map). Shows (image m) q ls vs ws qs) (reset-run-map p h (pool_calls cs) lent) (build-means-image q (reset-run-sound p h (pool_calls cs) lent) ls vs ws qs e)
