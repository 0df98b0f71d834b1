-- A sound pool that was not reset here: its map is read off its records, and both it and the pool refilled with that map answer by it. Assumes nothing.
use Prim.Native.Nat.{ℕ}
use mathlib.Core.Path.{◌≡◌, sym, ap, subst, ◌∙◌}
use mathlib.Core.List.{List, [], ◌∷◌}
use native.Mathlib.Omega.{arith}
use Rattle.keymap.specs.Map.{Catalogue}
use Rattle.keymap.specs.Image.{Image, image}
use Rattle.records.specs.Words.{Pool, Bounded, capacity}
use Rattle.records.specs.Sound.{Sound}
use Rattle.records.specs.Meaning.{pool_map}
use Rattle.records.proofs.Laws.Sound.{used-within}
use Rattle.records.proofs.Laws.Meaning.{map-holds, map-catalogue, count-prefixes}
use Rattle.pool.specs.Reset.{reset_pool}
use Rattle.pool.specs.History.{AllLent, run_pool, map_run, pushes_of}
use Rattle.pool.proofs.Laws.Reset.{reset-sound, length-reset}
use Rattle.pool.proofs.Laws.History.{run_sound, run-map, run-within, pushes-lent, refill-says, refill-map}
use Rattle.image.specs.History.{Call, pool_calls, history_says, map_history_says}
use Rattle.image.specs.Build.{build_says}
use Rattle.image.proofs.Laws.History.{history-says}
use Rattle.theorems.specs.Built.{built_image}
use Rattle.theorems.specs.Demand2.{Demand2}
use Rattle.theorems.specs.NotReset.{refilled, EverySound}
use Rattle.theorems.proofs.Built.{run-capacity, built-image}
use Rattle.theorems.proofs.Demand2.{every-map}

module _ (p : Pool) (s : Sound p) (bounded : Bounded p) where
  held : Catalogue (pool_map p)
  held = map-catalogue p s bounded

  answers : (cs : List Call) → AllLent (pool_calls cs) → history_says p cs ≡ history_says (refilled p) cs
  answers cs lent =
      let pushes = pushes-lent (pool_map p) held.proper in
      let start = reset-sound p s.rooted in
      let long : capacity (reset_pool p) ≡ capacity p = rw (length-reset p) in
      let same : capacity (refilled p) ≡ capacity p = run-capacity (pushes_of (pool_map p)) (reset_pool p) start pushes ∙ long in
      let holds = refill-map p s bounded in
      let told : map_history_says (capacity (refilled p)) (pool_map (refilled p)) cs ≡ map_history_says (capacity p) (pool_map p) cs = λ i. map_history_says (same i) (holds i) cs in
      history-says cs p s lent ∙ sym (history-says cs (refilled p) (run_sound (pushes_of (pool_map p)) (reset_pool p) start pushes) lent ∙ told)

  searches : (cs : List Call) → AllLent (pool_calls cs) → (n : ℕ) (ls vs ws qs : List ℕ) → build_says (run_pool p (pool_calls cs)) ls vs ws qs ≡ 0 ∷ n ∷ []
      → Demand2 (map_run (capacity p) (pool_map p) (pool_calls cs)) (built_image n (run_pool p (pool_calls cs)) ls vs ws qs)
  searches cs lent n ls vs ws qs e =
      let after = run_pool p (pool_calls cs) in
      let m = map_run (capacity p) (pool_map p) (pool_calls cs) in
      let holds : pool_map after ≡ m = run-map (pool_calls cs) p s lent in
      let (c, few) = run-within (capacity p) (pool_calls cs) (pool_map p) held (omega (arith, count-prefixes p s, used-within p s)) lent in
      let built = (built-image after (run_sound (pool_calls cs) p s lent) (subst Catalogue (sym holds) c) n ls vs ws qs e).1 ∙ ap image holds in
      subst (λ (i : Image). Demand2 m i) (sym built) (every-map m c (omega arith))

pub every-sound : EverySound
every-sound p s bounded = record {
  spells = map-holds p s;
  accepts = refill-says p s bounded;
  holds = refill-map p s bounded;
  answers = answers p s bounded;
  searches = searches p s bounded;
}
