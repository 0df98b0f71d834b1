-- What a build of a sound pool leaves at the front of the buffers is the image of the pool's map; and calls leave the capacity.
--
--     run-capacity     after any calls the capacity is what it was
--     built-image      an accepted build answers the number of distinct prefixes, and leaves the image of the map
-- Assumes nothing.
use Prim.Native.Nat.{ℕ}
use mathlib.Core.Path.{◌≡◌, refl, sym, ap, ◌∙◌}
use mathlib.Core.Bool.{Bool, true, false}
use mathlib.Core.List.{List, [], ◌∷◌}
use native.Mathlib.Omega.{arith}
use lib.ListN.{length, take}
use Rattle.keymap.specs.Map.{Map, Catalogue}
use Rattle.keymap.specs.Prefixes.{prefixes}
use Rattle.keymap.specs.Refusals.{refuses}
use Rattle.keymap.specs.declared.refusals.Refusal.{Refusal}
use Rattle.keymap.specs.Bits.{words_for, pack}
use Rattle.keymap.specs.Image.{bits_for, image, image_bits}
use Rattle.keymap.proofs.Laws.Image.{length-image_labels, length-image_values, length-image_bits}
use Rattle.keymap.proofs.Laws.Bits.{length-pack}
use Rattle.records.specs.Words.{Pool, capacity}
use Rattle.records.specs.Sound.{Sound}
use Rattle.records.specs.Meaning.{pool_map}
use Rattle.pool.specs.Answers.{accepted}
use Rattle.pool.specs.History.{PoolCall as PoolCall, AllLent, call_pool, run_pool}
use Rattle.pool.proofs.Laws.History.{call-sound, call-capacity}
use Rattle.image.specs.Build.{buffers_fit, fit_says, build_says}
use Rattle.keymap.specs.Buffers.{over}
use Rattle.keymap.proofs.Laws.Buffers.{take-over}
use Rattle.image.proofs.Laws.PoolImage.{Shows, build-means-image}
use Rattle.image.proofs.Laws.History.{build-says}
use Rattle.theorems.specs.Built.{built_image}

-- calls leave a pool of the same capacity
pub run-capacity : (cs : List PoolCall) (p : Pool) → Sound p → AllLent cs → capacity (run_pool p cs) ≡ capacity p
unfolding run_pool
run-capacity [] p s l = refl
run-capacity (c ∷ cs) p s l = run-capacity cs (call_pool p c) (call-sound p s c l.0) l.1 ∙ call-capacity p s c l.0

-- the number in an answer of a build that is accepted
fit_count : (n m labels values words scratch : ℕ) → fit_says m labels values words scratch ≡ 0 ∷ n ∷ [] → n ≡ m
unfolding fit_says
fit_count n m labels values words scratch h = go (buffers_fit m labels values words scratch) refl
  where
    go : (t : Bool) → buffers_fit m labels values words scratch ≡ t → n ≡ m
    go true e = let g : 0 ∷ m ∷ [] ≡ 0 ∷ n ∷ [] = rw e at h in cc
    go false e = let g : refuses Refusal.OutTooSmall ≡ 0 ∷ n ∷ [] = rw e at h in let z : ◌≡◌ {A = ℕ} 0 5 = cc in absurd (omega arith)

-- what lies over the front of a buffer is its leading part
front : (n : ℕ) (xs ys : List ℕ) (after : List ℕ) → n ≡ length xs → after ≡ over xs ys → take n after ≡ xs
front n xs ys after e h = ap (λ (k : ℕ). take k after) e ∙ ap (take (length xs)) h ∙ take-over xs ys

image-front : (n : ℕ) (p : Pool) (m : Map) (ls vs ws qs : List ℕ) → Catalogue m → n ≡ length (prefixes m) → Shows (image m) p ls vs ws qs → built_image n p ls vs ws qs ≡ image m
unfolding built_image image
image-front n p m ls vs ws qs c e s =
    let labels = front n _ ls _ (e ∙ sym (length-image_labels m)) s.labels-show in
    let values = front n _ vs _ (e ∙ sym (length-image_values m)) s.values-show in
    let size : words_for (bits_for n) ≡ length (pack (image_bits m)) = ap (λ (k : ℕ). words_for (bits_for k)) e ∙ sym (length-pack (image_bits m) ∙ ap words_for (length-image_bits m c)) in
    let words = front (words_for (bits_for n)) _ ws _ size s.words-show in
    λ i. record { labels = labels i; values = values i; words = words i }

pub built-image : (p : Pool) → Sound p → Catalogue (pool_map p) → (n : ℕ) (ls vs ws qs : List ℕ) → build_says p ls vs ws qs ≡ 0 ∷ n ∷ []
    → (n ≡ length (prefixes (pool_map p))) × (built_image n p ls vs ws qs ≡ image (pool_map p))
built-image p s c n ls vs ws qs e =
    let size = length (prefixes (pool_map p)) in
    let count = fit_count n size (length ls) (length vs) (length ws) (length qs) (sym (build-says p s ls vs ws qs) ∙ e) in
    (count, image-front n p (pool_map p) ls vs ws qs c count (build-means-image p s ls vs ws qs (ap accepted e)))
