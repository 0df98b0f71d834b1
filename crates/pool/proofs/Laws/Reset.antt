-- Laws of reset: its two cases, and that a pool that was reset is sound, since its root has no child and no record is in use.
--
--     reset-small, reset-done    what it says and leaves
--     reset-sound                what it leaves of 5 words or more is sound
--     reset-others               the words behind record 0 are as they were
-- Assumes nothing.
use Prim.Native.Nat.{ℕ, ◌/◌, ◌%◌, ◌≤◌, ◌<◌}
use mathlib.Core.Path.{◌≡◌, refl, sym, ◌∙◌, subst}
use mathlib.Core.Bool.{Bool, true, false, cond}
use mathlib.Core.List.{[], ◌∷◌}
use native.Mathlib.Omega.{arith}
use lib.ListN.{length, get_or}
use borrow.Author.Tests.{le-ltb, lt-ltb}
use Rattle.keymap.specs.Refusals.{refuses}
use Rattle.keymap.specs.declared.refusals.Refusal.{Refusal}
use Rattle.records.specs.Words.{Pool, record_words, last_record, used_count}
use Rattle.records.specs.Sound.{ChildChain, Sound}
use Rattle.records.proofs.Laws.Words.{word_at, last_entry, count_none, node-within}
use Rattle.pool.specs.Answers.{accepted}
use Rattle.pool.specs.Writing.{filled}
use Rattle.pool.specs.Reset.{reset_says, reset_pool}
use Rattle.pool.proofs.Laws.Writing.{length-filled, filled-other, filled-entry, filled-value, filled-child, filled-sibling, filled-parent}

module _ (p : Pool) where
  pub reset-small : length p < record_words → (refuses Refusal.PoolTooSmall ≡ reset_says p) × (p ≡ reset_pool p)
  unfolding reset_says reset_pool
  reset-small h = (simp (lt-ltb _ _ h), simp (lt-ltb _ _ h))

  pub reset-done : record_words ≤ length p → (0 ∷ [] ≡ reset_says p) × (filled p 0 0 0 0 ≡ reset_pool p)
  unfolding reset_says reset_pool
  reset-done h = (simp (le-ltb _ _ h), simp (le-ltb _ _ h))

  pub length-reset : length (reset_pool p) ≡ length p
  unfolding reset_pool
  length-reset = go (accepted (reset_says p))
    where
      go : (t : Bool) → length (cond t (filled p 0 0 0 0) p) ≡ length p
      go true = length-filled p 0 0 0 0
      go false = refl

  pub reset-others : (j : ℕ) → record_words ≤ j → get_or (reset_pool p) j 0 ≡ get_or p j 0
  unfolding reset_pool
  reset-others j h = go (accepted (reset_says p))
    where
      go : (t : Bool) → get_or (cond t (filled p 0 0 0 0) p) j 0 ≡ get_or p j 0
      go true =
          word_at (filled p 0 0 0 0) j ∙ filled-other p 0 0 0 0 (j / record_words) (j % record_words) (omega arith) (λ e. omega arith) ∙ sym (word_at p j)
      go false = refl

  module _ (h : record_words ≤ length p) where
    abbrev zeroed : Pool
    zeroed = filled p 0 0 0 0

    zeroed-last : last_record zeroed ≡ 0
    zeroed-last = last_entry zeroed ∙ filled-entry p 0 0 0 0 (omega arith)

    zeroed-sound : Sound zeroed
    zeroed-sound =
        let l = length-filled p 0 0 0 0 in
        let z = zeroed-last in
        record {
          rooted = omega arith;
          within = omega arith;
          root = (filled-value p 0 0 0 0 (omega arith), filled-sibling p 0 0 0 0 (omega arith), filled-parent p 0 0 0 0 (omega arith));
          fits = λ c u. absurd (omega arith);
          children = λ c u.
              let e : c ≡ 0 = omega (arith, node-within zeroed c u) in
              subst (ChildChain zeroed) (sym e)
              (record { kids = []; chain = filled-child p 0 0 0 0 (omega arith); rising = tt; only = λ x m. absurd m; all = λ x w t. absurd (omega arith) });
        }

    pub reset-sound : Sound (reset_pool p)
    reset-sound = subst Sound (reset-done h).1 zeroed-sound

    pub reset-count : used_count (reset_pool p) ≡ 0
    reset-count = subst (λ (q : Pool). used_count q ≡ 0) (reset-done h).1 (count_none zeroed zeroed-last)
