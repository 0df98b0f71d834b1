-- Laws of the use count: what it says in each case. Assumes nothing.
use Prim.Native.Nat.{ℕ, ◌≤◌, ◌<◌}
use Rattle.std.specs.Prelude.{Result, Ok, Err, MatchResult, IsOkAnd}
use mathlib.Core.Path.{◌≡◌, sym, ◌∙◌, ap}
use mathlib.Core.Bool.{Bool, true, false, cond}
use mathlib.Core.List.{[], ◌∷◌}
use lib.ListN.{length}
use lib.Dec.{ltb}
use borrow.Author.Tests.{le-ltb, lt-ltb}
use Rattle.keymap.specs.Refusals.{refuses}
use Rattle.keymap.specs.declared.refusals.Refusal.{Refusal}
use Rattle.records.specs.Words.{Pool, record_words, used_count}
use Rattle.records.specs.SoundTest.{sound_test, check_sound}
use Rattle.records.proofs.Laws.SoundTest.{passed-test}
use Rattle.pool.specs.Answers.{said_counted}
use Rattle.pool.specs.UseCount.{use_count_says}

module _ (p : Pool) where
  pub use-count-small : length p < record_words → refuses Refusal.PoolTooSmall ≡ use_count_says p
  unfolding use_count_says
  use-count-small h = simp (lt-ltb _ _ h)

  pub use-count-unsound : record_words ≤ length p → sound_test p ≡ false → refuses Refusal.NotAPool ≡ use_count_says p
  unfolding use_count_says
  use-count-unsound h e = simp (le-ltb _ _ h, e)

  pub use-count-sound : record_words ≤ length p → sound_test p ≡ true → 0 ∷ used_count p ∷ [] ≡ use_count_says p
  unfolding use_count_says
  use-count-sound h e = simp (le-ltb _ _ h, e)

  pub use-count-refused : (r : Refusal) → check_sound p ≡ Err r → refuses r ≡ use_count_says p
  unfolding check_sound use_count_says
  use-count-refused r e = go (ltb (length p) record_words) (sound_test p) e
    where
      go : (t u : Bool) → cond t (Err Refusal.PoolTooSmall) (cond u (Ok (tt {0})) (Err Refusal.NotAPool)) ≡ Err r
          → refuses r ≡ cond t (refuses Refusal.PoolTooSmall) (cond u (0 ∷ used_count p ∷ []) (refuses Refusal.NotAPool))
      go true u q = let k : Refusal.PoolTooSmall ≡ r = cc in ap refuses (sym k)
      go false true q = absurd (cc)
      go false false q = let k : Refusal.NotAPool ≡ r = cc in ap refuses (sym k)

  -- where the count is told of a pool that is not refused
  pub use-count-mapped : (P : Unit {0} → ℕ → Type 0) (q : Result (Unit {0}) Refusal) (r : Result ℕ Refusal) → q ≡ check_sound p
      → MatchResult q (λ x. IsOkAnd r (P x)) (λ e. r ≡ Err e) → ((x : Unit {0}) (n : ℕ) → P x n → n ≡ used_count p) → said_counted r ≡ use_count_says p
  use-count-mapped P (Ok u) (Ok n) e h counts = ap (λ (k : ℕ). 0 ∷ k ∷ []) (counts u n h) ∙ (let t = passed-test p (sym e) in use-count-sound t.0 t.1)
  use-count-mapped P (Ok u) (Err t) e h counts = absurd h
  use-count-mapped P (Err t) r e h counts = ap said_counted h ∙ use-count-refused t (sym e)
