-- From a contract to 01's lines: whatever an outcome is that the contract of a call allows, on A's pool or on A's image it is the one that 01 tells.
-- Each goes by the call's tie and a use of a statement. Assumes nothing.
use Rattle.std.specs.Prelude.{ℕ, Result}
use mathlib.Core.Path.{◌≡◌, ◌∙◌}
use mathlib.Core.List.{[], ◌∷◌}
use Rattle.keymap.specs.Contract.{Tells}
use Rattle.keymap.specs.Key.{compare_keys}
use Rattle.keymap.specs.Map.{lookup}
use Rattle.pool.specs.Answers.{said_pushed}
use Rattle.pool.specs.Push.{push_says, push_pool}
use Rattle.pool.proofs.push.Kinds as push-kinds
use Rattle.pool.proofs.push.Reads as push-reads
use Rattle.image.specs.Meaning.{image_in}
use Rattle.places.specs.declared.answers.Place.{Place}
use Rattle.keymap.specs.declared.refusals.Refusal.{Refusal}
use Rattle.places.specs.declared.answers.Answer.{Answer}
use Rattle.searches.specs.Answers.{said_looked}
use Rattle.searches.specs.Exact.{exact_says}
use Rattle.places.specs.Incremental.{place_at, said_followed, FollowPromise}
use Rattle.searches.proofs.exact_match.Kinds as exact-match-kinds
use Rattle.searches.proofs.exact_match.Reads as exact-match-reads
use Rattle.theorems.proofs.Ties.{push-says, exact-match-says, query-until-says}
use Rattle.theorems.proofs.Uses.Values.{ab, ax, c, image_a, words_a}
use Rattle.theorems.proofs.Uses.Demand1.{refused-push, push-keeps}
use Rattle.theorems.proofs.Uses.Demand2.{on_a, query-until}

-- "A, capacity 3, push "c": NoRoom", and the pool is as it was
pub push-c : Tells 2 push-kinds.ps push-kinds.r push-reads.Post (λ κs a r s. a.0.now ≡ words_a → a.1.0.now ≡ c → (said_pushed r ≡ 4 ∷ []) × (s.0.now ≡ words_a))
push-c κs a r s p pool key =
    let (answer, left) = push-says κs a r s p in
    (answer ∙ (λ i. push_says (pool i) (key i)) ∙ refused-push, left ∙ (λ i. push_pool (pool i) (key i) a.1.1.0) ∙ push-keeps a.1.1.0)

-- "ab" has 7 in A's image
pub exact-match-ab : Tells 4 exact-match-kinds.ps exact-match-kinds.r exact-match-reads.Post (λ κs a r s.
    image_in a.0 a.1.0 a.1.1.0 ≡ image_a → a.1.1.1.0.now ≡ ab → said_looked r ≡ 0 ∷ 7 ∷ [])
unfolding lookup compare_keys
exact-match-ab κs a r s p image query = exact-match-says κs a r s p ∙ (λ i. exact_says (image i) (query i)) ∙ on_a.exact-match ab

-- "A, `query_until` "ax": Err(1), place at "a"", which is node 2: of any answer and place that the promise allows
pub query-until-ax : (r : Result (Result Answer ℕ) Refusal) (after : Place) → FollowPromise image_a ax (place_at 1) r after → (said_followed r ≡ 0 ∷ 1 ∷ 1 ∷ []) × (after.node ≡ 2)
query-until-ax r after p = let (answer, moved) = query-until-says image_a ax (place_at 1) r after p in (answer ∙ query-until.0, moved ∙ query-until.1)
