-- What each public call's contract says, in the definitions that the demands speak of: the answer, and each lent slice that it may write at exit.
-- Each tie is over the contract's own claim, so a contract that cites another definition breaks it. Of the three calls that are lent a place the whole contract is one
-- definition (`query-claims` and its like), and the tie says what that comes to. Assumes nothing.
use mathlib.Core.Path.{◌≡◌, refl, ap}
use mathlib.Core.List.{List}
use Prim.Native.Nat.{ℕ}
use Rattle.std.specs.Prelude.{Option, Result}
use seplogic.Ra.Ura.{Ura}
use base.Logic.{SProp}
use prog.Memory.{Memory}
use prog.Routine.{Routine}
use types.Logic.{Logic}
use contract.Monad.{Fun, fact}
use contract.Lifetimes.{Lfts}
use denote.Triple.Entry.{Args, Res}
use denote.Triple.Clauses.{AtExit}
use Rattle.keymap.specs.Contract.{Tells}
use Rattle.keymap.specs.declared.refusals.Refusal.{Refusal}
use Rattle.keymap.specs.Key.{Key}
use Rattle.keymap.specs.Image.{Image}
use Rattle.image.specs.Meaning.{image_in}
use Rattle.places.specs.declared.answers.Place.{Place}
use Rattle.places.specs.declared.answers.Answer.{Answer}
use Rattle.climbs.specs.Spelling.{said_spelled}
use Rattle.places.specs.Places.{said_resumed, said_valued, said_measured, resume_says, value_says, prefix_len_says, prefix_says, prefix_out}
use Rattle.places.specs.Incremental.{tells_prefix, tells_match, place_at, said_queried, said_followed, said_gone, query_says, query_moves, follow_says, follow_moves, goto_says, goto_moves, Promise, QueryPromise, FollowPromise, GotoPromise}
use Rattle.places.specs.contracts.calls.query
use Rattle.places.specs.contracts.calls.query_until as query-until
use Rattle.places.specs.contracts.calls.goto_longest_prefix as goto-longest-prefix
use Rattle.places.proofs.answers.Place.root.Kinds as root-kinds
use Rattle.places.proofs.answers.Place.root.Reads as root-reads
use Rattle.places.proofs.reading.resume.Kinds as resume-kinds
use Rattle.places.proofs.reading.resume.Reads as resume-reads
use Rattle.places.proofs.reading.value.Kinds as value-kinds
use Rattle.places.proofs.reading.value.Reads as value-reads
use Rattle.places.proofs.reading.prefix_len.Kinds as prefix-len-kinds
use Rattle.places.proofs.reading.prefix_len.Reads as prefix-len-reads
use Rattle.places.proofs.reading.prefix.Kinds as prefix-kinds
use Rattle.places.proofs.reading.prefix.Reads as prefix-reads
use Rattle.places.proofs.calls.peek.Kinds as peek-kinds
use Rattle.places.proofs.calls.peek.Reads as peek-reads
use Rattle.places.proofs.calls.query_at.Kinds as query-at-kinds
use Rattle.places.proofs.calls.query_at.Reads as query-at-reads
use Rattle.places.proofs.calls.query_until_at.Kinds as query-until-at-kinds
use Rattle.places.proofs.calls.query_until_at.Reads as query-until-at-reads
use Rattle.places.proofs.calls.goto_at.Kinds as goto-at-kinds
use Rattle.places.proofs.calls.goto_at.Reads as goto-at-reads
use Rattle.places.proofs.answers.Answer.is_prefix.Kinds as answer-is-prefix-kinds
use Rattle.places.proofs.answers.Answer.is_prefix.Reads as answer-is-prefix-reads
use Rattle.places.proofs.answers.Answer.is_match.Kinds as answer-is-match-kinds
use Rattle.places.proofs.answers.Answer.is_match.Reads as answer-is-match-reads

pub root-says : Tells 0 root-kinds.ps root-kinds.r root-reads.Post (λ κs a r s. r ≡ place_at 1)
root-says κs a r s p = p.0

pub resume-says : Tells 3 resume-kinds.ps resume-kinds.r resume-reads.Post (λ κs a r s. said_resumed r ≡ resume_says (image_in a.0 a.1.0 a.1.1.0) a.1.1.1.0)
resume-says κs a r s p = p

pub value-says : Tells 3 value-kinds.ps value-kinds.r value-reads.Post (λ κs a r s. said_valued r ≡ value_says (image_in a.0 a.1.0 a.1.1.0) a.1.1.1.0.node)
value-says κs a r s p = p

pub prefix-len-says : Tells 3 prefix-len-kinds.ps prefix-len-kinds.r prefix-len-reads.Post (λ κs a r s. said_measured r ≡ prefix_len_says (image_in a.0 a.1.0 a.1.1.0) a.1.1.1.0.node)
prefix-len-says κs a r s p = p

pub prefix-says : Tells 4 prefix-kinds.ps prefix-kinds.r prefix-reads.Post (λ κs a r s. (said_spelled r ≡ prefix_says (image_in a.0 a.1.0 a.1.1.0) a.1.1.1.0.node a.1.1.1.1.0.now) × (s.1.1.1.1.0.now ≡ prefix_out (image_in a.0 a.1.0 a.1.1.0) a.1.1.1.0.node a.1.1.1.1.0.now))
prefix-says κs a r s p = p

pub peek-says : Tells 3 peek-kinds.ps peek-kinds.r peek-reads.Post (λ κs a r s. said_queried r ≡ query_says (image_in a.0 a.1.0 a.1.1.0) a.1.1.1.0.node a.1.1.1.1.0)
peek-says κs a r s p = p

pub query-at-says : Tells 3 query-at-kinds.ps query-at-kinds.r query-at-reads.Post (λ κs a r s. (said_queried r.answer ≡ query_says (image_in a.0 a.1.0 a.1.1.0) a.1.1.1.0 a.1.1.1.1.0) × (r.node ≡ query_moves (image_in a.0 a.1.0 a.1.1.0) a.1.1.1.0 a.1.1.1.1.0))
query-at-says κs a r s p = (p.answers, ap (λ (x : Place). x.node) p.stands)

pub query-until-at-says : Tells 4 query-until-at-kinds.ps query-until-at-kinds.r query-until-at-reads.Post (λ κs a r s. (said_followed r.answer ≡ follow_says (image_in a.0 a.1.0 a.1.1.0) a.1.1.1.0 a.1.1.1.1.0.now) × (r.node ≡ follow_moves (image_in a.0 a.1.0 a.1.1.0) a.1.1.1.0 a.1.1.1.1.0.now))
query-until-at-says κs a r s p = (p.answers, ap (λ (x : Place). x.node) p.stands)

pub goto-at-says : Tells 3 goto-at-kinds.ps goto-at-kinds.r goto-at-reads.Post (λ κs a r s. (said_gone r.answer ≡ goto_says (image_in a.0 a.1.0 a.1.1.0) a.1.1.1.0) × (r.node ≡ goto_moves (image_in a.0 a.1.0 a.1.1.0) a.1.1.1.0))
goto-at-says κs a r s p = (p.answers, ap (λ (x : Place). x.node) p.stands)

pub answer-is-prefix-says : Tells 0 answer-is-prefix-kinds.ps answer-is-prefix-kinds.r answer-is-prefix-reads.Post (λ κs a r s. r ≡ tells_prefix a.0)
answer-is-prefix-says κs a r s p = p

pub answer-is-match-says : Tells 0 answer-is-match-kinds.ps answer-is-match-kinds.r answer-is-match-reads.Post (λ κs a r s. r ≡ tells_match a.0)
answer-is-match-says κs a r s p = p

-- ---- calls that are lent a place: the one clause of the contract is a promise, and a promise is an answer and a node

tells : (said says : List ℕ) (after : Place) (moves : ℕ) → Promise said says after moves → (said ≡ says) × (after.node ≡ moves)
tells said says after moves p = (p.answers, ap (λ (x : Place). x.node) p.stands)

module _ {M : Type 1} {𝓤 : Ura M} (𝓛 : Logic 𝓤) (mem : Memory → SProp 𝓤) (run : Routine → Fun 𝓤) where
  pub query-claims : (κs : Lfts 4) (a : Args query.signature κs) (r : Res query.signature κs) (s : AtExit query.ended κs)
      → (query.clauses 𝓛 mem run κs a).ensures tt r s ≡ fact 𝓤 (QueryPromise (image_in a.0 a.1.0 a.1.1.0) a.1.1.1.1.0 a.1.1.1.0.now r s.1.1.1.0.now)
  query-claims κs a r s = refl

  pub query-until-claims : (κs : Lfts 5) (a : Args query-until.signature κs) (r : Res query-until.signature κs) (s : AtExit query-until.ended κs)
      → (query-until.clauses 𝓛 mem run κs a).ensures tt r s ≡ fact 𝓤 (FollowPromise (image_in a.0 a.1.0 a.1.1.0) a.1.1.1.1.0.now a.1.1.1.0.now r s.1.1.1.0.now)
  query-until-claims κs a r s = refl

  pub goto-longest-prefix-claims : (κs : Lfts 4) (a : Args goto-longest-prefix.signature κs) (r : Res goto-longest-prefix.signature κs) (s : AtExit goto-longest-prefix.ended κs)
      → (goto-longest-prefix.clauses 𝓛 mem run κs a).ensures tt r s ≡ fact 𝓤 (GotoPromise (image_in a.0 a.1.0 a.1.1.0) a.1.1.1.0.now r s.1.1.1.0.now)
  goto-longest-prefix-claims κs a r s = refl

pub query-says : (i : Image) (a : ℕ) (before : Place) (r : Result (Option Answer) Refusal) (after : Place) → QueryPromise i a before r after → (said_queried r ≡ query_says i before.node a) × (after.node ≡ query_moves i before.node a)
query-says i a before r after p = tells _ _ _ _ p

pub query-until-says : (i : Image) (q : Key) (before : Place) (r : Result (Result Answer ℕ) Refusal) (after : Place) → FollowPromise i q before r after → (said_followed r ≡ follow_says i before.node q) × (after.node ≡ follow_moves i before.node q)
query-until-says i q before r after p = tells _ _ _ _ p

pub goto-longest-prefix-says : (i : Image) (before : Place) (r : Result (Result ℕ ℕ) Refusal) (after : Place) → GotoPromise i before r after → (said_gone r ≡ goto_says i before.node) × (after.node ≡ goto_moves i before.node)
goto-longest-prefix-says i before r after p = tells _ _ _ _ p
