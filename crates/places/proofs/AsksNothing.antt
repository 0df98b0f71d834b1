-- No public call asks anything of its caller: what its contract requires holds of any arguments, so that a clause that is added breaks the law.
-- Of the calls that are lent a place, the clauses themselves are shown to be empty. Assumes nothing.
use mathlib.Core.Path.{◌≡◌, refl}
use seplogic.Ra.Ura.{Ura}
use base.Logic.{SProp, emp}
use prog.Memory.{Memory}
use prog.Routine.{Routine}
use types.Logic.{Logic}
use contract.Monad.{Fun}
use denote.Triple.Entry.{Args}
use Rattle.places.specs.contracts.calls.query
use Rattle.places.specs.contracts.calls.query_until as query-until
use Rattle.places.specs.contracts.calls.goto_longest_prefix as goto-longest-prefix
use contract.Lifetimes.{Lfts}
use borrow.Fn.World.{ArgsD}
use Rattle.places.specs.contracts.reading.resume
use Rattle.places.proofs.reading.resume.Reads as resume-reads
use Rattle.places.specs.contracts.reading.value
use Rattle.places.proofs.reading.value.Reads as value-reads
use Rattle.places.specs.contracts.reading.prefix_len
use Rattle.places.proofs.reading.prefix_len.Reads as prefix-len-reads
use Rattle.places.specs.contracts.reading.prefix
use Rattle.places.proofs.reading.prefix.Reads as prefix-reads
use Rattle.places.specs.contracts.answers.Place.root
use Rattle.places.proofs.answers.Place.root.Reads as root-reads
use Rattle.places.specs.contracts.calls.peek
use Rattle.places.proofs.calls.peek.Reads as peek-reads
use Rattle.places.specs.contracts.calls.query_at
use Rattle.places.proofs.calls.query_at.Reads as query-at-reads
use Rattle.places.specs.contracts.calls.query_until_at
use Rattle.places.proofs.calls.query_until_at.Reads as query-until-at-reads
use Rattle.places.specs.contracts.calls.goto_at
use Rattle.places.proofs.calls.goto_at.Reads as goto-at-reads
use Rattle.places.specs.contracts.answers.Answer.is_prefix as answer-is-prefix
use Rattle.places.proofs.answers.Answer.is_prefix.Reads as answer-is-prefix-reads
use Rattle.places.specs.contracts.answers.Answer.is_match as answer-is-match
use Rattle.places.proofs.answers.Answer.is_match.Reads as answer-is-match-reads

pub resume-asks-nothing : (κs : Lfts 3) (a : ArgsD resume.signature κs) → resume-reads.Pre κs a
resume-asks-nothing κs a = tt

pub value-asks-nothing : (κs : Lfts 3) (a : ArgsD value.signature κs) → value-reads.Pre κs a
value-asks-nothing κs a = tt

pub prefix-len-asks-nothing : (κs : Lfts 3) (a : ArgsD prefix_len.signature κs) → prefix-len-reads.Pre κs a
prefix-len-asks-nothing κs a = tt

pub prefix-asks-nothing : (κs : Lfts 4) (a : ArgsD prefix.signature κs) → prefix-reads.Pre κs a
prefix-asks-nothing κs a = tt

pub root-asks-nothing : (κs : Lfts 0) (a : ArgsD root.signature κs) → root-reads.Pre κs a
root-asks-nothing κs a = tt

pub peek-asks-nothing : (κs : Lfts 3) (a : ArgsD peek.signature κs) → peek-reads.Pre κs a
peek-asks-nothing κs a = tt

pub query-at-asks-nothing : (κs : Lfts 3) (a : ArgsD query_at.signature κs) → query-at-reads.Pre κs a
query-at-asks-nothing κs a = tt

pub query-until-at-asks-nothing : (κs : Lfts 4) (a : ArgsD query_until_at.signature κs) → query-until-at-reads.Pre κs a
query-until-at-asks-nothing κs a = tt

pub goto-at-asks-nothing : (κs : Lfts 3) (a : ArgsD goto_at.signature κs) → goto-at-reads.Pre κs a
goto-at-asks-nothing κs a = tt

pub answer-is-prefix-asks-nothing : (κs : Lfts 0) (a : ArgsD answer-is-prefix.signature κs) → answer-is-prefix-reads.Pre κs a
answer-is-prefix-asks-nothing κs a = tt

pub answer-is-match-asks-nothing : (κs : Lfts 0) (a : ArgsD answer-is-match.signature κs) → answer-is-match-reads.Pre κs a
answer-is-match-asks-nothing κs a = tt

module _ {M : Type 1} {𝓤 : Ura M} (𝓛 : Logic 𝓤) (mem : Memory → SProp 𝓤) (run : Routine → Fun 𝓤) where
  pub query-asks-nothing : (κs : Lfts 4) (a : Args query.signature κs) → (query.clauses 𝓛 mem run κs a).requires tt ≡ emp 𝓤
  query-asks-nothing κs a = refl

  pub query-until-asks-nothing : (κs : Lfts 5) (a : Args query-until.signature κs) → (query-until.clauses 𝓛 mem run κs a).requires tt ≡ emp 𝓤
  query-until-asks-nothing κs a = refl

  pub goto-longest-prefix-asks-nothing : (κs : Lfts 4) (a : Args goto-longest-prefix.signature κs) → (goto-longest-prefix.clauses 𝓛 mem run κs a).requires tt ≡ emp 𝓤
  goto-longest-prefix-asks-nothing κs a = refl
