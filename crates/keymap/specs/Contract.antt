-- What a contract says: the shape of the ties between the contracts of the calls and the definitions of which the
-- theorems speak.
-- Assumes nothing.
use Rattle.std.specs.Prelude.{ℕ, List}
use contract.Lifetimes.{Lfts}
use denote.Triple.Clauses.{AtExit}
use borrow.Fn.Kinds.{ParamKind, ResultKind, Dens, Out, ended_of, res_t}

-- whatever a function was lent (a), answers (r) and leaves at exit (s): where its contract's claim holds of it, so does
-- this one.
-- A function is told by how many lifetimes it has and the kinds of its parameters and of its result
abbrev pub Tells : (n : ℕ) (parameters : List (ParamKind n)) (result : ResultKind n) → Out n parameters result
    → Out n parameters result → Type 0
Tells n parameters result contract claim =
    (κs : Lfts n) (a : Dens κs parameters) (r : (res_t result κs).Denot) (s : AtExit (ended_of n parameters result) κs)
    → contract κs a r s → claim κs a r s
