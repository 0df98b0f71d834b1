-- `places::moves::place_number` meets its contract. Assumes nothing.
use mathlib.Core.Path.{◌≡◌, sym, ◌∙◌}
use Prim.Native.Nat.{ℕ, ◌<◌}
use native.Mathlib.Omega.{arith}
use Rattle.std.specs.Prelude.{Result, Ok, Err}
use Rattle.std.specs.Result.{OkIff, result_unwrap_or}
use Rattle.places.specs.Moves.{place_number}
use Rattle.places.proofs.Laws.Moves.{number-large, number_small}
use Rattle.places.proofs.moves.place_number.Goals as goal

tried : {E : Type 0} (n : ℕ) (r : Result ℕ E) → OkIff r (n < 4294967296) n → result_unwrap_or r 0 ≡ place_number n
tried n (Ok k) told = told.1 ∙ sym (number_small n (omega (arith, told.0)))
tried n (Err e) told = sym (number-large n (omega (arith, told)))

pub returns : goal.returns
returns c = c.unwrap_or.ensures ∙ tried c.args.node c.try_from.result c.try_from.ensures
