-- What each public call's contract says, in the definitions of specs/. Each tie is over the contract's own claim, so a contract that cites another definition breaks it.
-- Assumes nothing.
use mathlib.Core.Path.{◌≡◌}
use Rattle.keymap.specs.Contract.{Tells}
use Rattle.keymap.specs.Bits.{bit}
use Rattle.walks.specs.Rule.{walked}
use Rattle.walks.specs.Stands.{reached_at}
use Rattle.descents.proofs.queries.walk.Kinds as walk-kinds
use Rattle.descents.proofs.queries.walk.Reads as walk-reads
use Rattle.descents.proofs.queries.end_of.Kinds as end-of-kinds
use Rattle.descents.proofs.queries.end_of.Reads as end-of-reads

pub walk-says : Tells 3 walk-kinds.ps walk-kinds.r walk-reads.Post (λ κs a r s. r ≡ reached_at (bit a.1.0.words.now) a.1.0.len (walked a.0.now (bit a.1.0.words.now) a.1.0.len a.1.1.0.now))
walk-says κs a r s p = p

pub end-of-says : Tells 3 end-of-kinds.ps end-of-kinds.r end-of-reads.Post (λ κs a r s. r ≡ (walked a.0.now (bit a.1.0.words.now) a.1.0.len a.1.1.0.now))
end-of-says κs a r s p = p
