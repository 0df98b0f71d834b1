-- What the public call's contract says, in the definition that the demands speak of. The tie is over the contract's own claim, so a contract that cites another definition breaks it. Assumes nothing.
use mathlib.Core.Path.{◌≡◌}
use Rattle.keymap.specs.Contract.{Tells}
use Rattle.keymap.specs.Refusals.{refusal_number}
use Rattle.keymap.proofs.refusals.Refusal.number.Kinds as refusal-number-kinds
use Rattle.keymap.proofs.refusals.Refusal.number.Reads as refusal-number-reads

pub refusal-number-says : Tells 0 refusal-number-kinds.ps refusal-number-kinds.r refusal-number-reads.Post (λ κs a r s. r ≡ refusal_number a.0)
refusal-number-says κs a r s p = p
