-- What each public call's contract says, in the definitions that the statements speak of: the answer, and each room that it may write at exit.
-- Each tie is over the contract's own claim, so a contract that cites another definition breaks it. Assumes nothing.
use mathlib.Core.Path.{◌≡◌}
use Rattle.keymap.specs.Contract.{Tells}
use Rattle.catalogue.specs.Reading.{nothing_read, next_at, take_read, what_read}
use Rattle.catalogue.specs.Rooms.{RoomsLeft}
use Rattle.catalogue.proofs.answer.Kinds as answer-kinds
use Rattle.catalogue.proofs.answer.Reads as answer-reads
use Rattle.catalogue.proofs.reading.begin.Kinds as begin-kinds
use Rattle.catalogue.proofs.reading.begin.Reads as begin-reads
use Rattle.catalogue.proofs.reading.next_at.Kinds as next-at-kinds
use Rattle.catalogue.proofs.reading.next_at.Reads as next-at-reads
use Rattle.catalogue.proofs.reading.take_read.Kinds as take-read-kinds
use Rattle.catalogue.proofs.reading.take_read.Reads as take-read-reads

-- the rooms before the call, and the number of bytes written, the buffer they stand in and the rooms after it
pub answer-says : Tells 7 answer-kinds.ps answer-kinds.r answer-reads.Post (λ κs a r s.
    RoomsLeft (what_read a.0 a.1.0.now)
    a.1.1.0.now a.1.1.1.0.now a.1.1.1.1.0.now a.1.1.1.1.1.0.now a.1.1.1.1.1.1.0.now a.1.1.1.1.1.1.1.0.now
    r
    s.1.1.1.1.1.1.1.0.now s.1.1.0.now s.1.1.1.0.now s.1.1.1.1.0.now s.1.1.1.1.1.0.now s.1.1.1.1.1.1.0.now)
answer-says κs a r s p = p

pub begin-says : Tells 0 begin-kinds.ps begin-kinds.r begin-reads.Post (λ κs a r s. r ≡ nothing_read)
begin-says κs a r s p = p

pub next-at-says : Tells 0 next-at-kinds.ps next-at-kinds.r next-at-reads.Post (λ κs a r s. r ≡ next_at a.0)
next-at-says κs a r s p = p

pub take-read-says : Tells 0 take-read-kinds.ps take-read-kinds.r take-read-reads.Post (λ κs a r s. r ≡ take_read a.0 a.1.0)
take-read-says κs a r s p = p
