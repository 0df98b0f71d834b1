-- What each public call's contract says, in the definitions that the demands speak of: the answer, and each lent slice that it may write at exit.
-- Each tie is over the contract's own claim, so a contract that cites another definition breaks it. Assumes nothing.
use mathlib.Core.Path.{◌≡◌}
use Rattle.keymap.specs.Contract.{Tells}
use mathlib.Core.Bool.{true}
use mathlib.Core.Logic.{◌↔◌}
use Rattle.records.specs.Words.{entry, label, value, first_child, next_sibling, parent, last_record, used_count, capacity}
use Rattle.records.specs.Sound.{Sound}
use Rattle.records.specs.SoundTest.{sound_test}
use Rattle.records.proofs.words.entry_of.Kinds as entry-of-kinds
use Rattle.records.proofs.words.entry_of.Reads as entry-of-reads
use Rattle.records.proofs.words.label_of.Kinds as label-of-kinds
use Rattle.records.proofs.words.label_of.Reads as label-of-reads
use Rattle.records.proofs.words.value_of.Kinds as value-of-kinds
use Rattle.records.proofs.words.value_of.Reads as value-of-reads
use Rattle.records.proofs.words.first_child.Kinds as first-child-kinds
use Rattle.records.proofs.words.first_child.Reads as first-child-reads
use Rattle.records.proofs.words.next_sibling.Kinds as next-sibling-kinds
use Rattle.records.proofs.words.next_sibling.Reads as next-sibling-reads
use Rattle.records.proofs.words.parent_of.Kinds as parent-of-kinds
use Rattle.records.proofs.words.parent_of.Reads as parent-of-reads
use Rattle.records.proofs.words.last_record.Kinds as last-record-kinds
use Rattle.records.proofs.words.last_record.Reads as last-record-reads
use Rattle.records.proofs.words.used_count.Kinds as used-count-kinds
use Rattle.records.proofs.words.used_count.Reads as used-count-reads
use Rattle.records.proofs.words.capacity_of.Kinds as capacity-of-kinds
use Rattle.records.proofs.words.capacity_of.Reads as capacity-of-reads
use Rattle.records.proofs.soundness.is_sound.Kinds as is-sound-kinds
use Rattle.records.proofs.soundness.is_sound.Reads as is-sound-reads

pub entry-of-says : Tells 1 entry-of-kinds.ps entry-of-kinds.r entry-of-reads.Post (λ κs a r s. r ≡ entry a.0.now a.1.0)
entry-of-says κs a r s p = p

pub label-of-says : Tells 1 label-of-kinds.ps label-of-kinds.r label-of-reads.Post (λ κs a r s. r ≡ label a.0.now a.1.0)
label-of-says κs a r s p = p

pub value-of-says : Tells 1 value-of-kinds.ps value-of-kinds.r value-of-reads.Post (λ κs a r s. r ≡ value a.0.now a.1.0)
value-of-says κs a r s p = p

pub first-child-says : Tells 1 first-child-kinds.ps first-child-kinds.r first-child-reads.Post (λ κs a r s. r ≡ first_child a.0.now a.1.0)
first-child-says κs a r s p = p

pub next-sibling-says : Tells 1 next-sibling-kinds.ps next-sibling-kinds.r next-sibling-reads.Post (λ κs a r s. r ≡ next_sibling a.0.now a.1.0)
next-sibling-says κs a r s p = p

pub parent-of-says : Tells 1 parent-of-kinds.ps parent-of-kinds.r parent-of-reads.Post (λ κs a r s. r ≡ parent a.0.now a.1.0)
parent-of-says κs a r s p = p

pub last-record-says : Tells 1 last-record-kinds.ps last-record-kinds.r last-record-reads.Post (λ κs a r s. r ≡ last_record a.0.now)
last-record-says κs a r s p = p

pub used-count-says : Tells 1 used-count-kinds.ps used-count-kinds.r used-count-reads.Post (λ κs a r s. r ≡ used_count a.0.now)
used-count-says κs a r s p = p

pub capacity-of-says : Tells 1 capacity-of-kinds.ps capacity-of-kinds.r capacity-of-reads.Post (λ κs a r s. r ≡ capacity a.0.now)
capacity-of-says κs a r s p = p

pub is-sound-says : Tells 1 is-sound-kinds.ps is-sound-kinds.r is-sound-reads.Post (λ κs a r s. (r ≡ sound_test a.0.now) × ((r ≡ true) ↔ Sound a.0.now))
is-sound-says κs a r s p = p
