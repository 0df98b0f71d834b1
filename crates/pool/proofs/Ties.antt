-- What each public call's contract says, in the definitions that the demands speak of: the answer, and each lent slice that it may write at exit.
-- Each tie is over the contract's own claim, so a contract that cites another definition breaks it. Assumes nothing.
use mathlib.Core.Path.{◌≡◌}
use mathlib.Core.Logic.{◌↔◌}
use Rattle.std.specs.Prelude.{Ok}
use Rattle.keymap.specs.Contract.{Tells}
use Rattle.records.specs.Sound.{Sound}
use Rattle.records.specs.SoundTest.{check_sound}
use Rattle.pool.specs.Answers.{said_cleared, said_counted, said_pushed}
use Rattle.pool.specs.Reset.{reset_says, reset_pool}
use Rattle.pool.specs.UseCount.{use_count_says}
use Rattle.pool.specs.Push.{push_says, push_pool}
use Rattle.pool.proofs.reset.Kinds as reset-kinds
use Rattle.pool.proofs.reset.Reads as reset-reads
use Rattle.pool.proofs.use_count.Kinds as use-count-kinds
use Rattle.pool.proofs.use_count.Reads as use-count-reads
use Rattle.pool.proofs.push.Kinds as push-kinds
use Rattle.pool.proofs.push.Reads as push-reads
use Rattle.pool.proofs.soundness.check_sound.Kinds as check-sound-kinds
use Rattle.pool.proofs.soundness.check_sound.Reads as check-sound-reads

pub reset-says : Tells 1 reset-kinds.ps reset-kinds.r reset-reads.Post (λ κs a r s. (said_cleared r ≡ reset_says a.0.now) × (s.0.now ≡ reset_pool a.0.now))
reset-says κs a r s p = p

pub use-count-says : Tells 1 use-count-kinds.ps use-count-kinds.r use-count-reads.Post (λ κs a r s. said_counted r ≡ use_count_says a.0.now)
use-count-says κs a r s p = p

pub push-says : Tells 2 push-kinds.ps push-kinds.r push-reads.Post (λ κs a r s. (said_pushed r ≡ push_says a.0.now a.1.0.now) × (s.0.now ≡ push_pool a.0.now a.1.0.now a.1.1.0))
push-says κs a r s p = p

pub check-sound-says : Tells 1 check-sound-kinds.ps check-sound-kinds.r check-sound-reads.Post (λ κs a r s. (r ≡ check_sound a.0.now) × ((r ≡ Ok tt) ↔ Sound a.0.now))
check-sound-says κs a r s p = p
