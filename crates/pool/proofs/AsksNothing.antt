-- No public call asks anything of its caller: what its contract requires holds of any arguments, so that a clause that is added breaks the law. Assumes nothing.
use contract.Lifetimes.{Lfts}
use borrow.Fn.World.{ArgsD}
use Rattle.pool.specs.contracts.reset
use Rattle.pool.proofs.reset.Reads as reset-reads
use Rattle.pool.specs.contracts.use_count
use Rattle.pool.proofs.use_count.Reads as use-count-reads
use Rattle.pool.specs.contracts.push
use Rattle.pool.proofs.push.Reads as push-reads
use Rattle.pool.specs.contracts.soundness.check_sound
use Rattle.pool.proofs.soundness.check_sound.Reads as check-sound-reads

pub reset-asks-nothing : (κs : Lfts 1) (a : ArgsD reset.signature κs) → reset-reads.Pre κs a
reset-asks-nothing κs a = tt

pub use-count-asks-nothing : (κs : Lfts 1) (a : ArgsD use_count.signature κs) → use-count-reads.Pre κs a
use-count-asks-nothing κs a = tt

pub push-asks-nothing : (κs : Lfts 2) (a : ArgsD push.signature κs) → push-reads.Pre κs a
push-asks-nothing κs a = tt

pub check-sound-asks-nothing : (κs : Lfts 1) (a : ArgsD check_sound.signature κs) → check-sound-reads.Pre κs a
check-sound-asks-nothing κs a = tt
