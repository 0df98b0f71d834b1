-- `catalogue_cases::expand` meets its contract: the position stays within the room. Assumes nothing.
use Rattle.std.proofs.Common.{◌≤◌, length}
use Rattle.catalogue_cases.proofs.expand.Given as goal

abbrev pub invariant-loop-byte : goal.invariant-loop-byte
invariant-loop-byte l = l.at ≤ length l.room
