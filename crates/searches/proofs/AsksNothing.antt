-- No public call asks anything of its caller: what its contract requires holds of any arguments, so that a clause that is added breaks the law. Assumes nothing.
use contract.Lifetimes.{Lfts}
use borrow.Fn.World.{ArgsD}
use Rattle.searches.specs.contracts.exact.exact_match
use Rattle.searches.proofs.exact.exact_match.Reads as exact-match-reads
use Rattle.searches.specs.contracts.untested.exact_match_untested
use Rattle.searches.proofs.untested.exact_match_untested.Reads as exact-match-untested-reads
use Rattle.searches.specs.contracts.exact.set_value
use Rattle.searches.proofs.exact.set_value.Reads as set-value-reads
use Rattle.searches.specs.contracts.exact.is_prefix
use Rattle.searches.proofs.exact.is_prefix.Reads as is-prefix-reads
use Rattle.searches.specs.contracts.common_prefixes.common_prefix
use Rattle.searches.proofs.common_prefixes.common_prefix.Reads as common-prefix-reads
use Rattle.searches.specs.contracts.common_prefixes.common_prefix_part
use Rattle.searches.proofs.common_prefixes.common_prefix_part.Reads as common-prefix-part-reads
use Rattle.searches.specs.contracts.prefix.longest_prefix
use Rattle.searches.proofs.prefix.longest_prefix.Reads as longest-prefix-reads

pub exact-match-asks-nothing : (κs : Lfts 4) (a : ArgsD exact_match.signature κs) → exact-match-reads.Pre κs a
exact-match-asks-nothing κs a = tt

pub exact-match-untested-asks-nothing : (κs : Lfts 4) (a : ArgsD exact_match_untested.signature κs) → exact-match-untested-reads.Pre κs a
exact-match-untested-asks-nothing κs a = tt

pub set-value-asks-nothing : (κs : Lfts 4) (a : ArgsD set_value.signature κs) → set-value-reads.Pre κs a
set-value-asks-nothing κs a = tt

pub is-prefix-asks-nothing : (κs : Lfts 4) (a : ArgsD is_prefix.signature κs) → is-prefix-reads.Pre κs a
is-prefix-asks-nothing κs a = tt

pub common-prefix-asks-nothing : (κs : Lfts 4) (a : ArgsD common_prefix.signature κs) → common-prefix-reads.Pre κs a
common-prefix-asks-nothing κs a = tt

pub common-prefix-part-asks-nothing : (κs : Lfts 4) (a : ArgsD common_prefix_part.signature κs) → common-prefix-part-reads.Pre κs a
common-prefix-part-asks-nothing κs a = tt

pub longest-prefix-asks-nothing : (κs : Lfts 5) (a : ArgsD longest_prefix.signature κs) → longest-prefix-reads.Pre κs a
longest-prefix-asks-nothing κs a = tt
