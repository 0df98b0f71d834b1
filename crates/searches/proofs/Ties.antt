-- What each public call's contract says, in the definitions that the demands speak of: the answer, and each lent slice that it may write at exit.
-- Each tie is over the contract's own claim, so a contract that cites another definition breaks it. Assumes nothing.
use mathlib.Core.Path.{◌≡◌}
use Rattle.keymap.specs.Contract.{Tells}
use Rattle.image.specs.Meaning.{as_image, image_in}
use Rattle.searches.specs.Answers.{said_looked, said_prefixed, said_longest, said_common}
use Rattle.searches.specs.Exact.{exact_says, set_values, is_prefix_says}
use Rattle.searches.specs.Prefix.{longest_says, longest_out}
use Rattle.searches.specs.CommonPrefixes.{common_says, common_part}
use Rattle.searches.specs.Untested.{untested_says}
use Rattle.searches.proofs.untested.exact_match_untested.Kinds as exact-match-untested-kinds
use Rattle.searches.proofs.untested.exact_match_untested.Reads as exact-match-untested-reads
use Rattle.searches.proofs.exact.exact_match.Kinds as exact-match-kinds
use Rattle.searches.proofs.exact.exact_match.Reads as exact-match-reads
use Rattle.searches.proofs.exact.set_value.Kinds as set-value-kinds
use Rattle.searches.proofs.exact.set_value.Reads as set-value-reads
use Rattle.searches.proofs.exact.is_prefix.Kinds as is-prefix-kinds
use Rattle.searches.proofs.exact.is_prefix.Reads as is-prefix-reads
use Rattle.searches.proofs.common_prefixes.common_prefix.Kinds as common-prefix-kinds
use Rattle.searches.proofs.common_prefixes.common_prefix.Reads as common-prefix-reads
use Rattle.searches.proofs.common_prefixes.common_prefix_part.Kinds as common-prefix-part-kinds
use Rattle.searches.proofs.common_prefixes.common_prefix_part.Reads as common-prefix-part-reads
use Rattle.searches.proofs.prefix.longest_prefix.Kinds as longest-prefix-kinds
use Rattle.searches.proofs.prefix.longest_prefix.Reads as longest-prefix-reads

pub exact-match-says : Tells 4 exact-match-kinds.ps exact-match-kinds.r exact-match-reads.Post (λ κs a r s. said_looked r ≡ exact_says (image_in a.0 a.1.0 a.1.1.0) a.1.1.1.0.now)
exact-match-says κs a r s p = p

pub exact-match-untested-says : Tells 4 exact-match-untested-kinds.ps exact-match-untested-kinds.r exact-match-untested-reads.Post (λ κs a r s. said_looked r ≡ untested_says (image_in a.0 a.1.0 a.1.1.0) a.1.1.1.0.now)
exact-match-untested-says κs a r s p = p

pub set-value-says : Tells 4 set-value-kinds.ps set-value-kinds.r set-value-reads.Post (λ κs a r s. (said_looked r ≡ exact_says (as_image a.0.now a.1.0.now a.1.1.0.now) a.1.1.1.0.now) × (s.1.0.now ≡ set_values (as_image a.0.now a.1.0.now a.1.1.0.now) a.1.1.1.0.now a.1.1.1.1.0))
set-value-says κs a r s p = p

pub is-prefix-says : Tells 4 is-prefix-kinds.ps is-prefix-kinds.r is-prefix-reads.Post (λ κs a r s. said_prefixed r ≡ is_prefix_says (image_in a.0 a.1.0 a.1.1.0) a.1.1.1.0.now)
is-prefix-says κs a r s p = p

pub common-prefix-says : Tells 4 common-prefix-kinds.ps common-prefix-kinds.r common-prefix-reads.Post (λ κs a r s. said_common r ≡ common_says (image_in a.0 a.1.0 a.1.1.0) a.1.1.1.0.now a.1.1.1.1.0)
common-prefix-says κs a r s p = p

pub common-prefix-part-says : Tells 4 common-prefix-part-kinds.ps common-prefix-part-kinds.r common-prefix-part-reads.Post (λ κs a r s. (r.now ≡ common_part (image_in a.0 a.1.0 a.1.1.0) a.1.1.1.0.now a.1.1.1.1.0) × (r.ref_ptr ≡ a.1.1.1.0.ref_ptr))
common-prefix-part-says κs a r s p = p

pub longest-prefix-says : Tells 5 longest-prefix-kinds.ps longest-prefix-kinds.r longest-prefix-reads.Post (λ κs a r s. (said_longest r ≡ longest_says (image_in a.0 a.1.0 a.1.1.0) a.1.1.1.0.now a.1.1.1.1.0.now) × (s.1.1.1.1.0.now ≡ longest_out (image_in a.0 a.1.0 a.1.1.0) a.1.1.1.0.now a.1.1.1.1.0.now))
longest-prefix-says κs a r s p = p
