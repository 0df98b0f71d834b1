-- What each public call's contract says, by its crate, in the definitions of which the demands speak: beside the laws of one outcome (`Determined`), which say that a contract settles
-- the call, these say how. Where a place is lent and moved the contract's one clause is a promise (`-claims`), and the tie says what the promise comes to.
-- A tie that is missing leaves its name here unknown. Assumes nothing.
pub use Rattle.keymap.proofs.Ties.{refusal-number-says}
pub use Rattle.louds.proofs.Ties.{bit-at-says, put-one-says, ones-before-says, zeros-before-says, zero-at-says, zero-from-says, one-at-says, one-back-says, children-says, parent-says, ones-in-says, lowest-one-says, ones-by-byte-says, ones-from-says}
pub use Rattle.records.proofs.Ties.{entry-of-says, label-of-says, value-of-says, first-child-says, next-sibling-says, parent-of-says, last-record-says, used-count-says, capacity-of-says, is-sound-says}
pub use Rattle.pool.proofs.Ties.{reset-says, use-count-says, push-says, check-sound-says}
pub use Rattle.image.proofs.Ties.{is-image-says, lengths-fit-says, accept-says, build-says, words-for-says}
pub use Rattle.lines.proofs.Ties.{tab-line-says, tab-line-key-says, next-line-says, write-line-says}
pub use Rattle.walks.proofs.Ties.{is-node-says, counts-to-says, value-at-says, stand-at-says, kids-says, kid-at-says, down-says, glide-says, entry-matches-says, child-within-says}
pub use Rattle.descents.proofs.Ties.{walk-says, end-of-says}
pub use Rattle.climbs.proofs.Ties.{perch-at-says, parent-of-says as perch-parent-says, depth-says, spell-says, is-below-says, next-valued-says}
pub use Rattle.searches.proofs.Ties.{exact-match-says, exact-match-untested-says, set-value-says, is-prefix-says, common-prefix-says, common-prefix-part-says, longest-prefix-says}
pub use Rattle.listings.proofs.Ties.{predictive-search-says, postfix-search-says, step-says, cursor-key-says, top-says, finished-says}
pub use Rattle.places.proofs.Ties.{root-says, resume-says, value-says, prefix-len-says, prefix-says, peek-says, query-at-says, query-until-at-says, goto-at-says, answer-is-prefix-says, answer-is-match-says, query-claims, query-until-claims, goto-longest-prefix-claims, query-says, query-until-says, goto-longest-prefix-says}
pub use Rattle.catalogue.proofs.Ties.{answer-says, begin-says, next-at-says, take-read-says}
