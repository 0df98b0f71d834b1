-- "Prove that any two outcomes allowed by it are equal" (01): the law of each public call, by its crate. Each is stated over the contract's own claim;
-- where a place is lent and moved (query, query_until, goto_longest_prefix) the whole contract is one definition of `places/specs/Incremental`, and the law is about that definition.
-- A law that is missing leaves its name here unknown. Assumes nothing.
pub use Rattle.keymap.proofs.Determined.{refusal-number-determined}
pub use Rattle.louds.proofs.Determined.{bit-at-determined, ones-before-determined, zeros-before-determined, zero-at-determined, zero-from-determined, one-at-determined, one-back-determined, children-determined, parent-determined, put-one-determined, ones-in-determined, lowest-one-determined, ones-by-byte-determined, ones-from-determined}
pub use Rattle.records.proofs.Determined.{entry-of-determined, label-of-determined, value-of-determined, first-child-determined, next-sibling-determined, parent-of-determined, last-record-determined, used-count-determined, capacity-of-determined, is-sound-determined}
pub use Rattle.pool.proofs.Determined.{reset-determined, use-count-determined, push-determined, check-sound-determined}
pub use Rattle.image.proofs.Determined.{accept-determined, is-image-determined, lengths-fit-determined, build-determined, words-for-determined}
pub use Rattle.lines.proofs.Determined.{tab-line-determined, tab-line-key-determined, next-line-determined, write-line-determined}
pub use Rattle.walks.proofs.Determined.{is-node-determined, counts-to-determined, value-at-determined, stand-at-determined, kids-determined, kid-at-determined, down-determined, glide-determined, entry-matches-determined, child-within-determined}
pub use Rattle.descents.proofs.Determined.{walk-determined, end-of-determined}
pub use Rattle.climbs.proofs.Determined.{perch-at-determined, parent-of-determined as perch-parent-determined, depth-determined, spell-determined, is-below-determined, next-valued-determined}
pub use Rattle.searches.proofs.Determined.{exact-match-determined, exact-match-untested-determined, set-value-determined, is-prefix-determined, common-prefix-determined, common-prefix-part-determined, longest-prefix-determined}
pub use Rattle.listings.proofs.Determined.{predictive-search-determined, postfix-search-determined, cursor-key-determined, step-determined, top-determined, finished-determined}
pub use Rattle.places.proofs.Determined.{root-determined, resume-determined, value-determined, prefix-len-determined, prefix-determined, query-determined, query-until-determined, goto-longest-prefix-determined, peek-determined, query-at-determined, goto-at-determined, query-until-at-determined, answer-is-prefix-determined, answer-is-match-determined}
pub use Rattle.catalogue.proofs.Determined.{answer-determined, begin-determined, next-at-determined, take-read-determined}
