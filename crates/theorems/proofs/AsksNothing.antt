-- "Any bytes, pool, image or place may be handed to any public call" (demand 1): the law of each public call that its contract requires nothing, by its crate.
-- A law that is missing leaves its name here unknown. Assumes nothing.
pub use Rattle.keymap.proofs.AsksNothing.{refusal-number-asks-nothing}
pub use Rattle.louds.proofs.AsksNothing.{bit-at-asks-nothing, ones-in-asks-nothing, ones-before-asks-nothing, zeros-before-asks-nothing, lowest-one-asks-nothing, zero-at-asks-nothing, zero-from-asks-nothing, one-at-asks-nothing, one-back-asks-nothing, children-asks-nothing, parent-asks-nothing, put-one-asks-nothing, ones-by-byte-asks-nothing, ones-from-asks-nothing}
pub use Rattle.records.proofs.AsksNothing.{entry-of-asks-nothing, label-of-asks-nothing, value-of-asks-nothing, first-child-asks-nothing, next-sibling-asks-nothing, parent-of-asks-nothing, last-record-asks-nothing, used-count-asks-nothing, capacity-of-asks-nothing, is-sound-asks-nothing}
pub use Rattle.pool.proofs.AsksNothing.{reset-asks-nothing, use-count-asks-nothing, push-asks-nothing, check-sound-asks-nothing}
pub use Rattle.image.proofs.AsksNothing.{accept-asks-nothing, is-image-asks-nothing, build-asks-nothing, lengths-fit-asks-nothing, words-for-asks-nothing}
pub use Rattle.lines.proofs.AsksNothing.{tab-line-asks-nothing, tab-line-key-asks-nothing, next-line-asks-nothing, write-line-asks-nothing}
pub use Rattle.walks.proofs.AsksNothing.{is-node-asks-nothing, counts-to-asks-nothing, value-at-asks-nothing, stand-at-asks-nothing, kids-asks-nothing, kid-at-asks-nothing, down-asks-nothing, glide-asks-nothing, entry-matches-asks-nothing, child-within-asks-nothing}
pub use Rattle.descents.proofs.AsksNothing.{walk-asks-nothing, end-of-asks-nothing}
pub use Rattle.climbs.proofs.AsksNothing.{perch-at-asks-nothing, parent-of-asks-nothing as perch-parent-asks-nothing, depth-asks-nothing, spell-asks-nothing, is-below-asks-nothing, next-valued-asks-nothing}
pub use Rattle.searches.proofs.AsksNothing.{exact-match-asks-nothing, exact-match-untested-asks-nothing, set-value-asks-nothing, is-prefix-asks-nothing, common-prefix-asks-nothing, common-prefix-part-asks-nothing, longest-prefix-asks-nothing}
pub use Rattle.listings.proofs.AsksNothing.{predictive-search-asks-nothing, postfix-search-asks-nothing, step-asks-nothing, cursor-key-asks-nothing, top-asks-nothing, finished-asks-nothing}
pub use Rattle.places.proofs.AsksNothing.{resume-asks-nothing, value-asks-nothing, prefix-len-asks-nothing, prefix-asks-nothing, root-asks-nothing, peek-asks-nothing, query-at-asks-nothing, query-until-at-asks-nothing, goto-at-asks-nothing, answer-is-prefix-asks-nothing, answer-is-match-asks-nothing, query-asks-nothing, query-until-asks-nothing, goto-longest-prefix-asks-nothing}
pub use Rattle.catalogue.proofs.AsksNothing.{answer-asks-nothing, begin-asks-nothing, next-at-asks-nothing, take-read-asks-nothing}
