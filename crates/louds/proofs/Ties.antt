-- What each public call's contract says, in the definitions that the demands speak of: the answer, and each lent slice that it may write at exit.
-- Each tie is over the contract's own claim, so a contract that cites another definition breaks it. Assumes nothing.
use Rattle.std.proofs.Common.{◌≡◌, ◌+◌, ◌*◌, ◌%◌, ◌^◌}
use Rattle.keymap.specs.Contract.{Tells}
use lib.Count.{ones, count_trailing_zeros}
use Rattle.keymap.specs.Limits.{word_bits}
use Rattle.keymap.specs.Bits.{bit, sum_below}
use Rattle.louds.specs.Taking.{ones_from}
use Rattle.louds.specs.Put.{with_one}
use Rattle.louds.specs.Rank.{ones_before, zeros_before}
use Rattle.louds.specs.Select.{zero_at, zero_from, one_at, one_back}
use Rattle.louds.specs.Nodes.{children_of, parent_of}
use Rattle.louds.proofs.bits.bit_at.Kinds as bit-at-kinds
use Rattle.louds.proofs.bits.bit_at.Reads as bit-at-reads
use Rattle.louds.proofs.bits.put_one.Kinds as put-one-kinds
use Rattle.louds.proofs.bits.put_one.Reads as put-one-reads
use Rattle.louds.proofs.rank.ones_before.Kinds as ones-before-kinds
use Rattle.louds.proofs.rank.ones_before.Reads as ones-before-reads
use Rattle.louds.proofs.rank.zeros_before.Kinds as zeros-before-kinds
use Rattle.louds.proofs.rank.zeros_before.Reads as zeros-before-reads
use Rattle.louds.proofs.rank.ones_in.Kinds as ones-in-kinds
use Rattle.louds.proofs.rank.ones_in.Reads as ones-in-reads
use Rattle.louds.proofs.select.lowest_one.Kinds as lowest-one-kinds
use Rattle.louds.proofs.select.lowest_one.Reads as lowest-one-reads
use Rattle.louds.proofs.bits.Sequence.zero_at.Kinds as zero-at-kinds
use Rattle.louds.proofs.bits.Sequence.zero_at.Reads as zero-at-reads
use Rattle.louds.proofs.bits.Sequence.zero_from.Kinds as zero-from-kinds
use Rattle.louds.proofs.bits.Sequence.zero_from.Reads as zero-from-reads
use Rattle.louds.proofs.bits.Sequence.one_at.Kinds as one-at-kinds
use Rattle.louds.proofs.bits.Sequence.one_at.Reads as one-at-reads
use Rattle.louds.proofs.select.one_back.Kinds as one-back-kinds
use Rattle.louds.proofs.select.one_back.Reads as one-back-reads
use Rattle.louds.proofs.bits.Sequence.children.Kinds as children-kinds
use Rattle.louds.proofs.bits.Sequence.children.Reads as children-reads
use Rattle.louds.proofs.bits.Sequence.parent.Kinds as parent-kinds
use Rattle.louds.proofs.bits.Sequence.parent.Reads as parent-reads
use Rattle.louds.proofs.rank.ones_by_byte.Kinds as ones-by-byte-kinds
use Rattle.louds.proofs.rank.ones_by_byte.Reads as ones-by-byte-reads
use Rattle.louds.proofs.select.ones_from.Kinds as ones-from-kinds
use Rattle.louds.proofs.select.ones_from.Reads as ones-from-reads

pub bit-at-says : Tells 1 bit-at-kinds.ps bit-at-kinds.r bit-at-reads.Post (λ κs a r s. r ≡ bit a.0.now a.1.0)
bit-at-says κs a r s p = p

pub put-one-says : Tells 1 put-one-kinds.ps put-one-kinds.r put-one-reads.Post (λ κs a r s. s.0.now ≡ with_one a.0.now a.1.0)
put-one-says κs a r s p = p

pub ones-before-says : Tells 1 ones-before-kinds.ps ones-before-kinds.r ones-before-reads.Post (λ κs a r s. r ≡ ones_before (bit a.0.now) a.1.0)
ones-before-says κs a r s p = p

pub zeros-before-says : Tells 1 zeros-before-kinds.ps zeros-before-kinds.r zeros-before-reads.Post (λ κs a r s. r ≡ zeros_before (bit a.0.now) a.1.0)
zeros-before-says κs a r s p = p

pub zero-at-says : Tells 1 zero-at-kinds.ps zero-at-kinds.r zero-at-reads.Post (λ κs a r s. r ≡ zero_at (bit a.0.words.now) a.0.len a.1.0)
zero-at-says κs a r s p = p

pub zero-from-says : Tells 1 zero-from-kinds.ps zero-from-kinds.r zero-from-reads.Post (λ κs a r s. r ≡ zero_from (bit a.0.words.now) a.0.len a.1.0 a.1.1.0)
zero-from-says κs a r s p = p

pub one-at-says : Tells 1 one-at-kinds.ps one-at-kinds.r one-at-reads.Post (λ κs a r s. r ≡ one_at (bit a.0.words.now) a.0.len a.1.0)
one-at-says κs a r s p = p

pub one-back-says : Tells 1 one-back-kinds.ps one-back-kinds.r one-back-reads.Post (λ κs a r s. r ≡ one_back (bit a.0.now) a.1.0 a.1.1.0)
one-back-says κs a r s p = p

pub children-says : Tells 1 children-kinds.ps children-kinds.r children-reads.Post (λ κs a r s. r ≡ children_of (bit a.0.words.now) a.0.len a.1.0)
children-says κs a r s p = p

pub parent-says : Tells 1 parent-kinds.ps parent-kinds.r parent-reads.Post (λ κs a r s. r ≡ parent_of (bit a.0.words.now) a.0.len a.1.0)
parent-says κs a r s p = p

pub ones-in-says : Tells 0 ones-in-kinds.ps ones-in-kinds.r ones-in-reads.Post (λ κs a r s. r ≡ ones a.0)
ones-in-says κs a r s p = p

pub lowest-one-says : Tells 0 lowest-one-kinds.ps lowest-one-kinds.r lowest-one-reads.Post (λ κs a r s. r ≡ count_trailing_zeros word_bits a.0)
lowest-one-says κs a r s p = p

pub ones-by-byte-says : Tells 0 ones-by-byte-kinds.ps ones-by-byte-kinds.r ones-by-byte-reads.Post (λ κs a r s. r ≡ sum_below (λ i. ones (a.0 % 2 ^ (8 * (i + 1))) * 2 ^ (8 * i)) 8)
ones-by-byte-says κs a r s p = p

pub ones-from-says : Tells 0 ones-from-kinds.ps ones-from-kinds.r ones-from-reads.Post (λ κs a r s. r ≡ ones_from a.0 a.1.0 a.1.1.0)
ones-from-says κs a r s p = p
