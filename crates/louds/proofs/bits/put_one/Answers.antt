-- `louds::bits::put_one` meets its contract: within the slice the word is written as `with_one` says, beyond it `with_one` changes nothing.
-- Assumes nothing.
use Rattle.std.proofs.Common.{ℕ, ◌/◌, ◌%◌, get_or, set, sym, ap, mod-lt, lit<}
use lib.Bits.{bit_or}
use Rattle.louds.specs.Put.{with_one}
use Rattle.louds.proofs.Laws.Words.{one_shl}
use Rattle.louds.proofs.Laws.Put.{with_one-beyond}
use Rattle.louds.proofs.bits.put_one.Goals as goal

pub returns-then-w-words : goal.returns-then-w-words
unfolding with_one
returns-then-w-words c =
    let a = c.args in
    ap (λ (x : ℕ). set a.words.now (a.p / 64) (bit_or (get_or a.words.now (a.p / 64) 0) x)) (one_shl (a.p % 64) (mod-lt a.p (lit< tt)))

pub returns-else-w-words : goal.returns-else-w-words
returns-else-w-words c = sym (with_one-beyond c.args.words.now c.args.p c.if-w-words.false)
