-- What each public call's contract says, in the definitions that the demands speak of: the answer, and each lent slice that it may write at exit.
-- Each tie is over the contract's own claim, so a contract that cites another definition breaks it. Assumes nothing.
use mathlib.Core.Path.{◌≡◌}
use Rattle.keymap.specs.Contract.{Tells}
use Rattle.lines.specs.Answers.{said_parsed, said_cut, said_written}
use Rattle.lines.specs.TabLine.{tab_line_says, tab_line_key}
use Rattle.lines.specs.Text.{next_line_says}
use Rattle.lines.specs.Writing.{write_line_says, write_line_out}
use Rattle.lines.proofs.tab_line.Kinds as tab-line-kinds
use Rattle.lines.proofs.tab_line.Reads as tab-line-reads
use Rattle.lines.proofs.tab_line_key.Kinds as tab-line-key-kinds
use Rattle.lines.proofs.tab_line_key.Reads as tab-line-key-reads
use Rattle.lines.proofs.next_line.Kinds as next-line-kinds
use Rattle.lines.proofs.next_line.Reads as next-line-reads
use Rattle.lines.proofs.write_line.Kinds as write-line-kinds
use Rattle.lines.proofs.write_line.Reads as write-line-reads

pub tab-line-says : Tells 1 tab-line-kinds.ps tab-line-kinds.r tab-line-reads.Post (λ κs a r s. said_parsed r ≡ tab_line_says a.0.now)
tab-line-says κs a r s p = p

pub tab-line-key-says : Tells 1 tab-line-key-kinds.ps tab-line-key-kinds.r tab-line-key-reads.Post (λ κs a r s. (r.now ≡ tab_line_key a.0.now) × (r.ref_ptr ≡ a.0.ref_ptr))
tab-line-key-says κs a r s p = p

pub next-line-says : Tells 1 next-line-kinds.ps next-line-kinds.r next-line-reads.Post (λ κs a r s. said_cut r ≡ next_line_says a.0.now a.1.0)
next-line-says κs a r s p = p

pub write-line-says : Tells 2 write-line-kinds.ps write-line-kinds.r write-line-reads.Post (λ κs a r s. (said_written r ≡ write_line_says (a.0.now, a.1.0) a.1.1.0.now) × (s.1.1.0.now ≡ write_line_out (a.0.now, a.1.0) a.1.1.0.now))
write-line-says κs a r s p = p
