-- `louds::select::marks_in` meets its contract: zeros are marked by the complement of a word, ones by itself. Assumes nothing.
use Rattle.std.proofs.Common.{ℕ, sym, ap, ◌∙◌, arith}
use Rattle.keymap.specs.Bits.{bit}
use Rattle.louds.specs.Digits.{complement}
use Rattle.louds.specs.Select.{marks}
use Rattle.louds.proofs.Laws.MarkWords.{mark_word, zeros-marked, ones-marked, none-marked}
use Rattle.louds.proofs.select.marks_in.Goals as goal

pub returns-in-0 : goal.returns-in-0
returns-in-0 c =
    let a = c.args in
    let ws = a.words.now in
    let word = c.word_at-word.ensures in
    ap complement word ∙ zeros-marked ws a.w (c.type_inv.words a.w).fits ∙ ap (λ (v : ℕ). mark_word (marks (bit ws) v) a.w) (sym c.in-0.is)

pub returns-in-1 : goal.returns-in-1
returns-in-1 c =
    let a = c.args in
    let ws = a.words.now in
    let word = c.word_at-word.ensures in
    word ∙ ones-marked ws a.w (c.type_inv.words a.w).fits ∙ ap (λ (v : ℕ). mark_word (marks (bit ws) v) a.w) (sym c.in-1.is)

pub returns-in_default : goal.returns-in_default
returns-in_default c =
    let a = c.args in
    none-marked a.words.now a.w a.v (λ e. omega (arith, e)) (λ e. omega (arith, e))
