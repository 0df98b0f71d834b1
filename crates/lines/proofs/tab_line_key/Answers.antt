-- `lines::tab_line_key` meets its contract: the length that `tab_line` answers is that of the key, which leads the line; a part of no bytes begins there too. Assumes nothing.
use mathlib.Core.Path.{◌≡◌, sym, ap, ◌∙◌}
use mathlib.Core.List.{List}
use Rattle.std.proofs.Common.{rules}
use Prim.Native.Nat.{ℕ, ◌≤◌}
use native.Mathlib.Omega.{arith}
use lib.ListN.{length, take}
use lib.Seq.{length-take-le}
use Rattle.std.specs.Prelude.{Result, Ok, Err}
use Rattle.std.specs.Result.{MatchResult}
use Rattle.keymap.specs.declared.refusals.Refusal.{Refusal}
use Rattle.lines.specs.declared.answers.Parsed.{Parsed}
use Rattle.lines.specs.Answers.{said_parsed}
use Rattle.lines.specs.TabLine.{tab_line_says, tab_line_key}
use Rattle.lines.proofs.Laws.TabLine.{tab_line_key-none, tab_line_key-some}
use Rattle.lines.proofs.tab_line_key.Goals as goal

part : (line : List ℕ) (r : Result Parsed Refusal) (k : ℕ) → said_parsed r ≡ tab_line_says line → MatchResult r (λ e. k ≡ e.key_len) (λ _. k ≡ 0)
    → (take k line ≡ tab_line_key line) × (k ≤ length line)
part line (Ok e) k said is =
    let (key, within) = tab_line_key-some line _ _ (sym said) in
    (ap (λ (n : ℕ). take n line) is ∙ sym key, omega (arith, is, within))
part line (Err r) k said is = (ap (λ (n : ℕ). take n line) is ∙ sym (tab_line_key-none line r (sym said)), omega (arith, is))

pub slice_bounds-result-end : goal.slice_bounds-result-end
slice_bounds-result-end c =
    let read : MatchResult c.tab_line.result (λ e. c.map_or-length.result ≡ e.key_len) (λ _. c.map_or-length.result ≡ 0) = search rules in
    sym (length-take-le _ _ (part _ _ _ c.tab_line.ensures read).1)

pub returns-clause-key : goal.returns-clause-key
returns-clause-key c =
    let read : MatchResult c.tab_line.result (λ e. c.map_or-length.result ≡ e.key_len) (λ _. c.map_or-length.result ≡ 0) = search rules in
    (part _ _ _ c.tab_line.ensures read).0
