-- Laws of the answers' numbers: two answers that say the same are the same.
--
--     said-parsed-one, said-cut-one, said-written-one  equal numbers mean equal answers
-- Assumes nothing.
use Prim.Native.Nat.{ℕ}
use mathlib.Core.Path.{◌≡◌, refl}
use mathlib.Core.List.{head-eq_of_cons-eq, tail-eq_of_cons-eq}
use Rattle.std.specs.Prelude.{Option, None, Some, Result}
use Rattle.keymap.specs.declared.refusals.Refusal.{Refusal}
use Rattle.keymap.specs.Answers.{told_count}
use Rattle.keymap.proofs.Laws.Answers.{said-one, count-one}
use Rattle.lines.specs.declared.answers.Parsed.{Parsed}
use Rattle.lines.specs.declared.answers.Cut.{Cut}
use Rattle.lines.specs.Answers.{told_line, said_parsed, said_cut, said_written}

line-one : (p q : Parsed) → told_line p ≡ told_line q → p ≡ q
line-one p q e = λ i. record { key_len = head-eq_of_cons-eq e i; number = head-eq_of_cons-eq (tail-eq_of_cons-eq e) i }

pub said-parsed-one : (r s : Result Parsed Refusal) → said_parsed r ≡ said_parsed s → r ≡ s
said-parsed-one = said-one told_line line-one

pub said-cut-one : (r s : Option Cut) → said_cut r ≡ said_cut s → r ≡ s
said-cut-one (Some l) (Some k) q =
    let end : l.end ≡ k.end = cc in
    let next : l.next ≡ k.next = cc in
    λ i. Some (record { end = end i; next = next i })
said-cut-one (Some l) None q = cc
said-cut-one None (Some l) q = cc
said-cut-one None None q = refl

pub said-written-one : (r s : Result ℕ Refusal) → said_written r ≡ said_written s → r ≡ s
said-written-one = said-one told_count count-one
