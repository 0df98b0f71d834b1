use Prim.Native.Nat.{ℕ}
use native.Mathlib.Omega.{arith}
use native.Mathlib.Numerals.{add-one}
use mathlib.Core.Path.{sym, ap, ap₂, ◌∙◌}
use lib.ListN.{drop}
use Rattle.records.specs.Words.{Pool}
use Rattle.lines.specs.Text.{lines_of}
use Rattle.lines.proofs.Laws.Text.{Cuts, next-none, next-cuts}
use Rattle.catalogue.specs.Filling.{fill_from, left_from}
use Rattle.catalogue.proofs.Laws.Filling.{fill_end, fill-done, fill_refused}
use Rattle.catalogue.proofs.filling.push_lines.Goals.{In-Some}
use Rattle.catalogue.proofs.filling.push_lines.Goals as goal

-- the line that was cut
cut : (c : In-Some) → Cuts c.args.text.now c.loop-end.at c.in-Some.field-0.end c.in-Some.field-0.next
cut c = next-cuts _ _ _ _ (sym c.in-Some.ensures)

pub slice_bounds-push_line-count : goal.slice_bounds-push_line-count
slice_bounds-push_line-count c = (cut c).begins

pub slice_bounds-push_line-start : goal.slice_bounds-push_line-start
slice_bounds-push_line-start c = let k = cut c in omega (arith, k.begins, k.ends, k.within)

pub slice_bounds-push_line-end : goal.slice_bounds-push_line-end
slice_bounds-push_line-end c = let k = cut c in omega (arith, k.begins, k.ends, k.within)

pub returns-in-Err : goal.returns-in-Err
returns-in-Err c =
    let i = c.loop-end in
    let k = cut (goal.at.returns-in-Err c).In-Some in
    let stops = fill_refused i.line i.pool _ _ _ c.in-Err.ensures.answer in record {
      answer = stops.0 ∙ sym (i.invariant.says ∙ ap (fill_from i.line i.pool) k.lines);
      left = c.push_line.ensures.left ∙ stops.1 ∙ sym (i.invariant.leaves ∙ ap (left_from i.pool) k.lines);
    }

pub overflow_add-line : goal.overflow_add-line
overflow_add-line c =
    let k = cut (goal.at.overflow_add-line c).In-Some in
    omega (arith, k.moves, k.within, c.loop-end.invariant.numbered, c.well_formed.0.1)

pub loop-end-smaller : goal.loop-end-smaller
loop-end-smaller c =
    let k = cut (goal.at.loop-end-smaller c).In-Some in
    omega (arith, k.moves, k.within)

pub loop-end-preserved : goal.loop-end-preserved
loop-end-preserved c =
    let i = c.loop-end in
    let k = cut (goal.at.loop-end-preserved c).In-Some in
    let rest = lines_of (drop c.in-Some.field-0.next c.args.text.now) in
    let goes = fill-done i.line i.pool _ rest c.in_default-push_line.ensures.answer in
    let left = c.push_line.ensures.left in record {
      numbered = omega (arith, k.moves, i.invariant.numbered);
      size = c.push_line.auto.pool ∙ i.invariant.size;
      says = i.invariant.says ∙ ap (fill_from i.line i.pool) k.lines ∙ goes.0 ∙ ap₂ (λ (n : ℕ) (p : Pool). fill_from n p rest) (sym (add-one i.line)) (sym left);
      leaves = i.invariant.leaves ∙ ap (left_from i.pool) k.lines ∙ goes.1 ∙ ap (λ (p : Pool). left_from p rest) (sym left);
    }

pub returns : goal.returns
returns c =
    let i = c.loop-end in
    let none_left = (next-none _ _).0 (sym c.in_default.ensures) in
    let done = fill_end i.line i.pool _ none_left in
    record { answer = done.0 ∙ sym i.invariant.says; left = done.1 ∙ sym i.invariant.leaves }
