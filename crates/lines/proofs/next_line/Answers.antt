-- `lines::next_line` meets its contract: the line ends at the first LF from the position on, and the next begins behind that LF if there is one. Assumes nothing.
use mathlib.Core.Path.{◌≡◌, sym, ◌∙◌}
use mathlib.Core.List.{List, [], ◌∷◌}
use Prim.Native.Nat.{ℕ, suc, ◌+◌, ◌-◌, ◌<◌, min}
use native.Mathlib.Omega.{arith}
use lib.ListN.{length, take, drop, length-drop}
use lib.Seq.{take_all}
use Rattle.lines.specs.Bytes.{line_feed, stretch}
use Rattle.lines.specs.Text.{next_line_says}
use Rattle.lines.proofs.Laws.Bytes.{stretch-within, position-Some, position-None}
use Rattle.lines.proofs.Laws.Text.{next_past, next-at}
use Rattle.lines.proofs.next_line.Goals as goal

cut : (text : List ℕ) (at end next : ℕ) → at < length text → end ≡ at + stretch line_feed (drop at text) → next ≡ min (suc end) (length text)
    → 0 ∷ end ∷ next ∷ [] ≡ next_line_says text at
cut text at end next l e n = (let q : next ≡ min (suc (at + stretch line_feed (drop at text))) (length text) = rw (← e) n in λ i. 0 ∷ e i ∷ q i ∷ []) ∙ sym (next-at text at l)

-- what stands from the position on
rest : (text : List ℕ) (at : ℕ) → take (length text - at) (drop at text) ≡ drop at text
rest text at = take_all (length text - at) (drop at text) (simp length-drop (omega arith))

pub returns-then-text-at : goal.returns-then-text-at
returns-then-text-at c = sym (next_past _ _ (omega arith))

pub returns-in_default : goal.returns-in_default
returns-in_default c =
    let a = c.args in
    let none = rw (rest a.text.now a.at) at (sym c.find.ensures ∙ c.in_default.is) in
    let all = position-None line_feed (drop a.at a.text.now) none in
    cut _ _ _ _ (omega arith) (omega (arith, all, stretch-within line_feed (drop a.at a.text.now), length-drop a.at a.text.now)) (omega arith)

pub returns : goal.returns
returns c =
    let a = c.args in
    let some = rw (rest a.text.now a.at) at (sym c.find.ensures ∙ c.in-Some.is) in
    let at = position-Some line_feed (drop a.at a.text.now) _ some in
    cut _ _ _ _ (omega arith) (omega (arith, at.0)) (omega (arith, at.1, length-drop a.at a.text.now))
