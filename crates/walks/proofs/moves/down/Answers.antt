-- `walks::moves::down` meets its contract: without children there is nothing to look for, and their numbers stand. Assumes nothing.
use mathlib.Core.Path.{◌≡◌, sym, ap, subst, ◌∙◌}
use Prim.Native.Nat.{ℕ}
use native.Mathlib.Omega.{arith}
use Rattle.keymap.specs.Bits.{bit}
use Rattle.walks.specs.declared.answers.Kids.{Kids}
use Rattle.walks.specs.Rule.{lowest_by}
use Rattle.walks.specs.Stands.{kids_from}
use Rattle.walks.proofs.Laws.Rule.{lowest_by-end}
use Rattle.walks.proofs.Laws.Stands.{Numbered, kids-numbered, down_from-absent}
use Rattle.walks.proofs.moves.down.Goals.{After-kids-k}
use Rattle.walks.proofs.moves.down.Goals as goal

-- the numbers of the children that were told
numbered : (c : After-kids-k) → Numbered c.kids-k.result.first c.kids-k.result.count c.args.bits.len
numbered c =
    let a = c.args in
    subst (λ (k : Kids). Numbered k.first k.count a.bits.len) (sym c.kids-k.ensures) (kids-numbered (bit a.bits.words.now) a.bits.len a.s)

pub returns-then-k-eq0 : goal.returns-then-k-eq0
returns-then-k-eq0 c =
    let a = c.args in
    let kids = kids_from (bit a.bits.words.now) a.bits.len a.s in
    let none-there : kids.count ≡ 0 = ap (λ (k : Kids). k.count) (sym c.kids-k.ensures) ∙ (numbered (goal.at.returns-then-k-eq0 c).After-kids-k).bare c.if-k-eq0.true in
    sym
    (down_from-absent a.labels.now (bit a.bits.words.now) a.bits.len a.s a.label
    (ap (λ (n : ℕ). lowest_by a.labels.now a.s.node n kids.first a.label) none-there ∙ lowest_by-end a.labels.now a.s.node kids.first a.label))

pub overflow_add-before : goal.overflow_add-before
overflow_add-before c = omega (arith, (numbered (goal.at.overflow_add-before c).After-kids-k).within, c.ranges.bits)
