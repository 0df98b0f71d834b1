-- `places::moves::go_down` meets its contract: the children that louds answers are those of the node's stand, the other calls are the definition's,
-- and a glide has no more steps than there are nodes. Assumes nothing.
use Rattle.std.specs.Prelude.{Ok}
use mathlib.Core.Path.{◌≡◌, sym, ap, ◌∙◌}
use Prim.Native.Nat.{◌+◌}
use native.Mathlib.Omega.{arith}
use lib.ListN.{length}
use Rattle.keymap.specs.Bits.{bit}
use Rattle.keymap.specs.Image.{bits_for}
use Rattle.louds.specs.Nodes.{Run}
use Rattle.louds.specs.Nodes.{children_of}
use Rattle.image.specs.Meaning.{image_in}
use Rattle.walks.specs.declared.glide.Glided.{Glided}
use Rattle.walks.specs.declared.stands.Stand.{Stand}
use Rattle.walks.specs.Stands.{kid_from}
use Rattle.walks.specs.Glide.{only_kid, glided_from}
use Rattle.places.specs.Moves.{stand_in, count_from}
use Rattle.places.proofs.Laws.Moves.{children-lost, children-count, only-run, goto-leaf, goto-several, goto-key, goto-parting, glide-few}
use Rattle.places.proofs.moves.go_down.Goals.{Else-count-gt1, In-Some, in-Some-value_at, in-None}
use Rattle.places.proofs.moves.go_down.Goals as goal

pub returns-in_default : goal.returns-in_default
returns-in_default c =
    let i = image_in c.args.labels c.args.values c.args.words in
    sym (goto-leaf i c.args.node (children-lost i c.args.node (sym c.children.ensures ∙ c.in_default.is)))

-- the children, of the node
run : (c : In-Some)
    → children_of (bit c.args.words.now) (bits_for (length c.args.labels.now)) c.args.node ≡ Run c.in-Some.field-0.first c.in-Some.field-0.count
run c = sym c.children.ensures ∙ c.in-Some.is

pub returns-then-count-eq0 : goal.returns-then-count-eq0
returns-then-count-eq0 c =
    sym (goto-leaf (image_in c.args.labels c.args.values c.args.words) c.args.node (omega (arith, (children-count (image_in c.args.labels c.args.values c.args.words) c.args.node _ _ (run (goal.at.returns-then-count-eq0 c).In-Some)).0)))

pub returns-then-count-gt1 : goal.returns-then-count-gt1
returns-then-count-gt1 c =
    sym (goto-several (image_in c.args.labels c.args.values c.args.words) c.args.node (omega (arith, (children-count (image_in c.args.labels c.args.values c.args.words) c.args.node _ _ (run (goal.at.returns-then-count-gt1 c).In-Some)).0, c.if-count-gt1.true)))

one : (c : Else-count-gt1) → count_from (image_in c.args.labels c.args.values c.args.words) (stand_in (image_in c.args.labels c.args.values c.args.words) c.args.node) ≡ 1
one c = omega (arith, (children-count (image_in c.args.labels c.args.values c.args.words) c.args.node _ _ (run (goal.at.overflow_add-from c).In-Some)).0, c.if-count-gt1.false, c.if-count-eq0.false)

pub overflow_add-from : goal.overflow_add-from
overflow_add-from c = omega (arith, (children-count (image_in c.args.labels c.args.values c.args.words) c.args.node _ _ (run (goal.at.overflow_add-from c).In-Some)).1, c.if-count-eq0.false)

-- the stand at it
child : (c : Else-count-gt1) (s : Stand)
    → s ≡ kid_from (bit c.args.words.now) (bits_for (length c.args.labels.now)) c.args.node (c.args.node + c.in-Some.field-0.first) c.in-Some.field-0.first
    → s ≡ only_kid (bit c.args.words.now) (bits_for (length c.args.labels.now)) (stand_in (image_in c.args.labels c.args.values c.args.words) c.args.node)
child c s says =
    let i = image_in c.args.labels c.args.values c.args.words in
    let there = run (goal.at.overflow_add-from c).In-Some in
    says ∙ only-run i c.args.node _ _ there (omega (arith, one c, (children-count i c.args.node _ _ there).0))

-- where a glide from it ends
abbrev gone : Else-count-gt1 → Glided
gone c =
    let b = bit c.args.words.now in
    let len = bits_for (length c.args.labels.now) in
    glided_from c.args.labels.now c.args.values.now b len (only_kid b len (stand_in (image_in c.args.labels c.args.values c.args.words) c.args.node))

glided : (c : Else-count-gt1) (s : Stand) (g : Glided)
    → s ≡ kid_from (bit c.args.words.now) (bits_for (length c.args.labels.now)) c.args.node (c.args.node + c.in-Some.field-0.first) c.in-Some.field-0.first
    → g ≡ glided_from c.args.labels.now c.args.values.now (bit c.args.words.now) (bits_for (length c.args.labels.now)) s
    → g ≡ gone c
glided c s g stands ends =
    let a = c.args in
    ends ∙ ap (glided_from a.labels.now a.values.now (bit a.words.now) (bits_for (length a.labels.now))) (child c s stands)

pub overflow_add-distance : goal.overflow_add-distance
overflow_add-distance c =
    let a = c.args in
    let few = glide-few a.labels.now a.values.now (bit a.words.now) (bits_for (length a.labels.now)) c.kid_at-c.result in
    omega (arith, ap (λ (g : Glided). g.steps) c.glide-g.ensures, few, c.well_formed.0.1)

pub returns : goal.returns
returns c =
    let i = (image_in c.args.labels c.args.values c.args.words) in
    let at = (goal.at.returns c).Else-count-gt1 in
    let ends = glided at _ _ c.kid_at-c.ensures c.glide-g.ensures in
    elim c.match-value_at.branch [
      | in-Some-value_at w ↦
          (λ x. record { answer = Ok (w.answer-is x); node = c.place_number.result })
          ∙ goto-key i c.args.node (one at) _ ends _ c.place_number.ensures _ (sym c.value_at.ensures ∙ w.in-Some-value_at.is)
      | in-None w ↦
          (λ x. record { answer = Ok (w.answer-is x); node = c.place_number.result })
          ∙ goto-parting i c.args.node (one at) _ ends _ c.place_number.ensures (sym c.value_at.ensures ∙ w.in-None.is)
    ]
