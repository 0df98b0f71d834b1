use Rattle.std.specs.Prelude.{Option, Ok, Err}
use mathlib.Core.Path.{◌≡◌, sym, ap, ◌∙◌}
use mathlib.Core.List.{[]}
use native.Mathlib.Omega.{arith}
use lib.ListN.{length, get_or, drop}
use borrow.Author.Tests.{eqb-true, eqb-false}
use lib.Seq.{drop-length}
use Rattle.keymap.specs.Key.{Key}
use Rattle.keymap.specs.Bits.{bit}
use Rattle.keymap.specs.Image.{bits_for}
use Rattle.keymap.proofs.Laws.Bits.{bit-small}
use Rattle.image.specs.Meaning.{image_in}
use Rattle.walks.specs.declared.stands.Stand.{Stand}
use Rattle.walks.specs.Rule.{child_by}
use Rattle.walks.specs.Stands.{down_from, reached_at}
use Rattle.walks.proofs.Laws.Stands.{down_rule, reached_at-to, reached_at-lost}
use Rattle.places.specs.Moves.{answer_by, follow_ends, follow_from, follow_by}
use Rattle.places.proofs.Laws.Moves.{follow-end, ends-empty, ends_some, follow-stops, follow-on}
use Rattle.places.proofs.moves.follow.Goals.{After-down, After-loop-j, then-is_empty, else-is_empty}
use Rattle.places.proofs.moves.follow.Goals as goal

-- what a step answers, by the rule
step : (c : After-down) (t : Option Stand) → c.down.result ≡ t
    → reached_at (bit c.args.words.now) (bits_for (length c.args.labels.now))
    (child_by c.args.labels.now (bit c.args.words.now) (bits_for (length c.args.labels.now)) c.loop-j.s.node (get_or c.args.query.now c.loop-j.j 0))
    ≡ t
step c t e =
    let a = c.args in
    let l = c.loop-j in
    let b = bit a.words.now in
    let len = bits_for (length a.labels.now) in
    let label = get_or a.query.now l.j 0 in
    sym (down_rule b (bit-small a.words.now) len a.labels.now l.s.node label)
    ∙ ap (λ (s : Stand). down_from a.labels.now b len s label) (sym l.invariant.0)
    ∙ sym c.down.ensures
    ∙ e

pub returns-in_default : goal.returns-in_default
returns-in_default c =
    let a = c.args in
    let l = c.loop-j in
    let lost = reached_at-lost (bit a.words.now) (bits_for (length a.labels.now)) _ (step (goal.at.returns-in_default c).After-down _ c.in_default.is) in
    let number = c.place_number.ensures in
    (λ x. record { answer = Ok (Err l.j); node = number x }) ∙ sym (l.invariant.1 ∙ follow-stops (image_in c.args.labels c.args.values c.args.words) a.query.now l.j l.s.node (omega arith) lost)

pub loop-j-preserved : goal.loop-j-preserved
loop-j-preserved c =
    let a = c.args in
    let l = c.loop-j in
    let there = reached_at-to (bit a.words.now) (bits_for (length a.labels.now)) _ _ (step (goal.at.loop-j-preserved c).After-down _ c.in-Some.is) in
    (there.knows, l.invariant.1 ∙ follow-on (image_in c.args.labels c.args.values c.args.words) a.query.now l.j l.s.node (omega arith) _ there.node)

-- all of the query was walked
whole : (c : After-loop-j)
    → follow_by (image_in c.args.labels c.args.values c.args.words) c.args.node c.args.query.now
    ≡ follow_ends (image_in c.args.labels c.args.values c.args.words) c.loop-j.j c.loop-j.s.node
whole c =
    let a = c.args in
    let l = c.loop-j in
    let end : l.j ≡ length a.query.now = omega arith in
    let rest : drop l.j a.query.now ≡ [] = ap (λ n. drop n a.query.now) end ∙ drop-length a.query.now in
    l.invariant.1 ∙ ap (λ (q : Key). follow_from (image_in c.args.labels c.args.values c.args.words) q l.j l.s.node) rest ∙ follow-end (image_in c.args.labels c.args.values c.args.words) l.j l.s.node

pub returns : goal.returns
returns c =
    let l = c.loop-j in
    let i = (image_in c.args.labels c.args.values c.args.words) in
    let number = c.place_number-2.ensures in
    let all = whole (goal.at.returns c).After-loop-j in
    elim c.if-is_empty.branch [
      | then-is_empty w ↦
          let none = eqb-true (length c.args.query.now) 0 (sym c.is_empty.ensures ∙ w.if-is_empty.true) in
          (λ x. record { answer = Ok (w.answer-is x); node = number x }) ∙ sym (all ∙ ends-empty i l.j l.s.node (omega (arith, none)))
      | else-is_empty w ↦
          let some = eqb-false (length c.args.query.now) 0 (sym c.is_empty.ensures ∙ w.if-is_empty.false) in
          let says = w.answer-is ∙ ap Ok (w.answer_at.ensures ∙ ap (answer_by i) l.invariant.0) in
          (λ x. record { answer = Ok (says x); node = number x }) ∙ sym (all ∙ ends_some i l.j l.s.node (omega (arith, some)))
    ]
