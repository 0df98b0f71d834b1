-- `places::moves::step_by` meets its contract: a step down goes where the rule goes. Assumes nothing.
use Rattle.std.specs.Prelude.{Option, Some, Ok}
use mathlib.Core.Path.{◌≡◌, sym, ap, ◌∙◌}
use lib.ListN.{length}
use Rattle.keymap.specs.Bits.{bit}
use Rattle.keymap.specs.Image.{bits_for}
use Rattle.keymap.proofs.Laws.Bits.{bit-small}
use Rattle.image.specs.Meaning.{image_in}
use Rattle.walks.specs.declared.stands.Stand.{Stand}
use Rattle.walks.specs.Rule.{child_by}
use Rattle.walks.specs.Stands.{down_from, reached_at}
use Rattle.walks.proofs.Laws.Stands.{down_rule, reached_at-to, reached_at-lost}
use Rattle.places.specs.Moves.{answer_by}
use Rattle.places.proofs.Laws.Moves.{query-missed, query-found}
use Rattle.places.proofs.moves.step_by.Goals.{After-down}
use Rattle.places.proofs.moves.step_by.Goals as goal

-- what the step answers, by the rule
told : (c : After-down) (t : Option Stand) → c.down.result ≡ t
    → reached_at (bit c.args.words.now) (bits_for (length c.args.labels.now))
    (child_by c.args.labels.now (bit c.args.words.now) (bits_for (length c.args.labels.now)) c.args.node c.args.label)
    ≡ t
told c t e =
    let a = c.args in
    let b = bit a.words.now in
    let len = bits_for (length a.labels.now) in
    sym (down_rule b (bit-small a.words.now) len a.labels.now a.node a.label)
    ∙ ap (λ (s : Stand). down_from a.labels.now b len s a.label) (sym c.stand_at-s.ensures)
    ∙ sym c.down.ensures
    ∙ e

pub returns-in_default : goal.returns-in_default
returns-in_default c =
    let a = c.args in
    sym (query-missed (image_in c.args.labels c.args.values c.args.words) a.node a.label (reached_at-lost (bit a.words.now) (bits_for (length a.labels.now)) _ (told (goal.at.returns-in_default c).After-down _ c.in_default.is)))

pub returns : goal.returns
returns c =
    let a = c.args in
    let there = reached_at-to (bit a.words.now) (bits_for (length a.labels.now)) _ _ (told (goal.at.returns c).After-down _ c.in-Some.is) in
    let says = c.answer_at.ensures ∙ ap (answer_by (image_in c.args.labels c.args.values c.args.words)) there.knows in
    let number = c.place_number.ensures in
    (λ x. record { answer = Ok (Some (says x)); node = number x }) ∙ sym (query-found (image_in c.args.labels c.args.values c.args.words) a.node a.label _ there.node)
