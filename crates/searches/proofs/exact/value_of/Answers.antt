-- `searches::exact::value_of` meets its contract: what `find` finds has the walk's value. Assumes nothing.
use mathlib.Core.Path.{ap, ◌∙◌}
use Rattle.std.specs.Prelude.{option_map}
use Rattle.image.specs.Meaning.{image_in}
use Rattle.walks.specs.declared.entries.KeyNode.{KeyNode}
use Rattle.searches.proofs.Laws.Exact.{keyed-value}
use Rattle.searches.proofs.exact.value_of.Goals as goal

pub returns-in_err-key : goal.returns-in_err-key
returns-in_err-key c =
    c.from_residual.ensures
    ∙ ap (option_map (λ (n : KeyNode). n.value)) c.in_err-key.ensures
    ∙ keyed-value (image_in c.args.labels c.args.values c.args.words) c.args.query.now

pub returns : goal.returns
returns c =
    ap (option_map (λ (n : KeyNode). n.value)) c.in_ok-key.ensures
    ∙ keyed-value (image_in c.args.labels c.args.values c.args.words) c.args.query.now
