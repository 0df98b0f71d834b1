-- `image::breadth_first::clear` meets its contract: what is filled is the front, and the rest is as it was. Assumes nothing.
use mathlib.Core.Path.{◌≡◌}
use lib.ListN.{take, length}
use Rattle.std.proofs.lemmas.List.{length-take-le, length-replicate}
use Rattle.keymap.specs.Buffers.{over}
use Rattle.image.proofs.breadth_first.clear.Goals as goal

pub returns : goal.returns
unfolding over
returns c =
    let e = c.fill.ensures.after (λ y q. q) in
    let n : length (take c.args.count c.args.words.now) ≡ c.args.count = length-take-le _ _ c.requires in
    rw (e, n, length-replicate)
