-- `searches::common_prefixes::common_prefix_part` meets its contract: what the first call says is no longer than the query (`part-is`), and the part begins where the query does. Assumes nothing.
use mathlib.Core.Path.{◌≡◌, sym, ap, ◌∙◌}
use Prim.Native.Nat.{ℕ, ◌≤◌}
use native.Mathlib.Omega.{arith}
use lib.ListN.{length, take}
use lib.Seq.{length-take-le}
use Rattle.std.specs.Prelude.{Ok}
use Rattle.image.specs.Meaning.{image_in}
use Rattle.searches.specs.CommonPrefixes.{common_part}
use Rattle.searches.proofs.Laws.CommonPrefixes.{part_length, part-is}
use Rattle.searches.proofs.common_prefixes.common_prefix_part.Goals.{After-common_prefix}
use Rattle.searches.proofs.common_prefixes.common_prefix_part.Goals as goal

-- the length is within the query, and the part is the definition's
part : (c : After-common_prefix) (n : ℕ) → part_length c.common_prefix.result ≡ n
    → (n ≤ length c.args.query.now) × (take n c.args.query.now ≡ common_part (image_in c.args.labels c.args.values c.args.words) c.args.query.now c.args.seen)
part c n e =
    let q = c.args.query.now in
    let (within, same) = part-is (image_in c.args.labels c.args.values c.args.words) q c.args.seen c.common_prefix.result c.common_prefix.ensures.answer in
    (omega (arith, e, within), ap (λ (k : ℕ). take k q) (sym e) ∙ same)

pub slice_bounds-result-end : goal.slice_bounds-result-end
slice_bounds-result-end c =
    let e = ap part_length (c.in-Ok-Some.is ∙ ap Ok c.in-Ok-Some.field-0-is) in
    sym (length-take-le c.in-Ok-Some.common.length c.args.query.now (part (goal.at.slice_bounds-result-end c).After-common_prefix _ e).0)

pub returns-in-Ok-Some-clause-part : goal.returns-in-Ok-Some-clause-part
returns-in-Ok-Some-clause-part c =
    let e = ap part_length (c.in-Ok-Some.is ∙ ap Ok c.in-Ok-Some.field-0-is) in
    (part (goal.at.returns-in-Ok-Some-clause-part c).After-common_prefix _ e).1

pub returns-in-Ok-None-clause-part : goal.returns-in-Ok-None-clause-part
returns-in-Ok-None-clause-part c =
    let e = ap part_length (c.in-Ok-None.is ∙ ap Ok c.in-Ok-None.field-0-is) in
    (part (goal.at.returns-in-Ok-None-clause-part c).After-common_prefix _ e).1

pub returns-in-Err-clause-part : goal.returns-in-Err-clause-part
returns-in-Err-clause-part c =
    let e = ap part_length c.in-Err.is in
    (part (goal.at.returns-in-Err-clause-part c).After-common_prefix _ e).1
