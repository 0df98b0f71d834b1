use mathlib.Core.Path.{◌≡◌, sym, ap, ◌∙◌}
use mathlib.Core.List.{[]}
use Rattle.std.specs.Prelude.{Option, Some}
use Prim.Native.Nat.{ℕ, ◌+◌}
use native.Mathlib.Omega.{arith}
use lib.ListN.{length, get_or, drop}
use lib.Seq.{drop-length}
use Rattle.keymap.specs.Bits.{bit}
use Rattle.keymap.specs.Image.{bits_for}
use Rattle.keymap.proofs.Laws.Bits.{bit-small}
use Rattle.image.specs.Meaning.{image_in}
use Rattle.walks.specs.declared.stands.Stand.{Stand}
use Rattle.walks.specs.Rule.{child_by, value_of_node}
use Rattle.walks.specs.Stands.{stand_at, down_from, reached_at}
use Rattle.walks.proofs.Laws.Stands.{down_rule, ReachedTold, reached_at-to, reached_at-lost}
use Rattle.searches.specs.CommonPrefixes.{unless_seen, or_further, shortest_from, match_of}
use Rattle.searches.proofs.Laws.CommonPrefixes.{shortest-end, shortest-next, shortest-lost}
use Rattle.searches.proofs.common_prefixes.shortest.Goals.{In-loop-depth, In_ok-s}
use Rattle.searches.proofs.common_prefixes.shortest.Goals as goal

pub loop-depth-init : goal.loop-depth-init
loop-depth-init c =
    let a = c.args in
    let told = c.stand_at-s.ensures in
    let one : c.stand_at-s.result.node ≡ 1 = ap (λ (s : Stand). s.node) told in
    (told ∙ ap (stand_at (bit a.words.now) (bits_for (length a.labels.now))) (sym one), ap (λ k. shortest_from (image_in c.args.labels c.args.values c.args.words) a.seen a.query.now 0 (Some k)) (sym one))

-- what a step answers, by the rule
step : (c : In-loop-depth) (r t : Option Stand)
    → r ≡ down_from c.args.labels.now (bit c.args.words.now) (bits_for (length c.args.labels.now)) c.loop-depth.s (get_or c.args.query.now c.loop-depth.depth 0)
    → r ≡ t
    → let a = c.args in
    let b = bit a.words.now in
    let len = bits_for (length a.labels.now) in
    reached_at b len (child_by a.labels.now b len c.loop-depth.s.node (get_or a.query.now c.loop-depth.depth 0)) ≡ t
step c r t is e =
    let a = c.args in
    let l = c.loop-depth in
    let b = bit a.words.now in
    let len = bits_for (length a.labels.now) in
    let label = get_or a.query.now l.depth 0 in
    sym (down_rule b (bit-small a.words.now) len a.labels.now l.s.node label)
    ∙ ap (λ (s : Stand). down_from a.labels.now b len s label) (sym l.invariant.0)
    ∙ sym is
    ∙ e

pub returns-in_err-s : goal.returns-in_err-s
returns-in_err-s c =
    let l = c.loop-depth in
    let a = c.args in
    let lost = reached_at-lost (bit a.words.now) (bits_for (length a.labels.now)) _ (step (goal.at.returns-in_err-s c).In-loop-depth _ _ c.down.ensures c.in_err-s.was) in
    c.from_residual.ensures ∙ sym (ap match_of (l.invariant.1 ∙ shortest-lost (image_in c.args.labels c.args.values c.args.words) a.seen a.query.now l.depth (Some l.s.node) (omega arith) lost))

pub overflow_add-length : goal.overflow_add-length
overflow_add-length c = omega arith

-- where the step led, and what is found from there on
there : (c : In_ok-s)
    → let a = c.args in
    let b = bit a.words.now in
    let len = bits_for (length a.labels.now) in
    ReachedTold b len (child_by a.labels.now b len c.loop-depth.s.node (get_or a.query.now c.loop-depth.depth 0)) c.in_ok-s.s
there c =
    let a = c.args in
    reached_at-to (bit a.words.now) (bits_for (length a.labels.now)) _ _ (step (goal.at.overflow_add-length c).In-loop-depth _ _ c.down.ensures c.in_ok-s.was)

onward : (c : In_ok-s)
    → let l = c.loop-depth in
    let a = c.args in
    let node = c.in_ok-s.s.node in
    shortest_from (image_in c.args.labels c.args.values c.args.words) a.seen a.query.now 0 (Some 1)
    ≡ or_further (l.depth + 1) (unless_seen a.seen (l.depth + 1) (value_of_node a.labels.now a.values.now node))
    (shortest_from (image_in c.args.labels c.args.values c.args.words) a.seen (drop (l.depth + 1) a.query.now) (l.depth + 1) (Some node))
onward c =
    let l = c.loop-depth in
    let a = c.args in
    l.invariant.1 ∙ shortest-next (image_in c.args.labels c.args.values c.args.words) a.seen a.query.now l.depth (Some l.s.node) (Some c.in_ok-s.s.node) (omega arith) (there c).node

pub returns-in-Some : goal.returns-in-Some
returns-in-Some c =
    let l = c.loop-depth in
    let a = c.args in
    let node = c.in_ok-s.s.node in
    let held = (sym c.unseen_value.ensures ∙ c.in-Some.is) in
    let further = shortest_from (image_in c.args.labels c.args.values c.args.words) a.seen (drop (l.depth + 1) a.query.now) (l.depth + 1) (Some node) in
    sym (ap match_of (onward (goal.at.returns-in-Some c).In_ok-s ∙ ap (λ (o : Option ℕ). or_further (l.depth + 1) o further) held))

pub loop-depth-preserved : goal.loop-depth-preserved
loop-depth-preserved c =
    let l = c.loop-depth in
    let a = c.args in
    let node = c.in_ok-s.s.node in
    let held = (sym c.unseen_value.ensures ∙ c.in_default.is) in
    let further = shortest_from (image_in c.args.labels c.args.values c.args.words) a.seen (drop (l.depth + 1) a.query.now) (l.depth + 1) (Some node) in
    ((there (goal.at.loop-depth-preserved c).In_ok-s).knows, onward (goal.at.loop-depth-preserved c).In_ok-s ∙ ap (λ (o : Option ℕ). or_further (l.depth + 1) o further) held)

pub returns : goal.returns
returns c =
    let l = c.loop-depth in
    let a = c.args in
    let end : l.depth ≡ length a.query.now = omega arith in
    let rest : drop l.depth a.query.now ≡ [] = ap (λ n. drop n a.query.now) end ∙ drop-length a.query.now in
    sym
    (ap match_of
    (l.invariant.1
    ∙ ap (λ r. shortest_from (image_in c.args.labels c.args.values c.args.words) a.seen r l.depth (Some l.s.node)) rest
    ∙ shortest-end (image_in c.args.labels c.args.values c.args.words) a.seen l.depth (Some l.s.node)))
