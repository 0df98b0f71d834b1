use mathlib.Core.Path.{◌≡◌, sym, ap, ap₂, ◌∙◌}
use mathlib.Core.Bool.{Bool, ◌&&◌}
use Prim.Native.Nat.{ℕ, ◌*◌}
use native.Mathlib.Omega.{arith}
use lib.ListN.{length, get_or}
use lib.Dec.{eqb, ltb}
use lib.Bits.{bit_or}
use borrow.Author.Tests.{eq-eqb, ne_eqb}
use Rattle.std.proofs.lemmas.List.{length_push}
use Rattle.std.proofs.lemmas.Slice.Zip.{zip_turn, zip_end}
use Rattle.keymap.specs.Label.{mark}
use Rattle.image.specs.AcceptTest.{entry_fits}
use Rattle.image.specs.WordTest.{all_below, entries_fit}
use Rattle.image.proofs.Laws.AllBelow.{all-zero, all-next, and-true, and-false}
use Rattle.image.proofs.Laws.Gathered.{gathered, gathered_none, gathered_next}
use Rattle.image.proofs.acceptance.entries_fit.Goals.{In-None}
use Rattle.image.proofs.acceptance.entries_fit.Goals as goal

pub loop-entry-init : goal.loop-entry-init
loop-entry-init c = let a = c.args in gathered_none ∙ sym (all-zero (λ j. entry_fits (get_or a.labels.now j 0) (get_or a.values.now j 0)))

pub loop-entry-preserved : goal.loop-entry-preserved
loop-entry-preserved c =
    let a = c.args in
    let l = c.loop-entry in
    let e = c.in-Some.field-0-0 in
    let v = c.in-Some.field-0-1 in
    let n : ℕ = length l.yielded in
    let t = zip_turn a.labels.now a.values.now l.yielded c.into_iter-entry-iterator.result l.entry-iterator c.next.new.self c.next.result (cc) (cc) l.yielded_by _ c.in-Some.is c.next.ensures.steps in
    let fit = λ (j : ℕ). entry_fits (get_or a.labels.now j 0) (get_or a.values.now j 0) in
    ap (λ (u : ℕ). gathered (bit_or l.any e.now) (bit_or l.bad u)) c.unmarked_value-bad.ensures
    ∙ gathered_next l.any l.bad e.now v.now
    ∙ ap (λ (s : Bool). s && entry_fits e.now v.now) l.invariant
    ∙ ap₂ (λ (x y : ℕ). all_below fit n && entry_fits x y) (t.2 0) (t.3 0)
    ∙ sym (all-next fit n)
    ∙ ap (all_below fit) (sym (length_push l.yielded (e, v)))

-- all entries are passed
whole : (c : In-None)
    → gathered c.loop-entry.any c.loop-entry.bad ≡ entries_fit c.args.labels.now c.args.values.now
whole c =
    let a = c.args in
    let l = c.loop-entry in
    let z = zip_end a.labels.now a.values.now l.yielded c.into_iter-entry-iterator.result l.entry-iterator c.next.new.self c.next.result (cc) (cc) l.yielded_by c.in-None.is c.next.ensures.steps in
    let done : length l.yielded ≡ length a.labels.now = omega arith in
    l.invariant ∙ ap (all_below (λ j. entry_fits (get_or a.labels.now j 0) (get_or a.values.now j 0))) done

pub returns-then-bad-eq0 : goal.returns-then-bad-eq0
returns-then-bad-eq0 c =
    let l = c.loop-entry in
    sym (and-true (ltb l.any (2 * mark)) (eqb l.bad 0) (eq-eqb l.bad 0 c.if-bad-eq0.true)) ∙ whole (goal.at.returns-then-bad-eq0 c).In-None

pub returns-else-bad-eq0 : goal.returns-else-bad-eq0
returns-else-bad-eq0 c =
    let l = c.loop-entry in
    let none = ne_eqb l.bad 0 c.if-bad-eq0.false in
    none ∙ sym (and-false (ltb l.any (2 * mark)) (eqb l.bad 0) none) ∙ whole (goal.at.returns-else-bad-eq0 c).In-None
