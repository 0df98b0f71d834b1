-- `catalogue::answer` meets its contract: each way out is a case of what was read. Assumes nothing.
use mathlib.Core.Path.{sym, ap, ◌∙◌}
use mathlib.Core.List.{[], ◌∷◌}
use Prim.Native.Nat.{ℕ}
use native.Mathlib.Omega.{arith}
use lib.Seq.{length-take-le}
use Rattle.catalogue.proofs.Laws.Putting.{length-refused}
use Rattle.catalogue.proofs.Laws.Building.{build-accepts}
use Rattle.catalogue.proofs.Laws.Program.{unread-written, long-written, refused-written, listed-written, listing-fits}
use Rattle.catalogue.proofs.answer.Goals as goal

pub returns-in_default : goal.returns-in_default
returns-in_default c =
    let a = c.args in
    let said = unread-written a.reading a.text.now a.pool.now a.labels.now a.values.now a.words.now a.scratch.now a.out.now c.in_default.not-Whole _ _ c.put_text.ensures.answer c.put_text.ensures.left in
    record { answer = said.0; out = said.1.0; pool = said.1.1.0; labels = said.1.1.1.0; values = said.1.1.1.1.0; words = said.1.1.1.1.1.0; scratch = said.1.1.1.1.1.1 }

pub returns-then-length-gt-FILE_LIMIT : goal.returns-then-length-gt-FILE_LIMIT
returns-then-length-gt-FILE_LIMIT c =
    let a = c.args in
    let said = long-written a.reading a.text.now a.pool.now a.labels.now a.values.now a.words.now a.scratch.now a.out.now c.in-Whole.is c.if-length-gt-FILE_LIMIT.true (omega arith) _ _ c.put_text-then-length-gt-FILE_LIMIT.ensures.answer c.put_text-then-length-gt-FILE_LIMIT.ensures.left in
    record { answer = said.0; out = said.1.0; pool = said.1.1.0; labels = said.1.1.1.0; values = said.1.1.1.1.0; words = said.1.1.1.1.1.0; scratch = said.1.1.1.1.1.1 }

pub slice_bounds-fill-end : goal.slice_bounds-fill-end
slice_bounds-fill-end c = sym (length-take-le _ _ (omega arith))

pub put_refused-requires : goal.put_refused-requires
put_refused-requires c =
    let n = c.number.result in
    let l = c.in-Err.refused.line in
    omega (arith, length-refused n l (omega (arith, c.number.type_inv)) (omega (arith, c)))

-- the lengths of the rooms stand in `c`, which is named since `omega` goes through the states in scope only so far
pub list_pool-requires : goal.list_pool-requires
list_pool-requires c =
    let a = c.args in
    let held = c.in-Ok.ensures.held in record { granted = build-accepts _ held.0 (omega (arith, c)) a.labels.now a.values.now a.words.now a.scratch.now (omega (arith, c)) (omega (arith, c)) (omega (arith, c)) (omega (arith, c)); room = omega (arith, c, listing-fits a.reading a.text.now a.pool.now a.labels.now a.values.now a.words.now a.scratch.now a.out.now c.in-Whole.is c.if-length-gt-FILE_LIMIT.false _ held.1) }

pub returns-in-Err : goal.returns-in-Err
returns-in-Err c =
    let a = c.args in
    let filled = c.fill.ensures in
    let said = refused-written a.reading a.text.now a.pool.now a.labels.now a.values.now a.words.now a.scratch.now a.out.now c.in-Whole.is c.if-length-gt-FILE_LIMIT.false _ _ (ap (λ (n : ℕ). n ∷ c.in-Err.refused.line ∷ []) c.number.ensures ∙ c.in-Err.ensures.answer) _ filled.left _ _ c.put_refused.ensures.answer c.put_refused.ensures.left in
    record { answer = said.0; out = said.1.0; pool = said.1.1.0; labels = said.1.1.1.0; values = said.1.1.1.1.0; words = said.1.1.1.1.1.0; scratch = said.1.1.1.1.1.1 }

pub returns-in-Ok : goal.returns-in-Ok
returns-in-Ok c =
    let a = c.args in
    let filled = c.fill.ensures in
    let held = c.in-Ok.ensures.held in
    let listed = c.list_pool.ensures in
    let said = listed-written a.reading a.text.now a.pool.now a.labels.now a.values.now a.words.now a.scratch.now a.out.now c.in-Whole.is c.if-length-gt-FILE_LIMIT.false _ c.in-Ok.ensures.answer filled.left held.1 _ _ _ _ _ _ listed.answer listed.out (listed.labels, (listed.values, (listed.words, listed.scratch))) in
    record { answer = said.0; out = said.1.0; pool = said.1.1.0; labels = said.1.1.1.0; values = said.1.1.1.1.0; words = said.1.1.1.1.1.0; scratch = said.1.1.1.1.1.1 }
