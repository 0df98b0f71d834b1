-- `catalogue::filling::push_line` meets its contract: the line's entry is pushed, and a line without one is 9. Assumes nothing.
use mathlib.Core.Path.{sym, ap, ◌∙◌}
use Rattle.std.proofs.lemmas.Result.{err_from_is_err_and}
use Rattle.keymap.specs.Key.{Key}
use Rattle.pool.specs.Push.{push_says, push_pool}
use Rattle.catalogue.specs.Filling.{line_says, line_pool}
use Rattle.catalogue.proofs.Laws.Filling.{entry-said, entry-none}
use Rattle.catalogue.proofs.filling.push_line.Goals as goal

pub returns-in_err-entry : goal.returns-in_err-entry
returns-in_err-entry c =
    let returned = err_from_is_err_and c.from_residual.result c.from_residual.ensures.1 in
    let (entry, bad) = entry-none c.args.line.now _ (sym c.in_err-entry.ensures) in
    record { answer = rw (returned.1, returned.2, entry) (sym bad); left = sym (ap (line_pool c.args.pool.now) entry) }

pub returns : goal.returns
returns c =
    let p = c.args.pool.now in
    let entry = entry-said c.args.line.now _ _ (sym c.in_ok-entry.ensures) in
    let key = c.tab_line_key.ensures.key in record {
      answer = c.push.ensures.answer ∙ ap (push_says p) key ∙ sym (ap (line_says p) entry);
      left = c.push.ensures.left ∙ ap (λ (k : Key). push_pool p k c.in_ok-entry.entry.number) key ∙ sym (ap (line_pool p) entry);
    }
