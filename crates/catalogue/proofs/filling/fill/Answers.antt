-- `catalogue::filling::fill` meets its contract: the lines are pushed into the pool that was reset. Assumes nothing.
use native.Mathlib.Omega.{arith}
use Rattle.catalogue.proofs.Laws.Filling.{bytes_of}
use Rattle.catalogue.proofs.Laws.Program.{fills}
use Rattle.catalogue.proofs.filling.fill.Goals as goal

pub returns : goal.returns
returns c =
    let a = c.args in
    let bytes = bytes_of a.text.now (λ j. (c.type_inv.text j).fits) in
    let said = fills a.pool.now _ (omega arith) c.reset.ensures.left a.text.now bytes c.push_lines.result _ c.push_lines.ensures.answer c.push_lines.ensures.left in
    record { answer = said.0; left = said.1.0; held = said.1.1 }
