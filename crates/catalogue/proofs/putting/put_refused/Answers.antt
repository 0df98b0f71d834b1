-- `catalogue::putting::put_refused` meets its contract: each call puts its text behind what stands there. Assumes nothing.
use mathlib.Core.List.{[], ◌∷◌, ◌++◌}
use native.Mathlib.Omega.{arith}
use Rattle.lines.specs.Bytes.{line_feed}
use Rattle.lines.specs.Decimal.{decimal}
use Rattle.catalogue.specs.Program.{refused_word, line_word}
use Rattle.catalogue.proofs.Laws.Putting.{put-start, put-behind, put_refused, length-parts}
use Rattle.catalogue.proofs.putting.put_refused.Goals as goal

pub put_text-word-requires : goal.put_text-word-requires
put_text-word-requires c =
    let len = length-parts c.args.number c.args.line in
    omega (arith, c.requires, len)

pub put_number-numbered-requires : goal.put_number-numbered-requires
put_number-numbered-requires c =
    let len = length-parts c.args.number c.args.line in
    omega (arith, c.requires, len, c.put_text-word.ensures.answer, c.put_text-word.auto.out)

pub put_text-lined-requires : goal.put_text-lined-requires
put_text-lined-requires c =
    let len = length-parts c.args.number c.args.line in
    omega (arith, c.requires, len, c.put_text-word.ensures.answer, c.put_text-word.auto.out, c.put_number-numbered.ensures.answer, c.put_number-numbered.auto.out)

pub put_number-whole-requires : goal.put_number-whole-requires
put_number-whole-requires c =
    let len = length-parts c.args.number c.args.line in
    omega (arith, c.requires, len, c.put_text-word.ensures.answer, c.put_text-word.auto.out, c.put_number-numbered.ensures.answer, c.put_number-numbered.auto.out, c.put_text-lined.ensures.answer, c.put_text-lined.auto.out)

pub put_text-requires : goal.put_text-requires
put_text-requires c =
    let len = length-parts c.args.number c.args.line in
    omega (arith, c.requires, len, c.put_text-word.ensures.answer, c.put_text-word.auto.out, c.put_number-numbered.ensures.answer, c.put_number-numbered.auto.out, c.put_text-lined.ensures.answer, c.put_text-lined.auto.out, c.put_number-whole.ensures.answer, c.put_number-whole.auto.out)

pub returns : goal.returns
returns c =
    let word = c.put_text-word in
    let numbered = c.put_number-numbered in
    let lined = c.put_text-lined in
    let told = c.put_number-whole in
    let whole = c.put_text in
    let a = c.args in
    let out = a.out.now in
    let d = decimal a.number in
    let e = decimal a.line in
    let put1 = put-behind [] refused_word out 0 out word.result word.new.out (put-start out) word.ensures.answer word.ensures.left in
    let put2 = put-behind refused_word d out _ _ numbered.result numbered.new.out put1 numbered.ensures.answer numbered.ensures.left in
    let put3 = put-behind (refused_word ++ d) line_word out _ _ lined.result lined.new.out put2 lined.ensures.answer lined.ensures.left in
    let put4 = put-behind ((refused_word ++ d) ++ line_word) e out _ _ told.result told.new.out put3 told.ensures.answer told.ensures.left in
    let put5 = put-behind (((refused_word ++ d) ++ line_word) ++ e) (line_feed ∷ []) out _ _ whole.result whole.new.out put4 whole.ensures.answer whole.ensures.left in
    let said = put_refused a.number a.line out _ _ put5 in
    record { answer = said.0; left = said.1 }
