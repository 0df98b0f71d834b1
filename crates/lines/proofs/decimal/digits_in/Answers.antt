use mathlib.Core.Path.{◌≡◌, sym, ap, ◌∙◌}
use mathlib.Core.Bool.{true, false}
use mathlib.Core.List.{List}
use Prim.Native.Nat.{ℕ, ◌+◌, ◌*◌, ◌<◌}
use native.Mathlib.Nat.{pow-suc}
use native.Mathlib.Numerals.{add-one}
use native.Mathlib.Omega.{arith}
use lib.ListN.{length, get_or, drop, drop_of_length-le}
use Rattle.lines.specs.Decimal.{is_digit, are_digits, value_after}
use Rattle.lines.specs.Numerals.{digits_in}
use Rattle.lines.proofs.Laws.Decimal.{are_digits-at, value_after-at}
use Rattle.lines.proofs.decimal.digits_in.Goals as goal

pub returns-then-not-is_ascii_digit : goal.returns-then-not-is_ascii_digit
unfolding digits_in
returns-then-not-is_ascii_digit c =
    let t : List ℕ = c.args.text.now in
    let i : ℕ = c.loop-b.b-index in
    let other : is_digit (get_or t i 0) ≡ false = sym c.if-not-is_ascii_digit.ensures.value in
    rw (c.loop-b.invariant.digits, are_digits-at t i c.loop-b-test.true, other)

pub loop-b-preserved : goal.loop-b-preserved
loop-b-preserved c =
    let t : List ℕ = c.args.text.now in
    let i : ℕ = c.loop-b.b-index in
    let k = c.loop-b.invariant in
    let l : i < length t = omega arith in
    let digit : is_digit (get_or t i 0) ≡ true = sym c.if-not-is_ascii_digit.ensures.value in record {
      few = rw (add-one, pow-suc 10 i) (omega (arith, c.if-not-is_ascii_digit.ensures.cases));
      digits = k.digits ∙ are_digits-at t i l ∙ rw digit;
      stands = k.stands ∙ value_after-at t i c.loop-b.value l ∙ ap (λ (n : ℕ). value_after (c.loop-b.value * 10 + n) (drop (i + 1) t)) (sym c.from.ensures);
    }

pub returns : goal.returns
unfolding digits_in are_digits value_after
returns c =
    let t : List ℕ = c.args.text.now in
    rw (c.loop-b.invariant.digits, c.loop-b.invariant.stands, drop_of_length-le t c.loop-b-test.false)
