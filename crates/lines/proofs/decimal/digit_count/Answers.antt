-- `lines::decimal::digit_count` meets its contract: so many digits has a number from this power of ten on. Assumes nothing.
use mathlib.Core.Path.{sym, ◌∙◌}
use native.Mathlib.Omega.{arith}
use native.Mathlib.Nat.{pow-suc, pow-le-pow_right}
use native.Mathlib.Numerals.{add-one}
use lib.Dec.{lit<}
use Rattle.lines.proofs.Laws.Decimal.{length-decimal-is}
use Rattle.lines.proofs.decimal.digit_count.Goals as goal

pub returns : goal.returns
returns c =
    let power = c.ilog10.result in
    add-one power
    ∙ sym (length-decimal-is power c.args.number (omega (arith, pow-suc 10 power, c.max.ensures)) (λ h. omega (arith, pow-le-pow_right {n = 10} (lit< tt) {i = 1} {j = power} h, c.max.ensures)))
