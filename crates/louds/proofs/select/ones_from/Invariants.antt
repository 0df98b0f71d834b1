-- `louds::select::ones_from` meets its contract. The invariant: with the rest of `over` taken away, `rest` is what the definition leaves. Assumes nothing.
use Rattle.std.proofs.Common.{◌≡◌, ◌-◌}
use Rattle.louds.specs.Taking.{cleared, ones_from}
use Rattle.louds.proofs.select.ones_from.Given as goal

abbrev pub invariant-loop : goal.invariant-loop
invariant-loop l = cleared (l.over - l.counter) l.rest ≡ ones_from l.word l.sums l.j
