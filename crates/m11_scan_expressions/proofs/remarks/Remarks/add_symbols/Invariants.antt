use Rattle.std.proofs.Common.{◌≡◌, length}
use Rattle.m11_scan_expressions.specs.Symbols.{symbols_of}
use Rattle.m11_scan_expressions.specs.Remarks.{with_symbols}
use Rattle.m11_scan_expressions.proofs.remarks.Remarks.add_symbols.Given as goal

abbrev pub invariant-symbols : goal.invariant-symbols
invariant-symbols l =
    with_symbols l.self (symbols_of l.line.text l.rest) ≡ with_symbols l.initial.self (symbols_of l.line.text l.tokens)

abbrev pub decreases-symbols : goal.decreases-symbols
decreases-symbols l = length l.rest
