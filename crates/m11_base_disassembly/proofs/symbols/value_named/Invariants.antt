use Rattle.std.proofs.Common.{◌≡◌, List, ◌++◌, length}
use Rattle.m11_base_disassembly.specs.Symbols.{value_named}
use Rattle.m11_base_disassembly.specs.declared.symbols.Symbol.{Symbol}
use Rattle.m11_base_disassembly.proofs.symbols.value_named.Given as goal

abbrev pub invariant-symbols : goal.invariant-symbols
invariant-symbols l = (done : List Symbol) × (l.fn.symbols ≡ l.rest ++ done) × (l.found ≡ value_named l.fn.name done)

abbrev pub decreases-symbols : goal.decreases-symbols
decreases-symbols l = length l.rest
