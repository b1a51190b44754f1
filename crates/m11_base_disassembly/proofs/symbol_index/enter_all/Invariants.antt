use Rattle.std.proofs.Common.{◌≡◌, List, ◌++◌, length}
use Rattle.m11_base_disassembly.specs.SymbolIndex.{Finds}
use Rattle.m11_base_disassembly.specs.declared.symbols.Symbol.{Symbol}
use Rattle.m11_base_disassembly.proofs.symbol_index.enter_all.Given as goal

abbrev pub invariant-symbols : goal.invariant-symbols
invariant-symbols l = (done : List Symbol) × (l.list ≡ l.rest ++ done) × (length l.places ≡ 65536) × Finds l.list l.places done

abbrev pub decreases-symbols : goal.decreases-symbols
decreases-symbols l = length l.rest
