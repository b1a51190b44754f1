use Rattle.std.proofs.Common.{◌≡◌, List, ◌++◌, length}
use Rattle.m11_base_disassembly.specs.Lines.{lines_of}
use Rattle.m11_base_disassembly.specs.Rows.{rows_of, symbols_in}
use Rattle.m11_base_disassembly.specs.declared.symbols.Symbol.{Symbol}
use Rattle.m11_base_disassembly.proofs.FoundSymbols.{with_symbols}
use Rattle.m11_base_disassembly.proofs.maps.add_symbols.Given as goal

abbrev pub invariant-lines : goal.invariant-lines
invariant-lines l = (done : List Symbol) × (l.symbols.items ≡ l.fn.symbols.items ++ done)
    × (symbols_in (rows_of l.form) (lines_of l.fn.lines) ≡ with_symbols done (symbols_in (rows_of l.form) (lines_of l.rest)))

abbrev pub decreases-lines : goal.decreases-lines
decreases-lines l = length l.rest
