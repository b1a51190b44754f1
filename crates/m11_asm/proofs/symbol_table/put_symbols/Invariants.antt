use Rattle.std.proofs.Common.{drop}
use Rattle.m11_asm_listing.specs.SymbolTable.{symbol_line}
use Rattle.m11_base_writes.specs.States.{OutputState, optional_output}
use Rattle.m11_base_writes.specs.Outputs.{outputs}
use Rattle.m11_asm.proofs.ListedLines.{lines_left}
use Rattle.m11_base_writes.proofs.Looping.{Leads}
use Rattle.m11_asm_outputs.specs.Outputs.{assembly}
use Rattle.m11_asm.proofs.symbol_table.put_symbols.Given as goal

abbrev pub invariant-symbols : goal.invariant-symbols
invariant-symbols g l = (object messages : OutputState)
    → Leads assembly (Unit {0}) (outputs object (optional_output g.T.Sink l.initial.listing) messages)
    (outputs object (optional_output g.T.Sink l.listing) messages) (lines_left symbol_line (drop l.symbol-index l.symbols))
    (lines_left symbol_line l.symbols)
