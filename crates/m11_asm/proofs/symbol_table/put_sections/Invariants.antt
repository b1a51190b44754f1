use Rattle.std.proofs.Common.{drop}
use Rattle.m11_asm_listing.specs.SymbolTable.{section_line}
use Rattle.m11_base_writes.specs.States.{OutputState, optional_output}
use Rattle.m11_base_writes.specs.Outputs.{outputs}
use Rattle.m11_asm.proofs.ListedLines.{lines_left}
use Rattle.m11_base_writes.proofs.Looping.{Leads}
use Rattle.m11_asm_outputs.specs.Outputs.{assembly}
use Rattle.m11_asm.proofs.symbol_table.put_sections.Given as goal

abbrev pub invariant-sections : goal.invariant-sections
invariant-sections g l = (object messages : OutputState)
    → Leads assembly (Unit {0}) (outputs object (optional_output g.T.Sink l.initial.listing) messages)
    (outputs object (optional_output g.T.Sink l.listing) messages) (lines_left section_line (drop l.section-index l.sections))
    (lines_left section_line l.sections)
