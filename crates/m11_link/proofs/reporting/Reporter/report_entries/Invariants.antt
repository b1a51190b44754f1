use Rattle.std.proofs.Common.{drop}
use Rattle.m11_base_writes.specs.States.{OutputState, output_of}
use Rattle.m11_base_writes.specs.Outputs.{outputs}
use Rattle.m11_link.proofs.Entering.{LeadsEntries}
use Rattle.m11_link.proofs.reporting.Reporter.report_entries.Given as goal

abbrev pub invariant-entries : goal.invariant-entries
invariant-entries g l = (tape map : OutputState) → LeadsEntries l.module_index
    (outputs tape map (output_of g.U.Sink l.initial.messages)) l.initial.self
    (outputs tape map (output_of g.U.Sink l.messages)) l.self (drop l.entry-index l.entries) l.entries
