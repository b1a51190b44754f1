use Rattle.std.proofs.Common.{◌≡◌, List, false, is_some}
use Rattle.m11_link_modules.specs.Parts.{Part}
use Rattle.m11_link_layout.specs.Plan.{PlanTables}
use Rattle.m11_link.specs.Emit.{EmitAfter, written}
use Rattle.m11_link_text.specs.Findings.{planned}
use Rattle.m11_link.specs.Outputs.{Gains}
use Rattle.m11_base_writes.specs.Outputs.{Outputs, outputs_of}
use Rattle.m11_link.proofs.SecondRead.{Sent}
use Rattle.m11_link.proofs.run.emit_object.Given as goal

abbrev pub invariant-items : goal.invariant-items
invariant-items g l = record {
  reads : l.reader.has_failed ≡ false;
  sent : (plan : PlanTables) (before : List Part) (first : Outputs) → EmitAfter plan before l.initial.emit
      → Gains first
      (outputs_of g.S.Sink g.T.Sink g.U.Sink l.initial.tape l.initial.map l.initial.messages)
      (written (planned plan) l.initial.emit.has_begun before)
      → Sent (g.F.Feed.text l.initial.feed) (g.F.Feed.text l.feed) (g.F.Feed.faults l.initial.feed)
      (g.F.Feed.faults l.feed) l.reader.room plan l.initial.emit.has_begun before first
      (outputs_of g.S.Sink g.T.Sink g.U.Sink l.tape l.map l.messages)
      l.emit;
  stays : is_some l.map ≡ is_some l.initial.map;
}

abbrev pub decreases-items : goal.decreases-items
decreases-items g l = l.reader.room
