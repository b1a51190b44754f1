use Rattle.std.proofs.Common.{◌≡◌, List, None, is_some}
use Rattle.m11_link_modules.specs.Parts.{Part, EndOfFile}
use Rattle.m11_link_modules.specs.Rules.{fault_of}
use Rattle.m11_link_layout.specs.Plan.{PlanTables}
use Rattle.m11_link.specs.Emit.{EmitAfter, written}
use Rattle.m11_link_text.specs.Findings.{planned}
use Rattle.m11_link.specs.Outputs.{Gains}
use Rattle.m11_base_writes.specs.Outputs.{Outputs, outputs_of}
use Rattle.m11_link.proofs.SecondRead.{SentAll}
use Rattle.m11_link.proofs.run.emit_all.Given as goal

abbrev pub invariant-feeds : goal.invariant-feeds
invariant-feeds g l = record {
  sent : (plan : PlanTables) (before : List Part) (first : Outputs) → EmitAfter plan before l.initial.emit
      → fault_of before EndOfFile ≡ None
      → Gains first
      (outputs_of g.S.Sink g.T.Sink g.U.Sink l.initial.tape l.initial.map l.initial.messages)
      (written (planned plan) l.initial.emit.has_begun before)
      → SentAll g.F.Feed.text g.F.Feed.faults l.initial.feeds l.feeds l.feed-index plan l.initial.emit.has_begun before first
      (outputs_of g.S.Sink g.T.Sink g.U.Sink l.tape l.map l.messages)
      l.emit;
  stays : is_some l.map ≡ is_some l.initial.map;
}
