use Rattle.std.proofs.Common.{◌≡◌, drop, is_some}
use Rattle.m11_link_text.specs.Findings.{planned}
use Rattle.m11_link.specs.Front.{global_writes}
use Rattle.m11_base_writes.specs.States.{OutputState, optional_output}
use Rattle.m11_base_writes.specs.Outputs.{outputs}
use Rattle.m11_base_writes.proofs.Looping.{Leads}
use Rattle.m11_link.specs.Outputs.{link}
use Rattle.m11_link.proofs.front.put_each_global.Given as goal

abbrev pub invariant-globals : goal.invariant-globals
invariant-globals g l = record {
  leads : (tape messages : OutputState) → Leads link (Unit {0})
      (outputs tape (optional_output g.T.Sink l.initial.map) messages)
      (outputs tape (optional_output g.T.Sink l.map) messages)
      (global_writes (drop l.index (planned l.plan).globals)) (global_writes (planned l.plan).globals);
  stays : is_some l.map ≡ is_some l.initial.map;
}
