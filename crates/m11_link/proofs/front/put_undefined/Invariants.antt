use Rattle.std.proofs.Common.{◌≡◌, ℕ, drop}
use Rattle.m11_link_text.specs.Findings.{planned}
use Rattle.m11_link.specs.Front.{undefined_writes}
use Rattle.m11_base_writes.specs.States.{OutputState, output_of}
use Rattle.m11_base_writes.specs.Outputs.{outputs}
use Rattle.m11_link.specs.Written.{counted}
use Rattle.m11_base_writes.proofs.Looping.{Leads}
use Rattle.m11_link.specs.Outputs.{link}
use Rattle.m11_link.proofs.front.put_undefined.Given as goal

abbrev pub invariant-references : goal.invariant-references
invariant-references g l = ((tape map : OutputState) → Leads link ℕ
    (outputs tape map (output_of g.U.Sink l.initial.messages))
    (outputs tape map (output_of g.U.Sink l.messages))
    (undefined_writes (planned l.plan) (drop l.index l.plan.gathered.references))
    (undefined_writes (planned l.plan) l.plan.gathered.references))
    × (counted l.reported (undefined_writes (planned l.plan) (drop l.index l.plan.gathered.references))
    ≡ counted l.count (undefined_writes (planned l.plan) l.plan.gathered.references))
