use Rattle.std.proofs.Common.{◌≡◌, false, drop}
use Rattle.m11_link_text.specs.Findings.{planned}
use Rattle.m11_link.specs.Front.{is_empty, name_writes}
use Rattle.m11_link.proofs.front.has_weak_name.Given as goal

abbrev pub invariant-references : goal.invariant-references
invariant-references l = is_empty (name_writes (planned l.plan) false (drop l.index l.plan.gathered.references))
    ≡ is_empty (name_writes (planned l.plan) false l.plan.gathered.references)
