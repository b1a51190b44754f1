use Rattle.std.proofs.Common.{arith, sym}
use Rattle.m11_link_text.specs.Findings.{planned}
use Rattle.m11_link.proofs.Looping.{weak_found, weak_passed, weak_ended}
use Rattle.m11_link.proofs.front.has_weak_name.Goals as goal

pub returns-in-Some : goal.returns-in-Some
returns-in-Some c = weak_found (planned c.args.plan.now) c.args.plan.now.gathered.references c.references.index
    c.reference_at.result c.reference_at.ensures _ (sym c.in-Some.ensures) c.references.invariant

pub references-preserved : goal.references-preserved
references-preserved c = weak_passed (planned c.args.plan.now) c.args.plan.now.gathered.references c.references.index
    c.reference_at.result c.reference_at.ensures (sym c.in-None.ensures) c.references.invariant

pub returns : goal.returns
returns c = weak_ended (planned c.args.plan.now) c.args.plan.now.gathered.references c.references.index
    (omega (arith, c.references-test.false, c.reference_count-index-end.ensures)) c.references.invariant
