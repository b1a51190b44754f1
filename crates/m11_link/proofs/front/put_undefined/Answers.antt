use Rattle.std.proofs.Common.{arith}
use Rattle.std.proofs.lemmas.Result.{err_from_is_err_and}
use Rattle.m11_link_text.specs.Findings.{planned}
use Rattle.m11_base_writes.proofs.Looping.{stopped_there, wrote_all, wrote_one}
use Rattle.m11_link.specs.Outputs.{link}
use Rattle.m11_link.proofs.Looping.{count_left, count_end, message_left, messages_end}
use Rattle.m11_link.proofs.front.put_undefined.Goals as goal

pub returns-in_err-reported-clause-writes : goal.returns-in_err-reported-clause-writes
returns-in_err-reported-clause-writes g c = λ tape map.
    let r = c.from_residual in
    let p = err_from_is_err_and r.result r.ensures.1 in
    rw (p.1, p.2)
    (stopped_there link _ _ _ _ _ _ _ _
    (message_left (planned c.args.plan.now) c.args.plan.now.gathered.references c.references.index c.reference_at.result
    c.reference_at.ensures) (c.references.invariant.0 tape map) (c.in_err-reported.ensures.writes tape map))

pub references-preserved : goal.references-preserved
references-preserved g c = (
  λ tape map. wrote_one link _ _ _ _ _ _ _
      (message_left (planned c.args.plan.now) c.args.plan.now.gathered.references c.references.index
      c.reference_at.result c.reference_at.ensures) (c.references.invariant.0 tape map) (c.in_ok-reported.ensures.writes tape map),
  count_left (planned c.args.plan.now) c.args.plan.now.gathered.references c.references.index c.args.count
      c.references.reported _ c.reference_at.result c.reference_at.ensures c.in_ok-reported.ensures.count
      c.references.invariant.1,
)

pub returns-clause-writes : goal.returns-clause-writes
returns-clause-writes g c = λ tape map. wrote_all link _ _ _ _ c.references.reported
    (messages_end (planned c.args.plan.now) c.args.plan.now.gathered.references c.references.index
    (omega (arith, c.references-test.false, c.reference_count-index-end.ensures)))
    (c.references.invariant.0 tape map)

pub returns-clause-count : goal.returns-clause-count
returns-clause-count g c = count_end (planned c.args.plan.now) c.args.plan.now.gathered.references c.references.index
    c.args.count c.references.reported (omega (arith, c.references-test.false, c.reference_count-index-end.ensures))
    c.references.invariant.1
