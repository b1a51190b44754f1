use Rattle.std.proofs.Common.{◌∙◌, arith}
use Rattle.std.proofs.lemmas.Result.{err_from_is_err_and}
use Rattle.m11_link_text.specs.Findings.{planned}
use Rattle.m11_base_writes.proofs.Looping.{stopped_there, wrote_all, wrote_one}
use Rattle.m11_link.specs.Outputs.{link}
use Rattle.m11_link.proofs.Looping.{name_left, name_writes_end}
use Rattle.m11_link.proofs.front.put_each_name.Goals as goal

pub returns-in_err-put_if_of_strength-clause-writes : goal.returns-in_err-put_if_of_strength-clause-writes
returns-in_err-put_if_of_strength-clause-writes g c = λ tape messages.
    let r = c.from_residual in
    let p = err_from_is_err_and r.result r.ensures.1 in
    rw (p.1, p.2)
    (stopped_there link _ _ _ _ _ _ _ _
    (name_left (planned c.args.plan.now) c.args.is_strong c.args.plan.now.gathered.references c.references.index
    c.reference_at.result c.reference_at.ensures) (c.references.invariant.leads tape messages) (c.in_err-put_if_of_strength.ensures.writes tape messages))

pub references-preserved : goal.references-preserved
references-preserved g c = record {
  leads = λ tape messages. wrote_one link _ _ _ _ _ _ _
      (name_left (planned c.args.plan.now) c.args.is_strong c.args.plan.now.gathered.references c.references.index
      c.reference_at.result c.reference_at.ensures) (c.references.invariant.leads tape messages) (c.in_ok-put_if_of_strength.ensures.writes tape messages);
  stays = c.in_ok-put_if_of_strength.ensures.stays ∙ c.references.invariant.stays;
}

pub returns-clause-writes : goal.returns-clause-writes
returns-clause-writes g c = λ tape messages. wrote_all link _ _ _ _ tt
    (name_writes_end (planned c.args.plan.now) c.args.is_strong c.args.plan.now.gathered.references c.references.index
    (omega (arith, c.references-test.false, c.reference_count-index-end.ensures)))
    (c.references.invariant.leads tape messages)
