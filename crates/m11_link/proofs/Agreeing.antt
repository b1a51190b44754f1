-- Findings that agree are the same, and yield the same writes; so a run with the plan of its first pass is one with the findings of the
-- definitions.
use Rattle.std.proofs.Common.{◌≡◌, ℕ, List, Result, Ok, Err, ap, inr, subst}
use Rattle.m11_link_modules.specs.Parts.{Part}
use Rattle.m11_link_layout.specs.Plan.{IsPlanOf, PlanTables}
use Rattle.m11_link_layout.specs.declared.fault.LinkFault.{LinkFault}
use Rattle.m11_link_text.specs.Findings.{Agree, Findings, findings_of, planned}
use Rattle.m11_base_writes.specs.Outputs.{Outputs}
use Rattle.m11_base_writes.specs.Passes.{Pass}
use Rattle.m11_link.specs.FirstPass.{HasPlan}
use Rattle.m11_link.specs.SecondPass.{LinkRunsOr, ReadsSecond}
use Rattle.m11_link.specs.Written.{link_writes}
use Rattle.m11_link.specs.declared.emit.LinkDone.{LinkDone}

pub same_findings : (some others : Findings) → Agree some others → some ≡ others
same_findings some others a = λ i. record {
  base = λ module_index name. a.base module_index name i;
  value = λ name. a.value name i;
  attributes = λ name. a.attributes name i;
  module_name = λ module_index. a.module_name module_index i;
  sections = a.sections i;
  globals = a.globals i;
  references = a.references i;
  transfer = a.transfer i;
  bottom = a.bottom i;
  top = a.top i;
}

pub link_same : (some others : Findings) → Agree some others → (parts : List Part)
    → link_writes some parts ≡ link_writes others parts
link_same some others a parts = ap (λ (found : Findings). link_writes found parts) (same_findings some others a)

-- the findings of a plan of some parts agree with those that the definitions yield for these parts
plan_agrees : (bottom : ℕ) (parts : List Part) (plan : PlanTables) → IsPlanOf bottom parts plan
    → Agree (planned plan) (findings_of bottom parts)
unfolding findings_of
plan_agrees bottom parts plan h = record {
  base = h.bases;
  value = h.values;
  attributes = h.attributes;
  module_name = h.names;
  sections = h.sections;
  globals = h.globals;
  references = h.references;
  transfer = h.transfer;
  bottom = h.limits.0;
  top = h.limits.1;
}

pub found_by_plan : (bottom : ℕ) (parts : List Part) (plan : PlanTables) → IsPlanOf bottom parts plan
    → planned plan ≡ findings_of bottom parts
found_by_plan bottom parts plan h = same_findings (planned plan) (findings_of bottom parts) (plan_agrees bottom parts plan h)

-- a link with a plan of some parts makes the same writes as with the findings that the definitions yield for these parts
pub written_by_definition : (bottom : ℕ) (parts others : List Part) (plan : PlanTables) → IsPlanOf bottom parts plan
    → link_writes (planned plan) others ≡ link_writes (findings_of bottom parts) others
written_by_definition bottom parts others plan h =
    ap (λ (found : Findings). link_writes found others) (found_by_plan bottom parts plan h)

-- if the first pass returned a plan, and the second pass went with it, this is the run
pub run_with_plan : {F : Type 0} (Untouched : Type 0) (first second : Pass F) (bottom : ℕ) (plan : PlanTables) (old new : Outputs)
    (result : Result LinkDone LinkFault) → HasPlan first bottom plan → ReadsSecond second (planned plan) old new result
    → LinkRunsOr Untouched first second bottom old new result
run_with_plan Untouched first second bottom plan old new (Ok done) p r =
    let P : Findings → Type 0 = λ found. ReadsSecond second found old new (Ok done) in
    (p.parts, p.reads, subst P (found_by_plan bottom p.parts plan p.is) r)
run_with_plan Untouched first second bottom plan old new (Err stopped) p r =
    let P : Findings → Type 0 = λ found. ReadsSecond second found old new (Err stopped) in
    inr (p.parts, p.reads, subst P (found_by_plan bottom p.parts plan p.is) r)
