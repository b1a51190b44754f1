use Rattle.m11_cli_image.proofs.BranchesLead.{branch_leads, loop_leads}
use Rattle.m11_cli_image.proofs.values.branches_lead_to_their_targets.Goals as goal

pub returns : goal.returns
returns c = record {
  branch = λ program source location table value absolute low reach. branch_leads program source table absolute location value low reach;
  sob = λ program source location table value absolute low reach. loop_leads program source table absolute location value low reach;
}
