use Rattle.m11_cpu_laws.proofs.BranchesGo.{branch_goes, mark_goes, sob_goes}
use Rattle.m11_cpu_laws.proofs.branching.branches_go.Goals as goal

pub returns-clause-branch : goal.returns-clause-branch
returns-clause-branch c = branch_goes

pub returns-clause-sob : goal.returns-clause-sob
returns-clause-sob c = sob_goes

pub returns-clause-mark : goal.returns-clause-mark
returns-clause-mark c = mark_goes
