use Rattle.m11_cli_chain.proofs.CommandsSucceeded.{asm_succeeds, link_succeeds, sim_succeeds}
use Rattle.m11_cli_chain.proofs.commands.planned_commands_with_status_0_succeed.Goals as goal

pub returns-clause-asm : goal.returns-clause-asm
returns-clause-asm c = λ words asm came old new before after. asm_succeeds words old new before after asm came

pub returns-clause-link : goal.returns-clause-link
returns-clause-link c = λ words link came old new before after. link_succeeds words old new before after link came

pub returns-clause-sim : goal.returns-clause-sim
returns-clause-sim c = λ words sim came old new before after. sim_succeeds words old new before after sim came
