use Rattle.m11_cli_tasks.proofs.commands.application_command.Goals as goal

pub returns : goal.returns
returns c =
    c.with_command-3.ensures _ _ (c.in_ok-command-2.ensures _ _ (c.in_ok-command.ensures _ _ c.bare_command.ensures
    c.asm_command.ensures) c.link_command.ensures) c.sim_command.ensures
