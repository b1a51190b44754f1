use Rattle.m11_cli_tasks.proofs.commands.sim_command.Goals as goal

pub returns : goal.returns
returns c =
    c.with_argument.ensures _ _ (c.with_argument-command-3.ensures _ _ (c.with_argument-command-2.ensures _ _
    (c.with_argument-command.ensures _ _ c.leaf_command-command.ensures c.steps_argument.ensures)
    c.start_argument.ensures) c.words_argument.ensures) c.tape_argument.ensures
