use Rattle.m11_cli_tasks.proofs.commands.asm_command.Goals as goal

pub returns : goal.returns
returns c =
    c.with_argument.ensures _ _ (c.with_argument-command-2.ensures _ _
    (c.with_argument-command.ensures _ _ c.leaf_command-command.ensures c.output_argument.ensures)
    c.listing_argument.ensures) c.sources_argument.ensures
