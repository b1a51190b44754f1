use Rattle.m11_dumper.proofs.application.application_command.Goals as goal

pub returns : goal.returns
returns c =
    c.with_argument.ensures _ _ (c.with_argument-command-7.ensures _ _ (c.with_argument-command-6.ensures _ _
    (c.with_argument-command-5.ensures _ _ (c.with_argument-command-4.ensures _ _ (c.with_argument-command-3.ensures _ _
    (c.with_argument-command-2.ensures _ _
    (c.with_argument-command.ensures _ _ c.leaf_command-command.ensures c.disassemble_argument.ensures)
    c.source_argument.ensures) c.object_argument.ensures) c.tape_argument.ensures) c.load_map_argument.ensures)
    c.bottom_argument.ensures) c.symbols_argument.ensures) c.files_argument.ensures
