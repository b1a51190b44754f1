use Rattle.m11_tracer.proofs.application.application_command.Goals as goal

pub returns : goal.returns
returns c =
    c.with_argument.ensures _ _ (c.with_argument-command-12.ensures _ _ (c.with_argument-command-11.ensures _ _ (c.with_argument-command-10.ensures _ _ (c.with_argument-command-9.ensures _ _
    (c.with_argument-command-8.ensures _ _ (c.with_argument-command-7.ensures _ _ (c.with_argument-command-6.ensures _ _ (c.with_argument-command-5.ensures _ _
    (c.with_argument-command-4.ensures _ _ (c.with_argument-command-3.ensures _ _ (c.with_argument-command-2.ensures _ _ (c.with_argument-command.ensures _ _
    c.leaf_command-command.ensures c.steps_argument.ensures) c.start_argument.ensures) c.words_argument.ensures)
    c.from_argument.ensures) c.last_argument.ensures) c.lines_argument.ensures) c.breakpoint_argument.ensures) c.watch_argument.ensures) c.range_argument.ensures)
    c.symbols_argument.ensures) c.text_argument.ensures) c.bottom_argument.ensures) c.tape_argument.ensures
