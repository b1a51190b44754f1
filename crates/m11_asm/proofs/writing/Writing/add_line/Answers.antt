use Rattle.std.proofs.Common.{refl, []}
use Rattle.m11_asm_outputs.specs.Outputs.{assembly}
use Rattle.m11_asm.specs.Listed.{added_lines, all_to_listing}
use Rattle.m11_base_writes.proofs.Writing.{stopped_first, writes_then}
use Rattle.m11_asm.proofs.Putting.{none_added, one_added, writes_nothing}
use Rattle.m11_asm.proofs.writing.Writing.add_line.Goals as goal
use Rattle.m11_asm.specs.Written.{flag_E, message_writes}

pub returns-then-has_ended-clause-writes : goal.returns-then-has_ended-clause-writes
returns-then-has_ended-clause-writes g c = λ object.
    writes_nothing _ _ (none_added c.args.read c.args.location c.args.has_ended c.if-has_ended.true)

pub returns-in_err-put_listed-clause-writes : goal.returns-in_err-put_listed-clause-writes
returns-in_err-put_listed-clause-writes g c = λ object.
    one_added _ _ flag_E c.args.read c.args.location c.args.has_ended _ c.if-has_ended.false refl
    (stopped_first assembly _ _ (all_to_listing (added_lines flag_E c.args.read c.args.location)) (message_writes flag_E c.args.read []) _ _
    (c.in_err-put_listed.ensures object _) c.from_residual.ensures.1)

pub returns-clause-writes : goal.returns-clause-writes
returns-clause-writes g c = λ object.
    one_added _ _ flag_E c.args.read c.args.location c.args.has_ended _ c.if-has_ended.false refl
    (writes_then assembly _ _ _ (all_to_listing (added_lines flag_E c.args.read c.args.location)) (message_writes flag_E c.args.read []) _
    (c.in_ok-put_listed.ensures object _) (c.report.ensures.writes object _))
