use Rattle.m11_asm_outcome_laws.proofs.OneText.{never, repeats, told_by_first}
use Rattle.m11_asm_outcome_laws.proofs.laws.the_same_text_has_no_moved_label_and_no_second_refusal.Goals as goal

pub returns-clause-repeats : goal.returns-clause-repeats
returns-clause-repeats c = λ reading lines ended ends.
    repeats c.the_same_lines_are_read_alike.ensures.ends c.a_second_pass_over_the_same_lines_passes_no_limit.ensures.limits reading lines
    ended ends c.each_pass_reaches_its_end_or_passes_a_limit.ensures
    c.no_label_has_moved_in_a_second_pass_over_the_same_lines.ensures

pub returns-clause-refuses : goal.returns-clause-refuses
returns-clause-refuses c = λ reading lines others ended fault ends.
    never c.the_same_lines_are_read_alike.ensures.ends c.a_second_pass_over_the_same_lines_passes_no_limit.ensures.limits reading lines ended
    ends others fault

pub returns-clause-outcome : goal.returns-clause-outcome
returns-clause-outcome c =
    told_by_first c.the_same_lines_are_read_alike.ensures.ends c.a_second_pass_over_the_same_lines_passes_no_limit.ensures.limits
