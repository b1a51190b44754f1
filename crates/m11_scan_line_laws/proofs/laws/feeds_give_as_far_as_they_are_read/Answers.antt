use Rattle.m11_scan_line_laws.proofs.HowFar as how_far
use Rattle.m11_scan_line_laws.proofs.laws.feeds_give_as_far_as_they_are_read.Goals as goal

pub returns-clause-lines : goal.returns-clause-lines
returns-clause-lines g c = how_far.just_lines

pub returns-clause-all : goal.returns-clause-all
returns-clause-all g c = λ text faults old new source bytes_left lines_left lines middle h.
    how_far.all_given text faults old new source bytes_left lines_left lines middle h

pub returns-clause-failed : goal.returns-clause-failed
returns-clause-failed g c = λ text faults old new source bytes_left lines_left lines middle h.
    how_far.till_failure text faults old new source bytes_left lines_left lines middle h

pub returns-clause-too_much : goal.returns-clause-too_much
returns-clause-too_much g c = λ text faults old new source bytes_left lines_left lines middle h.
    how_far.past_bytes text faults old new source bytes_left lines_left lines middle h

pub returns-clause-too_many : goal.returns-clause-too_many
returns-clause-too_many g c = λ text faults old new source bytes_left lines_left lines middle h.
    how_far.past_lines text faults old new source bytes_left lines_left lines middle h
