use Rattle.m11_scan_line_laws.proofs.Feeds as feeds
use Rattle.m11_scan_line_laws.proofs.laws.lines_read_are_those_of_the_sources.Goals as goal

pub returns-clause-so_far : goal.returns-clause-so_far
returns-clause-so_far g c = feeds.so_far

pub returns-clause-all : goal.returns-clause-all
returns-clause-all g c = λ text faults old new source bytes_left lines_left lines middle h.
    feeds.all text faults old new source bytes_left lines_left lines middle h

pub returns-clause-too_much : goal.returns-clause-too_much
returns-clause-too_much g c = λ text faults old new source bytes_left lines_left lines middle h.
    feeds.too_much text faults old new source bytes_left lines_left lines middle h

pub returns-clause-too_many : goal.returns-clause-too_many
returns-clause-too_many g c = λ text faults old new source bytes_left lines_left lines middle h.
    feeds.too_many text faults old new source bytes_left lines_left lines middle h

pub returns-clause-failed : goal.returns-clause-failed
returns-clause-failed g c = λ text faults old new source bytes_left lines_left lines middle h.
    feeds.failed text faults old new source bytes_left lines_left lines middle h
