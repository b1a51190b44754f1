use Rattle.m11_obj_laws.proofs.TapeCuts.{cut_read, read_cut, cut_after_read, read_cut_after, ends_after_read, read_ends_after}
use Rattle.m11_obj_laws.proofs.tape_stops.tape_cuts_are_shown.Goals as goal

pub returns-clause-cut : goal.returns-clause-cut
returns-clause-cut c = cut_read

pub returns-clause-inside : goal.returns-clause-inside
returns-clause-inside c = read_cut

pub returns-clause-cut_after : goal.returns-clause-cut_after
returns-clause-cut_after c = cut_after_read

pub returns-clause-inside_after : goal.returns-clause-inside_after
returns-clause-inside_after c = read_cut_after

pub returns-clause-ends_after : goal.returns-clause-ends_after
returns-clause-ends_after c = ends_after_read

pub returns-clause-none_after : goal.returns-clause-none_after
returns-clause-none_after c = read_ends_after
