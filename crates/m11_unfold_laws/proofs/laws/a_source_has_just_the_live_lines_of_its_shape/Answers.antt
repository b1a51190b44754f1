use Rattle.m11_unfold_laws.proofs.Wholes.{just_these, no_others, whole}
use Rattle.m11_unfold_laws.proofs.laws.a_source_has_just_the_live_lines_of_its_shape.Goals as goal

pub returns-clause-all : goal.returns-clause-all
returns-clause-all c = whole

pub returns-clause-no_others : goal.returns-clause-no_others
returns-clause-no_others c = no_others

pub returns-clause-just_these : goal.returns-clause-just_these
returns-clause-just_these c = just_these
