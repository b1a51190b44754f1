use Rattle.m11_unfold_bodies.proofs.Switches.{last_switch, skips_at_first, skips_by}
use Rattle.m11_unfold_bodies.proofs.laws.the_last_switch_decides.Goals as goal

pub returns-clause-forgets : goal.returns-clause-forgets
returns-clause-forgets c = last_switch

pub returns-clause-skips : goal.returns-clause-skips
returns-clause-skips c = skips_by

pub returns-clause-begins : goal.returns-clause-begins
returns-clause-begins c = skips_at_first
