use Rattle.std.proofs.Common.{rules}
use Rattle.m11_dumper.proofs.driver.outcome_of.Goals as goal

pub returns-in-Ok-clause-yields : goal.returns-in-Ok-clause-yields
returns-in-Ok-clause-yields g c = (c.in-Ok.request, c.in-Ok.ensures, search rules, search rules)
