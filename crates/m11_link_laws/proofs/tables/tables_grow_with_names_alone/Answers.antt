use Rattle.m11_link_laws.proofs.SectionsInModules.{records_contribute, whole_plan_contributes}
use Rattle.m11_link_laws.proofs.TablesWithinLimits.{contributions_within_limits, globals_within_limits, modules_within_limits, sections_within_limits}
use Rattle.m11_link_laws.proofs.tables.tables_grow_with_names_alone.Goals as goal

pub returns-clause-modules : goal.returns-clause-modules
returns-clause-modules c = modules_within_limits

pub returns-clause-sections : goal.returns-clause-sections
returns-clause-sections c = sections_within_limits

pub returns-clause-contributions : goal.returns-clause-contributions
returns-clause-contributions c = contributions_within_limits

pub returns-clause-globals : goal.returns-clause-globals
returns-clause-globals c = globals_within_limits

pub returns-clause-records : goal.returns-clause-records
returns-clause-records c = records_contribute

pub returns-clause-plans : goal.returns-clause-plans
returns-clause-plans c = λ bottom parts plan is. (is.grow, is.bounded)

pub returns-clause-whole_plans : goal.returns-clause-whole_plans
returns-clause-whole_plans c = whole_plan_contributes
