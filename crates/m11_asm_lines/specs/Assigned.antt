-- What the table becomes when an assignment gives a definition to the text before its `=`. (MACRO-11 Language Reference Manual, "Direct
-- assignment statements".)
use Rattle.std.specs.Prelude.{Bool, Option, Some, None}
use Rattle.m11_base.specs.Rad50.{Name}
use Rattle.m11_asm_rules.specs.Changes.{with_value}
use Rattle.m11_asm_rules.specs.declared.definitions.Definition.{Definition}
use Rattle.m11_asm_rules.specs.Tables.{Table}

-- the table after a definition is assigned to a name, as `with_value` says; the same table if the text before the `=` isn't a name
abbrev pub with_assignment : Option Name → Bool → Definition → Table → Table
with_assignment (Some name) is_global definition table = with_value name is_global definition table
with_assignment None is_global definition table = table
