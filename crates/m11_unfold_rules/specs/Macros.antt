-- The defined macros, by their names. (MACRO-11 Language Reference Manual, "Macro definition": a later definition of a name
-- replaces the earlier one.)
use Rattle.std.specs.Prelude.{List, Option}
use Rattle.std.specs.Map.{lookup}
use Rattle.indexmap.specs.IndexMap.{insert_entry}
use Rattle.m11_base.specs.Rad50.{Name, is_same_name}
use Rattle.m11_unfold_rules.specs.Stages.{Macro}

-- the macro with this name, if it is defined
abbrev pub macro_named : List (Name × Macro) → Name → Option Macro
macro_named macros name = lookup (is_same_name name) macros

-- the macros after a definition, which replaces an earlier one of the same name
abbrev pub defined : List (Name × Macro) → Name → Macro → List (Name × Macro)
defined macros name macro = insert_entry is_same_name macros name macro
