-- Directives by their names. (MACRO-11 Language Reference Manual, "Permanent symbol table".)
use Rattle.std.specs.Prelude.{find, Option, Some, None}
use Rattle.std.specs.Str.{bytes_eq}
use Rattle.m11_base.specs.Devices.{Bytes}
use Rattle.m11_asm_rules.specs.Operators.{directive_rows}
use Rattle.m11_asm_rules.specs.declared.operators.Directive.{Directive}
use Rattle.m11_asm_rules.specs.declared.operators.DirectiveRow.{DirectiveRow}

abbrev pub directive_in : Option DirectiveRow → Option Directive
directive_in (Some row) = Some row.directive
directive_in None = None

-- the directive with this six-character name, if there is one
abbrev pub directive_named : Bytes → Option Directive
directive_named name = directive_in (find (λ row. bytes_eq row.name name) directive_rows)
