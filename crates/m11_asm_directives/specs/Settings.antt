-- The code's values for what a directive sets, with the names of its list, as the definitions represent them.
use Rattle.std.specs.Prelude.{List, Option}
use Rattle.m11_base.specs.Devices.{Bytes}
use Rattle.m11_obj.specs.Attributes.{bits_of}
use Rattle.m11_scan.specs.Views as views
use Rattle.m11_scan_expressions.specs.Tokens.{expression_of}
use Rattle.m11_scan_statements.specs.declared.spans.Span.{Span}
use Rattle.m11_asm_rules.specs.Actions as actions
use Rattle.m11_asm_rules.specs.Elements.{names_of, texts_of}
use Rattle.m11_asm_rules.specs.Psects.{attributes_named}
use Rattle.m11_asm_directives.specs.declared.settings.Effect.{Effect}
use Rattle.m11_asm_directives.specs.declared.settings.Setting.{Setting}
use Rattle.m11_asm_directives.specs.declared.settings.Setting.TheVariants.{Nothing, Select, Export, SetNumber, SetRadix, MoveLevel, ListExpansions, Entitle, Identify, Transfer}

abbrev pub setting_model : Bytes → List (Option Span) → Setting → actions.Action
setting_model line names Nothing = actions.NoAction
setting_model line names (Select name attributes) =
    actions.Select name (bits_of attributes) (attributes_named (texts_of line names))
setting_model line names (Export is_weak) = actions.Export is_weak (names_of (texts_of line names))
setting_model line names (SetNumber name number) = actions.SetNumber name number
setting_model line names (SetRadix radix) = actions.SetRadix radix
setting_model line names (MoveLevel goes_up) = actions.MoveLevel goes_up
setting_model line names (ListExpansions are_listed) = actions.ListExpansions are_listed
setting_model line names (Entitle name) = actions.Entitle name
setting_model line names (Identify name) = actions.Identify name
setting_model line names (Transfer place) = actions.Transfer (expression_of line place)

abbrev pub effect_model : Bytes → List (Option Span) → Effect → actions.Operation
effect_model line names effect = actions.does (setting_model line names effect.setting) (views.bits_of effect.flags)
