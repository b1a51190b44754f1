-- The symbols that a line uses after its labels, which depend on the table after the labels. (MACRO-11 Language Reference Manual,
-- "Operator field" and "Symbols".)
use Rattle.std.specs.Prelude.{List, ◌++◌, map}
use Rattle.m11_base.specs.Devices.{Bytes}
use Rattle.m11_scan_expressions.specs.Remarks.{Remarks}
use Rattle.m11_asm_rules.specs.Actions.{Action}
use Rattle.m11_asm_rules.specs.declared.meanings.Context.TheVariants.{LocalOnly}
use Rattle.m11_asm_rules.specs.SymbolUses.{SymbolUse, action_uses, symbol_use}
use Rattle.m11_asm_rules.specs.Tables.{Table}

-- the symbols that unfolding evaluated, and those that the action uses
abbrev pub uses_after : Table → Bytes → Remarks → Action → List SymbolUse
uses_after table line remarks does = map (symbol_use LocalOnly) remarks.symbols ++ action_uses table line does
