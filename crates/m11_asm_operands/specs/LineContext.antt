-- The code's context of a line, as the definitions represent it, and which names are known there. (MACRO-11 Language Reference Manual,
-- "Symbols".)
use Rattle.std.specs.Prelude.{ℕ}
use Rattle.m11_base.specs.Devices.{Bytes}
use Rattle.m11_asm_rules.specs.Codes.{LineContext}
use Rattle.m11_asm_rules.specs.Instructions.{line_context}
use Rattle.m11_asm_rules.specs.Meanings.{Map}
use Rattle.m11_asm_rules.specs.Tables.{Table}

pub record Standpoint : Type 0 where
  pub map : Map
  pub table : Table
  pub location : ℕ
  pub line : Bytes

abbrev pub standpoint : Map → Table → ℕ → Bytes → Standpoint
standpoint map table location line = record { map = map; table = table; location = location; line = line }

abbrev pub line_context_of : Standpoint → LineContext
line_context_of here = line_context here.map here.table here.location
