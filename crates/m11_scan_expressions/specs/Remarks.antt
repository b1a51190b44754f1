-- The further results of reading the arguments of a directive or of a call. (MACRO-11 Language Reference Manual, "Diagnostic
-- error message summary" and "Symbols".)
use Rattle.std.specs.Prelude.{ℕ, List, [], ◌++◌}
use Rattle.std.specs.Int.RustNames.{bit_or}
use Rattle.m11_scan_expressions.specs.declared.names.Symbol.{Symbol}

-- flags, and the symbols that were read, in order
pub record Remarks : Type 0 where
  pub flags : ℕ
  pub symbols : List Symbol

abbrev pub no_remarks : Remarks
no_remarks = record { flags = 0; symbols = [] }

abbrev pub remarks_of : ℕ → List Symbol → Remarks
remarks_of flags symbols = record { flags = flags; symbols = symbols }

-- the remarks of two readings, one after the other
abbrev pub joined : Remarks → Remarks → Remarks
joined first second =
    record { flags = bit_or first.flags second.flags; symbols = first.symbols ++ second.symbols }

-- remarks with these flags added
abbrev pub with_flags : Remarks → ℕ → Remarks
with_flags remarks flags = record { flags = bit_or remarks.flags flags; symbols = remarks.symbols }

-- remarks with these symbols added
abbrev pub with_symbols : Remarks → List Symbol → Remarks
with_symbols remarks symbols = record { flags = remarks.flags; symbols = remarks.symbols ++ symbols }
