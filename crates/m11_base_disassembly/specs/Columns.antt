-- The columns of a line, counted from 0. The columns after its end are blank, since blanks at the end of a line aren't written. (This
-- project's own.)
use Rattle.std.specs.Prelude.{ℕ, ◌+◌, [], ◌∷◌, slice_index_or, Option, Some, None, Result, Ok, Err}
use Rattle.m11_base.specs.Devices.{Bytes}
use Rattle.m11_base.specs.Octal.{octal_of}
use Rattle.m11_base.specs.Rad50.{Name, name_of}
use Rattle.m11_base.specs.declared.fault.OctalFault.{OctalFault}
use Rattle.m11_base_disassembly.specs.declared.map_fault.MapFault.{MapFault}
use Rattle.m11_base_disassembly.specs.declared.map_fault.MapFault.TheVariants.{BadMap}
use Rattle.m11_base_disassembly.specs.declared.symbols.Scope.TheVariants.{Unknown}
use Rattle.m11_base_disassembly.specs.declared.symbols.Symbol.{Symbol}

-- the character in a column
abbrev pub column : Bytes → ℕ → ℕ
column line index = slice_index_or line index 0o40

-- the characters in the three or six columns that begin with `first`
abbrev pub three_at : Bytes → ℕ → Bytes
three_at line first = column line first ∷ column line (first + 1) ∷ column line (first + 2) ∷ []

abbrev pub six_at : Bytes → ℕ → Bytes
six_at line first =
    column line first ∷ column line (first + 1) ∷ column line (first + 2) ∷ column line (first + 3) ∷ column line (first + 4)
    ∷ column line (first + 5) ∷ []

-- the name in the six columns that begin with `first`, if each character has a RADIX-50 code
abbrev pub name_at : Bytes → ℕ → Option Name
name_at line first = name_of (six_at line first)

abbrev pub number_by : Result ℕ OctalFault → Result ℕ MapFault
number_by (Ok number) = Ok number
number_by (Err fault) = Err BadMap

-- the number that the characters in the six columns that begin with `first` spell in octal; `BadMap` if they spell no word
abbrev pub number_at : Bytes → ℕ → Result ℕ MapFault
number_at line first = number_by (octal_of (six_at line first))

-- the symbol with this name and this value, in no section that is known; `BadMap` if there is no name or the value is an error
abbrev pub symbol_with : Option Name → Result ℕ MapFault → Result (Option Symbol) MapFault
symbol_with (Some name) (Ok value) = Ok (Some (record { name = name; value = value; scope = Unknown }))
symbol_with (Some name) (Err fault) = Err BadMap
symbol_with None value = Err BadMap
