-- The symbols of a listing: the names in its symbol table, at the addresses that a link of its module alone gives them. Relocatable
-- sections follow one another from the bottom address up, in the order of their numbers, each rounded up to an even size; absolute ones are
-- at 0. (The columns are this project's own; docs/FORMATS.md, "The symbol table" and "Sections", counts them from 1.)
use Rattle.std.specs.Prelude.{◌==◌, ◌||◌, ◌+◌, ◌%◌, ℕ, if◌then◌else◌, List, [], ◌∷◌, codes, Option, None, Result, Ok, Err}
use Rattle.std.specs.Str.{bytes_eq}
use Rattle.m11_base.specs.Devices.{Bytes}
use Rattle.m11_base_disassembly.specs.Columns.{column, name_at, number_at, six_at, symbol_with, three_at}
use Rattle.m11_base_disassembly.specs.declared.map_fault.MapFault.{MapFault}
use Rattle.m11_base_disassembly.specs.declared.map_fault.MapFault.TheVariants.{BadMap}
use Rattle.m11_base_disassembly.specs.declared.symbols.Symbol.{Symbol}

-- ---- the bases of sections

-- the base of the section that a line describes: `base` for a relocatable section, 0 for an absolute one; `BadMap` if the line says neither
-- REL nor ABS
abbrev pub own_base : ℕ → Bytes → Result ℕ MapFault
own_base base line =
    if bytes_eq (three_at line 27) (codes "REL") then Ok base
    else if bytes_eq (three_at line 27) (codes "ABS") then Ok 0 else Err BadMap

-- the address `size` bytes after a base, with the size rounded up to even, modulo octal 200000
abbrev pub past : ℕ → ℕ → ℕ
past base size = (base + (size + size % 2)) % 0o200000

abbrev pub past_by : ℕ → Result ℕ MapFault → Result ℕ MapFault
past_by base (Ok size) = Ok (past base size)
past_by base (Err fault) = Err fault

-- where the next relocatable section begins: at `base`, or past the section that the line describes if that one is relocatable and so
-- begins at `base`; `BadMap` if the line says neither REL nor ABS, or if it says REL and the size isn't an octal word
abbrev pub next_base : ℕ → Bytes → Result ℕ MapFault
next_base base line =
    if bytes_eq (three_at line 27) (codes "REL") then past_by base (number_at line 7)
    else if bytes_eq (three_at line 27) (codes "ABS") then Ok base else Err BadMap

-- the base of the section with this number among the lines of sections, if relocatable sections begin at `base`; `BadMap` if no line has
-- the number, or if that line or one before it doesn't describe a section
abbrev pub base_of : ℕ → Bytes → List Bytes → Result ℕ MapFault
base_of base number [] = Err BadMap
base_of base number (line ∷ lines) =
    if bytes_eq (three_at line 14) number then own_base base line
    else elim (next_base base line) [ Ok next ↦ base_of next number lines | Err fault ↦ Err fault ]

-- ---- the addresses of names

-- the address to which the value of a name is added: the base of the name's section if the line marks the value with `R`, and 0 if it has
-- no mark; `BadMap` if there is another mark or the section has no base
abbrev pub counted_from : ℕ → List Bytes → Bytes → Result ℕ MapFault
counted_from bottom sections line =
    if column line 16 == 0o122 then base_of bottom (three_at line 19) sections
    else if column line 16 == 0o40 then Ok 0 else Err BadMap

abbrev pub moved : Result ℕ MapFault → Result ℕ MapFault → Result ℕ MapFault
moved (Ok base) (Ok location) = Ok ((base + location) % 0o200000)
moved (Ok base) (Err fault) = Err BadMap
moved (Err fault) location = Err BadMap

abbrev pub address_of : ℕ → List Bytes → Bytes → Result ℕ MapFault
address_of bottom sections line = moved (counted_from bottom sections line) (number_at line 9)

-- the symbol in a line of a symbol table; none if its value is unknown or it is a register; `BadMap` if the line doesn't have the form of
-- such a line, or the symbol's section has no base
abbrev pub listed_symbol : ℕ → List Bytes → Bytes → Result (Option Symbol) MapFault
listed_symbol bottom sections line =
    if bytes_eq (six_at line 9) (codes "******") || column line 16 == 0o45 then Ok None
    else symbol_with (name_at line 0) (address_of bottom sections line)
