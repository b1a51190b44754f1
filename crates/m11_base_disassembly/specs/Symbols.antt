-- The names of addresses: the nearest symbol at or below an address in its own section, and the distance from there. The addresses of names. (This project's own;
-- docs/VIEWS.md, "Names of addresses". A symbol and a distance as an operand: MACRO-11 Language Reference Manual, "Expressions".)
use Rattle.std.specs.Prelude.{◌≡◌, ◌⊎◌, ℕ, ◌+◌, ◌-◌, ◌*◌, ◌==◌, ◌&&◌, ◌||◌, Bool, true, false, nat_le, nat_lt, if◌then◌else◌, List, [], ◌∷◌, ◌++◌, Option, Some, None}
use Rattle.std.specs.List.{AllByRecursion}
use Rattle.std.specs.Str.{bytes_eq}
use Rattle.m11_base.specs.Devices.{Bytes}
use Rattle.m11_base.specs.Rad50.{name_text}
use Rattle.m11_base_disassembly.specs.Names.{bare_name, is_written}
use Rattle.m11_base_disassembly.specs.Numbers.{distance_text, number_text}
use Rattle.m11_base_disassembly.specs.declared.symbols.Scope.{Scope}
use Rattle.m11_base_disassembly.specs.declared.symbols.Scope.TheVariants.{Unknown, Label, Section}
use Rattle.m11_base_disassembly.specs.declared.symbols.Symbol.{Symbol}

-- ---- the nearest symbol

abbrev pub is_within : ℕ → Scope → Bool
is_within address Unknown = true
is_within address (Label end) = nat_lt address end
is_within address (Section end) = nat_lt address end

-- a symbol may name an address: the address isn't below its value and, if its section is known, is before the end of its module's
-- contribution to that section
abbrev pub reaches : ℕ → Symbol → Bool
reaches address symbol = nat_le symbol.value address && is_within address symbol.scope

-- the order in which symbols that may name an address come, by a number, the greatest first: those whose section is known before the others,
-- higher values before lower ones, and of one value a label before a section. (Values are below octal 200000.)
abbrev pub order : Scope → ℕ → ℕ
order Unknown value = value
order (Section end) value = 0o200000 + 2 * value
order (Label end) value = 0o200001 + 2 * value

-- a symbol comes no later than another one in that order
abbrev pub goes_before : Symbol → Symbol → Bool
goes_before symbol other = nat_le (order other.scope other.value) (order symbol.scope symbol.value)

-- this symbol, if it may name an address and goes before the one that was found among the symbols after it; otherwise that one, if there is
-- one
abbrev pub nearer : ℕ → Symbol → Option Symbol → Option Symbol
nearer address symbol None = if reaches address symbol then Some symbol else None
nearer address symbol (Some other) = if reaches address symbol && goes_before symbol other then Some symbol else Some other

-- of the symbols that may name an address the one that goes before the others, the first one if there are several; None if no symbol may
abbrev pub nearest : ℕ → List Symbol → Option Symbol
nearest address [] = None
nearest address (symbol ∷ symbols) = nearer address symbol (nearest address symbols)

-- ---- what the nearest symbol is

-- the other symbol may not name the address
abbrev pub IsOut : ℕ → Symbol → Type 0
IsOut address other = reaches address other ≡ false

-- the other symbol, if it may name the address, doesn't go before this one
abbrev pub IsAfter : ℕ → Symbol → Symbol → Type 0
IsAfter address symbol other = reaches address other ≡ true → goes_before other symbol ≡ false

-- this symbol goes before the other one, if that one may name the address
abbrev pub IsBefore : ℕ → Symbol → Symbol → Type 0
IsBefore address symbol other = reaches address other ≡ true → goes_before symbol other ≡ true

-- this is the symbol of a list that may name an address and goes before all others that may, and before itself none does; None if no symbol may
abbrev pub IsNearest : ℕ → List Symbol → Option Symbol → Type 0
IsNearest address symbols None = AllByRecursion (IsOut address) symbols
IsNearest address symbols (Some symbol) = (before : List Symbol) × (after : List Symbol) × (symbols ≡ before ++ symbol ∷ after)
    × (reaches address symbol ≡ true) × AllByRecursion (IsAfter address symbol) before × AllByRecursion (IsBefore address symbol) after

-- ---- the text of a name

-- a symbol at or below an address, and the distance from it
abbrev pub name_from : Symbol → ℕ → Bytes
name_from symbol address = bare_name (name_text symbol.name) ++ distance_text (address - symbol.value)

-- the nearest symbol and the distance from it, after a prefix; nothing if no symbol is at or below the address
abbrev pub name_after : Bytes → Option Symbol → ℕ → Bytes
name_after first None address = []
name_after first (Some symbol) address = first ++ name_from symbol address

-- the name of an address after a prefix; nothing if the address has no name
abbrev pub address_name : Bytes → List Symbol → ℕ → Bytes
address_name first symbols address = name_after first (nearest address symbols) address

-- ---- addresses in operands

-- a symbol's section is known
abbrev pub is_placed : Scope → Bool
is_placed Unknown = false
is_placed (Label end) = true
is_placed (Section end) = true

-- a symbol may stand for an address in an operand: its name can be written, and its section is known or its value is the address. (Else a
-- register of a device would be shown by the last label of a program and a long distance.)
abbrev pub stands_for : ℕ → Symbol → Bool
stands_for address symbol = is_written symbol.name && (is_placed symbol.scope || symbol.value == address)

-- an address by its nearest symbol and the distance from it, if that symbol may stand for it; otherwise in octal
abbrev pub text_by : Option Symbol → ℕ → Bytes
text_by None address = number_text address
text_by (Some symbol) address = if stands_for address symbol then name_from symbol address else number_text address

-- an address as an operand shows it
abbrev pub address_text : List Symbol → ℕ → Bytes
address_text symbols address = text_by (nearest address symbols) address

-- the text is a symbol of the list, and `+` and a distance in octal unless it is 0, which together are the address; or it is the address in
-- octal
abbrev pub ShowsAddress : List Symbol → ℕ → Bytes → Type 0
ShowsAddress symbols address text = ((symbol : Symbol) × (distance : ℕ) × IsNearest address symbols (Some symbol)
    × (symbol.value + distance ≡ address) × (text ≡ bare_name (name_text symbol.name) ++ distance_text distance))
    ⊎ (text ≡ number_text address)

-- ---- the address of a name

-- a symbol has this name, as it is written
abbrev pub is_called : Bytes → Symbol → Bool
is_called name symbol = bytes_eq (bare_name (name_text symbol.name)) name

-- the value of the first symbol with this name; None if no symbol has it
abbrev pub value_named : Bytes → List Symbol → Option ℕ
value_named name [] = None
value_named name (symbol ∷ symbols) = if is_called name symbol then Some symbol.value else value_named name symbols
