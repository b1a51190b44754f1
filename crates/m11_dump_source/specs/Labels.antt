-- The symbols of a source: the names that are given for it, and a name for each other address that an operand names and where a line begins.
-- (MACRO-11 Language Reference Manual, "Symbols" and "Permanent symbol table". The form of the names that are made is this project's own.)
use Rattle.std.specs.Prelude.{ℕ, ◌==◌, ◌&&◌, not, nat_le, nat_lt, Bool, true, if◌then◌else◌, List, [], ◌∷◌, ◌++◌, Option, Some, None, codes, drop, filter, is_none, slice_index}
use Rattle.std.specs.List.{flat_map, list_all, list_any}
use Rattle.std.specs.Str.{bytes_eq}
use Rattle.m11_base.specs.Devices.{Bytes}
use Rattle.m11_base.specs.Octal.{octal_text}
use Rattle.m11_base.specs.Rad50.{Name, is_same_name, name_of, name_text}
use Rattle.m11_base_disassembly.specs.Names.{bare_name}
use Rattle.m11_base_disassembly.specs.OperandAddresses.{addresses_of}
use Rattle.m11_base_disassembly.specs.Symbols.{value_named}
use Rattle.m11_base_disassembly.specs.declared.symbols.Scope.TheVariants.{Unknown}
use Rattle.m11_base_disassembly.specs.declared.symbols.Symbol.{Symbol}
use Rattle.m11_dump_source.specs.Lines.{statement_in}
use Rattle.m11_dump_source.specs.declared.lines.Line.{Line}

-- ---- names that a source can define

abbrev pub are_spaces : Bytes → Bool
are_spaces characters = list_all (λ character. character == 32) characters

-- these are characters of a symbol, and then only spaces. (In RADIX-50 `%` stands for a code that no character has.)
abbrev pub is_padded : Bytes → Bool
is_padded [] = true
is_padded (character ∷ characters) =
    if character == 32 then are_spaces characters else not (character == 37) && is_padded characters

abbrev pub is_digit : ℕ → Bool
is_digit character = nat_le 48 character && nat_le character 57

-- the location counter and the registers
abbrev pub reserved : List Bytes
reserved = codes "." ∷ codes "R0" ∷ codes "R1" ∷ codes "R2" ∷ codes "R3" ∷ codes "R4" ∷ codes "R5" ∷ codes "SP" ∷ codes "PC" ∷ []

-- these six characters are a symbol that a source may define: it begins with neither a space nor a digit, and has no other meaning
abbrev pub is_definable : Bytes → Bool
is_definable characters = not (slice_index characters 0 == 32) && not (is_digit (slice_index characters 0)) && is_padded characters
    && not (list_any (bytes_eq (bare_name characters)) reserved)

-- ---- the names that are given

-- a symbol that names its own value alone
abbrev pub named : Name → ℕ → Symbol
named name value = record { name = name; value = value; scope = Unknown }

-- none of these symbols has this name
abbrev pub is_free : List Symbol → Name → Bool
is_free kept name = is_none (value_named (bare_name (name_text name)) kept)

-- the symbol can be defined beside these
abbrev pub is_new : List Symbol → Symbol → Bool
is_new kept symbol = is_definable (name_text symbol.name) && is_free kept symbol.name

-- the symbols of a list that can be defined, after these of it; of those with one name the first
abbrev pub kept_after : List Symbol → List Symbol → List Symbol
kept_after kept [] = kept
kept_after kept (symbol ∷ symbols) =
    if is_new kept symbol then kept_after (kept ++ named symbol.name symbol.value ∷ []) symbols else kept_after kept symbols

abbrev pub kept_of : List Symbol → List Symbol
kept_of symbols = kept_after [] symbols

-- ---- the names that are left out

-- one of these has the symbol's name and its value
abbrev pub is_kept : List Symbol → Symbol → Bool
is_kept kept symbol = list_any (λ other. is_same_name other.name symbol.name && other.value == symbol.value) kept

-- the symbols of a list of which none of these has the name and the value
abbrev pub left_by : List Symbol → List Symbol → List Symbol
left_by kept symbols = filter (λ symbol. not (is_kept kept symbol)) symbols

-- the symbols that are given, but whose values the source doesn't say: no symbol that is kept has both their name and their value
abbrev pub left_out : List Symbol → List Symbol
left_out symbols = left_by (kept_of symbols) symbols

-- ---- the names that are made

-- the addresses that the operands of a line name
abbrev pub addresses_in : Line → List ℕ
addresses_in line = addresses_of (statement_in line)

-- the transfer address, and the addresses that operands name
abbrev pub targets : ℕ → List Line → List ℕ
targets start lines = start ∷ flat_map addresses_in lines

-- the characters of a name that is made for an address: `L`, or `U` in the upper half of memory, and the last five digits of the address
abbrev pub made_characters : ℕ → Bytes
made_characters address = (if nat_lt address 0o100000 then 76 else 85) ∷ drop 1 (octal_text address)

-- a symbol has this value
abbrev pub has_value : List Symbol → ℕ → Bool
has_value symbols address = list_any (λ symbol. symbol.value == address) symbols

-- an address is one of these
abbrev pub is_among : List ℕ → ℕ → Bool
is_among addresses at = list_any (λ address. address == at) addresses

-- the symbol with the name that is made for an address, unless another symbol has this name
abbrev pub made_by : List Symbol → ℕ → Option Name → List Symbol
made_by kept address None = []
made_by kept address (Some name) = if is_free kept name then named name address ∷ [] else []

-- the symbol that is made for a line, if its address is a target and no symbol that is given has this value
abbrev pub made_if : List Symbol → Bool → Line → List Symbol
made_if kept is_target line =
    if is_target && not (has_value kept line.address) then made_by kept line.address (name_of (made_characters line.address)) else []

abbrev pub made_for : List Symbol → List ℕ → Line → List Symbol
made_for kept named_addresses line = made_if kept (is_among named_addresses line.address) line

-- all symbols of the source of these lines, with this transfer address
abbrev pub symbols_in : List Symbol → ℕ → List Line → List Symbol
symbols_in kept start lines = kept ++ flat_map (made_for kept (targets start lines)) lines
