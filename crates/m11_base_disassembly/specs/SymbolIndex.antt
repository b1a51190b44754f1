-- An index of a list of symbols: for each address the place of its nearest symbol. (This project's own; docs/VIEWS.md, "Names of addresses".)
use Rattle.std.specs.Prelude.{◌≡◌, ℕ, ◌<◌, ◌&&◌, Bool, true, false, nat_le, not, min, List, length, Option, Some, None, get_or}
use Rattle.std.specs.List.{slice_get}
use Rattle.m11_base_disassembly.specs.Symbols.{goes_before, nearest}
use Rattle.m11_base_disassembly.specs.declared.symbols.Scope.{Scope}
use Rattle.m11_base_disassembly.specs.declared.symbols.Scope.TheVariants.{Unknown, Label, Section}
use Rattle.m11_base_disassembly.specs.declared.symbols.Symbol.{Symbol}

-- ---- what an index finds

-- the symbol of a list at the place that an index has for an address; None if the index has no such address, or the list no such place
abbrev pub found : List Symbol → List ℕ → ℕ → Option Symbol
found list places address = slice_get list (get_or places address (length list))

-- for each address the index finds in a list the nearest one of these symbols
abbrev pub Finds : List Symbol → List ℕ → List Symbol → Type 0
Finds list places symbols = (address : ℕ) → address < 65536 → found list places address ≡ nearest address symbols

-- ---- how a symbol is entered, after all symbols after it

-- the end of the addresses that a symbol may name: the first one after them
abbrev pub end_of : Scope → ℕ
end_of Unknown = 65536
end_of (Label end) = min 65536 end
end_of (Section end) = min 65536 end

-- a symbol that may name an address is put in place of the one that was found there among the symbols after it
abbrev pub takes : Symbol → Option Symbol → Bool
takes symbol None = true
takes symbol (Some other) = goes_before symbol other

-- the one that was found among the symbols after it goes before it and reaches as far, so it names no further address
abbrev pub is_over : Symbol → Option Symbol → Bool
is_over symbol None = false
is_over symbol (Some other) = not (goes_before symbol other) && nat_le (end_of symbol.scope) (end_of other.scope)
