-- An address in an operand is shown by its nearest symbol and the distance from there, or in octal.
use Rattle.std.proofs.Common.{◌≡◌, ℕ, ◌-◌, ◌≤◌, Bool, true, false, List, Option, Some, None, inl, inr, refl, arith}
use Rattle.std.specs.Prelude.{if◌then◌else◌, nat_le}
use Rattle.std.proofs.lemmas.Bool.{and_parts, leb-true}
use Rattle.m11_base_disassembly.specs.Numbers.{number_text}
use Rattle.m11_base_disassembly.specs.Symbols.{IsNearest, ShowsAddress, is_within, name_from, nearest, reaches, stands_for, text_by}
use Rattle.m11_base_disassembly.specs.declared.symbols.Symbol.{Symbol}
use Rattle.m11_base_disassembly.proofs.Nearest.{nearest_is}

-- a symbol that may name an address has no greater value
pub not_above : (address : ℕ) (symbol : Symbol) → reaches address symbol ≡ true → symbol.value ≤ address
not_above address symbol may =
    leb-true symbol.value address (and_parts (nat_le symbol.value address) (is_within address symbol.scope) may).0

module _ (address : ℕ) (symbols : List Symbol) where
  shown_by : (symbol : Symbol) (stands : Bool) → IsNearest address symbols (Some symbol)
      → ShowsAddress symbols address (if stands then name_from symbol address else number_text address)
  shown_by symbol true is = inl (symbol, address - symbol.value, is, omega (arith, not_above address symbol is.3), refl)
  shown_by symbol false is = inr refl

  shown : (found : Option Symbol) → IsNearest address symbols found → ShowsAddress symbols address (text_by found address)
  shown None is = inr refl
  shown (Some symbol) is = shown_by symbol (stands_for address symbol) is

pub address_shown : (address : ℕ) (symbols : List Symbol) → ShowsAddress symbols address (text_by (nearest address symbols) address)
address_shown address symbols = shown address symbols (nearest address symbols) (nearest_is address symbols)
