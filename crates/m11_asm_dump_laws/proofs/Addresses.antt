-- Addresses as they are written: each is one token, the name of a symbol or a number, and has the address as its value.
use Rattle.std.proofs.Common.{◌≡◌, ◌∙◌, ℕ, ◌+◌, ◌-◌, ◌≤◌, ◌<◌, Bool, true, false, ◌&&◌, ◌||◌, List, [], ◌∷◌, ◌++◌, length, Option, Some, None, option_map, refl, sym, ap, ap₂, subst, arith, append-nil}
use Rattle.std.specs.Prelude.{◌==◌, if◌then◌else◌, nat_le, unwrap_or}
use Rattle.std.specs.List.{AllByRecursion}
use Rattle.std.proofs.lemmas.Bool.{and_parts, eqb-true}
use Rattle.std.proofs.lemmas.List.{length-append}
use Rattle.m11_base.specs.Devices.{Bytes}
use Rattle.m11_base.specs.Rad50.{name_text}
use Rattle.m11_base_disassembly.specs.Names.{bare_name, is_written}
use Rattle.m11_base_disassembly.specs.Numbers.{distance_text, number_text}
use Rattle.m11_base_disassembly.specs.Symbols.{address_text, goes_before, is_placed, name_from, nearer, nearest, reaches, stands_for, text_by}
use Rattle.m11_base_disassembly.specs.declared.symbols.Scope.{Scope}
use Rattle.m11_base_disassembly.specs.declared.symbols.Scope.TheVariants.{Unknown}
use Rattle.m11_base_disassembly.specs.declared.symbols.Symbol.{Symbol}
use Rattle.m11_scan.specs.declared.sort.Sort.{Sort}
use Rattle.m11_scan.specs.declared.sort.Sort.TheVariants as sorts
use Rattle.m11_scan_expressions.specs.Expressions.{KnownSymbols, value}
use Rattle.m11_scan_expressions.specs.Kinds.{is_register}
use Rattle.m11_scan_expressions.specs.Quantities.{Quantity, absolute, missing}
use Rattle.m11_scan_expressions.specs.Terms.{name_symbol}
use Rattle.m11_scan_expressions.specs.Tokens.{Expression}
use Rattle.m11_scan_expressions.specs.Values.{value_of}
use Rattle.m11_scan_expressions.specs.declared.names.Symbol.TheVariants.{Ordinary}
use Rattle.m11_asm_dump_laws.specs.Knowledge.{IsSpelled, KnowsNames, TakesNoRegister}
use Rattle.m11_asm_dump_laws.specs.Operands.{address_written, name_written, number_written, single, written_by}
use Rattle.m11_asm_dump_laws.proofs.Digits.{number_width}
use Rattle.m11_asm_dump_laws.proofs.FirstTokens.{digits_begin}
use Rattle.m11_asm_dump_laws.proofs.Quantities.{number_value}
use Rattle.m11_asm_dump_laws.proofs.RowNames.{bare_parts, spaces}
use Rattle.m11_asm_dump_laws.proofs.Tokens.{Begins, Stops, name_begins}

-- ---- the symbol that is found

-- P of the symbol that was found, if one was
abbrev pub OfFound : (Symbol → Type 0) → Option Symbol → Type 0
OfFound P None = Unit {0}
OfFound P (Some symbol) = P symbol

module _ (P : Symbol → Type 0) where
  either_of : (b : Bool) (one other : Option Symbol) → OfFound P one → OfFound P other → OfFound P (if b then one else other)
  either_of true one other is also = is
  either_of false one other is also = also

  nearer_of : (address : ℕ) (symbol : Symbol) (found : Option Symbol) → P symbol → OfFound P found → OfFound P (nearer address symbol found)
  nearer_of address symbol None is all = either_of (reaches address symbol) (Some symbol) None is tt
  nearer_of address symbol (Some other) is all =
      either_of (reaches address symbol && goes_before symbol other) (Some symbol) (Some other) is all

  pub nearest_of : (address : ℕ) (symbols : List Symbol) → AllByRecursion P symbols → OfFound P (nearest address symbols)
  nearest_of address [] all = tt
  nearest_of address (symbol ∷ symbols) all =
      nearer_of address symbol (nearest address symbols) all.0 (nearest_of address symbols all.1)

-- a symbol whose scope is unknown stands for its value alone
value_by : (written is : Bool) (scope : Scope) → scope ≡ Unknown → (written && (is_placed scope || is)) ≡ true → is ≡ true
value_by written is scope unknown stands =
    ap (λ (s : Scope). is_placed s || is) (sym unknown) ∙ (and_parts written (is_placed scope || is) stands).1

pub own_value : (address : ℕ) (symbol : Symbol) → IsSpelled symbol → stands_for address symbol ≡ true → symbol.value ≡ address
own_value address symbol is stands =
    eqb-true symbol.value address (value_by (is_written symbol.name) (symbol.value == address) symbol.scope is.alone stands)

no_distance : (address value_ : ℕ) → value_ ≡ address → address - value_ ≡ 0
no_distance address value_ e = omega (arith, e)

pub bare_text : (address : ℕ) (symbol : Symbol) → symbol.value ≡ address → name_from symbol address ≡ bare_name (name_text symbol.name)
bare_text address symbol is =
    ap (λ n. bare_name (name_text symbol.name) ++ distance_text n) (no_distance address symbol.value is)
    ∙ append-nil (bare_name (name_text symbol.name))

-- ---- one token

-- a name, or a number
abbrev pub term_sort : Bool → Sort
term_sort true = sorts.Name
term_sort false = sorts.Number

-- a text is one token, a name or a number, and this expression
pub record IsToken (text : Bytes) (expression : Expression) : Type 0 where
  pub is_name : Bool
  pub written : expression ≡ single (term_sort is_name) text
  pub begins : (rest : Bytes) → Stops rest → Begins (term_sort is_name) text rest
  pub short : length text ≤ 6

number_token : (number : ℕ) → IsToken (number_text number) (number_written number)
number_token number = record {
  is_name = false;
  written = refl;
  begins = λ rest stops. digits_begin number rest stops;
  short = number_width number;
}

pub bare_short : (symbol : Symbol) → length (bare_name (name_text symbol.name)) ≤ 6
bare_short symbol =
    let name : Bytes = name_text symbol.name in
    let e = ap length (bare_parts name) in let f = length-append (bare_name name) (spaces name) in omega (arith, e, f)

name_token : (address : ℕ) (symbol : Symbol) → IsSpelled symbol → symbol.value ≡ address
    → IsToken (name_from symbol address) (name_written symbol)
name_token address symbol is own =
    let bare : Bytes = bare_name (name_text symbol.name) in
    let P : Bytes → Type 0 = λ text. IsToken text (name_written symbol) in
    subst P (sym (bare_text address symbol own)) (record {
      is_name = true;
      written = refl;
      begins = λ rest stops. name_begins bare rest is.is_name stops;
      short = bare_short symbol;
    })

token_if : (address : ℕ) (symbol : Symbol) → IsSpelled symbol → (b : Bool) → stands_for address symbol ≡ b
    → IsToken (if b then name_from symbol address else number_text address) (if b then name_written symbol else number_written address)
token_if address symbol is true stands = name_token address symbol is (own_value address symbol is stands)
token_if address symbol is false stands = number_token address

token_by : (address : ℕ) (found : Option Symbol) → OfFound IsSpelled found → IsToken (text_by found address) (written_by found address)
token_by address None is = number_token address
token_by address (Some symbol) is = token_if address symbol is (stands_for address symbol) refl

pub address_token : (symbols : List Symbol) → AllByRecursion IsSpelled symbols → (address : ℕ)
    → IsToken (address_text symbols address) (address_written symbols address)
address_token symbols all address = token_by address (nearest address symbols) (nearest_of IsSpelled address symbols all)

-- ---- the value

-- a symbol that a source can define has its value where these are known
pub name_value : (known : KnownSymbols) (symbol : Symbol)
    → value known (name_written symbol)
    ≡ unwrap_or (option_map known.value_of_symbol (name_symbol (bare_name (name_text symbol.name)))) missing
unfolding value_of
name_value known symbol = refl

named_value : (known : KnownSymbols) (symbol : Symbol) → IsSpelled symbol
    → value known (name_written symbol) ≡ known.value_of_symbol (Ordinary symbol.name)
named_value known symbol is =
    name_value known symbol ∙ ap (λ s. unwrap_or (option_map known.value_of_symbol s) missing) is.spelled

-- each symbol of a list is spelled, and P holds of its value
abbrev Valued : (Symbol → Quantity → Type 0) → KnownSymbols → Symbol → Type 0
Valued P known symbol = IsSpelled symbol × P symbol (known.value_of_symbol (Ordinary symbol.name))

both : (P Q : Symbol → Type 0) (symbols : List Symbol) → AllByRecursion P symbols → AllByRecursion Q symbols
    → AllByRecursion (λ symbol. P symbol × Q symbol) symbols
both P Q [] one other = tt
both P Q (symbol ∷ symbols) one other = ((one.0, other.0), both P Q symbols one.1 other.1)

module _ (known : KnownSymbols) (address : ℕ) where
  value_if : (symbol : Symbol) → IsSpelled symbol → known.value_of_symbol (Ordinary symbol.name) ≡ absolute symbol.value 0
      → value known (number_written address) ≡ absolute address 0 → (b : Bool) → stands_for address symbol ≡ b
      → value known (if b then name_written symbol else number_written address) ≡ absolute address 0
  value_if symbol is has number true stands =
      named_value known symbol is ∙ has ∙ ap (λ n. absolute n 0) (own_value address symbol is stands)
  value_if symbol is has number false stands = number

  value_found : (found : Option Symbol)
      → OfFound (λ symbol. IsSpelled symbol × (known.value_of_symbol (Ordinary symbol.name) ≡ absolute symbol.value 0)) found
      → value known (number_written address) ≡ absolute address 0 → value known (written_by found address) ≡ absolute address 0
  value_found None is number = number
  value_found (Some symbol) is number = value_if symbol is.0 is.1 number (stands_for address symbol) refl

  -- the kind of a value isn't that of a register
  abbrev IsNone : Quantity → Type 0
  IsNone found = is_register found.kind ≡ false

  kind_if : (symbol : Symbol) → IsSpelled symbol → IsNone (known.value_of_symbol (Ordinary symbol.name))
      → IsNone (value known (number_written address)) → (b : Bool)
      → IsNone (value known (if b then name_written symbol else number_written address))
  kind_if symbol is none number true = subst IsNone (sym (named_value known symbol is)) none
  kind_if symbol is none number false = number

  kind_found : (found : Option Symbol)
      → OfFound (λ symbol. IsSpelled symbol × IsNone (known.value_of_symbol (Ordinary symbol.name))) found
      → IsNone (value known (number_written address)) → IsNone (value known (written_by found address))
  kind_found None is number = number
  kind_found (Some symbol) is number = kind_if symbol is.0 is.1 number (stands_for address symbol)

module _ (symbols : List Symbol) (spelled : AllByRecursion IsSpelled symbols) (address : ℕ) (below : address < 65536) where
  pub address_value : (known : KnownSymbols) → KnowsNames symbols known
      → value known (address_written symbols address) ≡ absolute address 0
  address_value known knows =
      let P : Symbol → Type 0 = λ symbol. known.value_of_symbol (Ordinary symbol.name) ≡ absolute symbol.value 0 in
      let Q : Symbol → Type 0 = λ symbol. IsSpelled symbol × P symbol in
      value_found known address (nearest address symbols) (nearest_of Q address symbols (both IsSpelled P symbols spelled knows.names))
      (number_value known address knows.registers below)

  pub address_kind : (firm : KnownSymbols) → TakesNoRegister symbols firm
      → is_register (value firm (address_written symbols address)).kind ≡ false
  address_kind firm knows =
      let P : Symbol → Type 0 = λ symbol. is_register (firm.value_of_symbol (Ordinary symbol.name)).kind ≡ false in
      let Q : Symbol → Type 0 = λ symbol. IsSpelled symbol × P symbol in
      kind_found firm address (nearest address symbols) (nearest_of Q address symbols (both IsSpelled P symbols spelled knows.names))
      (ap (λ (q : Quantity). is_register q.kind) (number_value firm address knows.registers below))
