-- Firm names have the same values under every map.
use Rattle.std.proofs.Common.{◌≡◌, ◌∙◌, ℕ, Bool, true, false, cond, List, [], ◌∷◌, map, Option, Some, None, refl, sym, ap, true≢false}
use Rattle.std.specs.Map.{lookup}
use Rattle.m11_scan_expressions.specs.Tokens.{Expression}
use Rattle.m11_base.specs.Rad50.{is_same_name}
use Rattle.m11_scan_expressions.specs.Expressions as expressions
use Rattle.m11_scan_expressions.proofs.Meanings.{atom_agrees, first_agrees, others_agree, with_atom}
use Rattle.m11_scan_expressions.specs.declared.names.Symbol.{Symbol}
use Rattle.m11_scan_expressions.specs.declared.names.Symbol.TheVariants.{Ordinary, Local, Counter}
use Rattle.m11_scan_expressions.specs.Quantities.{Quantity}
use Rattle.m11_scan_expressions.specs.Symbols.{AgreeOn}
use Rattle.m11_scan_expressions.specs.Terms.{plain_item, Atom, Item, atom_of, symbol_in}
use Rattle.m11_scan_expressions.specs.Values.{value_of}
use Rattle.m11_asm_rules.specs.Definitions.{Definition, Definitions, Key, Keys, Named, Numbered, firm_entry, firm_part, firm_parts, is_same_symbol, last_definition}
use Rattle.m11_asm_rules.specs.Meanings.{AreFirm, Context, LocalOnly, Map, defined_or, empty_map, firm_known, is_firm, is_firm_in, known_at, value_of_symbol, undefined}
use Rattle.m11_asm_rules.specs.Tables.{Table, firm_table}

-- ---- symbols

abbrev pub firm_option : Option Definition → Option Definition
firm_option (Some definition) = Some (firm_part definition)
firm_option None = None

found_firm : {A : Type 0} (test : A → Bool) (entries : List (A × Definition))
    → lookup test (map firm_entry entries) ≡ firm_option (lookup test entries)
found_firm test [] = refl
found_firm test (entry ∷ entries) = by (test entry.0) (found_firm test entries)
  where
    by : (b : Bool) → lookup test (map firm_entry entries) ≡ firm_option (lookup test entries)
        → cond b (Some (firm_part entry.1)) (lookup test (map firm_entry entries)) ≡ firm_option (cond b (Some entry.1) (lookup test entries))
    by true others = refl
    by false others = others

pub last_firm : (key : Key) (definitions : Definitions)
    → last_definition key (firm_parts definitions) ≡ firm_option (last_definition key definitions)
last_firm (Named name) definitions = found_firm (is_same_name name) definitions.names
last_firm (Numbered block number) definitions = found_firm (is_same_symbol (block, number)) definitions.local_symbols

firm_alike : (key : Key) (doubly_defined : Keys) (one other : Quantity) (found : Option Definition) → is_firm_in found ≡ true
    → defined_or key doubly_defined one found ≡ defined_or key doubly_defined other (firm_option found)
firm_alike key doubly_defined one other (Some definition) firm = rw firm refl
firm_alike key doubly_defined one other None firm = absurd (true≢false (sym firm))

meaning_alike : (key : Key) (doubly_defined : Keys) (definitions : Definitions) (one other : Quantity)
    → is_firm_in (last_definition key definitions) ≡ true
    → defined_or key doubly_defined one (last_definition key definitions)
    ≡ defined_or key doubly_defined other (last_definition key (firm_parts definitions))
meaning_alike key doubly_defined definitions one other firm =
    rw (last_firm key definitions) (firm_alike key doubly_defined one other (last_definition key definitions) firm)

pub symbol_alike : (map : Map) (context : Context) (table : Table) (location : ℕ) (symbol : Symbol) → is_firm table symbol ≡ true
    → value_of_symbol map context table location symbol ≡ value_of_symbol empty_map LocalOnly (firm_table table) location symbol
symbol_alike map context table location (Ordinary name) firm =
    meaning_alike (Named name) table.doubly_defined table.definitions
    (defined_or (Named name) map.doubly_defined (undefined context (Ordinary name)) (last_definition (Named name) map.definitions))
    (undefined LocalOnly (Ordinary name)) firm
symbol_alike map context table location (Local number) firm =
    meaning_alike (Numbered table.modes.block number) table.doubly_defined table.definitions
    (defined_or (Numbered table.modes.block number) map.doubly_defined (undefined context (Local number))
    (last_definition (Numbered table.modes.block number) map.definitions))
    (undefined LocalOnly (Local number)) firm
symbol_alike map context table location Counter firm = refl

symbols_alike : (map : Map) (context : Context) (table : Table) (location : ℕ) (symbols : List Symbol) → AreFirm table symbols
    → AgreeOn symbols (value_of_symbol map context table location) (value_of_symbol empty_map LocalOnly (firm_table table) location)
symbols_alike map context table location [] firm = tt
symbols_alike map context table location (symbol ∷ symbols) firm =
    (symbol_alike map context table location symbol firm.0, symbols_alike map context table location symbols firm.1)

-- ---- expressions

items_agree : (first second : Symbol → Quantity) (tokens : Expression) → AgreeOn (expressions.symbols tokens) first second
    → map (plain_item first) tokens ≡ map (plain_item second) tokens
items_agree first second [] agree = refl
items_agree first second (token ∷ tokens) agree =
    let read : Option Symbol = symbol_in token.sort token.text in
    let here : atom_of first token.sort token.text ≡ atom_of second token.sort token.text =
    atom_agrees first second token.sort token.text (first_agrees first second read (expressions.symbols tokens) agree) in
    ap (λ (a : Atom). with_atom token.sort a (map (plain_item first) tokens)) here
    ∙ ap (λ (l : List Item). plain_item second token ∷ l)
    (items_agree first second tokens (others_agree first second read (expressions.symbols tokens) agree))

pub value_alike : (map : Map) (context : Context) (table : Table) (location : ℕ) (tokens : Expression)
    → AreFirm table (expressions.symbols tokens)
    → expressions.value (known_at map context table location) tokens ≡ expressions.value (firm_known table location) tokens
value_alike map context table location tokens firm =
    ap (λ (l : List Item). value_of table.modes.radix l)
    (items_agree (value_of_symbol map context table location) (value_of_symbol empty_map LocalOnly (firm_table table) location) tokens
    (symbols_alike map context table location (expressions.symbols tokens) firm))
