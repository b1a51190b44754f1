-- Firm assignments are the same under every map.
use Rattle.std.proofs.Common.{◌≡◌, ◌∙◌, Bool, true, false, ◌&&◌, List, [], ◌∷◌, Option, Some, None, refl, sym, ap, true≢false}
use Rattle.m11_scan_expressions.specs.Expressions.{symbols, value}
use Rattle.m11_scan_expressions.specs.Tokens.{Expression}
use Rattle.m11_scan_expressions.specs.declared.names.Symbol.{Symbol}
use Rattle.m11_scan_expressions.specs.declared.names.Symbol.TheVariants.{Ordinary, Local, Counter}
use Rattle.m11_scan_expressions.specs.Quantities.{Quantity}
use Rattle.m11_asm_rules.proofs.NamesByMaps.{firm_option, last_firm, value_alike}
use Rattle.m11_asm_rules.specs.Assignments.{all_firm, assigned, standing_of}
use Rattle.m11_asm_rules.specs.Definitions.{Definition, Named, Numbered, firm_part, firm_standing, last_definition}
use Rattle.m11_asm_rules.specs.Meanings.{AreFirm, LocalOnly, Map, empty_map, firm_known, is_firm, is_firm_in, known_at}
use Rattle.m11_asm_rules.specs.Tables.{Table, firm_table, location}

found_firm : (found : Option Definition) → is_firm_in (firm_option found) ≡ is_firm_in found
found_firm (Some definition) = refl
found_firm None = refl

symbol_firm : (table : Table) (symbol : Symbol) → is_firm (firm_table table) symbol ≡ is_firm table symbol
symbol_firm table (Ordinary name) =
    ap is_firm_in (last_firm (Named name) table.definitions) ∙ found_firm (last_definition (Named name) table.definitions)
symbol_firm table (Local number) =
    ap is_firm_in (last_firm (Numbered table.modes.block number) table.definitions)
    ∙ found_firm (last_definition (Numbered table.modes.block number) table.definitions)
symbol_firm table Counter = refl

all_alike : (table : Table) (symbols : List Symbol) → all_firm (firm_table table) symbols ≡ all_firm table symbols
all_alike table [] = refl
all_alike table (symbol ∷ symbols) = rw (symbol_firm table symbol, all_alike table symbols) refl

first_of : (one other : Bool) → (one && other) ≡ true → one ≡ true
first_of true other both = refl
first_of false other both = absurd (true≢false (sym both))

second_of : (one other : Bool) → (one && other) ≡ true → other ≡ true
second_of true other both = both
second_of false other both = absurd (true≢false (sym both))

are_firm : (table : Table) (symbols : List Symbol) → all_firm table symbols ≡ true → AreFirm table symbols
are_firm table [] all = tt
are_firm table (symbol ∷ symbols) all = (
  first_of (is_firm table symbol) (all_firm table symbols) all,
  are_firm table symbols (second_of (is_firm table symbol) (all_firm table symbols) all),
)

-- the firm part of the definition by an assignment, from whether it is firm and from its value
abbrev kept : Bool → Quantity → Definition
kept firm value = record {
  standing = firm_standing firm (standing_of value);
  is_firm = firm;
  label = None;
}

kept_alike : (firm : Bool) (one other : Quantity) → (firm ≡ true → one ≡ other) → kept firm one ≡ kept firm other
kept_alike true one other same = ap (λ (q : Quantity). kept true q) (same refl)
kept_alike false one other same = refl

-- the same definition, from firm names alone
abbrev from_firm : Table → Expression → Definition
from_firm table tokens =
    kept (all_firm table (symbols tokens)) (value (firm_known table (location table)) tokens)

twice_firm : (table : Table) (tokens : Expression) → AreFirm (firm_table table) (symbols tokens)
    → value (known_at empty_map LocalOnly (firm_table table) (location table)) tokens ≡ value (firm_known (firm_table table) (location table)) tokens
twice_firm table tokens firm = value_alike empty_map LocalOnly (firm_table table) (location table) tokens firm

part_by_firm : (map : Map) (table : Table) (tokens : Expression)
    → firm_part (assigned map table tokens) ≡ from_firm (firm_table table) tokens
part_by_firm map table tokens =
    let read : List Symbol = symbols tokens in
    let same : all_firm (firm_table table) read ≡ all_firm table read = all_alike table read in
    let same_value : all_firm table read ≡ true
    → value (known_at map LocalOnly table (location table)) tokens
    ≡ value (firm_known (firm_table table) (location table)) tokens
    = λ all. value_alike map LocalOnly table (location table) tokens (are_firm table read all)
    ∙ twice_firm table tokens (are_firm (firm_table table) read (same ∙ all)) in
    kept_alike (all_firm table read) (value (known_at map LocalOnly table (location table)) tokens)
    (value (firm_known (firm_table table) (location table)) tokens) same_value
    ∙ ap (λ (b : Bool). kept b (value (firm_known (firm_table table) (location table)) tokens)) (sym same)

pub part_alike : (one other : Map) (first second : Table) (tokens : Expression) → firm_table first ≡ firm_table second
    → firm_part (assigned one first tokens) ≡ firm_part (assigned other second tokens)
part_alike one other first second tokens same =
    part_by_firm one first tokens ∙ ap (λ (t : Table). from_firm t tokens) same
    ∙ sym (part_by_firm other second tokens)
