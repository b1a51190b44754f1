-- Definitions of names and local symbols. (MACRO-11 Language Reference Manual, "Symbols", "Direct assignment statements", "Label field"
-- and "Local symbols". This project's own: a further definition of a label's name only makes the name doubly defined; and definitions are
-- firm or not.)
use Rattle.std.specs.Prelude.{ℕ, ◌==◌, ◌&&◌, Bool, true, false, List, [], ◌∷◌, map, codes, Option, None, if◌then◌else◌}
use Rattle.std.specs.List.{list_any}
use Rattle.std.specs.Map.{lookup}
use Rattle.std.specs.Option.{is_some, option_and_then}
use Rattle.indexmap.specs.IndexMap.{insert_all, insert_entry}
use Rattle.indexmap.specs.IndexSet.{insert_key}
use Rattle.m11_base.specs.Names.{name_in_words}
use Rattle.m11_base.specs.Rad50.{Name, is_same_name}
use Rattle.m11_scan_expressions.specs.declared.kinds.Kind.TheVariants.{Register}
pub use Rattle.m11_asm_rules.specs.declared.definitions.Definition.{Definition}
pub use Rattle.m11_asm_rules.specs.declared.definitions.Key.{Key}
pub use Rattle.m11_asm_rules.specs.declared.definitions.Key.TheVariants.{Named, Numbered}
pub use Rattle.m11_asm_rules.specs.declared.definitions.Standing.{Standing}
pub use Rattle.m11_asm_rules.specs.declared.definitions.Standing.TheVariants.{Known, Unknown}

-- whether two local symbols are the same: they have the same block and the same number
abbrev pub is_same_symbol : ℕ × ℕ → ℕ × ℕ → Bool
is_same_symbol one other = (one.0 == other.0) && (one.1 == other.1)

abbrev pub is_same : Key → Key → Bool
is_same (Named one) (Named other) = is_same_name one other
is_same (Named one) (Numbered block number) = false
is_same (Numbered block number) (Named other) = false
is_same (Numbered block number) (Numbered other_block other) = is_same_symbol (block, number) (other_block, other)

-- ---- the last definition of each name and each local symbol, in the order of their first definitions

pub record Definitions : Type 0 where
  pub names : List (Name × Definition)
  pub local_symbols : List ((ℕ × ℕ) × Definition)

abbrev pub no_definitions : Definitions
no_definitions = record { names = []; local_symbols = [] }

-- the last definition of a key, if it has one
abbrev pub last_definition : Key → Definitions → Option Definition
last_definition (Named name) definitions = lookup (is_same_name name) definitions.names
last_definition (Numbered block number) definitions = lookup (is_same_symbol (block, number)) definitions.local_symbols

abbrev pub is_defined : Key → Definitions → Bool
is_defined key definitions = is_some (last_definition key definitions)

-- the definitions after a further one, which is now the last definition of the key
abbrev pub with_last : Key → Definition → Definitions → Definitions
with_last (Named name) definition definitions =
    record definitions { names = insert_entry is_same_name definitions.names name definition }
with_last (Numbered block number) definition definitions =
    record definitions { local_symbols = insert_entry is_same_symbol definitions.local_symbols (block, number) definition }

-- whether there is a definition, and it is a label's
abbrev pub is_of_label : Option Definition → Bool
is_of_label found = is_some (option_and_then (λ (definition : Definition). definition.label) found)

-- whether the last definition of a key is a label's, which no later line replaces
abbrev pub is_labelled : Key → Definitions → Bool
is_labelled key definitions = is_of_label (last_definition key definitions)

-- ---- the firm parts of definitions

abbrev pub firm_standing : Bool → Standing → Standing
firm_standing is_firm standing = if is_firm then standing else Unknown

abbrev pub firm_part : Definition → Definition
firm_part definition = record definition { standing = firm_standing definition.is_firm definition.standing }

abbrev pub firm_entry : {A : Type 0} → A × Definition → A × Definition
firm_entry entry = (entry.0, firm_part entry.1)

abbrev pub firm_parts : Definitions → Definitions
firm_parts definitions =
    record { names = map firm_entry definitions.names; local_symbols = map firm_entry definitions.local_symbols }

-- ---- keys, each once

pub record Keys : Type 0 where
  pub names : List Name
  pub local_symbols : List (ℕ × ℕ)

abbrev pub no_keys : Keys
no_keys = record { names = []; local_symbols = [] }

abbrev pub has_key : Key → Keys → Bool
has_key (Named name) keys = list_any (is_same_name name) keys.names
has_key (Numbered block number) keys = list_any (is_same_symbol (block, number)) keys.local_symbols

abbrev pub with_one : Key → Keys → Keys
with_one (Named name) keys = record keys { names = insert_key is_same_name keys.names name }
with_one (Numbered block number) keys =
    record keys { local_symbols = insert_key is_same_symbol keys.local_symbols (block, number) }

-- ---- the names of the registers, as if they were assigned before the first line

abbrev pub register : ℕ → Definition
register number = record { standing = Known number Register; is_firm = true; label = None }

abbrev pub registers : List (Name × Definition)
registers =
    (name_in_words (codes "R0    "), register 0)
    ∷ (name_in_words (codes "R1    "), register 1)
    ∷ (name_in_words (codes "R2    "), register 2)
    ∷ (name_in_words (codes "R3    "), register 3)
    ∷ (name_in_words (codes "R4    "), register 4)
    ∷ (name_in_words (codes "R5    "), register 5)
    ∷ (name_in_words (codes "SP    "), register 6)
    ∷ (name_in_words (codes "PC    "), register 7)
    ∷ []

abbrev pub first_definitions : Definitions
first_definitions = record { names = insert_all is_same_name [] registers; local_symbols = [] }
