-- What lines have said: definitions, names that become global, and moves of the location counters, each a list in the order of the lines.
-- (MACRO-11 Language Reference Manual, "Symbols", "Local symbols", "Multiple definition of symbols" and "Current location counter".)
use Rattle.std.specs.Prelude.{ℕ, ◌+◌, ◌-◌, ◌^◌, ◌&&◌, min, Bool, true, false, List, [], ◌∷◌, ◌++◌, Option, Some, count_by}
use Rattle.std.specs.List.{list_any}
use Rattle.m11_base.specs.Rad50.{Name}
use Rattle.m11_asm_rules.specs.Definitions.{first_definitions, is_of_label, is_same, last_definition}
use Rattle.m11_asm_rules.specs.History.{KeyDefinition, defining, last_of}
use Rattle.m11_asm_rules.specs.Locations.{SectionMove, location_in}
use Rattle.m11_asm_rules.specs.declared.definitions.Definition.{Definition}
use Rattle.m11_asm_rules.specs.declared.definitions.Key.{Key}
use Rattle.m11_asm_rules.specs.declared.definitions.Key.TheVariants.{Named, Numbered}
use Rattle.m11_asm_table_laws.specs.Places.{Place, number}

pub record Said : Type 0 where
  -- the definitions by labels and assignments
  pub definitions : List KeyDefinition
  -- the keys of those labels and assignments that define nothing
  pub doubly_defined : List Key
  -- the names that become global
  pub globals : List Name
  -- the moves of the location counters
  pub moves : List SectionMove

abbrev pub nothing_said : Said
nothing_said = record { definitions = []; doubly_defined = []; globals = []; moves = [] }

-- ---- and then

abbrev pub also_defining : Key → Definition → Said → Said
also_defining key definition said = record said { definitions = said.definitions ++ defining key definition ∷ [] }

abbrev pub doubly_defining : Key → Said → Said
doubly_defining key said = record said { doubly_defined = said.doubly_defined ++ key ∷ [] }

abbrev pub exporting : List Name → Said → Said
exporting names said = record said { globals = said.globals ++ names }

abbrev pub moving : List SectionMove → Said → Said
moving moves said = record said { moves = said.moves ++ moves }

-- ---- what has been said of a key

-- its last definition; before any line, the name of a register is defined as the register
abbrev pub last_said : Key → Said → Option Definition
last_said key said = last_of key (last_definition key first_definitions) said.definitions

abbrev pub is_doubly_defined : Key → Said → Bool
is_doubly_defined key said = list_any (is_same key) said.doubly_defined

-- ---- the location and the block at a place

-- the counter of the line's section: the location set last, plus the sizes of the lines since then
abbrev pub location : Place → Said → ℕ
location place said = location_in (number place) said.moves

-- A block of local symbols begins where a label defines a name, and where a section is selected.
abbrev pub is_name : Key → Bool
is_name (Named name) = true
is_name (Numbered in_block number) = false

abbrev pub begins_block : KeyDefinition → Bool
begins_block one = is_name one.key && is_of_label (Some one.definition)

-- a count in 64 bits, which stops at the greatest number
abbrev pub counted : ℕ → ℕ
counted count = min count (2 ^ 64 - 1)

-- the number of the line's block: how many blocks began before it
abbrev pub block : Place → Said → ℕ
block place said = counted (place.selections + count_by begins_block said.definitions)
