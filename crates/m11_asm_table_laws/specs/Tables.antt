-- A table that records what the lines before it say, and nothing else. (MACRO-11 Language Reference Manual, "Symbols", "Local symbols",
-- "Current location counter" and "Program section directives".)
use Rattle.std.specs.Prelude.{◌≡◌, []}
use Rattle.indexmap.specs.IndexSet.{insert_all}
use Rattle.m11_base.specs.Rad50.{is_same_name}
use Rattle.m11_asm_rules.specs.Definitions.{has_key}
use Rattle.m11_asm_rules.specs.History.{SaysWhatTheySaid}
use Rattle.m11_asm_rules.specs.Tables.{Table}
use Rattle.m11_asm_rules.specs.declared.definitions.Key.{Key}
use Rattle.m11_asm_rules.specs.declared.modes.Modes.{Modes}
use Rattle.m11_asm_table_laws.specs.Places.{Place, number}
use Rattle.m11_asm_table_laws.specs.Said.{Said, block, counted, is_doubly_defined}

-- the modes at a place
abbrev pub modes_at : Place → Said → Modes
modes_at place said = record {
  section = number place;
  block = block place said;
  radix = place.radix;
  listed = counted place.listed;
  unlisted = counted place.unlisted;
  shows_expansions = place.shows_expansions;
}

pub record Records (place : Place) (said : Said) (table : Table) : Type 0 where
  -- the last definition of each key, and the counter and the size of each section
  pub says : SaysWhatTheySaid said.definitions said.moves table
  pub doubly_defined : (key : Key) → has_key key table.doubly_defined ≡ is_doubly_defined key said
  -- the global names, each once
  pub globals : table.globals ≡ insert_all is_same_name [] said.globals
  pub sections : table.sections ≡ place.sections
  pub modes : table.modes ≡ modes_at place said
