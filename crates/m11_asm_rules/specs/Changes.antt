-- The change to the table that a line makes after its labels. (MACRO-11 Language Reference Manual, "Current location counter", "Program
-- section directives", "Direct assignment statements", ".GLOBL directive", "Radix control" and "Listing control directives".)
use Rattle.std.specs.Prelude.{ℕ, ◌+◌, ◌%◌, ◌&&◌, max, not, Bool, true, List, [], ◌∷◌, ◌++◌, length, slice_set, Option, Some, None, unwrap_or}
use Rattle.indexmap.specs.IndexSet.{insert_all}
use Rattle.m11_base.specs.Rad50.{Name, is_same_name}
use Rattle.m11_scan_expressions.specs.declared.kinds.Kind.TheVariants.{Absolute}
use Rattle.m11_asm_rules.specs.Assignments.{assigned, with_assigned}
use Rattle.m11_asm_rules.specs.Definitions.{Definition, Known, Named, is_labelled}
use Rattle.m11_scan_expressions.specs.Tokens.{Expression}
use Rattle.m11_asm_rules.specs.Labels.{global_if, one_more}
use Rattle.m11_asm_rules.specs.Meanings.{Map}
use Rattle.m11_asm_rules.specs.Locations.{Goes, Move, Steps}
use Rattle.m11_asm_rules.specs.Sections.{number_of, section}
use Rattle.m11_asm_rules.specs.Tables.{Modes, Table, location, size_of}

pub data Change : Type 0 where
  -- no change
  Keeps : Change
  -- moves the location counter on, or sets it
  Counts : Move → Change
  -- selects a section; a new one gets these attributes
  Selects : Name → ℕ → Change
  -- assigns an expression to a name, and makes the name global if the flag is true
  Assigns : Name → Bool → Expression → Change
  -- assigns to a name a number that depends on no other name, as `.NARG` and `.NCHR` do
  Numbers : Name → ℕ → Change
  -- makes names global
  Exports : List Name → Change
  -- sets the modes: the radix, the listing levels or the listing of expansions
  Sets : Modes → Change

-- ---- the location counter

-- a location counter after a move, modulo 65536
abbrev pub moved : Move → ℕ → ℕ
moved (Steps size) location = (location + size) % 65536
moved (Goes location) before = location % 65536

-- the table with the location counter of the current section set, and the section's size raised to at least that location
abbrev pub with_location : ℕ → Table → Table
with_location new table = record table {
  counters = slice_set table.counters table.modes.section new;
  sizes = slice_set table.sizes table.modes.section (max (size_of table.modes.section table) new);
}

abbrev pub with_move : Move → Table → Table
with_move move table = with_location (moved move (location table)) table

-- ---- sections

-- the sections, their counters or their sizes, with one more item for a section that has no number yet
abbrev pub with_new : {A : Type 0} → Option ℕ → A → List A → List A
with_new (Some number) new items = items
with_new None new items = items ++ new ∷ []

-- the modes once the section with this number is selected and a new block of local symbols has begun
abbrev pub in_number : ℕ → Modes → Modes
in_number number modes = record modes { section = number; block = one_more modes.block }

-- the table after a section is selected: the section with this name, or else a new one, which comes last
abbrev pub with_section : Name → ℕ → Table → Table
with_section name attributes table = record table {
  sections = with_new (number_of name table.sections) (section name attributes) table.sections;
  counters = with_new (number_of name table.sections) 0 table.counters;
  sizes = with_new (number_of name table.sections) 0 table.sizes;
  modes = in_number (unwrap_or (number_of name table.sections) (length table.sections)) table.modes;
}

-- ---- assignments

-- whether an assignment makes its name global: the flag is true, and the name isn't a label's
abbrev pub becomes_global : Bool → Name → Table → Bool
becomes_global is_global name table = is_global && not (is_labelled (Named name) table.definitions)

abbrev pub with_value : Name → Bool → Definition → Table → Table
with_value name is_global definition table =
    global_if (becomes_global is_global name table) name (with_assigned (Named name) definition table)

-- the definition of a name as an absolute number, which is always firm
abbrev pub numbered : ℕ → Definition
numbered number = record { standing = Known number Absolute; is_firm = true; label = None }

-- ---- the table after a change

abbrev pub with_globals : List Name → Table → Table
with_globals names table = record table { globals = insert_all is_same_name table.globals names }

abbrev pub with_modes : Modes → Table → Table
with_modes modes table = record table { modes = modes }

abbrev pub changed : Map → Change → Table → Table
changed map Keeps table = table
changed map (Counts move) table = with_move move table
changed map (Selects name attributes) table = with_section name attributes table
changed map (Assigns name is_global tokens) table = with_value name is_global (assigned map table tokens) table
changed map (Numbers name number) table = with_assigned (Named name) (numbered number) table
changed map (Exports names) table = with_globals names table
changed map (Sets modes) table = with_modes modes table
