-- Labels of a source, and names that sources define for one another. (MACRO-11 Language Reference Manual, "Label field", "Symbols" and
-- ".GLOBL directive". This project's own: a name that is already defined doesn't become a label, and the value of a global is that of the
-- first source that defines it.)
use Rattle.std.specs.Prelude.{◌≡◌, ℕ, true, false, List, ◌∷◌, ◌++◌, take, slice_get, Some, None}
use Rattle.std.specs.Map.{lookup}
use Rattle.m11_base.specs.Rad50.{Name, is_same_name}
use Rattle.m11_link_layout.specs.declared.definition.GlobalLocation.{GlobalLocation}
use Rattle.m11_asm_rules.specs.Definitions.{is_defined, last_definition}
use Rattle.m11_asm_rules.specs.Lines.{stands}
use Rattle.m11_asm_rules.specs.Meanings.{value_of_symbol}
use Rattle.m11_asm_rules.specs.Placements.{program_map, table_after}
use Rattle.m11_asm_rules.specs.Tables.{Table}
use Rattle.m11_asm_rules.specs.declared.definitions.Definition.{Definition}
use Rattle.m11_asm_rules.specs.declared.definitions.Key.TheVariants.{Named}
use Rattle.m11_asm_rules.specs.declared.definitions.Standing.TheVariants.{Known}
use Rattle.m11_asm_rules.specs.declared.meanings.Context.{Context}
use Rattle.m11_unfold_rules.specs.Unfolding.{UnfoldedLine}
use Rattle.m11_scan_expressions.specs.declared.kinds.Kind.{Kind}
use Rattle.m11_scan_expressions.specs.declared.names.Symbol.TheVariants.{Ordinary}
use Rattle.m11_scan_expressions.specs.Quantities.{Quantity}
use Rattle.m11_cli_image.specs.Globals.{all_globals, globals_of}
use Rattle.m11_cli_image.specs.Sources.{Source}

-- ---- the lines of a source

-- one line of a source, with the lines before it and after it
pub record LineOf (lines : List UnfoldedLine) : Type 0 where
  pub before : List UnfoldedLine
  pub given : UnfoldedLine
  pub after : List UnfoldedLine
  pub whole : lines ≡ before ++ given ∷ after

-- the table before a line, and the one after its labels
abbrev pub before_line : (lines : List UnfoldedLine) → LineOf lines → Table
before_line lines line = table_after (program_map lines) line.before

abbrev pub at_line : (lines : List UnfoldedLine) → LineOf lines → Table
at_line lines line = stands (before_line lines line) line.given

-- ---- labels

-- a line has this name as a label: its labels define the name, which wasn't defined before
pub record HasLabel (lines : List UnfoldedLine) (line : LineOf lines) (name : Name) : Type 0 where
  pub new : is_defined (Named name) (before_line lines line).definitions ≡ false
  pub defined : is_defined (Named name) (at_line lines line).definitions ≡ true

-- the meaning of a name in a line of the source, where `.` is the location `here`
abbrev pub meaning_at : (lines : List UnfoldedLine) → LineOf lines → Context → ℕ → Name → Quantity
meaning_at lines line context here name =
    value_of_symbol (program_map lines) context (at_line lines line) here (Ordinary name)

-- ---- names for other sources

-- the source with this index defines a name for the other sources, at the location `location`, and no earlier source defines it
pub record DefinesFirst (sources : List Source) (index : ℕ) (source : Source) (name : Name) : Type 0 where
  pub own : slice_get sources index ≡ Some source
  pub none_before : lookup (is_same_name name) (all_globals (take index sources)) ≡ None
  pub location : GlobalLocation
  pub listed : lookup (is_same_name name) (globals_of source.facts) ≡ Some location

-- a name has this value in the table of its source: a number, and what it is relative to
pub record HasValue (source : Source) (name : Name) (number : ℕ) (kind : Kind) : Type 0 where
  pub definition : Definition
  pub last : last_definition (Named name) source.facts.table.definitions ≡ Some definition
  pub known : definition.standing ≡ Known number kind
