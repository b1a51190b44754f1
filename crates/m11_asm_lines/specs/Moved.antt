-- Labels that aren't at their locations in the map. (MACRO-11 Language Reference Manual, "Diagnostic error message summary", P: phase
-- error. This project's own: sections of two passes are the same if their names are; and an assigned name has no location.)
use Rattle.std.specs.Prelude.{ℕ, ◌==◌, ◌&&◌, not, Bool, false, List, [], ◌∷◌, Option, Some, None}
use Rattle.std.specs.Int.RustNames.{bit_or}
use Rattle.std.specs.Option.{option_map_or}
use Rattle.m11_base.specs.Devices.{Bytes}
use Rattle.m11_base.specs.Rad50.{Name, is_same_name}
use Rattle.m11_scan.specs.ErrorFlags.{flag_if}
use Rattle.m11_scan_statements.specs.declared.labels.Label.{Label}
use Rattle.m11_scan_statements.specs.declared.labels.LabelKind.{LabelKind}
use Rattle.m11_scan_statements.specs.declared.labels.LabelKind.TheVariants as label
use Rattle.m11_asm_rules.specs.Definitions.{is_defined, last_definition}
use Rattle.m11_asm_rules.specs.Labels.{label_name, with_label}
use Rattle.m11_asm_rules.specs.Meanings.{Map}
use Rattle.m11_asm_rules.specs.Tables.{Table, location, section_name}
use Rattle.m11_asm_rules.specs.declared.definitions.Definition.{Definition}
use Rattle.m11_asm_rules.specs.declared.definitions.Key.{Key}
use Rattle.m11_asm_rules.specs.declared.definitions.Key.TheVariants.{Named, Numbered}
use Rattle.m11_asm_rules.specs.declared.definitions.Standing.{Standing}
use Rattle.m11_asm_rules.specs.declared.definitions.Standing.TheVariants.{Known, Unknown}

-- the set with the flag P alone
abbrev pub flag_P : ℕ
flag_P = 0o1000

-- whether a label is in this section; an assigned name is in none
abbrev pub is_in : Name → Option Name → Bool
is_in section found = option_map_or (λ (other : Name). is_same_name other section) found false

-- whether a value is known, and has this location as its number
abbrev pub is_at : ℕ → Standing → Bool
is_at location (Known number kind) = number == location
is_at location Unknown = false

-- whether there is a definition, and it is that of a label at the location counter: in the current section, with the counter as its value
abbrev pub is_location_of : Table → Option Definition → Bool
is_location_of table (Some definition) = is_in (section_name table) definition.label && is_at (location table) definition.standing
is_location_of table None = false

-- P if a new key isn't a label at the location counter in the map; a key defined before is never flagged P
abbrev pub moved_key : Map → Table → Key → ℕ
moved_key map table key =
    flag_if (not (is_defined key table.definitions) && not (is_location_of table (last_definition key map.definitions))) flag_P

abbrev pub moved_name : Map → Table → Option Name → ℕ
moved_name map table name = option_map_or (λ (name : Name). moved_key map table (Named name)) name 0

abbrev pub moved_kind : Map → Table → Option Name → LabelKind → ℕ
moved_kind map table name (label.Local number) = moved_key map table (Numbered table.modes.block number)
moved_kind map table name label.Outside = 0
moved_kind map table name kind = moved_name map table name

-- P if any label of a line has moved; each label is looked up with the table that the labels before it leave
abbrev pub moved_flags : Map → Bytes → Table → List Label → ℕ
moved_flags map line table [] = 0
moved_flags map line table (named ∷ labels) =
    bit_or (moved_kind map table (label_name line named) named.kind) (moved_flags map line (with_label line table named) labels)
