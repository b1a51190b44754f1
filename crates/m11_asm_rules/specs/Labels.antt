-- Definitions by the labels of a line. (MACRO-11 Language Reference Manual, "Label field", "Local symbols" and "Multiple definition of
-- symbols". This project's own: a label whose name is already defined begins no block and makes nothing global; and counts have 64 bits.)
use Rattle.std.specs.Prelude.{ℕ, ◌+◌, ◌-◌, ◌^◌, min, Bool, true, false, if◌then◌else◌, List, [], ◌∷◌, Option, Some, None, fold}
use Rattle.std.specs.Int.RustNames.{bit_or}
use Rattle.std.specs.Option.{option_map_or}
use Rattle.indexmap.specs.IndexSet.{insert_key}
use Rattle.m11_base.specs.Devices.{Bytes}
use Rattle.m11_base.specs.NameCharacters.{six_of}
use Rattle.m11_base.specs.Rad50.{Name, is_same_name, name_of}
use Rattle.m11_scan.specs.Cutting.{text_between}
use Rattle.m11_scan_statements.specs.Labels.{labels_at}
use Rattle.m11_scan_statements.specs.declared.labels.Label.{Label}
use Rattle.m11_scan_statements.specs.declared.labels.LabelKind.{LabelKind}
use Rattle.m11_scan_statements.specs.declared.labels.LabelKind.TheVariants as label
use Rattle.m11_asm_rules.specs.Definitions.{Definition, Key, Named, Numbered, Known, is_defined, with_last, with_one}
use Rattle.m11_asm_rules.specs.Tables.{Table, kind_here, location, section_name}

-- the set with the flag M alone
abbrev pub flag_M : ℕ
flag_M = 0o100

-- the definition by a label: the current location, which is firm, and the current section
abbrev pub labelled : Table → Definition
labelled table = record { standing = Known (location table) (kind_here table); is_firm = true; label = Some (section_name table) }

abbrev pub with_definition : Key → Definition → Table → Table
with_definition key definition table = record table { definitions = with_last key definition table.definitions }

abbrev pub with_doubly_defined : Key → Table → Table
with_doubly_defined key table = record table { doubly_defined = with_one key table.doubly_defined }

abbrev pub with_global : Name → Table → Table
with_global name table = record table { globals = insert_key is_same_name table.globals name }

-- the next count; it doesn't rise above the greatest 64-bit number, which no source reaches
abbrev pub one_more : ℕ → ℕ
one_more count = min (count + 1) (2 ^ 64 - 1)

-- the table after a new block of local symbols has begun
abbrev pub with_block : Table → Table
with_block table = record table { modes = record table.modes { block = one_more table.modes.block } }

abbrev pub global_if : Bool → Name → Table → Table
global_if is_global name table = if is_global then with_global name table else table

-- the table after a label: a new name is defined, begins a block of local symbols, and becomes global if the flag is true; a defined name
-- becomes doubly defined; an invalid name changes nothing
abbrev pub with_name : Bool → Table → Option Name → Table
with_name is_global table (Some name) =
    if is_defined (Named name) table.definitions then with_doubly_defined (Named name) table
    else global_if is_global name (with_block (with_definition (Named name) (labelled table) table))
with_name is_global table None = table

-- the table after a label that is a local symbol: a new symbol is defined; a defined one becomes doubly defined
abbrev pub with_key : Key → Table → Table
with_key key table =
    if is_defined key table.definitions then with_doubly_defined key table else with_definition key (labelled table) table

abbrev pub label_name : Bytes → Label → Option Name
label_name line named = name_of (six_of (text_between line named.name.start named.name.end))

abbrev pub with_kind : Table → Option Name → LabelKind → Table
with_kind table name label.Ordinary = with_name false table name
with_kind table name label.Global = with_name true table name
with_kind table name (label.Local number) = with_key (Numbered table.modes.block number) table
with_kind table name label.Outside = table

abbrev pub with_label : Bytes → Table → Label → Table
with_label line table named = with_kind table (label_name line named) named.kind

abbrev pub with_labels : Bytes → Table → List Label → Table
with_labels line table labels = fold (with_label line) table labels

-- the table after the labels of a line
abbrev pub after_labels_in : Table → Bytes → Table
after_labels_in table line = with_labels line table (labels_at line)

-- M for a label whose key is already defined
abbrev pub key_flags : Table → Key → ℕ
key_flags table key = if is_defined key table.definitions then flag_M else 0

abbrev pub name_flags : Table → Option Name → ℕ
name_flags table name = option_map_or (λ (name : Name). key_flags table (Named name)) name 0

abbrev pub kind_flags : Table → Option Name → LabelKind → ℕ
kind_flags table name (label.Local number) = key_flags table (Numbered table.modes.block number)
kind_flags table name label.Outside = 0
kind_flags table name kind = name_flags table name

abbrev pub labels_flags : Bytes → Table → List Label → ℕ
labels_flags line table [] = 0
labels_flags line table (named ∷ labels) =
    bit_or (kind_flags table (label_name line named) named.kind) (labels_flags line (with_label line table named) labels)
