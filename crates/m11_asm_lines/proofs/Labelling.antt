-- Labels one after the other.
use Rattle.std.proofs.Common.{◌≡◌, ◌∙◌, ◌≤◌, ◌-◌, Bool, true, false, List, [], ◌∷◌, length, get_or, take, drop, take_all, Option, Some, None, refl, sym, ap, arith}
use Rattle.std.specs.Prelude.{if◌then◌else◌}
use Rattle.std.specs.Int.RustNames.{bit_or}
use Rattle.m11_base.specs.Devices.{Bytes}
use Rattle.m11_base.specs.Rad50.{Name}
use Rattle.m11_scan_statements.specs.declared.labels.Label.{Label}
use Rattle.m11_scan_statements.specs.declared.labels.LabelKind.{LabelKind}
use Rattle.m11_scan_statements.specs.declared.labels.LabelKind.TheVariants as kind
use Rattle.m11_asm_faults.specs.declared.fault.AsmFault.{AsmFault}
use Rattle.m11_asm_rules.specs.Definitions.{is_defined}
use Rattle.m11_asm_rules.specs.Labels.{global_if, kind_flags, label_name, labelled, labels_flags, with_block, with_definition, with_doubly_defined, with_kind, with_label, with_labels, with_name}
use Rattle.m11_asm_rules.specs.Limits.{has_too_many}
use Rattle.m11_asm_rules.specs.Meanings.{Map}
use Rattle.m11_asm_rules.specs.Tables.{Table}
use Rattle.m11_asm_rules.specs.declared.definitions.Definition.{Definition}
use Rattle.m11_asm_rules.specs.declared.definitions.Key.{Key}
use Rattle.m11_asm_rules.specs.declared.definitions.Key.TheVariants.{Named, Numbered}
use Rattle.m11_asm_rules.proofs.LastDefinitions.{no_symbols_fewer, none_fewer}
use Rattle.m11_asm_lines.proofs.Room.{AtLeast, as_many, refuses_more}
use Rattle.m11_asm_lines.specs.Faults.{HasTooMany}
use Rattle.m11_asm_lines.specs.Labels.{Defines, FitsUpToDefined}
use Rattle.m11_asm_lines.specs.Moved.{moved_flags, moved_kind}

-- ---- after labels a table defines at least as many names and local symbols as before

counts_more : (key : Key) (definition : Definition) (table : Table) → AtLeast table (with_definition key definition table)
counts_more key definition table =
    record { names = none_fewer key definition table; symbols = no_symbols_fewer key definition table }

name_counts : (is_known is_global : Bool) (name : Name) (table : Table) → AtLeast table
    (if is_known then with_doubly_defined (Named name) table
    else global_if is_global name (with_block (with_definition (Named name) (labelled table) table)))
name_counts true is_global name table = record { names = omega arith; symbols = omega arith }
name_counts false true name table =
    let more = counts_more (Named name) (labelled table) table in record { names = more.names; symbols = more.symbols }
name_counts false false name table =
    let more = counts_more (Named name) (labelled table) table in record { names = more.names; symbols = more.symbols }

named_counts : (is_global : Bool) (table : Table) (name : Option Name) → AtLeast table (with_name is_global table name)
named_counts is_global table (Some name) = name_counts (is_defined (Named name) table.definitions) is_global name table
named_counts is_global table None = as_many table

key_counts : (is_known : Bool) (key : Key) (table : Table)
    → AtLeast table (if is_known then with_doubly_defined key table else with_definition key (labelled table) table)
key_counts true key table = record { names = omega arith; symbols = omega arith }
key_counts false key table = counts_more key (labelled table) table

kind_counts : (table : Table) (name : Option Name) (of : LabelKind) → AtLeast table (with_kind table name of)
kind_counts table name kind.Ordinary = named_counts false table name
kind_counts table name kind.Global = named_counts true table name
kind_counts table name (kind.Local number) =
    key_counts (is_defined (Numbered table.modes.block number) table.definitions) (Numbered table.modes.block number) table
kind_counts table name kind.Outside = as_many table

labels_count : (line : Bytes) (table : Table) (labels : List Label) → AtLeast table (with_labels line table labels)
labels_count line table [] = as_many table
labels_count line table (label ∷ labels) =
    let first = kind_counts table (label_name line label) label.kind in
    let more = labels_count line (with_label line table label) labels in
    let names = first.names in
    let symbols = first.symbols in
    let names_then = more.names in
    let symbols_then = more.symbols in
    record { names = omega (arith, names, names_then); symbols = omega (arith, symbols, symbols_then) }

-- ---- labels that the code splits into the first one and the labels after it

others_all : (label : Label) (others : List Label) → take (length (label ∷ others) - 1) others ≡ others
others_all label others = take_all (length (label ∷ others) - 1) others (omega arith)

none_first : 1 ≤ 0 → ⊥
none_first e = omega (arith, e)

first_then : {A : Type 0} (line : Bytes) (labels : List Label) (other : Label) → 1 ≤ length labels → (of : List Label → A) (by : Label → List Label → A)
    → ((label : Label) (others : List Label) → of (label ∷ others) ≡ by label others)
    → of labels ≡ by (get_or labels 0 other) (take (length labels - 1) (drop 1 labels))
first_then line [] other some of by same = absurd (none_first some)
first_then line (label ∷ others) other some of by same = same label others ∙ ap (by label) (sym (others_all label others))

pub labels_then : (line : Bytes) (table : Table) (labels : List Label) (other : Label) → 1 ≤ length labels
    → with_labels line table labels
    ≡ with_labels line (with_label line table (get_or labels 0 other)) (take (length labels - 1) (drop 1 labels))
labels_then line table labels other some =
    first_then line labels other some (with_labels line table) (λ label others. with_labels line (with_label line table label) others)
    (λ label others. refl)

pub flags_then : (line : Bytes) (table : Table) (labels : List Label) (other : Label) → 1 ≤ length labels
    → labels_flags line table labels
    ≡ bit_or (kind_flags table (label_name line (get_or labels 0 other)) (get_or labels 0 other).kind)
    (labels_flags line (with_label line table (get_or labels 0 other)) (take (length labels - 1) (drop 1 labels)))
flags_then line table labels other some =
    first_then line labels other some (labels_flags line table)
    (λ label others. bit_or (kind_flags table (label_name line label) label.kind) (labels_flags line (with_label line table label) others))
    (λ label others. refl)

pub moved_then : (map : Map) (line : Bytes) (table : Table) (labels : List Label) (other : Label) → 1 ≤ length labels
    → moved_flags map line table labels
    ≡ bit_or (moved_kind map table (label_name line (get_or labels 0 other)) (get_or labels 0 other).kind)
    (moved_flags map line (with_label line table (get_or labels 0 other)) (take (length labels - 1) (drop 1 labels)))
moved_then map line table labels other some =
    first_then line labels other some (moved_flags map line table)
    (λ label others. bit_or (moved_kind map table (label_name line label) label.kind)
    (moved_flags map line (with_label line table label) others))
    (λ label others. refl)

pub first_refused : (line : Bytes) (table : Table) (labels : List Label) (other : Label) (fault : AsmFault) → 1 ≤ length labels
    → HasTooMany fault (with_label line table (get_or labels 0 other)) → HasTooMany fault (with_labels line table labels)
first_refused line table [] other fault some refuses = absurd (none_first some)
first_refused line table (label ∷ others) other fault some refuses =
    refuses_more fault (with_label line table label) (with_labels line table (label ∷ others))
    (labels_count line (with_label line table label) others) refuses

-- ---- memory is refused at a label, and the names and local symbols up to that label are within the limits

pub first_fits : (line : Bytes) (table : Table) (labels : List Label) (other : Label) → 1 ≤ length labels
    → Defines (get_or labels 0 other) → has_too_many (with_label line table (get_or labels 0 other)) ≡ false
    → FitsUpToDefined line labels table
first_fits line table [] other some defines fits = absurd (none_first some)
first_fits line table (label ∷ others) other some defines fits =
    record { done = []; label = label; rest = others; are = refl; grows = defines; fits = fits }

pub later_fits : (line : Bytes) (table : Table) (labels : List Label) (other : Label) → 1 ≤ length labels
    → FitsUpToDefined line (take (length labels - 1) (drop 1 labels)) (with_label line table (get_or labels 0 other))
    → FitsUpToDefined line labels table
later_fits line table [] other some later = absurd (none_first some)
later_fits line table (label ∷ others) other some later = record {
  done = label ∷ later.done;
  label = later.label;
  rest = later.rest;
  are = ap (λ (ls : List Label). label ∷ ls) (sym (others_all label others) ∙ later.are);
  grows = later.grows;
  fits = later.fits;
}
