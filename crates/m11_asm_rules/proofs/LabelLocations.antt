-- The labels of a line change neither the sections nor the current section, and so not the location counter.
use Rattle.std.proofs.Common.{◌≡◌, ◌∙◌, ℕ, Bool, true, false, List, [], ◌∷◌, Option, Some, None, refl, ap}
use Rattle.std.specs.Prelude.{get_or, if◌then◌else◌}
use Rattle.m11_base.specs.Rad50.{Name}
use Rattle.m11_scan_statements.specs.Labels.{labels_at}
use Rattle.m11_scan_statements.specs.declared.labels.Label.{Label}
use Rattle.m11_scan_statements.specs.declared.labels.LabelKind.{LabelKind}
use Rattle.m11_scan_statements.specs.declared.labels.LabelKind.TheVariants as label
use Rattle.m11_asm_rules.specs.Definitions.{Key, Named, Numbered, is_defined}
use Rattle.m11_asm_rules.specs.Labels.{global_if, label_name, labelled, after_labels_in, with_block, with_definition, with_doubly_defined, with_kind, with_label, with_labels, with_name}
use Rattle.m11_asm_rules.specs.Sections.{Section}
use Rattle.m11_asm_rules.specs.Tables.{Table, location}

-- the sections with their counters and sizes, and the current section
pub record Standing : Type 0 where
  pub sections : List Section
  pub counters : List ℕ
  pub sizes : List ℕ
  pub section : ℕ

abbrev pub standing : Table → Standing
standing table =
    record { sections = table.sections; counters = table.counters; sizes = table.sizes; section = table.modes.section }

name_by : (is_there is_global : Bool) (table : Table) (name : Name)
    → standing (if is_there then with_doubly_defined (Named name) table
    else global_if is_global name (with_block (with_definition (Named name) (labelled table) table))) ≡ standing table
name_by true is_global table name = refl
name_by false true table name = refl
name_by false false table name = refl

name_keeps : (is_global : Bool) (table : Table) (name : Option Name) → standing (with_name is_global table name) ≡ standing table
name_keeps is_global table (Some name) = name_by (is_defined (Named name) table.definitions) is_global table name
name_keeps is_global table None = refl

key_by : (is_there : Bool) (table : Table) (key : Key)
    → standing (if is_there then with_doubly_defined key table else with_definition key (labelled table) table) ≡ standing table
key_by true table key = refl
key_by false table key = refl

kind_keeps : (table : Table) (name : Option Name) (kind : LabelKind) → standing (with_kind table name kind) ≡ standing table
kind_keeps table name label.Ordinary = name_keeps false table name
kind_keeps table name label.Global = name_keeps true table name
kind_keeps table name (label.Local number) =
    key_by (is_defined (Numbered table.modes.block number) table.definitions) table (Numbered table.modes.block number)
kind_keeps table name label.Outside = refl

all_keep : (line : List ℕ) (table : Table) (labels : List Label) → standing (with_labels line table labels) ≡ standing table
all_keep line table [] = refl
all_keep line table (named ∷ labels) =
    all_keep line (with_label line table named) labels ∙ kind_keeps table (label_name line named) named.kind

pub labels_stay : (table : Table) (line : List ℕ) → standing (after_labels_in table line) ≡ standing table
labels_stay table line = all_keep line table (labels_at line)

pub labels_keep : (table : Table) (line : List ℕ) → location (after_labels_in table line) ≡ location table
labels_keep table line = ap (λ (s : Standing). get_or s.counters s.section 0) (labels_stay table line)
