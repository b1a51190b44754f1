-- The definitions by a line are the same by the table before it and by what has been said.
use Rattle.std.proofs.Common.{◌≡◌, ◌∙◌, ℕ, Bool, true, false, if◌then◌else◌, List, [], ◌∷◌, ◌++◌, append-nil, append_assoc, fold, Option, Some, None, is_some, refl, sym, ap}
use Rattle.m11_base.specs.Devices.{Bytes}
use Rattle.m11_base.specs.Rad50.{Name}
use Rattle.m11_scan_statements.specs.Labels.{labels_at}
use Rattle.m11_scan_statements.specs.declared.labels.Label.{Label}
use Rattle.m11_scan_statements.specs.declared.labels.LabelKind.{LabelKind}
use Rattle.m11_scan_statements.specs.declared.labels.LabelKind.TheVariants as label
use Rattle.m11_asm_rules.specs.Actions.{Action, Assign, SetCounter, SetNumber}
use Rattle.m11_asm_rules.specs.Assigning.{counter_value}
use Rattle.m11_asm_rules.specs.Assignments as tables_assigned
use Rattle.m11_asm_rules.specs.Changes.{Counts, Keeps, numbered}
use Rattle.m11_asm_rules.specs.Definitions.{is_defined, is_labelled, is_of_label}
use Rattle.m11_asm_rules.specs.History.{KeyDefinition, change_definitions, defining, key_definitions, label_definitions, labels_definitions, name_definition}
use Rattle.m11_asm_rules.specs.Labels as tables
use Rattle.m11_asm_rules.specs.Lines.{change_of}
use Rattle.m11_asm_rules.specs.Locations.{Goes}
use Rattle.m11_asm_rules.specs.Meanings.{Map}
use Rattle.m11_asm_rules.specs.Relocations.{is_here}
use Rattle.m11_asm_rules.specs.Tables.{Table, firm_table}
use Rattle.m11_asm_rules.specs.declared.definitions.Definition.{Definition}
use Rattle.m11_asm_rules.specs.declared.definitions.Key.{Key}
use Rattle.m11_asm_rules.specs.declared.definitions.Key.TheVariants.{Named, Numbered}
use Rattle.m11_asm_table_laws.specs.Places.{Place}
use Rattle.m11_asm_table_laws.specs.Said.{Said, block, doubly_defining}
use Rattle.m11_asm_table_laws.specs.Lines.{after_action, after_labels, also_exporting, assigned, assigning, by_assignment, by_label, is_global_label, label_key, labelled, with_label}
use Rattle.m11_asm_table_laws.proofs.Knowing.{Agrees, block_known}
use Rattle.m11_asm_table_laws.proofs.LabelsRecorded.{label_same, label_agrees}
use Rattle.m11_asm_table_laws.proofs.Values.{assigned_same}

module _ (place : Place) (said : Said) (table : Table) (agrees : Agrees place said table) where
  none_more : said.definitions ≡ said.definitions ++ []
  none_more = sym (append-nil said.definitions)

  -- ---- a label

  defined_by : (is_there is_global : Bool) (key : Key) (one other : Definition) → one ≡ other
      → (if is_there then doubly_defining key said else also_exporting is_global key other said).definitions
      ≡ said.definitions ++ (if is_there then [] else defining key one ∷ [])
  defined_by true is_global key one other same = none_more
  defined_by false is_global key one other same = ap (λ (d : Definition). said.definitions ++ defining key d ∷ []) (sym same)

  key_defined : (is_global : Bool) (key : Key)
      → (by_label is_global (labelled place said) said (Some key)).definitions ≡ said.definitions ++ key_definitions table key
  key_defined is_global key =
      ap (λ (b : Bool). (if b then doubly_defining key said else also_exporting is_global key (labelled place said) said).definitions)
      (sym (ap is_some (agrees.knows.definitions key)))
      ∙ defined_by (is_defined key table.definitions) is_global key (tables.labelled table) (labelled place said)
      (label_same place said table agrees)

  label_defined : (name : Option Name) (kind : LabelKind)
      → (by_label (is_global_label kind) (labelled place said) said (label_key (block place said) name kind)).definitions
      ≡ said.definitions ++ label_definitions table name kind
  label_defined None label.Ordinary = none_more
  label_defined (Some name) label.Ordinary = key_defined false (Named name)
  label_defined None label.Global = none_more
  label_defined (Some name) label.Global = key_defined true (Named name)
  label_defined name (label.Local number) =
      key_defined false (Numbered (block place said) number)
      ∙ ap (λ (n : ℕ). said.definitions ++ key_definitions table (Numbered n number)) (sym (block_known place said table agrees.knows))
  label_defined name label.Outside = none_more

  -- ---- an action

  assignment_defined : (is_global : Bool) (one other : Definition) (name : Name) → one ≡ other
      → (by_assignment said (Some (assigning is_global other name))).definitions ≡ said.definitions ++ name_definition table name one
  assignment_defined is_global one other name same =
      ap (λ (b : Bool). (if b then doubly_defining (Named name) said else also_exporting is_global (Named name) other said).definitions)
      (sym (ap is_of_label (agrees.knows.definitions (Named name))))
      ∙ defined_by (is_labelled (Named name) table.definitions) is_global (Named name) one other same

  -- setting the counter defines nothing, whether the counter is set or not
  set_defines : (map : Map) (is_set : Bool) (location : ℕ)
      → said.definitions ≡ said.definitions ++ change_definitions map table (if is_set then Counts (Goes location) else Keeps)
  set_defines map true location = none_more
  set_defines map false location = none_more

  pub action_defined : (map : Map) (line : Bytes) (action : Action)
      → (after_action map place line action said).definitions
      ≡ said.definitions ++ change_definitions map table (change_of (firm_table table) line action)
  action_defined map line (Assign None is_global tokens) = none_more
  action_defined map line (Assign (Some name) is_global tokens) =
      assignment_defined is_global (tables_assigned.assigned map table tokens) (assigned map place said tokens) name
      (assigned_same place said table agrees map tokens)
  action_defined map line (SetNumber name number) = assignment_defined false (numbered number) (numbered number) name refl
  action_defined map line (SetCounter tokens) =
      set_defines map (is_here (firm_table table) (counter_value (firm_table table) tokens).kind)
      (counter_value (firm_table table) tokens).number
  action_defined map line other = none_more

-- ---- the labels of a line

all_defined : (place : Place) (line : Bytes) (said : Said) (table : Table) (labels : List Label) → Agrees place said table
    → (fold (with_label place line) said labels).definitions ≡ said.definitions ++ labels_definitions line table labels
all_defined place line said table [] agrees = none_more place said table agrees
all_defined place line said table (named ∷ labels) agrees =
    all_defined place line (with_label place line said named) (tables.with_label line table named) labels
    (label_agrees place line said table named agrees)
    ∙ ap (λ (l : List KeyDefinition). l ++ labels_definitions line (tables.with_label line table named) labels)
    (label_defined place said table agrees (tables.label_name line named) named.kind)
    ∙ append_assoc said.definitions (label_definitions table (tables.label_name line named) named.kind)
    (labels_definitions line (tables.with_label line table named) labels)

pub labels_defined : (place : Place) (line : Bytes) (said : Said) (table : Table) → Agrees place said table
    → (after_labels place line said).definitions ≡ said.definitions ++ labels_definitions line table (labels_at line)
labels_defined place line said table agrees = all_defined place line said table (labels_at line) agrees
