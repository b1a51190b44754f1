-- The definition by a label stays the last one of its key, whatever lines follow.
use Rattle.std.proofs.Common.{◌≡◌, ◌∙◌, Bool, true, false, List, [], ◌∷◌, Option, Some, None, refl, sym, ap, true≢false}
use Rattle.std.specs.Option.{is_some}
use Rattle.std.specs.Prelude.{if◌then◌else◌}
use Rattle.m11_base.specs.Devices.{Bytes}
use Rattle.m11_base.specs.Rad50.{Name}
use Rattle.m11_asm_rules.specs.Assignments.{assigned, with_assigned}
use Rattle.m11_asm_rules.specs.Changes.{Assigns, Change, Counts, Exports, Keeps, Numbers, Selects, Sets, becomes_global, changed, numbered}
use Rattle.m11_asm_rules.specs.Definitions.{is_defined, Definitions, is_labelled, is_of_label, is_same, last_definition}
use Rattle.m11_asm_rules.specs.Labels.{global_if, label_name, labelled, with_block, with_definition, with_doubly_defined, with_kind, with_label, with_labels, with_name}
use Rattle.m11_asm_rules.specs.Lines.{after_line, line_change, stands}
use Rattle.m11_asm_rules.specs.Meanings.{Map}
use Rattle.m11_asm_rules.specs.Placements.{after_lines}
use Rattle.m11_asm_rules.specs.Tables.{Table, firm_table}
use Rattle.m11_asm_rules.specs.declared.definitions.Definition.{Definition}
use Rattle.m11_asm_rules.specs.declared.definitions.Key.{Key}
use Rattle.m11_asm_rules.specs.declared.definitions.Key.TheVariants.{Named, Numbered}
use Rattle.m11_scan_statements.specs.Labels.{labels_at}
use Rattle.m11_scan_statements.specs.declared.labels.Label.{Label}
use Rattle.m11_scan_statements.specs.declared.labels.LabelKind.{LabelKind}
use Rattle.m11_scan_statements.specs.declared.labels.LabelKind.TheVariants as kind
use Rattle.m11_asm_rules.proofs.LastDefinitions.{key_equal, key_itself, last_more}
use Rattle.m11_unfold_rules.specs.Unfolding.{UnfoldedLine}

-- this label is the last definition of the key in a table
abbrev pub IsAtLevel : Key → Definition → Table → Type 0
IsAtLevel key label table = last_definition key table.definitions ≡ Some label

pub stands_now : (key : Key) (label : Definition) (table : Table) → IsAtLevel key label (with_definition key label table)
stands_now key label table =
    last_more key table.definitions key label
    ∙ ap (λ (b : Bool). if b then Some label else last_definition key table.definitions) (key_itself key)

-- ---- it stays the last one

module _ (key : Key) (label : Definition) (is_label : is_some label.label ≡ true) where
  abbrev Stands : Table → Type 0
  Stands table = IsAtLevel key label table

  not_defined : (definitions : Definitions) → last_definition key definitions ≡ Some label
      → is_defined key definitions ≡ false → ⊥
  not_defined definitions stands none =
      true≢false (ap is_some (sym stands) ∙ none)

  not_labelled : (definitions : Definitions) → last_definition key definitions ≡ Some label
      → is_labelled key definitions ≡ false → ⊥
  not_labelled definitions stands none = true≢false (sym is_label ∙ ap is_of_label (sym stands) ∙ none)

  -- a key that lacks a property of this key is another key
  other_key : (P : Key → Bool) (other : Key) (is_this : Bool) → is_same other key ≡ is_this → P other ≡ false
      → (P key ≡ false → ⊥) → is_same other key ≡ false
  other_key P other false same fails holds = same
  other_key P other true same fails holds = absurd (holds (ap P (sym (key_equal other key same)) ∙ fails))

  beside : (other : Key) (one : Definition) (table : Table) → is_same other key ≡ false → Stands table
      → Stands (with_definition other one table)
  beside other one table differs stands =
      last_more key table.definitions other one
      ∙ ap (λ (b : Bool). if b then Some one else last_definition key table.definitions) differs ∙ stands

  undefined_beside : (other : Key) (one : Definition) (table : Table) → is_defined other table.definitions ≡ false → Stands table
      → Stands (with_definition other one table)
  undefined_beside other one table none stands =
      beside other one table
      (other_key (λ k. is_defined k table.definitions) other (is_same other key) refl none (not_defined table.definitions stands)) stands

  unlabelled_beside : (other : Key) (one : Definition) (table : Table) → is_labelled other table.definitions ≡ false → Stands table
      → Stands (with_definition other one table)
  unlabelled_beside other one table none stands =
      beside other one table
      (other_key (λ k. is_labelled k table.definitions) other (is_same other key) refl none (not_labelled table.definitions stands)) stands

  -- ---- labels

  name_stays_by : (is_there is_global : Bool) (table : Table) (name : Name) → is_defined (Named name) table.definitions ≡ is_there
      → Stands table → Stands (if is_there then with_doubly_defined (Named name) table
      else global_if is_global name (with_block (with_definition (Named name) (labelled table) table)))
  name_stays_by true is_global table name is stands = stands
  name_stays_by false true table name is stands = undefined_beside (Named name) (labelled table) table is stands
  name_stays_by false false table name is stands = undefined_beside (Named name) (labelled table) table is stands

  name_stays : (is_global : Bool) (table : Table) (name : Option Name) → Stands table → Stands (with_name is_global table name)
  name_stays is_global table (Some name) stands =
      name_stays_by (is_defined (Named name) table.definitions) is_global table name refl stands
  name_stays is_global table None stands = stands

  key_stays_by : (is_there : Bool) (table : Table) (other : Key) → is_defined other table.definitions ≡ is_there → Stands table
      → Stands (if is_there then with_doubly_defined other table else with_definition other (labelled table) table)
  key_stays_by true table other is stands = stands
  key_stays_by false table other is stands = undefined_beside other (labelled table) table is stands

  kind_stays : (table : Table) (name : Option Name) (of : LabelKind) → Stands table → Stands (with_kind table name of)
  kind_stays table name kind.Ordinary stands = name_stays false table name stands
  kind_stays table name kind.Global stands = name_stays true table name stands
  kind_stays table name (kind.Local number) stands =
      key_stays_by (is_defined (Numbered table.modes.block number) table.definitions) table (Numbered table.modes.block number) refl
      stands
  kind_stays table name kind.Outside stands = stands

  pub labels_stay : (line : Bytes) (table : Table) (labels : List Label) → Stands table → Stands (with_labels line table labels)
  labels_stay line table [] stands = stands
  labels_stay line table (named ∷ labels) stands =
      labels_stay line (with_label line table named) labels (kind_stays table (label_name line named) named.kind stands)

  -- ---- changes

  assigned_stays_by : (is_there : Bool) (other : Key) (definition : Definition) (table : Table)
      → is_labelled other table.definitions ≡ is_there → Stands table
      → Stands (if is_there then with_doubly_defined other table else with_definition other definition table)
  assigned_stays_by true other definition table is stands = stands
  assigned_stays_by false other definition table is stands = unlabelled_beside other definition table is stands

  assigned_stays : (other : Key) (definition : Definition) (table : Table) → Stands table → Stands (with_assigned other definition table)
  assigned_stays other definition table stands =
      assigned_stays_by (is_labelled other table.definitions) other definition table refl stands

  global_stays : (is_global : Bool) (name : Name) (table : Table) → Stands table → Stands (global_if is_global name table)
  global_stays true name table stands = stands
  global_stays false name table stands = stands

  pub change_stays : (map : Map) (change : Change) (table : Table) → Stands table → Stands (changed map change table)
  change_stays map Keeps table stands = stands
  change_stays map (Counts move) table stands = stands
  change_stays map (Selects name attributes) table stands = stands
  change_stays map (Assigns name is_global tokens) table stands =
      global_stays (becomes_global is_global name table) name (with_assigned (Named name) (assigned map table tokens) table)
      (assigned_stays (Named name) (assigned map table tokens) table stands)
  change_stays map (Numbers name number) table stands = assigned_stays (Named name) (numbered number) table stands
  change_stays map (Exports names) table stands = stands
  change_stays map (Sets modes) table stands = stands

  -- ---- lines

  line_stays : (map : Map) (table : Table) (given : UnfoldedLine) → Stands table → Stands (after_line map table given)
  line_stays map table given stood =
      change_stays map (line_change (firm_table (stands table given)) given) (stands table given)
      (labels_stay given.live.line.text table (labels_at given.live.line.text) stood)

  pub lines_stay : (map : Map) (table : Table) (lines : List UnfoldedLine) → Stands table → Stands (after_lines map table lines)
  lines_stay map table [] stood = stood
  lines_stay map table (given ∷ lines) stood = lines_stay map (after_line map table given) lines (line_stays map table given stood)
