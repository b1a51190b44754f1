-- Labels have the same effect on a table and on its firm part.
use Rattle.std.proofs.Common.{◌≡◌, ◌∙◌, ℕ, Bool, true, false, List, [], ◌∷◌, Option, Some, None, refl, ap}
use Rattle.std.specs.Option.{is_some}
use Rattle.std.specs.Prelude.{if◌then◌else◌, map}
use Rattle.indexmap.specs.IndexMap.{insert_entry}
use Rattle.m11_base.specs.Rad50.{Name, is_same_name}
use Rattle.m11_scan_statements.specs.Labels.{labels_at}
use Rattle.m11_scan_statements.specs.declared.labels.Label.{Label}
use Rattle.m11_scan_statements.specs.declared.labels.LabelKind.{LabelKind}
use Rattle.m11_scan_statements.specs.declared.labels.LabelKind.TheVariants as label
use Rattle.m11_asm_rules.proofs.NamesByMaps.{firm_option, last_firm}
use Rattle.m11_asm_rules.specs.Definitions.{Definition, Definitions, Key, Named, Numbered, firm_entry, firm_part, firm_parts, is_defined, is_labelled, is_of_label, is_same_symbol, last_definition, with_last}
use Rattle.m11_asm_rules.specs.Labels.{global_if, label_name, labelled, after_labels_in, with_block, with_definition, with_doubly_defined, with_global, with_key, with_kind, with_label, with_labels, with_name}
use Rattle.m11_asm_rules.specs.Tables.{Table, firm_table}

some_firm : (found : Option Definition) → is_some (firm_option found) ≡ is_some found
some_firm (Some definition) = refl
some_firm None = refl

pub defined_firm : (key : Key) (definitions : Definitions) → is_defined key (firm_parts definitions) ≡ is_defined key definitions
defined_firm key definitions = ap is_some (last_firm key definitions) ∙ some_firm (last_definition key definitions)

of_label_firm : (found : Option Definition) → is_of_label (firm_option found) ≡ is_of_label found
of_label_firm (Some definition) = refl
of_label_firm None = refl

pub labelled_firm : (key : Key) (definitions : Definitions) → is_labelled key (firm_parts definitions) ≡ is_labelled key definitions
labelled_firm key definitions =
    ap is_of_label (last_firm key definitions) ∙ of_label_firm (last_definition key definitions)

inserted_firm : {A : Type 0} (eq : A → A → Bool) (key : A) (definition : Definition) (entries : List (A × Definition))
    → map firm_entry (insert_entry eq entries key definition) ≡ insert_entry eq (map firm_entry entries) key (firm_part definition)
inserted_firm eq key definition [] = refl
inserted_firm {A} eq key definition (entry ∷ entries) = by (eq key entry.0) (inserted_firm eq key definition entries)
  where
    by : (b : Bool)
        → map firm_entry (insert_entry eq entries key definition) ≡ insert_entry eq (map firm_entry entries) key (firm_part definition)
        → map firm_entry (if b then (entry.0, definition) ∷ entries else entry ∷ insert_entry eq entries key definition)
        ≡ (if b then (entry.0, firm_part definition) ∷ map firm_entry entries
        else firm_entry entry ∷ insert_entry eq (map firm_entry entries) key (firm_part definition))
    by true others = refl
    by false others = ap (λ (l : List (A × Definition)). firm_entry entry ∷ l) others

last_of_firm : (key : Key) (definition : Definition) (definitions : Definitions)
    → firm_parts (with_last key definition definitions) ≡ with_last key (firm_part definition) (firm_parts definitions)
last_of_firm (Named name) definition definitions =
    ap (λ (l : List (Name × Definition)). record (firm_parts definitions) { names = l })
    (inserted_firm is_same_name name definition definitions.names)
last_of_firm (Numbered block number) definition definitions =
    ap (λ (l : List ((ℕ × ℕ) × Definition)). record (firm_parts definitions) { local_symbols = l })
    (inserted_firm is_same_symbol (block, number) definition definitions.local_symbols)

pub definition_firm : (key : Key) (definition : Definition) (table : Table)
    → firm_table (with_definition key definition table) ≡ with_definition key (firm_part definition) (firm_table table)
definition_firm key definition table =
    ap (λ (d : Definitions). record (firm_table table) { definitions = d }) (last_of_firm key definition table.definitions)

name_by : (is_there is_global : Bool) (table : Table) (name : Name)
    → firm_table (if is_there then with_doubly_defined (Named name) table
    else global_if is_global name (with_block (with_definition (Named name) (labelled table) table)))
    ≡ (if is_there then with_doubly_defined (Named name) (firm_table table)
    else global_if is_global name (with_block (with_definition (Named name) (labelled (firm_table table)) (firm_table table))))
name_by true is_global table name = refl
name_by false true table name =
    ap (λ (t : Table). with_global name (with_block t)) (definition_firm (Named name) (labelled table) table)
name_by false false table name = ap with_block (definition_firm (Named name) (labelled table) table)

name_firm : (is_global : Bool) (table : Table) (name : Option Name)
    → firm_table (with_name is_global table name) ≡ with_name is_global (firm_table table) name
name_firm is_global table (Some name) =
    rw (defined_firm (Named name) table.definitions) (name_by (is_defined (Named name) table.definitions) is_global table name)
name_firm is_global table None = refl

key_by : (is_there : Bool) (table : Table) (key : Key)
    → firm_table (if is_there then with_doubly_defined key table else with_definition key (labelled table) table)
    ≡ (if is_there then with_doubly_defined key (firm_table table) else with_definition key (labelled (firm_table table)) (firm_table table))
key_by true table key = refl
key_by false table key = definition_firm key (labelled table) table

key_firm : (table : Table) (key : Key) → firm_table (with_key key table) ≡ with_key key (firm_table table)
key_firm table key =
    rw (defined_firm key table.definitions) (key_by (is_defined key table.definitions) table key)

kind_firm : (table : Table) (name : Option Name) (kind : LabelKind)
    → firm_table (with_kind table name kind) ≡ with_kind (firm_table table) name kind
kind_firm table name label.Ordinary = name_firm false table name
kind_firm table name label.Global = name_firm true table name
kind_firm table name (label.Local number) = key_firm table (Numbered table.modes.block number)
kind_firm table name label.Outside = refl

all_firm : (line : List ℕ) (table : Table) (labels : List Label)
    → firm_table (with_labels line table labels) ≡ with_labels line (firm_table table) labels
all_firm line table [] = refl
all_firm line table (named ∷ labels) =
    all_firm line (with_label line table named) labels
    ∙ ap (λ (t : Table). with_labels line t labels) (kind_firm table (label_name line named) named.kind)

pub labels_firm : (table : Table) (line : List ℕ) → firm_table (after_labels_in table line) ≡ after_labels_in (firm_table table) line
labels_firm table line = all_firm line table (labels_at line)
