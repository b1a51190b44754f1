-- After the labels of a line, a table records what the labels say.
use Rattle.std.proofs.Common.{◌≡◌, ◌∙◌, ℕ, Bool, true, false, if◌then◌else◌, List, [], ◌∷◌, get_or, Option, Some, None, is_some, option_map, fold, refl, sym, ap, subst}
use Rattle.m11_base.specs.Devices.{Bytes}
use Rattle.m11_base.specs.Rad50.{Name}
use Rattle.m11_scan_expressions.specs.declared.kinds.Kind.{Kind}
use Rattle.m11_scan_expressions.specs.declared.kinds.Kind.TheVariants as kind
use Rattle.m11_scan_statements.specs.Labels.{labels_at}
use Rattle.m11_scan_statements.specs.declared.labels.Label.{Label}
use Rattle.m11_scan_statements.specs.declared.labels.LabelKind.{LabelKind}
use Rattle.m11_scan_statements.specs.declared.labels.LabelKind.TheVariants as label
use Rattle.m11_asm_rules.specs.Definitions.{is_defined}
use Rattle.m11_asm_rules.specs.declared.definitions.Definition.{Definition}
use Rattle.m11_asm_rules.specs.declared.definitions.Key.{Key}
use Rattle.m11_asm_rules.specs.declared.definitions.Key.TheVariants.{Named, Numbered}
use Rattle.m11_asm_rules.specs.declared.definitions.Standing.TheVariants.{Known}
use Rattle.m11_asm_rules.specs.Labels as tables
use Rattle.m11_asm_rules.specs.Locations.{SectionMove, location_in}
use Rattle.m11_asm_rules.specs.Sections.{is_relocatable, numbered}
use Rattle.m11_asm_rules.specs.declared.sections.Section.{Section}
use Rattle.m11_asm_rules.specs.Tables as tables_before
use Rattle.m11_asm_rules.specs.Tables.{Table, location_of}
use Rattle.m11_asm_table_laws.specs.Places.{Place, is_moved, kind_here, number}
use Rattle.m11_asm_table_laws.specs.Said.{Said, also_defining, block, doubly_defining, last_said, location}
use Rattle.m11_asm_table_laws.specs.Lines.{after_labels, also_exporting, by_label, is_global_label, label_key, labelled, with_label}
use Rattle.m11_asm_table_laws.proofs.Knowing.{Knows, Agrees, knows_also, block_known, knows_doubly, knows_name_if, knows_next, knows_no_names, section_known}

-- ---- the section and the location of a line

module _ (place : Place) (said : Said) (table : Table) (agrees : Agrees place said table) where
  knows : Knows place said table
  knows = agrees.knows

  pub location_same : tables_before.location table ≡ location place said
  location_same = agrees.counters table.modes.section ∙ ap (λ (n : ℕ). location_in n said.moves) (section_known place said table knows)

  pub section_same : numbered table.modes.section table.sections ≡ numbered (number place) place.sections
  section_same =
      ap (λ (n : ℕ). numbered n table.sections) (section_known place said table knows)
      ∙ ap (λ (s : List Section). numbered (number place) s) knows.sections

  pub name_same : tables_before.section_name table ≡ place.section
  name_same = ap (λ (s : Section). s.name) section_same ∙ agrees.named

  pub kind_same : tables_before.kind_here table ≡ kind_here place
  kind_same =
      ap (λ (s : Section). if is_relocatable s then kind.Section s.name else kind.Absolute) section_same
      ∙ ap (λ (n : Name). if is_moved place then kind.Section n else kind.Absolute) agrees.named

  pub label_same : tables.labelled table ≡ labelled place said
  label_same =
      ap (λ (n : ℕ). record { standing = Known n (tables_before.kind_here table); is_firm = true; label = Some (tables_before.section_name table) }) location_same
      ∙ ap (λ (k : Kind). record { standing = Known (location place said) k; is_firm = true; label = Some (tables_before.section_name table) }) kind_same
      ∙ ap (λ (n : Name). record { standing = Known (location place said) (kind_here place); is_firm = true; label = Some n }) name_same

  name_by : (is_there is_global : Bool) (name : Name) (definition : Definition) → definition ≡ labelled place said
      → Knows place (if is_there then doubly_defining (Named name) said else also_exporting is_global (Named name) (labelled place said) said)
      (if is_there then tables.with_doubly_defined (Named name) table
      else tables.global_if is_global name (tables.with_block (tables.with_definition (Named name) definition table)))
  name_by true is_global name definition same = knows_doubly place said table knows (Named name)
  name_by false is_global name definition same =
      let P : Definition → Type 0 = λ d. Knows place (also_exporting is_global (Named name) (labelled place said) said)
      (tables.global_if is_global name (tables.with_block (tables.with_definition (Named name) d table))) in
      subst P (sym same)
      (knows_name_if place (also_defining (Named name) (labelled place said) said)
      (tables.with_block (tables.with_definition (Named name) (labelled place said) table))
      (knows_next place said table knows (Named name) (labelled place said) refl) is_global name)

  name_known : (is_global : Bool) (name : Option Name)
      → Knows place (by_label is_global (labelled place said) said (option_map Named name)) (tables.with_name is_global table name)
  name_known is_global None = knows
  name_known is_global (Some name) =
      let P : Bool → Type 0 = λ b. Knows place
      (if b then doubly_defining (Named name) said else also_exporting is_global (Named name) (labelled place said) said)
      (tables.with_name is_global table (Some name)) in
      subst P (ap is_some (knows.definitions (Named name)))
      (name_by (is_defined (Named name) table.definitions) is_global name (tables.labelled table) label_same)

  symbol_by : (is_there : Bool) (number : ℕ) (block : ℕ) (definition : Definition) → definition ≡ labelled place said
      → Knows place (if is_there then doubly_defining (Numbered block number) said else also_exporting false (Numbered block number) (labelled place said) said)
      (if is_there then tables.with_doubly_defined (Numbered block number) table
      else tables.with_definition (Numbered block number) definition table)
  symbol_by true number block definition same = knows_doubly place said table knows (Numbered block number)
  symbol_by false number block definition same =
      let P : Definition → Type 0 = λ d. Knows place (also_exporting false (Numbered block number) (labelled place said) said)
      (tables.with_definition (Numbered block number) d table) in
      subst P (sym same)
      (knows_no_names place (also_defining (Numbered block number) (labelled place said) said)
      (tables.with_definition (Numbered block number) (labelled place said) table)
      (knows_also place said table knows (Numbered block number) (labelled place said) refl))

  symbol_known : (number block : ℕ)
      → Knows place (by_label false (labelled place said) said (Some (Numbered block number))) (tables.with_key (Numbered block number) table)
  symbol_known number block =
      let P : Bool → Type 0 = λ b. Knows place
      (if b then doubly_defining (Numbered block number) said else also_exporting false (Numbered block number) (labelled place said) said)
      (tables.with_key (Numbered block number) table) in
      subst P (ap is_some (knows.definitions (Numbered block number)))
      (symbol_by (is_defined (Numbered block number) table.definitions) number block (tables.labelled table) label_same)

  kind_known : (name : Option Name) (kind : LabelKind)
      → Knows place (by_label (is_global_label kind) (labelled place said) said (label_key (block place said) name kind)) (tables.with_kind table name kind)
  kind_known name label.Ordinary = name_known false name
  kind_known name label.Global = name_known true name
  kind_known name (label.Local number) =
      let P : ℕ → Type 0 = λ n. Knows place (by_label false (labelled place said) said (Some (Numbered (block place said) number)))
      (tables.with_key (Numbered n number) table) in
      subst P (sym (block_known place said table knows)) (symbol_known number (block place said))
  kind_known name label.Outside = knows

-- ---- labels move no counter

counters_by : (is_there is_global : Bool) (name : Name) (table : Table)
    → (if is_there then tables.with_doubly_defined (Named name) table
    else tables.global_if is_global name (tables.with_block (tables.with_definition (Named name) (tables.labelled table) table))).counters
    ≡ table.counters
counters_by true is_global name table = refl
counters_by false true name table = refl
counters_by false false name table = refl

name_counters : (is_global : Bool) (table : Table) (name : Option Name) → (tables.with_name is_global table name).counters ≡ table.counters
name_counters is_global table None = refl
name_counters is_global table (Some name) = counters_by (is_defined (Named name) table.definitions) is_global name table

symbol_counters : (is_there : Bool) (key : Key) (table : Table)
    → (if is_there then tables.with_doubly_defined key table else tables.with_definition key (tables.labelled table) table).counters
    ≡ table.counters
symbol_counters true key table = refl
symbol_counters false key table = refl

kind_counters : (table : Table) (name : Option Name) (kind : LabelKind) → (tables.with_kind table name kind).counters ≡ table.counters
kind_counters table name label.Ordinary = name_counters false table name
kind_counters table name label.Global = name_counters true table name
kind_counters table name (label.Local number) =
    symbol_counters (is_defined (Numbered table.modes.block number) table.definitions) (Numbered table.modes.block number) table
kind_counters table name label.Outside = refl

moves_by : (is_there is_global : Bool) (definition : Definition) (said : Said) (key : Key)
    → (if is_there then doubly_defining key said else also_exporting is_global key definition said).moves ≡ said.moves
moves_by true is_global definition said key = refl
moves_by false is_global definition said key = refl

label_moves : (is_global : Bool) (definition : Definition) (said : Said) (key : Option Key)
    → (by_label is_global definition said key).moves ≡ said.moves
label_moves is_global definition said None = refl
label_moves is_global definition said (Some key) = moves_by (is_some (last_said key said)) is_global definition said key

-- ---- all labels of a line

pub label_agrees : (place : Place) (line : Bytes) (said : Said) (table : Table) (named : Label) → Agrees place said table
    → Agrees place (with_label place line said named) (tables.with_label line table named)
label_agrees place line said table named agrees = record {
  knows = kind_known place said table agrees (tables.label_name line named) named.kind;
  named = agrees.named;
  counters = λ section.
      ap (λ (l : List ℕ). get_or l section 0) (kind_counters table (tables.label_name line named) named.kind)
      ∙ agrees.counters section
      ∙ ap (λ (m : List SectionMove). location_in section m)
      (sym (label_moves (is_global_label named.kind) (labelled place said) said (label_key (block place said) (tables.label_name line named) named.kind)));
}

all_agree : (place : Place) (line : Bytes) (said : Said) (table : Table) (labels : List Label) → Agrees place said table
    → Agrees place (fold (with_label place line) said labels) (tables.with_labels line table labels)
all_agree place line said table [] agrees = agrees
all_agree place line said table (named ∷ labels) agrees =
    all_agree place line (with_label place line said named) (tables.with_label line table named) labels
    (label_agrees place line said table named agrees)

pub labels_agree : (place : Place) (line : Bytes) (said : Said) (table : Table) → Agrees place said table
    → Agrees place (after_labels place line said) (tables.after_labels_in table line)
labels_agree place line said table agrees = all_agree place line said table (labels_at line) agrees

all_moves : (place : Place) (line : Bytes) (said : Said) (labels : List Label)
    → (fold (with_label place line) said labels).moves ≡ said.moves
all_moves place line said [] = refl
all_moves place line said (named ∷ labels) =
    all_moves place line (with_label place line said named) labels
    ∙ label_moves (is_global_label named.kind) (labelled place said) said (label_key (block place said) (tables.label_name line named) named.kind)

pub labels_moves : (place : Place) (line : Bytes) (said : Said) → (after_labels place line said).moves ≡ said.moves
labels_moves place line said = all_moves place line said (labels_at line)
