-- Lines only add sections, each with a new name, and no size of a section gets smaller.
use Rattle.std.proofs.Common.{◌≡◌, ◌∙◌, ℕ, zero, suc, ◌<◌, ◌≤◌, Bool, true, false, if◌then◌else◌, cond, not, List, [], ◌∷◌, ◌++◌, append-nil, append_assoc, get_or, length, map, slice_set, Option, Some, None, refl, sym, ap, subst, true≢false, arith}
use Rattle.std.specs.Prelude.{nat_lt, unwrap_or}
use Rattle.std.specs.List.{list_any, prefix_len}
use Rattle.std.specs.Option.{is_some}
use Rattle.std.proofs.lemmas.Bool.{or_parts}
use Rattle.std.proofs.lemmas.Bool.Decides.{nat_tests}
use Rattle.std.proofs.lemmas.List.{map-append}
use Rattle.std.proofs.lemmas.List.Folds.{list_any-append, list_any_none}
use Rattle.std.proofs.lemmas.List.Sums.{fails_before_first}
use Rattle.m11_base.specs.Devices.{Bytes}
use Rattle.m11_base.specs.Rad50.{Name, is_same_name}
use Rattle.m11_scan_statements.specs.Labels.{labels_at}
use Rattle.m11_scan_statements.specs.declared.labels.Label.{Label}
use Rattle.m11_scan_statements.specs.declared.labels.LabelKind.{LabelKind}
use Rattle.m11_scan_statements.specs.declared.labels.LabelKind.TheVariants as label
use Rattle.m11_unfold_rules.specs.Unfolding.{UnfoldedLine}
use Rattle.m11_asm_rules.specs.Assignments.{assigned, with_assigned}
use Rattle.m11_asm_rules.specs.Changes.{Assigns, Change, Counts, Exports, Keeps, Numbers, Selects, Sets, becomes_global, changed, in_number, numbered, with_new, with_value}
use Rattle.m11_asm_rules.specs.Definitions.{is_defined, is_labelled}
use Rattle.m11_asm_rules.specs.Labels.{global_if, label_name, labelled, with_block, with_definition, with_doubly_defined, with_kind, with_label, with_labels, with_name}
use Rattle.m11_asm_rules.specs.Lines.{after_line, line_change, stands}
use Rattle.m11_asm_rules.specs.Meanings.{Map}
use Rattle.m11_asm_rules.specs.Placements.{after_lines}
use Rattle.m11_asm_rules.specs.Sections.{number_of, section}
use Rattle.m11_asm_rules.specs.Tables.{Table, firm_table, size_of}
use Rattle.m11_asm_rules.specs.declared.definitions.Definition.{Definition}
use Rattle.m11_asm_rules.specs.declared.definitions.Key.{Key}
use Rattle.m11_asm_rules.specs.declared.definitions.Key.TheVariants.{Named, Numbered}
use Rattle.m11_asm_rules.specs.declared.sections.Section.{Section}
use Rattle.m11_cli_image.specs.Refusals.{AreOnce}

-- ---- unique names

abbrev pub name_of : Section → Name
name_of one = one.name

abbrev pub names_of : List Section → List Name
names_of sections = map name_of sections

-- if nothing is found, the search has passed all indices
past : (b : Bool) (first size k : ℕ) → nat_lt first size ≡ b → cond b (Some first) None ≡ None → k < size → k < first
past true first size k e none within = absurd (true≢false (ap is_some none))
past false first size k e none within = grind (arith, nat_tests)

-- if no number is found, no section has the name
none_named : (name : Name) (sections : List Section) → number_of name sections ≡ None
    → list_any (λ (known : Section). is_same_name known.name name) sections ≡ false
none_named name sections e =
    let first : ℕ = prefix_len (λ (known : Section). not (is_same_name known.name name)) sections in
    list_any_none (λ (known : Section). is_same_name known.name name) sections
    (λ k d within. fails_before_first (λ (known : Section). is_same_name known.name name) sections k d
    (past (nat_lt first (length sections)) first (length sections) k refl e within))

once_added : (sections : List Section) (new : Section) → AreOnce (names_of sections)
    → list_any (λ (known : Section). is_same_name known.name new.name) sections ≡ false → AreOnce (names_of (sections ++ new ∷ []))
once_added [] new once none = (refl, tt)
once_added (first ∷ sections) new once none =
    let parts = or_parts (is_same_name first.name new.name) _ none in (
      ap (λ (names : List Name). list_any (is_same_name first.name) names) (map-append name_of sections (new ∷ []))
          ∙ list_any-append (is_same_name first.name) (names_of sections) (new.name ∷ [])
          ∙ rw (once.0, parts.0) refl,
      once_added sections new once.1 parts.1,
    )

-- ---- sections and sizes that grow

pub record Grows (old new : Table) : Type 0 where
  pub more : List Section
  pub sections : new.sections ≡ old.sections ++ more
  pub sizes : (number : ℕ) → size_of number old ≤ size_of number new
  pub once : AreOnce (names_of old.sections) → AreOnce (names_of new.sections)

-- the sections with their counters and sizes, and the section of the next line
pub record Where : Type 0 where
  pub sections : List Section
  pub counters : List ℕ
  pub sizes : List ℕ
  pub section : ℕ

abbrev pub where_of : Table → Where
where_of table =
    record { sections = table.sections; counters = table.counters; sizes = table.sizes; section = table.modes.section }

sections_stay : (old new : Table) → new.sections ≡ old.sections → ((number : ℕ) → size_of number old ≤ size_of number new) → Grows old new
sections_stay old new same sizes = record {
  more = [];
  sections = same ∙ sym (append-nil old.sections);
  sizes = sizes;
  once = λ once. subst (λ (sections : List Section). AreOnce (names_of sections)) (sym same) once;
}

stays : (old new : Table) → where_of new ≡ where_of old → Grows old new
stays old new e =
    let same = ap (λ (w : Where). w.sizes) e in
    sections_stay old new (ap (λ (w : Where). w.sections) e)
    (λ number. subst (λ (sizes : List ℕ). size_of number old ≤ get_or sizes number 0) (sym same) (omega arith))

then_grows : (one two three : Table) → Grows one two → Grows two three → Grows one three
then_grows one two three g h = record {
  more = g.more ++ h.more;
  sections = h.sections ∙ ap (λ (these : List Section). these ++ h.more) g.sections ∙ append_assoc one.sections g.more h.more;
  sizes = λ number. let first = g.sizes number in let next = h.sizes number in omega (arith, first, next);
  once = λ once. h.once (g.once once);
}

-- ---- labels leave the sections, their counters and sizes, and the section of the next line

global_keeps : (is_global : Bool) (name : Name) (table : Table) → where_of (global_if is_global name table) ≡ where_of table
global_keeps true name table = refl
global_keeps false name table = refl

either_keeps : (known : Bool) (key : Key) (definition : Definition) (table : Table)
    → where_of (if known then with_doubly_defined key table else with_definition key definition table) ≡ where_of table
either_keeps true key definition table = refl
either_keeps false key definition table = refl

name_by : (known is_global : Bool) (name : Name) (table : Table)
    → where_of (if known then with_doubly_defined (Named name) table
    else global_if is_global name (with_block (with_definition (Named name) (labelled table) table))) ≡ where_of table
name_by true is_global name table = refl
name_by false is_global name table = global_keeps is_global name (with_block (with_definition (Named name) (labelled table) table))

name_keeps : (is_global : Bool) (table : Table) (name : Option Name) → where_of (with_name is_global table name) ≡ where_of table
name_keeps is_global table (Some name) = name_by (is_defined (Named name) table.definitions) is_global name table
name_keeps is_global table None = refl

pub kind_keeps : (table : Table) (name : Option Name) (kind : LabelKind) → where_of (with_kind table name kind) ≡ where_of table
kind_keeps table name label.Ordinary = name_keeps false table name
kind_keeps table name label.Global = name_keeps true table name
kind_keeps table name (label.Local number) =
    let key : Key = Numbered table.modes.block number in
    either_keeps (is_defined key table.definitions) key (labelled table) table
kind_keeps table name label.Outside = refl

pub labels_keep : (line : Bytes) (table : Table) (labels : List Label) → where_of (with_labels line table labels) ≡ where_of table
labels_keep line table [] = refl
labels_keep line table (named ∷ labels) =
    labels_keep line (with_label line table named) labels ∙ kind_keeps table (label_name line named) named.kind

-- ---- a change

-- if one number is set to another that isn't smaller, none gets smaller
set_grows : (numbers : List ℕ) (here new number : ℕ) → get_or numbers here 0 ≤ new
    → get_or numbers number 0 ≤ get_or (slice_set numbers here new) number 0
set_grows [] here new number le = omega arith
set_grows (one ∷ numbers) zero new zero le = le
set_grows (one ∷ numbers) zero new (suc number) le = omega arith
set_grows (one ∷ numbers) (suc here) new zero le = omega arith
set_grows (one ∷ numbers) (suc here) new (suc number) le = set_grows numbers here new number le

-- if a 0 is added at the end, no number gets smaller
zero_more : (numbers : List ℕ) (number : ℕ) → get_or numbers number 0 ≤ get_or (numbers ++ 0 ∷ []) number 0
zero_more [] zero = omega arith
zero_more [] (suc number) = omega arith
zero_more (one ∷ numbers) zero = omega arith
zero_more (one ∷ numbers) (suc number) = zero_more numbers number

selects : (table : Table) (name : Name) (attributes : ℕ) (found : Option ℕ) → number_of name table.sections ≡ found
    → Grows table (record table {
      sections = with_new found (section name attributes) table.sections;
      counters = with_new found 0 table.counters;
      sizes = with_new found 0 table.sizes;
      modes = in_number (unwrap_or found (length table.sections)) table.modes;
    })
selects table name attributes (Some number) e = sections_stay table _ refl (λ number. omega arith)
selects table name attributes None e = record {
  more = section name attributes ∷ [];
  sections = refl;
  sizes = zero_more table.sizes;
  once = λ once. once_added table.sections (section name attributes) once (none_named name table.sections e);
}

change_grows : (map : Map) (what : Change) (table : Table) → Grows table (changed map what table)
change_grows map Keeps table = stays table table refl
change_grows map (Counts move) table =
    sections_stay table _ refl (λ number. set_grows table.sizes table.modes.section _ number (omega arith))
change_grows map (Selects name attributes) table = selects table name attributes (number_of name table.sections) refl
change_grows map (Assigns name is_global tokens) table =
    stays table (with_value name is_global (assigned map table tokens) table)
    (global_keeps (becomes_global is_global name table) name _
    ∙ either_keeps (is_labelled (Named name) table.definitions) (Named name) (assigned map table tokens) table)
change_grows map (Numbers name number) table =
    stays table (with_assigned (Named name) (numbered number) table)
    (either_keeps (is_labelled (Named name) table.definitions) (Named name) (numbered number) table)
change_grows map (Exports names) table = stays table (changed map (Exports names) table) refl
change_grows map (Sets modes) table = sections_stay table (changed map (Sets modes) table) refl (λ number. omega arith)

-- ---- lines

labels_grow : (table : Table) (given : UnfoldedLine) → Grows table (stands table given)
labels_grow table given =
    stays table (stands table given) (labels_keep given.live.line.text table (labels_at given.live.line.text))

pub operator_grows : (map : Map) (table : Table) (given : UnfoldedLine) → Grows (stands table given) (after_line map table given)
operator_grows map table given =
    change_grows map (line_change (firm_table (stands table given)) given) (stands table given)

pub lines_grow : (map : Map) (table : Table) (lines : List UnfoldedLine) → Grows table (after_lines map table lines)
lines_grow map table [] = stays table table refl
lines_grow map table (given ∷ lines) =
    then_grows table (stands table given) (after_lines map table (given ∷ lines)) (labels_grow table given)
    (then_grows (stands table given) (after_line map table given) (after_lines map table (given ∷ lines)) (operator_grows map table given)
    (lines_grow map (after_line map table given) lines))
