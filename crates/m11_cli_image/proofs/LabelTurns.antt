-- The effect of each step of a source on the last definition of a name: a label stays, and is added only if the name isn't defined.
use Rattle.std.proofs.Common.{◌≡◌, ◌∙◌, ◌⊎◌, inl, inr, ℕ, Bool, true, false, if◌then◌else◌, Option, Some, None, refl, sym, ap, subst, true≢false}
use Rattle.std.specs.Option.{is_some}
use Rattle.m11_base.specs.Rad50.{Name, is_same_name}
use Rattle.m11_base.proofs.SameNames.{same_name_equal}
use Rattle.m11_asm_rules.specs.Assignments.{assigned, with_assigned}
use Rattle.m11_asm_rules.specs.Changes as change
use Rattle.m11_asm_rules.specs.Changes.{Change, becomes_global, changed, numbered}
use Rattle.m11_asm_rules.specs.Definitions.{is_defined, is_labelled, is_of_label, is_same, last_definition}
use Rattle.m11_asm_rules.specs.Labels.{global_if, labelled, with_block, with_definition, with_doubly_defined, with_kind, with_name}
use Rattle.m11_asm_rules.proofs.LastDefinitions.{last_more}
use Rattle.m11_asm_rules.specs.Meanings.{Map}
use Rattle.m11_asm_rules.specs.Tables.{Table}
use Rattle.m11_asm_rules.specs.declared.definitions.Definition.{Definition}
use Rattle.m11_asm_rules.specs.declared.definitions.Key.{Key}
use Rattle.m11_asm_rules.specs.declared.definitions.Key.TheVariants.{Named, Numbered}
use Rattle.m11_scan_statements.specs.declared.labels.LabelKind.{LabelKind}
use Rattle.m11_scan_statements.specs.declared.labels.LabelKind.TheVariants as label

-- ---- last definitions

pub none_found : (found : Option Definition) → is_some found ≡ false → found ≡ None
none_found None e = refl
none_found (Some definition) e = absurd (true≢false e)

-- ---- the effect of a step

-- labels leave the last definition of a name, or define the name if it isn't defined
pub data Marks (table : Table) (old new : Option Definition) : Type 0 where
  Stays : new ≡ old → Marks table old new
  Marked : old ≡ None → new ≡ Some (labelled table) → Marks table old new

-- other steps do the same, or give a value to a name that is no label
pub data Turns (table : Table) (old new : Option Definition) : Type 0 where
  Marking : Marks table old new → Turns table old new
  Valued : (definition : Definition) → is_of_label old ≡ false → new ≡ Some definition → definition.label ≡ None → Turns table old new

-- this definition is the last one found, and is a label's
abbrev pub IsLabel : Definition → Option Definition → Type 0
IsLabel definition found = (found ≡ Some definition) × (is_some definition.label ≡ true)

not_none : (definition : Definition) → Some definition ≡ None → ⊥
not_none definition e = absurd (true≢false (ap is_some e))

pub label_stays : (table : Table) (definition : Definition) (old new : Option Definition) → Turns table old new
    → IsLabel definition old → IsLabel definition new
label_stays table definition old new (Marking (Stays e)) h = (e ∙ h.0, h.1)
label_stays table definition old new (Marking (Marked e f)) h = absurd (not_none definition (sym h.0 ∙ e))
label_stays table definition old new (Valued other e f g) h = absurd (true≢false (sym h.1 ∙ (sym (ap is_of_label h.0) ∙ e)))

-- no definition is found yet, or this one is
abbrev pub IsOrNone : Definition → Option Definition → Type 0
IsOrNone definition found = (found ≡ None) ⊎ (found ≡ Some definition)

some_is : (one other : Definition) → Some one ≡ Some other → one.label ≡ other.label
some_is one other e = ap (λ (o : Option Definition). label_in o) e
  where
    label_in : Option Definition → Option Name
    label_in (Some definition) = definition.label
    label_in None = None

pub or_none_before : (table : Table) (definition : Definition) (old new : Option Definition) → Turns table old new
    → is_some definition.label ≡ true → IsOrNone definition new → IsOrNone definition old
or_none_before table definition old new (Marking (Stays e)) l (inl h) = inl (sym e ∙ h)
or_none_before table definition old new (Marking (Stays e)) l (inr h) = inr (sym e ∙ h)
or_none_before table definition old new (Marking (Marked e f)) l h = inl e
or_none_before table definition old new (Valued other e f g) l (inl h) = absurd (not_none other (sym f ∙ h))
or_none_before table definition old new (Valued other e f g) l (inr h) =
    absurd (true≢false (sym (sym (ap is_some g) ∙ (ap is_some (some_is other definition (sym f ∙ h)) ∙ l))))

-- ---- steps

module _ (name : Name) where
  abbrev pub last : Table → Option Definition
  last table = last_definition (Named name) table.definitions

  abbrev pub LabelMarks : Table → Table → Type 0
  LabelMarks old new = Marks old (last old) (last new)

  abbrev pub LineTurns : Table → Table → Type 0
  LineTurns old new = Turns old (last old) (last new)

  added : (table : Table) (key : Key) (definition : Definition) (same : Bool) → is_same key (Named name) ≡ same
      → last (with_definition key definition table) ≡ (if same then Some definition else last table)
  added table key definition same e =
      last_more (Named name) table.definitions key definition ∙ ap (λ (b : Bool). if b then Some definition else last table) e

  global_marks : (old table : Table) (is_global : Bool) (other : Name) → LabelMarks old table → LabelMarks old (global_if is_global other table)
  global_marks old table true other marks = marks
  global_marks old table false other marks = marks

  global_turns : (old table : Table) (is_global : Bool) (other : Name) → LineTurns old table → LineTurns old (global_if is_global other table)
  global_turns old table true other turns = turns
  global_turns old table false other turns = turns

  -- a label defines its name if the name isn't defined
  new_label : (table : Table) (other : Name) (same : Bool) → is_same_name other name ≡ same → is_defined (Named other) table.definitions ≡ false
      → LabelMarks table (with_definition (Named other) (labelled table) table)
  new_label table other true e f =
      Marked (none_found (last table) (subst (λ (n : Name). is_defined (Named n) table.definitions ≡ false) (same_name_equal other name e) f))
      (added table (Named other) (labelled table) true e)
  new_label table other false e f = Stays (added table (Named other) (labelled table) false e)

  name_by : (table : Table) (is_global : Bool) (other : Name) (known : Bool) → is_defined (Named other) table.definitions ≡ known
      → LabelMarks table (if known then with_doubly_defined (Named other) table
      else global_if is_global other (with_block (with_definition (Named other) (labelled table) table)))
  name_by table is_global other true e = Stays refl
  name_by table is_global other false e =
      global_marks table (with_block (with_definition (Named other) (labelled table) table)) is_global other
      (new_label table other (is_same_name other name) refl e)

  name_marks : (table : Table) (is_global : Bool) (other : Option Name) → LabelMarks table (with_name is_global table other)
  name_marks table is_global (Some other) = name_by table is_global other (is_defined (Named other) table.definitions) refl
  name_marks table is_global None = Stays refl

  local_marks : (table : Table) (block number : ℕ) (known : Bool)
      → LabelMarks table (if known then with_doubly_defined (Numbered block number) table
      else with_definition (Numbered block number) (labelled table) table)
  local_marks table block number true = Stays refl
  local_marks table block number false = Stays refl

  pub kind_marks : (table : Table) (other : Option Name) (kind : LabelKind) → LabelMarks table (with_kind table other kind)
  kind_marks table other label.Ordinary = name_marks table false other
  kind_marks table other label.Global = name_marks table true other
  kind_marks table other (label.Local number) =
      local_marks table table.modes.block number (is_defined (Numbered table.modes.block number) table.definitions)
  kind_marks table other label.Outside = Stays refl

  -- an assignment gives a name a value if the name is no label
  value_turns : (table : Table) (other : Name) (definition : Definition) (known : Bool) → definition.label ≡ None
      → is_labelled (Named other) table.definitions ≡ known
      → LineTurns table (if known then with_doubly_defined (Named other) table else with_definition (Named other) definition table)
  value_turns table other definition true l e = Marking (Stays refl)
  value_turns table other definition false l e = by (is_same_name other name) refl
    where
      by : (same : Bool) → is_same_name other name ≡ same → LineTurns table (with_definition (Named other) definition table)
      by true f =
          Valued definition (subst (λ (n : Name). is_labelled (Named n) table.definitions ≡ false) (same_name_equal other name f) e)
          (added table (Named other) definition true f) l
      by false f = Marking (Stays (added table (Named other) definition false f))

  pub change_turns : (known : Map) (what : Change) (table : Table) → LineTurns table (changed known what table)
  change_turns known change.Keeps table = Marking (Stays refl)
  change_turns known (change.Counts move) table = Marking (Stays refl)
  change_turns known (change.Selects other attributes) table = Marking (Stays refl)
  change_turns known (change.Assigns other is_global tokens) table =
      global_turns table (with_assigned (Named other) (assigned known table tokens) table) (becomes_global is_global other table) other
      (value_turns table other (assigned known table tokens) (is_labelled (Named other) table.definitions) refl refl)
  change_turns known (change.Numbers other number) table =
      value_turns table other (numbered number) (is_labelled (Named other) table.definitions) refl refl
  change_turns known (change.Exports names) table = Marking (Stays refl)
  change_turns known (change.Sets modes) table = Marking (Stays refl)
