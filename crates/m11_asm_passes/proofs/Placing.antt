-- The calls of a pass treat a live line as its definition says.
use Rattle.std.proofs.Common.{◌≡◌, ◌∙◌, ◌<◌, ◌≤◌, ℕ, ◌||◌, Bool, true, false, if◌then◌else◌, List, ◌++◌, length, map, append_assoc, Option, Some, None, refl, sym, ap, subst, arith}
use Rattle.std.proofs.lemmas.Bool.Decides.{nat_tests}
use Rattle.std.specs.Prelude.{nat_lt}
use Rattle.m11_scan_expressions.specs.Expressions.{KnownSymbols}
use Rattle.m11_scan_expressions.specs.Remarks.{Remarks}
use Rattle.m11_asm_faults.specs.declared.fault.AsmFault.TheVariants.{TooManySymbols, TooManySections}
use Rattle.m11_base.specs.Devices.{Bytes}
use Rattle.m11_base.specs.Rad50.{Name}
use Rattle.m11_unfold_rules.specs.Acting.{act, act_fault}
use Rattle.m11_unfold_rules.specs.Stages.{Stage}
use Rattle.m11_unfold_rules.specs.Taking.{Live}
use Rattle.m11_unfold_rules.specs.Unfolding.{UnfoldedLine}
use Rattle.m11_unfold_bodies.specs.Left.{argument_count}
use Rattle.m11_asm_rules.specs.Assignments.{assigned, with_assigned}
use Rattle.m11_asm_rules.specs.Changes.{Change, Keeps, Counts, Selects, Assigns, Numbers, Exports, Sets, becomes_global, changed, numbered}
use Rattle.m11_asm_rules.specs.Definitions.{is_labelled}
use Rattle.m11_asm_rules.specs.Labels.{global_if, after_labels_in, with_definition, with_doubly_defined}
use Rattle.m11_asm_rules.specs.declared.definitions.Key.TheVariants.{Named}
use Rattle.m11_asm_rules.specs.Items.{action_items, assigned_items}
use Rattle.m11_asm_rules.specs.Limits as limits
use Rattle.m11_asm_rules.specs.Limits.{has_too_many, limit_fault, most_names, most_sections}
use Rattle.m11_asm_rules.specs.Actions.{Action, Operation}
use Rattle.m11_asm_rules.specs.Operations.{action, operation}
use Rattle.m11_asm_rules.specs.Lines.{after_line, change_of, emission_by, line_change, line_emission, stands}
use Rattle.m11_asm_rules.specs.Meanings.{Map}
use Rattle.m11_asm_rules.specs.declared.meanings.Context.TheVariants.{LocalOnly}
use Rattle.m11_asm_rules.specs.SymbolUses.{SymbolUse, action_uses, symbol_use, symbol_uses}
use Rattle.m11_asm_rules.specs.Tables.{Table, firm_table}
use Rattle.m11_asm_rules.specs.declared.sections.Section.{Section}
use Rattle.m11_asm_rules.specs.Unfolded.{known_after_labels}
use Rattle.m11_asm_lines.proofs.Gathering.{all_joined}
use Rattle.m11_asm_lines.specs.Counting.{names_counted, with_counted}
use Rattle.m11_asm_lines.specs.declared.counting.Counting.{Counting}
use Rattle.m11_asm_lines.specs.declared.counting.Counting.TheVariants.{SymbolUses, Definitions}
use Rattle.m11_asm_passes.specs.Lines.{acted}
use Rattle.m11_asm_passes.specs.Operated.{uses_after}
use Rattle.m11_asm_passes.specs.Refusals.{given_by, labels_fault, line_fault, uses_of_labels, of_limit}

-- ---- limits

pub within : (most some : ℕ) → some ≤ most → nat_lt most some ≡ false
within most some few = grind (arith, nat_tests, few)

past : (most some : ℕ) → most < some → nat_lt most some ≡ true
past most some many = grind (arith, nat_tests, many)

pub fits_limits : (names : List Name) (table : Table) → length names ≤ most_names → has_too_many table ≡ false
    → length table.sections ≤ most_sections → limit_fault names table ≡ None
fits_limits names table few room sections =
    limit_by (nat_lt most_names (length names)) (has_too_many table) (nat_lt most_sections (length table.sections))
    (within most_names (length names) few) room ∙ ap (λ (b : Bool). if b then Some limits.TooManySections else None)
    (within most_sections (length table.sections) sections)
  where
    limit_by : (names many sections : Bool) → names ≡ false → many ≡ false
        → (if names || many then Some limits.TooManySymbols else (if sections then Some limits.TooManySections else None))
        ≡ (if sections then Some limits.TooManySections else None)
    limit_by names many sections few room =
        ap (λ (b : Bool). if b || many then Some limits.TooManySymbols else (if sections then Some limits.TooManySections else None)) few
        ∙ ap (λ (b : Bool). if b then Some limits.TooManySymbols else (if sections then Some limits.TooManySections else None)) room

names_past : (names : List Name) (table : Table) → most_names < length names
    → of_limit (limit_fault names table) ≡ Some TooManySymbols
names_past names table many = rw (past most_names (length names) many) refl

or_true : (b : Bool) → (b || true) ≡ true
or_true true = refl
or_true false = refl

-- if a table has too many names or too many local symbols, the exceeded limit is that of symbols
table_past : (names : List Name) (table : Table) → has_too_many table ≡ true
    → of_limit (limit_fault names table) ≡ Some TooManySymbols
table_past names table many =
    ap (λ (b : Bool). of_limit (if b then Some limits.TooManySymbols
    else (if nat_lt most_sections (length table.sections) then Some limits.TooManySections else None)))
    (ap (λ (b : Bool). nat_lt most_names (length names) || b) many ∙ or_true (nat_lt most_names (length names)))

sections_past : (names : List Name) (table : Table) → length names ≤ most_names → has_too_many table ≡ false
    → most_sections < length table.sections → of_limit (limit_fault names table) ≡ Some TooManySections
sections_past names table few room many =
    ap (λ (b : Bool). of_limit (if b then Some limits.TooManySymbols
    else (if nat_lt most_sections (length table.sections) then Some limits.TooManySections else None)))
    (ap (λ (b : Bool). b || has_too_many table) (within most_names (length names) few) ∙ room)
    ∙ ap (λ (b : Bool). of_limit (if b then Some limits.TooManySections else None)) (past most_sections (length table.sections) many)

-- ---- a change that exceeds the limit of sections selects a section, and so defines no name

too_few : (some : ℕ) → some ≤ most_sections → most_sections < some → ⊥
too_few some few many = omega (arith, few, many)

choice_sections : (choice : Bool) (one other : Table) (sections : List Section) → one.sections ≡ sections → other.sections ≡ sections
    → (if choice then one else other).sections ≡ sections
choice_sections true one other sections first second = first
choice_sections false one other sections first second = second

global_sections : (is_global : Bool) (name : Name) (table : Table) → (global_if is_global name table).sections ≡ table.sections
global_sections true name table = refl
global_sections false name table = refl

selects_only : (map_ : Map) (change : Change) (table : Table) → length table.sections ≤ most_sections
    → most_sections < length (changed map_ change table).sections
    → has_too_many (changed map_ change table) ≡ has_too_many table
selects_only map_ Keeps table few many = refl
selects_only map_ (Counts move) table few many = refl
selects_only map_ (Selects name attributes) table few many = refl
selects_only map_ (Assigns name is_global tokens) table few many =
    let M : List Section → Type 0 = λ l. most_sections < length l in
    absurd (too_few (length table.sections) few
    (subst M (global_sections (becomes_global is_global name table) name (with_assigned (Named name) (assigned map_ table tokens) table)
    ∙ choice_sections (is_labelled (Named name) table.definitions) (with_doubly_defined (Named name) table)
    (with_definition (Named name) (assigned map_ table tokens) table) table.sections refl refl) many))
selects_only map_ (Numbers name number) table few many =
    let M : List Section → Type 0 = λ l. most_sections < length l in
    absurd (too_few (length table.sections) few
    (subst M (choice_sections (is_labelled (Named name) table.definitions) (with_doubly_defined (Named name) table)
    (with_definition (Named name) (numbered number) table) table.sections refl refl) many))
selects_only map_ (Exports names) table few many = refl
selects_only map_ (Sets modes) table few many = refl

-- ---- uses in two parts

counted_joined : (first second : List SymbolUse) (counting : Counting)
    → with_counted (first ++ second) counting ≡ with_counted second (with_counted first counting)
counted_joined first second (SymbolUses used_names) = ap SymbolUses (all_joined first second used_names)
counted_joined first second Definitions = refl

-- the symbols that the operator of a line uses
abbrev operator_uses : Table → UnfoldedLine → List SymbolUse
operator_uses table given =
    action_uses (stands table given) given.live.line.text (action given.is_own given.arguments given.live.line.text)

used_then : (table : Table) (given : UnfoldedLine) (counting : Counting)
    → with_counted (symbol_uses table given) counting
    ≡ with_counted (map (symbol_use LocalOnly) given.remarks.symbols ++ operator_uses table given)
    (with_counted (uses_of_labels given.live.line.text) counting)
used_then table given counting =
    ap (λ (ms : List SymbolUse). with_counted ms counting)
    (append_assoc (uses_of_labels given.live.line.text) (map (symbol_use LocalOnly) given.remarks.symbols) (operator_uses table given))
    ∙ counted_joined (uses_of_labels given.live.line.text)
    (map (symbol_use LocalOnly) given.remarks.symbols ++ operator_uses table given) counting

-- ---- one line, by the table before it

-- the results of unfolding for the operator of a line
pub record Act : Type 0 where
  pub is_own : Bool
  pub remarks : Remarks
  pub arguments : Option ℕ

pub record IsActOf (known : KnownSymbols) (text : Bytes) (before after : Stage) (done : Act) : Type 0 where
  pub fits : act_fault before text ≡ None
  pub stage_is : after ≡ (act known before text).after
  pub own_is : done.is_own ≡ (act known before text).is_own
  pub remarks_are : done.remarks ≡ (act known before text).remarks
  pub arguments_are : done.arguments ≡ argument_count before.left

module _ (map_ : Map) (table : Table) (live : Live) (before after : Stage) (done : Act) (stood : Table) (counting : Counting)
    (stand : stood ≡ after_labels_in table live.line.text) (acts : IsActOf (known_after_labels stood) live.line.text before after done) where
  abbrev text : Bytes
  text = live.line.text

  abbrev line : UnfoldedLine
  line = given_by table live before

  known_so : known_after_labels stood ≡ line.known
  known_so = ap (λ (t : Table). known_after_labels t) stand

  own_so : done.is_own ≡ line.is_own
  own_so = acts.own_is ∙ ap (λ (k : KnownSymbols). (act k before text).is_own) known_so

  pub remarks_so : done.remarks ≡ line.remarks
  remarks_so = acts.remarks_are ∙ ap (λ (k : KnownSymbols). (act k before text).remarks) known_so

  pub stage_so : after ≡ acted table live before
  stage_so = acts.stage_is ∙ ap (λ (k : KnownSymbols). (act k before text).after) known_so

  pub operation_so : operation done.is_own done.arguments text ≡ operation line.is_own line.arguments text
  operation_so =
      ap (λ (b : Bool). operation b done.arguments text) own_so
      ∙ ap (λ (n : Option ℕ). operation line.is_own n text) acts.arguments_are

  -- a function of the table after the labels and of the action found has the same value for the line
  found_so : {A : Type 0} (said : Table → Action → A)
      → said stood (action done.is_own done.arguments text) ≡ said (stands table line) (action line.is_own line.arguments text)
  found_so said =
      ap (λ (t : Table). said t (action done.is_own done.arguments text)) stand
      ∙ ap (λ (o : Operation). said (stands table line) o.action) operation_so

  pub put_so : emission_by map_ stood text (action done.is_own done.arguments text) ≡ line_emission map_ (stands table line) line
  unfolding line_emission
  put_so = found_so (λ t does. emission_by map_ t text does)

  uses_so : uses_after stood text done.remarks (action done.is_own done.arguments text)
      ≡ map (symbol_use LocalOnly) line.remarks.symbols ++ operator_uses table line
  uses_so =
      ap (λ (n : Remarks). map (symbol_use LocalOnly) n.symbols ++ action_uses stood text (action done.is_own done.arguments text)) remarks_so
      ∙ ap (λ (ms : List SymbolUse). map (symbol_use LocalOnly) line.remarks.symbols ++ ms)
      (found_so (λ t does. action_uses t text does))

  pub counting_so : with_counted (uses_after stood text done.remarks (action done.is_own done.arguments text))
      (with_counted (uses_of_labels text) counting) ≡ with_counted (symbol_uses table line) counting
  counting_so =
      ap (λ (ms : List SymbolUse). with_counted ms (with_counted (uses_of_labels text) counting)) uses_so
      ∙ sym (used_then table line counting)

  pub after_so : changed map_ (change_of (firm_table stood) text (action done.is_own done.arguments text)) stood
      ≡ after_line map_ table line
  unfolding line_change
  after_so = found_so (λ t does. changed map_ (change_of (firm_table t) text does) t)

  pub shown_so : action_items map_ stood (action done.is_own done.arguments text) ≡ assigned_items map_ table line
  shown_so = found_so (λ t does. action_items map_ t does)

  -- ---- limits, if the labels exceed none

  module _ (fits : labels_fault counting table text ≡ None) where
    -- if the line and those before it use too many names, its fault is `TooManySymbols`
    pub uses_refused : most_names < length (names_counted (with_counted (symbol_uses table line) counting))
        → line_fault map_ table counting live before ≡ Some TooManySymbols
    uses_refused many =
        rw (fits, acts.fits)
        (names_past (names_counted (with_counted (symbol_uses table line) counting)) (after_line map_ table line) many)

    -- if the line defines one name or local symbol too many, its fault is `TooManySymbols`
    pub defined_refused : has_too_many (after_line map_ table line) ≡ true → line_fault map_ table counting live before ≡ Some TooManySymbols
    defined_refused many =
        rw (fits, acts.fits)
        (table_past (names_counted (with_counted (symbol_uses table line) counting)) (after_line map_ table line) many)

    module _ (few : length (names_counted (with_counted (symbol_uses table line) counting)) ≤ most_names) where
      -- if the line selects one section too many, its fault is `TooManySections`
      pub sections_refused : has_too_many (stands table line) ≡ false → length (stands table line).sections ≤ most_sections
          → most_sections < length (after_line map_ table line).sections → line_fault map_ table counting live before ≡ Some TooManySections
      sections_refused room sections many =
          let same = selects_only map_ (line_change (firm_table (stands table line)) line) (stands table line) sections many in
          rw (fits, acts.fits)
          (sections_past (names_counted (with_counted (symbol_uses table line) counting)) (after_line map_ table line) few (same ∙ room) many)

      -- if none of these limits is exceeded, the line has no fault
      pub line_fits : has_too_many (after_line map_ table line) ≡ false → length (after_line map_ table line).sections ≤ most_sections
          → line_fault map_ table counting live before ≡ None
      line_fits room sections =
          rw (fits, acts.fits)
          (ap of_limit
          (fits_limits (names_counted (with_counted (symbol_uses table line) counting)) (after_line map_ table line) few room sections))
