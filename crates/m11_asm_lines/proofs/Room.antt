-- Whether a table has too many names or local symbols, by what a pass counts.
use Rattle.std.proofs.Common.{◌≡◌, ◌∙◌, ◌<◌, ◌≤◌, ℕ, ◌+◌, ◌||◌, Bool, true, false, length, Result, Ok, Err, IfErr, IsErrAnd, refl, sym, ap, subst, arith, true≢false}
use Rattle.std.proofs.lemmas.Bool.Decides.{nat_tests}
use Rattle.std.specs.Prelude.{nat_lt, not, ◌&&◌, if◌then◌else◌, is_some, List, Option, Some, None}
use Rattle.m11_asm_faults.specs.declared.fault.AsmFault.{AsmFault}
use Rattle.m11_asm_faults.specs.declared.fault.AsmFault.TheVariants.{TooManySymbols, TooManySections, NoMemory}
use Rattle.m11_base.specs.Rad50.{Name}
use Rattle.m11_asm_rules.specs.Labels.{global_if, with_definition, with_doubly_defined}
use Rattle.m11_asm_rules.specs.Limits.{has_too_many, local_count, most_defined_names, most_local_symbols, most_sections, name_count}
use Rattle.m11_asm_rules.specs.Changes.{with_value}
use Rattle.m11_asm_rules.specs.Definitions.{is_defined, is_labelled, is_of_label, last_definition}
use Rattle.m11_asm_rules.specs.Tables.{Table}
use Rattle.m11_asm_rules.specs.declared.definitions.Definition.{Definition}
use Rattle.m11_asm_rules.specs.declared.sections.Section.{Section}
use Rattle.m11_asm_rules.specs.declared.definitions.Key.TheVariants.{Named, Numbered}
use Rattle.m11_asm_rules.proofs.LastDefinitions.{entry_fits, new_counts, new_symbol_counts}
use Rattle.m11_asm_lines.specs.Assigned.{with_assignment}
use Rattle.m11_asm_lines.specs.Faults.{HasTooMany, Overfills, OverfillsFirst}

-- ---- by numbers

within : (most some : ℕ) → some ≤ most → nat_lt most some ≡ false
within most some few = grind (arith, nat_tests, few)

past : (most some : ℕ) → most < some → nat_lt most some ≡ true
past most some many = grind (arith, nat_tests, many)

or_true : (b : Bool) → (b || true) ≡ true
or_true true = refl
or_true false = refl

pub few_of_both : (table : Table) → name_count table ≤ most_defined_names → local_count table ≤ most_local_symbols
    → has_too_many table ≡ false
few_of_both table names symbols =
    ap (λ (b : Bool). b || nat_lt most_local_symbols (local_count table)) (within most_defined_names (name_count table) names)
    ∙ within most_local_symbols (local_count table) symbols

pub many_names : (table : Table) → most_defined_names < name_count table → has_too_many table ≡ true
many_names table many =
    ap (λ (b : Bool). b || nat_lt most_local_symbols (local_count table)) (past most_defined_names (name_count table) many)

pub many_symbols : (table : Table) → most_local_symbols < local_count table → has_too_many table ≡ true
many_symbols table many =
    ap (λ (b : Bool). nat_lt most_defined_names (name_count table) || b) (past most_local_symbols (local_count table) many)
    ∙ or_true (nat_lt most_defined_names (name_count table))

-- ---- a table that defines at least as many names and local symbols as another

pub record AtLeast (one other : Table) : Type 0 where
  pub names : name_count one ≤ name_count other
  pub symbols : local_count one ≤ local_count other

pub as_many : (table : Table) → AtLeast table table
as_many table = record { names = omega arith; symbols = omega arith }

past_more : (most some all : ℕ) → some ≤ all → nat_lt most some ≡ true → nat_lt most all ≡ true
past_more most some all more many = grind (arith, nat_tests, more, many)

or_more : (a b c d : Bool) → (a ≡ true → c ≡ true) → (b ≡ true → d ≡ true) → (a || b) ≡ true → (c || d) ≡ true
or_more true b c d first second many = ap (λ (x : Bool). x || d) (first refl)
or_more false b c d first second many = ap (λ (x : Bool). c || x) (second many) ∙ or_true c

pub many_more : (one other : Table) → AtLeast one other → has_too_many one ≡ true → has_too_many other ≡ true
many_more one other more many =
    or_more (nat_lt most_defined_names (name_count one)) (nat_lt most_local_symbols (local_count one))
    (nat_lt most_defined_names (name_count other)) (nat_lt most_local_symbols (local_count other))
    (past_more most_defined_names (name_count one) (name_count other) more.names)
    (past_more most_local_symbols (local_count one) (local_count other) more.symbols) many

-- ---- a fault that refuses a table refuses each table that defines at least as many names and local symbols

pub refuses_more : (fault : AsmFault) (one other : Table) → AtLeast one other → HasTooMany fault one → HasTooMany fault other
refuses_more TooManySymbols one other more refuses = many_more one other more refuses
refuses_more NoMemory one other more refuses = tt
refuses_more other_fault one other more refuses = refuses

-- a fault that refuses definitions refuses a change with the same table after it
pub overfills : (fault : AsmFault) (after : Table) → length after.sections ≤ most_sections → OverfillsFirst fault after → Overfills fault after
overfills TooManySymbols after sections refuses = refuses.overfills
overfills TooManySections after sections refuses = absurd refuses.overfills
overfills NoMemory after sections refuses = (refuses.limits_first refl, sections)
overfills other after sections refuses = absurd refuses.overfills

-- memory may be refused for a change after which the table is within its limits
pub lacks : (after : Table) → name_count after ≤ most_defined_names → local_count after ≤ most_local_symbols
    → length after.sections ≤ most_sections → Overfills NoMemory after
lacks after names symbols sections = (few_of_both after names symbols, sections)

pub lacks_so : {A : Type 0} (result : Result A AsmFault) (after : Table) → name_count after ≤ most_defined_names
    → local_count after ≤ most_local_symbols → length after.sections ≤ most_sections
    → IsErrAnd result (λ fault. fault ≡ NoMemory) → IfErr result (λ fault. Overfills fault after)
lacks_so (Ok value) after names symbols sections is = tt
lacks_so (Err fault) after names symbols sections is =
    let P : AsmFault → Type 0 = λ f. Overfills f after in subst P (sym is) (lacks after names symbols sections)

-- ---- a definition for which there is no room, or for which there is room

pub full : (after : Table) → has_too_many after ≡ true → OverfillsFirst TooManySymbols after
full after many = record { overfills = many; limits_first = λ none. absurd (other_fault none) }
  where
    other_fault : TooManySymbols ≡ NoMemory → ⊥
    other_fault e = cc

pub without_memory : (after : Table) → has_too_many after ≡ false → OverfillsFirst NoMemory after
without_memory after few = record { overfills = tt; limits_first = λ none. few }

-- a name that is new when all names are defined is one too many, and only such a name
pub full_so : (name : Name) (definition : Definition) (table : Table) → name_count table ≤ most_defined_names
    → local_count table ≤ most_local_symbols → most_defined_names ≤ name_count table → (is_known : Bool)
    → is_known ≡ is_defined (Named name) table.definitions → not is_known ≡ has_too_many (with_definition (Named name) definition table)
full_so name definition table names symbols many true known =
    sym (few_of_both (with_definition (Named name) definition table)
    (entry_fits name definition table.definitions.names most_defined_names (λ new. absurd (true≢false (known ∙ new))) names) symbols)
full_so name definition table names symbols many false known =
    let more : name_count (with_definition (Named name) definition table) ≡ name_count table + 1
    = new_counts name definition table (sym known) in
    sym (many_names (with_definition (Named name) definition table) (omega (arith, more, many)))

pub room_so : (name : Name) (definition : Definition) (table : Table) → local_count table ≤ most_local_symbols
    → name_count table < most_defined_names → false ≡ has_too_many (with_definition (Named name) definition table)
room_so name definition table symbols few =
    sym (few_of_both (with_definition (Named name) definition table)
    (entry_fits name definition table.definitions.names most_defined_names (λ new. few) (omega (arith, few))) symbols)

pub name_full : (name : Name) (definition : Definition) (table : Table) → is_defined (Named name) table.definitions ≡ false
    → most_defined_names ≤ name_count table → OverfillsFirst TooManySymbols (with_definition (Named name) definition table)
name_full name definition table new many =
    let more : name_count (with_definition (Named name) definition table) ≡ name_count table + 1 = new_counts name definition table new in
    full (with_definition (Named name) definition table)
    (many_names (with_definition (Named name) definition table) (omega (arith, more, many)))

pub symbol_full : (block number : ℕ) (definition : Definition) (table : Table) → is_defined (Numbered block number) table.definitions ≡ false
    → most_local_symbols ≤ local_count table → OverfillsFirst TooManySymbols (with_definition (Numbered block number) definition table)
symbol_full block number definition table new many =
    let more : local_count (with_definition (Numbered block number) definition table) ≡ local_count table + 1
    = new_symbol_counts block number definition table new in
    full (with_definition (Numbered block number) definition table)
    (many_symbols (with_definition (Numbered block number) definition table) (omega (arith, more, many)))

pub name_fits : (name : Name) (definition : Definition) (table : Table) → name_count table ≤ most_defined_names
    → local_count table ≤ most_local_symbols → (is_defined (Named name) table.definitions ≡ false → name_count table < most_defined_names)
    → OverfillsFirst NoMemory (with_definition (Named name) definition table)
name_fits name definition table names symbols room =
    without_memory (with_definition (Named name) definition table)
    (few_of_both (with_definition (Named name) definition table)
    (entry_fits name definition table.definitions.names most_defined_names room names) symbols)

pub symbol_fits : (block number : ℕ) (definition : Definition) (table : Table) → name_count table ≤ most_defined_names
    → local_count table ≤ most_local_symbols
    → (is_defined (Numbered block number) table.definitions ≡ false → local_count table < most_local_symbols)
    → OverfillsFirst NoMemory (with_definition (Numbered block number) definition table)
symbol_fits block number definition table names symbols room =
    without_memory (with_definition (Numbered block number) definition table)
    (few_of_both (with_definition (Numbered block number) definition table) names
    (entry_fits (block, number) definition table.definitions.local_symbols most_local_symbols room symbols))

pub overfills_first : {A : Type 0} (result : Result A AsmFault) (after : Table) → OverfillsFirst NoMemory after
    → IsErrAnd result (λ fault. fault ≡ NoMemory) → IfErr result (λ fault. OverfillsFirst fault after)
overfills_first (Ok value) after none is = tt
overfills_first (Err fault) after none is = let P : AsmFault → Type 0 = λ f. OverfillsFirst f after in subst P (sym is) none

-- ---- a value that is assigned to a name

of_label_is_known : (found : Option Definition) → is_of_label found ≡ true → is_some found ≡ true
of_label_is_known (Some definition) is = refl
of_label_is_known None is = absurd (true≢false (sym is))

labelled_is_known : (name : Name) (table : Table) → is_labelled (Named name) table.definitions ≡ true
    → is_defined (Named name) table.definitions ≡ true
labelled_is_known name table is = of_label_is_known (last_definition (Named name) table.definitions) is

module _ (name : Name) (definition : Definition) (table : Table) where
  abbrev defined : Table
  defined = with_definition (Named name) definition table

  -- the table after the assignment, if the name's last definition is a label's, and if not
  abbrev after : Bool → Bool → Table
  after is_global labelled =
      global_if (is_global && not labelled) name (if labelled then with_doubly_defined (Named name) table else defined)

  module _ (names : name_count table ≤ most_defined_names) (symbols : local_count table ≤ most_local_symbols) where
    known_fits : is_defined (Named name) table.definitions ≡ true → has_too_many defined ≡ has_too_many table
    known_fits known =
        few_of_both defined
        (entry_fits name definition table.definitions.names most_defined_names (λ new. absurd (true≢false (sym known ∙ new))) names) symbols
        ∙ sym (few_of_both table names symbols)

    counts_by : (is_global labelled : Bool) → (labelled ≡ true → is_defined (Named name) table.definitions ≡ true)
        → has_too_many defined ≡ has_too_many (after is_global labelled)
    counts_by true true known = known_fits (known refl)
    counts_by false true known = known_fits (known refl)
    counts_by true false known = refl
    counts_by false false known = refl

    -- an assignment defines as many names as a definition of the name
    pub value_counts : (is_global : Bool) → has_too_many defined ≡ has_too_many (with_value name is_global definition table)
    value_counts is_global = counts_by is_global (is_labelled (Named name) table.definitions) (labelled_is_known name table)

  -- an assignment selects no section
  sections_by : (is_global labelled : Bool) → (after is_global labelled).sections ≡ table.sections
  sections_by true true = refl
  sections_by true false = refl
  sections_by false true = refl
  sections_by false false = refl

-- memory may be refused for an assignment for which there is room
pub assigned_lacks : (name : Option Name) (is_global : Bool) (definition : Definition) (table : Table)
    → has_too_many (with_assignment name is_global definition table) ≡ false → length table.sections ≤ most_sections
    → Overfills NoMemory (with_assignment name is_global definition table)
assigned_lacks (Some name) is_global definition table few sections =
    let S : List Section → Type 0 = λ s. length s ≤ most_sections in
    (few, subst S (sym (sections_by name definition table is_global (is_labelled (Named name) table.definitions))) sections)
assigned_lacks None is_global definition table few sections = (few, sections)

-- a new name for which there is room can be defined
pub new_room : (name : Name) (definition : Definition) (table : Table)
    → has_too_many (with_definition (Named name) definition table) ≡ false → is_defined (Named name) table.definitions ≡ false
    → name_count table < most_defined_names
new_room name definition table few new =
    let more : name_count (with_definition (Named name) definition table) ≡ name_count table + 1 = new_counts name definition table new in
    by (nat_lt (name_count table) most_defined_names) refl more
  where
    by : (is_less : Bool) → nat_lt (name_count table) most_defined_names ≡ is_less
        → name_count (with_definition (Named name) definition table) ≡ name_count table + 1 → name_count table < most_defined_names
    by true is more = grind (arith, nat_tests, is)
    by false is more =
        absurd (true≢false (sym (many_names (with_definition (Named name) definition table) (grind (arith, nat_tests, is, more))) ∙ few))
