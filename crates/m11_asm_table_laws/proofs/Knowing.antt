-- What a table knows of what has been said, and what it knows after one more definition, one more key doubly defined or more global names.
use Rattle.std.proofs.Common.{◌≡◌, ◌∙◌, ℕ, ◌+◌, ◌-◌, ◌^◌, ◌||◌, min, Bool, true, false, cond, if◌then◌else◌, List, [], ◌∷◌, ◌++◌, append-nil, Option, Some, count_by, refl, sym, ap, subst, arith}
use Rattle.std.specs.List.{list_any}
use Rattle.std.proofs.lemmas.List.Folds.{list_any-append}
use Rattle.std.proofs.lemmas.List.Sums.{fold-append, sum_by_push}
use Rattle.indexmap.specs.IndexSet.{insert_all, insert_key}
use Rattle.m11_base.specs.Rad50.{Name, is_same_name}
use Rattle.m11_base.proofs.SameNames.{same_name_equal}
use Rattle.m11_asm_rules.specs.Definitions.{Keys, first_definitions, has_key, is_same, last_definition, with_last, with_one}
use Rattle.m11_asm_rules.specs.declared.definitions.Definition.{Definition}
use Rattle.m11_asm_rules.specs.declared.definitions.Key.{Key}
use Rattle.m11_asm_rules.specs.declared.definitions.Key.TheVariants.{Named, Numbered}
use Rattle.m11_asm_rules.specs.Changes.{with_globals}
use Rattle.m11_asm_rules.specs.History.{KeyDefinition, defining, last_of}
use Rattle.m11_asm_rules.specs.Labels.{global_if, one_more, with_block, with_definition, with_doubly_defined}
use Rattle.m11_asm_rules.specs.Locations.{SectionMove, location_in}
use Rattle.m11_asm_rules.specs.Sections.{numbered}
use Rattle.m11_asm_rules.specs.Tables.{Table, location_of}
use Rattle.m11_asm_rules.proofs.LastDefinitions.{last_more}
use Rattle.m11_asm_table_laws.specs.Places.{Place, number}
use Rattle.m11_asm_table_laws.specs.Said.{Said, also_defining, begins_block, block, counted, doubly_defining, exporting, is_doubly_defined, last_said, moving}
use Rattle.m11_asm_table_laws.specs.Lines.{name_if}
use Rattle.m11_asm_table_laws.specs.Tables.{modes_at}
use Rattle.m11_asm_rules.specs.declared.modes.Modes.{Modes}

-- a table has what has been said, apart from counters and sizes
pub record Knows (place : Place) (said : Said) (table : Table) : Type 0 where
  pub definitions : (key : Key) → last_definition key table.definitions ≡ last_said key said
  pub doubly_defined : (key : Key) → has_key key table.doubly_defined ≡ is_doubly_defined key said
  pub globals : table.globals ≡ insert_all is_same_name [] said.globals
  pub sections : table.sections ≡ place.sections
  pub modes : table.modes ≡ modes_at place said

-- and each counter is the one after the moves so far, and the section of the next line has its name
pub record Agrees (place : Place) (said : Said) (table : Table) : Type 0 where
  pub knows : Knows place said table
  pub named : (numbered (number place) place.sections).name ≡ place.section
  pub counters : (section : ℕ) → location_of section table ≡ location_in section said.moves

-- ---- lists of keys and definitions

last_joined : (key : Key) (before : Option Definition) (first second : List KeyDefinition)
    → last_of key before (first ++ second) ≡ last_of key (last_of key before first) second
last_joined key before [] second = refl
last_joined key before (one ∷ first) second = last_joined key (if is_same one.key key then Some one.definition else before) first second

or_false : (b : Bool) → b ≡ (b || false)
or_false true = refl
or_false false = refl

or_once : (b c : Bool) → (b || (c || false)) ≡ (b || c)
or_once true c = refl
or_once false true = refl
or_once false false = refl

or_itself : (found is_asked : Bool) → (is_asked ≡ true → found ≡ true) → found ≡ (found || is_asked)
or_itself true is_asked known = refl
or_itself false true known = known refl
or_itself false false known = refl

found_by : (is_known is_asked found : Bool) → (is_known ≡ true → is_asked ≡ true → found ≡ true) → (names : List Name) (asked new : Name)
    → list_any (is_same_name asked) names ≡ found → is_same_name asked new ≡ is_asked
    → list_any (is_same_name asked) (if is_known then names else names ++ new ∷ []) ≡ (list_any (is_same_name asked) names || is_same_name asked new)
found_by true is_asked found known names asked new f a =
    or_itself (list_any (is_same_name asked) names) (is_same_name asked new) (λ e. f ∙ known refl (sym a ∙ e))
found_by false is_asked found known names asked new f a =
    list_any-append (is_same_name asked) names (new ∷ [])
    ∙ ap (λ (b : Bool). list_any (is_same_name asked) names || b) (sym (or_false (is_same_name asked new)))

-- a name is in a list with one more name, if it is in the list or is that name
found_more : (names : List Name) (asked new : Name)
    → list_any (is_same_name asked) (insert_key is_same_name names new) ≡ (list_any (is_same_name asked) names || is_same_name asked new)
found_more names asked new =
    found_by (list_any (is_same_name new) names) (is_same_name asked new) (list_any (is_same_name asked) names)
    (λ known same. ap (λ (n : Name). list_any (is_same_name n) names) (same_name_equal asked new same) ∙ known) names asked new refl refl

-- the same of a key in a set of keys
key_more : (asked new : Key) (keys : Keys) → has_key asked (with_one new keys) ≡ (has_key asked keys || is_same asked new)
key_more (Named asked) (Named new) keys = found_more keys.names asked new
key_more (Named asked) (Numbered block number) keys = or_false (list_any (is_same_name asked) keys.names)
key_more (Numbered asked_block asked) (Named new) keys = or_false (list_any (is_same_name (asked_block, asked)) keys.local_symbols)
key_more (Numbered asked_block asked) (Numbered block number) keys = found_more keys.local_symbols (asked_block, asked) (block, number)

-- ---- counts in 64 bits

one_more_counted : (most count : ℕ) → min (min count most + 1) most ≡ min (count + 1) most
one_more_counted most count = omega arith

joined : (most selections count : ℕ) → min ((selections + count) + 1) most ≡ min (selections + (count + 1)) most
joined most selections count = omega arith

same_joined : (most selections count : ℕ) → min (selections + count) most ≡ min (selections + (count + 0)) most
same_joined most selections count = omega arith

selected : (most selections count : ℕ) → min ((selections + count) + 1) most ≡ min ((selections + 1) + count) most
selected most selections count = omega arith

pub counted_more : (count : ℕ) → one_more (counted count) ≡ counted (count + 1)
counted_more count = one_more_counted (2 ^ 64 - 1) count

abbrev blocks : List KeyDefinition → ℕ
blocks definitions = count_by begins_block definitions

pub next_selection : (place : Place) (said : Said)
    → one_more (block place said) ≡ counted ((place.selections + 1) + blocks said.definitions)
next_selection place said =
    counted_more (place.selections + blocks said.definitions)
    ∙ selected (2 ^ 64 - 1) place.selections (blocks said.definitions)

module _ (place : Place) (said : Said) (key : Key) (definition : Definition) where
  abbrev one : KeyDefinition
  one = defining key definition

  begun : (begins : Bool) → begins_block one ≡ begins → blocks said.definitions + cond begins 1 0 ≡ blocks (said.definitions ++ one ∷ [])
  begun begins same =
      ap (λ (b : Bool). blocks said.definitions + cond b 1 0) (sym same)
      ∙ sym (sum_by_push (λ (k : KeyDefinition). cond (begins_block k) 1 0) said.definitions one)

  same_block : begins_block one ≡ false → block place said ≡ block place (also_defining key definition said)
  same_block none =
      same_joined (2 ^ 64 - 1) place.selections (blocks said.definitions)
      ∙ ap (λ (n : ℕ). counted (place.selections + n)) (begun false none)

  next_block : begins_block one ≡ true → one_more (block place said) ≡ block place (also_defining key definition said)
  next_block begins =
      counted_more (place.selections + blocks said.definitions)
      ∙ joined (2 ^ 64 - 1) place.selections (blocks said.definitions)
      ∙ ap (λ (n : ℕ). counted (place.selections + n)) (begun true begins)

-- ---- one more

module _ (place : Place) (said : Said) (table : Table) (knows : Knows place said table) where
  pub section_known : table.modes.section ≡ number place
  section_known = ap (λ (m : Modes). m.section) knows.modes

  pub block_known : table.modes.block ≡ block place said
  block_known = ap (λ (m : Modes). m.block) knows.modes

  pub radix_known : table.modes.radix ≡ place.radix
  radix_known = ap (λ (m : Modes). m.radix) knows.modes

  defines_too : (key asked : Key) (definition : Definition)
      → last_definition asked (with_last key definition table.definitions) ≡ last_said asked (also_defining key definition said)
  defines_too key asked definition =
      last_more asked table.definitions key definition
      ∙ ap (λ (o : Option Definition). if is_same key asked then Some definition else o) (knows.definitions asked)
      ∙ sym (last_joined asked (last_definition asked first_definitions) said.definitions (defining key definition ∷ []))

  doubly_too : (key asked : Key) → has_key asked (with_one key table.doubly_defined) ≡ is_doubly_defined asked (doubly_defining key said)
  doubly_too key asked =
      key_more asked key table.doubly_defined
      ∙ ap (λ (b : Bool). b || is_same asked key) (knows.doubly_defined asked)
      ∙ sym (or_once (is_doubly_defined asked said) (is_same asked key))
      ∙ sym (list_any-append (is_same asked) said.doubly_defined (key ∷ []))

  pub knows_doubly : (key : Key) → Knows place (doubly_defining key said) (with_doubly_defined key table)
  knows_doubly key = record {
    definitions = knows.definitions;
    doubly_defined = doubly_too key;
    globals = knows.globals;
    sections = knows.sections;
    modes = knows.modes;
  }

  -- a definition that begins no block
  pub knows_also : (key : Key) (definition : Definition) → begins_block (defining key definition) ≡ false
      → Knows place (also_defining key definition said) (with_definition key definition table)
  knows_also key definition none = record {
    definitions = λ asked. defines_too key asked definition;
    doubly_defined = knows.doubly_defined;
    globals = knows.globals;
    sections = knows.sections;
    modes = knows.modes ∙ ap (λ (n : ℕ). record (modes_at place said) { block = n }) (same_block place said key definition none);
  }

  -- a definition that begins a block
  pub knows_next : (key : Key) (definition : Definition) → begins_block (defining key definition) ≡ true
      → Knows place (also_defining key definition said) (with_block (with_definition key definition table))
  knows_next key definition begins = record {
    definitions = λ asked. defines_too key asked definition;
    doubly_defined = knows.doubly_defined;
    globals = knows.globals;
    sections = knows.sections;
    modes = ap (λ (m : Modes). record m { block = one_more m.block }) knows.modes
        ∙ ap (λ (n : ℕ). record (modes_at place said) { block = n }) (next_block place said key definition begins);
  }

  pub knows_exporting : (names : List Name) → Knows place (exporting names said) (with_globals names table)
  knows_exporting names = record {
    definitions = knows.definitions;
    doubly_defined = knows.doubly_defined;
    globals = ap (λ (known : List Name). insert_all is_same_name known names) knows.globals
        ∙ sym (fold-append (insert_key is_same_name) [] said.globals names);
    sections = knows.sections;
    modes = knows.modes;
  }

  -- the moves of the counters are no part of what a table knows so
  pub knows_moving : (moves : List SectionMove) → Knows place (moving moves said) table
  knows_moving moves = record {
    definitions = knows.definitions;
    doubly_defined = knows.doubly_defined;
    globals = knows.globals;
    sections = knows.sections;
    modes = knows.modes;
  }

pub knows_no_names : (place : Place) (said : Said) (table : Table) → Knows place said table → Knows place (exporting [] said) table
knows_no_names place said table knows =
    let P : List Name → Type 0 = λ names. Knows place (record said { globals = names }) table in
    subst P (sym (append-nil said.globals)) knows

pub knows_name_if : (place : Place) (said : Said) (table : Table) → Knows place said table → (is_global : Bool) (name : Name)
    → Knows place (exporting (name_if is_global (Named name)) said) (global_if is_global name table)
knows_name_if place said table knows true name = knows_exporting place said table knows (name ∷ [])
knows_name_if place said table knows false name = knows_no_names place said table knows
