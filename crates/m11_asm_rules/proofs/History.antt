-- A table records what the lines say: the last definition of each key, and each counter after all moves.
use Rattle.std.proofs.Common.{◌≡◌, ◌≢◌, ◌∙◌, ◌<◌, ℕ, zero, suc, ◌+◌, ◌==◌, ◌&&◌, not, max, Bool, true, false, true≢false, if◌then◌else◌, List, [], ◌∷◌, ◌++◌, append-nil, append_assoc, length, get_or, slice_set, Option, Some, None, refl, sym, ap, subst, arith}
use Rattle.std.specs.Prelude.{unwrap_or}
use Rattle.std.proofs.lemmas.Bool.{eq-eqb, eqb-true}
use Rattle.std.proofs.lemmas.List.{length-append, length-set}
use Rattle.m11_base.specs.Devices.{Bytes}
use Rattle.m11_base.specs.Rad50.{Name}
use Rattle.m11_scan_statements.specs.Labels.{labels_at}
use Rattle.m11_scan_statements.specs.declared.labels.Label.{Label}
use Rattle.m11_scan_statements.specs.declared.labels.LabelKind.{LabelKind}
use Rattle.m11_scan_statements.specs.declared.labels.LabelKind.TheVariants as label
use Rattle.m11_unfold_rules.specs.Unfolding.{UnfoldedLine}
use Rattle.m11_asm_rules.specs.Assignments.{assigned}
use Rattle.m11_asm_rules.specs.Changes.{Assigns, Change, Counts, Exports, Keeps, Numbers, Selects, Sets, changed, moved, numbered, with_location, with_new}
use Rattle.m11_asm_rules.specs.Definitions.{Definition, Key, Named, Numbered, is_defined, is_labelled, is_same, last_definition}
use Rattle.m11_asm_rules.specs.History.{KeyDefinition, SaysWhatTheySaid, change_definitions, change_moves, definitions_from, definitions_of, label_definitions, labels_definitions, last_of, line_definitions, line_moves, moves_from, moves_of, name_definitions}
use Rattle.m11_asm_rules.specs.Labels.{global_if, label_name, labelled, with_block, with_definition, with_doubly_defined, with_kind, with_label, with_labels, with_name}
use Rattle.m11_asm_rules.specs.Lines.{after_line, line_change, stands}
use Rattle.m11_asm_rules.specs.Operations.{action}
use Rattle.m11_asm_rules.specs.Locations.{Goes, Move, SectionMove, Steps, in_section, location_in, size_in}
use Rattle.m11_asm_rules.specs.Meanings.{Map}
use Rattle.m11_asm_rules.specs.Placements.{after_lines, table_after}
use Rattle.m11_asm_rules.specs.Sections.{Section, number_of, section}
use Rattle.m11_asm_rules.specs.Tables.{Table, firm_table, first_table, location, size_of}
use Rattle.m11_asm_rules.proofs.Counters.{goes_there, stays_there, steps_on}
use Rattle.m11_asm_rules.proofs.LabelLocations.{Standing, labels_stay, standing}
use Rattle.m11_asm_rules.proofs.LastDefinitions.{last_more}
use Rattle.m11_asm_rules.proofs.Settling.{IsModest, change_modest, found_within, number_within}
use Rattle.m11_asm_rules.proofs.Sizes.{size_here, size_there}

-- ---- definitions

last_joined : (key : Key) (before : Option Definition) (first second : List KeyDefinition)
    → last_of key before (first ++ second) ≡ last_of key (last_of key before first) second
last_joined key before [] second = refl
last_joined key before (one ∷ first) second = last_joined key (if is_same one.key key then Some one.definition else before) first second

-- each key's last definition in the new table is the last in this list, or else the one in the old table
abbrev pub Defines : List KeyDefinition → Table → Table → Type 0
Defines definitions old new =
    (key : Key) → last_definition key new.definitions ≡ last_of key (last_definition key old.definitions) definitions

defines_then : (one other : List KeyDefinition) (old middle new : Table) → Defines one old middle → Defines other middle new
    → Defines (one ++ other) old new
defines_then one other old middle new first second key =
    second key ∙ ap (λ (o : Option Definition). last_of key o other) (first key)
    ∙ sym (last_joined key (last_definition key old.definitions) one other)

one_defined : (key : Key) (definition : Definition) (table : Table)
    → Defines (record { key = key; definition = definition } ∷ []) table (with_definition key definition table)
one_defined key definition table asked = last_more asked table.definitions key definition

module _ (key : Key) (table : Table) where
  -- a label whose key is already defined makes the key doubly defined, and defines nothing; any other label defines its key
  label_by : (is_there is_global : Bool) (name : Name)
      → Defines (if is_there then [] else record { key = key; definition = labelled table } ∷ []) table
      (if is_there then with_doubly_defined key table
      else global_if is_global name (with_block (with_definition key (labelled table) table)))
  label_by true is_global name asked = refl
  label_by false true name asked = one_defined key (labelled table) table asked
  label_by false false name asked = one_defined key (labelled table) table asked

  symbol_by : (is_there : Bool) → Defines (if is_there then [] else record { key = key; definition = labelled table } ∷ []) table
      (if is_there then with_doubly_defined key table else with_definition key (labelled table) table)
  symbol_by true asked = refl
  symbol_by false asked = one_defined key (labelled table) table asked

name_defines : (is_global : Bool) (table : Table) (name : Option Name)
    → Defines (name_definitions table name) table (with_name is_global table name)
name_defines is_global table (Some name) key =
    label_by (Named name) table (is_defined (Named name) table.definitions) is_global name key
name_defines is_global table None key = refl

kind_defines : (table : Table) (name : Option Name) (kind : LabelKind)
    → Defines (label_definitions table name kind) table (with_kind table name kind)
kind_defines table name label.Ordinary key = name_defines false table name key
kind_defines table name label.Global key = name_defines true table name key
kind_defines table name (label.Local number) key =
    let symbol : Key = Numbered table.modes.block number in
    symbol_by symbol table (is_defined symbol table.definitions) key
kind_defines table name label.Outside key = refl

labels_define : (line : Bytes) (table : Table) (labels : List Label)
    → Defines (labels_definitions line table labels) table (with_labels line table labels)
labels_define line table [] key = refl
labels_define line table (named ∷ labels) key =
    defines_then (label_definitions table (label_name line named) named.kind)
    (labels_definitions line (with_label line table named) labels) table (with_label line table named)
    (with_labels line (with_label line table named) labels)
    (kind_defines table (label_name line named) named.kind) (labels_define line (with_label line table named) labels) key

value_by : (is_label is_global : Bool) (name : Name) (definition : Definition) (table : Table)
    → Defines (if is_label then [] else record { key = Named name; definition = definition } ∷ []) table
    (global_if (is_global && not is_label) name
    (if is_label then with_doubly_defined (Named name) table else with_definition (Named name) definition table))
value_by true true name definition table key = refl
value_by true false name definition table key = refl
value_by false true name definition table key = one_defined (Named name) definition table key
value_by false false name definition table key = one_defined (Named name) definition table key

number_by : (is_label : Bool) (name : Name) (definition : Definition) (table : Table)
    → Defines (if is_label then [] else record { key = Named name; definition = definition } ∷ []) table
    (if is_label then with_doubly_defined (Named name) table else with_definition (Named name) definition table)
number_by true name definition table key = refl
number_by false name definition table key = one_defined (Named name) definition table key

change_defines : (map : Map) (change : Change) (table : Table)
    → Defines (change_definitions map table change) table (changed map change table)
change_defines map Keeps table key = refl
change_defines map (Counts move) table key = refl
change_defines map (Selects name attributes) table key = refl
change_defines map (Assigns name is_global tokens) table key =
    value_by (is_labelled (Named name) table.definitions) is_global name (assigned map table tokens) table key
change_defines map (Numbers name number) table key =
    number_by (is_labelled (Named name) table.definitions) name (numbered number) table key
change_defines map (Exports names) table key = refl
change_defines map (Sets modes) table key = refl

line_defines : (map : Map) (table : Table) (given : UnfoldedLine)
    → Defines (line_definitions map table given) table (after_line map table given)
line_defines map table given =
    defines_then (labels_definitions given.live.line.text table (labels_at given.live.line.text))
    (change_definitions map (stands table given) (line_change (firm_table (stands table given)) given)) table
    (stands table given) (after_line map table given)
    (labels_define given.live.line.text table (labels_at given.live.line.text))
    (change_defines map (line_change (firm_table (stands table given)) given) (stands table given))

lines_define : (map : Map) (table : Table) (lines : List UnfoldedLine)
    → Defines (definitions_from map table lines) table (after_lines map table lines)
lines_define map table [] key = refl
lines_define map table (given ∷ lines) key =
    defines_then (line_definitions map table given) (definitions_from map (after_line map table given) lines) table
    (after_line map table given) (after_lines map (after_line map table given) lines)
    (line_defines map table given) (lines_define map (after_line map table given) lines) key

-- ---- counters

set_there : (numbers : List ℕ) (section new : ℕ) → section < length numbers → get_or (slice_set numbers section new) section 0 ≡ new
set_there [] section new h = absurd (let none : section < 0 = h in omega (arith, none))
set_there (number ∷ numbers) zero new h = refl
set_there (number ∷ numbers) (suc section) new h =
    let more : suc section < suc (length numbers) = h in
    set_there numbers section new (omega (arith, more))

set_elsewhere : (numbers : List ℕ) (section other new : ℕ) → other ≢ section
    → get_or (slice_set numbers section new) other 0 ≡ get_or numbers other 0
set_elsewhere [] section other new h = refl
set_elsewhere (number ∷ numbers) zero zero new h = absurd (h refl)
set_elsewhere (number ∷ numbers) zero (suc other) new h = refl
set_elsewhere (number ∷ numbers) (suc section) zero new h = refl
set_elsewhere (number ∷ numbers) (suc section) (suc other) new h = set_elsewhere numbers section other new (λ e. h (ap suc e))

-- one more 0 at the end of a list changes no number, since a missing number counts as 0
zero_more : (numbers : List ℕ) (section : ℕ) → get_or (numbers ++ 0 ∷ []) section 0 ≡ get_or numbers section 0
zero_more [] zero = refl
zero_more [] (suc section) = refl
zero_more (number ∷ numbers) zero = refl
zero_more (number ∷ numbers) (suc section) = zero_more numbers section

zero_if_new : (found : Option ℕ) (numbers : List ℕ) (section : ℕ) → get_or (with_new found 0 numbers) section 0 ≡ get_or numbers section 0
zero_if_new (Some number) numbers section = refl
zero_if_new None numbers section = zero_more numbers section

as_many : (found : Option ℕ) (new : Section) (sections : List Section) (numbers : List ℕ) → length numbers ≡ length sections
    → length (with_new found 0 numbers) ≡ length (with_new found new sections)
as_many (Some number) new sections numbers same = same
as_many None new sections numbers same =
    length-append numbers (0 ∷ []) ∙ ap (λ (n : ℕ). n + 1) same ∙ sym (length-append sections (new ∷ []))

-- each section of a table has a counter and a size, which are those after the moves; and the current section is one of the sections
pub record Agrees (moves : List SectionMove) (table : Standing) : Type 0 where
  pub counters : (section : ℕ) → get_or table.counters section 0 ≡ location_in section moves
  pub sizes : (section : ℕ) → get_or table.sizes section 0 ≡ size_in section moves
  pub within : table.section < length table.sections
  pub as_many_counters : length table.counters ≡ length table.sections
  pub as_many_sizes : length table.sizes ≡ length table.sections

not_equal : (one other : ℕ) → (one == other) ≡ false → one ≢ other
not_equal one other e f = true≢false (sym (eq-eqb one other f) ∙ e)

swapped : (one other : ℕ) → one ≢ other → other ≢ one
swapped one other h e = h (sym e)

led : (section : ℕ) (move : Move) (moves : List SectionMove)
    → location_in section (moves ++ in_section section move ∷ []) ≡ moved move (location_in section moves)
led section (Steps size) moves = steps_on section size moves
led section (Goes location) moves = goes_there section location moves

module _ (moves : List SectionMove) (table : Table) (agrees : Agrees moves (standing table)) (move : Move) where
  abbrev pub here : ℕ
  here = table.modes.section

  abbrev pub after : List SectionMove
  after = moves ++ in_section here move ∷ []

  abbrev pub new : ℕ
  new = moved move (location table)

  led_here : location_in here after ≡ new
  led_here = led here move moves ∙ ap (moved move) (sym (agrees.counters here))

  counter_by : (section : ℕ) (is_here : Bool) → (here == section) ≡ is_here
      → get_or (slice_set table.counters here new) section 0 ≡ location_in section after
  counter_by section true same =
      let P : ℕ → Type 0 = λ n. get_or (slice_set table.counters here new) n 0 ≡ location_in n after in
      let within : here < length table.counters = subst (λ (n : ℕ). here < n) (sym agrees.as_many_counters) agrees.within in
      subst P (eqb-true here section same) (set_there table.counters here new within ∙ sym led_here)
  counter_by section false differs =
      let apart : here ≢ section = not_equal here section differs in
      set_elsewhere table.counters here section new (swapped here section apart)
      ∙ agrees.counters section ∙ sym (stays_there section here move moves apart)

  size_by : (section : ℕ) (is_here : Bool) → (here == section) ≡ is_here
      → get_or (slice_set table.sizes here (max (size_of here table) new)) section 0 ≡ size_in section after
  size_by section true same =
      let P : ℕ → Type 0 = λ n. get_or (slice_set table.sizes here (max (size_of here table) new)) n 0 ≡ size_in n after in
      let within : here < length table.sizes = subst (λ (n : ℕ). here < n) (sym agrees.as_many_sizes) agrees.within in
      subst P (eqb-true here section same)
      (set_there table.sizes here (max (size_of here table) new) within
      ∙ ap (λ (n : ℕ). max n new) (agrees.sizes here) ∙ ap (max (size_in here moves)) (sym led_here)
      ∙ sym (size_here here here moves move (eq-eqb here here refl)))
  size_by section false differs =
      let apart : here ≢ section = not_equal here section differs in
      set_elsewhere table.sizes here section (max (size_of here table) new) (swapped here section apart)
      ∙ agrees.sizes section ∙ sym (size_there section here moves move differs)

  pub counts_agree : Agrees after (standing (with_location new table))
  counts_agree = record {
    counters = λ section. counter_by section (here == section) refl;
    sizes = λ section. size_by section (here == section) refl;
    within = agrees.within;
    as_many_counters = length-set table.counters here new ∙ agrees.as_many_counters;
    as_many_sizes = length-set table.sizes here (max (size_of here table) new) ∙ agrees.as_many_sizes;
  }

-- if neither the sections with their counters and sizes nor the current section change, the table still agrees with the moves
no_moves : (moves : List SectionMove) (old new : Standing) → new ≡ old → Agrees moves old → Agrees (moves ++ []) new
no_moves moves old new same agrees =
    let P : List SectionMove → Type 0 = λ l. Agrees l new in
    subst P (sym (append-nil moves)) (subst (Agrees moves) (sym same) agrees)

value_stays : (is_label is_global : Bool) (name : Name) (definition : Definition) (table : Table)
    → standing (global_if (is_global && not is_label) name
    (if is_label then with_doubly_defined (Named name) table else with_definition (Named name) definition table)) ≡ standing table
value_stays true true name definition table = refl
value_stays true false name definition table = refl
value_stays false true name definition table = refl
value_stays false false name definition table = refl

number_stays : (is_label : Bool) (name : Name) (definition : Definition) (table : Table)
    → standing (if is_label then with_doubly_defined (Named name) table else with_definition (Named name) definition table) ≡ standing table
number_stays true name definition table = refl
number_stays false name definition table = refl

select_agrees : (moves : List SectionMove) (table : Table) (found : Option ℕ) (new : Section)
    → ((number : ℕ) → found ≡ Some number → number < length table.sections) → Agrees moves (standing table)
    → Agrees moves (record {
      sections = with_new found new table.sections;
      counters = with_new found 0 table.counters;
      sizes = with_new found 0 table.sizes;
      section = unwrap_or found (length table.sections);
    })
select_agrees moves table found new within agrees = record {
  counters = λ section. zero_if_new found table.counters section ∙ agrees.counters section;
  sizes = λ section. zero_if_new found table.sizes section ∙ agrees.sizes section;
  within = number_within found new table.sections within;
  as_many_counters = as_many found new table.sections table.counters agrees.as_many_counters;
  as_many_sizes = as_many found new table.sections table.sizes agrees.as_many_sizes;
}

change_agrees : (map : Map) (change : Change) (moves : List SectionMove) (table : Table) → IsModest table.modes change
    → Agrees moves (standing table)
    → Agrees (moves ++ change_moves table.modes.section change) (standing (changed map change table))
change_agrees map Keeps moves table modest agrees = no_moves moves (standing table) _ refl agrees
change_agrees map (Counts move) moves table modest agrees = counts_agree moves table agrees move
change_agrees map (Selects name attributes) moves table modest agrees =
    no_moves moves _ _ refl
    (select_agrees moves table (number_of name table.sections) (section name attributes) (found_within name table.sections) agrees)
change_agrees map (Assigns name is_global tokens) moves table modest agrees =
    no_moves moves (standing table) _
    (value_stays (is_labelled (Named name) table.definitions) is_global name (assigned map table tokens) table) agrees
change_agrees map (Numbers name number) moves table modest agrees =
    no_moves moves (standing table) _
    (number_stays (is_labelled (Named name) table.definitions) name (numbered number) table) agrees
change_agrees map (Exports names) moves table modest agrees = no_moves moves (standing table) _ refl agrees
change_agrees map (Sets modes) moves table modest agrees =
    no_moves moves (standing table) _ (ap (λ (n : ℕ). record (standing table) { section = n }) modest.section) agrees

pub stood_agrees : (moves : List SectionMove) (table : Table) (given : UnfoldedLine) → Agrees moves (standing table)
    → Agrees moves (standing (stands table given))
stood_agrees moves table given agrees = subst (Agrees moves) (sym (labels_stay table given.live.line.text)) agrees

pub line_agrees : (map : Map) (moves : List SectionMove) (table : Table) (given : UnfoldedLine) → Agrees moves (standing table)
    → Agrees (moves ++ line_moves table given) (standing (after_line map table given))
unfolding line_change
line_agrees map moves table given agrees =
    change_agrees map (line_change (firm_table (stands table given)) given) moves (stands table given)
    (change_modest (firm_table (stands table given)) given.live.line.text (action given.is_own given.arguments given.live.line.text))
    (stood_agrees moves table given agrees)

lines_agree : (map : Map) (moves : List SectionMove) (table : Table) (lines : List UnfoldedLine) → Agrees moves (standing table)
    → Agrees (moves ++ moves_from map table lines) (standing (after_lines map table lines))
lines_agree map moves table [] agrees = no_moves moves (standing table) _ refl agrees
lines_agree map moves table (given ∷ lines) agrees =
    let P : List SectionMove → Type 0 = λ l. Agrees l (standing (after_lines map (after_line map table given) lines)) in
    subst P (append_assoc moves (line_moves table given) (moves_from map (after_line map table given) lines))
    (lines_agree map (moves ++ line_moves table given) (after_line map table given) lines (line_agrees map moves table given agrees))

-- the counters before the first line, and the sizes: 0 for both sections
abbrev zeros : List ℕ
zeros = 0 ∷ 0 ∷ []

first_zero : (number : ℕ) → get_or zeros number 0 ≡ 0
first_zero zero = refl
first_zero (suc zero) = refl
first_zero (suc (suc number)) = refl

pub first_agrees : Agrees [] (standing first_table)
first_agrees = record {
  counters = first_zero;
  sizes = first_zero;
  within = omega arith;
  as_many_counters = refl;
  as_many_sizes = refl;
}

pub says : (map : Map) (lines : List UnfoldedLine) → SaysWhatTheySaid (definitions_of map lines) (moves_of map lines) (table_after map lines)
says map lines =
    let all = lines_agree map [] first_table lines first_agrees in
    record {
      definitions = lines_define map first_table lines;
      counters = all.counters;
      sizes = all.sizes;
    }
