-- Lines use each name that they define, so they define no more names than they use.
use Rattle.std.proofs.Common.{◌≡◌, ◌∙◌, ◌≤◌, suc, ◌+◌, ◌||◌, Bool, true, false, true≢false, cond, if◌then◌else◌, List, [], ◌∷◌, ◌++◌, length, map, Option, Some, None, refl, sym, ap, subst, arith}
use Rattle.std.proofs.lemmas.List.{length-append}
use Rattle.std.proofs.lemmas.List.Folds.{list_any-append}
use Rattle.std.specs.List.{flat_map, list_any}
use Rattle.std.specs.Map.{keys_of, lookup}
use Rattle.std.specs.Option.{is_some}
use Rattle.indexmap.specs.IndexMap.{insert_all, insert_entry}
use Rattle.m11_base.proofs.SameNames.{same_name_equal, same_name_itself}
use Rattle.m11_base.specs.Devices.{Bytes}
use Rattle.m11_base.specs.Rad50.{Name, is_same_name}
use Rattle.m11_asm_rules.proofs.LastDefinitions.{last_more, names_swap}
use Rattle.m11_asm_rules.specs.Assignments.{assigned}
use Rattle.m11_asm_rules.specs.Changes.{Change, Keeps, Counts, Selects, Assigns, Numbers, Exports, Sets, becomes_global, changed, numbered}
use Rattle.m11_asm_rules.specs.Definitions.{first_definitions, is_defined, is_labelled, last_definition, registers}
use Rattle.m11_asm_rules.specs.declared.definitions.Definition.{Definition}
use Rattle.m11_asm_rules.specs.Labels.{global_if, label_name, labelled, with_definition, with_kind, with_label, with_labels, with_name}
use Rattle.m11_asm_rules.specs.Limits.{is_counted, name_count, names_after, with_uses, with_symbol}
use Rattle.m11_asm_rules.specs.Lines.{after_line, line_change, stands}
use Rattle.m11_asm_rules.specs.Operations.{action}
use Rattle.m11_asm_rules.specs.Meanings.{Map}
use Rattle.m11_asm_rules.specs.SymbolUses as uses_of
use Rattle.m11_asm_rules.specs.SymbolUses.{SymbolUse, action_uses, label_uses, symbol_use, symbol_uses}
use Rattle.m11_asm_rules.specs.Placements.{after_lines, table_after}
use Rattle.m11_asm_rules.specs.Tables.{Table, firm_table, first_table}
use Rattle.m11_asm_rules.specs.declared.definitions.Key.TheVariants.{Named, Numbered}
use Rattle.m11_asm_rules.specs.declared.meanings.Context.TheVariants.{LocalOnly}
use Rattle.m11_asm_outcome_laws.proofs.Noted.{IsNoted, action_noted, first_counts, uses_stay}
use Rattle.m11_scan_statements.specs.Labels.{labels_at}
use Rattle.m11_scan_statements.specs.declared.labels.Label.{Label}
use Rattle.m11_scan_statements.specs.declared.labels.LabelKind.{LabelKind}
use Rattle.m11_scan_statements.specs.declared.labels.LabelKind.TheVariants as label
use Rattle.m11_unfold_rules.specs.Unfolding.{UnfoldedLine}

-- ---- the names that a table defines

abbrev is_among : Name → List Name → Bool
is_among name names = list_any (λ other. is_same_name other name) names

-- a name has a definition exactly if it is among the keys
among_defined : (name : Name) (entries : List (Name × Definition))
    → is_some (lookup (is_same_name name) entries) ≡ is_among name (keys_of entries)
among_defined name [] = refl
among_defined name (entry ∷ entries) =
    found_by (is_same_name name entry.0) (lookup (is_same_name name) entries)
    ∙ ap (λ (b : Bool). b || is_some (lookup (is_same_name name) entries)) (names_swap name entry.0)
    ∙ ap (λ (b : Bool). is_same_name entry.0 name || b) (among_defined name entries)
  where
    found_by : (b : Bool) (others : Option Definition) → is_some (cond b (Some entry.1) others) ≡ (b || is_some others)
    found_by true others = refl
    found_by false others = refl

-- a name that may be added at the end of the rest of a list may as well be added at the end of the whole list
longer : (b : Bool) (first name : Name) (names : List Name)
    → first ∷ (if b then names else names ++ name ∷ []) ≡ (if b then first ∷ names else (first ∷ names) ++ name ∷ [])
longer true first name names = refl
longer false first name names = refl

names_more : (name : Name) (definition : Definition) (entries : List (Name × Definition))
    → keys_of (insert_entry is_same_name entries name definition)
    ≡ (if is_among name (keys_of entries) then keys_of entries else keys_of entries ++ name ∷ [])
names_more name definition [] = refl
names_more name definition (entry ∷ entries) =
    by (is_same_name name entry.0) (is_same_name entry.0 name) (names_swap name entry.0) (names_more name definition entries)
  where
    by : (b c : Bool) → b ≡ c
        → keys_of (insert_entry is_same_name entries name definition)
        ≡ (if is_among name (keys_of entries) then keys_of entries else keys_of entries ++ name ∷ [])
        → keys_of (if b then (entry.0, definition) ∷ entries else entry ∷ insert_entry is_same_name entries name definition)
        ≡ (if c || is_among name (keys_of entries) then entry.0 ∷ keys_of entries else (entry.0 ∷ keys_of entries) ++ name ∷ [])
    by true true same rest = refl
    by true false same rest = absurd (true≢false same)
    by false true same rest = absurd (true≢false (sym same))
    by false false same rest =
        ap (λ (names : List Name). entry.0 ∷ names) rest ∙ longer (is_among name (keys_of entries)) entry.0 name (keys_of entries)

-- ---- lists of distinct names

abbrev Differ : List Name → Type 0
Differ [] = Unit {0}
Differ (name ∷ names) = (is_among name names ≡ false) × Differ names

or_false : (a b : Bool) → a ≡ false → b ≡ false → (a || (b || false)) ≡ false
or_false true b first second = absurd (true≢false first)
or_false false true first second = absurd (true≢false second)
or_false false false first second = refl

or_parts : (a b : Bool) → (a || b) ≡ false → (a ≡ false) × (b ≡ false)
or_parts true b none = absurd (true≢false none)
or_parts false b none = (refl, none)

differ_more : (names : List Name) (name : Name) → Differ names → is_among name names ≡ false → Differ (names ++ name ∷ [])
differ_more [] name differ new = (refl, tt)
differ_more (first ∷ names) name differ new =
    let parts = or_parts (is_same_name first name) (is_among name names) new in (
      list_any-append (λ (other : Name). is_same_name other first) names (name ∷ [])
          ∙ or_false (is_among first names) (is_same_name name first) differ.0 (names_swap name first ∙ parts.0),
      differ_more names name differ.1 parts.1,
    )

differ_by : (is_known : Bool) (name : Name) (names : List Name) → is_among name names ≡ is_known → Differ names
    → Differ (if is_known then names else names ++ name ∷ [])
differ_by true name names known differ = differ
differ_by false name names known differ = differ_more names name differ known

differ_with : (name : Name) (definition : Definition) (entries : List (Name × Definition)) → Differ (keys_of entries)
    → Differ (keys_of (insert_entry is_same_name entries name definition))
differ_with name definition entries differ =
    subst Differ (sym (names_more name definition entries)) (differ_by (is_among name (keys_of entries)) name (keys_of entries) refl differ)

differ_all : (others entries : List (Name × Definition)) → Differ (keys_of entries)
    → Differ (keys_of (insert_all is_same_name entries others))
differ_all [] entries differ = differ
differ_all (other ∷ others) entries differ =
    differ_all others (insert_entry is_same_name entries other.0 other.1) (differ_with other.0 other.1 entries differ)

-- ---- distinct names are at most as many as the names of any list that has them all

abbrev without : Name → List Name → List Name
without name [] = []
without name (first ∷ names) = if is_same_name first name then names else first ∷ without name names

or_more : (a b c : Bool) → (b ≡ true → c ≡ true) → (a || b) ≡ true → (a || c) ≡ true
or_more true b c more there = refl
or_more false b c more there = more there

module _ (name : Name) where
  shorter_by : (first : Name) (names : List Name) (is : Bool) → is_same_name first name ≡ is → (is || is_among name names) ≡ true
      → (is_among name names ≡ true → length names ≡ suc (length (without name names)))
      → length (first ∷ names) ≡ suc (length (if is then names else first ∷ without name names))
  shorter_by first names true same there more = refl
  shorter_by first names false same there more = ap suc (more there)

  shorter : (names : List Name) → is_among name names ≡ true → length names ≡ suc (length (without name names))
  shorter [] there = absurd (true≢false (sym there))
  shorter (first ∷ names) there = shorter_by first names (is_same_name first name) refl there (shorter names)

  still_by : (other first : Name) (names : List Name) (is : Bool) → is_same_name first name ≡ is → is_same_name name other ≡ false
      → (is_same_name first other || is_among other names) ≡ true → (is_among other names ≡ true → is_among other (without name names) ≡ true)
      → is_among other (if is then names else first ∷ without name names) ≡ true
  still_by other first names true same differs there more =
      let P : Name → Type 0 = λ n. (is_same_name n other || is_among other names) ≡ true in
      let here : (is_same_name name other || is_among other names) ≡ true = subst P (same_name_equal first name same) there in
      sym (ap (λ (b : Bool). b || is_among other names) differs) ∙ here
  still_by other first names false same differs there more =
      or_more (is_same_name first other) (is_among other names) (is_among other (without name names)) more there

  still : (other : Name) (names : List Name) → is_same_name name other ≡ false → is_among other names ≡ true
      → is_among other (without name names) ≡ true
  still other [] differs there = there
  still other (first ∷ names) differs there =
      still_by other first names (is_same_name first name) refl differs there (still other names differs)

apart_by : (one other : Name) (names : List Name) (is : Bool) → is_same_name one other ≡ is → is_among one names ≡ false
    → is_among other names ≡ true → is_same_name one other ≡ false
apart_by one other names true same new there =
    let P : Name → Type 0 = λ n. is_among n names ≡ false in
    absurd (true≢false (sym there ∙ subst P (same_name_equal one other same) new))
apart_by one other names false same new there = same

or_true : (b : Bool) → (b || true) ≡ true
or_true true = refl
or_true false = refl

no_more : (some all : List Name) → Differ some → ((name : Name) → is_among name some ≡ true → is_among name all ≡ true)
    → length some ≤ length all
no_more [] all differ there = omega arith
no_more (first ∷ some) all differ there =
    let one : length all ≡ suc (length (without first all))
    = shorter first all (there first (ap (λ (b : Bool). b || is_among first some) (same_name_itself first))) in
    let rest : length some ≤ length (without first all)
    = no_more some (without first all) differ.1
    (λ name among. still first name all (apart_by first name some (is_same_name first name) refl differ.0 among)
    (there name (ap (λ (b : Bool). is_same_name first name || b) among ∙ or_true (is_same_name first name)))) in
    omega (arith, one, rest)

-- ---- each defined name is among the used ones

-- the defined names differ from each other, and each is a counted name
abbrev Known : Table → List Name → Type 0
Known table names = Differ (keys_of table.definitions.names)
    × ((name : Name) → is_defined (Named name) table.definitions ≡ true → is_counted name names ≡ true)

joined : (first second : List SymbolUse) (names : List Name)
    → with_uses (first ++ second) names ≡ with_uses second (with_uses first names)
joined [] second names = refl
joined (symbol_use ∷ first) second names = joined first second (with_symbol symbol_use.symbol names)

known_stays : (some : List SymbolUse) (table : Table) (names : List Name) → Known table names → Known table (with_uses some names)
known_stays some table names known = (known.0, λ name there. uses_stay name some names (known.1 name there))

defines : (name : Name) (definition : Definition) (table : Table) (names : List Name) → is_counted name names ≡ true → Known table names
    → Known (with_definition (Named name) definition table) names
defines name definition table names counts known = (
  differ_with name definition table.definitions.names known.0,
  λ other there. counted_by other (is_same_name name other) refl
      (sym (ap is_some (last_more (Named other) table.definitions (Named name) definition)) ∙ there),
)
  where
    counted_by : (other : Name) (is : Bool) → is_same_name name other ≡ is
        → is_some (if is then Some definition else last_definition (Named other) table.definitions) ≡ true → is_counted other names ≡ true
    counted_by other true same there =
        let P : Name → Type 0 = λ n. is_counted n names ≡ true in subst P (same_name_equal name other same) counts
    counted_by other false same there = known.1 other there

choice_known : (choice : Bool) (one other : Table) (names : List Name) → Known one names → Known other names
    → Known (if choice then one else other) names
choice_known true one other names first second = first
choice_known false one other names first second = second

global_known : (is_global : Bool) (name : Name) (table : Table) (names : List Name) → Known table names
    → Known (global_if is_global name table) names
global_known true name table names known = known
global_known false name table names known = known

-- ---- labels

name_known : (is_global : Bool) (table : Table) (name : Name) (names : List Name) → is_counted name names ≡ true → Known table names
    → Known (with_name is_global table (Some name)) names
name_known is_global table name names counts known =
    choice_known (is_defined (Named name) table.definitions) _ _ names known
    (global_known is_global name _ names (defines name (labelled table) table names counts known))

named_known : (is_global : Bool) (table : Table) (name : Option Name) (names : List Name) → Known table names
    → Known (with_name is_global table name) (with_uses (uses_of.defined name) names)
named_known is_global table (Some name) names known =
    name_known is_global table name (with_uses (uses_of.named name ∷ []) names) (first_counts name [] names)
    (known_stays (uses_of.named name ∷ []) table names known)
named_known is_global table None names known = known

kind_known : (table : Table) (name : Option Name) (of : LabelKind) (names : List Name) → Known table names
    → Known (with_kind table name of) (with_uses (uses_of.label_use name of) names)
kind_known table name label.Ordinary names known = named_known false table name names known
kind_known table name label.Global names known = named_known true table name names known
kind_known table name (label.Local number) names known =
    choice_known (is_defined (Numbered table.modes.block number) table.definitions) _ _ names known known
kind_known table name label.Outside names known = known

labels_known : (line : Bytes) (table : Table) (labels : List Label) (names : List Name) → Known table names
    → Known (with_labels line table labels) (with_uses (flat_map (label_uses line) labels) names)
labels_known line table [] names known = known
labels_known line table (one ∷ labels) names known =
    let P : List Name → Type 0 = λ ns. Known (with_labels line (with_label line table one) labels) ns in
    subst P (sym (joined (label_uses line one) (flat_map (label_uses line) labels) names))
    (labels_known line (with_label line table one) labels (with_uses (label_uses line one) names)
    (kind_known table (label_name line one) one.kind names known))

-- ---- changes

changed_known : (map_ : Map) (some : List SymbolUse) (change : Change) (table : Table) (names : List Name) → IsNoted some change
    → Known table names → Known (changed map_ change table) (with_uses some names)
changed_known map_ some Keeps table names noted known = known_stays some table names known
changed_known map_ some (Counts move) table names noted known = known_stays some table names known
changed_known map_ some (Selects name attributes) table names noted known = known_stays some table names known
changed_known map_ some (Assigns name is_global tokens) table names noted known =
    let all : List Name = with_uses some names in
    global_known (becomes_global is_global name table) name _ all
    (choice_known (is_labelled (Named name) table.definitions) _ _ all (known_stays some table names known)
    (defines name (assigned map_ table tokens) table all (noted names) (known_stays some table names known)))
changed_known map_ some (Numbers name number) table names noted known =
    let all : List Name = with_uses some names in
    choice_known (is_labelled (Named name) table.definitions) _ _ all (known_stays some table names known)
    (defines name (numbered number) table all (noted names) (known_stays some table names known))
changed_known map_ some (Exports exported) table names noted known = known_stays some table names known
changed_known map_ some (Sets modes) table names noted known = known_stays some table names known

-- ---- lines

change_noted : (table : Table) (given : UnfoldedLine)
    → IsNoted (action_uses (stands table given) given.live.line.text (action given.is_own given.arguments given.live.line.text))
    (line_change (firm_table (stands table given)) given)
unfolding line_change
change_noted table given =
    action_noted (stands table given) (firm_table (stands table given)) given.live.line.text
    (action given.is_own given.arguments given.live.line.text)

line_known : (map_ : Map) (table : Table) (given : UnfoldedLine) (names : List Name) → Known table names
    → Known (after_line map_ table given) (with_uses (symbol_uses table given) names)
line_known map_ table given names known =
    let text : Bytes = given.live.line.text in
    let of_labels : List SymbolUse = flat_map (label_uses text) (labels_at text) in
    let of_remarks : List SymbolUse = map (symbol_use LocalOnly) given.remarks.symbols in
    let of_action : List SymbolUse = action_uses (stands table given) text (action given.is_own given.arguments text) in
    let P : List Name → Type 0 = λ ns. Known (after_line map_ table given) ns in
    subst P
    (sym (joined (of_labels ++ of_remarks) of_action names ∙ ap (with_uses of_action) (joined of_labels of_remarks names)))
    (changed_known map_ of_action (line_change (firm_table (stands table given)) given) (stands table given)
    (with_uses of_remarks (with_uses of_labels names)) (change_noted table given)
    (known_stays of_remarks (stands table given) (with_uses of_labels names) (labels_known text table (labels_at text) names known)))

lines_known : (map_ : Map) (table : Table) (lines : List UnfoldedLine) (names : List Name) → Known table names
    → Known (after_lines map_ table lines) (names_after map_ table lines names)
lines_known map_ table [] names known = known
lines_known map_ table (given ∷ lines) names known =
    lines_known map_ (after_line map_ table given) lines (with_uses (symbol_uses table given) names)
    (line_known map_ table given names known)

-- ---- how many there are

-- a counted name is the name of a register or among the used names
counted_there : (names : List Name) (name : Name) → is_counted name names ≡ true
    → is_among name (keys_of first_definitions.names ++ names) ≡ true
counted_there names name counts =
    list_any-append (λ (other : Name). is_same_name other name) (keys_of first_definitions.names) names
    ∙ ap (λ (b : Bool). b || is_among name names) (sym (among_defined name first_definitions.names)) ∙ counts

names_counted : (entries : List (Name × Definition)) → length (keys_of entries) ≡ length entries
names_counted [] = refl
names_counted (entry ∷ entries) = ap suc (names_counted entries)

one_at_most : (is_known : Bool) (name : Name) (names : List Name)
    → length (if is_known then names else names ++ name ∷ []) ≤ length names + 1
one_at_most true name names = omega arith
one_at_most false name names =
    let one : length (names ++ name ∷ []) ≡ length names + 1 = length-append names (name ∷ []) in omega (arith, one)

all_at_most : (others entries : List (Name × Definition))
    → length (keys_of (insert_all is_same_name entries others)) ≤ length (keys_of entries) + length others
all_at_most [] entries = omega arith
all_at_most (other ∷ others) entries =
    let after : List (Name × Definition) = insert_entry is_same_name entries other.0 other.1 in
    let rest : length (keys_of (insert_all is_same_name after others)) ≤ length (keys_of after) + length others = all_at_most others after in
    let same : length (keys_of after) ≡ length (if is_among other.0 (keys_of entries) then keys_of entries else keys_of entries ++ other.0 ∷ [])
    = ap (λ (names : List Name). length names) (names_more other.0 other.1 entries) in
    let one = one_at_most (is_among other.0 (keys_of entries)) other.0 (keys_of entries) in
    omega (arith, rest, same, one)

pub few_defined : (map_ : Map) (lines : List UnfoldedLine)
    → name_count (table_after map_ lines) ≤ length registers + length (names_after map_ first_table lines [])
few_defined map_ lines =
    let names : List Name = names_after map_ first_table lines [] in
    let entries : List (Name × Definition) = (table_after map_ lines).definitions.names in
    let known : Known (table_after map_ lines) names
    = lines_known map_ first_table lines [] (differ_all registers [] tt, λ name there. ap (λ (b : Bool). b || false) there) in
    let all : List Name = keys_of first_definitions.names ++ names in
    let no : length (keys_of entries) ≤ length all
    = no_more (keys_of entries) all known.0
    (λ name there. counted_there names name (known.1 name (among_defined name entries ∙ there))) in
    let both : length all ≡ length (keys_of first_definitions.names) + length names
    = length-append (keys_of first_definitions.names) names in
    let few : length (keys_of first_definitions.names) ≤ length {A = Name} [] + length registers = all_at_most registers [] in
    omega (arith, no, both, few, names_counted entries)
