-- After each line of a source, the table records what the lines so far say.
use Rattle.std.proofs.Common.{◌≡◌, ◌∙◌, ℕ, true, List, [], ◌∷◌, ◌++◌, append_assoc, append-nil, reverse, Option, refl, sym, ap, subst}
use Rattle.std.specs.Prelude.{unwrap_or}
use Rattle.std.proofs.lemmas.List.{reverse-append, reverse-reverse}
use Rattle.std.proofs.lemmas.List.Sums.{fold-append}
use Rattle.m11_base.specs.Devices.{Bytes}
use Rattle.m11_scan_statements.specs.Labels.{labels_at}
use Rattle.m11_base.specs.Names.{blank_name}
use Rattle.m11_base.specs.Rad50.{Name}
use Rattle.m11_base.proofs.NameWords.{absolute_words}
use Rattle.m11_unfold_rules.specs.Unfolding.{UnfoldedLine}
use Rattle.m11_asm_rules.specs.Definitions.{has_key, no_keys}
use Rattle.m11_asm_rules.specs.declared.definitions.Key.{Key}
use Rattle.m11_asm_rules.specs.declared.definitions.Key.TheVariants.{Named, Numbered}
use Rattle.m11_asm_rules.specs.History.{KeyDefinition, change_definitions, definitions_from, definitions_of, labels_definitions, line_definitions, line_moves, moves_from, moves_of}
use Rattle.m11_asm_rules.specs.Lines.{after_line, change_of, line_change, stands}
use Rattle.m11_asm_rules.specs.Locations.{SectionMove, location_in, size_in}
use Rattle.m11_asm_rules.specs.Meanings.{Map}
use Rattle.m11_asm_rules.specs.Placements.{after_lines, table_after}
use Rattle.m11_asm_rules.specs.Sections.{numbered, of_absolute, of_program, section}
use Rattle.m11_asm_rules.specs.Tables.{Table, firm_table, first_modes, first_table, location_of}
use Rattle.m11_asm_rules.proofs.History.{says}
use Rattle.m11_asm_table_laws.specs.Places.{action_in, has_section, index_of, number, place_after, sections_after, selected_by}
use Rattle.m11_asm_table_laws.specs.Said.{Said, is_doubly_defined, nothing_said}
use Rattle.m11_asm_table_laws.specs.Lines.{after_labels, move_by, moves_by, said_by}
use Rattle.m11_asm_table_laws.specs.Tables.{Records}
use Rattle.m11_asm_table_laws.proofs.ActionsRecorded.{action_known, action_moves}
use Rattle.m11_asm_table_laws.proofs.DefinitionsSaid.{action_defined, labels_defined}
use Rattle.m11_asm_table_laws.proofs.Knowing.{Knows, Agrees}
use Rattle.m11_asm_table_laws.proofs.LabelsRecorded.{labels_moves, labels_agree}
use Rattle.m11_asm_table_laws.proofs.Selecting.{found_name, found_selected}
use Rattle.m11_asm_table_laws.proofs.Values.{moves_same}

-- the table after these lines, the first of which is the last line
abbrev table_by : Map → List UnfoldedLine → Table
table_by map before = table_after map (reverse before)

-- ---- one more line

last_line : (before : List UnfoldedLine) (given : UnfoldedLine) → reverse (given ∷ before) ≡ reverse before ++ given ∷ []
last_line before given = reverse-append (given ∷ []) before

table_more : (map : Map) (before : List UnfoldedLine) (given : UnfoldedLine)
    → table_by map (given ∷ before) ≡ after_line map (table_by map before) given
table_more map before given =
    ap (table_after map) (last_line before given) ∙ fold-append (after_line map) first_table (reverse before) (given ∷ [])

moves_more : (map : Map) (table : Table) (lines : List UnfoldedLine) (given : UnfoldedLine)
    → moves_from map table (lines ++ given ∷ []) ≡ moves_from map table lines ++ line_moves (after_lines map table lines) given
moves_more map table [] given = append-nil (line_moves table given)
moves_more map table (first ∷ lines) given =
    ap (λ (m : List SectionMove). line_moves table first ++ m) (moves_more map (after_line map table first) lines given)
    ∙ sym (append_assoc (line_moves table first) (moves_from map (after_line map table first) lines)
    (line_moves (after_lines map (after_line map table first) lines) given))

definitions_more : (map : Map) (table : Table) (lines : List UnfoldedLine) (given : UnfoldedLine)
    → definitions_from map table (lines ++ given ∷ [])
    ≡ definitions_from map table lines ++ line_definitions map (after_lines map table lines) given
definitions_more map table [] given = append-nil (line_definitions map table given)
definitions_more map table (first ∷ lines) given =
    ap (λ (d : List KeyDefinition). line_definitions map table first ++ d) (definitions_more map (after_line map table first) lines given)
    ∙ sym (append_assoc (line_definitions map table first) (definitions_from map (after_line map table first) lines)
    (line_definitions map (after_lines map (after_line map table first) lines) given))

-- ---- the section of the next line

-- the blank section is one of the sections before the first line
blank_there : has_section blank_name (sections_after []) ≡ true
blank_there =
    ap (λ (o : Option Name). has_section blank_name (section (unwrap_or o (0, 0)) of_absolute ∷ section blank_name of_program ∷ []))
    absolute_words

current_there : (before : List UnfoldedLine) → has_section (place_after before).section (sections_after before) ≡ true
current_there [] = blank_there
current_there (given ∷ before) =
    found_selected (place_after before).section (sections_after before) (selected_by (action_in given)) (current_there before)

current_named : (before : List UnfoldedLine)
    → (numbered (number (place_after before)) (sections_after before)).name ≡ (place_after before).section
current_named before = found_name (place_after before).section (sections_after before) (current_there before)

-- ---- what is known after the lines so far

pub record KnowsLines (map : Map) (before : List UnfoldedLine) : Type 0 where
  pub knows : Knows (place_after before) (said_by map before) (table_by map before)
  pub definitions : (said_by map before).definitions ≡ definitions_of map (reverse before)
  pub moves : (said_by map before).moves ≡ moves_of map (reverse before)

none_doubly : (key : Key) → has_key key no_keys ≡ is_doubly_defined key nothing_said
none_doubly (Named name) = refl
none_doubly (Numbered block number) = refl

-- the blank section is the second one, since its name isn't that of the absolute section
blank_second : 1 ≡ index_of blank_name (sections_after [])
blank_second =
    ap (λ (o : Option Name). index_of blank_name (section (unwrap_or o (0, 0)) of_absolute ∷ section blank_name of_program ∷ []))
    (sym absolute_words)

first_knows : (map : Map) → KnowsLines map []
first_knows map = record {
  knows = record {
    definitions = λ key. refl;
    doubly_defined = none_doubly;
    globals = refl;
    sections = refl;
    modes = ap (λ (n : ℕ). record first_modes { section = n }) blank_second;
  };
  definitions = refl;
  moves = refl;
}

module _ (map : Map) (before : List UnfoldedLine) (so_far : KnowsLines map before) where
  pub counters_known : (section : ℕ) → location_of section (table_by map before) ≡ location_in section (said_by map before).moves
  counters_known section =
      (says map (reverse before)).counters section ∙ ap (λ (m : List SectionMove). location_in section m) (sym so_far.moves)

  pub so_far_records : Records (place_after before) (said_by map before) (table_by map before)
  so_far_records = record {
    says = record {
      definitions = so_far.knows.definitions;
      counters = counters_known;
      sizes = λ section.
          (says map (reverse before)).sizes section ∙ ap (λ (m : List SectionMove). size_in section m) (sym so_far.moves);
    };
    doubly_defined = so_far.knows.doubly_defined;
    globals = so_far.knows.globals;
    sections = so_far.knows.sections;
    modes = so_far.knows.modes;
  }

  -- what has been said once the labels of a line stand
  abbrev labels_said : UnfoldedLine → Said
  labels_said given = after_labels (place_after before) given.live.line.text (said_by map before)

  before_agrees : Agrees (place_after before) (said_by map before) (table_by map before)
  before_agrees = record { knows = so_far.knows; named = current_named before; counters = counters_known }

  line_agrees : (given : UnfoldedLine) → Agrees (place_after before) (labels_said given) (stands (table_by map before) given)
  line_agrees given =
      labels_agree (place_after before) given.live.line.text (said_by map before) (table_by map before) before_agrees

  line_moves_known : (given : UnfoldedLine)
      → line_moves (table_by map before) given
      ≡ moves_by (place_after before) (move_by (place_after before) (labels_said given) given.live.line.text (action_in given))
  unfolding line_change action_in
  line_moves_known given =
      moves_same (place_after before) (labels_said given) (stands (table_by map before) given) (line_agrees given)
      given.live.line.text (action_in given)

  line_defined : (given : UnfoldedLine)
      → (said_by map (given ∷ before)).definitions
      ≡ (said_by map before).definitions ++ line_definitions map (table_by map before) given
  unfolding line_change action_in
  line_defined given =
      let line : Bytes = given.live.line.text in
      let stood : Table = stands (table_by map before) given in
      action_defined (place_after before) (labels_said given) stood (line_agrees given) map line (action_in given)
      ∙ ap (λ (d : List KeyDefinition). d ++ change_definitions map stood (change_of (firm_table stood) line (action_in given)))
      (labels_defined (place_after before) line (said_by map before) (table_by map before) before_agrees)
      ∙ append_assoc (said_by map before).definitions (labels_definitions line (table_by map before) (labels_at line))
      (change_definitions map stood (change_of (firm_table stood) line (action_in given)))

  line_known : (given : UnfoldedLine)
      → Knows (place_after (given ∷ before)) (said_by map (given ∷ before)) (after_line map (table_by map before) given)
  unfolding line_change action_in
  line_known given =
      action_known map (place_after before) (labels_said given) (stands (table_by map before) given) (line_agrees given) given.live.line.text (action_in given)

  one_more_known : (given : UnfoldedLine) → KnowsLines map (given ∷ before)
  one_more_known given = record {
    knows = subst (Knows (place_after (given ∷ before)) (said_by map (given ∷ before))) (sym (table_more map before given)) (line_known given);
    definitions =
        line_defined given
        ∙ ap (λ (d : List KeyDefinition). d ++ line_definitions map (table_by map before) given) so_far.definitions
        ∙ sym (ap (definitions_of map) (last_line before given) ∙ definitions_more map first_table (reverse before) given);
    moves =
        action_moves map (place_after before) given.live.line.text (action_in given) (labels_said given)
        ∙ ap (λ (m : List SectionMove). m ++ moves_by (place_after before) (move_by (place_after before) (labels_said given) given.live.line.text (action_in given)))
        (labels_moves (place_after before) given.live.line.text (said_by map before) ∙ so_far.moves)
        ∙ ap (λ (m : List SectionMove). moves_of map (reverse before) ++ m) (sym (line_moves_known given))
        ∙ sym (ap (moves_of map) (last_line before given) ∙ moves_more map first_table (reverse before) given);
  }

all_known : (map : Map) (before : List UnfoldedLine) → KnowsLines map before
all_known map [] = first_knows map
all_known map (given ∷ before) = one_more_known map before (all_known map before) given

pub recorded : (map : Map) (lines : List UnfoldedLine)
    → Records (place_after (reverse lines)) (said_by map (reverse lines)) (table_after map lines)
recorded map lines =
    subst (Records (place_after (reverse lines)) (said_by map (reverse lines))) (ap (table_after map) (reverse-reverse lines))
    (so_far_records map (reverse lines) (all_known map (reverse lines)))

pub definitions_read : (map : Map) (lines : List UnfoldedLine) → definitions_of map lines ≡ (said_by map (reverse lines)).definitions
definitions_read map lines =
    ap (definitions_of map) (sym (reverse-reverse lines)) ∙ sym (all_known map (reverse lines)).definitions

pub moves_read : (map : Map) (lines : List UnfoldedLine) → moves_of map lines ≡ (said_by map (reverse lines)).moves
moves_read map lines = ap (moves_of map) (sym (reverse-reverse lines)) ∙ sym (all_known map (reverse lines)).moves
