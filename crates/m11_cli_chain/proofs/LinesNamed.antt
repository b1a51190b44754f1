-- Definitions, emissions and `.END` of live lines name only sections that the lines enter.
use Rattle.std.proofs.Common.{ℕ, Bool, true, false, if◌then◌else◌, List, [], ◌∷◌, ◌++◌, flat_map, Option, Some, None, subst}
use Rattle.std.specs.Option.{option_or}
use Rattle.std.specs.Prelude.{⊤}
use Rattle.std.specs.List.{AllByRecursion}
use Rattle.m11_base.specs.Devices.{Bytes}
use Rattle.m11_base.specs.Names.{absolute_name, blank_name}
use Rattle.m11_base.specs.Rad50.{Name}
use Rattle.m11_obj.specs.declared.pieces.Piece.{Piece}
use Rattle.m11_obj.specs.declared.pieces.PieceContent.{PieceContent}
use Rattle.m11_scan_expressions.specs.Expressions.{value}
use Rattle.m11_scan_expressions.specs.Tokens.{Expression, is_empty}
use Rattle.m11_scan_expressions.specs.Quantities.{Quantity}
use Rattle.m11_scan_expressions.specs.declared.kinds.Kind.{Kind}
use Rattle.m11_scan_expressions.specs.declared.kinds.Kind.TheVariants as kind
use Rattle.m11_scan_statements.specs.Labels.{labels_at}
use Rattle.m11_scan_statements.specs.declared.labels.Label.{Label}
use Rattle.m11_scan_statements.specs.declared.labels.LabelKind.{LabelKind}
use Rattle.m11_scan_statements.specs.declared.labels.LabelKind.TheVariants as label
use Rattle.m11_unfold_rules.specs.Definedness as definedness
use Rattle.m11_unfold_rules.specs.Unfolding.{UnfoldedLine}
use Rattle.m11_asm_directory.specs.Transfers.{home}
use Rattle.m11_asm_rules.specs.Assignments.{assigned, with_assigned}
use Rattle.m11_asm_rules.specs.Changes.{Assigns, Change, Counts, Exports, Keeps, Numbers, Selects, Sets, becomes_global, changed, numbered}
use Rattle.m11_asm_rules.specs.Contents.{content_size, further, pieces_from}
use Rattle.m11_asm_rules.specs.Definitions.{Definitions, is_defined, is_labelled}
use Rattle.m11_asm_rules.specs.Labels.{global_if, label_name, labelled, with_block, with_definition, with_doubly_defined, with_kind, with_label, with_labels, with_name}
use Rattle.m11_asm_rules.specs.Actions.{Action, Transfer}
use Rattle.m11_asm_rules.specs.Lines.{after_line, line_change, line_emission, pieces, put_location, stands}
use Rattle.m11_asm_rules.specs.Operations.{action}
use Rattle.m11_asm_rules.specs.Meanings.{Map, empty_map, known_at}
use Rattle.m11_asm_rules.specs.Placements.{LinePlacement, after_lines, placed_from}
use Rattle.m11_asm_rules.specs.Sources.{line_transfer, transfer_after, transfer_by}
use Rattle.m11_asm_rules.specs.Tables.{Table, firm_table, location, section_name}
use Rattle.m11_asm_rules.specs.declared.definitions.Definition.{Definition}
use Rattle.m11_asm_rules.specs.declared.definitions.Key.{Key}
use Rattle.m11_asm_rules.specs.declared.definitions.Key.TheVariants.{Named, Numbered}
use Rattle.m11_asm_rules.specs.declared.definitions.Standing.TheVariants.{Known, Unknown}
use Rattle.m11_asm_rules.specs.declared.meanings.Context.TheVariants.{LocalOnly}
use Rattle.m11_asm_rules.specs.declared.sections.Section.{Section}
use Rattle.m11_cli_chain.proofs.EmissionsHeld.{AllHold, ContentHolds, emission_held}
use Rattle.m11_cli_chain.proofs.KindsHeld.{AllDefined, DefinitionHolds, KindHolds, SectionHolds, StandingHolds, TableHolds, ValueHolds, here_holds, known_holds, none_defined, numbered_holds, one_more_defined}
use Rattle.m11_cli_image.proofs.TablesGrow.{lines_grow}

abbrev pub pieces_of : LinePlacement → List Piece
pieces_of line = line.pieces

module _ (P : Name → Type 0) (blank : P blank_name) where
  abbrev Holds : Table → Type 0
  Holds table = TableHolds P blank table

  abbrev Defined : Definitions → Type 0
  Defined definitions = AllDefined P definitions

  abbrev Sections : List Section → Type 0
  Sections sections = AllByRecursion (SectionHolds P) sections

  first_sections : (some more : List Section) → Sections (some ++ more) → Sections some
  first_sections [] more h = tt
  first_sections (one ∷ some) more h = (h.0, first_sections some more h.1)

  -- ---- labels

  adds : (key : Key) (table : Table) (one : Definition) → DefinitionHolds P one → Holds table → Holds (with_definition key one table)
  adds key table one h held = record {
    definitions = one_more_defined P table.definitions key one held.definitions h;
    sections = held.sections;
  }

  global : (is_global : Bool) (name : Name) (table : Table) → Holds table → Holds (global_if is_global name table)
  global true name table held = record { definitions = held.definitions; sections = held.sections }
  global false name table held = held

  either : (b : Bool) (key : Key) (table other : Table) → Holds table → Holds other
      → Holds (if b then with_doubly_defined key table else other)
  either true key table other held h = record { definitions = held.definitions; sections = held.sections }
  either false key table other held h = h

  labels : (key : Key) (table : Table) → Holds table → Holds (with_definition key (labelled table) table)
  labels key table held = adds key table (labelled table) (here_holds P blank table held.sections) held

  named : (is_global : Bool) (table : Table) (name : Option Name) → Holds table → Holds (with_name is_global table name)
  named is_global table (Some name) held =
      let new = labels (Named name) table held in
      let opened : Table = with_block (with_definition (Named name) (labelled table) table) in
      either (is_defined (Named name) table.definitions) (Named name) table (global_if is_global name opened) held
      (global is_global name opened (record { definitions = new.definitions; sections = new.sections }))
  named is_global table None held = held

  kind_labels : (table : Table) (name : Option Name) (sort : LabelKind) → Holds table → Holds (with_kind table name sort)
  kind_labels table name label.Ordinary held = named false table name held
  kind_labels table name label.Global held = named true table name held
  kind_labels table name (label.Local number) held =
      let key : Key = Numbered table.modes.block number in
      either (is_defined key table.definitions) key table (with_definition key (labelled table) table) held (labels key table held)
  kind_labels table name label.Outside held = held

  all_labels : (line : Bytes) (table : Table) (all : List Label) → Holds table → Holds (with_labels line table all)
  all_labels line table [] held = held
  all_labels line table (one ∷ all) held =
      all_labels line (with_label line table one) all (kind_labels table (label_name line one) one.kind held)

  pub stood : (table : Table) (given : UnfoldedLine) → Holds table → Holds (stands table given)
  stood table given held = all_labels given.live.line.text table (labels_at given.live.line.text) held

  -- ---- changes

  assigned_by : (b : Bool) (value : Quantity) → ValueHolds P value
      → StandingHolds P (if b then Known value.number value.kind
      else Unknown)
  assigned_by true value h = h
  assigned_by false value h = tt

  value_added : (map : Map) (tokens : Expression) (table : Table) → Defined map.definitions → Holds table
      → DefinitionHolds P (assigned map table tokens)
  value_added map tokens table defined held =
      let one = value (known_at map LocalOnly table (location table)) tokens in
      assigned_by (definedness.is_defined one) one (known_holds P blank map LocalOnly table (location table) defined held tokens)

  changes : (map : Map) (what : Change) (table : Table) → Defined map.definitions → Holds table
      → Defined (changed map what table).definitions
  changes map Keeps table defined held = held.definitions
  changes map (Counts move) table defined held = held.definitions
  changes map (Selects name attributes) table defined held = held.definitions
  changes map (Assigns name is_global tokens) table defined held =
      let one : Definition = assigned map table tokens in
      (global (becomes_global is_global name table) name (with_assigned (Named name) one table)
      (either (is_labelled (Named name) table.definitions) (Named name) table (with_definition (Named name) one table) held
      (adds (Named name) table one (value_added map tokens table defined held) held))).definitions
  changes map (Numbers name number) table defined held =
      (either (is_labelled (Named name) table.definitions) (Named name) table (with_definition (Named name) (numbered number) table) held
      (adds (Named name) table (numbered number) tt held)).definitions
  changes map (Exports names) table defined held = held.definitions
  changes map (Sets modes) table defined held = held.definitions

  -- ---- lines

  -- what holds of the sections after this line and more lines holds of those after this line
  sections_before : (map : Map) (table : Table) (given : UnfoldedLine) (lines : List UnfoldedLine)
      → Sections (after_lines map table (given ∷ lines)).sections → Sections (after_line map table given).sections
  sections_before map table given lines all =
      let g = lines_grow map (after_line map table given) lines in
      first_sections (after_line map table given).sections g.more (subst Sections g.sections all)

  next : (map : Map) (table : Table) (given : UnfoldedLine) (lines : List UnfoldedLine) → Defined map.definitions → Holds table
      → Sections (after_lines map table (given ∷ lines)).sections → Holds (after_line map table given)
  next map table given lines defined held all = record {
    definitions = changes map (line_change (firm_table (stands table given)) given) (stands table given) defined
        (stood table given held);
    sections = sections_before map table given lines all;
  }

  pub definitions_hold : (map : Map) (table : Table) (lines : List UnfoldedLine) → Defined map.definitions → Holds table
      → Sections (after_lines map table lines).sections → Defined (after_lines map table lines).definitions
  definitions_hold map table [] defined held all = held.definitions
  definitions_hold map table (given ∷ lines) defined held all =
      definitions_hold map (after_line map table given) lines defined (next map table given lines defined held all) all

  -- ---- pieces

  pub record PieceHolds (piece : Piece) : Type 0 where
    pub section : P piece.section
    pub content : ContentHolds P piece.content

  from : (section : Name) (start : ℕ) (contents : List PieceContent) → P section → AllHold P contents
      → AllByRecursion PieceHolds (pieces_from section start contents)
  from section start [] h all = tt
  from section start (content ∷ contents) h all =
      (record { section = h; content = all.0 }, from section (further start (content_size content)) contents h all.1)

  both_held : (some more : List Piece) → AllByRecursion PieceHolds some → AllByRecursion PieceHolds more
      → AllByRecursion PieceHolds (some ++ more)
  both_held [] more h k = k
  both_held (one ∷ some) more h k = (h.0, both_held some more h.1 k)

  pub pieces_hold : (map : Map) (table : Table) (lines : List UnfoldedLine) → Defined map.definitions → Holds table
      → Sections (after_lines map table lines).sections
      → AllByRecursion PieceHolds (flat_map pieces_of (placed_from map table lines))
  pieces_hold map table [] defined held all = tt
  pieces_hold map table (given ∷ lines) defined held all =
      let here = stood table given held in
      both_held (pieces map table given) (flat_map pieces_of (placed_from map (after_line map table given) lines))
      (from (section_name (stands table given))
      (put_location (stands table given) (action given.is_own given.arguments given.live.line.text)) (line_emission map (stands table given) given).contents
      (numbered_holds P blank (stands table given).modes.section (stands table given).sections here.sections)
      (emission_held P blank map defined (stands table given) here given))
      (pieces_hold map (after_line map table given) lines defined (next map table given lines defined held all) all)

  -- ---- the start of the program

  module _ (absolute : P absolute_name) where
    abbrev pub BeginsIn : Option Quantity → Type 0
    BeginsIn (Some value) = P (home value.kind)
    BeginsIn None = ⊤

    home_holds : (counted : Kind) → KindHolds P counted → P (home counted)
    home_holds kind.Absolute h = absolute
    home_holds (kind.Section name) h = h
    home_holds kind.Register h = absolute
    home_holds (kind.Reference name) h = absolute

    value_begins : (b : Bool) (one : Quantity) → ValueHolds P one → BeginsIn (if b then None else Some one)
    value_begins true one h = tt
    value_begins false one h = home_holds one.kind h

    action_begins : (table : Table) (done : Action) → Holds table → BeginsIn (transfer_by empty_map table done)
    action_begins table (Transfer tokens) held =
        value_begins (is_empty tokens) (value (known_at empty_map LocalOnly table (location table)) tokens)
        (known_holds P blank empty_map LocalOnly table (location table) (none_defined P) held tokens)
    action_begins table other held = tt

    last_begins : (later earlier : Option Quantity) → BeginsIn later → BeginsIn earlier → BeginsIn (option_or later earlier)
    last_begins (Some value) earlier h k = h
    last_begins None earlier h k = k

    pub lines_begin : (table : Table) (lines : List UnfoldedLine) → Holds table → Sections (after_lines empty_map table lines).sections
        → BeginsIn (transfer_after empty_map table lines)
    lines_begin table [] held all = tt
    lines_begin table (given ∷ lines) held all =
        last_begins (transfer_after empty_map (after_line empty_map table given) lines) (line_transfer empty_map table given)
        (lines_begin (after_line empty_map table given) lines (next empty_map table given lines (none_defined P) held all) all)
        (action_begins (stands table given) (action given.is_own given.arguments given.live.line.text) (stood table given held))
