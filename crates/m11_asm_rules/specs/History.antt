-- The definitions and moves of a source, in the order of its lines: each definition by a label or an assignment, and each move of a
-- location counter.
-- (MACRO-11 Language Reference Manual, "Symbols", "Direct assignment statements" and "Current location counter".)
use Rattle.std.specs.Prelude.{◌≡◌, ℕ, if◌then◌else◌, List, [], ◌∷◌, ◌++◌, Option, Some, None}
use Rattle.m11_base.specs.Devices.{Bytes}
use Rattle.m11_base.specs.Rad50.{Name}
use Rattle.m11_scan_statements.specs.Labels.{labels_at}
use Rattle.m11_scan_statements.specs.declared.labels.Label.{Label}
use Rattle.m11_scan_statements.specs.declared.labels.LabelKind.{LabelKind}
use Rattle.m11_scan_statements.specs.declared.labels.LabelKind.TheVariants as label
use Rattle.m11_unfold_rules.specs.Unfolding.{UnfoldedLine}
use Rattle.m11_asm_rules.specs.Assignments.{assigned}
use Rattle.m11_asm_rules.specs.Changes.{Assigns, Change, Counts, Numbers, numbered}
use Rattle.m11_asm_rules.specs.Definitions.{Definition, Key, Named, Numbered, first_definitions, is_defined, is_labelled, is_same, last_definition}
use Rattle.m11_asm_rules.specs.Labels.{label_name, labelled, with_label}
use Rattle.m11_asm_rules.specs.Lines.{after_line, line_change, stands}
use Rattle.m11_asm_rules.specs.Locations.{SectionMove, in_section, location_in, size_in}
use Rattle.m11_asm_rules.specs.Meanings.{Map}
use Rattle.m11_asm_rules.specs.Tables.{Table, firm_table, first_table, location_of, size_of}

-- ---- definitions

pub record KeyDefinition : Type 0 where
  pub key : Key
  pub definition : Definition

abbrev pub defining : Key → Definition → KeyDefinition
defining key definition = record { key = key; definition = definition }

-- the definition that a label gives its key; none if the key is already defined
abbrev pub key_definitions : Table → Key → List KeyDefinition
key_definitions table key = if is_defined key table.definitions then [] else defining key (labelled table) ∷ []

abbrev pub name_definitions : Table → Option Name → List KeyDefinition
name_definitions table (Some name) = key_definitions table (Named name)
name_definitions table None = []

abbrev pub label_definitions : Table → Option Name → LabelKind → List KeyDefinition
label_definitions table name label.Ordinary = name_definitions table name
label_definitions table name label.Global = name_definitions table name
label_definitions table name (label.Local number) = key_definitions table (Numbered table.modes.block number)
label_definitions table name label.Outside = []

abbrev pub labels_definitions : Bytes → Table → List Label → List KeyDefinition
labels_definitions line table [] = []
labels_definitions line table (named ∷ labels) =
    label_definitions table (label_name line named) named.kind ++ labels_definitions line (with_label line table named) labels

-- the definition that an assignment, `.NARG` or `.NCHR` gives a name; none if the name is a label's
abbrev pub name_definition : Table → Name → Definition → List KeyDefinition
name_definition table name definition =
    if is_labelled (Named name) table.definitions then [] else defining (Named name) definition ∷ []

abbrev pub change_definitions : Map → Table → Change → List KeyDefinition
change_definitions map table (Assigns name is_global tokens) = name_definition table name (assigned map table tokens)
change_definitions map table (Numbers name number) = name_definition table name (numbered number)
change_definitions map table other = []

abbrev pub line_definitions : Map → Table → UnfoldedLine → List KeyDefinition
line_definitions map table given =
    labels_definitions given.live.line.text table (labels_at given.live.line.text)
    ++ change_definitions map (stands table given) (line_change (firm_table (stands table given)) given)

abbrev pub definitions_from : Map → Table → List UnfoldedLine → List KeyDefinition
definitions_from map table [] = []
definitions_from map table (given ∷ lines) =
    line_definitions map table given ++ definitions_from map (after_line map table given) lines

abbrev pub definitions_of : Map → List UnfoldedLine → List KeyDefinition
definitions_of map lines = definitions_from map first_table lines

-- the last definition of a key in a list; if the list has none, the definition before the list, if there is one
abbrev pub last_of : Key → Option Definition → List KeyDefinition → Option Definition
last_of key before [] = before
last_of key before (one ∷ others) = last_of key (if is_same one.key key then Some one.definition else before) others

-- ---- moves of the counters

abbrev pub change_moves : ℕ → Change → List SectionMove
change_moves section (Counts move) = in_section section move ∷ []
change_moves section other = []

abbrev pub line_moves : Table → UnfoldedLine → List SectionMove
line_moves table given = change_moves (stands table given).modes.section (line_change (firm_table (stands table given)) given)

abbrev pub moves_from : Map → Table → List UnfoldedLine → List SectionMove
moves_from map table [] = []
moves_from map table (given ∷ lines) = line_moves table given ++ moves_from map (after_line map table given) lines

abbrev pub moves_of : Map → List UnfoldedLine → List SectionMove
moves_of map lines = moves_from map first_table lines

-- ---- the table records these definitions and moves

pub record SaysWhatTheySaid (defined : List KeyDefinition) (moves : List SectionMove) (table : Table) : Type 0 where
  -- the last definition of each key comes from the last line that defines the key; if no line does, the name of a register is defined as
  -- the register, and no other key is defined
  pub definitions : (key : Key) → last_definition key table.definitions ≡ last_of key (last_definition key first_definitions) defined
  -- a counter is the location last set in its section, or 0 if none was set, plus the sizes of the lines since then, modulo 65536; the size
  -- of a section is the greatest location that its counter had after a line that moved it
  pub counters : (section : ℕ) → location_of section table ≡ location_in section moves
  pub sizes : (section : ℕ) → size_of section table ≡ size_in section moves
