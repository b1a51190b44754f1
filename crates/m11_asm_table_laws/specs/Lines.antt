-- What a line says: its labels, its assignment, the names that it makes global, and its move of the location counter. (MACRO-11 Language
-- Reference Manual, "Label field", "Local symbols", "Multiple definition of symbols", "Direct assignment statements", ".GLOBL directive" and
-- "Current location counter".)
use Rattle.std.specs.Prelude.{ℕ, ◌+◌, ◌*◌, Bool, true, false, if◌then◌else◌, List, [], ◌∷◌, length, Option, Some, None, is_some, option_map, fold}
use Rattle.std.specs.List.{list_all}
use Rattle.m11_base.specs.Devices.{Bytes}
use Rattle.m11_base.specs.Rad50.{Name}
use Rattle.m11_scan_expressions.specs.Expressions.{KnownSymbols, symbols, value}
use Rattle.m11_scan_expressions.specs.Tokens.{Expression}
use Rattle.m11_scan_statements.specs.Labels.{labels_at}
use Rattle.m11_scan_statements.specs.declared.labels.Label.{Label}
use Rattle.m11_scan_statements.specs.declared.labels.LabelKind.{LabelKind}
use Rattle.m11_scan_statements.specs.declared.labels.LabelKind.TheVariants as label
use Rattle.m11_unfold_rules.specs.Unfolding.{UnfoldedLine}
use Rattle.m11_asm_rules.specs.Actions.{Action, AlignTo, Assign, ByteList, Export, LimitWords, Operate, PackedText, Room, SetCounter, SetNumber, Storage, Store, Text, WordList}
use Rattle.m11_asm_rules.specs.Alignment.{gap, location_for, to_next}
use Rattle.m11_asm_rules.specs.Assignments.{standing_of}
use Rattle.m11_asm_rules.specs.Changes.{numbered}
use Rattle.m11_asm_rules.specs.Definitions.{is_of_label}
use Rattle.m11_asm_rules.specs.Effects.{is_even}
use Rattle.m11_asm_rules.specs.Fields.{fields_at, forms_of}
use Rattle.m11_asm_rules.specs.Labels.{label_name}
use Rattle.m11_asm_rules.specs.Locations.{Goes, Move, SectionMove, Steps, in_section}
use Rattle.m11_asm_rules.specs.Meanings.{Map}
use Rattle.m11_asm_rules.specs.Operands.{instruction_size}
use Rattle.m11_asm_rules.specs.Storage.{block_count}
use Rattle.m11_asm_rules.specs.Strings.{packed_size, text_size}
use Rattle.m11_asm_rules.specs.declared.definitions.Definition.{Definition}
use Rattle.m11_asm_rules.specs.declared.definitions.Key.{Key}
use Rattle.m11_asm_rules.specs.declared.definitions.Key.TheVariants.{Named, Numbered}
use Rattle.m11_asm_rules.specs.declared.definitions.Standing.TheVariants.{Known}
use Rattle.m11_asm_table_laws.specs.Places.{Place, action_in, is_here, kind_here, number, place_after}
use Rattle.m11_asm_table_laws.specs.Said.{Said, also_defining, block, doubly_defining, exporting, last_said, location, moving, nothing_said}
use Rattle.m11_asm_table_laws.specs.Symbols.{firm, is_firm, known, meaning}

-- ---- labels

-- the definition by a label: its location and its section
abbrev pub labelled : Place → Said → Definition
labelled place said =
    record { standing = Known (location place said) (kind_here place); is_firm = true; label = Some place.section }

-- the key of a label; none, if its name isn't valid or its number is out of range
abbrev pub label_key : ℕ → Option Name → LabelKind → Option Key
label_key in_block name label.Ordinary = option_map Named name
label_key in_block name label.Global = option_map Named name
label_key in_block name (label.Local number) = Some (Numbered in_block number)
label_key in_block name label.Outside = None

-- whether a label is written with `::`
abbrev pub is_global_label : LabelKind → Bool
is_global_label label.Global = true
is_global_label other = false

-- the name of a key, if the key is to become global with its definition
abbrev pub name_if : Bool → Key → List Name
name_if is_global (Named name) = if is_global then name ∷ [] else []
name_if is_global (Numbered in_block number) = []

abbrev pub also_exporting : Bool → Key → Definition → Said → Said
also_exporting is_global key definition said = exporting (name_if is_global key) (also_defining key definition said)

-- a label defines its key, if the key has no definition yet; otherwise the key is doubly defined
abbrev pub by_label : Bool → Definition → Said → Option Key → Said
by_label is_global definition said None = said
by_label is_global definition said (Some key) =
    if is_some (last_said key said) then doubly_defining key said else also_exporting is_global key definition said

abbrev pub with_label : Place → Bytes → Said → Label → Said
with_label place line said named =
    by_label (is_global_label named.kind) (labelled place said) said
    (label_key (block place said) (label_name line named) named.kind)

abbrev pub after_labels : Place → Bytes → Said → Said
after_labels place line said = fold (with_label place line) said (labels_at line)

-- ---- assignments

-- the definition by an assignment: the value of its expression, which is firm if all symbols of the expression are
abbrev pub assigned : Map → Place → Said → Expression → Definition
assigned map place said tokens = record {
  standing = standing_of (value (known place said (location place said) (meaning map said)) tokens);
  is_firm = list_all (is_firm place said) (symbols tokens);
  label = None;
}

-- an assignment: its name, whether it is written with `==`, and its definition
pub record Assignment : Type 0 where
  pub name : Name
  pub is_global : Bool
  pub definition : Definition

abbrev pub assigning : Bool → Definition → Name → Assignment
assigning is_global definition name = record { name = name; is_global = is_global; definition = definition }

-- the assignment by an action: `name=e` or `name==e`, if the name is valid, or that by `.NARG` or `.NCHR`
abbrev pub assignment_by : Map → Place → Said → Action → Option Assignment
assignment_by map place said (Assign name is_global tokens) = option_map (assigning is_global (assigned map place said tokens)) name
assignment_by map place said (SetNumber name number) = Some (assigning false (numbered number) name)
assignment_by map place said other = None

-- an assignment defines its name, unless the name is a label's, which is then doubly defined
abbrev pub by_assignment : Said → Option Assignment → Said
by_assignment said None = said
by_assignment said (Some made) =
    if is_of_label (last_said (Named made.name) said) then doubly_defining (Named made.name) said
    else also_exporting made.is_global (Named made.name) made.definition said

-- `.GLOBL` and `.WEAK` make their names global
abbrev pub by_export : Said → Action → Said
by_export said (Export is_weak names) = exporting names said
by_export said other = said

-- ---- moves

-- the size of storage in bytes, at a location and with these symbols
abbrev pub size : KnownSymbols → ℕ → Storage → ℕ
size symbols here (WordList elements) = length elements * 2
size symbols here (ByteList elements) = length elements
size symbols here (Text parts is_ended) = text_size parts is_ended
size symbols here (PackedText parts) = packed_size parts
size symbols here LimitWords = 4
size symbols here (Room unit count) = block_count symbols count * unit
size symbols here (AlignTo to_even) = to_next to_even here

-- a move by the byte skipped to reach an even location, if one is needed, and by the size of what follows
abbrev pub stepping : Bool → ℕ → (ℕ → ℕ) → Move
stepping is_even here size = Steps (gap is_even here + size (location_for is_even here))

-- the move by an action: `.=e` sets the counter, if e is a location of the line's section; storage and instructions move it on
abbrev pub move_by : Place → Said → Bytes → Action → Option Move
move_by place said line (SetCounter tokens) =
    let found = value (firm place said (location place said)) tokens in
    if is_here place found.kind then Some (Goes found.number) else None
move_by place said line (Store storage) =
    Some (stepping (is_even storage) (location place said) λ here. size (firm place said here) here storage)
move_by place said line (Operate operation start) =
    Some (stepping true (location place said)
    λ here. instruction_size (forms_of (fields_at (firm place said here) line start operation)))
move_by place said line other = None

-- ... in the line's section
abbrev pub moves_by : Place → Option Move → List SectionMove
moves_by place None = []
moves_by place (Some move) = in_section (number place) move ∷ []

-- ---- lines

-- what has been said after a line whose labels stand
abbrev pub after_action : Map → Place → Bytes → Action → Said → Said
after_action map place line action said =
    moving (moves_by place (move_by place said line action))
    (by_export (by_assignment said (assignment_by map place said action)) action)

-- what has been said after some lines; the first line of the list is the last one of them
abbrev pub said_by : Map → List UnfoldedLine → Said
said_by map [] = nothing_said
said_by map (given ∷ before) =
    after_action map (place_after before) given.live.line.text (action_in given)
    (after_labels (place_after before) given.live.line.text (said_by map before))
