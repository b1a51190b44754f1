-- What a line of a source does: the pieces that it emits, its flags, and the table after it. (MACRO-11 Language Reference Manual, "Source
-- program format" and "General assembler directives".)
use Rattle.std.specs.Prelude.{ℕ, Bool, true, false, List, length}
use Rattle.std.specs.Int.RustNames.{bit_or}
use Rattle.m11_scan_expressions.specs.LeftOvers.{skip_flags}
use Rattle.m11_base.specs.Devices.{Bytes}
use Rattle.m11_obj.specs.declared.pieces.Piece.{Piece}
use Rattle.m11_scan_statements.specs.Labels.{labels_at, labels_end}
use Rattle.m11_scan_statements.specs.Statements.{body_of, label_flags}
use Rattle.m11_scan_statements.specs.declared.bodies.Body.{Body}
use Rattle.m11_scan_statements.specs.declared.bodies.Body.TheVariants as body
use Rattle.m11_unfold_rules.specs.Unfolding.{UnfoldedLine}
use Rattle.m11_asm_rules.specs.Actions.{Action, Assign, SetCounter, Select, Export, SetNumber, SetRadix, MoveLevel, ListExpansions, Transfer, Store, Operate}
use Rattle.m11_asm_rules.specs.Alignment.{location_for}
use Rattle.m11_asm_rules.specs.Assigning.{assignment, assignment_flags, counter_change, counter_flags, definition_flags}
use Rattle.m11_asm_rules.specs.Changes.{Change, Exports, Keeps, Numbers, Selects, Sets, changed}
use Rattle.m11_asm_rules.specs.Contents.{Emission, nothing, pieces_from}
use Rattle.m11_asm_rules.specs.Effects.{instruction_change, instruction_emission, is_even, storage_change, storage_emission}
use Rattle.m11_asm_rules.specs.Exports.{expression_flags, transfer}
use Rattle.m11_asm_rules.specs.Labels.{labels_flags, after_labels_in, one_more}
use Rattle.m11_asm_rules.specs.Meanings.{Map}
use Rattle.m11_asm_rules.specs.Operations.{action, operation}
use Rattle.m11_asm_rules.specs.Psects.{differing_flags, known_section, with_attributes}
use Rattle.m11_asm_rules.specs.Tables.{Modes, Table, firm_table, location, section_name}

-- ---- the change that a line makes, from the firm part of the table after its labels; and the table after the line

-- the modes with the listing level raised (true) or lowered (false)
abbrev pub with_level : Bool → Modes → Modes
with_level true modes = record modes { listed = one_more modes.listed }
with_level false modes = record modes { unlisted = one_more modes.unlisted }

abbrev pub change_of : Table → Bytes → Action → Change
change_of table line (Assign name is_global tokens) = assignment name is_global tokens
change_of table line (SetCounter tokens) = counter_change table tokens
change_of table line (Select name bits attributes) = Selects name (with_attributes bits attributes)
change_of table line (Export is_weak names) = Exports names
change_of table line (SetNumber name number) = Numbers name number
change_of table line (SetRadix radix) = Sets (record table.modes { radix = radix })
change_of table line (MoveLevel goes_up) = Sets (with_level goes_up table.modes)
change_of table line (ListExpansions are_listed) = Sets (record table.modes { shows_expansions = are_listed })
change_of table line (Store storage) = storage_change table storage
change_of table line (Operate operation start) = instruction_change table line operation start
change_of table line other = Keeps

abbrev pub stands : Table → UnfoldedLine → Table
stands table given = after_labels_in table given.live.line.text

unfoldable pub line_change : Table → UnfoldedLine → Change
line_change firm given =
    change_of firm given.live.line.text (action given.is_own given.arguments given.live.line.text)

-- the table after a line: its labels are defined first; which change its operator then makes depends on firm names alone, and on no map
abbrev pub after_line : Map → Table → UnfoldedLine → Table
after_line map table given =
    let stood = stands table given in changed map (line_change (firm_table stood) given) stood

-- ---- what is emitted

abbrev pub emission_by : Map → Table → Bytes → Action → Emission
emission_by map table line (Assign name is_global tokens) = nothing (assignment_flags map table name tokens)
emission_by map table line (SetCounter tokens) = nothing (counter_flags table tokens)
emission_by map table line (Select name bits attributes) = nothing (differing_flags (known_section name table.sections) attributes)
emission_by map table line (SetNumber name number) = nothing (definition_flags map table name)
emission_by map table line (Transfer tokens) = nothing (expression_flags (transfer map table tokens))
emission_by map table line (Store storage) = storage_emission map table storage
emission_by map table line (Operate operation start) = instruction_emission map table line operation start
emission_by map table line other = nothing 0

unfoldable pub line_emission : Map → Table → UnfoldedLine → Emission
line_emission map stood given =
    emission_by map stood given.live.line.text (action given.is_own given.arguments given.live.line.text)

-- the location at which the operator of a line emits its contents
abbrev pub put_location : Table → Action → ℕ
put_location table (Store storage) = location_for (is_even storage) (location table)
put_location table (Operate operation start) = location_for true (location table)
put_location table other = location table

-- the pieces that a line emits into its section
abbrev pub pieces : Map → Table → UnfoldedLine → List Piece
pieces map table given =
    pieces_from (section_name (stands table given))
    (put_location (stands table given) (action given.is_own given.arguments given.live.line.text))
    (line_emission map (stands table given) given).contents

-- ---- flags

-- the column up to which skipped characters are flagged whatever the operator is: the start of the operator's name, or the end of a line
-- without an operator; the operator itself reads the text after its name
abbrev pub known_end : Bytes → Body → ℕ
known_end line statement = elim statement [ body.Operate name ↦ name.start | _ ↦ length line ]

-- the flags of an over-long line and of invalid labels, M for labels defined before, I for skipped characters, and the flags of the
-- operation, the emission and the unfolding
abbrev pub flags : Map → Table → UnfoldedLine → ℕ
flags map table given =
    bit_or
    (bit_or (label_flags given.live.line) (labels_flags given.live.line.text table (labels_at given.live.line.text)))
    (bit_or (skip_flags given.live.line.text (labels_end given.live.line.text)
    (known_end given.live.line.text (body_of given.live.line.text)))
    (bit_or (operation given.is_own given.arguments given.live.line.text).flags
    (bit_or (line_emission map (stands table given) given).flags given.remarks.flags)))
