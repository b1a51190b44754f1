-- `name=e`, `name==e` and `.=e`. (MACRO-11 Language Reference Manual, "Direct assignment statements" and "Current location counter". This
-- project's own: `.=` to a location outside the current section is ignored, and flagged A; and each assignment to a global name whose
-- value is unknown at the end of the source is flagged U.)
use Rattle.std.specs.Prelude.{ℕ, ◌&&◌, Bool, true, false, if◌then◌else◌, Option, Some, None}
use Rattle.std.specs.List.{list_any}
use Rattle.std.specs.Int.RustNames.{bit_or}
use Rattle.std.specs.Option.{option_map_or}
use Rattle.m11_unfold_rules.specs.Definedness.{flag_U}
use Rattle.m11_scan_expressions.specs.Expressions.{value}
use Rattle.m11_scan_expressions.specs.Tokens.{Expression}
use Rattle.m11_scan_expressions.specs.LeftOvers.{has_token}
use Rattle.m11_base.specs.Devices.{Bytes}
use Rattle.m11_base.specs.NameCharacters.{six_of}
use Rattle.m11_base.specs.Rad50.{Name, is_same_name, name_of}
use Rattle.m11_scan.specs.Cutting.{text_between, tokens_from}
use Rattle.m11_scan.specs.Ends.{expression_end}
use Rattle.m11_scan.specs.ErrorFlags.{flag_A, flag_Q, flag_if}
use Rattle.m11_scan_statements.specs.declared.spans.Span.{Span}
use Rattle.m11_scan_expressions.specs.Quantities.{Quantity}
use Rattle.m11_asm_rules.specs.Changes.{Assigns, Change, Counts, Keeps}
use Rattle.m11_asm_rules.specs.Contents.{register_flags}
use Rattle.m11_asm_rules.specs.Definitions.{Definition, Named, Standing, Known, Unknown, is_labelled, last_definition}
use Rattle.m11_asm_rules.specs.Labels.{flag_M}
use Rattle.m11_asm_rules.specs.Meanings.{LocalOnly, Map, firm_known, known_at}
use Rattle.m11_asm_rules.specs.Locations.{Goes}
use Rattle.m11_asm_rules.specs.Relocations.{is_here}
use Rattle.m11_asm_rules.specs.Tables.{Table, location}

-- Q if a token follows the expression at a column
abbrev pub after_expression : Bytes → ℕ → ℕ
after_expression line start = flag_if (has_token (tokens_from line (expression_end line start))) flag_Q

-- ---- name=e, name==e

abbrev pub target : Bytes → Span → Option Name
target line name = name_of (six_of (text_between line name.start name.end))

abbrev pub assignment : Option Name → Bool → Expression → Change
assignment (Some name) is_global tokens = Assigns name is_global tokens
assignment None is_global tokens = Keeps

-- M if a name is the name of a label
abbrev pub label_flags : Table → Name → ℕ
label_flags table name = flag_if (is_labelled (Named name) table.definitions) flag_M

-- whether a value is unknown
abbrev pub is_unknown_as : Standing → Bool
is_unknown_as (Known number kind) = false
is_unknown_as Unknown = true

abbrev pub is_unknown : Option Definition → Bool
is_unknown found = option_map_or (λ (definition : Definition). is_unknown_as definition.standing) found false

abbrev pub is_exported : Name → Map → Bool
is_exported name map = list_any (λ other. is_same_name other name) map.globals

-- U if a name is global and its value at the end of the source is unknown
abbrev pub globl_flags : Map → Name → ℕ
globl_flags map name =
    flag_if (is_exported name map && is_unknown (last_definition (Named name) map.definitions)) flag_U

-- the flags M and U of a line that defines this name by an assignment, `.NARG` or `.NCHR`
abbrev pub definition_flags : Map → Table → Name → ℕ
definition_flags map table name = bit_or (label_flags table name) (globl_flags map name)

abbrev pub target_flags : Map → Table → Option Name → ℕ
target_flags map table name = option_map_or (definition_flags map table) name 0

abbrev pub assignment_flags : Map → Table → Option Name → Expression → ℕ
assignment_flags map table name tokens =
    bit_or (target_flags map table name) (value (known_at map LocalOnly table (location table)) tokens).flags

-- ---- .=e: the value of e depends on firm names alone

abbrev pub counter_value : Table → Expression → Quantity
counter_value table tokens = value (firm_known table (location table)) tokens

-- the change by `.=e`: the counter is set, unless the location is outside the current section
abbrev pub counter_change : Table → Expression → Change
counter_change table tokens =
    let found = counter_value table tokens in
    if is_here table found.kind then Counts (Goes found.number) else Keeps

-- the flags of `.=e`: those of its value, R if the value is a register, and A if the location is outside the current section
abbrev pub counter_flags : Table → Expression → ℕ
counter_flags table tokens =
    let found = counter_value table tokens in
    bit_or found.flags (bit_or (register_flags found.kind) (if is_here table found.kind then 0 else flag_A))
