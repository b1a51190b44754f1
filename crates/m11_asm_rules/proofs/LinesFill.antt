-- What a line emits fills the bytes by which it moves its counter.
use Rattle.std.proofs.Common.{◌≡◌, ◌∙◌, ℕ, ◌+◌, ◌*◌, ◌/◌, Bool, true, List, length, map as map_list, refl, sym, ap, inl, inr}
use Rattle.m11_scan_expressions.specs.Expressions.{KnownSymbols}
use Rattle.m11_base.specs.Devices.{Bytes}
use Rattle.m11_base.specs.declared.instruction.Op.{Op}
use Rattle.m11_unfold_rules.specs.Unfolding.{UnfoldedLine}
use Rattle.m11_asm_rules.proofs.FilledSizes.{bytes_fill, characters_fill, forms_fill, packed_fill, parts_count, parts_fill, sizes_add, table_twice, words_fill}
use Rattle.m11_asm_rules.specs.Actions.{Action, AlignTo, ByteList, LimitWords, Operate, PackedText, Room, Storage, Store, Text, TextPart, WordList}
use Rattle.m11_asm_rules.specs.Alignment.{gap, location_for}
use Rattle.m11_asm_rules.specs.Contents.{contents_size, fixed_byte, further}
use Rattle.m11_asm_rules.specs.Effects.{is_even, size, steps, stored}
use Rattle.m11_asm_rules.specs.Fields.{fields_at, forms_of}
use Rattle.m11_asm_rules.specs.Filling.{Fills, gap_before}
use Rattle.m11_asm_rules.specs.Instructions as instructions
use Rattle.m11_asm_rules.specs.Lines.{change_of, emission_by, line_change, line_emission}
use Rattle.m11_asm_rules.specs.Meanings.{LocalOnly, Map, empty_map, known_at}
use Rattle.m11_asm_rules.specs.Operands.{instruction_size}
use Rattle.m11_asm_rules.specs.Operations.{action}
use Rattle.m11_asm_rules.specs.Storage.{bytes_from, words_from}
use Rattle.m11_asm_rules.specs.Strings.{last_byte, packed_size, packed_text, parts_bytes, parts_codes, parts_size, text_bytes, text_size}
use Rattle.m11_asm_rules.specs.Tables.{Table, firm_table, location}

-- ---- what is put, or the room for it

text_fills : (map : Map) (table : Table) (here : ℕ) (parts : List TextPart) (is_ended : Bool)
    → contents_size (text_bytes map table here parts is_ended).contents ≡ text_size parts is_ended
text_fills map table here parts is_ended =
    sizes_add (parts_bytes map table here parts).contents (map_list fixed_byte (last_byte is_ended))
    ∙ ap (λ (n : ℕ). n + contents_size (map_list fixed_byte (last_byte is_ended))) (parts_fill map table here parts)
    ∙ ap (λ (n : ℕ). parts_size parts + n) (characters_fill (last_byte is_ended))

packed_fills : (map : Map) (table : Table) (here : ℕ) (parts : List TextPart)
    → contents_size (packed_text map table here parts).contents ≡ packed_size parts
packed_fills map table here parts =
    packed_fill (parts_codes (known_at map LocalOnly table here) parts).codes
    ∙ ap (λ (n : ℕ). (n + 2) / 3 * 2) (parts_count (known_at map LocalOnly table here) parts)

by_size : (passed one other : ℕ) → one ≡ other → steps passed other ≡ steps passed one
by_size passed one other same = ap (λ (n : ℕ). steps passed n) (sym same)

storage_fills : (map : Map) (firm table : Table) (passed here : ℕ) (storage : Storage)
    → Fills passed (stored map table here storage).contents (steps passed (size firm here storage))
storage_fills map firm table passed here (WordList elements) =
    inr (by_size passed (contents_size (words_from map table here elements).contents) (length elements * 2)
    (words_fill map table here elements))
storage_fills map firm table passed here (ByteList elements) =
    inr (by_size passed (contents_size (bytes_from map table here elements).contents) (length elements)
    (bytes_fill map table here elements))
storage_fills map firm table passed here (Text parts is_ended) =
    inr (by_size passed (contents_size (text_bytes map table here parts is_ended).contents) (text_size parts is_ended)
    (text_fills map table here parts is_ended))
storage_fills map firm table passed here (PackedText parts) =
    inr (by_size passed (contents_size (packed_text map table here parts).contents) (packed_size parts)
    (packed_fills map table here parts))
storage_fills map firm table passed here LimitWords = inr refl
storage_fills map firm table passed here (Room unit count) = inl refl
storage_fills map firm table passed here (AlignTo is_even) = inl refl

-- ---- instructions

abbrev size_in : KnownSymbols → Bytes → ℕ → Op → ℕ
size_in firm line start operation = instruction_size (forms_of (fields_at firm line start operation))

-- an instruction has the same size under the firm part of a table as under the table
size_firm : (table : Table) (here : ℕ) (line : Bytes) (start : ℕ) (operation : Op)
    → instructions.size (firm_table table) here line start operation ≡ instructions.size table here line start operation
size_firm table here line start operation =
    ap (λ (t : Table). size_in (known_at empty_map LocalOnly t here) line start operation) (table_twice table)

instruction_fills : (map : Map) (table : Table) (here : ℕ) (line : Bytes) (start : ℕ) (operation : Op)
    → instructions.size (firm_table table) here line start operation
    ≡ contents_size (instructions.words map table here line start operation).contents
instruction_fills map table here line start operation =
    size_firm table here line start operation
    ∙ sym (forms_fill (instructions.line_context map table here) (further here 2)
    (forms_of (instructions.fields table here line start operation)))

action_fills : (map : Map) (table : Table) (line : Bytes) (does : Action)
    → Fills (gap_before table does) (emission_by map table line does).contents
    (change_of (firm_table table) line does)
action_fills map table line (Store storage) =
    storage_fills map (firm_table table) table (gap (is_even storage) (location table))
    (location_for (is_even storage) (location table)) storage
action_fills map table line (Operate operation start) =
    inr (by_size (gap true (location table))
    (contents_size (instructions.words map table (location_for true (location table)) line start operation).contents)
    (instructions.size (firm_table table) (location_for true (location table)) line start operation)
    (sym (instruction_fills map table (location_for true (location table)) line start operation)))
action_fills map table line other = inl refl

pub lines_fill : (map : Map) (table : Table) (given : UnfoldedLine)
    → Fills (gap_before table (action given.is_own given.arguments given.live.line.text)) (line_emission map table given).contents
    (line_change (firm_table table) given)
unfolding line_emission line_change
lines_fill map table given =
    action_fills map table given.live.line.text (action given.is_own given.arguments given.live.line.text)
