-- Storage and instructions: the size of each, how far it moves the location counter, and what it emits, with flags. (MACRO-11 Language
-- Reference Manual, "Data storage directives" and "Location counter control directives"; PDP-11/40 Processor Handbook, "Instruction
-- set".)
use Rattle.std.specs.Prelude.{ℕ, ◌+◌, ◌*◌, ◌%◌, ◌==◌, Bool, true, false, [], ◌∷◌, length}
use Rattle.m11_base.specs.Devices.{Bytes}
use Rattle.m11_base.specs.declared.instruction.Op.{Op}
use Rattle.m11_obj.specs.declared.pieces.PieceContent.TheVariants.{Limits}
use Rattle.m11_asm_rules.specs.Actions.{AlignTo, ByteList, LimitWords, PackedText, Room, Storage, Text, WordList}
use Rattle.m11_asm_rules.specs.Alignment.{gap, gap_flags, location_for, to_next}
use Rattle.m11_asm_rules.specs.Changes.{Change, Counts}
use Rattle.m11_asm_rules.specs.Contents.{Emission, emission, nothing, with_flags}
use Rattle.m11_asm_rules.specs.Instructions as instructions
use Rattle.m11_asm_rules.specs.Locations.{Steps}
use Rattle.m11_asm_rules.specs.Meanings.{Map, firm_known}
use Rattle.m11_asm_rules.specs.Storage.{block_count, bytes_from, count_flags, words_from}
use Rattle.m11_asm_rules.specs.Strings.{packed_size, packed_text, text_bytes, text_size}
use Rattle.m11_asm_rules.specs.Tables.{Table, location}

-- whether storage needs an even location: words do, and so do units of an even number of bytes
abbrev pub is_even : Storage → Bool
is_even (WordList elements) = true
is_even (PackedText parts) = true
is_even LimitWords = true
is_even (Room unit count) = unit % 2 == 0
is_even other = false

-- ---- the change of the counter: it depends on firm names alone, and on no map

-- the size of storage in bytes, at a location
abbrev pub size : Table → ℕ → Storage → ℕ
size table here (WordList elements) = length elements * 2
size table here (ByteList elements) = length elements
size table here (Text parts is_ended) = text_size parts is_ended
size table here (PackedText parts) = packed_size parts
size table here LimitWords = 4
size table here (Room unit count) = block_count (firm_known table here) count * unit
size table here (AlignTo is_even) = to_next is_even here

-- the change that moves the counter by the skipped bytes and by the size of what follows them
abbrev pub steps : ℕ → ℕ → Change
steps passed size = Counts (Steps (passed + size))

abbrev pub storage_change : Table → Storage → Change
storage_change table storage =
    steps (gap (is_even storage) (location table)) (size table (location_for (is_even storage) (location table)) storage)

-- the change by an instruction whose name ends at a column of its line
abbrev pub instruction_change : Table → Bytes → Op → ℕ → Change
instruction_change table line operation start =
    steps (gap true (location table)) (instructions.size table (location_for true (location table)) line start operation)

-- ---- what is emitted under a map, with its flags

-- what storage emits at a location
abbrev pub stored : Map → Table → ℕ → Storage → Emission
stored map table here (WordList elements) = words_from map table here elements
stored map table here (ByteList elements) = bytes_from map table here elements
stored map table here (Text parts is_ended) = text_bytes map table here parts is_ended
stored map table here (PackedText parts) = packed_text map table here parts
stored map table here LimitWords = emission (Limits ∷ []) 0
stored map table here (Room unit count) = nothing (count_flags (firm_known table here) count)
stored map table here (AlignTo is_even) = nothing 0

abbrev pub storage_emission : Map → Table → Storage → Emission
storage_emission map table storage =
    with_flags (gap_flags (is_even storage) (location table))
    (stored map table (location_for (is_even storage) (location table)) storage)

abbrev pub instruction_emission : Map → Table → Bytes → Op → ℕ → Emission
instruction_emission map table line operation start =
    with_flags (gap_flags true (location table))
    (instructions.words map table (location_for true (location table)) line start operation)
