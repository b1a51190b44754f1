-- Directives that store words and bytes, or reserve room. An empty element of a list is 0. (MACRO-11 Language Reference Manual, ".WORD
-- directive", ".BYTE directive" and ".BLKB and .BLKW directives". This project's own: text that follows an element without a comma is left
-- over.)
use Rattle.std.specs.Prelude.{ℕ, false, if◌then◌else◌, List, [], ◌∷◌}
use Rattle.std.specs.Int.RustNames.{bit_or}
use Rattle.m11_scan_expressions.specs.Expressions.{KnownSymbols, number, value}
use Rattle.m11_scan_expressions.specs.Operations.{absence}
use Rattle.m11_scan_expressions.specs.Tokens.{Expression, expression, is_empty}
use Rattle.m11_base.specs.Devices.{Bytes}
use Rattle.m11_scan.specs.Ends.{expression_end}
use Rattle.m11_asm_rules.specs.Actions.{ByteList, Operation, Room, Store, WordList, does}
use Rattle.m11_asm_rules.specs.Contents.{Emission, byte, element_value, followed_by, further, nothing, word}
use Rattle.m11_asm_rules.specs.Elements.{argument_flags, elements_at}
use Rattle.m11_asm_rules.specs.Meanings.{Map, MayBeGlobal, known_at}
use Rattle.m11_asm_rules.specs.Tables.{Table}

-- ---- .WORD e,..

abbrev pub words : Bytes → ℕ → Operation
words line start = does (Store (WordList (elements_at line start).list)) (argument_flags line start (elements_at line start).end)

-- the words of a list of elements; each element has its own location, which is the value of `.` in the element
abbrev pub words_from : Map → Table → ℕ → List Expression → Emission
words_from map table location [] = nothing 0
words_from map table location (element ∷ elements) =
    followed_by (word table false location (element_value (known_at map MayBeGlobal table location) element))
    (words_from map table (further location 2) elements)

-- ---- .BYTE e,..

abbrev pub bytes : Bytes → ℕ → Operation
bytes line start = does (Store (ByteList (elements_at line start).list)) (argument_flags line start (elements_at line start).end)

abbrev pub bytes_from : Map → Table → ℕ → List Expression → Emission
bytes_from map table location [] = nothing 0
bytes_from map table location (element ∷ elements) =
    followed_by (byte table location (element_value (known_at map MayBeGlobal table location) element))
    (bytes_from map table (further location 1) elements)

-- ---- .BLKB e and .BLKW e reserve e units, bytes or words; one unit without e; the value of e depends on firm names alone

abbrev pub room : ℕ → Bytes → ℕ → Operation
room unit line start =
    does (Store (Room unit (expression line start))) (argument_flags line start (expression_end line start))

abbrev pub block_count : KnownSymbols → Expression → ℕ
block_count firm count = if is_empty count then 1 else number firm count

-- the flags of e, with R for a register and A for any other value that isn't absolute; none without e
abbrev pub count_flags : KnownSymbols → Expression → ℕ
count_flags firm count = if is_empty count then 0 else bit_or (value firm count).flags (absence (value firm count).kind)
