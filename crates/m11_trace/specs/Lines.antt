-- The trace line of a step: its number, the program counter and its name, the instruction there as a line of source, and what the step
-- changed, namely registers, memory words and the processor status word, and the line of a listing that shows the instruction, all separated by
-- tabs. (This project's own; docs/FORMATS.md, "The lines of a trace". The line of source: MACRO-11 Language Reference Manual, "Assembler
-- statements".)
use Rattle.std.specs.Prelude.{ℕ, ◌/◌, ◌%◌, ◌==◌, if◌then◌else◌, List, [], ◌∷◌, ◌++◌, codes, Option, Some, None}
use Rattle.std.specs.Fmt.{decimal}
use Rattle.m11_base.specs.Devices.{Bytes}
use Rattle.m11_base.specs.Octal.{octal_text}
use Rattle.m11_base_disassembly.specs.Instructions.{statement_of}
use Rattle.m11_base_disassembly.specs.ListedLines.{listed_text}
use Rattle.m11_base_disassembly.specs.References.{no_references}
use Rattle.m11_base_disassembly.specs.Symbols.{address_name}
use Rattle.m11_base_disassembly.specs.Texts.{statement_text}
use Rattle.m11_cpu_machine.specs.declared.machine.Machine.{Machine}
use Rattle.m11_trace.specs.Changes.{memory_changes}
use Rattle.m11_trace.specs.Known.{Known}
use Rattle.m11_trace.specs.Shots.{numbered, shot_of, words_in}
use Rattle.m11_trace.specs.declared.shots.Shot.{Shot}
use Rattle.m11_base_disassembly.specs.declared.symbols.Symbol.{Symbol}

-- an address in octal, and after a blank its name: the nearest of these symbols at or below it, with the distance from that symbol; no
-- name if there is no such symbol
abbrev pub place_text : List Symbol → ℕ → Bytes
place_text symbols address = octal_text address ++ address_name (codes " ") symbols address

-- the line of source of the instruction with these words at this location, with the names that these symbols give to addresses in operands;
-- empty if there are no words
abbrev pub source_text : List Symbol → ℕ → List ℕ → Bytes
source_text symbols location [] = []
source_text symbols location (word ∷ more) = statement_text symbols no_references (statement_of location word more)

-- the field of a register if its value changed; otherwise nothing
abbrev pub register_change : Bytes → ℕ → ℕ → Bytes
register_change name before later = if before == later then [] else 9 ∷ (name ++ octal_text later)

-- the fields of the registers whose values changed, except the program counter, which the next line shows
unfoldable pub register_changes : List ℕ → List ℕ → Bytes
register_changes before later =
    register_change (codes "R0 ") (numbered before 0) (numbered later 0)
    ++ (register_change (codes "R1 ") (numbered before 1) (numbered later 1)
    ++ (register_change (codes "R2 ") (numbered before 2) (numbered later 2)
    ++ (register_change (codes "R3 ") (numbered before 3) (numbered later 3)
    ++ (register_change (codes "R4 ") (numbered before 4) (numbered later 4)
    ++ (register_change (codes "R5 ") (numbered before 5) (numbered later 5)
    ++ register_change (codes "SP ") (numbered before 6) (numbered later 6))))))

-- the letter of the condition code with this weight in the processor status word, if that code is set; otherwise a hyphen
abbrev pub code_letter : ℕ → ℕ → ℕ → ℕ
code_letter psw weight letter = if psw / weight % 2 == 1 then letter else 45

-- the letters of N, Z, V and C, with a hyphen for each that is clear
abbrev pub code_letters : ℕ → Bytes
code_letters psw = code_letter psw 8 78 ∷ code_letter psw 4 90 ∷ code_letter psw 2 86 ∷ code_letter psw 1 67 ∷ []

-- the field of the processor status word, with the letters of its condition codes, if the word changed; otherwise nothing
abbrev pub status_change : ℕ → ℕ → Bytes
status_change before later =
    if before == later then [] else codes "\tPSW " ++ (octal_text later ++ 32 ∷ code_letters later)

-- the location of a step's instruction
abbrev pub location_of : Shot → ℕ
location_of shot = numbered shot.before.registers 7

-- the part of a trace line before its memory words
unfoldable pub line_front : List Symbol → ℕ → Shot → Bytes
line_front symbols number shot =
    decimal number ++ (9 ∷ (place_text symbols (location_of shot)
    ++ (9 ∷ (source_text symbols (location_of shot) (words_in shot.fetched) ++ register_changes shot.before.registers shot.later.registers))))

-- the text of the line of a listing that shows this word at a location; None if no word was fetched
abbrev pub listed_at : Known → ℕ → Option ℕ → Option Bytes
listed_at known location None = None
listed_at known location (Some word) = listed_text known.listings location word

-- the field of the text of a line in a listing: a semicolon and the text; nothing if there is none
abbrev pub listed_field : Option Bytes → Bytes
listed_field None = []
listed_field (Some text) = codes "\t;" ++ text

-- the part of a trace line after its memory words
abbrev pub line_end : Known → Shot → Bytes
line_end known shot = status_change shot.before.psw shot.later.psw
    ++ (listed_field (listed_at known (location_of shot) shot.fetched.first) ++ 10 ∷ [])

-- the trace line of a step with this number, with this text for its memory words
abbrev pub line_with : Known → ℕ → Shot → Bytes → Bytes
line_with known number shot memory = line_front known.symbols number shot ++ (memory ++ line_end known shot)

-- a trace line without memory words
abbrev pub short_line : Known → ℕ → Shot → Bytes
short_line known number shot = line_with known number shot []

-- the trace line of a step from one machine to another
abbrev pub step_line : Known → ℕ → Machine → Machine → Bytes
step_line known number before later = line_with known number (shot_of before later) (memory_changes before.memory later.memory)
