-- The text of a source that means what memory holds: in the absolute section definitions of the names that stand for no line, comments for the
-- names that it can't define, and the lines with their labels; and the transfer address. (MACRO-11 Language Reference Manual, "Assembler
-- statements", "Comment field", "Direct assignment statements", ".ASECT directive", "Current location counter", ".END directive".)
use Rattle.std.specs.Prelude.{ℕ, Bool, ◌+◌, ◌%◌, ◌==◌, if◌then◌else◌, List, [], ◌∷◌, ◌++◌, codes}
use Rattle.std.specs.List.{flat_map, list_any}
use Rattle.m11_base.specs.Devices.{Bytes}
use Rattle.m11_base.specs.Rad50.{name_text}
use Rattle.m11_base_disassembly.specs.Names.{bare_name}
use Rattle.m11_base_disassembly.specs.Numbers.{number_text}
use Rattle.m11_base_disassembly.specs.References.{no_references}
use Rattle.m11_base_disassembly.specs.Symbols.{address_text}
use Rattle.m11_base_disassembly.specs.Texts.{statement_text}
use Rattle.m11_base_disassembly.specs.declared.symbols.Symbol.{Symbol}
use Rattle.m11_dump_source.specs.Labels.{kept_of, left_out, symbols_in}
use Rattle.m11_dump_source.specs.Lines.{lines_of, size_shown, statement_in}
use Rattle.m11_dump_source.specs.Memory.{Cells}
use Rattle.m11_dump_source.specs.declared.lines.Line.{Line}

abbrev pub symbol_text : Symbol → Bytes
symbol_text symbol = bare_name (name_text symbol.name)

-- one of these lines begins at this address
abbrev pub begins_at : List Line → ℕ → Bool
begins_at lines address = list_any (λ line. line.address == address) lines

-- a line that gives a symbol its value, unless a line of the source begins there
abbrev pub assignment : List Line → Symbol → Bytes
assignment lines symbol = if begins_at lines symbol.value then []
    else (symbol_text symbol ++ codes "=" ++ number_text symbol.value) ++ codes "\n"

-- a comment that says the value of a symbol which the source doesn't define
abbrev pub note : Symbol → Bytes
note symbol = (codes "; " ++ symbol_text symbol ++ codes "=" ++ number_text symbol.value) ++ codes "\n"

-- the label of an address, in a line of its own, so that no line is too long
abbrev pub label : ℕ → Symbol → Bytes
label address symbol = if symbol.value == address then symbol_text symbol ++ codes ":\n" else []

-- the line that moves the location counter to an address, unless it is there
abbrev pub moving : ℕ → ℕ → Bytes
moving here address = if here == address then [] else (codes "\t.=" ++ number_text address) ++ codes "\n"

-- a line after its labels
abbrev pub line_text : List Symbol → Line → Bytes
line_text symbols line = flat_map (label line.address) symbols
    ++ ((codes "\t" ++ statement_text symbols no_references (statement_in line)) ++ codes "\n")

-- lines one after another, where the location counter is `here`
abbrev pub lines_text : List Symbol → ℕ → List Line → Bytes
lines_text symbols here [] = []
lines_text symbols here (line ∷ lines) =
    (moving here line.address ++ line_text symbols line) ++ lines_text symbols (line.address + size_shown line.shown) lines

-- the last line, with the transfer address, unless that is odd: then no program begins there
abbrev pub end_text : List Symbol → ℕ → Bytes
end_text symbols start = (codes "\t.END" ++ (if start % 2 == 0 then codes "\t" ++ address_text symbols start else [])) ++ codes "\n"

-- the source of these lines, with the symbols that are kept of those that were given, and those that are left out
abbrev pub text_by : List Symbol → List Symbol → ℕ → List Line → Bytes
text_by kept others start lines = (((codes "\t.ASECT\n" ++ flat_map (assignment lines) kept) ++ flat_map note others)
    ++ lines_text (symbols_in kept start lines) 0 lines) ++ end_text (symbols_in kept start lines) start

-- the source of what memory holds, with these names and this transfer address
abbrev pub source_text : List Symbol → ℕ → Cells → Bytes
source_text symbols start cells = text_by (kept_of symbols) (left_out symbols) start (lines_of cells)
