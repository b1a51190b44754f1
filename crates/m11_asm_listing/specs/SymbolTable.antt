-- The symbol table: the names that a source uses, and its sections. (The columns and their widths, in decimal, are this project's own.
-- `R` for a relocatable value, `%` for a register and `G` for a global symbol are as in the tables of DEC's MACRO-11.)
--
--     1234567890123456789012
--     START    000000 RG   1
--     X      = 000005
--     . ABS. 000000   0 RW,I,GBL,ABS,OVR
use Rattle.std.specs.Prelude.{ℕ, if◌then◌else◌, List, [], ◌∷◌, ◌++◌, codes, map}
use Rattle.std.specs.Fmt.{decimal}
use Rattle.m11_base.specs.Devices.{Bytes}
use Rattle.m11_base.specs.Octal.{octal_text}
use Rattle.m11_base.specs.Rad50.{name_text}
use Rattle.m11_asm_listing.specs.declared.symbol_table.SectionEntry.{SectionEntry}
use Rattle.m11_asm_listing.specs.declared.symbol_table.SymbolEntry.{SymbolEntry}
use Rattle.m11_asm_listing.specs.declared.symbol_table.SymbolValue.{SymbolValue}
use Rattle.m11_asm_listing.specs.declared.symbol_table.SymbolValue.TheVariants.{Unknown, Absolute, Relocatable, Register}
use Rattle.m11_asm_listing.specs.Columns.{at_right, blanks}
use Rattle.m11_asm_listing.specs.Messages.{count_line}
use Rattle.m11_obj.specs.Attributes.{bits_of}
use Rattle.m11_obj_print.specs.Attributes.{attributes_text}
use Rattle.m11_obj_print.specs.Lines.{line_of}

-- ---- the columns after a name, which has six columns itself

-- 6 columns: six octal digits, or asterisks for an unknown value
abbrev pub value_column : SymbolValue → Bytes
value_column Unknown = codes "******"
value_column (Absolute number) = octal_text number
value_column (Relocatable location section) = octal_text location
value_column (Register number) = octal_text number

-- `R` for a relocatable value, `%` for a register, otherwise a blank
abbrev pub kind_character : SymbolValue → ℕ
kind_character (Relocatable location section) = 0o122
kind_character (Register number) = 0o45
kind_character _ = 0o40

-- 3 columns: the number of a section
abbrev pub number_column : ℕ → Bytes
number_column number = at_right 3 (decimal number)

-- 3 columns: the number of a relocatable value's section; blank for any other value
abbrev pub section_column : SymbolValue → Bytes
section_column (Relocatable location section) = number_column section
section_column _ = blanks 3

-- ---- lines

-- the line of a name: the name, ` = ` if it is assigned, its value, its kind, `G` if it is global, and the number of its section, if it
-- has one
abbrev pub symbol_line : SymbolEntry → Bytes
symbol_line symbol =
    line_of (name_text symbol.name ++ (if symbol.is_assigned then codes " = " else codes "   ") ++ value_column symbol.value
    ++ (0o40 ∷ kind_character symbol.value ∷ (if symbol.is_global then 0o107 else 0o40) ∷ 0o40 ∷ []) ++ section_column symbol.value)

-- the line of a section: its name, its size in octal and its number, with a blank after each, and its attributes
abbrev pub section_line : SectionEntry → Bytes
section_line section =
    line_of (name_text section.name ++ blanks 1 ++ octal_text section.size ++ blanks 1 ++ number_column section.number ++ blanks 1
    ++ attributes_text (bits_of section.attributes))

abbrev pub empty_line : Bytes
empty_line = 0o12 ∷ []

abbrev pub title_line : Bytes
title_line = codes "SYMBOL TABLE\n"

-- ---- the lines of a listing after the source lines

abbrev pub last_lines : List SymbolEntry → List SectionEntry → ℕ → List Bytes
last_lines symbols sections count =
    (empty_line ∷ title_line ∷ map symbol_line symbols) ++ (empty_line ∷ map section_line sections)
    ++ empty_line ∷ count_line count ∷ []
