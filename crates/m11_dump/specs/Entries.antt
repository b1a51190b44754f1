-- The lines of a directory's entries. (What an entry means: RT-11 Volume and File Formats Manual, "Object file format", GSD block.
-- The words and columns are this project's own.)
use Rattle.std.specs.Prelude.{ℕ, if◌then◌else◌, [], ◌∷◌, ◌++◌, codes}
use Rattle.m11_base.specs.Devices.{Bytes}
use Rattle.m11_base.specs.Octal.{octal_text}
use Rattle.m11_base.specs.Rad50.{name_text}
use Rattle.m11_obj.specs.Gsd.{has_bits}
use Rattle.m11_obj.specs.declared.gsd.GsdEntry.{GsdEntry}
use Rattle.m11_obj.specs.declared.gsd.GsdKind.{GsdKind}
use Rattle.m11_obj.specs.declared.gsd.GsdKind.TheVariants.{ModuleName, ControlSection, InternalSymbol, TransferAddress, GlobalSymbol, ProgramSection, Identification}
use Rattle.m11_obj_print.specs.Attributes.{attributes_text}
use Rattle.m11_obj_print.specs.Lines.{line_of}

-- the keyword of an entry, padded with blanks to ten characters; that of a global symbol says whether the symbol is defined here or
-- only referred to
abbrev pub entry_word : GsdKind → ℕ → Bytes
entry_word ModuleName flags = codes "MODULE    "
entry_word ControlSection flags = codes "CSECT     "
entry_word InternalSymbol flags = codes "INTERNAL  "
entry_word TransferAddress flags = codes "TRANSFER  "
entry_word GlobalSymbol flags = if has_bits 0o010 flags then codes "GLOBAL    " else codes "REFERENCE "
entry_word ProgramSection flags = codes "SECTION   "
entry_word Identification flags = codes "IDENT     "

-- the keyword that says whether the value of a global symbol is relocatable or absolute
abbrev pub relocation_word : ℕ → Bytes
relocation_word flags = if has_bits 0o040 flags then codes " REL" else codes " ABS"

-- the keyword of a weak global symbol, which may stay undefined; none for any other
abbrev pub weak_word : ℕ → Bytes
weak_word flags = if has_bits 0o001 flags then codes " WEAK" else []

-- a value in six octal digits, after a blank
abbrev pub value_text : ℕ → Bytes
value_text value = 32 ∷ octal_text value

-- what follows the name of a global symbol: its value and whether that is relocatable or absolute, if it is defined here; and a
-- keyword if it is weak
abbrev pub symbol_text : ℕ → ℕ → Bytes
symbol_text flags value =
    (if has_bits 0o010 flags then value_text value ++ relocation_word flags else []) ++ weak_word flags

-- what follows the name of an entry: its value and the keywords of its flags, if its kind has them; a reference to a global symbol has
-- no value
abbrev pub entry_rest : GsdKind → ℕ → ℕ → Bytes
entry_rest ModuleName flags value = []
entry_rest ControlSection flags value = value_text value
entry_rest InternalSymbol flags value = value_text value
entry_rest TransferAddress flags value = value_text value
entry_rest GlobalSymbol flags value = symbol_text flags value
entry_rest ProgramSection flags value = (value_text value ++ 32 ∷ []) ++ attributes_text flags
entry_rest Identification flags value = []

-- the line of an entry: its keyword, its name, and what follows the name; without blanks at the end of the line
abbrev pub entry_line : GsdEntry → Bytes
entry_line entry = line_of ((entry_word entry.kind entry.flags ++ name_text entry.name)
    ++ entry_rest entry.kind entry.flags entry.value)
