-- The lines of relocations. (What a relocation means: RT-11 Volume and File Formats Manual, "Object file format", RLD block. The
-- words and columns are this project's own.)
use Rattle.std.specs.Prelude.{ℕ, ◌+◌, ◌%◌, ◌==◌, Bool, true, false, if◌then◌else◌, [], ◌∷◌, ◌++◌, Option, Some, None, codes}
use Rattle.m11_base.specs.Devices.{Bytes}
use Rattle.m11_base.specs.Octal.{octal_text}
use Rattle.m11_base.specs.Rad50.{Name, name_text}
use Rattle.m11_obj.specs.Relocations.{parts_of}
use Rattle.m11_obj.specs.declared.relocations.Relocation.{Relocation}
use Rattle.m11_obj.specs.declared.relocations.Target.{Target}
use Rattle.m11_obj.specs.declared.relocations.Target.TheVariants.{Internal, Global, InternalDisplaced, GlobalDisplaced, GlobalAdditive, GlobalAdditiveDisplaced, LocationCounterDefinition, LocationCounterModification, ProgramLimits, Section, SectionDisplaced, SectionAdditive, SectionAdditiveDisplaced}
use Rattle.m11_obj_print.specs.Lines.{line_of}

-- the keywords of a target, as in the manual
abbrev pub target_word : Target → Bytes
target_word (Internal constant) = codes "INTERNAL"
target_word (Global name) = codes "GLOBAL"
target_word (InternalDisplaced constant) = codes "INTERNAL DISPLACED"
target_word (GlobalDisplaced name) = codes "GLOBAL DISPLACED"
target_word (GlobalAdditive name constant) = codes "GLOBAL ADDITIVE"
target_word (GlobalAdditiveDisplaced name constant) = codes "GLOBAL ADDITIVE DISPLACED"
target_word (LocationCounterDefinition name constant) = codes "LOCATION COUNTER DEFINITION"
target_word (LocationCounterModification constant) = codes "LOCATION COUNTER MODIFICATION"
target_word ProgramLimits = codes "PROGRAM LIMITS"
target_word (Section name) = codes "SECTION"
target_word (SectionDisplaced name) = codes "SECTION DISPLACED"
target_word (SectionAdditive name constant) = codes "SECTION ADDITIVE"
target_word (SectionAdditiveDisplaced name constant) = codes "SECTION ADDITIVE DISPLACED"

-- a name after a blank, if there is one
abbrev pub optional_name : Option Name → Bytes
optional_name None = []
optional_name (Some name) = 32 ∷ name_text name

-- a constant in six octal digits after a blank, if there is one
abbrev pub optional_word : Option ℕ → Bytes
optional_word None = []
optional_word (Some word) = 32 ∷ octal_text word

-- a target: its keywords, then its name and its constant if it has them
abbrev pub target_text : Target → Bytes
target_text target = (target_word target ++ optional_name (parts_of target).name) ++ optional_word (parts_of target).constant

-- the keyword of a relocation that stores only the low byte; none for any other
abbrev pub byte_word : Bool → Bytes
byte_word is_byte = if is_byte then codes " BYTE" else []

-- the location that a displacement refers to in a text at this address; the first byte of the text has displacement 4
abbrev pub location_of : ℕ → ℕ → ℕ
location_of address displacement = (address + displacement + 65532) % 65536

-- whether a target's value is stored in the text: a command on the location counter only says where the following texts lie
abbrev pub stores : Target → Bool
stores (LocationCounterDefinition name constant) = false
stores (LocationCounterModification constant) = false
stores target = true

-- whether a relocation stores a value that begins at the byte with this index in its text; the first byte of the text has displacement
-- 4
abbrev pub names_byte : ℕ → Relocation → Bool
names_byte index relocation = if stores relocation.target then relocation.displacement == index + 4 else false

-- the location of a relocation of the text at this address, in six octal digits; six blanks if the relocation stores nothing
abbrev pub location_text : ℕ → Relocation → Bytes
location_text address relocation =
    if stores relocation.target then octal_text (location_of address relocation.displacement) else codes "      "

-- the line of a relocation of the text at this address: its location, its target, and whether it stores only a byte
abbrev pub relocation_line : ℕ → Relocation → Bytes
relocation_line address relocation = line_of ((((codes "  " ++ location_text address relocation) ++ 32 ∷ [])
    ++ target_text relocation.target) ++ byte_word relocation.is_byte)
