-- The attributes of program sections: their names, the bit of a flags byte that each sets or clears, and the defaults. (Names and
-- defaults: MACRO-11 Language Reference Manual, ".PSECT directive", ".ASECT and .CSECT directives". Bits: RT-11 Volume and File
-- Formats Manual, "Object file format", GSD block. The order in which a section's attributes are printed is this project's own.)
use Rattle.std.specs.Prelude.{ℕ, ◌-◌, not, Bool, true, false, ◌==◌, if◌then◌else◌, List, [], ◌∷◌, codes, find, Option}
use Rattle.std.specs.Int.RustNames.{bit_and, bit_or}
use Rattle.std.specs.Str.{bytes_eq}
use Rattle.m11_base.specs.Devices.{Bytes}
use Rattle.m11_obj.specs.Gsd.{has_bits}
use Rattle.m11_obj.specs.declared.flags.SectionFlags.{SectionFlags}
pub use Rattle.m11_obj.specs.declared.attributes.Attribute.{Attribute}

-- ---- bits

abbrev pub bits_of : SectionFlags → ℕ
bits_of flags = flags.0

abbrev pub flags_of : ℕ → SectionFlags
flags_of bits = record { 0 = bits }

-- the bits of all attributes, octal 365: SAV, OVR, RO, REL, GBL and D
abbrev pub attribute_bits : ℕ
attribute_bits = 0o365

-- the bit of REL: the section is relocated
abbrev pub relocatable_bit : ℕ
relocatable_bit = 0o040

-- the bit of OVR: the contributions to the section overlay each other
abbrev pub overlaid_bit : ℕ
overlaid_bit = 0o004

-- ---- the attributes and their names

-- an attribute: its name of six characters, the bit that it concerns, and whether it sets or clears the bit
abbrev pub attribute : Bytes → ℕ → Bool → Attribute
attribute name bit is_set = record { name = name; bit = flags_of bit; is_set = is_set }

-- the attributes, in the order in which they are printed
abbrev pub attributes : List Attribute
attributes =
    attribute (codes "RW    ") 0o020 false
    ∷ attribute (codes "RO    ") 0o020 true
    ∷ attribute (codes "I     ") 0o200 false
    ∷ attribute (codes "D     ") 0o200 true
    ∷ attribute (codes "LCL   ") 0o100 false
    ∷ attribute (codes "GBL   ") 0o100 true
    ∷ attribute (codes "ABS   ") relocatable_bit false
    ∷ attribute (codes "REL   ") relocatable_bit true
    ∷ attribute (codes "CON   ") overlaid_bit false
    ∷ attribute (codes "OVR   ") overlaid_bit true
    ∷ attribute (codes "SAV   ") 0o001 true
    ∷ []

abbrev pub attribute_named : Bytes → Option Attribute
attribute_named name = find (λ row. bytes_eq row.name name) attributes

-- whether these bits have this attribute
abbrev pub has_attribute : ℕ → Attribute → Bool
has_attribute bits row = if row.is_set then has_bits row.bit.0 bits else not (has_bits row.bit.0 bits)

-- these bits with this attribute in place of the opposite one
abbrev pub with_attribute : ℕ → Attribute → ℕ
with_attribute bits row = if row.is_set then bit_or bits row.bit.0 else bit_and bits (0o377 - row.bit.0)

-- a name up to its first blank
abbrev pub shown_name : Bytes → Bytes
shown_name [] = []
shown_name (byte ∷ bytes) = if byte == 0o40 then [] else byte ∷ shown_name bytes

-- for each of these attributes that the bits have, in order, its name without the blanks that pad it
abbrev pub names_among : List Attribute → ℕ → List Bytes
names_among [] bits = []
names_among (row ∷ rows) bits =
    if has_attribute bits row then shown_name row.name ∷ names_among rows bits else names_among rows bits

-- ---- the default attributes of sections

-- the attributes of `. ABS.`, which `.ASECT` selects: RW, I, GBL, ABS, OVR
abbrev pub of_absolute : ℕ
of_absolute = 0o104

-- the attributes of the blank section, and of a section that `.PSECT` names without attributes: RW, I, LCL, REL, CON
abbrev pub of_program : ℕ
of_program = 0o040

-- the attributes of a section that `.CSECT` names: RW, I, GBL, REL, OVR
abbrev pub of_control : ℕ
of_control = 0o144
