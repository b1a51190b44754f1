-- The texts of an object as a linker reads their records. (RT-11 Volume and File Formats Manual, "Object file format", TXT and RLD
-- blocks.)
use Rattle.std.specs.Prelude.{◌≡◌, ℕ, Bool, true, false, List, [], ◌∷◌, ◌++◌, map, filter, None}
use Rattle.m11_base.specs.Devices.{Bytes}
use Rattle.m11_base.specs.Names.{absolute_name}
use Rattle.m11_base.specs.Rad50.{Name}
use Rattle.m11_obj.specs.declared.pieces.Piece.{Piece}
use Rattle.m11_obj.specs.declared.relocations.Relocation.{Relocation}
use Rattle.m11_obj.specs.declared.relocations.Target.{Target}
use Rattle.m11_obj.specs.declared.relocations.Target.TheVariants.{LocationCounterDefinition, LocationCounterModification}
use Rattle.m11_obj.specs.Records.{Content, Text, Relocations}
use Rattle.m11_obj.specs.Texts.{TextParts, cutting, texts_after, text_records}

-- a text as a linker reads it: the section selected last, its location there, its bytes and their relocations
pub record ReadText : Type 0 where
  pub section : Name
  pub location : ℕ
  pub bytes : Bytes
  pub relocations : List Relocation

-- the section that is selected after a relocation: the section that command 7 names; after any other command, the same section as before
abbrev pub selected : Name → Target → Name
selected section (LocationCounterDefinition name location) = name
selected section target = section

abbrev pub section_after : Name → List Relocation → Name
section_after section [] = section
section_after section (relocation ∷ relocations) = section_after (selected section relocation.target) relocations

-- whether a command stores something: all do but 7 and octal 10
abbrev pub stores : Target → Bool
stores (LocationCounterDefinition name location) = false
stores (LocationCounterModification location) = false
stores target = true

abbrev pub is_stored : Relocation → Bool
is_stored relocation = stores relocation.target

-- the relocations of a text: those that store something, in the relocation records directly after it
abbrev pub relocations_after : List Content → List Relocation
relocations_after (Relocations relocations ∷ contents) = filter is_stored relocations ++ relocations_after contents
relocations_after _ = []

-- the texts in these records; `section` is selected before them
abbrev pub texts_read : Name → List Content → List ReadText
texts_read section [] = []
texts_read section (Text location bytes ∷ contents) =
    record { section = section; location = location; bytes = bytes; relocations = relocations_after contents }
    ∷ texts_read section contents
texts_read section (Relocations relocations ∷ contents) = texts_read (section_after section relocations) contents
texts_read section (_ ∷ contents) = texts_read section contents

abbrev pub as_read : TextParts → ReadText
as_read text =
    record { section = text.section; location = text.location; bytes = text.bytes; relocations = text.relocations }

-- each text is read in the section of its pieces, at its location, with its bytes and its relocations; `. ABS.` is selected at first
abbrev pub AreReadAgain : List Piece → Type 0
AreReadAgain pieces =
    texts_read absolute_name (text_records pieces) ≡ map as_read (texts_after None (cutting pieces))
