-- The texts of an object: how pieces are divided into them, and the records of each text. (RT-11 Volume and File Formats Manual,
-- "Object file format", TXT and RLD blocks. Where a text ends, and which records come before and after it, are this project's own.)
use Rattle.std.specs.Prelude.{◌==◌, ℕ, ◌+◌, Bool, true, false, ◌&&◌, nat_le, if◌then◌else◌, List, [], ◌∷◌, ◌++◌, length, Option, Some, None}
use Rattle.std.specs.List.{flat_map}
use Rattle.m11_base.specs.Devices.{Bytes}
use Rattle.m11_base.specs.Rad50.{Name, is_same_name}
use Rattle.m11_obj.specs.declared.pieces.Piece.{Piece}
use Rattle.m11_obj.specs.declared.relocations.Relocation.{Relocation}
use Rattle.m11_obj.specs.declared.relocations.Target.TheVariants.{LocationCounterDefinition}
use Rattle.m11_obj.specs.Records.{Content, Text, Relocations}
use Rattle.m11_obj.specs.Relocations.{relocations_bytes}
use Rattle.m11_obj.specs.Fronts.{fronts_of}
use Rattle.m11_obj.specs.Pieces.{last_location, text_bytes, relocation, relocations_of}

-- ---- the division into texts

-- whether a piece directly follows another: it is in the same section, at the location after the other's last byte; location
-- 000000 doesn't follow 177777
abbrev pub follows : Piece → Piece → Bool
follows before piece = is_same_name piece.section before.section && (piece.location == last_location before + 1)

abbrev pub are_contiguous : Piece → List Piece → Bool
are_contiguous first [] = true
are_contiguous first (next ∷ rest) = follows first next && are_contiguous next rest

abbrev pub most_bytes : ℕ
most_bytes = 32

-- the largest size of a text's relocations in bytes, without the type word of their record
abbrev pub most_relocation_bytes : ℕ
most_relocation_bytes = 120

-- whether these pieces, at least one, fit into one text
unfoldable pub is_one_text : List Piece → Bool
is_one_text [] = false
is_one_text (first ∷ rest) = are_contiguous first rest && (nat_le (length (text_bytes (first ∷ rest))) most_bytes
    && nat_le (length (relocations_bytes (relocations_of (first ∷ rest)))) most_relocation_bytes)

-- the pieces divided into texts: each is the longest prefix of the remaining pieces that fits into one text
abbrev pub cutting : List Piece → List (List Piece)
cutting pieces = fronts_of is_one_text pieces

-- ---- the records

-- a text: the section of the text before it, if there is one; its own section; the location of its first byte; the location after
-- its last one; its bytes and their relocations
pub record TextParts : Type 0 where
  pub before : Option Name
  pub section : Name
  pub location : ℕ
  pub next : ℕ
  pub bytes : Bytes
  pub relocations : List Relocation

abbrev pub location_after : Piece → List Piece → ℕ
location_after first [] = last_location first + 1
location_after first (next ∷ rest) = location_after next rest

-- the text of these pieces, a first one and the rest; `before` is the section of the preceding text, if there is one
abbrev pub text_of : Option Name → Piece → List Piece → TextParts
text_of before first rest = record {
  before = before;
  section = first.section;
  location = first.location;
  next = location_after first rest;
  bytes = text_bytes (first ∷ rest);
  relocations = relocations_of (first ∷ rest);
}

abbrev pub texts_after : Option Name → List (List Piece) → List TextParts
texts_after before [] = []
texts_after before ([] ∷ fronts) = texts_after before fronts
texts_after before ((first ∷ rest) ∷ fronts) = text_of before first rest ∷ texts_after (Some first.section) fronts

-- whether the preceding text is in this section
abbrev pub is_in_section : Option Name → Name → Bool
is_in_section None section = false
is_in_section (Some before) section = is_same_name before section

-- the record that selects a section and a location in it; its displacement has no meaning
abbrev pub selection : Name → ℕ → Content
selection section location = Relocations (relocation false 0 (LocationCounterDefinition section location) ∷ [])

-- the record of these relocations, which follows the text record; no record if there are no relocations
abbrev pub relocation_records : List Relocation → List Content
relocation_records [] = []
relocation_records (first ∷ rest) = Relocations (first ∷ rest) ∷ []

-- the records of a text: the selection of its section, unless the preceding text is in the same section; its bytes; and its
-- relocations, if there are any
abbrev pub records_of : TextParts → List Content
records_of text =
    (if is_in_section text.before text.section then [] else selection text.section text.location ∷ [])
    ++ Text text.location text.bytes ∷ relocation_records text.relocations

-- the records of all texts of these pieces
abbrev pub text_records : List Piece → List Content
text_records pieces = flat_map records_of (texts_after None (cutting pieces))
