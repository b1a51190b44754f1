-- The text to which pieces are being added. (This project's own.)
use Rattle.std.specs.Prelude.{◌≡◌, ◌==◌, ◌+◌, Bool, ◌&&◌, nat_le, List, [], ◌∷◌, ◌++◌, length, Option, Some, None}
use Rattle.std.specs.List.{flat_map}
use Rattle.std.specs.Option.{option_to_list}
use Rattle.m11_base.specs.Rad50.{Name, is_same_name}
use Rattle.m11_obj.specs.declared.pieces.Piece.{Piece}
use Rattle.m11_obj.specs.declared.relocations.Relocation.{Relocation}
use Rattle.m11_obj.specs.Records.{Content}
use Rattle.m11_obj.specs.Relocations.{relocations_bytes}
use Rattle.m11_obj.specs.Pieces.{content_bytes, size_of, last_location, relocation_at}
use Rattle.m11_obj.specs.Texts.{TextParts, most_bytes, most_relocation_bytes, cutting, text_of, texts_after, records_of}

-- ---- one piece

-- the relocation that a piece has if it is added to this text, as a list; the list is empty if the piece has none
abbrev pub relocations_in : TextParts → Piece → List Relocation
relocations_in text piece = option_to_list (relocation_at (4 + length text.bytes) piece.content)

-- whether a text has room for a piece: the piece follows it directly, and both together stay within the limits
abbrev pub has_room_for : TextParts → Piece → Bool
has_room_for text piece = (is_same_name piece.section text.section && (piece.location == text.next))
    && (nat_le (length text.bytes + size_of piece) most_bytes
    && nat_le (length (relocations_bytes text.relocations) + length (relocations_bytes (relocations_in text piece)))
    most_relocation_bytes)

abbrev pub with_piece : TextParts → Piece → TextParts
with_piece text piece = record {
  before = text.before;
  section = text.section;
  location = text.location;
  next = last_location piece + 1;
  bytes = text.bytes ++ content_bytes piece.content;
  relocations = text.relocations ++ relocations_in text piece;
}

-- ---- all pieces so far

-- the section of the last of these texts; if there are none, that of the text before them, or None if there is no such text
abbrev pub last_section : Option Name → List (List Piece) → Option Name
last_section before [] = before
last_section before ([] ∷ fronts) = last_section before fronts
last_section before ((first ∷ rest) ∷ fronts) = last_section (Some first.section) fronts

-- the pieces are divided into texts; the records of all texts but the last are written, and the last text is open
pub record IsLast (pieces : List Piece) (written : List Content) (text : TextParts) : Type 0 where
  pub closed : List (List Piece)
  pub first : Piece
  pub rest : List Piece
  pub cut : cutting pieces ≡ closed ++ (first ∷ rest) ∷ []
  pub records : written ≡ flat_map records_of (texts_after None closed)
  pub opened : text ≡ text_of (last_section None closed) first rest

-- the written records and the open text are those of the pieces so far
abbrev pub IsOpenText : List Piece → List Content → Option TextParts → Type 0
IsOpenText pieces written None = (pieces ≡ []) × (written ≡ [])
IsOpenText pieces written (Some text) = IsLast pieces written text

-- the records of the text, if there is one
abbrev pub records_in : Option TextParts → List Content
records_in text = flat_map records_of (option_to_list text)
