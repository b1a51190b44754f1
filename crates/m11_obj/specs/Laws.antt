-- Properties of all texts or of a whole directory, as a reader sees them. (RT-11 Volume and File Formats Manual, "Object file
-- format", GSD, TXT and RLD blocks.)
use Rattle.std.specs.Prelude.{◌≡◌, ℕ, ◌+◌, ◌%◌, ◌≤◌, List, [], ◌∷◌, ◌++◌, length, map, ⊤}
use Rattle.std.specs.Option.{option_to_list}
use Rattle.m11_obj.specs.declared.directory.DirectoryRow.{DirectoryRow}
use Rattle.m11_obj.specs.declared.pieces.Piece.{Piece}
use Rattle.m11_obj.specs.declared.gsd.GsdEntry.{GsdEntry}
use Rattle.m11_obj.specs.Directory.{entry_of, most_entries, record_cutting}
use Rattle.m11_obj.specs.Fronts.{joined, AreLongest}
use Rattle.m11_obj.specs.Pieces.{size_of, content_bytes, relocation_at, text_bytes, relocations_from, relocations_of}
use Rattle.m11_obj.specs.Texts.{most_bytes, is_one_text, cutting}

-- the texts hold exactly the pieces, in order; the pieces of each fit into one text, but wouldn't with the next piece added, if one is
-- left
pub record HoldsPieces (pieces : List Piece) : Type 0 where
  pub exact : joined (cutting pieces) ≡ pieces
  pub longest : AreLongest is_one_text (cutting pieces)

-- the location of the first piece, or 0 if there is none
abbrev pub location_of : List Piece → ℕ
location_of [] = 0
location_of (first ∷ rest) = first.location

-- the bytes of a piece lie in its text at the piece's location, modulo 65536, between the bytes of the pieces before and after it, and
-- within the limit of a text's bytes; the piece's relocation, if it has one, has the displacement of the piece's first byte
pub record LiesInText (before : List Piece) (piece : Piece) (after : List Piece) : Type 0 where
  pub location : piece.location ≡ (location_of (before ++ piece ∷ after) + length (text_bytes before)) % 65536
  pub bytes : text_bytes (before ++ piece ∷ after)
      ≡ text_bytes before ++ (content_bytes piece.content ++ text_bytes after)
  pub relocations : relocations_of (before ++ piece ∷ after)
      ≡ relocations_of before ++ (option_to_list (relocation_at (4 + length (text_bytes before)) piece.content)
      ++ relocations_from (4 + length (text_bytes before) + size_of piece) after)
  pub within : length (text_bytes before) + size_of piece ≤ most_bytes

-- each record but the last has 15 entries, and the last has 1 to 15
abbrev pub AreFull : List (List GsdEntry) → Type 0
AreFull [] = ⊤
AreFull (last ∷ []) = (1 ≤ length last) × (length last ≤ most_entries)
AreFull (entries ∷ next ∷ others) = (length entries ≡ most_entries) × AreFull (next ∷ others)

-- the records of a directory hold exactly the entries of its rows, in order, and each but the last is full
pub record HoldsRows (rows : List DirectoryRow) : Type 0 where
  pub exact : joined (record_cutting rows) ≡ map entry_of rows
  pub full : AreFull (record_cutting rows)
