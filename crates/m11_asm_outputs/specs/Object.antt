-- The object that an assembly writes, and how much of it can be written before all pieces are known. (RT-11 Volume and File Formats Manual,
-- "Object file format", for the order of its records. This project's own: a text is written once a piece comes that doesn't directly follow
-- it or doesn't fit into it, and the last text at the end.)
use Rattle.std.specs.Prelude.{◌≡◌, ℕ, ◌-◌, List, [], ◌∷◌, ◌++◌, length, take, drop, map, Option, None, Ok}
use Rattle.std.specs.List.{AllByRecursion, flat_map}
use Rattle.arrayvec.specs.ArrayVec.{ArrayVec}
use Rattle.m11_obj_blocks.specs.Frames.{block}
use Rattle.m11_obj.specs.Reading.{content_of}
use Rattle.m11_obj.specs.Records.{Content, EndOfGsd, EndOfModule, Fits, record_data}
use Rattle.m11_obj.specs.declared.gsd.GsdEntry.{GsdEntry}
use Rattle.m11_obj.specs.Directory as directory
use Rattle.m11_obj.specs.OpenText as text
use Rattle.m11_obj.specs.Texts.{TextParts, cutting, texts_after, records_of, text_records}
use Rattle.m11_obj.specs.declared.directory.DirectoryRow.{DirectoryRow}
use Rattle.m11_obj.specs.declared.pieces.Piece.{Piece}
use Rattle.m11_base_writes.specs.Outputs.{Write, to_product}

-- ---- the whole object

-- the records of the directory, and its end
abbrev pub head_contents : List DirectoryRow → List Content
head_contents rows = directory.directory_records rows ++ EndOfGsd ∷ []

-- the records of an object: its head, the texts with their relocations, and the end of the module
abbrev pub object_contents : List DirectoryRow → List Piece → List Content
object_contents rows pieces = head_contents rows ++ text_records pieces ++ EndOfModule ∷ []

-- each record fits its block: its names and numbers are in range, and a block has room for the whole record
abbrev pub AllFit : List Content → Type 0
AllFit contents = AllByRecursion Fits contents

-- the writes of these records, each as a block
unfoldable pub content_writes : List Content → List Write
content_writes contents = map (λ content. to_product (block (record_data content))) contents

-- ---- what further items add, and what they leave unchanged

-- all items but the last one
abbrev pub without_last : {A : Type 0} → List A → List A
without_last items = take (length items - 1) items

-- the last item alone, if there is one
abbrev pub last_alone : {A : Type 0} → List A → List A
last_alone items = drop (length items - 1) items

-- the results that further items add to those of earlier items
unfoldable pub added : {A C : Type 0} → (List A → List C) → List A → List A → List C
added made before items = drop (length (made before)) (made (before ++ items))

-- the texts made from pieces
abbrev pub texts_of : List Piece → List TextParts
texts_of pieces = texts_after None (cutting pieces)

-- the records of all texts but the last one, which may get further pieces
unfoldable pub closed_records : List Piece → List Content
closed_records pieces = flat_map records_of (without_last (texts_of pieces))

-- the records of the last text, if there are any pieces
unfoldable pub last_records : List Piece → List Content
last_records pieces = flat_map records_of (last_alone (texts_of pieces))

-- the records of the texts that further pieces close
abbrev pub records_closed_by : List Piece → List Piece → List Content
records_closed_by before pieces = added closed_records before pieces

-- after these pieces, their last text is open, and the records of the texts before it are written; or there are no pieces, and no text is
-- open
abbrev pub IsOpenAfter : List Piece → Option TextParts → Type 0
IsOpenAfter pieces last = text.IsOpenText pieces (closed_records pieces) last

-- all records of a directory but the last one, which may get further entries
unfoldable pub full_records : List DirectoryRow → List Content
full_records rows = without_last (directory.directory_records rows)

unfoldable pub rest_records : List DirectoryRow → List Content
rest_records rows = last_alone (directory.directory_records rows)

abbrev pub records_filled_by : List DirectoryRow → List DirectoryRow → List Content
records_filled_by before rows = added full_records before rows

abbrev pub WaitsAfter : List DirectoryRow → List GsdEntry → Type 0
WaitsAfter rows waiting = directory.IsOpenDirectory rows (full_records rows) waiting

-- ---- blocks

-- if the bytes of a block can be read as a record, that record fits the block
abbrev pub BlockFits : ArrayVec ℕ → Type 0
BlockFits block = (content : Content) → content_of block.items ≡ Ok content → Fits content

-- the writes of these records, given by their bytes, each as a block
unfoldable pub block_writes : List (ArrayVec ℕ) → List Write
block_writes blocks = map (λ content. to_product (block content.items)) blocks
