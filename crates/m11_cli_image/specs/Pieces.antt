-- The bytes of a source's pieces in a linked program, defined by addresses alone. (MACRO-11 Language Reference Manual, "Relocation and
-- linking" and ".LIMIT directive". By the rule of relative addressing, a displaced word is counted from the location after it. This
-- project's own: a displaced byte is counted from its own location plus 2.)
use Rattle.std.specs.Prelude.{ℕ, ◌+◌, true, false, List, [], ◌∷◌, ◌++◌}
use Rattle.m11_base.specs.Devices.{Bytes}
use Rattle.m11_obj_blocks.specs.Frames.{word_bytes}
use Rattle.m11_link_text.specs.Relocation.{following, less, modulo, value_bytes}
use Rattle.m11_obj.specs.declared.pieces.Piece.{Piece}
use Rattle.m11_obj.specs.declared.pieces.PieceContent.{PieceContent}
use Rattle.m11_obj.specs.declared.pieces.PieceContent.TheVariants.{Byte, Word, Limits}
use Rattle.m11_obj.specs.declared.pieces.RelocationKind.{RelocationKind}
use Rattle.m11_obj.specs.declared.pieces.RelocationKind.TheVariants as kind
use Rattle.m11_obj.specs.Pieces.{size_of}
use Rattle.m11_cli_image.specs.Addresses.{Addresses}

-- a position in the program: the index of its source, the address at which that source's contribution to the section begins, and its own
-- address
pub record Spot : Type 0 where
  pub source : ℕ
  pub base : ℕ
  pub address : ℕ

-- the spot at an address modulo 200000 (octal)
abbrev pub spot : ℕ → ℕ → ℕ → Spot
spot source base address = record { source = source; base = base; address = modulo address }

-- ---- one piece

-- the number that a constant becomes in a linked program, depending on the kind of its relocation
abbrev pub number_at : Addresses → Spot → RelocationKind → ℕ → ℕ
number_at program here kind.Fixed constant = constant
number_at program here kind.Internal constant = modulo (here.base + constant)
number_at program here kind.InternalDisplaced constant = less constant (following here.address)
number_at program here (kind.Global name) constant = modulo (program.global name + constant)
number_at program here (kind.GlobalDisplaced name) constant = less (modulo (program.global name + constant)) (following here.address)
number_at program here (kind.Section name) constant = modulo (program.base here.source name + constant)
number_at program here (kind.SectionDisplaced name) constant =
    less (modulo (program.base here.source name + constant)) (following here.address)

-- the bytes of a piece: a byte is the low half of its number, and `.LIMIT` has two words, the bottom and the top
abbrev pub bytes_at : Addresses → Spot → PieceContent → Bytes
bytes_at program here (Byte stored) = value_bytes true (number_at program here stored.kind stored.constant)
bytes_at program here (Word stored) = value_bytes false (number_at program here stored.kind stored.constant)
bytes_at program here Limits = word_bytes program.bottom ++ word_bytes program.top

-- a piece's address, and its bytes
abbrev pub laid : Addresses → Spot → PieceContent → ℕ × Bytes
laid program here content = (here.address, bytes_at program here content)

-- the address and the bytes of a piece of the source with this index; the location of the piece counts from the start of the source's
-- contribution to its section
abbrev pub placed : Addresses → ℕ → Piece → ℕ × Bytes
placed program source piece =
    let base = program.base source piece.section in
    laid program (spot source base (base + piece.location)) piece.content

-- ---- several pieces

-- the bytes of pieces without a gap between them, the first one at this address
abbrev pub bytes_from : Addresses → ℕ → ℕ → ℕ → List Piece → Bytes
bytes_from program source base address [] = []
bytes_from program source base address (piece ∷ pieces) =
    bytes_at program (spot source base address) piece.content ++ bytes_from program source base (address + size_of piece) pieces
