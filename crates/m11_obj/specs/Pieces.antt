-- What the pieces of a program contribute to its object: their bytes and relocations. (RT-11 Volume and File Formats Manual, "Object file
-- format", TXT and RLD blocks. Storing 0 at a relocated location, and using the additive commands only for constants other than 0, are this
-- project's own choices.)
use Rattle.std.specs.Prelude.{ℕ, ◌+◌, ◌-◌, ◌%◌, ◌==◌, Bool, true, false, if◌then◌else◌, List, [], ◌∷◌, ◌++◌, length, Option, Some, None, option_map}
use Rattle.std.specs.List.{flat_map}
use Rattle.std.specs.Option.{option_to_list}
use Rattle.m11_base.specs.Devices.{Bytes}
use Rattle.m11_obj.specs.declared.pieces.RelocationKind.{RelocationKind}
use Rattle.m11_obj.specs.declared.pieces.RelocationKind.TheVariants as kind
use Rattle.m11_obj.specs.declared.pieces.PieceContent.{PieceContent}
use Rattle.m11_obj.specs.declared.pieces.PieceContent.TheVariants.{Byte, Word, Limits}
use Rattle.m11_obj.specs.declared.pieces.Piece.{Piece}
use Rattle.m11_obj.specs.declared.relocations.Relocation.{Relocation}
use Rattle.m11_obj.specs.declared.relocations.Target.{Target}
use Rattle.m11_obj.specs.declared.relocations.Target.TheVariants as target
use Rattle.m11_obj_blocks.specs.Frames.{word_bytes}

-- ---- one byte, word or pair of limits

-- the target for a constant of this kind; a fixed constant has none
abbrev pub target_of : RelocationKind → ℕ → Option Target
target_of kind.Fixed constant = None
target_of kind.Internal constant = Some (target.Internal constant)
target_of kind.InternalDisplaced constant = Some (target.InternalDisplaced constant)
target_of (kind.Global name) constant =
    Some (if constant == 0 then target.Global name else target.GlobalAdditive name constant)
target_of (kind.GlobalDisplaced name) constant =
    Some (if constant == 0 then target.GlobalDisplaced name else target.GlobalAdditiveDisplaced name constant)
target_of (kind.Section name) constant =
    Some (if constant == 0 then target.Section name else target.SectionAdditive name constant)
target_of (kind.SectionDisplaced name) constant =
    Some (if constant == 0 then target.SectionDisplaced name else target.SectionAdditiveDisplaced name constant)

-- the number that a text holds for a constant of this kind: the constant, or 0 if the linker replaces it
abbrev pub standing : RelocationKind → ℕ → ℕ
standing kind.Fixed constant = constant
standing _ constant = 0

abbrev pub content_bytes : PieceContent → Bytes
content_bytes (Byte stored) = (standing stored.kind stored.constant % 256) ∷ []
content_bytes (Word stored) = word_bytes (standing stored.kind stored.constant)
content_bytes Limits = 0 ∷ 0 ∷ 0 ∷ 0 ∷ []

abbrev pub relocation : Bool → ℕ → Target → Relocation
relocation is_byte displacement target =
    record { is_byte = is_byte; displacement = displacement; target = target }

-- the relocation of a piece's content, if it has one, with this displacement; the relocation of a byte has the byte form
abbrev pub relocation_at : ℕ → PieceContent → Option Relocation
relocation_at displacement (Byte stored) =
    option_map (λ target. relocation true displacement target) (target_of stored.kind stored.constant)
relocation_at displacement (Word stored) =
    option_map (λ target. relocation false displacement target) (target_of stored.kind stored.constant)
relocation_at displacement Limits = Some (relocation false displacement target.ProgramLimits)

-- ---- pieces one after another

abbrev pub size_of : Piece → ℕ
size_of piece = length (content_bytes piece.content)

-- the location of a piece's last byte, modulo 65536
abbrev pub last_location : Piece → ℕ
last_location piece = (piece.location + (size_of piece - 1)) % 65536

-- the bytes of consecutive pieces
abbrev pub text_bytes : List Piece → Bytes
text_bytes pieces = flat_map (λ piece. content_bytes piece.content) pieces

-- the relocations of consecutive pieces, the first of which has this displacement
abbrev pub relocations_from : ℕ → List Piece → List Relocation
relocations_from displacement [] = []
relocations_from displacement (piece ∷ pieces) =
    option_to_list (relocation_at displacement piece.content)
    ++ relocations_from (displacement + size_of piece) pieces

-- the relocations of the pieces of one text; a displacement is an offset in bytes from the type word of the text record, whose first
-- data byte is at 4
abbrev pub relocations_of : List Piece → List Relocation
relocations_of pieces = relocations_from 4 pieces
