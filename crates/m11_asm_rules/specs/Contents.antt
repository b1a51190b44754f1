-- What a line emits, in order, with its flags. (MACRO-11 Language Reference Manual, "Expressions" and "Diagnostic error message summary", R
-- and T.)
use Rattle.std.specs.Prelude.{ℕ, ◌+◌, ◌/◌, ◌%◌, ◌==◌, ◌||◌, not, Bool, false, if◌then◌else◌, List, [], ◌∷◌, ◌++◌, length}
use Rattle.std.specs.Int.RustNames.{bit_or}
use Rattle.m11_scan_expressions.specs.Tokens.{Expression, is_empty}
use Rattle.m11_scan_expressions.specs.Expressions.{KnownSymbols, value}
use Rattle.m11_base.specs.Rad50.{Name}
use Rattle.m11_obj.specs.declared.pieces.Piece.{Piece}
use Rattle.m11_obj.specs.declared.pieces.PieceContent.{PieceContent}
use Rattle.m11_obj.specs.declared.pieces.PieceContent.TheVariants.{Byte, Word}
use Rattle.m11_obj.specs.Pieces.{content_bytes}
use Rattle.m11_scan.specs.ErrorFlags.{flag_T, flag_if}
use Rattle.m11_scan_expressions.specs.declared.kinds.Kind.{Kind}
use Rattle.m11_scan_expressions.specs.Kinds.{is_register, flag_R}
use Rattle.m11_scan_expressions.specs.Quantities.{Quantity, absolute}
use Rattle.m11_asm_rules.specs.Relocations.{fixed, stored}
use Rattle.m11_asm_rules.specs.Tables.{Table}

-- the emitted contents, and flags
pub record Emission : Type 0 where
  pub contents : List PieceContent
  pub flags : ℕ

abbrev pub emission : List PieceContent → ℕ → Emission
emission contents flags = record { contents = contents; flags = flags }

-- no contents, with these flags
abbrev pub nothing : ℕ → Emission
nothing flags = emission [] flags

-- one emission followed by another, with the flags of both
abbrev pub followed_by : Emission → Emission → Emission
followed_by first next = emission (first.contents ++ next.contents) (bit_or first.flags next.flags)

abbrev pub with_flags : ℕ → Emission → Emission
with_flags flags what = emission what.contents (bit_or flags what.flags)

-- ---- sizes and locations

abbrev pub content_size : PieceContent → ℕ
content_size content = length (content_bytes content)

abbrev pub contents_size : List PieceContent → ℕ
contents_size [] = 0
contents_size (content ∷ contents) = content_size content + contents_size contents

-- the location that is this many bytes after another, modulo 65536
abbrev pub further : ℕ → ℕ → ℕ
further location size = (location + size) % 65536

abbrev pub piece : Name → ℕ → PieceContent → Piece
piece section location content = record { section = section; location = location; content = content }

-- the pieces with these contents: the first at a location of a section, each other one right after the one before it
abbrev pub pieces_from : Name → ℕ → List PieceContent → List Piece
pieces_from section location [] = []
pieces_from section location (content ∷ contents) =
    piece section location content ∷ pieces_from section (further location (content_size content)) contents

-- ---- values

-- the value of an element; an empty one counts as 0
abbrev pub element_value : KnownSymbols → Expression → Quantity
element_value known element = if is_empty element then absolute 0 0 else value known element

-- R for a register, in a place where no register is allowed; otherwise no flag
abbrev pub register_flags : Kind → ℕ
register_flags kind = flag_if (is_register kind) flag_R

-- T for a number stored as a byte, if its high byte is neither octal 000 nor 377
abbrev pub byte_flags : ℕ → ℕ
byte_flags number = flag_if (not (number / 256 == 0 || number / 256 == 0o377)) flag_T

-- a value as a word at a location, with R for a register; a relative operand (true) is the distance from the location after the word,
-- computed by the linker unless the assembly knows it
abbrev pub word : Table → Bool → ℕ → Quantity → Emission
word table is_relative location value =
    emission (Word (stored table is_relative location value) ∷ []) (bit_or value.flags (register_flags value.kind))

-- a value as a byte at a location, with R for a register; T depends on its number alone, whatever the number is relative to
abbrev pub byte : Table → ℕ → Quantity → Emission
byte table location value =
    emission (Byte (stored table false location value) ∷ [])
    (bit_or (bit_or value.flags (register_flags value.kind)) (byte_flags value.number))

abbrev pub fixed_word : ℕ → PieceContent
fixed_word number = Word (fixed number)

abbrev pub fixed_byte : ℕ → PieceContent
fixed_byte number = Byte (fixed number)
