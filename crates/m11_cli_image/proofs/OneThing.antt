-- The bytes of a piece in a program are those of the value that its line states there.
use Rattle.std.proofs.Common.{◌≡◌, ◌∙◌, ℕ, ◌+◌, ◌-◌, ◌<◌, ◌%◌, Bool, true, false, if◌then◌else◌, refl, sym, ap, arith}
use Rattle.m11_base.specs.Rad50.{Name, is_same_name}
use Rattle.m11_base.proofs.SameNames.{same_name_equal}
use Rattle.m11_obj_blocks.specs.Frames.{word_bytes}
use Rattle.m11_link_text.specs.Relocation.{following, less, modulo, value_bytes}
use Rattle.m11_obj.specs.declared.pieces.PieceContent.{PieceContent}
use Rattle.m11_obj.specs.declared.pieces.PieceContent.TheVariants.{Byte, Word, Limits}
use Rattle.m11_asm_rules.specs.Contents.{content_size, fixed_byte, fixed_word}
use Rattle.m11_asm_rules.specs.Relocations.{Here, InObject, InSection, Origin, Zero, constant, is_moved, origin_of, relocation_by, row_of, stored}
use Rattle.m11_asm_rules.specs.Tables.{Table, section_name}
use Rattle.m11_scan_expressions.specs.declared.kinds.Kind.{Kind}
use Rattle.m11_scan_expressions.specs.declared.kinds.Kind.TheVariants as kind
use Rattle.m11_scan_expressions.specs.Quantities.{Quantity}
use Rattle.m11_cli_image.specs.Addresses.{Addresses}
use Rattle.m11_cli_image.specs.Pieces.{bytes_at, number_at, spot}
use Rattle.m11_cli_image.specs.Lines.{address_in}
use Rattle.m11_cli_image.specs.Stated.{Stated, PlainWord, PlainByte, ValueWord, ValueByte, DistanceWord, LimitWords, stated_size}
use Rattle.m11_cli_image.specs.Targets.{stated_bytes, target, target_by}

-- ---- numbers

-- two locations of one section are as far from each other as in the source
same_distance : (base location number : ℕ) → location < 65536
    → (number + 131072 - (location + 2)) % 65536 ≡ ((base + number) % 65536 + (65536 - ((base + location) % 65536 + 2) % 65536)) % 65536
same_distance base location number low = omega arith

-- if a section is at 0, its locations are addresses
at_zero : (base location number : ℕ) → location < 65536 → base ≡ 0
    → (number + 131072 - (location + 2)) % 65536 ≡ (number + (65536 - ((base + location) % 65536 + 2) % 65536)) % 65536
at_zero base location number low zero = omega arith

-- a value, or, if it is relative, its distance from the location after the word at an address
abbrev pub told : Bool → ℕ → ℕ → ℕ
told is_relative address value = if is_relative then less value (following address) else value

module _ (program : Addresses) (source base : ℕ) where
  abbrev by_origin : Origin → ℕ → ℕ
  by_origin Here number = modulo (base + number)
  by_origin Zero number = number
  by_origin (InSection name) number = modulo (program.base source name + number)
  by_origin (InObject name) number = modulo (program.global name + number)

  origin_tells : (origin : Origin) (is_relative moves : Bool) (location number : ℕ) → location < 65536 → (moves ≡ false → base ≡ 0)
      → number_at program (spot source base (base + location)) (relocation_by is_relative moves (row_of origin))
      (constant is_relative (relocation_by is_relative moves (row_of origin)) location number)
      ≡ told is_relative (modulo (base + location)) (by_origin origin number)
  origin_tells Here false moves location number low absolute = refl
  origin_tells Here true true location number low absolute = same_distance base location number low
  origin_tells Here true false location number low absolute = same_distance base location number low
  origin_tells Zero false moves location number low absolute = refl
  origin_tells Zero true true location number low absolute = refl
  origin_tells Zero true false location number low absolute = at_zero base location number low (absolute refl)
  origin_tells (InSection name) false moves location number low absolute = refl
  origin_tells (InSection name) true true location number low absolute = refl
  origin_tells (InSection name) true false location number low absolute = refl
  origin_tells (InObject name) false moves location number low absolute = refl
  origin_tells (InObject name) true true location number low absolute = refl
  origin_tells (InObject name) true false location number low absolute = refl

-- ---- one piece, in a line of a section

module _ (program : Addresses) (source : ℕ) (table : Table)
    (absolute : is_moved table ≡ false → program.base source (section_name table) ≡ 0) where
  abbrev base : ℕ
  base = program.base source (section_name table)

  section_by : (name : Name) (number : ℕ) (here : Bool) → is_same_name name (section_name table) ≡ here
      → by_origin program source base (if here then Here else InSection name) number ≡ modulo (program.base source name + number)
  section_by name number true e =
      ap (λ (n : Name). modulo (program.base source n + number)) (sym (same_name_equal name (section_name table) e))
  section_by name number false e = refl

  counts_from : (sort : Kind) (number : ℕ)
      → by_origin program source base (origin_of table sort) number ≡ target_by program source number sort
  counts_from kind.Absolute number = refl
  counts_from kind.Register number = refl
  counts_from (kind.Section name) number = section_by name number (is_same_name name (section_name table)) refl
  counts_from (kind.Reference name) number = refl

  value_tells : (is_relative : Bool) (location : ℕ) (value : Quantity) → location < 65536
      → number_at program (spot source base (base + location)) (stored table is_relative location value).kind (stored table is_relative location value).constant
      ≡ told is_relative (modulo (base + location)) (target program source value)
  value_tells is_relative location value low =
      origin_tells program source base (origin_of table value.kind) is_relative (is_moved table) location value.number low absolute
      ∙ ap (told is_relative (modulo (base + location))) (counts_from value.kind value.number)

  -- if nothing is relative, the location of the stored value doesn't matter
  value_stays : (own location : ℕ) (value : Quantity)
      → number_at program (spot source base (base + location)) (stored table false own value).kind (stored table false own value).constant
      ≡ target program source value
  value_stays own location value =
      by (origin_of table value.kind) ∙ counts_from value.kind value.number
    where
      by : (origin : Origin) → number_at program (spot source base (base + location)) (row_of origin).in_word value.number
          ≡ by_origin program source base origin value.number
      by Here = refl
      by Zero = refl
      by (InSection name) = refl
      by (InObject name) = refl

  -- the piece at a location has the size and the bytes of the value stated there
  pub record Means (location : ℕ) (content : PieceContent) (stated : Stated) : Type 0 where
    pub size : content_size content ≡ stated_size stated
    pub bytes : bytes_at program (spot source base (base + location)) content
        ≡ stated_bytes program source (address_in program source (section_name table) location) stated

  pub plain_word : (location number : ℕ) → Means location (fixed_word number) (PlainWord number)
  plain_word location number = record { size = refl; bytes = refl }

  pub plain_byte : (location number : ℕ) → Means location (fixed_byte number) (PlainByte number)
  plain_byte location number = record { size = refl; bytes = refl }

  pub limit_words : (location : ℕ) → Means location Limits LimitWords
  limit_words location = record { size = refl; bytes = refl }

  pub value_word : (own location : ℕ) (value : Quantity) → Means location (Word (stored table false own value)) (ValueWord value)
  value_word own location value = record { size = refl; bytes = ap word_bytes (value_stays own location value) }

  pub value_byte : (own location : ℕ) (value : Quantity) → Means location (Byte (stored table false own value)) (ValueByte value)
  value_byte own location value = record { size = refl; bytes = ap (value_bytes true) (value_stays own location value) }

  pub distance_word : (location : ℕ) (value : Quantity) → location < 65536 → Means location (Word (stored table true location value)) (DistanceWord value)
  distance_word location value low = record { size = refl; bytes = ap word_bytes (value_tells true location value low) }
