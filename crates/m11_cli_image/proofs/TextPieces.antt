-- The relocations of a text replace each of its pieces by the piece's bytes in the program.
use Rattle.std.proofs.Common.{◌≡◌, ◌∙◌, ℕ, ◌+◌, ◌-◌, ◌==◌, leb, Bool, true, false, ◌&&◌, if◌then◌else◌, List, [], ◌∷◌, ◌++◌, length, take, drop, append_assoc, option_map, refl, sym, ap, ap₂, arith}
use Rattle.std.specs.Option.{option_to_list}
use Rattle.std.proofs.lemmas.Bool.{le-leb}
use Rattle.std.proofs.lemmas.List.{length-append}
use Rattle.std.proofs.Math.Seq.{drop-append-add, drop-append_seam, take-append_seam}
use Rattle.m11_base.specs.Devices.{Bytes}
use Rattle.m11_obj_blocks.specs.Frames.{word_bytes}
use Rattle.m11_link.specs.Written.{PlacedText, with_relocations}
use Rattle.m11_link_text.specs.Findings.{Findings}
use Rattle.m11_link_text.specs.Relocation.{modulo, relocated, replaced, stored_bytes, symbol, value_bytes}
use Rattle.m11_link_modules.specs.Rules.{width_of}
use Rattle.m11_obj.specs.declared.relocations.Relocation.{Relocation}
use Rattle.m11_obj.specs.declared.relocations.Target.{Target}
use Rattle.m11_obj.specs.declared.relocations.Target.TheVariants as target
use Rattle.m11_obj.specs.declared.pieces.Piece.{Piece}
use Rattle.m11_obj.specs.declared.pieces.PieceContent.{PieceContent}
use Rattle.m11_obj.specs.declared.pieces.PieceContent.TheVariants.{Byte, Word, Limits}
use Rattle.m11_obj.specs.declared.pieces.RelocationKind.{RelocationKind}
use Rattle.m11_obj.specs.declared.pieces.RelocationKind.TheVariants as kind
use Rattle.m11_obj.specs.Pieces.{content_bytes, relocation, relocation_at, relocations_from, relocations_of, size_of, standing, target_of, text_bytes}
use Rattle.m11_asm_laws.specs.Targets.{AreWords}
use Rattle.m11_asm_laws.proofs.Rows.{displaced_global_row, displaced_section_row, global_row, section_row}
use Rattle.m11_cli_image.specs.Addresses.{Addresses}
use Rattle.m11_cli_image.specs.Pieces.{Spot, bytes_at, bytes_from, number_at, spot}
use Rattle.m11_cli_image.specs.Found.{AreFound}

-- ---- bytes replaced by as many others

spliced : (done old new rest : Bytes) → length new ≡ length old
    → replaced (done ++ (old ++ rest)) (length done) new ≡ done ++ (new ++ rest)
spliced done old new rest e =
    ap (λ (n : ℕ). (take (length done) (done ++ (old ++ rest)) ++ new) ++ drop (length done + n) (done ++ (old ++ rest))) e
    ∙ rw (take-append_seam done (old ++ rest), drop-append-add done (old ++ rest) (length old), drop-append_seam old rest, append_assoc) refl

inside : (done old rest : Bytes) (width : ℕ) → width ≡ length old
    → (leb 4 (4 + length done) && leb (4 + length done + width) (4 + length (done ++ (old ++ rest)))) ≡ true
inside done old rest width e =
    let all = length-append done (old ++ rest) in
    let more = length-append old rest in
    ap₂ (λ (a b : Bool). a && b) (le-leb 4 (4 + length done) (omega arith))
    (le-leb (4 + length done + width) (4 + length (done ++ (old ++ rest))) (omega arith))

-- any two words have equally many bytes, and so have any two bytes
as_many : (is_byte : Bool) (some other : ℕ) → length (value_bytes is_byte some) ≡ length (value_bytes is_byte other)
as_many true some other = refl
as_many false some other = refl

width : (is_byte : Bool) (t : Target) → width_of true t ≡ 1 → width_of false t ≡ 2
    → width_of is_byte t ≡ length (value_bytes is_byte 0)
width true t e f = e
width false t e f = f

either_width : (is_zero is_byte : Bool) (one other : Target) → width_of is_byte one ≡ length (value_bytes is_byte 0)
    → width_of is_byte other ≡ length (value_bytes is_byte 0)
    → width_of is_byte (if is_zero then one else other) ≡ length (value_bytes is_byte 0)
either_width true is_byte one other e f = e
either_width false is_byte one other e f = f

-- the findings of a linker, as addresses
abbrev pub as_addresses : Findings → Addresses
as_addresses found = record {
  base = λ index name. found.base index name;
  global = λ name. symbol found name;
  bottom = found.bottom;
  top = found.top;
}

pub they_are : (found : Findings) (program : Addresses) → AreFound found program → program ≡ as_addresses found
they_are found program are = λ j. record {
  base = λ index name. are.bases_are index name j;
  global = λ name. are.globals_are name j;
  bottom = are.bottom_is j;
  top = are.top_is j;
}

-- the bytes of a text are stored one piece after another
module _ (found : Findings) (text : PlacedText) where
  abbrev put_into : Bytes → List Relocation → Bytes
  put_into bytes relocations = (with_relocations found (record text { bytes = bytes }) relocations).bytes

  abbrev after : Bytes → ℕ
  after done = modulo (text.address + length done)

  one_put : (done old new rest : Bytes) (is_byte : Bool) (t : Target) → width_of is_byte t ≡ length old → length new ≡ length old
      → stored_bytes found text.module_index text.base (after done) is_byte t ≡ new
      → relocated found text.module_index text.base text.address (relocation is_byte (4 + length done) t) (done ++ (old ++ rest))
      ≡ done ++ (new ++ rest)
  one_put done old new rest is_byte t w l s =
      let all : Bytes = done ++ (old ++ rest) in
      let back : 4 + length done - 4 ≡ length done = omega arith in
      let by : ℕ → Bytes = λ i.
      replaced all i (stored_bytes found text.module_index text.base (modulo (text.address + i)) is_byte t) in
      ap (λ (b : Bool). if b then by (4 + length done - 4) else all) (inside done old rest (width_of is_byte t) w)
      ∙ ap by back ∙ ap (replaced all (length done)) s ∙ spliced done old new rest l

  module _ (words : AreWords found) where
    abbrev here : Bytes → Spot
    here done = spot text.module_index text.base (text.address + length done)

    -- ---- one number

    module _ (done rest : Bytes) (is_byte : Bool) where
      abbrev Puts : RelocationKind → ℕ → Type 0
      Puts k constant =
          put_into (done ++ (value_bytes is_byte (standing k constant) ++ rest))
          (option_to_list (option_map (λ t. relocation is_byte (4 + length done) t) (target_of k constant)))
          ≡ done ++ (value_bytes is_byte (number_at (as_addresses found) (here done) k constant) ++ rest)

      number : (t : Target) (n : ℕ) → width_of is_byte t ≡ length (value_bytes is_byte 0)
          → stored_bytes found text.module_index text.base (after done) is_byte t ≡ value_bytes is_byte n
          → relocated found text.module_index text.base text.address (relocation is_byte (4 + length done) t)
          (done ++ (value_bytes is_byte 0 ++ rest))
          ≡ done ++ (value_bytes is_byte n ++ rest)
      number t n w s =
          one_put done (value_bytes is_byte 0) (value_bytes is_byte n) rest is_byte t w (as_many is_byte n 0) s

      named : (constant n : ℕ) (one other : Target)
          → width_of true one ≡ 1 → width_of false one ≡ 2 → width_of true other ≡ 1 → width_of false other ≡ 2
          → stored_bytes found text.module_index text.base (after done) is_byte (if constant == 0 then one else other)
          ≡ value_bytes is_byte n
          → relocated found text.module_index text.base text.address
          (relocation is_byte (4 + length done) (if constant == 0 then one else other))
          (done ++ (value_bytes is_byte 0 ++ rest))
          ≡ done ++ (value_bytes is_byte n ++ rest)
      named constant n one other a b c d s = number (if constant == 0 then one else other) n
          (either_width (constant == 0) is_byte one other (width is_byte one a b) (width is_byte other c d)) s

      puts : (k : RelocationKind) (constant : ℕ) → Puts k constant
      puts kind.Fixed constant = refl
      puts kind.Internal constant =
          number (target.Internal constant) _ (width is_byte (target.Internal constant) refl refl) refl
      puts kind.InternalDisplaced constant =
          number (target.InternalDisplaced constant) _ (width is_byte (target.InternalDisplaced constant) refl refl) refl
      puts (kind.Global name) constant =
          named constant _ (target.Global name) (target.GlobalAdditive name constant) refl refl refl refl
          (global_row found text.module_index text.base (after done) is_byte name constant words)
      puts (kind.GlobalDisplaced name) constant =
          named constant _ (target.GlobalDisplaced name) (target.GlobalAdditiveDisplaced name constant) refl refl refl refl
          (displaced_global_row found text.module_index text.base (after done) is_byte name constant words)
      puts (kind.Section name) constant =
          named constant _ (target.Section name) (target.SectionAdditive name constant) refl refl refl refl
          (section_row found text.module_index text.base (after done) is_byte name constant words)
      puts (kind.SectionDisplaced name) constant =
          named constant _ (target.SectionDisplaced name) (target.SectionAdditiveDisplaced name constant) refl refl refl refl
          (displaced_section_row found text.module_index text.base (after done) is_byte name constant words)

    -- ---- one piece

    first_put : (done rest : Bytes) (content : PieceContent)
        → put_into (done ++ (content_bytes content ++ rest)) (option_to_list (relocation_at (4 + length done) content))
        ≡ done ++ (bytes_at (as_addresses found) (here done) content ++ rest)
    first_put done rest (Byte stored) = puts done rest true stored.kind stored.constant
    first_put done rest (Word stored) = puts done rest false stored.kind stored.constant
    first_put done rest Limits = one_put done (content_bytes Limits) (word_bytes found.bottom ++ word_bytes found.top) rest false
        target.ProgramLimits refl refl refl

    same_size : (spot : Spot) (content : PieceContent)
        → length (bytes_at (as_addresses found) spot content) ≡ length (content_bytes content)
    same_size spot (Byte stored) = refl
    same_size spot (Word stored) = refl
    same_size spot Limits = refl

    -- ---- the pieces after the first

    one_by_one : (bytes : Bytes) (some more : List Relocation) → put_into bytes (some ++ more) ≡ put_into (put_into bytes some) more
    one_by_one bytes [] more = refl
    one_by_one bytes (r ∷ some) more =
        one_by_one (relocated found text.module_index text.base text.address r bytes) some more

    rest_put : (pieces : List Piece) (done : Bytes) (displacement : ℕ) → displacement ≡ 4 + length done
        → put_into (done ++ text_bytes pieces) (relocations_from displacement pieces)
        ≡ done ++ bytes_from (as_addresses found) text.module_index text.base (text.address + length done) pieces
    rest_put [] done displacement e = refl
    rest_put (piece ∷ pieces) done displacement e =
        let new : Bytes = bytes_at (as_addresses found) (here done) piece.content in
        let count = length-append done new in
        let same = same_size (here done) piece.content in
        let next : displacement + size_of piece ≡ 4 + length (done ++ new) = omega (arith, e, count, same) in
        let there : text.address + length (done ++ new) ≡ text.address + length done + size_of piece = omega (arith, count, same) in
        let whole : Bytes = done ++ (content_bytes piece.content ++ text_bytes pieces) in
        one_by_one whole (option_to_list (relocation_at displacement piece.content))
        (relocations_from (displacement + size_of piece) pieces)
        ∙ ap (λ (bytes : Bytes). put_into bytes (relocations_from (displacement + size_of piece) pieces))
        (ap (λ (n : ℕ). put_into whole (option_to_list (relocation_at n piece.content))) e
        ∙ first_put done (text_bytes pieces) piece.content ∙ sym (append_assoc done new (text_bytes pieces)))
        ∙ rest_put pieces (done ++ new) (displacement + size_of piece) next
        ∙ append_assoc done new _
        ∙ ap (λ (n : ℕ). done ++ (new ++ bytes_from (as_addresses found) text.module_index text.base n pieces)) there

pub pieces_stored : (found : Findings) (program : Addresses) (text : PlacedText) (pieces : List Piece) → AreFound found program
    → text.bytes ≡ text_bytes pieces
    → (with_relocations found text (relocations_of pieces)).bytes
    ≡ bytes_from program text.module_index text.base text.address pieces
pieces_stored found program text pieces are e =
    let start : text.address + 0 ≡ text.address = omega arith in
    ap (λ (bytes : Bytes). (with_relocations found (record text { bytes = bytes }) (relocations_of pieces)).bytes) e
    ∙ rest_put found text are.words pieces [] 4 refl
    ∙ ap (λ (n : ℕ). bytes_from (as_addresses found) text.module_index text.base n pieces) start
    ∙ ap (λ (these : Addresses). bytes_from these text.module_index text.base text.address pieces) (sym (they_are found program are))
