-- The blocks of a tape have, at each address, the bytes of the pieces of the sources.
use Rattle.std.proofs.Common.{◌≡◌, ◌∙◌, ℕ, ◌+◌, ◌<◌, ◌≤◌, true, if◌then◌else◌, List, [], ◌∷◌, ◌++◌, length, map, flat_map, Option, Some, None, refl, sym, ap, ap₂, arith}
use Rattle.std.specs.Prelude.{filter}
use Rattle.std.specs.List.{AllByRecursion, enumerate_from}
use Rattle.std.specs.Option.{option_or}
use Rattle.std.proofs.lemmas.List.{length-append, map-append}
use Rattle.m11_base.specs.Devices.{Bytes}
use Rattle.m11_base.specs.Rad50.{Name}
use Rattle.m11_link.specs.Written.{PlacedText, placed_text, with_relocation, with_relocations}
use Rattle.m11_link_laws.specs.LinkedTexts.{ObjectText, has_data, linked_text}
use Rattle.m11_link_text.specs.Findings.{Findings}
use Rattle.m11_link_text.specs.Relocation.{modulo}
use Rattle.m11_obj.specs.declared.relocations.Relocation.{Relocation}
use Rattle.m11_obj.specs.declared.pieces.Piece.{Piece}
use Rattle.m11_obj.specs.Fronts.{joined}
use Rattle.m11_obj.specs.Pieces.{content_bytes, relocations_of, text_bytes}
use Rattle.m11_obj.specs.Texts.{are_contiguous, cutting, text_of, texts_after}
use Rattle.m11_cpu_laws.specs.Image.{byte_of, byte_within}
use Rattle.m11_cli_image.specs.Addresses.{Addresses}
use Rattle.m11_cli_image.specs.Found.{AreFound}
use Rattle.m11_cli_image.specs.Image.{placed_pieces}
use Rattle.m11_cli_image.specs.Links.{texts_at}
use Rattle.m11_cli_image.specs.Objects.{text_in}
use Rattle.m11_cli_image.specs.Pieces.{bytes_from, placed}
use Rattle.m11_cli_image.specs.Sources.{Source}
use Rattle.m11_cli_image.proofs.BytesPlaced.{IsRun, blocks_then, cutting_runs, none_last, nothing_within, pieces_placed, runs_of, some_bytes}
use Rattle.m11_cli_image.proofs.TextPieces.{pieces_stored}

-- ---- blocks without data have no byte

one_kept : (address : ℕ) (block : ℕ × Bytes) (blocks : List (ℕ × Bytes))
    → byte_of (if has_data block.1 then block ∷ blocks else blocks) address ≡ option_or (byte_of blocks address) (byte_within block address)
one_kept address (start, []) blocks =
    sym (ap (option_or (byte_of blocks address)) (nothing_within start address) ∙ none_last (byte_of blocks address))
one_kept address (start, byte ∷ bytes) blocks = refl

pub with_data : (address : ℕ) (blocks : List (ℕ × Bytes))
    → byte_of (filter (λ block. has_data block.1) blocks) address ≡ byte_of blocks address
with_data address [] = refl
with_data address (block ∷ blocks) =
    one_kept address block (filter (λ block. has_data block.1) blocks)
    ∙ ap (λ (o : Option ℕ). option_or o (byte_within block address)) (with_data address blocks)

-- ---- relocations leave the address of a text

address_kept : (found : Findings) (text : PlacedText) (relocations : List Relocation)
    → (with_relocations found text relocations).address ≡ text.address
address_kept found text [] = refl
address_kept found text (relocation ∷ relocations) = address_kept found (with_relocation found text relocation) relocations

-- ---- the texts of sources

-- the texts made from the pieces of a source hold exactly these pieces
abbrev pub HoldsPieces : Source → Type 0
HoldsPieces source = joined (cutting source.pieces) ≡ source.pieces

-- a text doesn't extend past the last address
abbrev pub Ends : Addresses → ObjectText → Type 0
Ends addresses text = addresses.base text.module_index text.section + text.address + length text.bytes ≤ 65536

module _ (found : Findings) (addresses : Addresses) (are : AreFound found addresses) (address : ℕ) where
  plain : (start count : ℕ) → 0 < count → start + count ≤ 65536 → modulo start ≡ start
  plain start count lt le = omega arith

  one_text : (index : ℕ) (before : Option Name) (first : Piece) (rest : List Piece) → are_contiguous first rest ≡ true
      → Ends addresses (text_in index (text_of before first rest))
      → byte_within (linked_text found (text_in index (text_of before first rest))) address
      ≡ byte_of (map (placed addresses index) (first ∷ rest)) address
  one_text index before first rest e le =
      let pieces : List Piece = first ∷ rest in
      let text = placed_text found index first.section first.location (text_bytes pieces) in
      let own : ℕ = addresses.base index first.section in
      let some = some_bytes first.content in
      let size = length-append (content_bytes first.content) (text_bytes rest) in
      let lt : 0 < length (text_bytes pieces) = omega (arith, some, size) in
      let near : own + (first.location + length (text_bytes pieces)) ≤ 65536 = omega (arith, le) in
      let within : first.location + length (text_bytes pieces) ≤ 65536 = omega (arith, le) in
      ap₂ (λ (start : ℕ) (bytes : Bytes). byte_within (start, bytes) address)
      (address_kept found text (relocations_of pieces)) (pieces_stored found addresses text pieces are refl)
      ∙ ap (λ (base : ℕ). byte_within (modulo (base + first.location), bytes_from addresses index base (modulo (base + first.location)) pieces) address)
      (sym (are.bases_are index first.section))
      ∙ ap (λ (start : ℕ). byte_within (start, bytes_from addresses index own start pieces) address)
      (plain (own + first.location) (length (text_bytes pieces)) lt le)
      ∙ pieces_placed addresses index first.section address pieces first.location (runs_of first rest e within) near

  some_texts : (index : ℕ) (before : Option Name) (fronts : List (List Piece)) → AllByRecursion IsRun fronts
      → AllByRecursion (Ends addresses) (map (text_in index) (texts_after before fronts))
      → byte_of (map (linked_text found) (map (text_in index) (texts_after before fronts))) address
      ≡ byte_of (map (placed addresses index) (joined fronts)) address
  some_texts index before [] run ends = refl
  some_texts index before ([] ∷ fronts) run ends = some_texts index before fronts run.1 ends
  some_texts index before ((first ∷ rest) ∷ fronts) run ends =
      ap₂ option_or (some_texts index (Some first.section) fronts run.1 ends.1) (one_text index before first rest run.0 ends.0)
      ∙ sym (ap (λ (blocks : List (ℕ × Bytes)). byte_of blocks address)
      (map-append (placed addresses index) (first ∷ rest) (joined fronts))
      ∙ blocks_then (map (placed addresses index) (first ∷ rest)) (map (placed addresses index) (joined fronts)) address)

  one_source : (index : ℕ) (source : Source) → HoldsPieces source → AllByRecursion (Ends addresses) (texts_at (index, source))
      → byte_of (map (linked_text found) (texts_at (index, source))) address
      ≡ byte_of (placed_pieces addresses (index, source)) address
  one_source index source e ends =
      some_texts index None (cutting source.pieces) (cutting_runs source.pieces) ends
      ∙ ap (λ (pieces : List Piece). byte_of (map (placed addresses index) pieces) address) e

  split : {X : Type 0} (P : X → Type 0) (xs ys : List X) → AllByRecursion P (xs ++ ys) → AllByRecursion P xs × AllByRecursion P ys
  split P [] ys h = (tt, h)
  split P (x ∷ xs) ys h = let more = split P xs ys h.1 in ((h.0, more.0), more.1)

  pub all_sources : (index : ℕ) (sources : List Source) → AllByRecursion HoldsPieces sources
      → AllByRecursion (Ends addresses) (flat_map texts_at (enumerate_from index sources))
      → byte_of (map (linked_text found) (flat_map texts_at (enumerate_from index sources))) address
      ≡ byte_of (flat_map (placed_pieces addresses) (enumerate_from index sources)) address
  all_sources index [] hold ends = refl
  all_sources index (source ∷ sources) hold ends =
      let some : List ObjectText = texts_at (index, source) in
      let more : List ObjectText = flat_map texts_at (enumerate_from (index + 1) sources) in
      let both = split (Ends addresses) some more ends in
      ap (λ (blocks : List (ℕ × Bytes)). byte_of blocks address) (map-append (linked_text found) some more)
      ∙ blocks_then (map (linked_text found) some) (map (linked_text found) more) address
      ∙ ap₂ option_or (all_sources (index + 1) sources hold.1 both.1) (one_source index source hold.0 both.0)
      ∙ sym (blocks_then (placed_pieces addresses (index, source))
      (flat_map (placed_pieces addresses) (enumerate_from (index + 1) sources)) address)
