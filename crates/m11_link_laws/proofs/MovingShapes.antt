-- With both bottoms the writes of parts go to the same outputs, in the same order and with the same lengths.
use Rattle.std.proofs.Common.{◌≡◌, ℕ, ◌+◌, ◌-◌, min, Bool, true, false, if◌then◌else◌, List, [], ◌∷◌, ◌++◌, length, map, refl, sym, ap, ap₂, ◌∙◌, arith, length-append}
use Rattle.std.proofs.lemmas.List.{map-append}
use Rattle.m11_obj_blocks.specs.Frames.{with_sum}
use Rattle.m11_obj_blocks.specs.Tapes.{tape_block, tape_header}
use Rattle.m11_obj.specs.declared.relocations.Relocation.{Relocation}
use Rattle.m11_obj.specs.declared.relocations.Target.{Target}
use Rattle.m11_obj.specs.declared.relocations.Target.TheVariants as target
use Rattle.m11_link_modules.specs.Parts.{Part, Directory, Entry, EndOfDirectory, Text, Relocations, Relocated, EndOfModule, EndOfFile}
use Rattle.m11_link_modules.specs.Positions.{current_section, modules_in, this_module}
use Rattle.m11_link_modules.specs.Rules.{lies_within}
use Rattle.m11_base_writes.specs.declared.outputs.Output.{Output}
use Rattle.m11_base_writes.specs.declared.outputs.Output.TheVariants.{Product}
use Rattle.m11_link_text.specs.Findings.{Findings, findings_of}
use Rattle.m11_link_text.specs.Relocation.{modulo, replaced, stored_bytes, value_bytes}
use Rattle.m11_link_text.proofs.Stored.{replaced_is}
use Rattle.m11_link.specs.Written.{PlacedText, block_at, has_ended, parts_writes, placed_text, relocations_after, text_writes, with_relocation, with_relocations, writes_at, writes_after}
use Rattle.m11_link_laws.specs.Moving.{bytes_moved, moved_after, moves, part_moved, relocation_moved, relocations_moved, shape_of, text_moved, text_position}
use Rattle.m11_link_laws.proofs.MovingLaws.{parts_move}

-- ---- blocks

header_length : (address other count : ℕ) → length (tape_header address count) ≡ length (tape_header other count)
header_length address other count = refl

sum_length : (bytes others : List ℕ) → length bytes ≡ length others → length (with_sum bytes) ≡ length (with_sum others)
sum_length bytes others e = simp length-append (ap (λ n. n + 1) e)

block_length : (address other : ℕ) (bytes others : List ℕ) → length bytes ≡ length others
    → length (tape_block address bytes) ≡ length (tape_block other others)
unfolding tape_block
block_length address other bytes others e =
    sum_length (tape_header address (length bytes) ++ bytes) (tape_header other (length others) ++ others)
    (simp length-append (ap (λ n. 6 + n) e))

block_shape : (address other : ℕ) (bytes others : List ℕ) → length bytes ≡ length others
    → map shape_of (block_at address bytes) ≡ map shape_of (block_at other others)
block_shape address other [] [] e = refl
block_shape address other [] (byte ∷ bytes) e = absurd (omega arith)
block_shape address other (byte ∷ bytes) [] e = absurd (omega arith)
block_shape address other (byte ∷ bytes) (first ∷ others) e =
    ap (λ n. let shapes : List (Output × ℕ) = (Product, n) ∷ [] in shapes)
    (block_length address other (byte ∷ bytes) (first ∷ others) e)

-- ---- relocations

stored_length : (is_byte : Bool) (value other : ℕ)
    → length (value_bytes is_byte value) ≡ length (value_bytes is_byte other)
stored_length true value other = refl
stored_length false value other = refl

replaced_length : (text other bytes others : List ℕ) (index : ℕ) → length text ≡ length other
    → length bytes ≡ length others → length (replaced text index bytes) ≡ length (replaced other index others)
replaced_length text other bytes others index e h =
    replaced_is text bytes index
    ∙ ap₂ (λ n m. min index n + m + (n - (index + m))) e h
    ∙ sym (replaced_is other others index)

if_length : (b : Bool) (text other bytes others : List ℕ) → length text ≡ length other → length bytes ≡ length others
    → length (if b then bytes else text) ≡ length (if b then others else other)
if_length true text other bytes others e h = h
if_length false text other bytes others e h = e

module _ (distance : ℕ) (parts : List Part) (near : Findings) where
  pub bytes_length : (index own location : ℕ) (does_move is_byte : Bool) (t : Target)
      → length (bytes_moved distance parts near (text_position index own location does_move) is_byte t)
      ≡ length (stored_bytes near index own location is_byte t)
  bytes_length index own location does_move is_byte target.ProgramLimits = refl
  bytes_length index own location does_move is_byte (target.LocationCounterDefinition name constant) = refl
  bytes_length index own location does_move is_byte (target.LocationCounterModification constant) = refl
  bytes_length index own location does_move is_byte (target.Internal constant) = stored_length is_byte _ _
  bytes_length index own location does_move is_byte (target.Global name) = stored_length is_byte _ _
  bytes_length index own location does_move is_byte (target.InternalDisplaced constant) = stored_length is_byte _ _
  bytes_length index own location does_move is_byte (target.GlobalDisplaced name) = stored_length is_byte _ _
  bytes_length index own location does_move is_byte (target.GlobalAdditive name constant) = stored_length is_byte _ _
  bytes_length index own location does_move is_byte (target.GlobalAdditiveDisplaced name constant) =
      stored_length is_byte _ _
  bytes_length index own location does_move is_byte (target.Section name) = stored_length is_byte _ _
  bytes_length index own location does_move is_byte (target.SectionDisplaced name) = stored_length is_byte _ _
  bytes_length index own location does_move is_byte (target.SectionAdditive name constant) = stored_length is_byte _ _
  bytes_length index own location does_move is_byte (target.SectionAdditiveDisplaced name constant) =
      stored_length is_byte _ _

  -- texts with the same number of bytes still have the same number after a relocation

  pub relocation_length : (does_move : Bool) (text : PlacedText) (bytes : List ℕ) (relocation : Relocation)
      → length text.bytes ≡ length bytes
      → length (relocation_moved distance parts near does_move text relocation).bytes
      ≡ length (with_relocation near (record text { bytes = bytes }) relocation).bytes
  relocation_length does_move text bytes relocation e =
      let index = relocation.displacement - 4 in
      let location = modulo (text.address + index) in
      let far = bytes_moved distance parts near (text_position text.module_index text.base location does_move) relocation.is_byte
      relocation.target in
      let here = stored_bytes near text.module_index text.base location relocation.is_byte relocation.target in
      ap (λ count. length (if lies_within relocation count then replaced text.bytes index far else text.bytes)) e
      ∙ if_length (lies_within relocation (length bytes)) text.bytes bytes
      (replaced text.bytes index far) (replaced bytes index here) e
      (replaced_length text.bytes bytes far here index e
      (bytes_length text.module_index text.base location does_move relocation.is_byte relocation.target))

  pub relocations_length : (does_move : Bool) (text : PlacedText) (bytes : List ℕ) (relocations : List Relocation)
      → length text.bytes ≡ length bytes
      → length (relocations_moved distance parts near does_move text relocations).bytes
      ≡ length (with_relocations near (record text { bytes = bytes }) relocations).bytes
  relocations_length does_move text bytes [] e = e
  relocations_length does_move text bytes (relocation ∷ relocations) e =
      relocations_length does_move (relocation_moved distance parts near does_move text relocation)
      (with_relocation near (record text { bytes = bytes }) relocation).bytes relocations
      (relocation_length does_move text bytes relocation e)

  -- ---- parts

  ended_shape : (b does_move : Bool) (text : PlacedText) (relocations : List Relocation)
      → map shape_of (if b then text_writes (text_moved distance does_move
      (relocations_moved distance parts near does_move text relocations)) else [])
      ≡ map shape_of (if b then text_writes (with_relocations near text relocations) else [])
  ended_shape true does_move text relocations =
      let far = text_moved distance does_move (relocations_moved distance parts near does_move text relocations) in
      let here = with_relocations near text relocations in
      block_shape far.address here.address far.bytes here.bytes
      (relocations_length does_move text text.bytes relocations refl)
  ended_shape false does_move text relocations = refl

  part_shape : (before : List Part) (part : Part) (following : List Part)
      → map shape_of (part_moved distance parts near before part following)
      ≡ map shape_of (writes_at near before part following)
  unfolding part_moved writes_at
  part_shape before (Text address bytes) following =
      let index = modules_in before in
      let section = current_section (this_module before) in
      ended_shape (has_ended following) (moves parts index section) (placed_text near index section address bytes)
      (relocations_after following)
  part_shape before (Entry entry) following = refl
  part_shape before Directory following = refl
  part_shape before EndOfDirectory following = refl
  part_shape before Relocations following = refl
  part_shape before (Relocated relocation) following = refl
  part_shape before EndOfModule following = refl
  part_shape before EndOfFile following = refl

  after_shape : (before others : List Part)
      → map shape_of (moved_after distance parts near before others)
      ≡ map shape_of (writes_after near before others)
  after_shape before [] = refl
  after_shape before (part ∷ others) =
      map-append shape_of (part_moved distance parts near before part others)
      (moved_after distance parts near (before ++ part ∷ []) others)
      ∙ ap₂ (λ first rest. first ++ rest) (part_shape before part others) (after_shape (before ++ part ∷ []) others)
      ∙ sym (map-append shape_of (writes_at near before part others)
      (writes_after near (before ++ part ∷ []) others))

shapes_are : (near : Findings) (others : List Part)
    → map shape_of (writes_after near [] others) ≡ map shape_of (parts_writes near others)
unfolding parts_writes
shapes_are near others = refl

pub shapes_stay : (bottom distance : ℕ) (parts others : List Part)
    → map shape_of (parts_writes (findings_of (bottom + distance) parts) others)
    ≡ map shape_of (parts_writes (findings_of bottom parts) others)
shapes_stay bottom distance parts others =
    ap (λ writes. map shape_of writes) (parts_move bottom distance parts others)
    ∙ after_shape distance parts (findings_of bottom parts) [] others
    ∙ shapes_are (findings_of bottom parts) others
