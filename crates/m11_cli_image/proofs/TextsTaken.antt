-- The texts made from pieces pass the rules of a link: each is in a known section and within it, and its relocations are inside the text.
use Rattle.std.proofs.Common.{◌≡◌, ◌∙◌, ℕ, ◌+◌, ◌<◌, ◌≤◌, ◌==◌, Bool, true, false, ◌&&◌, not, if◌then◌else◌, List, [], ◌∷◌, ◌++◌, append-nil, append_assoc, length, map, flat_map, Option, Some, None, refl, sym, ap, subst, arith}
use Rattle.std.specs.Prelude.{⊤, nat_le, nat_lt, option_map}
use Rattle.std.specs.List.{AllByRecursion}
use Rattle.std.specs.Option.{is_none, option_or, option_to_list, unwrap_or}
use Rattle.std.proofs.lemmas.Bool.Decides.{nat_tests}
use Rattle.std.proofs.lemmas.Bool.{ltb-true}
use Rattle.std.proofs.lemmas.List.Concat.{flat_map-append}
use Rattle.std.proofs.lemmas.List.{length-append}
use Rattle.indexmap.specs.IndexSet.{insert_key}
use Rattle.m11_base.specs.Rad50.{Name, is_same_name}
use Rattle.m11_base.specs.Names.{absolute_name}
use Rattle.m11_base.proofs.SameNames.{same_name_equal}
use Rattle.m11_link_modules.specs.declared.fault.ModuleFault.{ModuleFault}
use Rattle.m11_link_modules.specs.declared.fault.ModuleFault.TheVariants.{BadDisplacement, TextOutside}
use Rattle.m11_link_modules.specs.declared.stage.Stage.TheVariants.{Between, InBody}
use Rattle.m11_link_modules.specs.Parts.{Part, Text, Relocations, Relocated, EndOfModule, parts_of}
use Rattle.m11_link_modules.specs.Positions.{size_known}
use Rattle.m11_link_modules.specs.Rules.{fault_known, first_there, lies_within, relocation_by, text_fault, width_of}
use Rattle.m11_link_modules.specs.Steps.{first_known_fault, known_after, with_target}
use Rattle.m11_obj.specs.declared.pieces.Piece.{Piece}
use Rattle.m11_obj.specs.declared.pieces.PieceContent.{PieceContent}
use Rattle.m11_obj.specs.declared.pieces.PieceContent.TheVariants.{Byte, Word, Limits}
use Rattle.m11_obj.specs.declared.pieces.RelocationKind.{RelocationKind}
use Rattle.m11_obj.specs.declared.pieces.RelocationKind.TheVariants as kind
use Rattle.m11_obj.specs.declared.relocations.Relocation.{Relocation}
use Rattle.m11_obj.specs.declared.relocations.Target.{Target}
use Rattle.m11_obj.specs.declared.relocations.Target.TheVariants as target
use Rattle.m11_obj.specs.Fronts.{joined}
use Rattle.m11_obj.specs.Pieces.{content_bytes, last_location, relocation, relocation_at, relocations_from, relocations_of, size_of, target_of, text_bytes}
use Rattle.m11_obj.specs.Records.{Content}
use Rattle.m11_obj.specs.Records as records
use Rattle.m11_obj.specs.Texts.{are_contiguous, follows, is_in_section, records_of, relocation_records, selection, text_of, texts_after}
use Rattle.m11_cli_image.proofs.DirectoryTaken.{Entered, Fine, fine_or, global_fine, named_section, state}

-- ---- pieces in known sections

abbrev pub Named : Entered → Name → Type 0
Named entered name = is_none (size_known entered name) ≡ false

-- a value that a linker stores names only known sections
abbrev pub KindNamed : Entered → RelocationKind → Type 0
KindNamed entered (kind.Section name) = Named entered name
KindNamed entered (kind.SectionDisplaced name) = Named entered name
KindNamed entered other = ⊤

abbrev pub ContentNamed : Entered → PieceContent → Type 0
ContentNamed entered (Byte stored) = KindNamed entered stored.kind
ContentNamed entered (Word stored) = KindNamed entered stored.kind
ContentNamed entered Limits = ⊤

abbrev pub size_in : Entered → Name → ℕ
size_in entered section = unwrap_or (size_known entered section) 0

-- a piece names only known sections, and is within its own section unless `fills` allows a piece at the last location
pub record Stands (entered : Entered) (fills : Bool) (piece : Piece) : Type 0 where
  pub section : Named entered piece.section
  pub content : ContentNamed entered piece.content
  pub low : fills ≡ false → piece.location + size_of piece < 65536
  pub within : fills ≡ false → piece.location + size_of piece ≤ size_in entered piece.section

-- ---- pieces one after another end within their section

some_bytes : (content : PieceContent) → 0 < length (content_bytes content)
some_bytes (Byte stored) = omega arith
some_bytes (Word stored) = omega arith
some_bytes Limits = omega arith

both : (b c : Bool) → (b && c) ≡ true → (b ≡ true) × (c ≡ true)
both true c e = (refl, e)
both false c e = absurd cc

same_number : (a b : ℕ) → (a == b) ≡ true → a ≡ b
same_number a b e = grind (arith, nat_tests)

module _ (entered : Entered) (fills : Bool) (none : fills ≡ false) where
  ends_within : (first : Piece) (rest : List Piece) → are_contiguous first rest ≡ true
      → AllByRecursion (Stands entered fills) (first ∷ rest)
      → first.location + length (text_bytes (first ∷ rest)) ≤ size_in entered first.section
  ends_within first [] e stand =
      let here = stand.0.within none in
      let size = length-append (content_bytes first.content) [] in
      omega (arith, here, size)
  ends_within first (next ∷ rest) e stand =
      let split = both (follows first next) (are_contiguous next rest) e in
      let here = both (is_same_name next.section first.section) (next.location == last_location first + 1) split.0 in
      let size = length-append (content_bytes first.content) (text_bytes (next ∷ rest)) in
      let some = some_bytes first.content in
      let small = stand.0.low none in
      let same = same_number next.location (last_location first + 1) here.1 in
      let location : next.location ≡ first.location + size_of first = omega (arith, same, some, small) in
      let P : Name → Type 0 = λ section. next.location + length (text_bytes (next ∷ rest)) ≤ size_in entered section in
      let more = subst P (same_name_equal next.section first.section here.0) (ends_within next rest split.1 stand.1) in
      omega (arith, more, location, size)

-- ---- relocations are inside their text

-- a relocation with this target stores a value, and names only known sections
abbrev pub TargetNamed : Entered → Target → Type 0
TargetNamed entered (target.Section name) = Named entered name
TargetNamed entered (target.SectionDisplaced name) = Named entered name
TargetNamed entered (target.SectionAdditive name constant) = Named entered name
TargetNamed entered (target.SectionAdditiveDisplaced name constant) = Named entered name
TargetNamed entered (target.LocationCounterDefinition name constant) = ⊥
TargetNamed entered (target.LocationCounterModification constant) = ⊥
TargetNamed entered other = ⊤

pub record IsInText (entered : Entered) (count : ℕ) (one : Relocation) : Type 0 where
  pub lies : lies_within one count ≡ true
  pub named : TargetNamed entered one.target

within_text : (displacement width count : ℕ) → 4 ≤ displacement → displacement + width ≤ 4 + count
    → (nat_le 4 displacement && nat_le (displacement + width) (4 + count)) ≡ true
within_text displacement width count h k = grind (arith, nat_tests)

module _ (entered : Entered) (fills : Bool) (count : ℕ) where
  abbrev In : Relocation → Type 0
  In one = IsInText entered count one

  abbrev IsPlain : Target → Type 0
  IsPlain target.ProgramLimits = ⊥
  IsPlain other = ⊤

  plain_width : (is_byte : Bool) (to : Target) → IsPlain to → width_of is_byte to ≡ (if is_byte then 1 else 2)
  plain_width true target.ProgramLimits plain = absurd plain
  plain_width false target.ProgramLimits plain = absurd plain
  plain_width true other plain = refl
  plain_width false other plain = refl

  either_in : (b : Bool) (is_byte : Bool) (displacement : ℕ) (one other : Target) → In (relocation is_byte displacement one)
      → In (relocation is_byte displacement other) → In (relocation is_byte displacement (if b then one else other))
  either_in true is_byte displacement one other h k = h
  either_in false is_byte displacement one other h k = k

  module _ (is_byte : Bool) (displacement : ℕ) (least : 4 ≤ displacement)
      (fits : displacement + (if is_byte then 1 else 2) ≤ 4 + count) where
    one_in : (to : Target) → IsPlain to → TargetNamed entered to → In (relocation is_byte displacement to)
    one_in to plain named = record {
      lies = ap (λ (width : ℕ). nat_le 4 displacement && nat_le (displacement + width) (4 + count)) (plain_width is_byte to plain)
          ∙ within_text displacement (if is_byte then 1 else 2) count least fits;
      named = named;
    }

    -- the relocation of a constant, if it has one, is inside the text; its target isn't a pair of limits
    stored_in : (constant : ℕ) (how : RelocationKind) → KindNamed entered how
        → AllByRecursion In (option_to_list (option_map (λ found. relocation is_byte displacement found) (target_of how constant)))
    stored_in constant kind.Fixed named = tt
    stored_in constant kind.Internal named = (one_in (target.Internal constant) tt tt, tt)
    stored_in constant kind.InternalDisplaced named = (one_in (target.InternalDisplaced constant) tt tt, tt)
    stored_in constant (kind.Global name) named = (
      either_in (constant == 0) is_byte displacement
          (target.Global name) (target.GlobalAdditive name constant) (one_in (target.Global name) tt tt)
          (one_in (target.GlobalAdditive name constant) tt tt),
      tt,
    )
    stored_in constant (kind.GlobalDisplaced name) named = (
      either_in (constant == 0) is_byte displacement
          (target.GlobalDisplaced name) (target.GlobalAdditiveDisplaced name constant) (one_in (target.GlobalDisplaced name) tt tt)
          (one_in (target.GlobalAdditiveDisplaced name constant) tt tt),
      tt,
    )
    stored_in constant (kind.Section name) named = (
      either_in (constant == 0) is_byte displacement
          (target.Section name) (target.SectionAdditive name constant) (one_in (target.Section name) tt named)
          (one_in (target.SectionAdditive name constant) tt named),
      tt,
    )
    stored_in constant (kind.SectionDisplaced name) named = (
      either_in (constant == 0) is_byte displacement
          (target.SectionDisplaced name) (target.SectionAdditiveDisplaced name constant) (one_in (target.SectionDisplaced name) tt named)
          (one_in (target.SectionAdditiveDisplaced name constant) tt named),
      tt,
    )

  content_in : (displacement : ℕ) (content : PieceContent) → 4 ≤ displacement
      → displacement + length (content_bytes content) ≤ 4 + count → ContentNamed entered content
      → AllByRecursion In (option_to_list (relocation_at displacement content))
  content_in displacement (Byte stored) least fits named = stored_in true displacement least fits stored.constant stored.kind named
  content_in displacement (Word stored) least fits named =
      stored_in false displacement least (omega (arith, fits)) stored.constant stored.kind named
  content_in displacement Limits least fits named =
      (record { lies = within_text displacement 4 count least fits; named = tt }, tt)

  pub both_all : {X : Type 0} (P : X → Type 0) (xs ys : List X) → AllByRecursion P xs → AllByRecursion P ys → AllByRecursion P (xs ++ ys)
  both_all P [] ys h k = k
  both_all P (x ∷ xs) ys h k = (h.0, both_all P xs ys h.1 k)

  relocations_in : (displacement : ℕ) (pieces : List Piece) → 4 ≤ displacement
      → displacement + length (text_bytes pieces) ≤ 4 + count → AllByRecursion (Stands entered fills) pieces
      → AllByRecursion In (relocations_from displacement pieces)
  relocations_in displacement [] least fits stand = tt
  relocations_in displacement (piece ∷ pieces) least fits stand =
      let size = length-append (content_bytes piece.content) (text_bytes pieces) in
      both_all In (option_to_list (relocation_at displacement piece.content)) (relocations_from (displacement + size_of piece) pieces)
      (content_in displacement piece.content least (omega (arith, fits, size)) stand.0.content)
      (relocations_in (displacement + size_of piece) pieces (omega (arith, least)) (omega (arith, fits, size)) stand.1)

-- ---- lists in two parts

split_all : {X : Type 0} (P : X → Type 0) (xs ys : List X) → AllByRecursion P (xs ++ ys) → AllByRecursion P xs × AllByRecursion P ys
split_all P [] ys h = (tt, h)
split_all P (x ∷ xs) ys h = let more = split_all P xs ys h.1 in ((h.0, more.0), more.1)

-- each of these pieces begins where the one before it ends
abbrev pub IsRun : List Piece → Type 0
IsRun [] = Unit {0}
IsRun (first ∷ rest) = are_contiguous first rest ≡ true

-- if a text came before, its section is the selected one
abbrev pub IsSelected : Option Name → Name → Type 0
IsSelected None section = ⊤
IsSelected (Some before) section = before ≡ section

-- ---- the records of a text

module _ (many outside : Type 0) (modules : ℕ) (entered : Entered) (fills : Bool) (hit : fills ≡ true → outside) where
  abbrev Sound : Option ModuleFault → Type 0
  Sound fault = Fine many outside fault

  -- after this section was selected and a text of this length was read, or none, these parts have no fault but a limit, whatever names come
  -- before
  abbrev pub GoesIn : Name → Option ℕ → List Part → Type 0
  GoesIn section text parts = (sections globals : List Name)
      → Sound (first_known_fault (state InBody modules sections globals entered section text) parts)

  located : (b : Bool) (rest : Option ModuleFault) → b ≡ true → Sound rest
      → Sound (option_or (first_there ((not b, BadDisplacement) ∷ [])) rest)
  located true rest e h = h
  located false rest e h = absurd cc

  stored_goes : (section : Name) (count : ℕ) (to : Target) (one : Relocation) (parts : List Part) → lies_within one count ≡ true
      → TargetNamed entered to → GoesIn section (Some count) parts → (sections globals : List Name)
      → Sound (option_or (relocation_by to one entered (Some count) globals)
      (first_known_fault (with_target to (state InBody modules sections globals entered section (Some count))) parts))
  stored_goes section count (target.Internal constant) one parts lies named h sections globals =
      fine_or many outside _ _ (located (lies_within one count) _ lies tt) (h sections globals)
  stored_goes section count (target.InternalDisplaced constant) one parts lies named h sections globals =
      fine_or many outside _ _ (located (lies_within one count) _ lies tt) (h sections globals)
  stored_goes section count target.ProgramLimits one parts lies named h sections globals =
      fine_or many outside _ _ (located (lies_within one count) _ lies tt) (h sections globals)
  stored_goes section count (target.Global name) one parts lies named h sections globals =
      fine_or many outside _ _ (located (lies_within one count) _ lies (global_fine many outside globals name))
      (h sections (insert_key is_same_name globals name))
  stored_goes section count (target.GlobalDisplaced name) one parts lies named h sections globals =
      fine_or many outside _ _ (located (lies_within one count) _ lies (global_fine many outside globals name))
      (h sections (insert_key is_same_name globals name))
  stored_goes section count (target.GlobalAdditive name constant) one parts lies named h sections globals =
      fine_or many outside _ _ (located (lies_within one count) _ lies (global_fine many outside globals name))
      (h sections (insert_key is_same_name globals name))
  stored_goes section count (target.GlobalAdditiveDisplaced name constant) one parts lies named h sections globals =
      fine_or many outside _ _ (located (lies_within one count) _ lies (global_fine many outside globals name))
      (h sections (insert_key is_same_name globals name))
  stored_goes section count (target.Section name) one parts lies named h sections globals =
      fine_or many outside _ _ (located (lies_within one count) _ lies (named_section many outside (size_known entered name) named))
      (h sections globals)
  stored_goes section count (target.SectionDisplaced name) one parts lies named h sections globals =
      fine_or many outside _ _ (located (lies_within one count) _ lies (named_section many outside (size_known entered name) named))
      (h sections globals)
  stored_goes section count (target.SectionAdditive name constant) one parts lies named h sections globals =
      fine_or many outside _ _ (located (lies_within one count) _ lies (named_section many outside (size_known entered name) named))
      (h sections globals)
  stored_goes section count (target.SectionAdditiveDisplaced name constant) one parts lies named h sections globals =
      fine_or many outside _ _ (located (lies_within one count) _ lies (named_section many outside (size_known entered name) named))
      (h sections globals)
  stored_goes section count (target.LocationCounterDefinition name constant) one parts lies named h sections globals = absurd named
  stored_goes section count (target.LocationCounterModification constant) one parts lies named h sections globals = absurd named

  relocations_go : (section : Name) (count : ℕ) (relocations : List Relocation) (parts : List Part)
      → AllByRecursion (IsInText entered count) relocations → GoesIn section (Some count) parts
      → GoesIn section (Some count) (map (λ one. Relocated one) relocations ++ parts)
  unfolding fault_known known_after
  relocations_go section count [] parts lie h = h
  relocations_go section count (one ∷ relocations) parts lie h =
      stored_goes section count one.target one (map (λ one. Relocated one) relocations ++ parts) lie.0.lies lie.0.named
      (relocations_go section count relocations parts lie.1 h)

  -- if relocations are inside a text, and the parts after them have no fault but a limit, then their record with these parts has no other
  -- fault either
  record_goes : (section : Name) (count : ℕ) (relocations : List Relocation) (parts : List Part)
      → AllByRecursion (IsInText entered count) relocations → GoesIn section (Some count) parts
      → GoesIn section (Some count) (flat_map parts_of (relocation_records relocations) ++ parts)
  unfolding fault_known known_after
  record_goes section count [] parts lie h = h
  record_goes section count (one ∷ relocations) parts lie h =
      let own : List Part = map (λ one. Relocated one) (one ∷ relocations) in
      let P : List Part → Type 0 = λ these. GoesIn section (Some count) (Relocations ∷ (these ++ parts)) in
      subst P (sym (append-nil own)) (λ sections globals. relocations_go section count (one ∷ relocations) parts lie h sections globals)

  outside_fine : (b : Bool) → (b ≡ true → outside) → Sound (first_there ((b, TextOutside) ∷ []))
  outside_fine true h = h refl
  outside_fine false h = tt

  not_outside : (size n : ℕ) → n ≤ size → nat_lt size n ≡ true → outside
  not_outside size n le e = absurd (omega (arith, ltb-true size n e))

  text_fine : (first : Piece) (rest : List Piece) (b : Bool) → fills ≡ b → are_contiguous first rest ≡ true
      → AllByRecursion (Stands entered fills) (first ∷ rest)
      → Sound (text_fault (size_in entered first.section) first.location (length (text_bytes (first ∷ rest))))
  text_fine first rest true e run stand = outside_fine _ (λ past. hit e)
  text_fine first rest false e run stand =
      outside_fine _ (not_outside (size_in entered first.section) (first.location + length (text_bytes (first ∷ rest)))
      (ends_within entered fills e first rest run stand))

  module _ (first : Piece) (rest : List Piece) (run : are_contiguous first rest ≡ true)
      (stand : AllByRecursion (Stands entered fills) (first ∷ rest)) where
    abbrev bytes : List ℕ
    bytes = text_bytes (first ∷ rest)

    abbrev following : List Part → List Part
    following parts = Text first.location bytes ∷ (flat_map parts_of (relocation_records (relocations_of (first ∷ rest))) ++ parts)

    data_goes : (text : Option ℕ) (parts : List Part) → GoesIn first.section (Some (length bytes)) parts
        → GoesIn first.section text (following parts)
    unfolding fault_known known_after
    data_goes text parts h sections globals =
        fine_or many outside _ _ (text_fine first rest fills refl run stand)
        (record_goes first.section (length bytes) (relocations_of (first ∷ rest)) parts
        (relocations_in entered fills (length bytes) 4 (first ∷ rest) (omega arith) (omega arith) stand) h sections globals)

    selected_goes : (section : Name) (text : Option ℕ) (parts : List Part) → GoesIn first.section text parts
        → GoesIn section text (parts_of (selection first.section first.location) ++ parts)
    unfolding fault_known known_after
    selected_goes section text parts h sections globals =
        fine_or many outside _ _ (named_section many outside (size_known entered first.section) stand.0.section) (h sections globals)

    same_section : (before : Option Name) (section : Name) → is_in_section before first.section ≡ true → IsSelected before section
        → first.section ≡ section
    same_section None section e h = absurd cc
    same_section (Some before) section e h = sym (same_name_equal before first.section e) ∙ h

    text_goes : (before : Option Name) (section : Name) (text : Option ℕ) (parts : List Part) (b : Bool)
        → is_in_section before first.section ≡ b → IsSelected before section → GoesIn first.section (Some (length bytes)) parts
        → GoesIn section text (flat_map parts_of ((if b then [] else selection first.section first.location ∷ [])
        ++ records.Text first.location bytes ∷ relocation_records (relocations_of (first ∷ rest))) ++ parts)
    text_goes before section text parts true e is h =
        let P : Name → Type 0 = λ chosen. GoesIn chosen text (following parts) in
        subst P (same_section before section e is) (data_goes text parts h)
    text_goes before section text parts false e is h = selected_goes section text (following parts) (data_goes text parts h)

  -- ---- all texts, and the end of the module

  -- these parts have no fault but a limit, whatever section is selected and whatever text was read before them
  abbrev pub GoesAfter : List Part → Type 0
  GoesAfter parts = (section : Name) (text : Option ℕ) → GoesIn section text parts

  parts_then : (some more : List Content) (parts : List Part)
      → flat_map parts_of (some ++ more) ++ parts ≡ flat_map parts_of some ++ (flat_map parts_of more ++ parts)
  parts_then some more parts =
      ap (λ (these : List Part). these ++ parts) (flat_map-append parts_of some more)
      ∙ append_assoc (flat_map parts_of some) (flat_map parts_of more) parts

  pub texts_go : (before : Option Name) (fronts : List (List Piece)) (section : Name) (text : Option ℕ) (parts : List Part)
      → AllByRecursion IsRun fronts → AllByRecursion (Stands entered fills) (joined fronts) → IsSelected before section
      → GoesAfter parts
      → GoesIn section text (flat_map parts_of (flat_map records_of (texts_after before fronts)) ++ parts)
  texts_go before [] section text parts run stand is h = h section text
  texts_go before ([] ∷ fronts) section text parts run stand is h = texts_go before fronts section text parts run.1 stand is h
  texts_go before ((first ∷ rest) ∷ fronts) section text parts run stand is h =
      let own = records_of (text_of before first rest) in
      let more = flat_map records_of (texts_after (Some first.section) fronts) in
      let P : List Part → Type 0 = λ these. GoesIn section text these in
      let stands = split_all (Stands entered fills) (first ∷ rest) (joined fronts) stand in
      subst P (sym (parts_then own more parts))
      (text_goes first rest run.0 stands.0 before section text
      (flat_map parts_of more ++ parts) (is_in_section before first.section) refl is
      (texts_go (Some first.section) fronts first.section (Some (length (text_bytes (first ∷ rest)))) parts run.1 stands.1
      refl h))

  pub module_ends : (parts : List Part)
      → ((sections globals : List Name)
      → Sound (first_known_fault (state Between (modules + 1) sections globals [] absolute_name None) parts))
      → GoesAfter (EndOfModule ∷ parts)
  unfolding fault_known known_after
  module_ends parts h section text sections globals = h sections globals
