-- The law of reading: texts are read as they were cut.
use Rattle.std.proofs.Common.{◌≡◌, ℕ, ◌+◌, Bool, true, false, cond, List, [], ◌∷◌, ◌++◌, map, filter, Option, Some, None, option_map, refl, sym, ap, ◌∙◌}
use Rattle.std.specs.Prelude.{◌&&◌, ◌==◌, ⊤}
use Rattle.std.specs.List.{flat_map, list_all}
use Rattle.std.specs.Option.{option_to_list}
use Rattle.std.proofs.lemmas.List.{append-nil}
use Rattle.std.proofs.lemmas.List.Folds.{list_all-append}
use Rattle.m11_base.specs.Names.{absolute_name}
use Rattle.m11_base.proofs.SameNames.{same_name_equal}
use Rattle.m11_obj.specs.declared.relocations.Relocation.{Relocation}
use Rattle.m11_obj.specs.declared.relocations.Target.{Target}
use Rattle.m11_obj.specs.declared.relocations.Target.TheVariants.{Internal, Global, InternalDisplaced, GlobalDisplaced, GlobalAdditive, GlobalAdditiveDisplaced, LocationCounterDefinition, LocationCounterModification, ProgramLimits, Section, SectionDisplaced, SectionAdditive, SectionAdditiveDisplaced}
use Rattle.m11_obj.specs.Records.{Content, Text}
use Rattle.m11_obj.specs.declared.pieces.Piece.{Piece}
use Rattle.m11_obj.specs.declared.pieces.PieceContent.{PieceContent}
use Rattle.m11_obj.specs.declared.pieces.PieceContent.TheVariants.{Byte, Word, Limits}
use Rattle.m11_obj.specs.declared.pieces.RelocationKind.{RelocationKind}
use Rattle.m11_obj.specs.declared.pieces.RelocationKind.TheVariants as kind
use Rattle.m11_obj.specs.Pieces.{relocation, relocation_at, relocations_from, size_of, target_of}
use Rattle.m11_obj.specs.TextsRead.{AreReadAgain, ReadText, as_read, is_stored, relocations_after, section_after, selected, stores, texts_read}
use Rattle.m11_obj.specs.Texts.{cutting, is_in_section, records_of, relocation_records, selection, text_of, texts_after}
use Rattle.m11_obj.proofs.TextCuts.{left_of, right_of}

-- ---- relocations of pieces store something, and select nothing

stores_one : (b : Bool) (x y : Target) → stores x ≡ true → stores y ≡ true → stores (cond b x y) ≡ true
stores_one true x y e f = e
stores_one false x y e f = f

stores_target : (k : RelocationKind) (constant : ℕ) (is_byte : Bool) (displacement : ℕ)
    → list_all is_stored (option_to_list (option_map (λ t. relocation is_byte displacement t) (target_of k constant)))
    ≡ true
stores_target kind.Fixed constant is_byte displacement = refl
stores_target kind.Internal constant is_byte displacement = refl
stores_target kind.InternalDisplaced constant is_byte displacement = refl
stores_target (kind.Global name) constant is_byte displacement = ap (λ (b : Bool). b && true)
    (stores_one (constant == 0) (Global name) (GlobalAdditive name constant) refl refl)
stores_target (kind.GlobalDisplaced name) constant is_byte displacement = ap (λ (b : Bool). b && true)
    (stores_one (constant == 0) (GlobalDisplaced name) (GlobalAdditiveDisplaced name constant) refl refl)
stores_target (kind.Section name) constant is_byte displacement = ap (λ (b : Bool). b && true)
    (stores_one (constant == 0) (Section name) (SectionAdditive name constant) refl refl)
stores_target (kind.SectionDisplaced name) constant is_byte displacement = ap (λ (b : Bool). b && true)
    (stores_one (constant == 0) (SectionDisplaced name) (SectionAdditiveDisplaced name constant) refl refl)

stores_content : (displacement : ℕ) (content : PieceContent)
    → list_all is_stored (option_to_list (relocation_at displacement content)) ≡ true
stores_content displacement (Byte stored) = stores_target stored.kind stored.constant true displacement
stores_content displacement (Word stored) = stores_target stored.kind stored.constant false displacement
stores_content displacement Limits = refl

both_of : (a b : Bool) → a ≡ true → b ≡ true → (a && b) ≡ true
both_of a b e f = ap (λ (t : Bool). t && b) e ∙ f

stores_pieces : (displacement : ℕ) (pieces : List Piece)
    → list_all is_stored (relocations_from displacement pieces) ≡ true
stores_pieces displacement [] = refl
stores_pieces displacement (piece ∷ pieces) =
    list_all-append is_stored (option_to_list (relocation_at displacement piece.content))
    (relocations_from (displacement + size_of piece) pieces)
    ∙ both_of _ _ (stores_content displacement piece.content) (stores_pieces (displacement + size_of piece) pieces)

filter-all : (relocations : List Relocation) → list_all is_stored relocations ≡ true
    → filter is_stored relocations ≡ relocations
filter-all [] e = refl
filter-all (r ∷ rs) e =
    ap (λ (b : Bool). cond b (r ∷ filter is_stored rs) (filter is_stored rs))
    (left_of (is_stored r) (list_all is_stored rs) e)
    ∙ ap (λ (t : List Relocation). r ∷ t) (filter-all rs (right_of (is_stored r) (list_all is_stored rs) e))

selects_none : (section : ℕ × ℕ) (target : Target) → stores target ≡ true → selected section target ≡ section
selects_none section (Internal constant) e = refl
selects_none section (Global name) e = refl
selects_none section (InternalDisplaced constant) e = refl
selects_none section (GlobalDisplaced name) e = refl
selects_none section (GlobalAdditive name constant) e = refl
selects_none section (GlobalAdditiveDisplaced name constant) e = refl
selects_none section (LocationCounterDefinition name constant) e = absurd (cc)
selects_none section (LocationCounterModification constant) e = refl
selects_none section ProgramLimits e = refl
selects_none section (Section name) e = refl
selects_none section (SectionDisplaced name) e = refl
selects_none section (SectionAdditive name constant) e = refl
selects_none section (SectionAdditiveDisplaced name constant) e = refl

section-kept : (section : ℕ × ℕ) (relocations : List Relocation) → list_all is_stored relocations ≡ true
    → section_after section relocations ≡ section
section-kept section [] e = refl
section-kept section (r ∷ rs) e =
    ap (λ (s : ℕ × ℕ). section_after s rs)
    (selects_none section r.target (left_of (is_stored r) (list_all is_stored rs) e))
    ∙ section-kept section rs (right_of (is_stored r) (list_all is_stored rs) e)

-- ---- one text

reads_text : (section : ℕ × ℕ) (location : ℕ) (bytes : List ℕ) (relocations : List Relocation) (more : List Content)
    → list_all is_stored relocations ≡ true → relocations_after more ≡ []
    → texts_read section (Text location bytes ∷ (relocation_records relocations ++ more))
    ≡ record { section = section; location = location; bytes = bytes; relocations = relocations } ∷ texts_read section more
reads_text section location bytes [] more e f = ap (λ (t : List Relocation).
    record { section = section; location = location; bytes = bytes; relocations = t } ∷ texts_read section more) f
reads_text section location bytes (r ∷ rs) more e f =
    ap (λ (t : List Relocation). record { section = section; location = location; bytes = bytes; relocations = t }
    ∷ texts_read (section_after section (r ∷ rs)) more)
    (ap (λ (t : List Relocation). filter is_stored (r ∷ rs) ++ t) f ∙ append-nil (filter is_stored (r ∷ rs))
    ∙ filter-all (r ∷ rs) e)
    ∙ ap (λ (s : ℕ × ℕ). record { section = section; location = location; bytes = bytes; relocations = r ∷ rs }
    ∷ texts_read s more) (section-kept section (r ∷ rs) e)

-- ---- all texts

begins_anew : (b : Bool) (section : ℕ × ℕ) (location : ℕ) (bytes : List ℕ) (others more : List Content)
    → relocations_after ((cond b [] (selection section location ∷ []) ++ Text location bytes ∷ others) ++ more) ≡ []
begins_anew true section location bytes others more = refl
begins_anew false section location bytes others more = refl

no_relocations : (before : Option (ℕ × ℕ)) (fronts : List (List Piece))
    → relocations_after (flat_map records_of (texts_after before fronts)) ≡ []
no_relocations before [] = refl
no_relocations before ([] ∷ fronts) = no_relocations before fronts
no_relocations before ((first ∷ rest) ∷ fronts) =
    let text = text_of before first rest in
    begins_anew (is_in_section before first.section) first.section first.location text.bytes
    (relocation_records text.relocations) (flat_map records_of (texts_after (Some first.section) fronts))

abbrev Agrees : Option (ℕ × ℕ) → ℕ × ℕ → Type 0
Agrees None section = ⊤
Agrees (Some before) section = before ≡ section

in_section : (before : Option (ℕ × ℕ)) (section own : ℕ × ℕ) → is_in_section before own ≡ true → Agrees before section
    → section ≡ own
in_section None section own e h = absurd (cc)
in_section (Some before) section own e h = sym h ∙ same_name_equal before own e

reads_one : (b : Bool) (section own : ℕ × ℕ) (location : ℕ) (bytes : List ℕ) (relocations : List Relocation)
    (more : List Content) → (b ≡ true → section ≡ own) → list_all is_stored relocations ≡ true
    → relocations_after more ≡ []
    → texts_read section ((cond b [] (selection own location ∷ []) ++ Text location bytes ∷ relocation_records relocations)
    ++ more)
    ≡ record { section = own; location = location; bytes = bytes; relocations = relocations } ∷ texts_read own more
reads_one true section own location bytes relocations more same e f =
    reads_text section location bytes relocations more e f
    ∙ ap (λ (s : ℕ × ℕ). record { section = s; location = location; bytes = bytes; relocations = relocations }
    ∷ texts_read s more) (same refl)
reads_one false section own location bytes relocations more same e f = reads_text own location bytes relocations more e f

reads : (section : ℕ × ℕ) (before : Option (ℕ × ℕ)) → Agrees before section → (fronts : List (List Piece))
    → texts_read section (flat_map records_of (texts_after before fronts)) ≡ map as_read (texts_after before fronts)
reads section before h [] = refl
reads section before h ([] ∷ fronts) = reads section before h fronts
reads section before h ((first ∷ rest) ∷ fronts) =
    let text = text_of before first rest in
    reads_one (is_in_section before first.section) section first.section first.location text.bytes text.relocations
    (flat_map records_of (texts_after (Some first.section) fronts))
    (λ e. in_section before section first.section e h) (stores_pieces 4 (first ∷ rest))
    (no_relocations (Some first.section) fronts)
    ∙ ap (λ (t : List ReadText). as_read text ∷ t) (reads first.section (Some first.section) refl fronts)

pub are_read_again : (pieces : List Piece) → AreReadAgain pieces
are_read_again pieces = reads absolute_name None tt (cutting pieces)
