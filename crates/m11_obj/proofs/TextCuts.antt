-- Pieces cut into texts, one piece after another.
use Rattle.std.proofs.Common.{◌≡◌, ℕ, ◌+◌, ◌≤◌, leb, Bool, true, false, List, [], ◌∷◌, ◌++◌, length, Option, Some, None, option_map, refl, sym, ap, ◌∙◌, append_assoc, arith}
use Rattle.std.specs.Prelude.{◌&&◌, ◌==◌}
use Rattle.std.specs.List.{flat_map}
use Rattle.std.specs.Option.{option_to_list}
use Rattle.std.proofs.lemmas.Bool.{false≢true, le-leb, leb-true}
use Rattle.std.proofs.lemmas.List.{append-nil, length-append}
use Rattle.std.proofs.lemmas.Grind.{flat_map-append}
use Rattle.std.proofs.Math.Bool.{and-true}
use Rattle.m11_base.specs.Rad50.{is_same_name}
use Rattle.m11_base.proofs.SameNames.{same_name_equal}
use Rattle.m11_obj.specs.declared.relocations.Relocation.{Relocation}
use Rattle.m11_obj.specs.declared.relocations.Target.{Target}
use Rattle.m11_obj.specs.declared.relocations.Target.TheVariants.{Internal, Global, InternalDisplaced, GlobalDisplaced, GlobalAdditive, GlobalAdditiveDisplaced, LocationCounterDefinition, LocationCounterModification, ProgramLimits, Section, SectionDisplaced, SectionAdditive, SectionAdditiveDisplaced}
use Rattle.m11_obj.specs.Records.{Content}
use Rattle.m11_obj.specs.Relocations.{relocations_bytes, relocation_bytes}
use Rattle.m11_obj.specs.declared.pieces.Piece.{Piece}
use Rattle.m11_obj.specs.declared.pieces.PieceContent.{PieceContent}
use Rattle.m11_obj.specs.declared.pieces.PieceContent.TheVariants.{Byte, Word, Limits}
use Rattle.m11_obj.specs.Fronts.{fronts_of}
use Rattle.m11_obj.specs.Pieces.{target_of, relocation, content_bytes, size_of, last_location, relocation_at, text_bytes, relocations_from, relocations_of}
use Rattle.m11_obj.specs.Texts.{TextParts, follows, are_contiguous, is_one_text, cutting, location_after, text_of, texts_after, records_of, text_records}
use Rattle.m11_obj.specs.OpenText.{relocations_in, has_room_for, with_piece, last_section, IsOpenText, records_in}
use Rattle.m11_obj.proofs.Cutting.{first_front, the_last_passes, fronts-grown, fronts-opened}

-- ---- bytes and relocations of pieces, one list of them after another

pub text_bytes-append : (xs ys : List Piece) → text_bytes (xs ++ ys) ≡ text_bytes xs ++ text_bytes ys
text_bytes-append xs ys = flat_map-append (λ (piece : Piece). content_bytes piece.content) xs ys

pub relocations-append : (displacement : ℕ) (xs ys : List Piece)
    → relocations_from displacement (xs ++ ys)
    ≡ relocations_from displacement xs ++ relocations_from (displacement + length (text_bytes xs)) ys
relocations-append displacement [] ys = ap (λ (n : ℕ). relocations_from n ys) (omega arith)
relocations-append displacement (x ∷ xs) ys =
    let these = option_to_list (relocation_at displacement x.content) in
    let next = displacement + size_of x in
    ap (λ (t : List Relocation). these ++ t) (relocations-append next xs ys)
    ∙ ap (λ (n : ℕ). these ++ (relocations_from next xs ++ relocations_from n ys))
    (omega (arith, length-append (content_bytes x.content) (text_bytes xs)))
    ∙ sym (append_assoc these (relocations_from next xs)
    (relocations_from (displacement + length (text_bytes (x ∷ xs))) ys))

relocations_bytes-append : (xs ys : List Relocation)
    → length (relocations_bytes (xs ++ ys)) ≡ length (relocations_bytes xs) + length (relocations_bytes ys)
relocations_bytes-append xs ys = ap length (flat_map-append relocation_bytes xs ys)
    ∙ length-append (relocations_bytes xs) (relocations_bytes ys)

-- ---- what one text can hold

pub left_of : (a b : Bool) → (a && b) ≡ true → a ≡ true
left_of true b e = refl
left_of false b e = e

pub right_of : (a b : Bool) → (a && b) ≡ true → b ≡ true
right_of true b e = e
right_of false b e = absurd (false≢true e)

both_of : (a b : Bool) → a ≡ true → b ≡ true → (a && b) ≡ true
both_of a b e f = ap (λ (t : Bool). t && b) e ∙ f

leb-fewer : (m n most : ℕ) → m ≤ n → leb n most ≡ true → leb m most ≡ true
leb-fewer m n most h e = le-leb m most (omega (arith, leb-true n most e))

contiguous-front : (first : Piece) (xs ys : List Piece) → are_contiguous first (xs ++ ys) ≡ true
    → are_contiguous first xs ≡ true
contiguous-front first [] ys e = refl
contiguous-front first (x ∷ xs) ys e = both_of (follows first x) (are_contiguous x xs)
    (left_of (follows first x) (are_contiguous x (xs ++ ys)) e)
    (contiguous-front x xs ys (right_of (follows first x) (are_contiguous x (xs ++ ys)) e))

fewer_bytes : (xs ys : List Piece) → length (text_bytes xs) ≤ length (text_bytes (xs ++ ys))
fewer_bytes xs ys =
    omega (arith, ap length (text_bytes-append xs ys), length-append (text_bytes xs) (text_bytes ys))

fewer_relocations : (xs ys : List Piece)
    → length (relocations_bytes (relocations_of xs)) ≤ length (relocations_bytes (relocations_of (xs ++ ys)))
fewer_relocations xs ys =
    let others = relocations_from (4 + length (text_bytes xs)) ys in
    omega (
      arith,
      ap (λ (t : List Relocation). length (relocations_bytes t)) (relocations-append 4 xs ys),
      relocations_bytes-append (relocations_of xs) others,
    )

pub nothing : is_one_text [] ≡ false
unfolding is_one_text
nothing = refl

pub beginning : (x : Piece) (xs ys : List Piece) → is_one_text ((x ∷ xs) ++ ys) ≡ true → is_one_text (x ∷ xs) ≡ true
unfolding is_one_text
beginning x xs ys e =
    let all = (x ∷ xs) ++ ys in
    let bytes : Bool = leb (length (text_bytes all)) 32 in
    let relocations : Bool = leb (length (relocations_bytes (relocations_of all))) 120 in
    let limits : (bytes && relocations) ≡ true = right_of (are_contiguous x (xs ++ ys)) (bytes && relocations) e in
    both_of (are_contiguous x xs) (leb (length (text_bytes (x ∷ xs))) 32
    && leb (length (relocations_bytes (relocations_of (x ∷ xs)))) 120)
    (contiguous-front x xs ys (left_of (are_contiguous x (xs ++ ys)) (bytes && relocations) e))
    (both_of (leb (length (text_bytes (x ∷ xs))) 32) (leb (length (relocations_bytes (relocations_of (x ∷ xs)))) 120)
    (leb-fewer _ _ 32 (fewer_bytes (x ∷ xs) ys) (left_of bytes relocations limits))
    (leb-fewer _ _ 120 (fewer_relocations (x ∷ xs) ys) (right_of bytes relocations limits)))

small_bytes : (content : PieceContent) → length (content_bytes content) ≤ 4
small_bytes (Byte stored) = omega arith
small_bytes (Word stored) = omega arith
small_bytes Limits = omega arith

small_target : (is_byte : Bool) (displacement : ℕ) (target : Target)
    → length (relocations_bytes (relocation is_byte displacement target ∷ [])) ≤ 8
small_target is_byte displacement (Internal constant) = omega arith
small_target is_byte displacement (Global name) = omega arith
small_target is_byte displacement (InternalDisplaced constant) = omega arith
small_target is_byte displacement (GlobalDisplaced name) = omega arith
small_target is_byte displacement (GlobalAdditive name constant) = omega arith
small_target is_byte displacement (GlobalAdditiveDisplaced name constant) = omega arith
small_target is_byte displacement (LocationCounterDefinition name constant) = omega arith
small_target is_byte displacement (LocationCounterModification constant) = omega arith
small_target is_byte displacement ProgramLimits = omega arith
small_target is_byte displacement (Section name) = omega arith
small_target is_byte displacement (SectionDisplaced name) = omega arith
small_target is_byte displacement (SectionAdditive name constant) = omega arith
small_target is_byte displacement (SectionAdditiveDisplaced name constant) = omega arith

small_option : (is_byte : Bool) (displacement : ℕ) (target : Option Target)
    → length (relocations_bytes (option_to_list (option_map (λ t. relocation is_byte displacement t) target))) ≤ 8
small_option is_byte displacement None = omega arith
small_option is_byte displacement (Some target) = small_target is_byte displacement target

small_relocation : (displacement : ℕ) (content : PieceContent)
    → length (relocations_bytes (option_to_list (relocation_at displacement content))) ≤ 8
small_relocation displacement (Byte stored) = small_option true displacement (target_of stored.kind stored.constant)
small_relocation displacement (Word stored) = small_option false displacement (target_of stored.kind stored.constant)
small_relocation displacement Limits = omega arith

pub alone : (x : Piece) → is_one_text (x ∷ []) ≡ true
unfolding is_one_text
alone x = both_of (leb (length (text_bytes (x ∷ []))) 32)
    (leb (length (relocations_bytes (relocations_of (x ∷ [])))) 120)
    (le-leb _ 32 (omega (arith, small_bytes x.content, ap length (append-nil (content_bytes x.content)))))
    (le-leb _ 120 (omega (
      arith,
      small_relocation 4 x.content,
      ap (λ (t : List Relocation). length (relocations_bytes t)) (append-nil (option_to_list (relocation_at 4 x.content))),
    )))

-- ---- one more piece

contiguous-push : (first : Piece) (rest : List Piece) (p : Piece) → are_contiguous first rest ≡ true
    → are_contiguous first (rest ++ p ∷ [])
    ≡ (is_same_name p.section first.section && (p.location == location_after first rest))
contiguous-push first [] p e = and-true (follows first p)
contiguous-push first (next ∷ rest) p e =
    let after : Bool = are_contiguous next rest in
    ap (λ (b : Bool). b && are_contiguous next (rest ++ p ∷ [])) (left_of (follows first next) after e)
    ∙ contiguous-push next rest p (right_of (follows first next) after e)
    ∙ ap (λ (section : ℕ × ℕ). is_same_name p.section section && (p.location == location_after next rest))
    (same_name_equal next.section first.section
    (left_of (is_same_name next.section first.section) (next.location == last_location first + 1)
    (left_of (follows first next) after e)))

takes_one : (before : Option (ℕ × ℕ)) (first : Piece) (rest : List Piece) (p : Piece)
    → is_one_text (first ∷ rest) ≡ true
    → is_one_text ((first ∷ rest) ++ p ∷ []) ≡ has_room_for (text_of before first rest) p
unfolding is_one_text
takes_one before first rest p e =
    let front = first ∷ rest in
    let text = text_of before first rest in
    let bytes : length (text_bytes (front ++ p ∷ [])) ≡ length (text_bytes front) + size_of p =
    ap length (text_bytes-append front (p ∷ [])) ∙ length-append (text_bytes front) (content_bytes p.content ++ [])
    ∙ ap (λ (t : List ℕ). length (text_bytes front) + length t) (append-nil (content_bytes p.content)) in
    let relocations : length (relocations_bytes (relocations_of (front ++ p ∷ [])))
    ≡ length (relocations_bytes (relocations_of front)) + length (relocations_bytes (relocations_in text p)) =
    ap (λ (t : List Relocation). length (relocations_bytes t)) (relocations-append 4 front (p ∷ []))
    ∙ relocations_bytes-append (relocations_of front) (relocations_in text p ++ [])
    ∙ ap (λ (t : List Relocation). length (relocations_bytes (relocations_of front)) + length (relocations_bytes t))
    (append-nil (relocations_in text p)) in
    ap (λ (b : Bool). b && (leb (length (text_bytes (front ++ p ∷ []))) 32
    && leb (length (relocations_bytes (relocations_of (front ++ p ∷ [])))) 120))
    (contiguous-push first rest p (left_of (are_contiguous first rest) _ e))
    ∙ ap (λ (n : ℕ). (is_same_name p.section first.section && (p.location == location_after first rest)) && (leb n 32
    && leb (length (relocations_bytes (relocations_of (front ++ p ∷ [])))) 120)) bytes
    ∙ ap (λ (n : ℕ). (is_same_name p.section first.section && (p.location == location_after first rest))
    && (leb (length (text_bytes front) + size_of p) 32 && leb n 120)) relocations

location_after-push : (first : Piece) (rest : List Piece) (p : Piece)
    → location_after first (rest ++ p ∷ []) ≡ last_location p + 1
location_after-push first [] p = refl
location_after-push first (next ∷ rest) p = location_after-push next rest p

text-push : (before : Option (ℕ × ℕ)) (first : Piece) (rest : List Piece) (p : Piece)
    → with_piece (text_of before first rest) p ≡ text_of before first (rest ++ p ∷ [])
text-push before first rest p =
    let front = first ∷ rest in
    let text = text_of before first rest in
    let with_all : ℕ → List ℕ → List Relocation → TextParts = λ n bytes relocations. record {
      before = before;
      section = first.section;
      location = first.location;
      next = n;
      bytes = bytes;
      relocations = relocations;
    } in
    ap (λ (n : ℕ). with_all n (text_bytes front ++ content_bytes p.content) (relocations_of front ++ relocations_in text p))
    (sym (location_after-push first rest p))
    ∙ ap (λ (t : List ℕ). with_all (location_after first (rest ++ p ∷ [])) t (relocations_of front ++ relocations_in text p))
    (ap (λ (t : List ℕ). text_bytes front ++ t) (sym (append-nil (content_bytes p.content)))
    ∙ sym (text_bytes-append front (p ∷ [])))
    ∙ ap (λ (t : List Relocation). with_all (location_after first (rest ++ p ∷ [])) (text_bytes (front ++ p ∷ [])) t)
    (ap (λ (t : List Relocation). relocations_of front ++ t) (sym (append-nil (relocations_in text p)))
    ∙ sym (relocations-append 4 front (p ∷ [])))

-- ---- all texts but the last

texts-split : (before : Option (ℕ × ℕ)) (closed : List (List Piece)) (first : Piece) (rest : List Piece)
    → texts_after before (closed ++ (first ∷ rest) ∷ [])
    ≡ texts_after before closed ++ text_of (last_section before closed) first rest ∷ []
texts-split before [] first rest = refl
texts-split before ([] ∷ closed) first rest = texts-split before closed first rest
texts-split before ((x ∷ xs) ∷ closed) first rest =
    ap (λ (t : List TextParts). text_of before x xs ∷ t) (texts-split (Some x.section) closed first rest)

section-split : (before : Option (ℕ × ℕ)) (closed : List (List Piece)) (first : Piece) (rest : List Piece)
    → last_section before (closed ++ (first ∷ rest) ∷ []) ≡ Some first.section
section-split before [] first rest = refl
section-split before ([] ∷ closed) first rest = section-split before closed first rest
section-split before ((x ∷ xs) ∷ closed) first rest = section-split (Some x.section) closed first rest

records-split : (closed : List (List Piece)) (first : Piece) (rest : List Piece)
    → flat_map records_of (texts_after None (closed ++ (first ∷ rest) ∷ []))
    ≡ flat_map records_of (texts_after None closed)
    ++ (records_of (text_of (last_section None closed) first rest) ++ [])
records-split closed first rest = ap (λ (t : List TextParts). flat_map records_of t) (texts-split None closed first rest)
    ∙ flat_map-append records_of (texts_after None closed) (text_of (last_section None closed) first rest ∷ [])

-- ---- the open text

pub begins : (pieces : List Piece) (written : List Content) (p : Piece) (text : TextParts) → IsOpenText pieces written None
    → text ≡ text_of None p []
    → IsOpenText (pieces ++ p ∷ []) (written ++ []) (Some text)
begins pieces written p text h e = record {
  closed = [];
  first = p;
  rest = [];
  cut = ap (λ (t : List Piece). cutting (t ++ p ∷ [])) h.0 ∙ first_front is_one_text nothing beginning alone p;
  records = append-nil written ∙ h.1;
  opened = e;
}

pub goes_in : (pieces : List Piece) (written : List Content) (p : Piece) (text text' : TextParts)
    → IsOpenText pieces written (Some text) → has_room_for text p ≡ true → text' ≡ with_piece text p
    → IsOpenText (pieces ++ p ∷ []) (written ++ []) (Some text')
goes_in pieces written p text text' h takes e =
    let before = last_section None h.closed in
    let one = the_last_passes is_one_text nothing beginning alone pieces h.closed (h.first ∷ h.rest) h.cut in
    record {
      closed = h.closed;
      first = h.first;
      rest = h.rest ++ p ∷ [];
      cut = fronts-grown is_one_text nothing beginning alone pieces h.closed (h.first ∷ h.rest) h.cut p
          (takes_one before h.first h.rest p one ∙ ap (λ (t : TextParts). has_room_for t p) (sym h.opened) ∙ takes);
      records = append-nil written ∙ h.records;
      opened = e ∙ ap (λ (t : TextParts). with_piece t p) h.opened ∙ text-push before h.first h.rest p;
    }

pub closes : (pieces : List Piece) (written : List Content) (p : Piece) (text text' : TextParts)
    → IsOpenText pieces written (Some text) → has_room_for text p ≡ false → text' ≡ text_of (Some text.section) p []
    → IsOpenText (pieces ++ p ∷ []) (written ++ records_in (Some text)) (Some text')
closes pieces written p text text' h takes e =
    let before = last_section None h.closed in
    let one = the_last_passes is_one_text nothing beginning alone pieces h.closed (h.first ∷ h.rest) h.cut in
    record {
      closed = h.closed ++ (h.first ∷ h.rest) ∷ [];
      first = p;
      rest = [];
      cut = fronts-opened is_one_text nothing beginning alone pieces h.closed (h.first ∷ h.rest) h.cut p
          (takes_one before h.first h.rest p one ∙ ap (λ (t : TextParts). has_room_for t p) (sym h.opened) ∙ takes);
      records = ap (λ (t : List Content). t ++ records_in (Some text)) h.records
          ∙ ap (λ (t : TextParts). flat_map records_of (texts_after None h.closed) ++ (records_of t ++ [])) h.opened
          ∙ sym (records-split h.closed h.first h.rest);
      opened = e ∙ ap (λ (t : TextParts). text_of (Some t.section) p []) h.opened
          ∙ ap (λ (s : Option (ℕ × ℕ)). text_of s p []) (sym (section-split None h.closed h.first h.rest));
    }

no_texts : text_records [] ≡ []
unfolding fronts_of
no_texts = refl

pub ends : (pieces : List Piece) (written : List Content) (text : Option TextParts) → IsOpenText pieces written text
    → written ++ records_in text ≡ text_records pieces
ends pieces written None h =
    append-nil written ∙ h.1 ∙ sym no_texts ∙ ap text_records (sym h.0)
ends pieces written (Some text) h =
    ap (λ (t : List Content). t ++ records_in (Some text)) h.records
    ∙ ap (λ (t : TextParts). flat_map records_of (texts_after None h.closed) ++ (records_of t ++ [])) h.opened
    ∙ sym (records-split h.closed h.first h.rest)
    ∙ ap (λ (t : List (List Piece)). flat_map records_of (texts_after None t)) (sym h.cut)
