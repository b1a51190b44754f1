-- Whole lines: their ends, and lines of three items.
use Rattle.std.proofs.Common.{◌≡◌, ◌+◌, ◌≤◌, ◌<◌, ℕ, Bool, true, false, if◌then◌else◌, List, [], ◌∷◌, ◌++◌, ◌∙◌, take, drop, length, refl, sym, ap, subst, append_assoc, arith}
use Rattle.std.proofs.lemmas.List.{length-append, length-map, map-append}
use Rattle.std.proofs.Math.Seq.{drop-append_seam}
use Rattle.std.specs.Fmt.{decimal}
use Rattle.std.specs.Prelude.{◌&&◌, ◌||◌, ◌==◌, codes, nat_le}
use Rattle.m11_base.specs.Devices.{Bytes}
use Rattle.m11_asm_listing.specs.declared.items.Item.{Item}
use Rattle.m11_asm_listing.specs.Columns.{blanks, printed, shown}
use Rattle.m11_asm_listing.specs.Items.{location_after}
use Rattle.m11_asm_listing.specs.Listing.{further_line, further_lines, head, listed_line, location_and_items}
use Rattle.m11_asm_listing.specs.Messages.{message_line}
use Rattle.m11_asm_listing.proofs.Widths.{length-front, length-location_and_items}
use Rattle.m11_obj_print.proofs.LineEnds.{length-line_of, whole_line}
use Rattle.m11_obj_print.specs.Lines.{line_of}

abbrev front_of : Bytes → ℕ → ℕ → List Item → Bytes
front_of flags number location items = head flags number ++ location_and_items location items ++ blanks 1

longest : (front text : Bytes) → length front ≡ 42 → length (line_of (front ++ printed text)) ≤ 42 + length text + 1
longest front text e =
    omega (arith, e, length-line_of (front ++ printed text), length-append front (printed text), length-map text shown)

pub listed_length : (flags : Bytes) (number location : ℕ) (items : List Item) (text : Bytes) → number < 65536
    → length (listed_line flags number location items text) ≤ 42 + length text + 1
listed_length flags number location items text h =
    longest (front_of flags number location items) text (length-front flags number location items h)

pub further_length : (location : ℕ) (items : List Item) → length (further_line location items) ≤ 41 + 1
further_length location items =
    omega (
      arith,
      length-line_of (blanks 10 ++ location_and_items location items),
      length-append (blanks 10) (location_and_items location items),
      length-location_and_items location items,
    )

-- ---- texts that don't end with a blank

shown_by : (b : Bool) (byte : ℕ) → (byte ≡ 32 → ⊥) → (if b then byte else 63) ≡ 32 → ⊥
shown_by true byte other e = other e
shown_by false byte other e = omega arith

shown_is_no_blank : (byte : ℕ) → (byte ≡ 32 → ⊥) → shown byte ≡ 32 → ⊥
shown_is_no_blank byte other = shown_by ((nat_le 0o040 byte && nat_le byte 0o176) || byte == 0o011) byte other

-- the last character of a printed text is the printed last character
printed_end : (front text : Bytes) (last : ℕ) → front ++ printed (text ++ last ∷ []) ≡ (front ++ printed text) ++ shown last ∷ []
printed_end front text last =
    ap (λ (bs : Bytes). front ++ bs) (map-append shown text (last ∷ [])) ∙ sym (append_assoc front (printed text) (shown last ∷ []))

whole : (front text : Bytes) (last : ℕ) → (last ≡ 32 → ⊥)
    → line_of (front ++ printed (text ++ last ∷ [])) ≡ (front ++ printed (text ++ last ∷ [])) ++ 10 ∷ []
whole front text last other =
    let P : Bytes → Type 0 = λ bs. line_of bs ≡ bs ++ 10 ∷ [] in
    subst P (sym (printed_end front text last)) (whole_line (front ++ printed text) (shown last) (shown_is_no_blank last other))

after_front : (front text : Bytes) → length front ≡ 42 → drop 42 ((front ++ text) ++ 10 ∷ []) ≡ text ++ 10 ∷ []
after_front front text e =
    let P : ℕ → Type 0 = λ n. drop n (front ++ (text ++ 10 ∷ [])) ≡ text ++ 10 ∷ [] in
    let Q : Bytes → Type 0 = λ bs. drop 42 bs ≡ text ++ 10 ∷ [] in
    subst Q (sym (append_assoc front text (10 ∷ []))) (subst P e (drop-append_seam front (text ++ 10 ∷ [])))

pub text_begins : (flags : Bytes) (number location : ℕ) (items : List Item) (text : Bytes) (last : ℕ) → number < 65536
    → (last ≡ 32 → ⊥)
    → drop 42 (listed_line flags number location items (text ++ last ∷ [])) ≡ printed (text ++ last ∷ []) ++ 10 ∷ []
text_begins flags number location items text last h other =
    ap (λ (bs : Bytes). drop 42 bs) (whole (front_of flags number location items) text last other)
    ∙ after_front (front_of flags number location items) (printed (text ++ last ∷ [])) (length-front flags number location items h)

pub message_whole : (flags : Bytes) (number : ℕ) (text : Bytes) (last : ℕ) → (last ≡ 32 → ⊥)
    → message_line flags number (text ++ last ∷ [])
    ≡ (flags ++ codes " " ++ decimal number ++ codes ": " ++ printed (text ++ last ∷ [])) ++ 10 ∷ []
message_whole flags number text last other = whole (flags ++ codes " " ++ decimal number ++ codes ": ") text last other

-- ---- further lines

pub by_threes : (location : ℕ) (first : Item) (items : List Item) → further_lines location (first ∷ items)
    ≡ further_line location (first ∷ items) ∷ further_lines (location_after location (take 3 (first ∷ items))) (drop 3 (first ∷ items))
by_threes location first [] = refl
by_threes location first (second ∷ []) = refl
by_threes location first (second ∷ third ∷ items) = refl
