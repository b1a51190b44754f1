-- What is shown about a record, depending on its type.
use Rattle.std.proofs.Common.{◌≡◌, ◌≢◌, ℕ, List, [], ◌∷◌, codes, Some, Option, Result, Ok, Err, refl, sym, subst, ap₂}
use Rattle.std.specs.Prelude.{option_map}
use Rattle.std.specs.List.{flat_map}
use Rattle.m11_obj.specs.Records.{Content, Gsd, EndOfGsd, Text, Relocations, InternalSymbols, EndOfModule}
use Rattle.m11_obj.specs.Reading.{◌>>=◌, content_of, kind_in, record_kind, entries_in, text_in, record_relocations, record_text, relocations_in}
use Rattle.m11_obj.specs.declared.fault.RecordFault.{RecordFault}
use Rattle.m11_obj.proofs.FieldsOf.{done}
use Rattle.m11_obj.specs.declared.records.RecordKind.{RecordKind}
use Rattle.m11_obj.specs.declared.records.RecordKind.TheVariants as kind
use Rattle.m11_dump.specs.Entries.{entry_line}
use Rattle.m11_dump.specs.Objects.{IsOther, IsOtherThan, Waits}
use Rattle.m11_dump.specs.Records.{address_then, kept, lines_then}
use Rattle.m11_dump.specs.Relocations.{relocation_line}
use Rattle.m11_dump.specs.declared.held.HeldText.{HeldText}

-- what is shown of a record with this type and these fields are the lines of its content
abbrev pub ShowsFields : ℕ → Result Content RecordFault → RecordKind → Type 0
ShowsFields address r kind.Gsd = flat_map entry_line (entries_in r) ≡ lines_then address r
ShowsFields address r kind.EndOfGsd = codes "END OF DIRECTORY\n" ≡ lines_then address r
ShowsFields address r kind.Text = [] ≡ lines_then address r
ShowsFields address r kind.Relocations = flat_map (relocation_line address) (relocations_in r) ≡ lines_then address r
ShowsFields address r kind.InternalSymbols = codes "INTERNAL SYMBOLS\n" ≡ lines_then address r
ShowsFields address r kind.EndOfModule = codes "END OF MODULE\n" ≡ lines_then address r

-- if two successful results hold the same type of record, the types are equal
same_kind : {k other : RecordKind} → done k ≡ done other → k ≡ other
same_kind e = cc

fields_by : (address : ℕ) (r : Result Content RecordFault) (k : RecordKind) → (r >>= λ content. Ok (kind_in content)) ≡ Ok k
    → ShowsFields address r k
fields_by address (Err fault) k e = cc
fields_by address (Ok (Gsd entries)) k e =
    let P : RecordKind → Type 0 = ShowsFields address (Ok (Gsd entries)) in subst P (same_kind e) refl
fields_by address (Ok EndOfGsd) k e =
    let P : RecordKind → Type 0 = ShowsFields address (Ok EndOfGsd) in subst P (same_kind e) refl
fields_by address (Ok (Text own bytes)) k e =
    let P : RecordKind → Type 0 = ShowsFields address (Ok (Text own bytes)) in subst P (same_kind e) refl
fields_by address (Ok (Relocations relocations)) k e =
    let P : RecordKind → Type 0 = ShowsFields address (Ok (Relocations relocations)) in subst P (same_kind e) refl
fields_by address (Ok InternalSymbols) k e =
    let P : RecordKind → Type 0 = ShowsFields address (Ok InternalSymbols) in subst P (same_kind e) refl
fields_by address (Ok EndOfModule) k e =
    let P : RecordKind → Type 0 = ShowsFields address (Ok EndOfModule) in subst P (same_kind e) refl

pub fields_shown : (address : ℕ) (bytes : List ℕ) (k : RecordKind) → record_kind bytes ≡ Ok k
    → ShowsFields address (content_of bytes) k
fields_shown address bytes k e = fields_by address (content_of bytes) k e

-- ---- the record of a type

text_is : (own own' : ℕ) (bytes bytes' : List ℕ) → Some own ≡ Some own' → Some bytes ≡ Some bytes'
    → Text own bytes ∷ [] ≡ Text own' bytes' ∷ []
text_is own own' bytes bytes' a b =
    let x : own ≡ own' = cc in let y : bytes ≡ bytes' = cc in ap₂ (λ (o : ℕ) (l : List ℕ). Text o l ∷ []) x y

kept_text_by : (r : Result Content RecordFault) (own : ℕ) (bytes : List ℕ) → option_map (λ t. t.0) (text_in r) ≡ Some own
    → option_map (λ t. t.1) (text_in r) ≡ Some bytes → kept r ≡ Text own bytes ∷ []
kept_text_by (Err fault) own bytes a b = cc
kept_text_by (Ok (Gsd entries)) own bytes a b = cc
kept_text_by (Ok EndOfGsd) own bytes a b = cc
kept_text_by (Ok (Text own' bytes')) own bytes a b = text_is own' own bytes' bytes a b
kept_text_by (Ok (Relocations relocations)) own bytes a b = cc
kept_text_by (Ok InternalSymbols) own bytes a b = cc
kept_text_by (Ok EndOfModule) own bytes a b = cc

pub kept_text : (content : List ℕ) (own : ℕ) (bytes : List ℕ) → option_map (λ t. t.0) (record_text content) ≡ Some own
    → option_map (λ t. t.1) (record_text content) ≡ Some bytes → kept (content_of content) ≡ Text own bytes ∷ []
kept_text content own bytes a b = kept_text_by (content_of content) own bytes a b

kept_relocations_by : (r : Result Content RecordFault) → (r >>= λ content. Ok (kind_in content)) ≡ Ok kind.Relocations
    → kept r ≡ Relocations (relocations_in r) ∷ []
kept_relocations_by (Err fault) e = cc
kept_relocations_by (Ok (Gsd entries)) e = cc
kept_relocations_by (Ok EndOfGsd) e = cc
kept_relocations_by (Ok (Text own bytes)) e = cc
kept_relocations_by (Ok (Relocations relocations)) e = refl
kept_relocations_by (Ok InternalSymbols) e = cc
kept_relocations_by (Ok EndOfModule) e = cc

pub kept_relocations : (content : List ℕ) → record_kind content ≡ Ok kind.Relocations
    → kept (content_of content) ≡ Relocations (record_relocations content) ∷ []
kept_relocations content e = kept_relocations_by (content_of content) e

relocations_stay_by : (address : ℕ) (r : Result Content RecordFault)
    → (r >>= λ content. Ok (kind_in content)) ≡ Ok kind.Relocations → address_then address r ≡ address
relocations_stay_by address (Err fault) e = cc
relocations_stay_by address (Ok (Gsd entries)) e = cc
relocations_stay_by address (Ok EndOfGsd) e = cc
relocations_stay_by address (Ok (Text own bytes)) e = cc
relocations_stay_by address (Ok (Relocations relocations)) e = refl
relocations_stay_by address (Ok InternalSymbols) e = cc
relocations_stay_by address (Ok EndOfModule) e = cc

pub relocations_stay : (address : ℕ) (content : List ℕ) → record_kind content ≡ Ok kind.Relocations
    → address_then address (content_of content) ≡ address
relocations_stay address content e = relocations_stay_by address (content_of content) e

-- ---- a record of another type

other_by : (held : Option HeldText) (r : Result Content RecordFault) (k : RecordKind) → (r >>= λ content. Ok (kind_in content)) ≡ Ok k
    → k ≢ kind.Text → (k ≡ kind.Relocations → Waits held → ⊥) → (other : Content) × (r ≡ Ok other) × IsOtherThan (Waits held) other
other_by held (Err fault) k e text waits = absurd cc
other_by held (Ok (Gsd entries)) k e text waits = (Gsd entries, refl, tt)
other_by held (Ok EndOfGsd) k e text waits = (EndOfGsd, refl, tt)
other_by held (Ok (Text own bytes)) k e text waits = absurd (text (sym (same_kind e)))
other_by held (Ok (Relocations relocations)) k e text waits = (Relocations relocations, refl, waits (sym (same_kind e)))
other_by held (Ok InternalSymbols) k e text waits = (InternalSymbols, refl, tt)
other_by held (Ok EndOfModule) k e text waits = (EndOfModule, refl, tt)

pub is_other : (held : Option HeldText) (content : List ℕ) (k : RecordKind) → record_kind content ≡ Ok k
    → k ≢ kind.Text → (k ≡ kind.Relocations → Waits held → ⊥) → IsOther held content
is_other held content k e text waits = other_by held (content_of content) k e text waits

-- ---- the address of the last text

own_address : (own own' : ℕ) → Some own ≡ Some own' → own' ≡ own
own_address own own' e = cc

text_by : (address : ℕ) (r : Result Content RecordFault) (own : ℕ) → option_map (λ t. t.0) (text_in r) ≡ Some own
    → own ≡ address_then address r
text_by address (Err fault) own e = cc
text_by address (Ok (Gsd entries)) own e = cc
text_by address (Ok EndOfGsd) own e = cc
text_by address (Ok (Text own' bytes)) own e = own_address own' own e
text_by address (Ok (Relocations relocations)) own e = cc
text_by address (Ok InternalSymbols) own e = cc
text_by address (Ok EndOfModule) own e = cc

pub text_address : (address : ℕ) (bytes : List ℕ) (own : ℕ) → option_map (λ t. t.0) (record_text bytes) ≡ Some own
    → own ≡ address_then address (content_of bytes)
text_address address bytes own e = text_by address (content_of bytes) own e

unmoved_by : (address : ℕ) (r : Result Content RecordFault) (k : RecordKind) → (r >>= λ content. Ok (kind_in content)) ≡ Ok k
    → k ≢ kind.Text → address ≡ address_then address r
unmoved_by address (Err fault) k e other = refl
unmoved_by address (Ok (Gsd entries)) k e other = refl
unmoved_by address (Ok EndOfGsd) k e other = refl
unmoved_by address (Ok (Text own bytes)) k e other = absurd (other (sym (same_kind e)))
unmoved_by address (Ok (Relocations relocations)) k e other = refl
unmoved_by address (Ok InternalSymbols) k e other = refl
unmoved_by address (Ok EndOfModule) k e other = refl

pub other_address : (address : ℕ) (bytes : List ℕ) (k : RecordKind) → record_kind bytes ≡ Ok k → k ≢ kind.Text
    → address ≡ address_then address (content_of bytes)
other_address address bytes k e other = unmoved_by address (content_of bytes) k e other
