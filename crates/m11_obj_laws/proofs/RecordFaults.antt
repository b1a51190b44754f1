-- The fault of a record is the one that its bytes show.
use Rattle.std.proofs.Common.{◌≡◌, ◌∙◌, ◌⊎◌, ℕ, zero, suc, ◌+◌, ◌-◌, ◌*◌, ◌<◌, ◌^◌, List, [], ◌∷◌, ◌++◌, length, Result, Ok, Err, refl, sym, ap, arith, inl, inr}
use Rattle.std.specs.List.{AllByRecursion}
use Rattle.std.proofs.lemmas.List.Elements.{All-from_recursion, recursion_from_All}
use Rattle.m11_obj_blocks.specs.Frames.{word_bytes}
use Rattle.m11_obj.specs.declared.fault.RecordFault.{RecordFault}
use Rattle.m11_obj.specs.declared.fault.RecordFault.TheVariants as fault
use Rattle.m11_obj.specs.declared.records.RecordKind.{RecordKind}
use Rattle.m11_obj.specs.declared.records.RecordKind.TheVariants as kind
use Rattle.m11_obj.specs.Gsd.{entry_bytes, EntryFits}
use Rattle.m11_obj.specs.Relocations.{relocation_bytes, RelocationFits}
use Rattle.m11_obj.specs.Records.{Content, Gsd, Text, Relocations}
use Rattle.m11_obj.specs.Reading.{◌>>=◌, first_word, first_entry, entries_of, first_relocation, relocations_of, record_kind_of, first_type, content_after, content_of, record_of}
use Rattle.m11_obj.proofs.FieldsOf.{ok_is}
use Rattle.m11_obj.proofs.ReadAgain.{word_again, entry_again}
use Rattle.m11_obj.proofs.RelocationsAgain.{relocation_again}
use Rattle.m11_obj.proofs.ReadBack.{Bytes, WordReads, word_reads, entry_reads, relocation_reads, EachReads}
use Rattle.m11_obj.proofs.Steps.{entry_shrinks, relocation_shrinks}
use Rattle.m11_obj_laws.specs.Faults.{IsNoType, IsLibraryType, ShowsInEntries, ShowsInRelocations, Shows, NoType, OtherType, OfLibrary, NoAddress, InEntries, InRelocations}
use Rattle.m11_obj_laws.proofs.Steps.{bind_err, one_fault, word_refuses, word_ends}
use Rattle.m11_obj_laws.proofs.EntryFaults.{entry_shows, entry_refused}
use Rattle.m11_obj_laws.proofs.RelocationFaults.{relocation_shows, relocation_refused}
use Rattle.m11_obj_laws.proofs.Directories.{EachAgain, stops_of, stopped_after}

-- ---- directories

entries_each : EachReads first_entry entry_bytes EntryFits
entries_each = record { at = entry_reads }

relocations_each : EachReads first_relocation relocation_bytes RelocationFits
relocations_each = record { at = relocation_reads }

entries_show : (said : RecordFault) (bytes : List ℕ) → Bytes bytes → entries_of bytes ≡ Err said
    → ShowsInEntries said bytes
unfolding entries_of
entries_show said bytes are e =
    let stop = stops_of first_entry entry_bytes EntryFits said bytes entries_each entry_shrinks are e in (
      stop.items,
      stop.rest,
      All-from_recursion EntryFits stop.items stop.fit,
      stop.some,
      entry_shows said stop.rest stop.are stop.stop,
      stop.is,
    )

relocations_show : (said : RecordFault) (bytes : List ℕ) → Bytes bytes → relocations_of bytes ≡ Err said
    → ShowsInRelocations said bytes
unfolding relocations_of
relocations_show said bytes are e =
    let stop =
    stops_of first_relocation relocation_bytes RelocationFits said bytes relocations_each relocation_shrinks are e in (
      stop.items,
      stop.rest,
      All-from_recursion RelocationFits stop.items stop.fit,
      stop.some,
      relocation_shows said stop.rest stop.are stop.some stop.stop,
      stop.is,
    )

entries_again : EachAgain first_entry entry_bytes EntryFits
entries_again = record { at = entry_again }

relocations_again : EachAgain first_relocation relocation_bytes RelocationFits
relocations_again = record { at = relocation_again }

entries_refused : (said : RecordFault) (bytes : List ℕ) → ShowsInEntries said bytes → entries_of bytes ≡ Err said
unfolding entries_of
entries_refused said bytes s =
    ap entries_of s.5
    ∙ stopped_after first_entry entry_bytes EntryFits said s.0 s.1 entries_again entry_shrinks
    (recursion_from_All EntryFits s.0 s.2) s.3 (entry_refused said s.1 s.4)

relocations_refused : (said : RecordFault) (bytes : List ℕ) → ShowsInRelocations said bytes
    → relocations_of bytes ≡ Err said
unfolding relocations_of
relocations_refused said bytes s =
    ap relocations_of s.5
    ∙ stopped_after first_relocation relocation_bytes RelocationFits said s.0 s.1 relocations_again relocation_shrinks
    (recursion_from_All RelocationFits s.0 s.2) s.3 (relocation_refused said s.1 s.4)

-- ---- types

abbrev type_code : RecordKind → ℕ
type_code kind.Gsd = 1
type_code kind.EndOfGsd = 2
type_code kind.Text = 3
type_code kind.Relocations = 4
type_code kind.InternalSymbols = 5
type_code kind.EndOfModule = 6

type_is_code : (code : ℕ) (type : RecordKind) → record_kind_of code ≡ Ok type → code ≡ type_code type
unfolding record_kind_of
type_is_code zero type e = absurd cc
type_is_code (suc zero) type e = ap type_code (ok_is kind.Gsd type e)
type_is_code (suc (suc zero)) type e = ap type_code (ok_is kind.EndOfGsd type e)
type_is_code (suc (suc (suc zero))) type e = ap type_code (ok_is kind.Text type e)
type_is_code (suc (suc (suc (suc zero)))) type e = ap type_code (ok_is kind.Relocations type e)
type_is_code (suc (suc (suc (suc (suc zero))))) type e = ap type_code (ok_is kind.InternalSymbols type e)
type_is_code (suc (suc (suc (suc (suc (suc zero)))))) type e = ap type_code (ok_is kind.EndOfModule type e)
type_is_code (suc (suc (suc (suc (suc (suc (suc zero))))))) type e = absurd cc
type_is_code (suc (suc (suc (suc (suc (suc (suc (suc zero)))))))) type e = absurd cc
type_is_code (suc (suc (suc (suc (suc (suc (suc (suc (suc code))))))))) type e = absurd cc

abbrev IsUnknown : ℕ → Type 0
IsUnknown code = (code ≡ 0) ⊎ (0o10 < code)

-- the type with this code is refused
data TypeRefused (said : RecordFault) (code : ℕ) : Type 0 where
  Unknown : fault.UnknownType ≡ said → IsUnknown code → TypeRefused said code
  OfLibraries : fault.Library ≡ said → IsLibraryType code → TypeRefused said code

no_zero : IsUnknown 0
no_zero = inl refl

seven : IsLibraryType 7
seven = inl refl

eight : IsLibraryType 8
eight = inr refl

above : (code : ℕ) → 0o10 < code → IsUnknown code
above code lt = inr lt

type_refuses : (said : RecordFault) (code : ℕ) → record_kind_of code ≡ Err said → TypeRefused said code
unfolding record_kind_of
type_refuses said zero e = Unknown (cc) no_zero
type_refuses said (suc zero) e = absurd cc
type_refuses said (suc (suc zero)) e = absurd cc
type_refuses said (suc (suc (suc zero))) e = absurd cc
type_refuses said (suc (suc (suc (suc zero)))) e = absurd cc
type_refuses said (suc (suc (suc (suc (suc zero))))) e = absurd cc
type_refuses said (suc (suc (suc (suc (suc (suc zero)))))) e = absurd cc
type_refuses said (suc (suc (suc (suc (suc (suc (suc zero))))))) e = OfLibraries (cc) seven
type_refuses said (suc (suc (suc (suc (suc (suc (suc (suc zero)))))))) e = OfLibraries (cc) eight
type_refuses said (suc (suc (suc (suc (suc (suc (suc (suc (suc code))))))))) e =
    Unknown (cc) (above (suc (suc (suc (suc (suc (suc (suc (suc (suc code))))))))) (omega arith))

type_above : (more : ℕ) → record_kind_of (suc (suc (suc (suc (suc (suc (suc (suc (suc more))))))))) ≡ Err fault.UnknownType
unfolding record_kind_of
type_above more = refl

type_stops : (code : ℕ) → IsUnknown code → record_kind_of code ≡ Err fault.UnknownType
unfolding record_kind_of
type_stops code (inl zero_is) = ap record_kind_of zero_is ∙ refl
type_stops code (inr lt) =
    let more : ℕ = code - 9 in
    let same : code ≡ suc (suc (suc (suc (suc (suc (suc (suc (suc more)))))))) = omega arith in
    ap record_kind_of same ∙ type_above more

library_stops : (code : ℕ) → IsLibraryType code → record_kind_of code ≡ Err fault.Library
unfolding record_kind_of
library_stops code (inl is) = ap record_kind_of is ∙ refl
library_stops code (inr is) = ap record_kind_of is ∙ refl

-- ---- a refused record shows its fault

type_shows : (said : RecordFault) (bytes : List ℕ) (type : ℕ × List ℕ) → WordReads bytes type
    → TypeRefused said type.0 → Shows said bytes
type_shows said bytes type read (Unknown e (inl zero_is)) =
    OtherType type.0 type.1 (sym e) (inl zero_is) read.begins.is
type_shows said bytes type read (Unknown e (inr lt)) =
    OtherType type.0 type.1 (sym e) (inr (lt, read.fits)) read.begins.is
type_shows said bytes type read (OfLibraries e of) = OfLibrary type.0 type.1 (sym e) of read.begins.is

content_shows : (said : RecordFault) (bytes : List ℕ) (kind : RecordKind) (rest : List ℕ) → Bytes rest
    → bytes ≡ word_bytes (type_code kind) ++ rest → content_after kind rest ≡ Err said → Shows said bytes
unfolding content_after
content_shows said bytes kind.Gsd rest are is e =
    elim (bind_err (entries_of rest) (λ entries. Ok (Gsd entries)) said e) [
      | inl refused ↦ InEntries rest (entries_show said rest are refused) is
      | inr entries ↦ absurd (let bad = entries.2 in cc)
    ]
content_shows said bytes kind.EndOfGsd rest are is e = absurd cc
content_shows said bytes kind.Text rest are is e =
    elim (bind_err (first_word rest) (λ address. Ok (Text address.0 address.1)) said e) [
      | inl early ↦ let ends = word_refuses said rest early in NoAddress rest (sym ends.0) ends.1 is
      | inr address ↦ absurd (let bad = address.2 in cc)
    ]
content_shows said bytes kind.Relocations rest are is e =
    elim (bind_err (relocations_of rest) (λ relocations. Ok (Relocations relocations)) said e) [
      | inl refused ↦ InRelocations rest (relocations_show said rest are refused) is
      | inr relocations ↦ absurd (let bad = relocations.2 in cc)
    ]
content_shows said bytes kind.InternalSymbols rest are is e = absurd cc
content_shows said bytes kind.EndOfModule rest are is e = absurd cc

-- the reading of a record after its type
abbrev content_by : ℕ → List ℕ → Result Content RecordFault
content_by code rest = record_kind_of code >>= λ type. content_after type rest

typed : (r : Result RecordKind RecordFault) (rest : List ℕ)
    → (◌>>=◌ {B = RecordKind × List ℕ} r (λ type. Ok (type, rest)) >>= λ type. content_after type.0 type.1)
    ≡ (r >>= λ type. content_after type rest)
typed (Ok type) rest = refl
typed (Err said) rest = refl

content_is : (bytes : List ℕ) (code : ℕ × List ℕ) → first_word bytes ≡ Ok code
    → content_of bytes ≡ content_by code.0 code.1
unfolding content_of first_type
content_is bytes code e = rw e (typed (record_kind_of code.0) code.1)

content_stops : (bytes : List ℕ) (said : RecordFault) → first_word bytes ≡ Err said → content_of bytes ≡ Err said
unfolding content_of first_type
content_stops bytes said e = rw e refl

-- the bytes are too short for a type, or begin with one
word_there : (bytes : List ℕ) → (length bytes < 2) ⊎ ((code : ℕ × List ℕ) × (first_word bytes ≡ Ok code))
unfolding first_word
word_there [] = inl (omega arith)
word_there (low ∷ []) = inl (omega arith)
word_there (low ∷ high ∷ rest) = inr ((low + 256 * high, rest), refl)

pub refused_shows : (said : RecordFault) (bytes : List ℕ) → AllByRecursion (λ byte. byte < 256) bytes
    → content_of bytes ≡ Err said → Shows said bytes
refused_shows said bytes small e =
    elim (word_there bytes) [
      | inl lt ↦
          let same : fault.BadLength ≡ said =
          one_fault fault.BadLength said (sym (content_stops bytes fault.BadLength (word_ends bytes lt)) ∙ e) in
          NoType (sym same) lt
      | inr code ↦
          let read = word_reads bytes code.0 small code.1 in
          elim (bind_err (record_kind_of code.0.0) (λ type. content_after type code.0.1) said
          (sym (content_is bytes code.0 code.1) ∙ e)) [
            | inl refused ↦ type_shows said bytes code.0 read (type_refuses said code.0.0 refused)
            | inr type ↦
                let is : bytes ≡ word_bytes (type_code type.0) ++ code.0.1 =
                read.begins.is ∙ ap (λ (n : ℕ). word_bytes n ++ code.0.1) (type_is_code code.0.0 type.0 type.1) in
                content_shows said bytes type.0 code.0.1 read.begins.following is type.2
          ]
    ]

-- ---- a record that shows a fault is refused

stops_by : (said : RecordFault) (bytes : List ℕ) (code : ℕ) (rest : List ℕ) → code < 2 ^ 16
    → bytes ≡ word_bytes code ++ rest → content_by code rest ≡ Err said → content_of bytes ≡ Err said
stops_by said bytes code rest lt is e =
    content_is bytes (code, rest) (ap first_word is ∙ word_again code rest lt) ∙ e

unknown_below : (code : ℕ) → IsNoType code → code < 2 ^ 16
unknown_below code (inl is) = omega arith
unknown_below code (inr within) = within.1

unknown_is : (code : ℕ) → IsNoType code → IsUnknown code
unknown_is code (inl is) = inl is
unknown_is code (inr within) = inr within.0

library_below : (code : ℕ) → IsLibraryType code → code < 2 ^ 16
library_below code (inl is) = omega arith
library_below code (inr is) = omega arith

type_refused : (said : RecordFault) (code : ℕ) (rest : List ℕ) → record_kind_of code ≡ Err said
    → content_by code rest ≡ Err said
type_refused said code rest e = rw e refl

entries_stop : (said : RecordFault) (rest : List ℕ) → entries_of rest ≡ Err said → content_by 1 rest ≡ Err said
unfolding content_after record_kind_of
entries_stop said rest e = rw e refl

address_stops : (rest : List ℕ) → first_word rest ≡ Err fault.BadLength → content_by 3 rest ≡ Err fault.BadLength
unfolding content_after record_kind_of
address_stops rest e = rw e refl

relocations_stop : (said : RecordFault) (rest : List ℕ) → relocations_of rest ≡ Err said
    → content_by 4 rest ≡ Err said
unfolding content_after record_kind_of
relocations_stop said rest e = rw e refl

pub shows_refused : (said : RecordFault) (bytes : List ℕ) → Shows said bytes → content_of bytes ≡ Err said
shows_refused said bytes (NoType e lt) =
    content_stops bytes fault.BadLength (word_ends bytes lt) ∙ ap (λ (f : RecordFault). Err f) (sym e)
shows_refused said bytes (OtherType code rest e range is) =
    stops_by said bytes code rest (unknown_below code range) is
    (type_refused fault.UnknownType code rest (type_stops code (unknown_is code range))
    ∙ ap (λ (f : RecordFault). Err f) (sym e))
shows_refused said bytes (OfLibrary code rest e of is) =
    stops_by said bytes code rest (library_below code of) is
    (type_refused fault.Library code rest (library_stops code of) ∙ ap (λ (f : RecordFault). Err f) (sym e))
shows_refused said bytes (NoAddress rest e lt is) =
    stops_by said bytes 3 rest (omega arith) is
    (address_stops rest (word_ends rest lt) ∙ ap (λ (f : RecordFault). Err f) (sym e))
shows_refused said bytes (InEntries rest s is) =
    stops_by said bytes 1 rest (omega arith) is (entries_stop said rest (entries_refused said rest s))
shows_refused said bytes (InRelocations rest s is) =
    stops_by said bytes 4 rest (omega arith) is (relocations_stop said rest (relocations_refused said rest s))

pub read_refused : (said : RecordFault) (bytes : List ℕ) → Shows said bytes → record_of bytes ≡ Err said
read_refused said bytes s = rw (shows_refused said bytes s) refl
