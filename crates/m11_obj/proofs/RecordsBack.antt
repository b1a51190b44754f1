-- A record that is read is in its bytes as it is written, and a record that is in bytes in this way is read.
use Rattle.std.proofs.Common.{◌≡◌, ℕ, zero, suc, ◌+◌, ◌*◌, ◌<◌, ◌≤◌, List, [], ◌++◌, length, Result, Ok, Err, refl, sym, ap, subst, ◌∙◌, append-nil, arith, get_or, w8, Fits as FitsWidth}
use Rattle.std.specs.Prelude.{All, OnOk}
use Rattle.std.proofs.lemmas.List.{get_or_default}
use Rattle.std.proofs.lemmas.List.Elements.{All-from_recursion, recursion_from_All}
use Rattle.m11_obj.specs.declared.fault.RecordFault.{RecordFault}
use Rattle.m11_obj.specs.declared.gsd.GsdEntry.{GsdEntry}
use Rattle.m11_obj.specs.declared.relocations.Relocation.{Relocation}
use Rattle.m11_obj.specs.declared.records.RecordKind.{RecordKind}
use Rattle.m11_obj.specs.declared.records.RecordKind.TheVariants as kind
use Rattle.m11_obj_blocks.specs.Frames.{word_bytes, content_limit}
use Rattle.m11_obj.specs.Gsd.{entry_bytes, EntryFits}
use Rattle.m11_obj.specs.Relocations.{relocation_bytes, relocations_bytes, RelocationFits}
use Rattle.m11_obj.specs.Records.{Content, Gsd, EndOfGsd, Text, Relocations, InternalSymbols, EndOfModule, record_data, Fits, HasFields, IsRecordOf}
use Rattle.m11_obj.specs.Reading.{◌>>=◌, first_word, first_entry, items_of, entries_of, first_relocation, relocations_of, record_kind_of, first_type, content_after, content_of, SaysWhatIsWritten, checked}
use Rattle.m11_obj.proofs.FieldsOf.{done, ok_is, bind_ok, entries_length}
use Rattle.m11_obj.proofs.Steps.{entry_shrinks, relocation_shrinks}
use Rattle.m11_obj.proofs.RecordsAgain.{means}
use Rattle.m11_obj.proofs.ReadBack.{Bytes, Begins, word_reads, entry_reads, relocation_reads, EachReads, AllRead, items_read}

-- ---- the type

abbrev type_code : RecordKind → ℕ
type_code kind.Gsd = 1
type_code kind.EndOfGsd = 2
type_code kind.Text = 3
type_code kind.Relocations = 4
type_code kind.InternalSymbols = 5
type_code kind.EndOfModule = 6

type_is_code : (code : ℕ) (type : RecordKind) → record_kind_of code ≡ Ok type → code ≡ type_code type
unfolding record_kind_of
type_is_code zero type e = absurd cc
type_is_code (suc zero) type e = ap type_code (ok_is kind.Gsd type e)
type_is_code (suc (suc zero)) type e = ap type_code (ok_is kind.EndOfGsd type e)
type_is_code (suc (suc (suc zero))) type e = ap type_code (ok_is kind.Text type e)
type_is_code (suc (suc (suc (suc zero)))) type e = ap type_code (ok_is kind.Relocations type e)
type_is_code (suc (suc (suc (suc (suc zero))))) type e = ap type_code (ok_is kind.InternalSymbols type e)
type_is_code (suc (suc (suc (suc (suc (suc zero)))))) type e = ap type_code (ok_is kind.EndOfModule type e)
type_is_code (suc (suc (suc (suc (suc (suc (suc zero))))))) type e = absurd cc
type_is_code (suc (suc (suc (suc (suc (suc (suc (suc zero)))))))) type e = absurd cc
type_is_code (suc (suc (suc (suc (suc (suc (suc (suc (suc code))))))))) type e = absurd cc

abbrev TypeBegins : List ℕ → RecordKind × List ℕ → Type 0
TypeBegins bytes x = Begins bytes (word_bytes (type_code x.0)) x.1

type_begins : (bytes : List ℕ) (x : RecordKind × List ℕ) → Bytes bytes → first_type bytes ≡ Ok x → TypeBegins bytes x
unfolding first_type
type_begins bytes x are e =
    let a = bind_ok (first_word bytes) (λ code. record_kind_of code.0 >>= λ type. Ok (type, code.1)) x e in
    let b = bind_ok (record_kind_of a.0.0) (λ type. Ok (type, a.0.1)) x a.2 in
    let word = word_reads bytes a.0 are a.1 in
    let made : RecordKind × List ℕ = (b.0, a.0.1) in
    let here : TypeBegins bytes made =
    subst (λ (code : ℕ). Begins bytes (word_bytes code) a.0.1) (type_is_code a.0.0 b.0 b.1) word.begins in
    subst (λ (p : RecordKind × List ℕ). TypeBegins bytes p) (ok_is made x b.2) here

-- ---- the bytes after the type

entries_each : EachReads first_entry entry_bytes EntryFits
entries_each = record { at = entry_reads }

relocations_each : EachReads first_relocation relocation_bytes RelocationFits
relocations_each = record { at = relocation_reads }

entries_read : (bytes : List ℕ) (entries : List GsdEntry) → Bytes bytes → entries_of bytes ≡ Ok entries
    → AllRead first_entry entry_bytes EntryFits bytes entries
unfolding entries_of items_of
entries_read bytes entries are e =
    items_read first_entry entry_bytes EntryFits (length bytes) bytes entries entries_each entry_shrinks are
    (omega arith) e

entries_long : (bytes : List ℕ) (entries : List GsdEntry) → entries_of bytes ≡ Ok entries
    → length bytes ≡ 8 * length entries
unfolding entries_of items_of
entries_long bytes entries e = entries_length (length bytes) bytes entries (omega arith) e

relocations_read : (bytes : List ℕ) (relocations : List Relocation) → Bytes bytes
    → relocations_of bytes ≡ Ok relocations → AllRead first_relocation relocation_bytes RelocationFits bytes relocations
unfolding relocations_of items_of
relocations_read bytes relocations are e =
    items_read first_relocation relocation_bytes RelocationFits (length bytes) bytes relocations relocations_each
    relocation_shrinks are (omega arith) e

-- bytes that are exactly those written for a content are a record of this content
whole : (content : Content) (bytes written : List ℕ) → Fits content → bytes ≡ written → written ≡ record_data content
    → IsRecordOf content bytes
whole content bytes written fits is same = record {
  fits = fits;
  ignored = [];
  written = is ∙ same ∙ sym (append-nil (record_data content));
  nothing = λ fields. refl;
}

gsd_stands : (bytes rest : List ℕ) (content : Content) → Begins bytes (word_bytes 1) rest
    → length bytes ≤ content_limit → content_after kind.Gsd rest ≡ Ok content → IsRecordOf content bytes
unfolding content_after
gsd_stands bytes rest content begins le e =
    let a = bind_ok (entries_of rest) (λ entries. Ok (Gsd entries)) content e in
    let read = entries_read rest a.0 begins.following a.1 in
    let long = entries_long rest a.0 a.1 in
    let count : length bytes ≡ 2 + length rest = omega (arith, ap length begins.is) in
    let here : IsRecordOf (Gsd a.0) bytes =
    whole (Gsd a.0) bytes (word_bytes 1 ++ rest) (omega arith, All-from_recursion EntryFits a.0 read.fits)
    begins.is (ap (λ (xs : List ℕ). word_bytes 1 ++ xs) read.is) in
    subst (λ (c : Content). IsRecordOf c bytes) (ok_is (Gsd a.0) content a.2) here

text_stands : (bytes rest : List ℕ) (content : Content) → Begins bytes (word_bytes 3) rest
    → length bytes ≤ content_limit → content_after kind.Text rest ≡ Ok content → IsRecordOf content bytes
unfolding content_after
text_stands bytes rest content begins le e =
    let a = bind_ok (first_word rest) (λ address. Ok (Text address.0 address.1)) content e in
    let word = word_reads rest a.0 begins.following a.1 in
    let count : length bytes ≡ 2 + length rest = omega (arith, ap length begins.is) in
    let following : length rest ≡ 2 + length a.0.1 = omega (arith, ap length word.begins.is) in
    let here : IsRecordOf (Text a.0.0 a.0.1) bytes =
    whole (Text a.0.0 a.0.1) bytes (word_bytes 3 ++ rest) (word.fits, omega arith) begins.is
    (ap (λ (xs : List ℕ). word_bytes 3 ++ xs) word.begins.is) in
    subst (λ (c : Content). IsRecordOf c bytes) (ok_is (Text a.0.0 a.0.1) content a.2) here

relocations_stand : (bytes rest : List ℕ) (content : Content) → Begins bytes (word_bytes 4) rest
    → length bytes ≤ content_limit → content_after kind.Relocations rest ≡ Ok content → IsRecordOf content bytes
unfolding content_after
relocations_stand bytes rest content begins le e =
    let a = bind_ok (relocations_of rest) (λ relocations. Ok (Relocations relocations)) content e in
    let read = relocations_read rest a.0 begins.following a.1 in
    let count : length bytes ≡ 2 + length rest = omega (arith, ap length begins.is) in
    let long : length rest ≡ length (relocations_bytes a.0) = ap length read.is in
    let here : IsRecordOf (Relocations a.0) bytes =
    whole (Relocations a.0) bytes (word_bytes 4 ++ rest)
    (omega arith, All-from_recursion RelocationFits a.0 read.fits) begins.is
    (ap (λ (xs : List ℕ). word_bytes 4 ++ xs) read.is) in
    subst (λ (c : Content). IsRecordOf c bytes) (ok_is (Relocations a.0) content a.2) here

bare : (made content : Content) (bytes rest : List ℕ) → Fits made → (HasFields made → ⊥)
    → bytes ≡ record_data made ++ rest → done made ≡ done content → IsRecordOf content bytes
bare made content bytes rest fits none is e =
    let here : IsRecordOf made bytes =
    record { fits = fits; ignored = rest; written = is; nothing = λ fields. absurd (none fields) } in
    subst (λ (c : Content). IsRecordOf c bytes) (ok_is made content e) here

stands : (type : RecordKind) (bytes rest : List ℕ) (content : Content)
    → Begins bytes (word_bytes (type_code type)) rest → length bytes ≤ content_limit
    → content_after type rest ≡ Ok content → IsRecordOf content bytes
unfolding content_after
stands kind.Gsd bytes rest content begins le e = gsd_stands bytes rest content begins le e
stands kind.EndOfGsd bytes rest content begins le e = bare EndOfGsd content bytes rest tt (λ no. no) begins.is e
stands kind.Text bytes rest content begins le e = text_stands bytes rest content begins le e
stands kind.Relocations bytes rest content begins le e = relocations_stand bytes rest content begins le e
stands kind.InternalSymbols bytes rest content begins le e =
    bare InternalSymbols content bytes rest tt (λ no. no) begins.is e
stands kind.EndOfModule bytes rest content begins le e =
    bare EndOfModule content bytes rest tt (λ no. no) begins.is e

-- ---- the two laws

pub read_stands : (bytes : List ℕ) (content : Content) → All (λ byte. byte < 256) bytes → length bytes ≤ content_limit
    → content_of bytes ≡ Ok content → IsRecordOf content bytes
unfolding content_of
read_stands bytes content all le e =
    let are = recursion_from_All (λ byte. byte < 256) bytes all in
    let a = bind_ok (first_type bytes) (λ type. content_after type.0 type.1) content e in
    stands a.0.0 bytes a.0.1 content (type_begins bytes a.0 are a.1) le a.2

ignored_read : (content : Content) (ignored : List ℕ) → (HasFields content → ignored ≡ []) → Fits content
    → content_of (record_data content ++ ignored) ≡ Ok content
unfolding first_word record_kind_of first_type content_after content_of
ignored_read EndOfGsd ignored nothing fits = refl
ignored_read InternalSymbols ignored nothing fits = refl
ignored_read EndOfModule ignored nothing fits = refl
ignored_read (Gsd entries) ignored nothing fits =
    means (Gsd entries) (record_data (Gsd entries) ++ ignored) fits
    (ap (λ (xs : List ℕ). record_data (Gsd entries) ++ xs) (nothing tt) ∙ append-nil (record_data (Gsd entries)))
ignored_read (Text address text) ignored nothing fits =
    means (Text address text) (record_data (Text address text) ++ ignored) fits
    (ap (λ (xs : List ℕ). record_data (Text address text) ++ xs) (nothing tt)
    ∙ append-nil (record_data (Text address text)))
ignored_read (Relocations relocations) ignored nothing fits =
    means (Relocations relocations) (record_data (Relocations relocations) ++ ignored) fits
    (ap (λ (xs : List ℕ). record_data (Relocations relocations) ++ xs) (nothing tt)
    ∙ append-nil (record_data (Relocations relocations)))

pub standing_is_read : (content : Content) (bytes : List ℕ) → IsRecordOf content bytes → content_of bytes ≡ Ok content
standing_is_read content bytes is =
    ap content_of is.written ∙ ignored_read content is.ignored is.nothing is.fits

-- ---- what the check of a record reports

pub no_fault : (content : Content) (block bytes : List ℕ) (fault : RecordFault) → bytes ≡ block
    → Err fault ≡ checked (content_of bytes) → IsRecordOf content block → ⊥
no_fault content block bytes fault same e is =
    let read : content_of bytes ≡ Ok content = ap content_of same ∙ standing_is_read content block is in
    let no = e ∙ ap (λ (r : Result Content RecordFault). checked r) read in absurd cc

content_found : {x : Unit {0}} (r : Result Content RecordFault) → Ok x ≡ checked r
    → (content : Content) × (r ≡ Ok content)
content_found (Ok content) e = (content, refl)
content_found (Err fault) e = absurd cc

pub all_bytes : (bytes : List ℕ) → ((k : ℕ) → FitsWidth w8 (get_or bytes k 0)) → All (λ byte. byte < 256) bytes
all_bytes bytes fits = λ k d lt.
    let at = fits k in omega (arith, at, get_or_default bytes k d 0 lt)

pub some_content : (bytes : List ℕ) (result : Result (Unit {0}) RecordFault) → All (λ byte. byte < 256) bytes
    → length bytes ≤ content_limit → result ≡ checked (content_of bytes) → OnOk result (SaysWhatIsWritten bytes)
some_content bytes (Ok x) all le e =
    let found = content_found (content_of bytes) e in
    (found.0, found.1, read_stands bytes found.0 all le found.1)
some_content bytes (Err fault) all le e = tt
