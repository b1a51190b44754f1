-- The fields of a record, each at its index.
use Rattle.std.proofs.Common.{◌≡◌, ◌≢◌, ℕ, ◌+◌, ◌*◌, ◌<◌, ◌≤◌, List, length, drop, get_or, Some, Result, Ok, Err, refl, sym, ap, subst, ◌∙◌, arith, length-drop}
use Rattle.std.specs.Prelude.{IsSome, slice_get}
use Rattle.std.proofs.lemmas.List.{drop-drop}
use Rattle.std.proofs.lemmas.Option.{slice_get-get_or}
use Rattle.m11_obj.specs.declared.fault.RecordFault.{RecordFault}
use Rattle.m11_obj.specs.declared.gsd.GsdKind.TheVariants.{ModuleName}
use Rattle.m11_obj.specs.declared.gsd.GsdEntry.{GsdEntry}
use Rattle.m11_obj.specs.declared.records.RecordKind.{RecordKind}
use Rattle.m11_obj.specs.declared.records.RecordKind.TheVariants as kind
use Rattle.m11_obj.specs.Records.{Content, Gsd, EndOfGsd, Text, Relocations, InternalSymbols, EndOfModule}
use Rattle.m11_obj.specs.Reading.{◌>>=◌, first_word, first_entry, items_of, entries_of, first_type, content_after, content_of, IsRecord, kind_in, record_kind, entries_in, record_entries, text_in, record_text}
use Rattle.m11_obj.proofs.FieldsOf.{bind_ok, ok_value, parts_of, entries_length, entry_is_at, word_takes}

-- ---- the type

abbrev pub done : {A : Type 0} → A → Result A RecordFault
done x = Ok x

type_is : (x y : RecordKind × List ℕ) → done x ≡ done y → x.0 ≡ y.0
type_is x y e = let same : x ≡ y = cc in ap (λ (p : RecordKind × List ℕ). p.0) same

pub kind_found : (bytes : List ℕ) (k : RecordKind) (rest : List ℕ) → IsRecord bytes → first_type bytes ≡ Ok (k, rest)
    → record_kind bytes ≡ Ok k
kind_found bytes k rest is typed =
    let c = ok_value (content_of bytes) is in
    let p = parts_of bytes c.0 c.1 in
    let same : kind_in c.0 ≡ k = p.same ∙ type_is (p.type, p.rest) (k, rest) (sym p.typed ∙ typed) in
    ap (λ (r : Result Content RecordFault). r >>= λ content. Ok (kind_in content)) c.1
    ∙ ap (λ (l : RecordKind). done l) same

pub type_is_found : (bytes : List ℕ) (fault : RecordFault) → IsRecord bytes → first_type bytes ≡ Err fault → ⊥
type_is_found bytes fault is typed =
    let c = ok_value (content_of bytes) is in
    let p = parts_of bytes c.0 c.1 in
    let made : RecordKind × List ℕ = (p.type, p.rest) in
    let both : done made ≡ Err fault = sym p.typed ∙ typed in
    absurd cc

text_by_kind : (r : Result Content RecordFault) → (r >>= λ content. Ok (kind_in content)) ≡ Ok kind.Text
    → IsSome (text_in r)
text_by_kind (Ok (Gsd entries)) e = absurd cc
text_by_kind (Ok EndOfGsd) e = absurd cc
text_by_kind (Ok (Text address bytes)) e = refl
text_by_kind (Ok (Relocations relocations)) e = absurd cc
text_by_kind (Ok InternalSymbols) e = absurd cc
text_by_kind (Ok EndOfModule) e = absurd cc
text_by_kind (Err fault) e = absurd cc

pub text_found : (bytes : List ℕ) → record_kind bytes ≡ Ok kind.Text → IsSome (record_text bytes)
text_found bytes e = text_by_kind (content_of bytes) e

-- ---- entries

gsd_parts : (bytes : List ℕ) (entries : List GsdEntry) → content_of bytes ≡ Ok (Gsd entries)
    → (2 ≤ length bytes) × (entries_of (drop 2 bytes) ≡ Ok entries)
unfolding content_after
gsd_parts bytes entries e =
    let p = parts_of bytes (Gsd entries) e in
    let says : content_after kind.Gsd p.rest ≡ Ok (Gsd entries) =
    subst (λ (k : RecordKind). content_after k p.rest ≡ Ok (Gsd entries)) (sym p.same) p.says in
    let a = bind_ok (entries_of p.rest) (λ es. Ok (Gsd es)) (Gsd entries) says in
    let same : a.0 ≡ entries = (let both : done (Gsd a.0) ≡ done (Gsd entries) = a.2 in cc) in
    (p.takes.enough, ap entries_of (sym p.takes.following) ∙ a.1 ∙ ap (λ (es : List GsdEntry). done es) same)

gsd_length : (bytes : List ℕ) (entries : List GsdEntry) → content_of bytes ≡ Ok (Gsd entries)
    → length bytes ≡ 2 + 8 * length entries
unfolding entries_of items_of
gsd_length bytes entries e =
    let p = gsd_parts bytes entries e in
    let long = entries_length (length (drop 2 bytes)) (drop 2 bytes) entries (omega arith) p.1 in
    omega (arith, length-drop 2 bytes, p.0)

count_by_kind : (bytes : List ℕ) (r : Result Content RecordFault) → content_of bytes ≡ r
    → (r >>= λ content. Ok (kind_in content)) ≡ Ok kind.Gsd → length bytes ≡ 2 + 8 * length (entries_in r)
count_by_kind bytes (Ok (Gsd entries)) is e = gsd_length bytes entries is
count_by_kind bytes (Ok EndOfGsd) is e = absurd cc
count_by_kind bytes (Ok (Text address text)) is e = absurd cc
count_by_kind bytes (Ok (Relocations relocations)) is e = absurd cc
count_by_kind bytes (Ok InternalSymbols) is e = absurd cc
count_by_kind bytes (Ok EndOfModule) is e = absurd cc
count_by_kind bytes (Err fault) is e = absurd cc

pub entries_counted : (bytes : List ℕ) → record_kind bytes ≡ Ok kind.Gsd
    → length bytes ≡ 2 + 8 * length (record_entries bytes)
entries_counted bytes e = count_by_kind bytes (content_of bytes) refl e

none_by_kind : (r : Result Content RecordFault) (k : RecordKind) → (r >>= λ content. Ok (kind_in content)) ≡ Ok k
    → k ≢ kind.Gsd → length (entries_in r) ≡ 0
none_by_kind (Ok (Gsd entries)) k e ne =
    (let same : kind.Gsd ≡ k = (let both : done kind.Gsd ≡ done k = e in cc) in absurd (ne (sym same)))
none_by_kind (Ok EndOfGsd) k e ne = refl
none_by_kind (Ok (Text address bytes)) k e ne = refl
none_by_kind (Ok (Relocations relocations)) k e ne = refl
none_by_kind (Ok InternalSymbols) k e ne = refl
none_by_kind (Ok EndOfModule) k e ne = refl
none_by_kind (Err fault) k e ne = refl

pub no_entries : (bytes : List ℕ) (k : RecordKind) → record_kind bytes ≡ Ok k → k ≢ kind.Gsd
    → length (record_entries bytes) ≡ 0
no_entries bytes k e ne = none_by_kind (content_of bytes) k e ne

-- the entry at an index is read from its place in the bytes: 8 bytes for each entry before it, after the type word
abbrev FoundAt : List ℕ → List GsdEntry → ℕ → GsdEntry → Type 0
FoundAt bytes entries i d =
    (2 + 8 * i ≤ length bytes)
    × ((rest : List ℕ) × (first_entry (drop (2 + 8 * i) bytes) ≡ Ok (get_or entries i d, rest)))

found_by_content : (bytes : List ℕ) (r : Result Content RecordFault) (i : ℕ) (d : GsdEntry) → content_of bytes ≡ r
    → i < length (entries_in r) → FoundAt bytes (entries_in r) i d
unfolding entries_of items_of
found_by_content bytes (Ok (Gsd entries)) i d is lt =
    let p = gsd_parts bytes entries is in
    let found = entry_is_at (length (drop 2 bytes)) i (drop 2 bytes) entries d p.1 lt in
    (omega (arith, gsd_length bytes entries is), (found.0, ap first_entry (sym (drop-drop (8 * i) 2 bytes)) ∙ found.1))
found_by_content bytes (Ok EndOfGsd) i d is lt = absurd (omega arith)
found_by_content bytes (Ok (Text address text)) i d is lt = absurd (omega arith)
found_by_content bytes (Ok (Relocations relocations)) i d is lt = absurd (omega arith)
found_by_content bytes (Ok InternalSymbols) i d is lt = absurd (omega arith)
found_by_content bytes (Ok EndOfModule) i d is lt = absurd (omega arith)
found_by_content bytes (Err fault) i d is lt = absurd (omega arith)

pub entry_found : (bytes : List ℕ) (i : ℕ) (d : GsdEntry) → i < length (record_entries bytes)
    → FoundAt bytes (record_entries bytes) i d
entry_found bytes i d lt = found_by_content bytes (content_of bytes) i d refl lt

-- ---- text

text_same : (x y : ℕ × List ℕ) → done (Text x.0 x.1) ≡ done (Text y.0 y.1) → done x ≡ done y
text_same x y e =
    let first : x.0 ≡ y.0 = cc in
    let second : x.1 ≡ y.1 = cc in
    ap (λ (number : ℕ). done (number, x.1)) first ∙ ap (λ (rest : List ℕ). done (y.0, rest)) second

text_parts : (bytes : List ℕ) (address : ℕ) (text : List ℕ) → content_of bytes ≡ Ok (Text address text)
    → (4 ≤ length bytes) × (first_word (drop 2 bytes) ≡ Ok (address, text)) × (text ≡ drop 4 bytes)
unfolding content_after
text_parts bytes address text e =
    let p = parts_of bytes (Text address text) e in
    let says : content_after kind.Text p.rest ≡ Ok (Text address text) =
    subst (λ (k : RecordKind). content_after k p.rest ≡ Ok (Text address text)) (sym p.same) p.says in
    let a = bind_ok (first_word p.rest) (λ word. Ok (Text word.0 word.1)) (Text address text) says in
    let found : first_word (drop 2 bytes) ≡ Ok (address, text) =
    ap first_word (sym p.takes.following) ∙ a.1 ∙ text_same a.0 (address, text) a.2 in
    let t = word_takes (drop 2 bytes) (address, text) found in
    (omega (arith, t.enough, p.takes.enough, length-drop 2 bytes), found, t.following ∙ drop-drop 2 2 bytes)

-- the places of a text record's load address and bytes
pub record IsTextOf (bytes : List ℕ) (text : ℕ × List ℕ) : Type 0 where
  pub enough : 4 ≤ length bytes
  pub address : first_word (drop 2 bytes) ≡ Ok text
  pub following : text.1 ≡ drop 4 bytes

text_by_content : (bytes : List ℕ) (r : Result Content RecordFault) → content_of bytes ≡ r → IsSome (text_in r)
    → (text : ℕ × List ℕ) × (text_in r ≡ Some text) × IsTextOf bytes text
text_by_content bytes (Ok (Text address text)) is some =
    let p = text_parts bytes address text is in
    ((address, text), refl, record { enough = p.0; address = p.1; following = p.2 })
text_by_content bytes (Ok (Gsd entries)) is some = absurd cc
text_by_content bytes (Ok EndOfGsd) is some = absurd cc
text_by_content bytes (Ok (Relocations relocations)) is some = absurd cc
text_by_content bytes (Ok InternalSymbols) is some = absurd cc
text_by_content bytes (Ok EndOfModule) is some = absurd cc
text_by_content bytes (Err fault) is some = absurd cc

pub text_is : (bytes : List ℕ) → IsSome (record_text bytes)
    → (text : ℕ × List ℕ) × (record_text bytes ≡ Some text) × IsTextOf bytes text
text_is bytes some = text_by_content bytes (content_of bytes) refl some

-- ---- what the calls read

blank_entry : GsdEntry
blank_entry = record { name = (0, 0); flags = 0; kind = ModuleName; value = 0 }

pub entry_bounds : (bytes : List ℕ) (i : ℕ) → i < length (record_entries bytes) → 2 + 8 * i ≤ length bytes
entry_bounds bytes i lt = (entry_found bytes i blank_entry lt).0

entry_is : (x y : GsdEntry × List ℕ) → done x ≡ done y → x.0 ≡ y.0
entry_is x y e = let same : x ≡ y = cc in ap (λ (p : GsdEntry × List ℕ). p.0) same

pub entry_read : (bytes back : List ℕ) (i : ℕ) (entry : GsdEntry) (others : List ℕ) → i < length (record_entries bytes)
    → back ≡ drop (2 + 8 * i) bytes → first_entry back ≡ Ok (entry, others)
    → slice_get (record_entries bytes) i ≡ Some entry
entry_read bytes back i entry others lt is read =
    let found = (entry_found bytes i entry lt).1 in
    let there : first_entry back ≡ Ok (get_or (record_entries bytes) i entry, found.0) = ap first_entry is ∙ found.1 in
    let same : get_or (record_entries bytes) i entry ≡ entry =
    entry_is (get_or (record_entries bytes) i entry, found.0) (entry, others) (sym there ∙ read) in
    slice_get-get_or (record_entries bytes) i entry lt ∙ ap (λ (e : GsdEntry). Some e) same

pub entry_is_read : (bytes back : List ℕ) (i : ℕ) (fault : RecordFault) → i < length (record_entries bytes)
    → back ≡ drop (2 + 8 * i) bytes → first_entry back ≡ Err fault → ⊥
entry_is_read bytes back i fault lt is read =
    let found = (entry_found bytes i blank_entry lt).1 in
    let made : GsdEntry × List ℕ = (get_or (record_entries bytes) i blank_entry, found.0) in
    let both : done made ≡ Err fault = sym found.1 ∙ sym (ap first_entry is) ∙ read in
    absurd cc

pub text_bounds : (bytes : List ℕ) → IsSome (record_text bytes) → 4 ≤ length bytes
text_bounds bytes some = (text_is bytes some).2.enough

pub text_read : (bytes back : List ℕ) (text : ℕ × List ℕ) → IsSome (record_text bytes) → back ≡ drop 2 bytes
    → first_word back ≡ Ok text → record_text bytes ≡ Some text
text_read bytes back text some is read =
    let t = text_is bytes some in
    let both : done t.0 ≡ done text = sym t.2.address ∙ sym (ap first_word is) ∙ read in
    let same : t.0 ≡ text = cc in
    t.1 ∙ ap (λ (x : ℕ × List ℕ). Some x) same

pub text_within : (bytes back : List ℕ) (text : ℕ × List ℕ) → back ≡ drop 2 bytes → first_word back ≡ Ok text
    → length text.1 ≤ length bytes
text_within bytes back text is read = omega (
  arith,
  ap length (word_takes back text read).following,
  length-drop 2 back,
  ap length is,
  length-drop 2 bytes,
)

pub text_is_read : (bytes back : List ℕ) (fault : RecordFault) → IsSome (record_text bytes) → back ≡ drop 2 bytes
    → first_word back ≡ Err fault → ⊥
text_is_read bytes back fault some is read =
    let t = text_is bytes some in
    let both : done t.0 ≡ Err fault = sym t.2.address ∙ sym (ap first_word is) ∙ read in
    absurd cc

pub text_fits : (bytes : List ℕ) (address : ℕ) (text : List ℕ) → content_of bytes ≡ Ok (Text address text)
    → length text ≤ length bytes
text_fits bytes address text is =
    let p = text_parts bytes address text is in omega (arith, ap length p.2, length-drop 4 bytes)
