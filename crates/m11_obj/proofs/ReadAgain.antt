-- The bytes that are written for a record are read as that record.
use Rattle.std.proofs.Common.{◌≡◌, ℕ, zero, suc, ◌+◌, ◌*◌, ◌/◌, ◌%◌, ◌<◌, ◌≤◌, ◌^◌, true, ltb, List, [], ◌∷◌, ◌++◌, length, Ok, refl, ap, ◌∙◌, append_assoc, arith, length-append}
use Rattle.std.specs.List.{AllByRecursion}
use Rattle.std.proofs.lemmas.Bool.{lt-ltb}
use Rattle.std.proofs.lemmas.List.Elements.{recursion_from_All}
use Rattle.m11_base.specs.Rad50.{IsName, word_limit}
use Rattle.m11_obj.specs.declared.gsd.GsdKind.{GsdKind}
use Rattle.m11_obj.specs.declared.gsd.GsdKind.TheVariants.{ModuleName, ControlSection, InternalSymbol, TransferAddress, GlobalSymbol, ProgramSection, Identification}
use Rattle.m11_obj.specs.declared.gsd.GsdEntry.{GsdEntry}
use Rattle.m11_obj_blocks.specs.Frames.{word_bytes}
use Rattle.m11_obj.specs.Gsd.{kind_code, name_bytes, entry_bytes, entries_bytes, EntryFits, EntriesFit}
use Rattle.m11_obj.specs.Reading.{first_word, first_name_word, first_name, entry_kind, first_entry, items_within, items_of, entries_of}

-- ---- words and names

pub word_again : (word : ℕ) (rest : List ℕ) → word < 2 ^ 16 → first_word (word_bytes word ++ rest) ≡ Ok (word, rest)
unfolding first_word
word_again word rest lt =
    let sum : word % 256 + 256 * (word / 256 % 256) ≡ word = omega arith in
    ap (λ (w : ℕ). Ok (w, rest)) sum

name_word_again : (word : ℕ) (rest : List ℕ) → word < word_limit
    → first_name_word (word_bytes word ++ rest) ≡ Ok (word, rest)
unfolding first_name_word
name_word_again word rest lt =
    let below : ltb word 64000 ≡ true = lt-ltb _ _ lt in
    rw (word_again word rest (omega arith), below) refl

pub name_again : (name : ℕ × ℕ) (rest : List ℕ) → IsName name → first_name (name_bytes name ++ rest) ≡ Ok (name, rest)
unfolding first_name
name_again name rest is =
    let split : name_bytes name ++ rest ≡ word_bytes name.0 ++ (word_bytes name.1 ++ rest) =
    append_assoc (word_bytes name.0) (word_bytes name.1) rest in
    ap first_name split ∙ rw (
      name_word_again name.0 (word_bytes name.1 ++ rest) is.0,
      name_word_again name.1 rest is.1,
    ) refl

-- ---- entries

kind_again : (kind : GsdKind) → entry_kind (kind_code kind) ≡ Ok kind
unfolding entry_kind
kind_again ModuleName = refl
kind_again ControlSection = refl
kind_again InternalSymbol = refl
kind_again TransferAddress = refl
kind_again GlobalSymbol = refl
kind_again ProgramSection = refl
kind_again Identification = refl

pub entry_again : (entry : GsdEntry) (rest : List ℕ) → EntryFits entry
    → first_entry (entry_bytes entry ++ rest) ≡ Ok (entry, rest)
unfolding first_entry
entry_again entry rest fits =
    let following : List ℕ = entry.flags ∷ kind_code entry.kind ∷ (word_bytes entry.value ++ rest) in
    let split : entry_bytes entry ++ rest ≡ name_bytes entry.name ++ following =
    append_assoc (name_bytes entry.name) (entry.flags ∷ kind_code entry.kind ∷ word_bytes entry.value) rest in
    ap first_entry split
    ∙ rw (name_again entry.name following fits.name, kind_again entry.kind, word_again entry.value rest fits.value)
    refl

-- the bytes of entries are at least as many as the entries
entries_count : (entries : List GsdEntry) → length entries ≤ length (entries_bytes entries)
entries_count [] = omega arith
entries_count (entry ∷ entries) =
    let others = entries_count entries in
    omega (arith, length-append (entry_bytes entry) (entries_bytes entries))

entries_within_again : (n : ℕ) (entries : List GsdEntry) → length entries ≤ n → AllByRecursion EntryFits entries
    → items_within first_entry n (entries_bytes entries) ≡ Ok entries
unfolding items_within
entries_within_again zero [] le fits = refl
entries_within_again (suc n) [] le fits = refl
entries_within_again zero (entry ∷ entries) le fits = absurd (omega arith)
entries_within_again (suc n) (entry ∷ entries) le fits =
    rw (entry_again entry (entries_bytes entries) fits.0, entries_within_again n entries (omega arith) fits.1) refl

pub entries_again : (entries : List GsdEntry) → EntriesFit entries → entries_of (entries_bytes entries) ≡ Ok entries
unfolding entries_of items_of
entries_again entries fits =
    entries_within_again (length (entries_bytes entries)) entries (entries_count entries)
    (recursion_from_All EntryFits entries fits)
