-- The facts that are recorded about parts.
use Rattle.std.proofs.Common.{◌≡◌, ◌∙◌, ℕ, ◌+◌, ◌≤◌, List, [], ◌∷◌, ◌++◌, append-nil, append_assoc, length, drop, map, slice_get, Some, Result, Ok, Err, refl, sym, ap}
use Rattle.std.specs.List.{filter_map}
use Rattle.std.specs.Prelude.{OnOk}
use Rattle.std.proofs.lemmas.List.{drop_all}
use Rattle.std.proofs.lemmas.List.Elements.{filter_map-append}
use Rattle.m11_link_modules.proofs.Indexing.{drop_at}
use Rattle.m11_link_modules.specs.Parts.{Part, EndOfFile, Entry, Relocated, parts_in, record_parts}
use Rattle.m11_obj.specs.Contents.{unread_content, unread_directory}
use Rattle.m11_obj.specs.Reading.{◌>>=◌, content_of, entries_of, relocations_of}
use Rattle.m11_obj.specs.Records.{Content}
use Rattle.m11_obj.specs.Records as records
use Rattle.m11_obj.specs.declared.fault.RecordFault.{RecordFault}
use Rattle.m11_obj.specs.declared.gsd.GsdEntry.{GsdEntry}
use Rattle.m11_obj.specs.declared.relocations.Relocation.{Relocation}
use Rattle.m11_link_load_map.specs.Noted.{noted_in, noted_of}
use Rattle.m11_link_load_map.specs.declared.noted.MapFact.{MapFact}
use Rattle.m11_link_load_map.specs.declared.noted.MapFact.TheVariants.{ModuleEnd}

pub noted-append : (xs ys : List Part) → noted_of (xs ++ ys) ≡ noted_of xs ++ noted_of ys
unfolding noted_of
noted-append xs ys = filter_map-append noted_in xs ys

pub noted_end : (parts : List Part) → noted_of (parts ++ EndOfFile ∷ []) ≡ noted_of parts
unfolding noted_of
noted_end parts = filter_map-append noted_in parts (EndOfFile ∷ []) ∙ append-nil (filter_map noted_in parts)

-- no fact is recorded about relocations
none_relocated : (relocations : List Relocation) → filter_map noted_in (map (λ relocation. Relocated relocation) relocations) ≡ []
none_relocated [] = refl
none_relocated (relocation ∷ relocations) = none_relocated relocations

nothing : (old more : List MapFact) → more ≡ [] → old ≡ old ++ more
nothing old more e = sym (append-nil old) ∙ ap (λ (these : List MapFact). old ++ these) (sym e)

noted_content : (bytes : List ℕ) (read : Result Content RecordFault) → content_of bytes ≡ read
    → noted_of (record_parts bytes) ≡ noted_of (parts_in read)
noted_content bytes read e = ap (λ (content : Result Content RecordFault). noted_of (parts_in content)) e

pub of_text : (old : List MapFact) (bytes text : List ℕ) (address : ℕ) → content_of bytes ≡ Ok (records.Text address text)
    → old ≡ old ++ noted_of (record_parts bytes)
unfolding noted_of
of_text old bytes text address e =
    nothing old (noted_of (record_parts bytes)) (noted_content bytes (Ok (records.Text address text)) e)

unread_none : (read : Result (List Relocation) RecordFault) (content : Result Content RecordFault)
    → content ≡ (read >>= λ relocations. Ok (records.Relocations relocations)) → noted_of (parts_in content) ≡ []
unfolding noted_of
unread_none (Ok relocations) content e =
    ap (λ (c : Result Content RecordFault). noted_of (parts_in c)) e ∙ none_relocated relocations
unread_none (Err fault) content e = ap (λ (c : Result Content RecordFault). noted_of (parts_in c)) e

pub of_none : (old : List MapFact) (bytes : List ℕ) (fault : RecordFault) → content_of bytes ≡ Err fault
    → old ≡ old ++ noted_of (record_parts bytes)
unfolding noted_of
of_none old bytes fault e = nothing old (noted_of (record_parts bytes)) (noted_content bytes (Err fault) e)

pub of_relocations : (old : List MapFact) (bytes unread : List ℕ) → content_of bytes ≡ unread_content unread
    → old ≡ old ++ noted_of (record_parts bytes)
of_relocations old bytes unread e =
    nothing old (noted_of (record_parts bytes)) (unread_none (relocations_of unread) (content_of bytes) e)

pub of_directory_end : (old : List MapFact) (bytes : List ℕ) → content_of bytes ≡ Ok records.EndOfGsd
    → old ≡ old ++ noted_of (record_parts bytes)
unfolding noted_of
of_directory_end old bytes e = nothing old (noted_of (record_parts bytes)) (noted_content bytes (Ok records.EndOfGsd) e)

pub of_symbols : (old : List MapFact) (bytes : List ℕ) → content_of bytes ≡ Ok records.InternalSymbols
    → old ≡ old ++ noted_of (record_parts bytes)
unfolding noted_of
of_symbols old bytes e = nothing old (noted_of (record_parts bytes)) (noted_content bytes (Ok records.InternalSymbols) e)

pub of_module_end : (old new : List MapFact) (bytes : List ℕ) → content_of bytes ≡ Ok records.EndOfModule
    → new ≡ old ++ ModuleEnd ∷ [] → new ≡ old ++ noted_of (record_parts bytes)
unfolding noted_of
of_module_end old new bytes e is =
    is ∙ ap (λ (these : List MapFact). old ++ these) (sym (noted_content bytes (Ok records.EndOfModule) e))

-- ---- the entries of a directory

unread_entries : (bytes unread : List ℕ) (read : Result (List GsdEntry) RecordFault)
    → content_of bytes ≡ unread_directory unread → entries_of unread ≡ read
    → content_of bytes ≡ (read >>= λ entries. Ok (records.Gsd entries))
unread_entries bytes unread read e is =
    e ∙ ap (λ (r : Result (List GsdEntry) RecordFault). r >>= λ entries. Ok (records.Gsd entries)) is

pub of_directory : (old new : List MapFact) (bytes unread : List ℕ) (entries : List GsdEntry)
    → content_of bytes ≡ unread_directory unread → entries_of unread ≡ Ok entries
    → new ≡ old ++ noted_of (map (λ entry. Entry entry) entries) → new ≡ old ++ noted_of (record_parts bytes)
unfolding noted_of
of_directory old new bytes unread entries e is noted =
    noted ∙ ap (λ (these : List MapFact). old ++ these)
    (sym (noted_content bytes (Ok (records.Gsd entries)) (unread_entries bytes unread (Ok entries) e is)))

-- if recording the facts of a directory succeeds, those of its entries come after the old facts
pub of_directory_noted : {A E : Type 0} (result : Result A E) (old new : List MapFact) (bytes unread : List ℕ) (entries : List GsdEntry)
    → content_of bytes ≡ unread_directory unread → entries_of unread ≡ Ok entries
    → OnOk result (new ≡ old ++ noted_of (map (λ entry. Entry entry) entries))
    → OnOk result (new ≡ old ++ noted_of (record_parts bytes))
of_directory_noted (Ok done) old new bytes unread entries e is noted = of_directory old new bytes unread entries e is noted
of_directory_noted (Err refused) old new bytes unread entries e is noted = tt

pub of_bad_directory : (old : List MapFact) (bytes unread : List ℕ) (fault : RecordFault)
    → content_of bytes ≡ unread_directory unread → entries_of unread ≡ Err fault
    → old ≡ old ++ noted_of (record_parts bytes)
of_bad_directory old bytes unread fault e is =
    of_none old bytes fault (unread_entries bytes unread (Err fault) e is)

abbrev of_entries : List GsdEntry → List MapFact
of_entries entries = noted_of (map (λ entry. Entry entry) entries)

entry_left : (entries : List GsdEntry) (index : ℕ) (entry : GsdEntry) → slice_get entries index ≡ Some entry
    → of_entries (drop index entries) ≡ noted_of (Entry entry ∷ []) ++ of_entries (drop (index + 1) entries)
entry_left entries index entry e =
    ap of_entries (drop_at entries index entry e)
    ∙ noted-append (Entry entry ∷ []) (map (λ entry. Entry entry) (drop (index + 1) entries))

pub entry_noted : (all now later : List MapFact) (entries : List GsdEntry) (index : ℕ) (entry : GsdEntry)
    → slice_get entries index ≡ Some entry
    → now ++ noted_of (map (λ entry. Entry entry) (drop index entries)) ≡ all
    → later ≡ now ++ noted_of (Entry entry ∷ [])
    → later ++ noted_of (map (λ entry. Entry entry) (drop (index + 1) entries)) ≡ all
entry_noted all now later entries index entry e h l =
    ap (λ (these : List MapFact). these ++ of_entries (drop (index + 1) entries)) l
    ∙ append_assoc now (noted_of (Entry entry ∷ [])) (of_entries (drop (index + 1) entries))
    ∙ ap (λ (these : List MapFact). now ++ these) (sym (entry_left entries index entry e)) ∙ h

pub entries_noted : (all now : List MapFact) (entries : List GsdEntry) (index : ℕ) → length entries ≤ index
    → now ++ noted_of (map (λ entry. Entry entry) (drop index entries)) ≡ all → now ≡ all
unfolding noted_of
entries_noted all now entries index le h =
    nothing now (of_entries (drop index entries)) (ap of_entries (drop_all index entries le)) ∙ h
