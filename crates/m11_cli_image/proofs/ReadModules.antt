-- The parts of a source's object are one module: its directory, and then its texts.
use Rattle.std.proofs.Common.{◌≡◌, ◌∙◌, Bool, true, false, if◌then◌else◌, List, [], ◌∷◌, ◌++◌, map, flat_map, append_assoc, ap, refl}
use Rattle.std.specs.Prelude.{⊤}
use Rattle.std.specs.List.{AllByRecursion}
use Rattle.std.proofs.lemmas.List.Concat.{flat_map-append}
use Rattle.std.proofs.lemmas.List.Folds.{flat_map-map}
use Rattle.m11_asm_outputs.specs.Object.{texts_of}
use Rattle.m11_asm_directory.specs.Rows.{directory_rows}
use Rattle.m11_link_modules.specs.Grammar.{BodyRecord, Module, RelocationRecord, TextRecord, body_parts, directory_parts, module_parts}
use Rattle.m11_link_modules.specs.Parts.{EndOfDirectory, EndOfModule, parts_of}
use Rattle.m11_obj.specs.declared.gsd.GsdEntry.{GsdEntry}
use Rattle.m11_obj.specs.declared.relocations.Relocation.{Relocation}
use Rattle.m11_obj.specs.Records.{Content, EndOfGsd, Gsd, InternalSymbols, Relocations, Text}
use Rattle.m11_obj.specs.Records as records
use Rattle.m11_obj.specs.Directory.{record_cutting}
use Rattle.m11_obj.specs.Texts.{TextParts, is_in_section, records_of, relocation_records, selection, text_records}
use Rattle.m11_cli_image.specs.Objects.{source_parts}
use Rattle.m11_cli_image.specs.Sources.{Source}

-- ---- the records of texts

abbrev pub IsBody : Content → Type 0
IsBody (Text address bytes) = ⊤
IsBody (Relocations relocations) = ⊤
IsBody content = ⊥

abbrev pub body_of : Content → List BodyRecord
body_of (Text address bytes) = TextRecord address bytes ∷ []
body_of (Relocations relocations) = RelocationRecord relocations ∷ []
body_of content = []

both : (xs ys : List Content) → AllByRecursion IsBody xs → AllByRecursion IsBody ys → AllByRecursion IsBody (xs ++ ys)
both [] ys h k = k
both (x ∷ xs) ys h k = (h.0, both xs ys h.1 k)

selects : (b : Bool) (text : TextParts)
    → AllByRecursion IsBody (if b then [] else selection text.section text.location ∷ [])
selects true text = tt
selects false text = (tt, tt)

relocates : (relocations : List Relocation) → AllByRecursion IsBody (relocation_records relocations)
relocates [] = tt
relocates (first ∷ rest) = (tt, tt)

pub texts_are_body : (texts : List TextParts) → AllByRecursion IsBody (flat_map records_of texts)
texts_are_body [] = tt
texts_are_body (text ∷ texts) =
    both (records_of text) (flat_map records_of texts)
    (both _ (Text text.location text.bytes ∷ relocation_records text.relocations)
    (selects (is_in_section text.before text.section) text) (tt, relocates text.relocations))
    (texts_are_body texts)

body_is : (contents : List Content) → AllByRecursion IsBody contents
    → flat_map parts_of contents ≡ flat_map body_parts (flat_map body_of contents)
body_is [] h = refl
body_is (Text address bytes ∷ contents) h = ap (λ parts. parts_of (Text address bytes) ++ parts) (body_is contents h.1)
body_is (Relocations relocations ∷ contents) h =
    ap (λ parts. parts_of (Relocations relocations) ++ parts) (body_is contents h.1)
body_is (Gsd entries ∷ contents) h = absurd h.0
body_is (EndOfGsd ∷ contents) h = absurd h.0
body_is (InternalSymbols ∷ contents) h = absurd h.0
body_is (records.EndOfModule ∷ contents) h = absurd h.0

-- ---- the module

abbrev pub module_of : Source → Module
module_of source = record {
  directory = record_cutting (directory_rows source.facts);
  body = flat_map body_of (text_records source.pieces);
}

-- the parts of a source are those of its directory, the end of the directory, those of its texts, and the end of the module
pub split : (source : Source) → source_parts source
    ≡ flat_map directory_parts (record_cutting (directory_rows source.facts))
    ++ EndOfDirectory ∷ flat_map parts_of (text_records source.pieces) ++ EndOfModule ∷ []
split source =
    let cut = record_cutting (directory_rows source.facts) in
    let texts = text_records source.pieces in
    let gsd : List GsdEntry → Content = λ entries. Gsd entries in
    let head : List Content = map gsd cut ++ EndOfGsd ∷ [] in
    flat_map-append parts_of (head ++ texts) (records.EndOfModule ∷ [])
    ∙ ap (λ parts. parts ++ EndOfModule ∷ []) (flat_map-append parts_of head texts
    ∙ ap (λ parts. parts ++ flat_map parts_of texts) (flat_map-append parts_of (map gsd cut) (EndOfGsd ∷ []))
    ∙ append_assoc (flat_map parts_of (map gsd cut)) (EndOfDirectory ∷ []) (flat_map parts_of texts)
    ∙ ap (λ directory. directory ++ EndOfDirectory ∷ flat_map parts_of texts) (flat_map-map parts_of gsd cut))

pub are_body : (source : Source) → AllByRecursion IsBody (text_records source.pieces)
are_body source = texts_are_body (texts_of source.pieces)

pub is_module : (source : Source) → source_parts source ≡ module_parts (module_of source)
is_module source =
    split source
    ∙ ap (λ body. flat_map directory_parts (record_cutting (directory_rows source.facts)) ++ EndOfDirectory ∷ body
    ++ EndOfModule ∷ []) (body_is (text_records source.pieces) (are_body source))
