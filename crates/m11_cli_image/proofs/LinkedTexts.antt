-- A link of the objects of sources has the texts of the sources, with the values that their relocations store.
use Rattle.std.proofs.Common.{◌≡◌, ◌∙◌, Bool, true, false, not, if◌then◌else◌, List, [], ◌∷◌, filter, map, refl, ap, ap₂}
use Rattle.m11_link.specs.Written.{PlacedText, placed_text, with_relocation, with_relocations}
use Rattle.m11_link_laws.specs.LinkedTexts.{ObjectText, linked_text, linked_texts, object_texts}
use Rattle.m11_link_laws.specs.Texts.{only_selects}
use Rattle.m11_link_laws.proofs.PlainTextsWritten.{same_text}
use Rattle.m11_link_text.specs.Findings.{Findings}
use Rattle.m11_obj.specs.declared.relocations.Relocation.{Relocation}
use Rattle.m11_obj.specs.declared.relocations.Target.{Target}
use Rattle.m11_obj.specs.declared.relocations.Target.TheVariants.{LocationCounterDefinition, LocationCounterModification}
use Rattle.m11_obj.specs.TextsRead.{is_stored, stores}
use Rattle.m11_cli_image.specs.Links.{all_texts}
use Rattle.m11_cli_image.specs.Objects.{link_parts, stored_alone}
use Rattle.m11_cli_image.specs.Sources.{Source}
use Rattle.m11_cli_image.proofs.LinkedSources.{texts_linked}

selects_or_stores : (target : Target) → not (only_selects target) ≡ stores target
selects_or_stores (LocationCounterDefinition name location) = refl
selects_or_stores (LocationCounterModification location) = refl
selects_or_stores target = refl

-- a first relocation that only selects a section and a location can be left out, since it changes nothing
first_stored : (b : Bool) (found : Findings) (text : PlacedText) (relocation : Relocation) (relocations : List Relocation)
    → not (only_selects relocation.target) ≡ b
    → with_relocations found (with_relocation found text relocation) relocations
    ≡ with_relocations found text (if b then relocation ∷ relocations else relocations)
first_stored true found text relocation relocations e = refl
first_stored false found text relocation relocations e =
    ap (λ (same : PlacedText). with_relocations found same relocations) (same_text found text relocation e)

stored : (found : Findings) (text : PlacedText) (relocations : List Relocation)
    → with_relocations found text relocations ≡ with_relocations found text (filter is_stored relocations)
stored found text [] = refl
stored found text (relocation ∷ relocations) =
    stored found (with_relocation found text relocation) relocations
    ∙ first_stored (is_stored relocation) found text relocation (filter is_stored relocations)
    (selects_or_stores relocation.target)

same_linked : (found : Findings) (text : ObjectText) → linked_text found text ≡ linked_text found (stored_alone text)
same_linked found text =
    ap (λ (whole : PlacedText). (whole.address, whole.bytes)) (stored found
    (placed_text found text.module_index text.section text.address text.bytes) text.relocations)

all_linked : (found : Findings) (texts : List ObjectText)
    → map (linked_text found) texts ≡ map (linked_text found) (map stored_alone texts)
all_linked found [] = refl
all_linked found (text ∷ texts) =
    ap₂ (λ first more. first ∷ more) (same_linked found text) (all_linked found texts)

pub source_texts_linked : (found : Findings) (sources : List Source)
    → linked_texts found (link_parts sources) ≡ map (linked_text found) (all_texts sources)
source_texts_linked found sources =
    all_linked found (object_texts (link_parts sources)) ∙ ap (map (linked_text found)) (texts_linked sources)
