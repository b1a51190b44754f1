-- The tape of a link of objects of sources holds the image of the sources.
use Rattle.std.proofs.Common.{◌≡◌, ◌∙◌, ℕ, false, List, [], ◌∷◌, map, Option, Some, None, Result, Ok, refl, sym, subst, arith}
use Rattle.std.specs.List.{AllByRecursion}
use Rattle.m11_asm_laws.specs.Targets.{AreWords}
use Rattle.m11_base.specs.Feed.{Text}
use Rattle.m11_cpu.specs.Loading.{LoadsInto}
use Rattle.m11_cpu.specs.declared.fault.LoadFault.{LoadFault}
use Rattle.m11_cpu_machine.specs.declared.machine.Machine.{Machine}
use Rattle.m11_link_modules.specs.Parts.{Part, EndOfFile}
use Rattle.m11_link_modules.specs.Rules.{first_fault}
use Rattle.m11_link_layout.specs.Sections.{is_too_large, module_base}
use Rattle.m11_base_writes.specs.declared.outputs.Output.TheVariants.{Product}
use Rattle.m11_link.specs.Objects.{AreItems, Item, outcome}
use Rattle.m11_link.specs.Outputs.{link}
use Rattle.m11_link.specs.Written.{link_writes}
use Rattle.m11_link_text.specs.Findings.{findings_of}
use Rattle.m11_link_laws.specs.LinkedTexts.{linked_text}
use Rattle.m11_cpu_laws.specs.Image.{byte_of}
use Rattle.m11_cpu_laws.specs.Loaded.{LoadYields}
use Rattle.m11_cpu_laws.specs.Tapes.{IsTapeOf, transfer_address}
use Rattle.m11_cpu_laws.proofs.LoadsYield.{yields}
use Rattle.m11_base_writes.specs.Writes.{gained}
use Rattle.m11_cli_image.specs.Found.{AreFound}
use Rattle.m11_cli_image.specs.Image.{addresses_of, image_of}
use Rattle.m11_cli_image.specs.Links.{all_texts, beginning, linked_blocks}
use Rattle.m11_cli_image.specs.Objects.{SourceFits, contents_of, link_parts, object_of, object_parts, source_parts}
use Rattle.m11_cli_image.specs.Sources.{Source}
use Rattle.m11_cli_image.proofs.AbsoluteSection.{lies_at_zero}
use Rattle.m11_cli_image.proofs.BlocksGiven.{Ends, HoldsPieces, all_sources, with_data}
use Rattle.m11_cli_image.proofs.GlobalWords.{AreWordParts, IsWordPart, all_then, global_word, records_words}
use Rattle.m11_cli_image.proofs.LinkedLocations.{lies_by_sources}
use Rattle.m11_cli_image.proofs.LinkedTapes.{are_linked}
use Rattle.m11_cli_image.proofs.ReadDirectories.{has_texts}
use Rattle.m11_cli_image.proofs.StartsFound.{start_found}
use Rattle.m11_cli_image.proofs.TextsInside.{texts_end_inside}

-- ---- sources whose records fit

link_words : (sources : List Source) → AllByRecursion SourceFits sources → AreWordParts (link_parts sources)
link_words [] h = tt
link_words (source ∷ sources) h =
    all_then IsWordPart (object_parts source) (link_parts sources)
    (all_then IsWordPart (source_parts source) (EndOfFile ∷ []) (records_words (contents_of source) h.0.records) (tt, tt))
    (link_words sources h.1)

hold_pieces : (sources : List Source) → AllByRecursion HoldsPieces sources
hold_pieces [] = tt
hold_pieces (source ∷ sources) = ((has_texts source).pieces, hold_pieces sources)

-- ---- the findings of a linker

are_words : (bottom : ℕ) (parts : List Part) → AreWordParts parts → AreWords (findings_of bottom parts)
unfolding findings_of module_base
are_words bottom parts words =
    record { bases = λ index name. omega arith; values = λ name. global_word bottom parts name words }

found_by : (bottom : ℕ) (sources : List Source) → AllByRecursion SourceFits sources
    → AreFound (findings_of bottom (link_parts sources)) (addresses_of bottom sources)
unfolding findings_of addresses_of
found_by bottom sources fit =
    let lies = lies_by_sources bottom sources in
    record {
      bases_are = λ index name. sym (lies.base index name);
      globals_are = λ name. sym (lies.global name);
      bottom_is = refl;
      top_is = sym lies.top;
      words = are_words bottom (link_parts sources) (link_words sources fit);
    }

-- ---- the tape of a link

module _ (bottom : ℕ) (sources : List Source) (fit : AllByRecursion SourceFits sources) where
  ends : first_fault [] (link_parts sources) ≡ None → is_too_large bottom (link_parts sources) ≡ false
      → AllByRecursion (Ends (addresses_of bottom sources)) (all_texts sources)
  unfolding addresses_of
  ends sound low = texts_end_inside bottom sources fit sound low

  bytes_are : first_fault [] (link_parts sources) ≡ None → is_too_large bottom (link_parts sources) ≡ false
      → (address : ℕ) → byte_of (linked_blocks bottom sources) address ≡ (image_of bottom sources).byte address
  unfolding image_of
  bytes_are sound low address =
      let found = findings_of bottom (link_parts sources) in
      with_data address (map (linked_text found) (all_texts sources))
      ∙ all_sources found (addresses_of bottom sources) (found_by bottom sources fit) address 0 sources (hold_pieces sources)
      (ends sound low)

  start_is : beginning bottom sources ≡ transfer_address (image_of bottom sources)
  unfolding image_of
  start_is = start_found bottom sources (λ index. lies_at_zero bottom sources index fit)

pub tape_written : (bottom : ℕ) (sources : List Source) (items : List Item) (parts : List Part) → AllByRecursion SourceFits sources
    → AreItems (map object_of sources) items → outcome bottom items ≡ Ok parts
    → IsTapeOf (image_of bottom sources) (gained link Product (link_writes (findings_of bottom parts) parts))
tape_written bottom sources items parts fit are e =
    let linked = are_linked bottom sources items parts fit are e in
    let Sound : List Part → Type 0 = λ these. first_fault [] these ≡ None in
    let Low : List Part → Type 0 = λ these. is_too_large bottom these ≡ false in
    record {
      blocks = linked_blocks bottom sources;
      start = beginning bottom sources;
      consists = linked.tape;
      bytes = bytes_are bottom sources fit (subst Sound linked.parts_are linked.sound) (subst Low linked.parts_are linked.low);
      start_is = start_is bottom sources fit;
    }

-- ---- a load of the tape

pub load_given : (bottom : ℕ) (sources : List Source) (items : List Item) (parts : List Part) (text : Text) (left : Option Text)
    (faults faults' : ℕ) (before after : Machine) (result : Result ℕ LoadFault) → AllByRecursion SourceFits sources
    → AreItems (map object_of sources) items → outcome bottom items ≡ Ok parts
    → text.bytes ≡ gained link Product (link_writes (findings_of bottom parts) parts)
    → LoadsInto (Some text) left faults faults' before after result
    → LoadYields (image_of bottom sources) text.bytes faults faults' before after result
load_given bottom sources items parts text left faults faults' before after result fit are e same load =
    let image = image_of bottom sources in
    yields image text (subst (IsTapeOf image) (sym same) (tape_written bottom sources items parts fit are e)) faults left faults'
    before after result load
