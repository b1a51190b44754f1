-- The tape of a link of objects of sources holds the texts of the sources, and their transfer address.
use Rattle.std.proofs.Common.{◌≡◌, ◌∙◌, ℕ, ◌+◌, Bool, true, false, if◌then◌else◌, List, [], ◌∷◌, filter, find, map, Ok, Err, refl, sym, ap, ap₂, subst}
use Rattle.std.specs.List.{AllByRecursion}
use Rattle.std.specs.Option.{unwrap_or}
use Rattle.m11_obj_blocks.specs.Tapes.{IsTape}
use Rattle.m11_link_layout.specs.Sections.{is_too_large}
use Rattle.m11_link_layout.specs.Transfers.{is_even, transfer_address, transfer_value}
use Rattle.m11_link_layout.specs.declared.definition.Transfer.{Transfer}
use Rattle.m11_link_layout.specs.declared.fault.LinkFault.TheVariants.{TooLarge}
use Rattle.m11_base_writes.specs.declared.outputs.Output.TheVariants.{Product}
use Rattle.m11_link.specs.Objects.{AreItems, Item, outcome, taken, unless_too_large}
use Rattle.m11_link.specs.Outputs.{link}
use Rattle.m11_link.specs.Written.{link_writes}
use Rattle.m11_link.proofs.ItemsAccepted.{PartsOrFault, bind_on}
use Rattle.m11_link_laws.specs.LinkedTexts.{has_data, tape_blocks}
use Rattle.m11_link_laws.proofs.RunsDecided.{taken_of}
use Rattle.m11_link_laws.proofs.TapesOfObjects.{objects_make_a_tape}
use Rattle.m11_link_laws.proofs.WholeObjects.{taken_sound}
use Rattle.m11_link_text.specs.Findings.{findings_of}
use Rattle.m11_link_text.specs.Relocation.{modulo}
use Rattle.m11_link_modules.specs.Parts.{Part}
use Rattle.m11_base_writes.specs.Writes.{gained}
use Rattle.m11_cli_image.specs.Links.{AreLinked, all_transfers, beginning, beginning_at}
use Rattle.m11_cli_image.specs.Objects.{SourceFits, link_parts, object_of}
use Rattle.m11_cli_image.specs.Sources.{Source}
use Rattle.m11_cli_image.proofs.LinkedLocations.{module_same}
use Rattle.m11_cli_image.proofs.LinkedSources.{transfers_linked}
use Rattle.m11_cli_image.proofs.LinkedTexts.{source_texts_linked}
use Rattle.m11_cli_image.proofs.YieldedParts.{yields_parts}

-- ---- the transfer address

values_same : (bottom : ℕ) (sources : List Source) (transfers : List Transfer)
    → map (transfer_value bottom (link_parts sources)) transfers ≡ map (beginning_at bottom sources) transfers
values_same bottom sources [] = refl
values_same bottom sources (transfer ∷ transfers) =
    ap₂ (λ base more. modulo (base + transfer.value) ∷ more)
    (module_same sources bottom transfer.module_index transfer.section) (values_same bottom sources transfers)

begins_same : (bottom : ℕ) (sources : List Source)
    → transfer_address bottom (link_parts sources) ≡ beginning bottom sources
unfolding transfer_address
begins_same bottom sources =
    ap (λ transfers. unwrap_or (find is_even (map (transfer_value bottom (link_parts sources)) transfers)) 1)
    (transfers_linked sources)
    ∙ ap (λ values. unwrap_or (find is_even values) 1) (values_same bottom sources (all_transfers sources))

-- ---- the link

is_low : (b : Bool) (parts : List Part)
    → ◌≡◌ {A = PartsOrFault} (if b then Err TooLarge else Ok parts) (Ok parts) → b ≡ false
is_low true parts e = absurd cc
is_low false parts e = refl

pub are_linked : (bottom : ℕ) (sources : List Source) (items : List Item) (parts : List Part)
    → AllByRecursion SourceFits sources → AreItems (map object_of sources) items → outcome bottom items ≡ Ok parts
    → AreLinked bottom sources parts
are_linked bottom sources items parts fit are e =
    let taken_is = taken_of bottom (taken [] items) parts e in
    let is = yields_parts sources items parts fit are taken_is in
    let tape = gained link Product (link_writes (findings_of bottom parts) parts) in
    let P : List (ℕ × List ℕ) → Type 0 = λ blocks. IsTape blocks (beginning bottom sources) tape in
    let Q : ℕ → Type 0 = λ start. IsTape (tape_blocks (findings_of bottom parts) parts) start tape in
    record {
      parts_are = is;
      sound = taken_sound items parts taken_is;
      low = is_low (is_too_large bottom parts) parts
          (sym (bind_on (taken [] items) (unless_too_large bottom) parts taken_is) ∙ e);
      tape = subst P (ap (λ these. tape_blocks (findings_of bottom these) these) is
          ∙ ap (filter (λ text. has_data text.1)) (source_texts_linked (findings_of bottom (link_parts sources)) sources))
          (subst Q (ap (transfer_address bottom) is ∙ begins_same bottom sources)
          (objects_make_a_tape bottom (map object_of sources) items parts are e));
    }
