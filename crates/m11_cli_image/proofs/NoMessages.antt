-- If a link reports nothing, the entries of each section agree.
use Rattle.std.proofs.Common.{◌≡◌, ◌∙◌, ℕ, Bool, true, false, if◌then◌else◌, List, [], ◌∷◌, ◌++◌, map, Option, Some, None, refl, sym, ap, subst, eqb-true}
use Rattle.std.specs.List.{AllByRecursion, cons_option, filter_map}
use Rattle.std.specs.Map.{lookup}
use Rattle.std.specs.Option.{unwrap_or}
use Rattle.m11_base.specs.Devices.{Bytes}
use Rattle.m11_base.specs.Rad50.{Name, is_same_name}
use Rattle.m11_link_layout.specs.Sections.{attributes_by, attributes_in, entered_attributes, is_relocatable}
use Rattle.m11_base_writes.specs.declared.outputs.Output.TheVariants.{Messages}
use Rattle.m11_link.specs.Front.{front_writes}
use Rattle.m11_link.specs.Outputs.{link}
use Rattle.m11_base_writes.specs.Outputs.{Write, to_messages}
use Rattle.m11_link.specs.Written.{attributes_agree, defined_names, different_writes, link_writes, parts_writes, writes_after, writes_at, writes_by}
use Rattle.m11_link_text.specs.Findings.{Findings, findings_of}
use Rattle.m11_link_text.specs.Lines.{different_line}
use Rattle.m11_link_modules.specs.Parts.{Part, Directory, Entry, EndOfDirectory, Text, Relocations, Relocated, EndOfModule, EndOfFile}
use Rattle.m11_link_modules.specs.Positions.{modules_in}
use Rattle.m11_obj.specs.declared.gsd.GsdEntry.{GsdEntry}
use Rattle.m11_obj.specs.declared.gsd.GsdKind.{GsdKind}
use Rattle.m11_obj.specs.declared.gsd.GsdKind.TheVariants as kind
use Rattle.m11_base_writes.specs.Writes.{gained}
use Rattle.m11_base_writes.proofs.Writing.{gained-append}
use Rattle.m11_cli_image.specs.Links.{HasSources}
use Rattle.m11_cli_image.specs.Objects.{link_parts}
use Rattle.m11_cli_image.specs.Sections.{OwnSection, all_sections, attributes_entered}
use Rattle.m11_cli_image.specs.Sources.{Source}
use Rattle.m11_cli_image.specs.Agreement.{AbsolutesAgree, StaysAbsolute}

-- ---- texts that are empty

abbrev Silent : List Write → Type 0
Silent writes = gained link Messages writes ≡ []

empty_both : (some more : Bytes) → some ++ more ≡ [] → (some ≡ []) × (more ≡ [])
empty_both [] more e = (refl, e)
empty_both (byte ∷ some) more e = absurd cc

silent_both : (some more : List Write) → Silent (some ++ more) → Silent some × Silent more
silent_both some more e = empty_both (gained link Messages some) (gained link Messages more) (sym (gained-append link Messages some more) ∙ e)

-- a line isn't empty, since it ends with a line feed
not_empty : (text : Bytes) → text ++ 0o12 ∷ [] ≡ [] → ⊥
not_empty [] e = absurd cc
not_empty (byte ∷ text) e = absurd cc

-- ---- entries that agree

module _ (found : Findings) where
  abbrev Agrees : Name × ℕ → Type 0
  Agrees section = attributes_agree (found.attributes section.0) section.1 ≡ true

  abbrev AgreesIf : Option (Name × ℕ) → Type 0
  AgreesIf (Some section) = Agrees section
  AgreesIf None = Unit {0}

  not_silent : (section module_name : Name) → Silent (to_messages (different_line section module_name) ∷ []) → ⊥
  unfolding gained
  not_silent section module_name e = not_empty _ (empty_both (different_line section module_name) [] e).0

  agrees_by : (module_index : ℕ) (section : Name × ℕ) (b : Bool)
      → Silent (if b then [] else to_messages (different_line section.0 (found.module_name module_index)) ∷ []) → b ≡ true
  agrees_by module_index section true e = refl
  agrees_by module_index section false e = absurd (not_silent section.0 (found.module_name module_index) e)

  section_agrees : (module_index : ℕ) (section : Option (Name × ℕ)) → Silent (different_writes found module_index section) → AgreesIf section
  section_agrees module_index None e = tt
  section_agrees module_index (Some section) e = agrees_by module_index section (attributes_agree (found.attributes section.0) section.1) e

  kind_agrees : (sort : GsdKind) (module_index : ℕ) (defined : List Name) (entry : GsdEntry)
      → Silent (writes_by sort found module_index defined entry) → AgreesIf (attributes_by sort entry)
  kind_agrees kind.GlobalSymbol module_index defined entry e = tt
  kind_agrees kind.ModuleName module_index defined entry e = tt
  kind_agrees kind.ControlSection module_index defined entry e = section_agrees module_index (attributes_by kind.ControlSection entry) e
  kind_agrees kind.InternalSymbol module_index defined entry e = tt
  kind_agrees kind.TransferAddress module_index defined entry e = tt
  kind_agrees kind.ProgramSection module_index defined entry e = section_agrees module_index (attributes_by kind.ProgramSection entry) e
  kind_agrees kind.Identification module_index defined entry e = tt

  part_agrees : (before : List Part) (part : Part) (parts : List Part) → Silent (writes_at found before part parts) → AgreesIf (attributes_in part)
  unfolding writes_at
  part_agrees before (Entry entry) parts e = kind_agrees entry.kind (modules_in before) (defined_names before) entry e
  part_agrees before Directory parts e = tt
  part_agrees before EndOfDirectory parts e = tt
  part_agrees before (Text address bytes) parts e = tt
  part_agrees before Relocations parts e = tt
  part_agrees before (Relocated relocation) parts e = tt
  part_agrees before EndOfModule parts e = tt
  part_agrees before EndOfFile parts e = tt

  one_more : (section : Option (Name × ℕ)) (sections : List (Name × ℕ)) → AgreesIf section → AllByRecursion Agrees sections
      → AllByRecursion Agrees (cons_option section sections)
  one_more None sections agrees all = all
  one_more (Some section) sections agrees all = (agrees, all)

  parts_agree : (before parts : List Part) → Silent (writes_after found before parts) → AllByRecursion Agrees (filter_map attributes_in parts)
  parts_agree before [] e = tt
  parts_agree before (part ∷ parts) e =
      let both = silent_both (writes_at found before part parts) (writes_after found (before ++ part ∷ []) parts) e in
      one_more (attributes_in part) (filter_map attributes_in parts) (part_agrees before part parts both.0)
      (parts_agree (before ++ part ∷ []) parts both.1)

  all_agree : (parts : List Part) → Silent (link_writes found parts) → AllByRecursion Agrees (filter_map attributes_in parts)
  unfolding parts_writes
  all_agree parts e =
      parts_agree [] parts
      (silent_both (front_writes found) (parts_writes found parts)
      (silent_both (front_writes found ++ parts_writes found parts) _ e).0).1

-- ---- sections that stay absolute

stays_by : (first : Option ℕ) (attributes : ℕ) → attributes_agree first attributes ≡ true → is_relocatable attributes ≡ false
    → is_relocatable (unwrap_or first 0) ≡ false
stays_by None attributes agree stays = refl
stays_by (Some first) attributes agree stays =
    ap is_relocatable (sym (eqb-true attributes first agree)) ∙ stays

module _ (bottom : ℕ) (sources : List Source) (has : HasSources sources) where
  found_is : (name : Name) → (findings_of bottom (link_parts sources)).attributes name
      ≡ lookup (is_same_name name) (map attributes_entered (all_sections sources))
  unfolding findings_of entered_attributes
  found_is name = ap (lookup (is_same_name name)) has.attributes

  own_stay : (own : List OwnSection)
      → AllByRecursion (Agrees (findings_of bottom (link_parts sources))) (map attributes_entered own) → AllByRecursion (StaysAbsolute sources) own
  own_stay [] agree = tt
  own_stay (section ∷ own) agree = (
    (λ (stays : is_relocatable section.attributes ≡ false).
        stays_by (lookup (is_same_name section.name) (map attributes_entered (all_sections sources))) section.attributes
        (sym (ap (λ (first : Option ℕ). attributes_agree first section.attributes) (found_is section.name)) ∙ agree.0) stays),
    own_stay own agree.1,
  )

  pub silent_links_agree : gained link Messages (link_writes (findings_of bottom (link_parts sources)) (link_parts sources)) ≡ []
      → AbsolutesAgree sources
  silent_links_agree silent =
      own_stay (all_sections sources)
      (subst (AllByRecursion (Agrees (findings_of bottom (link_parts sources)))) has.attributes
      (all_agree (findings_of bottom (link_parts sources)) (link_parts sources) silent))
