-- Functions of the entries of a module, in which the records after the directory count for nothing.
use Rattle.std.proofs.Common.{◌≡◌, ◌∙◌, ℕ, List, [], ◌∷◌, ◌++◌, append_assoc, map, flat_map, Option, None, refl, ap}
use Rattle.std.specs.List.{cons_option, filter_map}
use Rattle.m11_link_layout.specs.Globals.{definition_by, definition_in}
use Rattle.m11_link_layout.specs.Sections.{attributes_by, attributes_in}
use Rattle.m11_link_layout.specs.Transfers.{transfer_by, transfer_in}
use Rattle.m11_link_layout.specs.declared.definition.Definition.{Definition}
use Rattle.m11_link_layout.specs.declared.definition.Transfer.{Transfer}
use Rattle.m11_base.specs.Rad50.{Name}
use Rattle.m11_link_modules.specs.Grammar.{BodyRecord, Module, RelocationRecord, TextRecord, body_parts, directory_parts, module_parts}
use Rattle.m11_link_modules.specs.Parts.{Part, Entry, EndOfDirectory, Relocated, EndOfModule}
use Rattle.m11_link_modules.specs.Positions.{section_by, section_in}
use Rattle.m11_obj.specs.declared.gsd.GsdEntry.{GsdEntry}
use Rattle.m11_obj.specs.declared.relocations.Relocation.{Relocation}
use Rattle.m11_obj.specs.Fronts.{joined}
use Rattle.m11_cli_image.proofs.ReadParts.{Seen, reported_by, seen_after, seen_of}

-- ---- parts of which only the entries count

abbrev pub of_entry : {X : Type 0} → (Seen → GsdEntry → Option X) → Seen → Part → Option X
of_entry said seen (Entry entry) = said seen entry
of_entry said seen part = None

abbrev pub entries_by : {X : Type 0} → (Seen → GsdEntry → Option X) → Seen → List GsdEntry → List X
entries_by said seen [] = []
entries_by said seen (entry ∷ entries) =
    cons_option (said seen entry) (entries_by said (seen_after seen (Entry entry)) entries)

module _ {X : Type 0} (said : Seen → GsdEntry → Option X) where
  relocations_silent : (relocations : List Relocation) (rest : List Part)
      → ((seen : Seen) → reported_by (of_entry said) seen rest ≡ []) → (seen : Seen)
      → reported_by (of_entry said) seen (map (λ relocation. Relocated relocation) relocations ++ rest) ≡ []
  relocations_silent [] rest h seen = h seen
  relocations_silent (relocation ∷ relocations) rest h seen =
      relocations_silent relocations rest h (seen_after seen (Relocated relocation))

  body_silent : (body : List BodyRecord) (rest : List Part)
      → ((seen : Seen) → reported_by (of_entry said) seen rest ≡ []) → (seen : Seen)
      → reported_by (of_entry said) seen (flat_map body_parts body ++ rest) ≡ []
  body_silent [] rest h seen = h seen
  body_silent (TextRecord address bytes ∷ body) rest h seen = body_silent body rest h seen
  body_silent (RelocationRecord relocations ∷ body) rest h seen =
      ap (reported_by (of_entry said) seen)
      (append_assoc (map (λ relocation. Relocated relocation) relocations) (flat_map body_parts body) rest)
      ∙ relocations_silent relocations (flat_map body_parts body ++ rest) (body_silent body rest h) seen

  cut_said : (entries : List GsdEntry) (cuts : List (List GsdEntry)) (rest : List Part)
      → ((seen : Seen) → reported_by (of_entry said) seen (flat_map directory_parts cuts ++ rest)
      ≡ entries_by said seen (joined cuts))
      → (seen : Seen)
      → reported_by (of_entry said) seen (map (λ entry. Entry entry) entries ++ (flat_map directory_parts cuts ++ rest))
      ≡ entries_by said seen (entries ++ joined cuts)
  cut_said [] cuts rest h seen = h seen
  cut_said (entry ∷ entries) cuts rest h seen =
      ap (cons_option (said seen entry)) (cut_said entries cuts rest h (seen_after seen (Entry entry)))

  directory_said : (cuts : List (List GsdEntry)) (rest : List Part)
      → ((seen : Seen) → reported_by (of_entry said) seen rest ≡ []) → (seen : Seen)
      → reported_by (of_entry said) seen (flat_map directory_parts cuts ++ rest) ≡ entries_by said seen (joined cuts)
  directory_said [] rest h seen = h seen
  directory_said (entries ∷ cuts) rest h seen =
      ap (reported_by (of_entry said) seen)
      (append_assoc (map (λ entry. Entry entry) entries) (flat_map directory_parts cuts) rest)
      ∙ cut_said entries cuts rest (directory_said cuts rest h) seen

  pub module_said : (whole : Module) (seen : Seen)
      → reported_by (of_entry said) seen (module_parts whole) ≡ entries_by said seen (joined whole.directory)
  module_said whole seen =
      let rest = EndOfDirectory ∷ (flat_map body_parts whole.body ++ EndOfModule ∷ []) in
      ap (reported_by (of_entry said) seen)
      (append_assoc (flat_map directory_parts whole.directory) (EndOfDirectory ∷ flat_map body_parts whole.body)
      (EndOfModule ∷ []))
      ∙ directory_said whole.directory rest (body_silent whole.body (EndOfModule ∷ []) (λ later. refl)) seen

-- ---- the functions of entries that a linker uses

abbrev pub definition_said : Seen → GsdEntry → Option (Name × Definition)
definition_said seen entry = definition_by entry.kind entry seen.modules seen.entered

abbrev pub transfer_said : Seen → GsdEntry → Option Transfer
transfer_said seen entry = transfer_by entry.kind entry seen.modules

abbrev pub section_said : Seen → GsdEntry → Option (Name × ℕ)
section_said seen entry = section_by entry.kind entry

abbrev pub attributes_said : Seen → GsdEntry → Option (Name × ℕ)
attributes_said seen entry = attributes_by entry.kind entry

pub definition_same : (before : List Part) (part : Part)
    → definition_in before part ≡ of_entry definition_said (seen_of before) part
definition_same before (Entry entry) = refl
definition_same before part = refl

pub transfer_same : (before : List Part) (part : Part)
    → transfer_in before part ≡ of_entry transfer_said (seen_of before) part
transfer_same before (Entry entry) = refl
transfer_same before part = refl

pub sections_alone : (seen : Seen) (parts : List Part)
    → filter_map section_in parts ≡ reported_by (of_entry section_said) seen parts
sections_alone seen [] = refl
sections_alone seen (Entry entry ∷ parts) =
    ap (cons_option (section_by entry.kind entry)) (sections_alone (seen_after seen (Entry entry)) parts)
sections_alone seen (part ∷ parts) = sections_alone (seen_after seen part) parts

pub attributes_alone : (seen : Seen) (parts : List Part)
    → filter_map attributes_in parts ≡ reported_by (of_entry attributes_said) seen parts
attributes_alone seen [] = refl
attributes_alone seen (Entry entry ∷ parts) =
    ap (cons_option (attributes_by entry.kind entry)) (attributes_alone (seen_after seen (Entry entry)) parts)
attributes_alone seen (part ∷ parts) = attributes_alone (seen_after seen part) parts
