-- The rows of a source's directory as entries: its sections, its globals, and its transfer address.
use Rattle.std.proofs.Common.{◌≡◌, ◌∙◌, ℕ, Bool, true, false, ◌==◌, if◌then◌else◌, List, [], ◌∷◌, ◌++◌, map, flat_map, Option, Some, None, refl, ap, ap₂}
use Rattle.std.specs.Prelude.{unwrap_or}
use Rattle.std.specs.List.{cons_option, enumerate_from, filter_map}
use Rattle.std.proofs.lemmas.List.Elements.{filter_map-append}
use Rattle.m11_base.specs.Rad50.{Name}
use Rattle.m11_asm_directory.specs.Definitions.{definition_rows, lies_in, row_by}
use Rattle.m11_asm_directory.specs.FirstPass.{DirectoryFacts}
use Rattle.m11_asm_directory.specs.Names.{has_name, ordered}
use Rattle.m11_asm_directory.specs.References.{reference_rows, references}
use Rattle.m11_asm_directory.specs.Rows.{all_section_rows, directory_rows, identification_rows, main_name, rows_under, section_rows}
use Rattle.m11_asm_directory.specs.Transfers.{transfer_row}
use Rattle.m11_link_layout.specs.Sections.{attributes_by}
use Rattle.m11_link_layout.specs.Transfers.{transfer_by}
use Rattle.m11_link_layout.specs.declared.definition.Transfer.{Transfer}
use Rattle.m11_link_modules.specs.Parts.{Entry}
use Rattle.m11_link_modules.specs.Positions.{section_by}
use Rattle.m11_obj.specs.declared.gsd.GsdEntry.{GsdEntry}
use Rattle.m11_obj.specs.declared.directory.DirectoryRow.{DirectoryRow}
use Rattle.m11_obj.specs.declared.directory.DirectoryRow.TheVariants as row
use Rattle.m11_obj.specs.Directory.{entry_of}
use Rattle.m11_asm_rules.specs.declared.definitions.Definition.{Definition}
use Rattle.m11_asm_rules.specs.declared.definitions.Key.TheVariants.{Named}
use Rattle.m11_asm_rules.specs.declared.definitions.Standing.{Standing}
use Rattle.m11_asm_rules.specs.declared.definitions.Standing.TheVariants.{Known, Unknown}
use Rattle.m11_asm_rules.specs.Definitions.{last_definition}
use Rattle.m11_asm_rules.specs.Tables.{size_of}
use Rattle.m11_asm_rules.specs.declared.sections.Section.{Section}
use Rattle.m11_scan_expressions.specs.Quantities.{Quantity}
use Rattle.m11_cli_image.specs.Objects.{transfer_at}
use Rattle.m11_cli_image.specs.Sections.{OwnSection, attributes_entered, own_section, sections_of, size_entered}
use Rattle.m11_cli_image.specs.Sources.{Source}
use Rattle.m11_cli_image.proofs.ReadEntries.{attributes_said, entries_by, section_said, transfer_said}
use Rattle.m11_cli_image.proofs.ReadParts.{Seen, seen_after}

onto : {X : Type 0} (found : Option X) (xs : List X) → cons_option found [] ++ xs ≡ cons_option found xs
onto None xs = refl
onto (Some x) xs = refl

-- ---- functions for which only rows of sections and of the transfer address count

-- the function returns None for all other rows
record Silent {X : Type 0} (said : DirectoryRow → Option X) : Type 0 where
  pub title : (name : Name) → said (row.Module name) ≡ None
  pub identification : (name : Name) → said (row.Identification name) ≡ None
  pub definition : (name : Name) (moves : Bool) (value : ℕ) → said (row.Definition name moves value) ≡ None
  pub reference : (name : Name) (is_weak : Bool) → said (row.Reference name is_weak) ≡ None

module _ {X : Type 0} (said : DirectoryRow → Option X) (silent : Silent said) (facts : DirectoryFacts) where
  identification_silent : (identification : Option Name) → filter_map said (identification_rows identification) ≡ []
  identification_silent None = refl
  identification_silent (Some name) = ap (λ found. cons_option found []) (silent.identification name)

  front_silent : (title identification : Option Name)
      → filter_map said (row.Module (unwrap_or title main_name) ∷ identification_rows identification) ≡ []
  front_silent title identification =
      ap₂ cons_option (silent.title _) (identification_silent identification)

  lying : (b : Bool) (name : Name) (moves : Bool) (value : ℕ) (rows : List DirectoryRow) → filter_map said rows ≡ []
      → filter_map said (cons_option (if b then Some (row.Definition name moves value) else None) rows) ≡ []
  lying true name moves value rows h = ap₂ cons_option (silent.definition name moves value) h
  lying false name moves value rows h = h

  standing_silent : (section name : Name) (definition : Definition) (standing : Standing) (rows : List DirectoryRow)
      → filter_map said rows ≡ []
      → filter_map said (cons_option (row_by section name (Some (record definition { standing = standing }))) rows) ≡ []
  standing_silent section name definition (Known value kind) rows h = lying (lies_in section kind) name _ value rows h
  standing_silent section name definition Unknown rows h = h

  one_silent : (section name : Name) (definition : Option Definition) (rows : List DirectoryRow)
      → filter_map said rows ≡ [] → filter_map said (cons_option (row_by section name definition) rows) ≡ []
  one_silent section name (Some definition) rows h = standing_silent section name definition definition.standing rows h
  one_silent section name None rows h = h

  definitions_silent : (section : Name) (names : List Name)
      → filter_map said (definition_rows facts.table section names) ≡ []
  definitions_silent section [] = refl
  definitions_silent section (name ∷ names) =
      one_silent section name (last_definition (Named name) facts.table.definitions) _ (definitions_silent section names)

  references_silent : (weak names : List Name) → filter_map said (reference_rows weak names) ≡ []
  references_silent weak [] = refl
  references_silent weak (name ∷ names) =
      ap₂ cons_option (silent.reference name (has_name name weak)) (references_silent weak names)

  either_silent : (b : Bool) (rows : List DirectoryRow) → filter_map said rows ≡ []
      → filter_map said (if b then rows else []) ≡ []
  either_silent true rows h = h
  either_silent false rows h = refl

  under_silent : (number : ℕ) (section : Name) → filter_map said (rows_under facts number section) ≡ []
  under_silent number section =
      filter_map-append said (definition_rows facts.table section (ordered facts.table.globals))
      (if number == 0 then reference_rows facts.weak (references facts) else [])
      ∙ ap₂ (λ some more. some ++ more) (definitions_silent section (ordered facts.table.globals))
      (either_silent (number == 0) (reference_rows facts.weak (references facts))
      (references_silent facts.weak (references facts)))

  abbrev said_of : ℕ × Section → Option X
  said_of numbered =
      said (row.Section numbered.1.name (record { 0 = numbered.1.attributes }) (size_of numbered.0 facts.table))

  sections_said : (numbered : List (ℕ × Section))
      → filter_map said (flat_map (section_rows facts) numbered) ≡ filter_map said_of numbered
  sections_said [] = refl
  sections_said (first ∷ numbered) =
      filter_map-append said (section_rows facts first) (flat_map (section_rows facts) numbered)
      ∙ ap₂ (λ under more. cons_option (said_of first) under ++ more) (under_silent first.0 first.1.name)
      (sections_said numbered)
      ∙ onto (said_of first) (filter_map said_of numbered)

  rows_said : filter_map said (directory_rows facts)
      ≡ filter_map said_of (enumerate_from 0 facts.table.sections) ++ cons_option (said (transfer_row facts.transfer)) []
  unfolding directory_rows
  rows_said =
      let front = row.Module (unwrap_or facts.title main_name) ∷ identification_rows facts.identification in
      filter_map-append said (front ++ all_section_rows facts) (transfer_row facts.transfer ∷ [])
      ∙ ap (λ some. some ++ cons_option (said (transfer_row facts.transfer)) [])
      (filter_map-append said front (all_section_rows facts)
      ∙ ap₂ (λ some more. some ++ more) (front_silent facts.title facts.identification)
      (sections_said (enumerate_from 0 facts.table.sections)))

-- if a function of entries doesn't depend on the section entered before, it has the same values for each row alone
pub entries_alone : {X : Type 0} (said : ℕ → GsdEntry → Option X) (seen : Seen) (rows : List DirectoryRow)
    → entries_by (λ seen entry. said seen.modules entry) seen (map entry_of rows)
    ≡ filter_map (λ row. said seen.modules (entry_of row)) rows
entries_alone said seen [] = refl
entries_alone said seen (first ∷ rows) =
    ap (cons_option (said seen.modules (entry_of first)))
    (entries_alone said (seen_after seen (Entry (entry_of first))) rows)

-- ---- sections, their attributes, and the transfer address

sections_silent : Silent (λ row. section_by (entry_of row).kind (entry_of row))
sections_silent = record {
  title = λ name. refl;
  identification = λ name. refl;
  definition = λ name moves value. refl;
  reference = λ name is_weak. refl;
}

attributes_silent : Silent (λ row. attributes_by (entry_of row).kind (entry_of row))
attributes_silent = record {
  title = λ name. refl;
  identification = λ name. refl;
  definition = λ name moves value. refl;
  reference = λ name is_weak. refl;
}

transfers_silent : (modules : ℕ) → Silent (λ row. transfer_by (entry_of row).kind (entry_of row) modules)
transfers_silent modules = record {
  title = λ name. refl;
  identification = λ name. refl;
  definition = λ name moves value. refl;
  reference = λ name is_weak. refl;
}

-- if a function has a value for each row of a section and none for the row of the transfer address, its values are those of the sections
all_said : {X : Type 0} (facts : DirectoryFacts) (view : OwnSection → X) (last : Option X) → last ≡ None
    → (numbered : List (ℕ × Section))
    → filter_map (λ one. Some (view (own_section facts one))) numbered ++ cons_option last []
    ≡ map view (map (own_section facts) numbered)
all_said facts view last none [] = ap (λ found. cons_option found []) none
all_said facts view last none (first ∷ numbered) =
    ap (λ more. view (own_section facts first) ∷ more) (all_said facts view last none numbered)

no_section : (transfer : Option Quantity)
    → section_by (entry_of (transfer_row transfer)).kind (entry_of (transfer_row transfer)) ≡ None
no_section (Some value) = refl
no_section None = refl

no_attributes : (transfer : Option Quantity)
    → attributes_by (entry_of (transfer_row transfer)).kind (entry_of (transfer_row transfer)) ≡ None
no_attributes (Some value) = refl
no_attributes None = refl

pub row_sections : (source : Source)
    → filter_map (λ row. section_by (entry_of row).kind (entry_of row)) (directory_rows source.facts)
    ≡ map size_entered (sections_of source)
row_sections source =
    rows_said (λ row. section_by (entry_of row).kind (entry_of row)) sections_silent source.facts
    ∙ all_said source.facts size_entered _ (no_section source.facts.transfer)
    (enumerate_from 0 source.facts.table.sections)

pub sections_are : (source : Source) (seen : Seen)
    → entries_by section_said seen (map entry_of (directory_rows source.facts)) ≡ map size_entered (sections_of source)
sections_are source seen =
    entries_alone (λ modules entry. section_by entry.kind entry) seen (directory_rows source.facts)
    ∙ row_sections source

pub attributes_are : (source : Source) (seen : Seen)
    → entries_by attributes_said seen (map entry_of (directory_rows source.facts))
    ≡ map attributes_entered (sections_of source)
attributes_are source seen =
    entries_alone (λ modules entry. attributes_by entry.kind entry) seen (directory_rows source.facts)
    ∙ rows_said (λ row. attributes_by (entry_of row).kind (entry_of row)) attributes_silent source.facts
    ∙ all_said source.facts attributes_entered _ (no_attributes source.facts.transfer)
    (enumerate_from 0 source.facts.table.sections)

none_said : (numbered : List (ℕ × Section)) → filter_map {Y = Transfer} (λ one. None) numbered ≡ []
none_said [] = refl
none_said (first ∷ numbered) = none_said numbered

transfer_is : (modules : ℕ) (transfer : Option Quantity)
    → transfer_by (entry_of (transfer_row transfer)).kind (entry_of (transfer_row transfer)) modules
    ≡ Some (transfer_at modules transfer)
transfer_is modules (Some value) = refl
transfer_is modules None = refl

pub transfers_are : (source : Source) (seen : Seen)
    → entries_by transfer_said seen (map entry_of (directory_rows source.facts))
    ≡ transfer_at seen.modules source.facts.transfer ∷ []
transfers_are source seen =
    entries_alone (λ modules entry. transfer_by entry.kind entry modules) seen (directory_rows source.facts)
    ∙ rows_said (λ row. transfer_by (entry_of row).kind (entry_of row) seen.modules) (transfers_silent seen.modules) source.facts
    ∙ ap₂ (λ some found. some ++ cons_option found []) (none_said (enumerate_from 0 source.facts.table.sections))
    (transfer_is seen.modules source.facts.transfer)
