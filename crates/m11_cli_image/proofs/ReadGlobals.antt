-- The definitions that the rows of a source's directory enter are the globals of the source.
use Rattle.std.proofs.Common.{◌≡◌, ◌∙◌, ℕ, Bool, true, false, ◌==◌, if◌then◌else◌, List, [], ◌∷◌, ◌++◌, map, flat_map, append-nil, ◌+◌, Option, Some, None, refl, sym, ap, ap₂}
use Rattle.std.specs.Prelude.{unwrap_or}
use Rattle.std.specs.List.{cons_option, enumerate_from, filter_map}
use Rattle.std.proofs.lemmas.List.{map-append}
use Rattle.m11_base.specs.Names.{absolute_name}
use Rattle.m11_base.specs.Rad50.{Name, is_same_name}
use Rattle.m11_base.proofs.SameNames.{same_name_equal}
use Rattle.m11_asm_directory.specs.Definitions.{definition_rows, row_by}
use Rattle.m11_asm_directory.specs.FirstPass.{DirectoryFacts}
use Rattle.m11_asm_directory.specs.Names.{has_name, ordered}
use Rattle.m11_asm_directory.specs.References.{reference_rows, references}
use Rattle.m11_asm_directory.specs.Rows.{all_section_rows, directory_rows, identification_rows, main_name, rows_under, section_rows}
use Rattle.m11_asm_directory.specs.Transfers.{transfer_row}
use Rattle.m11_link_layout.specs.declared.definition.Definition as layout
use Rattle.m11_link_layout.specs.declared.definition.GlobalLocation.{GlobalLocation}
use Rattle.m11_link_layout.specs.declared.definition.GlobalLocation.TheVariants.{Absolute, In}
use Rattle.m11_link_modules.specs.Parts.{Entry}
use Rattle.m11_obj.specs.declared.directory.DirectoryRow.{DirectoryRow}
use Rattle.m11_obj.specs.declared.directory.DirectoryRow.TheVariants as row
use Rattle.m11_obj.specs.Directory.{entry_of}
use Rattle.m11_asm_rules.specs.declared.definitions.Definition.{Definition}
use Rattle.m11_asm_rules.specs.declared.definitions.Key.TheVariants.{Named}
use Rattle.m11_asm_rules.specs.declared.definitions.Standing.{Standing}
use Rattle.m11_asm_rules.specs.declared.definitions.Standing.TheVariants.{Known, Unknown}
use Rattle.m11_asm_rules.specs.Definitions.{last_definition}
use Rattle.m11_asm_rules.specs.declared.sections.Section.{Section}
use Rattle.m11_scan_expressions.specs.declared.kinds.Kind.{Kind}
use Rattle.m11_scan_expressions.specs.declared.kinds.Kind.TheVariants as kind
use Rattle.m11_scan_expressions.specs.Quantities.{Quantity}
use Rattle.m11_cli_image.specs.Globals.{global_by, global_standing, global_under, globals_of, globals_under, in_source}
use Rattle.m11_cli_image.proofs.ReadEntries.{definition_said, entries_by}
use Rattle.m11_cli_image.proofs.ReadParts.{Seen, onto, seen_after}

abbrev Defined : Type 0
Defined = Name × layout.Definition

-- the globals that rows define
abbrev defined_by : Seen → List DirectoryRow → List Defined
defined_by seen rows = entries_by definition_said seen (map entry_of rows)

-- ---- rows one after another

abbrev row_after : Seen → DirectoryRow → Seen
row_after seen row = seen_after seen (Entry (entry_of row))

abbrev rows_after : Seen → List DirectoryRow → Seen
rows_after seen [] = seen
rows_after seen (first ∷ rows) = rows_after (row_after seen first) rows

defined_then : (seen : Seen) (rows more : List DirectoryRow)
    → defined_by seen (rows ++ more) ≡ defined_by seen rows ++ defined_by (rows_after seen rows) more
defined_then seen [] more = refl
defined_then seen (first ∷ rows) more =
    ap (cons_option (definition_said seen (entry_of first))) (defined_then (row_after seen first) rows more)
    ∙ onto (definition_said seen (entry_of first)) (defined_by (row_after seen first) rows) _

modules_after : (seen : Seen) (rows : List DirectoryRow) → (rows_after seen rows).modules ≡ seen.modules
modules_after seen [] = refl
modules_after seen (first ∷ rows) = modules_after (row_after seen first) rows

-- ---- rows that define nothing

reference_silent : (b : Bool) (seen : Seen) (name : Name) → definition_said seen (entry_of (row.Reference name b)) ≡ None
reference_silent true seen name = refl
reference_silent false seen name = refl

references_silent : (seen : Seen) (weak names : List Name) → defined_by seen (reference_rows weak names) ≡ []
references_silent seen weak [] = refl
references_silent seen weak (name ∷ names) =
    ap₂ cons_option (reference_silent (has_name name weak) seen name) (references_silent seen weak names)

either_silent : (b : Bool) (seen : Seen) (weak names : List Name)
    → defined_by seen (if b then reference_rows weak names else []) ≡ []
either_silent true seen weak names = references_silent seen weak names
either_silent false seen weak names = refl

identification_silent : (seen : Seen) (identification : Option Name)
    → defined_by seen (identification_rows identification) ≡ []
identification_silent seen None = refl
identification_silent seen (Some name) = refl

transfer_silent : (seen : Seen) (transfer : Option Quantity) → defined_by seen (transfer_row transfer ∷ []) ≡ []
transfer_silent seen None = refl
transfer_silent seen (Some value) = refl

-- ---- the rows of a section

abbrev under : Seen → Name → Seen
under seen section = record seen { entered = Some section }

absolute_said : (b : Bool) (seen : Seen) (section name : Name) (value : ℕ) (rows : List DirectoryRow)
    → defined_by (under seen section) (cons_option (if b then Some (row.Definition name false value) else None) rows)
    ≡ map (in_source seen.modules) (cons_option (if b then Some (name, Absolute value) else None) [])
    ++ defined_by (under seen section) rows
absolute_said true seen section name value rows = refl
absolute_said false seen section name value rows = refl

relocatable_said : (b : Bool) (seen : Seen) (section other name : Name) (value : ℕ) (rows : List DirectoryRow)
    → (b ≡ true → other ≡ section)
    → defined_by (under seen section) (cons_option (if b then Some (row.Definition name true value) else None) rows)
    ≡ map (in_source seen.modules) (cons_option (if b then Some (name, In other value) else None) [])
    ++ defined_by (under seen section) rows
relocatable_said true seen section other name value rows same =
    ap (λ (location : Name). (name, record { module_index = seen.modules; location = In location value })
    ∷ defined_by (under seen section) rows) (sym (same refl))
relocatable_said false seen section other name value rows same = refl

known_said : (seen : Seen) (section name : Name) (definition : Definition) (value : ℕ) (kind : Kind) (rows : List DirectoryRow)
    → defined_by (under seen section)
    (cons_option (row_by section name (Some (record definition { standing = Known value kind }))) rows)
    ≡ map (in_source seen.modules) (cons_option (global_standing section name (Known value kind)) [])
    ++ defined_by (under seen section) rows
known_said seen section name definition value kind.Absolute rows =
    absolute_said (is_same_name absolute_name section) seen section name value rows
known_said seen section name definition value (kind.Section other) rows =
    relocatable_said (is_same_name other section) seen section other name value rows (same_name_equal other section)
known_said seen section name definition value kind.Register rows = refl
known_said seen section name definition value (kind.Reference other) rows = refl

standing_said : (seen : Seen) (section name : Name) (definition : Definition) (standing : Standing) (rows : List DirectoryRow)
    → defined_by (under seen section)
    (cons_option (row_by section name (Some (record definition { standing = standing }))) rows)
    ≡ map (in_source seen.modules) (cons_option (global_standing section name standing) [])
    ++ defined_by (under seen section) rows
standing_said seen section name definition (Known value kind) rows = known_said seen section name definition value kind rows
standing_said seen section name definition Unknown rows = refl

definition_is : (seen : Seen) (section name : Name) (definition : Option Definition) (rows : List DirectoryRow)
    → defined_by (under seen section) (cons_option (row_by section name definition) rows)
    ≡ map (in_source seen.modules) (cons_option (global_by section name definition) [])
    ++ defined_by (under seen section) rows
definition_is seen section name (Some definition) rows = standing_said seen section name definition definition.standing rows
definition_is seen section name None rows = refl

module _ (facts : DirectoryFacts) where
  joined_one : (modules : ℕ) (found : Option (Name × GlobalLocation)) (more : List (Name × GlobalLocation))
      → map (in_source modules) (cons_option found []) ++ map (in_source modules) more
      ≡ map (in_source modules) (cons_option found more)
  joined_one modules None more = refl
  joined_one modules (Some found) more = refl

  names_said : (seen : Seen) (section : Name) (names : List Name)
      → defined_by (under seen section) (definition_rows facts.table section names)
      ≡ map (in_source seen.modules) (filter_map (global_under facts.table section) names)
  names_said seen section [] = refl
  names_said seen section (name ∷ names) =
      definition_is seen section name (last_definition (Named name) facts.table.definitions)
      (definition_rows facts.table section names)
      ∙ ap (λ more. map (in_source seen.modules) (cons_option (global_under facts.table section name) []) ++ more)
      (names_said seen section names)
      ∙ joined_one seen.modules (global_under facts.table section name) _

  under_said : (seen : Seen) (number : ℕ) (section : Section)
      → defined_by (under seen section.name) (rows_under facts number section.name)
      ≡ map (in_source seen.modules) (globals_under facts.table section)
  under_said seen number section =
      let defining = definition_rows facts.table section.name (ordered facts.table.globals) in
      let after = rows_after (under seen section.name) defining in
      defined_then (under seen section.name) defining
      (if number == 0 then reference_rows facts.weak (references facts) else [])
      ∙ ap₂ (λ some more. some ++ more) (names_said seen section.name (ordered facts.table.globals))
      (either_silent (number == 0) after facts.weak (references facts))
      ∙ append-nil _

  sections_said : (seen : Seen) (number : ℕ) (sections : List Section)
      → defined_by seen (flat_map (section_rows facts) (enumerate_from number sections))
      ≡ map (in_source seen.modules) (flat_map (globals_under facts.table) sections)
  sections_said seen number [] = refl
  sections_said seen number (section ∷ sections) =
      let rows = section_rows facts (number, section) in
      let after = rows_after seen rows in
      defined_then seen rows (flat_map (section_rows facts) (enumerate_from (number + 1) sections))
      ∙ ap₂ (λ some more. some ++ more) (under_said seen number section)
      (sections_said after (number + 1) sections
      ∙ ap (λ modules. map (in_source modules) (flat_map (globals_under facts.table) sections)) (modules_after seen rows))
      ∙ sym (map-append (in_source seen.modules) (globals_under facts.table section)
      (flat_map (globals_under facts.table) sections))

  pub globals_are : (seen : Seen)
      → entries_by definition_said seen (map entry_of (directory_rows facts))
      ≡ map (in_source seen.modules) (globals_of facts)
  unfolding directory_rows
  globals_are seen =
      let front = row.Module (unwrap_or facts.title main_name) ∷ identification_rows facts.identification in
      let after = rows_after seen front in
      let sections = flat_map (globals_under facts.table) facts.table.sections in
      defined_then seen (front ++ all_section_rows facts) (transfer_row facts.transfer ∷ [])
      ∙ ap₂ (λ some more. some ++ more)
      (defined_then seen front (all_section_rows facts)
      ∙ ap₂ (λ some more. some ++ more) (identification_silent seen facts.identification)
      (sections_said after 0 facts.table.sections
      ∙ ap (λ modules. map (in_source modules) sections) (modules_after seen front)))
      (transfer_silent (rows_after seen (front ++ all_section_rows facts)) facts.transfer)
      ∙ append-nil _
