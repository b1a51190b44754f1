-- A link of the objects of sources finds contributions and globals at the addresses that the sources give them.
use Rattle.std.proofs.Common.{◌≡◌, ◌∙◌, ℕ, zero, suc, ◌+◌, ◌<◌, ◌≤◌, ◌&&◌, ◌||◌, nat_eq, nat_lt, Bool, true, false, if◌then◌else◌, List, [], ◌∷◌, ◌++◌, map, flat_map, take, sum_by, Option, Some, None, option_map, refl, sym, ap, ap₂, arith}
use Rattle.std.specs.List.{cons_option, enumerate_from, filter_map, list_any}
use Rattle.std.specs.Map.{keys_of, lookup}
use Rattle.std.specs.Option.{unwrap_or}
use Rattle.std.proofs.lemmas.Bool.{eq-eqb, le-ltb, lt-ltb, ne_eqb}
use Rattle.std.proofs.lemmas.List.{map-append}
use Rattle.std.proofs.lemmas.List.Sums.{sum_by-cons}
use Rattle.m11_base.specs.Rad50.{Name, is_same_name}
use Rattle.m11_asm_directory.specs.Rows.{directory_rows}
use Rattle.m11_link_layout.specs.Globals.{definition_value, first_definition, global_value, location_value}
use Rattle.m11_link_layout.specs.Modules.{indexed, module_at, modules_before}
use Rattle.m11_link_layout.specs.Sections.{base_entered, contribution_base, ends_too_high, first_attributes, is_relocatable, is_too_large, module_base, names_before, offset_after, room_of, section_base, section_size, size_under, sizes_of, top, total}
use Rattle.m11_link_layout.specs.declared.definition.Definition.{Definition}
use Rattle.m11_link_layout.specs.declared.definition.GlobalLocation.{GlobalLocation}
use Rattle.m11_link_layout.specs.declared.definition.GlobalLocation.TheVariants.{Absolute, In}
use Rattle.m11_link_text.specs.Findings.{findings_of}
use Rattle.m11_link_text.specs.Relocation.{modulo, symbol}
use Rattle.m11_link_modules.specs.Parts.{Part, Directory, Entry, EndOfDirectory, Text, Relocations, Relocated, EndOfModule, EndOfFile}
use Rattle.m11_link_modules.specs.Positions.{distinct, section_by, section_in, section_names, sections_in}
use Rattle.m11_obj.specs.declared.gsd.GsdEntry.{GsdEntry}
use Rattle.m11_obj.specs.declared.directory.DirectoryRow.{DirectoryRow}
use Rattle.m11_obj.specs.Directory.{entry_of}
use Rattle.m11_cli_image.specs.Globals as image
use Rattle.m11_cli_image.specs.Globals.{all_globals, global}
use Rattle.m11_cli_image.specs.Links.{LiesBySources}
use Rattle.m11_cli_image.specs.Objects.{link_parts}
use Rattle.m11_cli_image.specs.Refusals.{ends_high, is_large}
use Rattle.m11_cli_image.specs.Sections as sources_of
use Rattle.m11_cli_image.specs.Sections.{OwnSection, all_sections, attributes_of, contribution, name_of, names_of, sections_of, size_entered, source_at, top_of}
use Rattle.m11_cli_image.specs.Sources.{Source}
use Rattle.m11_cli_image.proofs.LinkedSources.{attributes_linked, globals_linked, linked_said, sections_linked}
use Rattle.m11_cli_image.proofs.ReadDirectories.{first}
use Rattle.m11_cli_image.proofs.ReadEntries.{entries_by, of_entry}
use Rattle.m11_cli_image.proofs.ReadParts.{Seen, reported_by, seen_after}
use Rattle.m11_cli_image.proofs.ReadRows.{entries_alone, row_sections}
use Rattle.m11_cli_image.proofs.RowsTaken.{names_entered}

-- ---- the sections of some of the modules

abbrev kept : (ℕ → Bool) → ℕ × Part → Option Part
kept asked indexed = if asked indexed.0 then Some indexed.1 else None

abbrev kept_said : (ℕ → Bool) → Seen → GsdEntry → Option (Name × ℕ)
kept_said asked seen entry = if asked seen.modules then section_by entry.kind entry else None

said_or_not : (b : Bool) (part : Part) (rest : List Part)
    → filter_map section_in (cons_option (if b then Some part else None) rest)
    ≡ cons_option (if b then section_in part else None) (filter_map section_in rest)
said_or_not true part rest = refl
said_or_not false part rest = refl

silent : (b : Bool) (part : Part) (rest : List Part) → section_in part ≡ None
    → filter_map section_in (cons_option (if b then Some part else None) rest) ≡ filter_map section_in rest
silent true part rest e = ap (λ found. cons_option found (filter_map section_in rest)) e
silent false part rest e = refl

kept_alone : (asked : ℕ → Bool) (seen : Seen) (parts : List Part)
    → filter_map section_in (filter_map (kept asked) (indexed seen.modules parts))
    ≡ reported_by (of_entry (kept_said asked)) seen parts
kept_alone asked seen [] = refl
kept_alone asked seen (Entry entry ∷ parts) =
    said_or_not (asked seen.modules) (Entry entry) (filter_map (kept asked) (indexed seen.modules parts))
    ∙ ap (cons_option (kept_said asked seen entry)) (kept_alone asked (seen_after seen (Entry entry)) parts)
kept_alone asked seen (EndOfModule ∷ parts) =
    silent (asked seen.modules) EndOfModule _ refl ∙ kept_alone asked (seen_after seen EndOfModule) parts
kept_alone asked seen (Directory ∷ parts) =
    silent (asked seen.modules) Directory _ refl ∙ kept_alone asked seen parts
kept_alone asked seen (EndOfDirectory ∷ parts) =
    silent (asked seen.modules) EndOfDirectory _ refl ∙ kept_alone asked seen parts
kept_alone asked seen (Text address bytes ∷ parts) =
    silent (asked seen.modules) (Text address bytes) _ refl ∙ kept_alone asked seen parts
kept_alone asked seen (Relocations ∷ parts) =
    silent (asked seen.modules) Relocations _ refl ∙ kept_alone asked seen parts
kept_alone asked seen (Relocated relocation ∷ parts) =
    silent (asked seen.modules) (Relocated relocation) _ refl
    ∙ kept_alone asked (seen_after seen (Relocated relocation)) parts
kept_alone asked seen (EndOfFile ∷ parts) =
    silent (asked seen.modules) EndOfFile _ refl ∙ kept_alone asked seen parts

abbrev own_if : (ℕ → Bool) → ℕ × Source → List (Name × ℕ)
own_if asked numbered = if asked numbered.0 then map size_entered (sections_of numbered.1) else []

no_rows : (rows : List DirectoryRow) → filter_map {Y = Name × ℕ} (λ row. None) rows ≡ []
no_rows [] = refl
no_rows (row ∷ rows) = no_rows rows

rows_if : (b : Bool) (source : Source)
    → filter_map (λ row. if b then section_by (entry_of row).kind (entry_of row) else None) (directory_rows source.facts)
    ≡ (if b then map size_entered (sections_of source) else [])
rows_if true source = row_sections source
rows_if false source = no_rows (directory_rows source.facts)

kept_is : (asked : ℕ → Bool) (source : Source) (seen : Seen)
    → entries_by (kept_said asked) seen (map entry_of (directory_rows source.facts))
    ≡ own_if asked (seen.modules, source)
kept_is asked source seen =
    entries_alone (λ modules entry. if asked modules then section_by entry.kind entry else None) seen
    (directory_rows source.facts)
    ∙ rows_if (asked seen.modules) source

some_modules : (asked : ℕ → Bool) (sources : List Source)
    → filter_map section_in (filter_map (kept asked) (indexed 0 (link_parts sources)))
    ≡ flat_map (own_if asked) (enumerate_from 0 sources)
some_modules asked sources =
    kept_alone asked first (link_parts sources) ∙ linked_said (kept_said asked) (own_if asked) (kept_is asked) sources first

-- ---- the module with an index, and those before it

chosen : (b c : Bool) (source : Source) (more : List (Name × ℕ)) → b ≡ c
    → (if b then map size_entered (sections_of source) else []) ++ more
    ≡ (if c then map size_entered (sections_of source) else []) ++ more
chosen b c source more e = ap (λ d. (if d then map size_entered (sections_of source) else []) ++ more) e

none_at : (number index : ℕ) (sources : List Source) → index < number
    → flat_map (own_if (λ modules. nat_eq modules index)) (enumerate_from number sources) ≡ []
none_at number index [] lt = refl
none_at number index (source ∷ sources) lt =
    chosen (nat_eq number index) false source _ (ne_eqb number index (λ e. omega (arith, lt, e)))
    ∙ none_at (number + 1) index sources (omega (arith, lt))

own_at : (number index : ℕ) (sources : List Source)
    → flat_map (own_if (λ modules. nat_eq modules (number + index))) (enumerate_from number sources)
    ≡ map size_entered (all_sections (source_at sources index))
own_at number index [] = refl
own_at number zero (source ∷ sources) =
    chosen (nat_eq number (number + 0)) true source _ (eq-eqb number (number + 0) (omega arith))
    ∙ ap (λ more. map size_entered (sections_of source) ++ more)
    (none_at (number + 1) (number + 0) sources (omega arith))
    ∙ sym (map-append size_entered (sections_of source) [])
own_at number (suc index) (source ∷ sources) =
    chosen (nat_eq number (number + suc index)) false source _
    (ne_eqb number (number + suc index) (λ e. omega (arith, e)))
    ∙ ap (λ at. flat_map (own_if (λ modules. nat_eq modules at)) (enumerate_from (number + 1) sources)) (moved number index)
    ∙ own_at (number + 1) index sources
  where
    moved : (number index : ℕ) → number + suc index ≡ number + 1 + index
    moved number index = omega arith

none_before : (number index : ℕ) (sources : List Source) → index ≤ number
    → flat_map (own_if (λ modules. nat_lt modules index)) (enumerate_from number sources) ≡ []
none_before number index [] le = refl
none_before number index (source ∷ sources) le =
    chosen (nat_lt number index) false source _ (le-ltb number index le)
    ∙ none_before (number + 1) index sources (omega (arith, le))

own_before : (number index : ℕ) (sources : List Source)
    → flat_map (own_if (λ modules. nat_lt modules (number + index))) (enumerate_from number sources)
    ≡ map size_entered (all_sections (take index sources))
own_before number zero sources = none_before number (number + 0) sources (omega arith)
own_before number (suc index) [] = refl
own_before number (suc index) (source ∷ sources) =
    chosen (nat_lt number (number + suc index)) true source _ (lt-ltb number (number + suc index) (omega arith))
    ∙ ap (λ before. map size_entered (sections_of source) ++ before)
    (ap (λ at. flat_map (own_if (λ modules. nat_lt modules at)) (enumerate_from (number + 1) sources)) (moved number index)
    ∙ own_before (number + 1) index sources)
    ∙ sym (map-append size_entered (sections_of source) (all_sections (take index sources)))
  where
    moved : (number index : ℕ) → number + suc index ≡ number + 1 + index
    moved number index = omega arith

-- ---- the layout of the sections

module _ (sources : List Source) where
  pub own_same : (index : ℕ) → sections_in (module_at (link_parts sources) index)
      ≡ map size_entered (all_sections (source_at sources index))
  unfolding sections_in module_at
  own_same index = some_modules (λ modules. nat_eq modules index) sources
      ∙ ap (λ at. flat_map (own_if (λ modules. nat_eq modules at)) (enumerate_from 0 sources)) (from_zero index)
      ∙ own_at 0 index sources
    where
      from_zero : (index : ℕ) → index ≡ 0 + index
      from_zero index = omega arith

  earlier_same : (index : ℕ) → sections_in (modules_before (link_parts sources) index)
      ≡ map size_entered (all_sections (take index sources))
  unfolding sections_in modules_before
  earlier_same index = some_modules (λ modules. nat_lt modules index) sources
      ∙ ap (λ at. flat_map (own_if (λ modules. nat_lt modules at)) (enumerate_from 0 sources)) (from_zero index)
      ∙ own_before 0 index sources
    where
      from_zero : (index : ℕ) → index ≡ 0 + index
      from_zero index = omega arith

  attributes_same : (name : Name) → first_attributes (link_parts sources) name ≡ attributes_of sources name
  unfolding first_attributes
  attributes_same name =
      ap (λ entered. unwrap_or (lookup (is_same_name name) entered) 0) (attributes_linked sources)

  pub size_same : (name : Name) → section_size (link_parts sources) name ≡ sources_of.size_of sources name
  unfolding section_size sizes_of
  size_same name =
      ap₂ total (attributes_same name) (ap (filter_map (size_under name)) (sections_linked sources))

  room_same : (name : Name) → room_of (link_parts sources) name ≡ sources_of.room_of sources name
  room_same name =
      ap₂ (λ attributes size. if is_relocatable attributes then size else 0) (attributes_same name) (size_same name)

  pub names_same : section_names (link_parts sources) ≡ names_of sources
  unfolding section_names
  names_same =
      ap (λ entered. distinct (keys_of entered)) (sections_linked sources)
      ∙ ap distinct (names_entered (all_sections sources))

  rooms_same : (names : List Name)
      → sum_by (room_of (link_parts sources)) names ≡ sum_by (sources_of.room_of sources) names
  rooms_same [] = refl
  rooms_same (name ∷ names) =
      sum_by-cons (room_of (link_parts sources)) name names
      ∙ ap₂ (λ room rooms. room + rooms) (room_same name) (rooms_same names)
      ∙ sym (sum_by-cons (sources_of.room_of sources) name names)

  base_same : (bottom : ℕ) (name : Name)
      → section_base bottom (link_parts sources) name ≡ sources_of.base_of bottom sources name
  unfolding section_base
  base_same bottom name =
      ap₂ (λ attributes names. if is_relocatable attributes
      then bottom + sum_by (room_of (link_parts sources)) (names_before name names) else 0) (attributes_same name) names_same
      ∙ ap (λ rooms. if is_relocatable (attributes_of sources name) then bottom + rooms else 0)
      (rooms_same (names_before name (names_of sources)))

  top_same : (bottom : ℕ) → top bottom (link_parts sources) ≡ top_of bottom sources
  unfolding top
  top_same bottom =
      ap (λ names. bottom + sum_by (room_of (link_parts sources)) names) names_same
      ∙ ap (λ rooms. bottom + rooms) (rooms_same (names_of sources))

  high_same : (bottom : ℕ) (name : Name) → ends_too_high bottom (link_parts sources) name ≡ ends_high bottom sources name
  high_same bottom name =
      ap₂ (λ (attributes end : ℕ). is_relocatable attributes && nat_lt 0o160000 end) (attributes_same name)
      (ap₂ (λ (base size : ℕ). base + size) (base_same bottom name) (size_same name))

  some_high : (bottom : ℕ) (names : List Name)
      → list_any (ends_too_high bottom (link_parts sources)) names ≡ list_any (ends_high bottom sources) names
  some_high bottom [] = refl
  some_high bottom (name ∷ names) = ap₂ (λ (b c : Bool). b || c) (high_same bottom name) (some_high bottom names)

  pub large_same : (bottom : ℕ) → is_too_large bottom (link_parts sources) ≡ is_large bottom sources
  unfolding is_too_large
  large_same bottom =
      ap (list_any (ends_too_high bottom (link_parts sources))) names_same ∙ some_high bottom (names_of sources)

  offset_same : (index : ℕ) (name : Name)
      → offset_after (first_attributes (link_parts sources) name) (sizes_of (modules_before (link_parts sources) index) name)
      ≡ offset_after (attributes_of sources name) (sources_of.sizes_of (take index sources) name)
  unfolding sizes_of
  offset_same index name =
      ap₂ offset_after (attributes_same name) (ap (filter_map (size_under name)) (earlier_same index))

  pub module_same : (bottom index : ℕ) (name : Name)
      → module_base bottom (link_parts sources) index name ≡ contribution bottom sources index name
  unfolding module_base contribution_base contribution
  module_same bottom index name =
      ap₂ (λ own location. modulo (base_entered (lookup (is_same_name name) own) location)) (own_same index)
      (ap₂ (λ base offset. base + offset) (base_same bottom name) (offset_same index name))

  -- ---- globals

  value_same : (bottom index : ℕ) (location : GlobalLocation)
      → location_value bottom (link_parts sources) index location ≡ image.address_of bottom sources index location
  value_same bottom index (Absolute number) = refl
  value_same bottom index (In section number) =
      ap (λ base. modulo (base + number)) (module_same bottom index section)

  defined_same : (bottom : ℕ) (found : Option Definition)
      → unwrap_or (option_map (definition_value bottom (link_parts sources)) found) 0
      ≡ unwrap_or (option_map (image.definition_value bottom sources) found) 0
  defined_same bottom None = refl
  defined_same bottom (Some definition) = value_same bottom definition.module_index definition.location

  global_same : (bottom : ℕ) (name : Name)
      → symbol (findings_of bottom (link_parts sources)) name ≡ global bottom sources name
  unfolding findings_of global_value global
  global_same bottom name =
      defined_same bottom (first_definition (link_parts sources) name)
      ∙ ap (λ (definitions : List (Name × Definition)).
      unwrap_or (option_map (image.definition_value bottom sources) (lookup (is_same_name name) definitions)) 0)
      (globals_linked sources)

pub lies_by_sources : (bottom : ℕ) (sources : List Source) → LiesBySources bottom sources
lies_by_sources bottom sources = record {
  base = module_same sources bottom;
  global = global_same sources bottom;
  top = top_same sources bottom;
}
