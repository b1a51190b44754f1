-- Parts without the ends of files: the findings of the layout stay the same.
use Rattle.std.proofs.Common.{◌≡◌, ◌∙◌, ℕ, ◌+◌, ◌%◌, nat_eq, nat_lt, Bool, true, false, if◌then◌else◌, List, [], ◌∷◌, ◌++◌, map, sum_by, option_map, Option, Some, None, refl, sym, ap, ap₂}
use Rattle.std.specs.List.{cons_option, filter_map, find, list_any}
use Rattle.std.specs.Map.{keys_of, lookup}
use Rattle.std.specs.Option.{unwrap_or}
use Rattle.std.proofs.Math.Path.{fun_ext}
use Rattle.m11_base.specs.Rad50.{is_same_name}
use Rattle.m11_link_modules.specs.Parts.{Part, Entry, Relocated, EndOfModule, EndOfFile}
use Rattle.m11_link_modules.specs.Positions.{distinct, global_of, this_module}
use Rattle.m11_link_layout.specs.Globals.{definition_by, definition_in, definition_value, definitions_of, global_reported, global_value, globals_of, is_strong_to, last_of, last_section, location_value, reference_in, references_of, referred, relocated_reference, weak_in, weak_names}
use Rattle.m11_link_layout.specs.Modules.{first_of, indexed, module_at, modules_before, name_at, name_in, name_reported, reported_after}
use Rattle.m11_link_layout.specs.Sections.{attributes_in, contribution_base, ends_too_high, entered_attributes, first_attributes, is_relocatable, is_too_large, module_base, names_before, room_of, section_base, section_size, sections_of, size_under, sizes_of, top, total}
use Rattle.m11_link_layout.specs.Transfers.{is_even, transfer_address, transfer_by, transfer_in, transfers_of}
use Rattle.m11_link_layout.specs.declared.definition.GlobalLocation.{GlobalLocation}
use Rattle.m11_link_layout.specs.declared.definition.GlobalLocation.TheVariants.{Absolute, In}
use Rattle.m11_link_text.specs.Findings.{findings_of}
use Rattle.m11_link.specs.Written.{defined_names}
use Rattle.m11_link_laws.proofs.JoiningEnds.{end_left, entered_same, kept, module_same, modules_same, section_names_same, sections_same, reported_same, without_append, without_ends}

-- ---- functions of a part and the parts before it

-- a function of a part and the parts before it yields nothing for the end of a file, and ignores ends of files before the part
record Reporting {X : Type 0} (report : List Part → Part → Option X) : Type 0 where
  pub ends : (before : List Part) → report before EndOfFile ≡ None
  pub same : (before : List Part) (part : Part) → report (without_ends before) part ≡ report before part

module _ {X : Type 0} (report : List Part → Part → Option X) (t : Reporting report) where
  more_reported : (before : List Part) (part : Part) (these parts : List Part) → kept part ≡ Some part
      → reported_after report (without_ends (before ++ part ∷ [])) these ≡ reported_after report (before ++ part ∷ []) parts
      → cons_option (report (without_ends before) part) (reported_after report (without_ends before ++ part ∷ []) these)
      ≡ cons_option (report before part) (reported_after report (before ++ part ∷ []) parts)
  more_reported before part these parts is same =
      ap (λ all. cons_option (report (without_ends before) part) (reported_after report all these))
      (sym (without_append before (part ∷ [])
      ∙ ap (λ found. without_ends before ++ cons_option found []) is))
      ∙ ap₂ (λ found all. cons_option found all) (t.same before part) same

  reported_after_same : (before parts : List Part)
      → reported_after report (without_ends before) (without_ends parts) ≡ reported_after report before parts
  reported_after_same before [] = refl
  reported_after_same before (EndOfFile ∷ parts) =
      ap (λ all. reported_after report all (without_ends parts)) (sym (end_left before))
      ∙ reported_after_same (before ++ EndOfFile ∷ []) parts
      ∙ ap (λ found. cons_option found (reported_after report (before ++ EndOfFile ∷ []) parts)) (sym (t.ends before))
  reported_after_same before (part ∷ parts) =
      more_reported before part (without_ends parts) parts refl (reported_after_same (before ++ part ∷ []) parts)

last_same : (parts : List Part) → last_section (this_module (without_ends parts)) ≡ last_section (this_module parts)
unfolding last_section
last_same parts = ap (λ entered. last_of (keys_of entered)) (entered_same parts)

weak_same : (parts : List Part) → weak_names (this_module (without_ends parts)) ≡ weak_names (this_module parts)
unfolding weak_names
weak_same parts = ap (λ these. weak_names these) (module_same parts) ∙ reported_same weak_in refl (this_module parts)

definition_reporting : Reporting definition_in
definition_reporting = record { ends = λ before. refl; same = same }
  where
    same : (before : List Part) (part : Part) → definition_in (without_ends before) part ≡ definition_in before part
    same before (Entry entry) =
        ap₂ (λ n section. definition_by entry.kind entry n section) (modules_same before) (last_same before)
    same before part = refl

reference_reporting : Reporting reference_in
reference_reporting = record { ends = λ before. refl; same = same }
  where
    same : (before : List Part) (part : Part) → reference_in (without_ends before) part ≡ reference_in before part
    same before (Relocated relocation) =
        ap (λ weak. relocated_reference weak (global_of relocation.target)) (weak_same before)
    same before part = refl

transfer_reporting : Reporting transfer_in
transfer_reporting = record { ends = λ before. refl; same = same }
  where
    same : (before : List Part) (part : Part) → transfer_in (without_ends before) part ≡ transfer_in before part
    same before (Entry entry) = ap (λ n. transfer_by entry.kind entry n) (modules_same before)
    same before part = refl

definitions_same : (parts : List Part) → definitions_of (without_ends parts) ≡ definitions_of parts
unfolding definitions_of
definitions_same parts = reported_after_same definition_in definition_reporting [] parts

references_same : (parts : List Part) → references_of (without_ends parts) ≡ references_of parts
unfolding references_of
references_same parts = reported_after_same reference_in reference_reporting [] parts

transfers_same : (parts : List Part) → transfers_of (without_ends parts) ≡ transfers_of parts
unfolding transfers_of
transfers_same parts = reported_after_same transfer_in transfer_reporting [] parts

pub defined_same : (parts : List Part) → defined_names (without_ends parts) ≡ defined_names parts
unfolding defined_names
defined_same parts = ap (λ found. distinct (keys_of found)) (definitions_same parts)

-- ---- the parts of one module, and those before it

module _ (is_there : ℕ → Bool) where
  abbrev there : ℕ × Part → Option Part
  there indexed = if is_there indexed.0 then Some indexed.1 else None

  end_there : (b : Bool) (parts : List Part)
      → without_ends parts ≡ without_ends (cons_option (if b then Some EndOfFile else None) parts)
  end_there true parts = refl
  end_there false parts = refl

  part_there : (b : Bool) (part : Part) (these parts : List Part) → kept part ≡ Some part → these ≡ without_ends parts
      → cons_option (if b then Some part else None) these
      ≡ without_ends (cons_option (if b then Some part else None) parts)
  part_there true part these parts is same =
      ap (λ all. part ∷ all) same ∙ ap (λ found. cons_option found (without_ends parts)) (sym is)
  part_there false part these parts is same = same

  indexed_same : (index : ℕ) (parts : List Part)
      → filter_map there (indexed index (without_ends parts)) ≡ without_ends (filter_map there (indexed index parts))
  indexed_same index [] = refl
  indexed_same index (EndOfFile ∷ parts) =
      indexed_same index parts ∙ end_there (is_there index) (filter_map there (indexed index parts))
  indexed_same index (EndOfModule ∷ parts) =
      part_there (is_there index) EndOfModule (filter_map there (indexed (index + 1) (without_ends parts)))
      (filter_map there (indexed (index + 1) parts)) refl (indexed_same (index + 1) parts)
  indexed_same index (part ∷ parts) =
      part_there (is_there index) part (filter_map there (indexed index (without_ends parts)))
      (filter_map there (indexed index parts)) refl (indexed_same index parts)

module_at_same : (parts : List Part) (index : ℕ)
    → module_at (without_ends parts) index ≡ without_ends (module_at parts index)
unfolding module_at
module_at_same parts index = indexed_same (λ n. nat_eq n index) 0 parts

modules_before_same : (parts : List Part) (index : ℕ)
    → modules_before (without_ends parts) index ≡ without_ends (modules_before parts index)
unfolding modules_before
modules_before_same parts index = indexed_same (λ n. nat_lt n index) 0 parts

name_reported_same : (parts : List Part) → name_reported (without_ends parts) ≡ name_reported parts
unfolding name_reported
name_reported_same parts = ap (λ names. first_of names) (reported_same name_in refl parts)

name_same : (parts : List Part) (index : ℕ) → name_at (without_ends parts) index ≡ name_at parts index
name_same parts index =
    ap₂ (λ n name. if nat_lt index n then unwrap_or name (0, 0) else (0, 0)) (modules_same parts)
    (ap (λ these. name_reported these) (module_at_same parts index) ∙ name_reported_same (module_at parts index))

-- ---- sections

attributes_same : (parts : List Part) (name : ℕ × ℕ)
    → first_attributes (without_ends parts) name ≡ first_attributes parts name
unfolding first_attributes
attributes_same parts name =
    ap (λ found. unwrap_or (lookup (is_same_name name) found) 0) (reported_same attributes_in refl parts)

sizes_same : (parts : List Part) (name : ℕ × ℕ) → sizes_of (without_ends parts) name ≡ sizes_of parts name
unfolding sizes_of
sizes_same parts name = ap (λ entered. filter_map (size_under name) entered) (sections_same parts)

size_same : (parts : List Part) (name : ℕ × ℕ) → section_size (without_ends parts) name ≡ section_size parts name
unfolding section_size
size_same parts name = λ j. total (attributes_same parts name j) (sizes_same parts name j)

rooms_same : (parts : List Part) → room_of (without_ends parts) ≡ room_of parts
rooms_same parts = fun_ext (λ name. rw (attributes_same parts name, size_same parts name) refl)

base_same : (bottom : ℕ) (parts : List Part) (name : ℕ × ℕ)
    → section_base bottom (without_ends parts) name ≡ section_base bottom parts name
unfolding section_base
base_same bottom parts name = λ j.
    if is_relocatable (attributes_same parts name j)
    then bottom + sum_by (rooms_same parts j) (names_before name (section_names_same parts j)) else 0

top_same : (bottom : ℕ) (parts : List Part) → top bottom (without_ends parts) ≡ top bottom parts
unfolding top
top_same bottom parts = λ j. bottom + sum_by (rooms_same parts j) (section_names_same parts j)

too_high_same : (bottom : ℕ) (parts : List Part)
    → ends_too_high bottom (without_ends parts) ≡ ends_too_high bottom parts
too_high_same bottom parts =
    fun_ext (λ name. rw (attributes_same parts name, base_same bottom parts name, size_same parts name) refl)

pub too_large_same : (bottom : ℕ) (parts : List Part)
    → is_too_large bottom (without_ends parts) ≡ is_too_large bottom parts
unfolding is_too_large
too_large_same bottom parts =
    ap₂ (λ test names. list_any test names) (too_high_same bottom parts) (section_names_same parts)

reported_sections_same : (bottom : ℕ) (parts : List Part)
    → sections_of bottom (without_ends parts) ≡ sections_of bottom parts
unfolding sections_of
reported_sections_same bottom parts =
    ap₂ (λ report names. map report names)
    (fun_ext (λ name. rw (base_same bottom parts name, size_same parts name, attributes_same parts name) refl))
    (section_names_same parts)

-- ---- contributions

contribution_same : (bottom : ℕ) (parts earlier own : List Part) (name : ℕ × ℕ)
    → contribution_base bottom (without_ends parts) (without_ends earlier) (without_ends own) name
    ≡ contribution_base bottom parts earlier own name
unfolding contribution_base
contribution_same bottom parts earlier own name = rw (
  sections_same own,
  base_same bottom parts name,
  attributes_same parts name,
  sizes_same earlier name,
) refl

module_base_same : (bottom : ℕ) (parts : List Part) (index : ℕ) (name : ℕ × ℕ)
    → module_base bottom (without_ends parts) index name ≡ module_base bottom parts index name
unfolding module_base
module_base_same bottom parts index name =
    ap₂ (λ earlier own. contribution_base bottom (without_ends parts) earlier own name % 0o200000)
    (modules_before_same parts index) (module_at_same parts index)
    ∙ ap (λ n. n % 0o200000)
    (contribution_same bottom parts (modules_before parts index) (module_at parts index) name)

-- ---- globals and the transfer address

location_same : (bottom : ℕ) (parts : List Part) (index : ℕ) (location : GlobalLocation)
    → location_value bottom (without_ends parts) index location ≡ location_value bottom parts index location
location_same bottom parts index (Absolute value) = refl
location_same bottom parts index (In section value) =
    ap (λ base. (base + value) % 0o200000) (module_base_same bottom parts index section)

values_same : (bottom : ℕ) (parts : List Part)
    → definition_value bottom (without_ends parts) ≡ definition_value bottom parts
values_same bottom parts =
    fun_ext (λ definition. location_same bottom parts definition.module_index definition.location)

value_same : (bottom : ℕ) (parts : List Part) (name : ℕ × ℕ)
    → global_value bottom (without_ends parts) name ≡ global_value bottom parts name
unfolding global_value
value_same bottom parts name = λ j.
    option_map (values_same bottom parts j) (lookup (is_same_name name) (definitions_same parts j))

globals_same : (bottom : ℕ) (parts : List Part) → globals_of bottom (without_ends parts) ≡ globals_of bottom parts
unfolding globals_of
globals_same bottom parts = λ j.
    filter_map (λ name. option_map (reported j name) (lookup (is_same_name name) (definitions_same parts j)))
    (distinct (keys_of (definitions_same parts j)))
  where
    reported : global_reported bottom (without_ends parts) ≡ global_reported bottom parts
    reported = λ j name definition. record {
      name = name;
      value = values_same bottom parts j definition;
      module_name = name_same parts definition.module_index j;
    }

referred_same : (parts : List Part) → referred (without_ends parts) ≡ referred parts
unfolding referred
referred_same parts =
    ap (λ found. map (λ name. (name, list_any (is_strong_to name) found)) (distinct (keys_of found)))
    (references_same parts)

transfer_same : (bottom : ℕ) (parts : List Part)
    → transfer_address bottom (without_ends parts) ≡ transfer_address bottom parts
unfolding transfer_address
transfer_same bottom parts =
    ap₂ (λ value found. unwrap_or (find is_even (map value found)) 1)
    (fun_ext (λ transfer. ap (λ base. (base + transfer.value) % 0o200000)
    (module_base_same bottom parts transfer.module_index transfer.section)))
    (transfers_same parts)

-- ---- all findings

first_entered_same : (parts : List Part) (name : ℕ × ℕ)
    → entered_attributes (without_ends parts) name ≡ entered_attributes parts name
unfolding entered_attributes
first_entered_same parts name = ap (λ found. lookup (is_same_name name) found) (reported_same attributes_in refl parts)

pub findings_same : (bottom : ℕ) (parts : List Part)
    → findings_of bottom (without_ends parts) ≡ findings_of bottom parts
unfolding findings_of
findings_same bottom parts = λ j. record {
  base = λ index name. module_base_same bottom parts index name j;
  value = λ name. value_same bottom parts name j;
  attributes = λ name. first_entered_same parts name j;
  module_name = λ index. name_same parts index j;
  sections = reported_sections_same bottom parts j;
  globals = globals_same bottom parts j;
  references = referred_same parts j;
  transfer = transfer_same bottom parts j;
  bottom = bottom;
  top = top_same bottom parts j;
}
