-- The sections and globals that a plan reports in order are those of all parts.
use Rattle.std.proofs.Common.{◌≡◌, ℕ, ◌||◌, min, Bool, true, List, [], ◌∷◌, length, map, option_map, slice_get, Option, Some, None, refl, sym, ap, ◌∙◌, subst, arith}
use Rattle.std.specs.List.{filter_map, list_any}
use Rattle.std.specs.Map.{lookup}
use Rattle.std.specs.Option.{unwrap_or}
use Rattle.std.proofs.lemmas.List.{length-map}
use Rattle.std.proofs.lemmas.Option.{slice_get-map}
use Rattle.m11_base.specs.Rad50.{is_same_name}
use Rattle.m11_base.proofs.SameNames.{same_name_itself, same_name_equal}
use Rattle.m11_link_modules.specs.Parts.{Part}
use Rattle.m11_link_modules.specs.Positions.{section_names}
use Rattle.m11_link_layout.specs.Tables.{size_cap}
use Rattle.m11_link_layout.specs.Globals.{first_definition, global_defined, global_reported, globals_of, location_value}
use Rattle.m11_link_layout.specs.Modules.{name_at}
use Rattle.m11_link_layout.specs.Plan.{PlanTables, attributes_reported, global_planned, planned_attributes, planned_globals, planned_module, planned_section_base, planned_sections, section_planned, value_at}
use Rattle.m11_link_layout.specs.Sections.{entered_attributes, first_attributes, flags_of, most_size, section_base, section_size, section_reported, sections_of, sizes_of}
use Rattle.m11_link_layout.specs.declared.definition.Definition.{Definition}
use Rattle.m11_link_layout.specs.declared.definition.GlobalLocation.{GlobalLocation}
use Rattle.m11_link_layout.specs.declared.definition.Total.{Total}
use Rattle.m11_link_layout.specs.declared.planned.PlannedGlobal.{PlannedGlobal}
use Rattle.m11_link_layout.specs.declared.planned.PlannedSection.{PlannedSection}
use Rattle.m11_link_layout.proofs.DefinitionsGathered.{DefinitionsOf}
use Rattle.m11_link_layout.proofs.Finding.{apart_distinct, Apart, each_reported, or_true}
use Rattle.m11_link_layout.proofs.PlannedBases.{bases_of, found_mapped}
use Rattle.m11_link_layout.proofs.SectionsCollected.{SectionsOf, sections_are}
use Rattle.m11_link_layout.proofs.Sizing.{attributes_found, total_from, total_in}

-- ---- the item at an index

pub sections_counted : (plan : PlanTables) → length (planned_sections plan) ≡ length plan.gathered.sections
unfolding planned_sections
sections_counted plan = length-map plan.gathered.sections (section_planned plan)

pub section_found : (plan : PlanTables) (index : ℕ) (section : (ℕ × ℕ) × Total)
    → slice_get plan.gathered.sections index ≡ Some section
    → slice_get (planned_sections plan) index ≡ Some (section_planned plan section)
unfolding planned_sections
section_found plan index section e =
    slice_get-map (section_planned plan) plan.gathered.sections index ∙ ap (λ o. option_map (section_planned plan) o) e

pub globals_counted : (plan : PlanTables) → length (planned_globals plan) ≡ length plan.gathered.definitions
unfolding planned_globals
globals_counted plan = length-map plan.gathered.definitions (global_planned plan)

pub global_found : (plan : PlanTables) (index : ℕ) (global : (ℕ × ℕ) × Definition)
    → slice_get plan.gathered.definitions index ≡ Some global
    → slice_get (planned_globals plan) index ≡ Some (global_planned plan global)
unfolding planned_globals
global_found plan index global e =
    slice_get-map (global_planned plan) plan.gathered.definitions index ∙ ap (λ o. option_map (global_planned plan) o) e

-- ---- sections

capped : (size : ℕ) → min most_size (min size_cap size) ≡ min most_size size
capped size = omega arith

abbrev reported_so : (name : ℕ × ℕ) (base size attributes : ℕ) → PlannedSection
reported_so name base size attributes =
    record { name = name; base = base; size = size; attributes = flags_of attributes }

sections_reported : (bottom : ℕ) (parts : List Part) (plan : PlanTables) (names : List (ℕ × ℕ))
    → ((name : ℕ × ℕ) → list_any (is_same_name name) names ≡ true
    → planned_section_base plan name ≡ section_base bottom parts name)
    → map (section_planned plan) (map (λ name. (name, total_in parts name)) names)
    ≡ map (section_reported bottom parts) names
sections_reported bottom parts plan [] h = refl
sections_reported bottom parts plan (name ∷ names) h =
    let P : Bool → Type 0 = λ b. (b || list_any (is_same_name name) names) ≡ true in
    let base = h name (subst P (sym (same_name_itself name)) refl) in
    let size = capped (section_size parts name) in
    let rest = sections_reported bottom parts plan names
    (λ other t. h other (or_true (is_same_name other name) (list_any (is_same_name other) names) t)) in
    λ j. reported_so name (base j) (size j) (first_attributes parts name) ∷ rest j

pub sections_listed : (bottom : ℕ) (parts : List Part) (plan : PlanTables) → SectionsOf parts plan.gathered.sections
    → plan.bases ≡ bases_of bottom parts → planned_sections plan ≡ sections_of bottom parts
unfolding planned_sections sections_of
sections_listed bottom parts plan s b =
    ap (λ sections. map (section_planned plan) sections) (sections_are parts plan.gathered.sections s)
    ∙ sections_reported bottom parts plan (section_names parts) (λ name t.
    ap (λ bases. unwrap_or (lookup (is_same_name name) bases) 0) b
    ∙ ap (λ found. unwrap_or found 0) (found_mapped (section_base bottom parts) (section_names parts) name t))

attributes_from : (found : Option ℕ) (sizes : List ℕ) → attributes_reported (total_from found sizes) ≡ found
attributes_from None sizes = refl
attributes_from (Some attributes) sizes = refl

pub attributes_are : (parts : List Part) (plan : PlanTables) (name : ℕ × ℕ) → SectionsOf parts plan.gathered.sections
    → planned_attributes plan name ≡ entered_attributes parts name
unfolding entered_attributes
attributes_are parts plan name s =
    ap attributes_reported (s.totals name) ∙ attributes_from (attributes_found parts name) (sizes_of parts name)

-- ---- globals

mapped_alike : {X Y : Type 0} (one other : X → Y) → ((x : X) → one x ≡ other x) → (xs : List X)
    → map one xs ≡ map other xs
mapped_alike one other h [] = refl
mapped_alike one other h (x ∷ xs) = λ j. h x j ∷ mapped_alike one other h xs j

abbrev global_as : ℕ × ℕ → ℕ → ℕ × ℕ → PlannedGlobal
global_as name value module_name = record { name = name; value = value; module_name = module_name }

pub globals_listed : (bottom : ℕ) (parts : List Part) (plan : PlanTables) → DefinitionsOf parts plan.gathered.definitions
    → ((index : ℕ) (location : GlobalLocation) → value_at plan index location ≡ location_value bottom parts index location)
    → ((index : ℕ) → planned_module plan index ≡ name_at parts index) → planned_globals plan ≡ globals_of bottom parts
unfolding planned_globals globals_of
globals_listed bottom parts plan d values names =
    let P : List (ℕ × ℕ) → Type 0 = λ these. Apart is_same_name these in
    let apart = subst P (sym d.names) (apart_distinct _) in
    let alike = mapped_alike (global_planned plan) (λ e. global_reported bottom parts e.0 e.1)
    (λ e j. global_as e.0 (values e.1.module_index e.1.location j) (names e.1.module_index j)) plan.gathered.definitions in
    let reported = each_reported is_same_name same_name_equal same_name_itself (global_reported bottom parts) (first_definition parts)
    plan.gathered.definitions apart (λ name t. sym (d.found name)) in
    alike ∙ sym reported ∙ ap (λ these. filter_map (global_defined bottom parts) these) d.names
