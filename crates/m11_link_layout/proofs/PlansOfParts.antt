-- What is gathered from all parts is what the definitions say about them, and so is what a plan reports.
use Rattle.std.proofs.Common.{◌≡◌, ℕ, ◌+◌, ◌%◌, Bool, true, false, if◌then◌else◌, List, [], ◌∷◌, ◌++◌, Option, Some, None, refl, sym, ap, ◌∙◌, subst}
use Rattle.std.specs.Option.{option_map}
use Rattle.m11_base.specs.Rad50.{is_same_name}
use Rattle.m11_link_modules.specs.Parts.{Part}
use Rattle.m11_link_modules.specs.Positions.{known_of, section_names, this_module}
use Rattle.m11_link_modules.specs.Rules.{fault_of, first_fault}
use Rattle.m11_link_layout.specs.Tables.{LayoutTables, collected_after, collected_after_all, nothing_collected}
use Rattle.m11_link_layout.specs.Globals.{definition_value, first_definition, global_value, last_section, location_value}
use Rattle.m11_link_layout.specs.Modules.{name_at}
use Rattle.m11_link_layout.specs.Plan.{Bases, IsPlan, IsPlanOf, PlanTables, TablesBounded, TablesGrow, bases_onto, defined_value, planned_base, planned_module, planned_value, value_at}
use Rattle.m11_link_layout.specs.Sections.{is_too_large, module_base, top}
use Rattle.m11_link_layout.specs.declared.definition.Definition.{Definition}
use Rattle.m11_link_layout.specs.declared.definition.GlobalLocation.{GlobalLocation}
use Rattle.m11_link_layout.specs.declared.definition.GlobalLocation.TheVariants.{Absolute, In}
use Rattle.m11_link_layout.specs.declared.definition.Total.{Total}
use Rattle.m11_link_layout.proofs.BasesPlaced.{bases_placed}
use Rattle.m11_link_layout.proofs.ContributionsCollected.{ContributionsOf, contributions_none, contributions_step}
use Rattle.m11_link_layout.proofs.DefinitionsGathered.{DefinitionsOf, definitions_none, definitions_step}
use Rattle.m11_link_layout.proofs.LastSections.{section_none, section_step}
use Rattle.m11_link_layout.proofs.Finding.{Apart}
use Rattle.m11_link_layout.proofs.NamesGathered.{NamesOf, names_are, names_none, names_step}
use Rattle.m11_link_layout.proofs.PlannedBases.{base_planned, bases_of}
use Rattle.m11_link_layout.proofs.PlannedLists.{attributes_are, globals_listed, sections_listed}
use Rattle.m11_link_layout.proofs.ReferenceSteps.{ReferencesOf, references_are, references_none, references_step}
use Rattle.m11_link_layout.proofs.SectionsCollected.{SectionsOf, sections_are, sections_none, sections_step}
use Rattle.m11_link_layout.proofs.TransferPlanned.{TransfersIn, transfer_planned, transfers_none, transfers_step}
use Rattle.m11_link_layout.proofs.Walking.{walked}

-- ---- what is gathered

pub record Means (bottom : ℕ) (before : List Part) (g : LayoutTables) : Type 0 where
  pub sections : SectionsOf before g.sections
  pub contributions : ContributionsOf before g.contributions
  pub names : NamesOf before g.names g.name
  pub section : g.section ≡ last_section (this_module before)
  pub definitions : DefinitionsOf before g.definitions
  pub transfers : TransfersIn bottom before g
  pub references : ReferencesOf before g.references g.weak

means_step : (bottom : ℕ) (before : List Part) (g : LayoutTables) (part : Part) → fault_of before part ≡ None
    → Means bottom before g
    → Means bottom (before ++ part ∷ []) (collected_after bottom g part)
means_step bottom before g part n m = record {
  sections = sections_step bottom before g part n m.sections;
  contributions = contributions_step bottom before g part n m.names.count m.sections m.contributions;
  names = names_step bottom before g part m.names;
  section = section_step bottom before g part m.section;
  definitions = definitions_step bottom before g part m.names.count m.section m.definitions;
  transfers = transfers_step bottom before g part n m.names.count m.sections m.contributions m.transfers;
  references = references_step bottom before g part m.references;
}

means_none : (bottom : ℕ) → Means bottom [] nothing_collected
means_none bottom = record {
  sections = sections_none;
  contributions = contributions_none;
  names = names_none;
  section = section_none;
  definitions = definitions_none;
  transfers = transfers_none bottom;
  references = references_none;
}

pub collected_means : (bottom : ℕ) (parts : List Part) → first_fault [] parts ≡ None
    → Means bottom parts (collected_after_all bottom nothing_collected parts)
collected_means bottom parts n =
    walked bottom (Means bottom) (means_step bottom) [] parts nothing_collected n (means_none bottom)

-- ---- bases

apart_names : (parts : List Part) (sections : List ((ℕ × ℕ) × Total)) → SectionsOf parts sections
    → Apart is_same_name (section_names parts)
unfolding known_of
apart_names parts sections s = let P : List (ℕ × ℕ) → Type 0 = λ names. Apart is_same_name names in subst P s.names s.apart

abbrev bases_reported : ℕ → List Part → Bases
bases_reported bottom parts = record { bases = bases_of bottom parts; top = top bottom parts }

bases_are : (bottom : ℕ) (parts : List Part) (sections : List ((ℕ × ℕ) × Total)) → SectionsOf parts sections
    → bases_onto [] bottom sections ≡ (if is_too_large bottom parts then None else Some (bases_reported bottom parts))
bases_are bottom parts sections s =
    ap (λ these. bases_onto [] bottom these) (sections_are parts sections s)
    ∙ bases_placed bottom parts (apart_names parts sections s)

there : (b : Bool) (reported result : Bases) → (if b then None else Some result) ≡ Some reported → (b ≡ false) × (reported ≡ result)
there true reported result e = search
there false reported result e = (refl, cc)

nowhere : (b : Bool) (result : Bases) → (if b then None else Some result) ≡ None → b ≡ true
nowhere true result e = refl
nowhere false result e = search

pub too_large_is : (bottom : ℕ) (parts : List Part) → first_fault [] parts ≡ None
    → bases_onto [] bottom (collected_after_all bottom nothing_collected parts).sections ≡ None
    → is_too_large bottom parts ≡ true
too_large_is bottom parts n e =
    nowhere (is_too_large bottom parts) (bases_reported bottom parts)
    (sym (bases_are bottom parts _ (collected_means bottom parts n).sections) ∙ e)

-- ---- values

abbrev HasBases : ℕ → List Part → PlanTables → Type 0
HasBases bottom parts plan =
    (index : ℕ) (name : ℕ × ℕ) → planned_base plan index name ≡ module_base bottom parts index name

location_is : (bottom : ℕ) (parts : List Part) (plan : PlanTables) (index : ℕ) (location : GlobalLocation)
    → HasBases bottom parts plan
    → value_at plan index location ≡ location_value bottom parts index location
location_is bottom parts plan index (Absolute value) b = refl
location_is bottom parts plan index (In section value) b = ap (λ base. (base + value) % 0o200000) (b index section)

defined_is : (bottom : ℕ) (parts : List Part) (plan : PlanTables) (found : Option Definition) → HasBases bottom parts plan
    → defined_value plan found ≡ option_map (definition_value bottom parts) found
defined_is bottom parts plan None b = refl
defined_is bottom parts plan (Some definition) b =
    ap (λ n. Some n) (location_is bottom parts plan definition.module_index definition.location b)

value_is : (bottom : ℕ) (parts : List Part) (plan : PlanTables) (name : ℕ × ℕ) → HasBases bottom parts plan
    → DefinitionsOf parts plan.gathered.definitions → planned_value plan name ≡ global_value bottom parts name
unfolding global_value
value_is bottom parts plan name b d =
    ap (λ found. defined_value plan found) (d.found name) ∙ defined_is bottom parts plan (first_definition parts name) b

-- ---- a plan

pub plan_is : (bottom : ℕ) (parts : List Part) (plan : PlanTables) → first_fault [] parts ≡ None
    → IsPlan bottom parts plan → TablesGrow parts plan → TablesBounded plan → IsPlanOf bottom parts plan
plan_is bottom parts plan n is grow bounded =
    let P : LayoutTables → Type 0 = λ g. Means bottom parts g in
    let means = subst P (sym is.gathered) (collected_means bottom parts n) in
    let reported : Bases = record { bases = plan.bases; top = plan.top } in
    let placed = there (is_too_large bottom parts) reported (bases_reported bottom parts)
    (sym (bases_are bottom parts plan.gathered.sections means.sections) ∙ is.bases) in
    let bases : HasBases bottom parts plan = λ index name.
    base_planned bottom parts plan index name means.sections means.contributions
    (ap (λ these. these.bases) placed.1) placed.0 in
    let names : (index : ℕ) → planned_module plan index ≡ name_at parts index = λ index.
    names_are parts plan.gathered.names plan.gathered.name index means.names in
    record {
      fits = placed.0;
      bases = bases;
      values = λ name. value_is bottom parts plan name bases means.definitions;
      transfer = transfer_planned bottom parts plan means.names.count means.sections means.contributions
          means.transfers bases;
      sections = sections_listed bottom parts plan means.sections (ap (λ these. these.bases) placed.1);
      globals = globals_listed bottom parts plan means.definitions
          (λ index location. location_is bottom parts plan index location bases) names;
      attributes = λ name. attributes_are parts plan name means.sections;
      definitions = means.definitions.found;
      defined = means.definitions.names;
      references = references_are parts plan.gathered.references plan.gathered.weak means.references;
      names = names;
      limits = (is.bottom_is, ap (λ these. these.top) placed.1);
      grow = grow;
      bounded = bounded;
    }
