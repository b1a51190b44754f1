-- The names of modules, sections and globals bound the tables of a link.
use Rattle.std.proofs.Common.{◌≡◌, ℕ, ◌+◌, ◌*◌, ◌≤◌, mul-le-mul, List, [], length, None, refl, sym, ◌∙◌}
use Rattle.std.specs.Map.{keys_of}
use Rattle.m11_link_modules.specs.Parts.{Part}
use Rattle.m11_link_modules.specs.Positions.{global_names, known_of, modules_in, section_names, sections_in, stage_after, this_module}
use Rattle.m11_link_modules.specs.Rules.{first_fault, most_modules, most_sections}
use Rattle.m11_link_layout.specs.Globals.{definitions_of, references_of}
use Rattle.m11_link_layout.proofs.KnownBounded.{modules_within}
use Rattle.m11_link_layout.proofs.NamesReported.{definitions_within, references_within, weak_within}
use Rattle.m11_link_layout.proofs.PlansOfParts.{collected_means}
use Rattle.m11_link_layout.proofs.TablesBounded.{entered_few, few_globals, few_pairs, few_weak, in_all, keys_counted, more_modules, no_less, tables_of}
use Rattle.m11_link.specs.Written.{defined_names}
use Rattle.m11_link_laws.specs.Tables.{ContributionsWithinLimits, GlobalsWithinLimits, ModulesWithinLimits, SectionsWithinLimits, collected_of}

pub modules_within_limits : (bottom : ℕ) (parts : List Part) → first_fault [] parts ≡ None → ModulesWithinLimits bottom parts
unfolding known_of
modules_within_limits bottom parts n =
    let t = tables_of bottom parts n in
    record {
      gathered = (collected_means bottom parts n).names.count;
      most = modules_within (stage_after parts) (modules_in parts) t.known.modules;
    }

pub sections_within_limits : (bottom : ℕ) (parts : List Part) → first_fault [] parts ≡ None → SectionsWithinLimits bottom parts
unfolding known_of
sections_within_limits bottom parts n =
    let t = tables_of bottom parts n in
    record {
      gathered = keys_counted (collected_of bottom parts).sections (section_names parts)
          (collected_means bottom parts n).sections.names;
      known = refl;
      entered = entered_few parts t.known;
      most = t.known.sections;
    }

pub contributions_within_limits : (bottom : ℕ) (parts : List Part) → first_fault [] parts ≡ None → ContributionsWithinLimits bottom parts
contributions_within_limits bottom parts n =
    let t = tables_of bottom parts n in
    let all = in_all (length (sections_in parts)) (modules_in parts) (length (section_names parts))
    (length (sections_in (this_module parts))) t.entered (entered_few parts t.known) in
    let product : (modules_in parts + 1) * length (section_names parts) ≤ (most_modules + 1) * most_sections =
    mul-le-mul (more_modules (modules_in parts) most_modules (modules_within_limits bottom parts n).most)
    (sections_within_limits bottom parts n).most in
    record {
      gathered = t.contributions;
      entered = all;
      most = no_less (length (sections_in parts)) ((modules_in parts + 1) * length (section_names parts))
          ((most_modules + 1) * most_sections) all product;
    }

few_defined : (parts : List Part) → length (defined_names parts) ≤ length (global_names parts)
unfolding defined_names
few_defined parts = few_globals parts (keys_of (definitions_of parts)) (definitions_within parts)

pub globals_within_limits : (bottom : ℕ) (parts : List Part) → first_fault [] parts ≡ None → GlobalsWithinLimits bottom parts
unfolding known_of
globals_within_limits bottom parts n =
    let t = tables_of bottom parts n in
    let m = collected_means bottom parts n in
    record {
      definitions = few_pairs parts (collected_of bottom parts).definitions (keys_of (definitions_of parts))
          m.definitions.names (definitions_within parts);
      references = few_pairs parts (collected_of bottom parts).references (keys_of (references_of parts))
          m.references.table.names (references_within parts);
      weak = few_weak parts (collected_of bottom parts).weak t.weak
          (λ name a. weak_within parts name (sym (m.references.weak_is name) ∙ a));
      known = refl;
      defined = few_defined parts;
      most = t.known.globals;
    }
