-- The tables of a plan grow with the names of its parts, and no further than the limits of a link.
use Rattle.std.proofs.Common.{◌≡◌, ℕ, suc, ◌+◌, ◌*◌, ◌≤◌, mul-le-mul, nat_lt, Bool, true, false, option_and_then, if◌then◌else◌, List, [], ◌∷◌, length, Option, Some, None, refl, sym, ◌∙◌, subst, arith}
use Rattle.indexmap.specs.IndexMap.{insert_entry}
use Rattle.m11_base.specs.Rad50.{is_same_name}
use Rattle.m11_link_modules.specs.Parts.{Part}
use Rattle.m11_link_modules.specs.Positions.{global_names, known_of, modules_in, section_names, sections_in, stage_after, this_module}
use Rattle.m11_link_modules.specs.Rules.{first_fault, most_globals, most_modules, most_sections}
use Rattle.m11_link_layout.specs.Plan.{Bases, IsPlan, PlanTables, TablesBounded, TablesGrow, address_limit, bases_onto, placed}
use Rattle.m11_link_layout.specs.Sections.{is_relocatable}
use Rattle.m11_link_layout.specs.declared.definition.Total.{Total}
use Rattle.m11_link_layout.specs.Tables.{LayoutTables}
use Rattle.m11_link_layout.proofs.KnownBounded.{modules_within}
use Rattle.m11_link_layout.proofs.NamesReported.{weak_within}
use Rattle.m11_link_layout.proofs.PlansOfParts.{Means, collected_means}
use Rattle.m11_link_layout.proofs.TablesBounded.{Tables, entered_few, few_weak, in_all, keys_counted, more_modules, no_less, one_entry, tables_of}

abbrev Entries : Type 0
Entries = List ((ℕ × ℕ) × ℕ)

none_found : (found : Bases) → None ≡ Some found → ⊥
none_found found e = cc

same_found : (these found : Bases) → Some these ≡ Some found → these ≡ found
same_found these found e = cc

-- placing a section adds at most one entry to the bases
one_placed : (bases : Entries) (name : ℕ × ℕ) (next top : ℕ) (found : Bases)
    → Some (record { bases = insert_entry is_same_name bases name next; top = top }) ≡ Some found
    → length found.bases ≤ length bases + 1
one_placed bases name next top found e =
    let P : Bases → Type 0 = λ these. length these.bases ≤ length bases + 1 in
    subst P (same_found _ found e) (one_entry is_same_name bases name next)

placed_by : (b c : Bool) (bases : Entries) (name : ℕ × ℕ) (next top : ℕ) (found : Bases)
    → (if b then (if c then None else Some (record { bases = insert_entry is_same_name bases name next; top = top }))
    else Some (record { bases = insert_entry is_same_name bases name 0; top = next })) ≡ Some found
    → length found.bases ≤ length bases + 1
placed_by true true bases name next top found e = absurd (none_found found e)
placed_by true false bases name next top found e = one_placed bases name next top found e
placed_by false c bases name next top found e = one_placed bases name 0 next found e

placed_few : (bases : Entries) (next : ℕ) (section : (ℕ × ℕ) × Total) (found : Bases)
    → placed bases next section ≡ Some found → length found.bases ≤ length bases + 1
placed_few bases next section found e =
    placed_by (is_relocatable section.1.attributes.0) (nat_lt address_limit (next + section.1.size)) bases section.0
    next (next + section.1.size) found e

placed_then : (here : Option Bases) (before : ℕ) (sections : List ((ℕ × ℕ) × Total)) (found : Bases)
    → ((following : Bases) → here ≡ Some following → length following.bases ≤ before + 1)
    → ((following : Bases) → bases_onto following.bases following.top sections ≡ Some found
    → length found.bases ≤ length following.bases + length sections)
    → option_and_then (λ following. bases_onto following.bases following.top sections) here ≡ Some found
    → length found.bases ≤ before + (length sections + 1)
placed_then None before sections found h k e = absurd (none_found found e)
placed_then (Some following) before sections found h k e =
    let one = h following refl in let rest = k following e in omega (arith, one, rest)

one_longer : (m n : ℕ) → m + (n + 1) ≡ m + suc n
one_longer m n = omega arith

all_placed : (bases : Entries) (next : ℕ) (sections : List ((ℕ × ℕ) × Total)) (found : Bases)
    → bases_onto bases next sections ≡ Some found → length found.bases ≤ length bases + length sections
all_placed bases next [] found e =
    let P : Bases → Type 0 = λ these. length these.bases ≤ length bases + 0 in
    subst P (same_found (record { bases = bases; top = next }) found e) (no_more (length bases))
  where
    no_more : (n : ℕ) → n ≤ n + 0
    no_more n = omega arith
all_placed bases next (section ∷ sections) found e =
    let P : ℕ → Type 0 = λ n. length found.bases ≤ n in
    subst P (one_longer (length bases) (length sections))
    (placed_then (placed bases next section) (length bases) sections found (placed_few bases next section)
    (λ following. all_placed following.bases following.top sections found) e)

bases_few : (parts : List Part) (plan : PlanTables) (bottom : ℕ) → IsPlan bottom parts plan → Means bottom parts plan.gathered
    → length plan.bases ≤ length (section_names parts)
unfolding known_of
bases_few parts plan bottom p m =
    none_before (length plan.bases) (length plan.gathered.sections) (length (section_names parts))
    (all_placed [] bottom plan.gathered.sections (record { bases = plan.bases; top = plan.top }) p.bases)
    (keys_counted plan.gathered.sections (section_names parts) m.sections.names)
  where
    none_before : (a b c : ℕ) → a ≤ 0 + b → b ≡ c → a ≤ c
    none_before a b c h e = omega (arith, h, e)

-- ---- the tables of a plan

-- if parts have no fault, the tables of their plan are bounded by the parts, and mean what the definitions say about them
gathered_kept : (bottom : ℕ) (parts : List Part) (plan : PlanTables) → first_fault [] parts ≡ None
    → IsPlan bottom parts plan → Tables parts plan.gathered × Means bottom parts plan.gathered
gathered_kept bottom parts plan n p =
    let P : LayoutTables → Type 0 = λ g. Tables parts g × Means bottom parts g in
    subst P (sym p.gathered) (tables_of bottom parts n, collected_means bottom parts n)

pub plan_grows : (bottom : ℕ) (parts : List Part) (plan : PlanTables) → first_fault [] parts ≡ None
    → IsPlan bottom parts plan → TablesGrow parts plan
plan_grows bottom parts plan n p =
    let k = gathered_kept bottom parts plan n p in
    record {
      contributions = k.0.contributions;
      names = k.1.names.count;
      weak = few_weak parts plan.gathered.weak k.0.weak
          (λ name a. weak_within parts name (sym (k.1.references.weak_is name) ∙ a));
      bases = bases_few parts plan bottom p k.1;
    }

no_more_than : (a b c : ℕ) → a ≡ b → b ≤ c → a ≤ c
no_more_than a b c e h = omega (arith, e, h)

pub plan_bounded : (bottom : ℕ) (parts : List Part) (plan : PlanTables) → first_fault [] parts ≡ None
    → IsPlan bottom parts plan → TablesBounded plan
unfolding known_of
plan_bounded bottom parts plan n p =
    let t = tables_of bottom parts n in
    let grow = plan_grows bottom parts plan n p in
    let modules = modules_within (stage_after parts) (modules_in parts) t.known.modules in
    let entered = in_all (length (sections_in parts)) (modules_in parts) (length (section_names parts))
    (length (sections_in (this_module parts))) t.entered (entered_few parts t.known) in
    let product : (modules_in parts + 1) * length (section_names parts) ≤ (most_modules + 1) * most_sections =
    mul-le-mul (more_modules (modules_in parts) most_modules modules) t.known.sections in
    record {
      contributions = no_less (length plan.gathered.contributions) (length (sections_in parts))
          ((most_modules + 1) * most_sections) grow.contributions
          (no_less (length (sections_in parts)) ((modules_in parts + 1) * length (section_names parts))
          ((most_modules + 1) * most_sections) entered product);
      names = no_more_than (length plan.gathered.names) (modules_in parts) most_modules grow.names modules;
      weak = no_less (length plan.gathered.weak) (length (global_names parts)) most_globals grow.weak t.known.globals;
      bases = no_less (length plan.bases) (length (section_names parts)) most_sections grow.bases t.known.sections;
    }
