-- The transfer address of a plan is that of the definitions.
use Rattle.std.proofs.Common.{◌≡◌, ℕ, ◌+◌, ◌%◌, Bool, true, false, cond, ◌||◌, if◌then◌else◌, List, [], ◌∷◌, ◌++◌, length, map, is_some, Option, Some, None, refl, sym, ap, ◌∙◌, subst}
use Rattle.std.specs.List.{find}
use Rattle.std.specs.Map.{lookup}
use Rattle.std.specs.Option.{is_none, option_map, option_or, unwrap_or}
use Rattle.m11_base.specs.Rad50.{is_same_name}
use Rattle.m11_base.specs.Names.{absolute_name}
use Rattle.m11_obj.specs.declared.gsd.GsdEntry.{GsdEntry}
use Rattle.m11_obj.specs.declared.gsd.GsdKind.{GsdKind}
use Rattle.m11_obj.specs.declared.gsd.GsdKind.TheVariants.{ModuleName, ControlSection, InternalSymbol, TransferAddress, GlobalSymbol, ProgramSection, Identification}
use Rattle.m11_link_modules.specs.declared.fault.ModuleFault.TheVariants.{UnknownSection}
use Rattle.m11_link_modules.specs.Parts.{Part, Directory, Entry, EndOfDirectory, Text, Relocations, Relocated, EndOfModule, EndOfFile}
use Rattle.m11_link_modules.specs.Positions.{global_of, known_of, modules_in, sections_in, this_module}
use Rattle.m11_link_modules.specs.Rules.{entry_fault, fault_of, first_there}
use Rattle.m11_link_layout.specs.Tables.{LayoutTables, collected_after, is_even_after, nothing_collected, with_entry, with_relocated}
use Rattle.m11_link_layout.specs.Plan.{PlanTables, planned_base, planned_transfer, transfer_at}
use Rattle.m11_link_layout.specs.Sections.{module_base}
use Rattle.m11_link_layout.specs.Transfers.{is_even, transfer_address, transfer_by, transfer_in, transfer_value, transfers_of}
use Rattle.m11_link_layout.specs.declared.definition.Transfer.{Transfer}
use Rattle.m11_link_layout.proofs.ContributionsCollected.{ContributionsOf, no_fault}
use Rattle.m11_link_layout.proofs.Evenness.{even_is, relocated_at}
use Rattle.m11_link_layout.proofs.FirstEven.{find_same}
use Rattle.m11_link_layout.proofs.Keeping.{relocated_keeps, symbol_keeps}
use Rattle.m11_link_layout.proofs.ModulesOfParts.{add_zero, modules_are, modules_more}
use Rattle.m11_link_layout.proofs.Offsets.{entered_at}
use Rattle.m11_link_layout.proofs.SectionsCollected.{SectionsOf}
use Rattle.m11_link_layout.proofs.TransferSteps.{settled_is, transfer_entered, transfers_ended}
use Rattle.m11_link_layout.proofs.TransfersGathered.{TransfersOf, possible_before, transfers_kept}

-- ---- one more part gathered

abbrev pub TransfersIn : ℕ → List Part → LayoutTables → Type 0
TransfersIn bottom before g = TransfersOf bottom before g.transfer g.moved

abbrev transfers_reported : LayoutTables → Option Transfer × Option Transfer
transfers_reported g = (g.transfer, g.moved)

no_end : (before : List Part) (part : Part) → modules_in (part ∷ []) ≡ 0
    → modules_in (before ++ part ∷ []) ≡ modules_in before
no_end before part z = modules_more before part ∙ ap (λ n. modules_in before + n) z ∙ add_zero (modules_in before)

kept : (bottom : ℕ) (before : List Part) (g new : LayoutTables) (part : Part) → modules_in (part ∷ []) ≡ 0
    → transfer_in before part ≡ None
    → transfers_reported new ≡ transfers_reported g → TransfersIn bottom before g → TransfersIn bottom (before ++ part ∷ []) new
kept bottom before g new part z e same t =
    let P : Option Transfer × Option Transfer → Type 0 =
    λ reported. TransfersOf bottom (before ++ part ∷ []) reported.0 reported.1 in
    subst P (sym same) (transfers_kept bottom before part g.transfer g.moved (no_end before part z) e t)

-- a transfer entry without a fault names a section that its module knows
known_from : (found : Option ℕ) (absolute : Bool)
    → first_there ((is_none (option_or found (if absolute then Some 0 else None)), UnknownSection) ∷ []) ≡ None
    → (is_some found || absolute) ≡ true
known_from (Some size) absolute e = refl
known_from None true e = refl
known_from None false e = search

section_known : (before : List Part) (name : ℕ × ℕ)
    → first_there ((
      is_none (option_or (lookup (is_same_name name) (sections_in (this_module before)))
          (if is_same_name name absolute_name then Some 0 else None)),
      UnknownSection,
    ) ∷ []) ≡ None
    → (is_some (entered_at before (modules_in before) name) || is_same_name name absolute_name) ≡ true
section_known before name e =
    ap (λ parts. is_some (lookup (is_same_name name) (sections_in parts)) || is_same_name name absolute_name)
    (modules_are before).this
    ∙ known_from (lookup (is_same_name name) (sections_in (this_module before))) (is_same_name name absolute_name) e

entry_step : (bottom : ℕ) (before : List Part) (g : LayoutTables) (kind : GsdKind) (entry : GsdEntry)
    → modules_in (Entry entry ∷ []) ≡ 0
    → transfer_in before (Entry entry) ≡ transfer_by kind entry (modules_in before)
    → entry_fault kind entry (sections_in (this_module before)) (known_of before).sections (known_of before).globals
    ≡ None
    → length g.names ≡ modules_in before → SectionsOf before g.sections → ContributionsOf before g.contributions
    → TransfersIn bottom before g → TransfersIn bottom (before ++ Entry entry ∷ []) (with_entry bottom kind entry g)
entry_step bottom before g TransferAddress entry z e n l s c t =
    let m = no_end before (Entry entry) z in
    transfer_entered bottom before g entry (Entry entry) m e (section_known before entry.name n) l s c
    (λ assumed p. possible_before before (Entry entry) assumed m p) t
entry_step bottom before g ControlSection entry z e n l s c t =
    kept bottom before g (with_entry bottom ControlSection entry g) (Entry entry) z e refl t
entry_step bottom before g ProgramSection entry z e n l s c t =
    kept bottom before g (with_entry bottom ProgramSection entry g) (Entry entry) z e refl t
entry_step bottom before g ModuleName entry z e n l s c t =
    kept bottom before g (with_entry bottom ModuleName entry g) (Entry entry) z e refl t
entry_step bottom before g InternalSymbol entry z e n l s c t = kept bottom before g g (Entry entry) z e refl t
entry_step bottom before g GlobalSymbol entry z e n l s c t =
    kept bottom before g (with_entry bottom GlobalSymbol entry g) (Entry entry) z e
    (symbol_keeps transfers_reported g (λ definitions references weak. refl) entry) t
entry_step bottom before g Identification entry z e n l s c t = kept bottom before g g (Entry entry) z e refl t

pub transfers_step : (bottom : ℕ) (before : List Part) (g : LayoutTables) (part : Part) → fault_of before part ≡ None
    → length g.names ≡ modules_in before → SectionsOf before g.sections → ContributionsOf before g.contributions
    → TransfersIn bottom before g → TransfersIn bottom (before ++ part ∷ []) (collected_after bottom g part)
unfolding collected_after modules_in
transfers_step bottom before g Directory n l s c t = kept bottom before g g Directory refl refl refl t
transfers_step bottom before g (Entry entry) n l s c t =
    entry_step bottom before g entry.kind entry refl refl (no_fault before entry n) l s c t
transfers_step bottom before g EndOfDirectory n l s c t = kept bottom before g g EndOfDirectory refl refl refl t
transfers_step bottom before g (Text address bytes) n l s c t =
    kept bottom before g g (Text address bytes) refl refl refl t
transfers_step bottom before g Relocations n l s c t = kept bottom before g g Relocations refl refl refl t
transfers_step bottom before g (Relocated relocation) n l s c t =
    kept bottom before g (with_relocated (global_of relocation.target) g) (Relocated relocation) refl refl
    (relocated_keeps transfers_reported g (λ definitions references weak. refl) (global_of relocation.target)) t
transfers_step bottom before g EndOfModule n l s c t = transfers_ended bottom before g l s c t
transfers_step bottom before g EndOfFile n l s c t = kept bottom before g g EndOfFile refl refl refl t

none_in : (assumed : Bool) (one : Option Transfer) → (if assumed then one else one) ≡ one
none_in true one = refl
none_in false one = refl

pub transfers_none : (bottom : ℕ) → TransfersIn bottom [] nothing_collected
unfolding transfers_of
transfers_none bottom = record { known = tt; first = λ assumed possible. none_in assumed None }

-- ---- a plan

find_mapped : {X Y : Type 0} (p : Y → Bool) (f : X → Y) (xs : List X)
    → find p (map f xs) ≡ option_map f (find (λ x. p (f x)) xs)
find_mapped p f [] = refl
find_mapped {X} {Y} p f (x ∷ xs) = by (p (f x)) (f x) x _ _ (find_mapped p f xs) refl
  where
    by : (b : Bool) (y : Y) (x : X) (more : Option Y) (rest : Option X) → more ≡ option_map f rest → f x ≡ y
        → cond b (Some y) more ≡ option_map f (cond b (Some x) rest)
    by true y x more rest e h = ap (λ z. Some z) (sym h)
    by false y x more rest e h = e

at_is : (bottom : ℕ) (parts : List Part) (plan : PlanTables) (found : Option Transfer)
    → ((index : ℕ) (name : ℕ × ℕ) → planned_base plan index name ≡ module_base bottom parts index name)
    → transfer_at plan found ≡ unwrap_or (option_map (transfer_value bottom parts) found) 1
at_is bottom parts plan None b = refl
at_is bottom parts plan (Some one) b = ap (λ base. (base + one.value) % 0o200000) (b one.module_index one.section)

pub transfer_planned : (bottom : ℕ) (parts : List Part) (plan : PlanTables) → length plan.gathered.names ≡ modules_in parts
    → SectionsOf parts plan.gathered.sections → ContributionsOf parts plan.gathered.contributions
    → TransfersIn bottom parts plan.gathered
    → ((index : ℕ) (name : ℕ × ℕ) → planned_base plan index name ≡ module_base bottom parts index name)
    → planned_transfer plan ≡ transfer_address bottom parts
unfolding transfer_address
transfer_planned bottom parts plan l s c t b =
    ap (λ found. transfer_at plan found) (settled_is bottom parts plan.gathered l s c t
    ∙ find_same parts (λ one. is_even_after (relocated_at parts one.module_index one.section) bottom one.value)
    (λ one. is_even (transfer_value bottom parts one)) (transfers_of parts) t.known
    (λ one k. sym (even_is bottom parts one)))
    ∙ at_is bottom parts plan (find (λ one. is_even (transfer_value bottom parts one)) (transfers_of parts)) b
    ∙ ap (λ found. unwrap_or found 1) (sym (find_mapped is_even (transfer_value bottom parts) (transfers_of parts)))
