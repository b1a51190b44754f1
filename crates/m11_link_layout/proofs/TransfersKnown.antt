-- Transfer entries name sections that their modules know, and what a module knows about them doesn't change.
use Rattle.std.proofs.Common.{◌≡◌, ℕ, nat_eq, nat_lt, Bool, true, false, ◌&&◌, ◌||◌, if◌then◌else◌, List, [], ◌∷◌, ◌++◌, is_some, Option, Some, None, refl, sym, ap, ◌∙◌, true≢false, arith}
use Rattle.std.specs.List.{filter_map}
use Rattle.std.specs.Map.{lookup}
use Rattle.std.specs.Option.{option_or, unwrap_or}
use Rattle.std.proofs.lemmas.Bool.Decides.{nat_tests}
use Rattle.m11_base.specs.Rad50.{is_same_name}
use Rattle.m11_base.specs.Names.{absolute_name}
use Rattle.m11_link_modules.specs.Parts.{Part, EndOfModule}
use Rattle.m11_link_modules.specs.Positions.{modules_in}
use Rattle.m11_link_layout.specs.Sections.{attributes_in, first_attributes, is_relocatable}
use Rattle.m11_link_layout.specs.declared.definition.Transfer.{Transfer}
use Rattle.m11_link_layout.proofs.Evenness.{relocated_at}
use Rattle.m11_link_layout.proofs.Offsets.{entered_at, entered_more, enters_reported, reported_where}
use Rattle.m11_link_layout.proofs.Sizing.{attributes_found, attributes_more, or_none}

-- ---- what a module entered stays

some_or : {X : Type 0} (found other : Option X) → is_some found ≡ true → option_or found other ≡ found
some_or None other e = absurd (true≢false (sym e))
some_or (Some x) other e = refl

found_where : (entered found : Option ℕ) → is_some entered ≡ true → (found ≡ None → entered ≡ None)
    → is_some found ≡ true
found_where entered None e h = ap is_some (sym (h refl)) ∙ e
found_where entered (Some x) e h = refl

pub entered_stays : (before : List Part) (part : Part) (index : ℕ) (name : ℕ × ℕ)
    → is_some (entered_at before index name) ≡ true
    → entered_at (before ++ part ∷ []) index name ≡ entered_at before index name
entered_stays before part index name e =
    entered_more before part index name
    ∙ some_or (entered_at before index name) (lookup (is_same_name name)
    (reported_where (nat_eq (modules_in before) index) part)) e

pub attributes_stay : (before : List Part) (part : Part) (index : ℕ) (name : ℕ × ℕ)
    → is_some (entered_at before index name) ≡ true
    → first_attributes (before ++ part ∷ []) name ≡ first_attributes before name
unfolding first_attributes
attributes_stay before part index name e =
    ap (λ found. unwrap_or found 0)
    (attributes_more before part name
    ∙ some_or (attributes_found before name) (lookup (is_same_name name) (filter_map attributes_in (part ∷ [])))
    (found_where (entered_at before index name) (attributes_found before name) e (enters_reported before index name)))

pub both_stay : (before : List Part) (part : Part) (index : ℕ) (name : ℕ × ℕ)
    → is_some (entered_at before index name) ≡ true
    → relocated_at (before ++ part ∷ []) index name ≡ relocated_at before index name
both_stay before part index name e =
    λ j. is_some (entered_stays before part index name e j) && is_relocatable
    (attributes_stay before part index name e j)

-- a part that reports nothing about a module doesn't change whether the module's sections are relocated
none_comes : (before : List Part) (part : Part) (index : ℕ) (name : ℕ × ℕ) (b : Bool)
    → is_some (entered_at before index name) ≡ b
    → reported_where (nat_eq (modules_in before) index) part ≡ []
    → relocated_at (before ++ part ∷ []) index name ≡ relocated_at before index name
none_comes before part index name true e t = both_stay before part index name e
none_comes before part index name false e t =
    let same : entered_at (before ++ part ∷ []) index name ≡ entered_at before index name =
    entered_more before part index name
    ∙ ap (λ reported. option_or (entered_at before index name) (lookup (is_same_name name) reported)) t
    ∙ or_none (entered_at before index name) in
    ap (λ b. b && is_relocatable (first_attributes (before ++ part ∷ []) name)) (ap is_some same ∙ e)
    ∙ ap (λ b. b && is_relocatable (first_attributes before name)) (sym e)

pub ended_relocated : (before : List Part) (index : ℕ) (name : ℕ × ℕ)
    → relocated_at (before ++ EndOfModule ∷ []) index name ≡ relocated_at before index name
ended_relocated before index name =
    none_comes before EndOfModule index name _ refl (reported_none (nat_eq (modules_in before) index))
  where
    reported_none : (b : Bool) → reported_where b EndOfModule ≡ []
    reported_none true = refl
    reported_none false = refl

other_relocated : (before : List Part) (part : Part) (index : ℕ) (name : ℕ × ℕ)
    → nat_eq (modules_in before) index ≡ false
    → relocated_at (before ++ part ∷ []) index name ≡ relocated_at before index name
other_relocated before part index name e = none_comes before part index name _ refl (ap (λ b. reported_where b part) e)

-- ---- transfer entries that are known

-- whether a transfer entry is in an earlier module, or is in this module and names a section that the module has entered, or `. ABS.`
abbrev pub known_at : List Part → Transfer → Bool
known_at before transfer = nat_lt transfer.module_index (modules_in before)
    || (nat_eq transfer.module_index (modules_in before)
    && (is_some (entered_at before transfer.module_index transfer.section) || is_same_name transfer.section absolute_name))

abbrev pub AllKnown : List Part → List Transfer → Type 0
AllKnown before [] = Unit {0}
AllKnown before (transfer ∷ transfers) = (known_at before transfer ≡ true) × AllKnown before transfers

abbrev pub is_absolute_here : List Part → Transfer → Bool
is_absolute_here before transfer =
    nat_eq transfer.module_index (modules_in before) && is_same_name transfer.section absolute_name

-- whether a transfer address is relocated, if `. ABS.` of this module is as assumed
abbrev pub relocated_under : List Part → Bool → Transfer → Bool
relocated_under before assumed transfer =
    if is_absolute_here before transfer then assumed else relocated_at before transfer.module_index transfer.section

not_now : (index modules : ℕ) → nat_lt index modules ≡ true → nat_eq modules index ≡ false
not_now index modules e = grind (arith, nat_tests)

-- unless it names `. ABS.` in this module, a known transfer entry stays relocated or not after one more part
known_stays : (before : List Part) (part : Part) (transfer : Transfer) (earlier now entered absolute : Bool)
    → nat_lt transfer.module_index (modules_in before) ≡ earlier
    → nat_eq transfer.module_index (modules_in before) ≡ now
    → is_some (entered_at before transfer.module_index transfer.section) ≡ entered
    → is_same_name transfer.section absolute_name ≡ absolute
    → (earlier || (now && (entered || absolute))) ≡ true → (now && absolute) ≡ false
    → relocated_at (before ++ part ∷ []) transfer.module_index transfer.section
    ≡ relocated_at before transfer.module_index transfer.section
known_stays before part transfer true now entered absolute l n e a k f =
    other_relocated before part transfer.module_index transfer.section
    (not_now transfer.module_index (modules_in before) l)
known_stays before part transfer false true true absolute l n e a k f =
    both_stay before part transfer.module_index transfer.section e
known_stays before part transfer false true false true l n e a k f = absurd (true≢false f)
known_stays before part transfer false true false false l n e a k f = absurd (true≢false (sym k))
known_stays before part transfer false false entered absolute l n e a k f = absurd (true≢false (sym k))

pub stays_known : (before : List Part) (part : Part) (transfer : Transfer) → known_at before transfer ≡ true
    → is_absolute_here before transfer ≡ false
    → relocated_at (before ++ part ∷ []) transfer.module_index transfer.section
    ≡ relocated_at before transfer.module_index transfer.section
stays_known before part transfer k f = known_stays before part transfer _ _ _ _ refl refl refl refl k f
