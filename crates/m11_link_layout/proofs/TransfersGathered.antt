-- The transfer address that is gathered is the first even one of all parts.
use Rattle.std.proofs.Common.{◌≡◌, ℕ, nat_eq, Bool, true, false, ◌&&◌, ◌||◌, if◌then◌else◌, List, [], ◌∷◌, ◌++◌, append-nil, length, is_some, Option, Some, None, refl, sym, ap, ◌∙◌, subst, true≢false}
use Rattle.std.specs.List.{cons_option, find}
use Rattle.std.specs.Map.{lookup}
use Rattle.std.specs.Option.{unwrap_or}
use Rattle.m11_base.specs.Rad50.{is_same_name}
use Rattle.m11_base.proofs.SameNames.{same_name_equal}
use Rattle.m11_base.specs.Names.{absolute_name}
use Rattle.m11_link_modules.specs.Parts.{Part}
use Rattle.m11_link_modules.specs.Positions.{modules_in}
use Rattle.m11_link_layout.specs.Tables.{LayoutTables, entered_total, is_contribution, is_even_after, is_relocated}
use Rattle.m11_link_layout.specs.Sections.{first_attributes, is_relocatable, sizes_of}
use Rattle.m11_link_layout.specs.Transfers.{transfer_in, transfers_of}
use Rattle.m11_link_layout.specs.declared.definition.Transfer.{Transfer}
use Rattle.m11_link_layout.proofs.ContributionsCollected.{ContributionsOf}
use Rattle.m11_link_layout.proofs.Evenness.{relocated_at}
use Rattle.m11_link_layout.proofs.FirstEven.{all_known, find_same, known_goes_on, transfers_more, under_goes_on}
use Rattle.m11_link_layout.proofs.Offsets.{entered_at, enters_reported, offset_from, offset_in}
use Rattle.m11_link_layout.proofs.SectionsCollected.{SectionsOf}
use Rattle.m11_link_layout.proofs.Sizing.{attributes_found, total_from}
use Rattle.m11_link_layout.proofs.TransfersKnown.{AllKnown, attributes_stay, both_stay, entered_stays, relocated_under}
use Rattle.m11_link_layout.proofs.ModulesOfParts.{itself}

-- what may be assumed about `. ABS.` in this module: the truth if the module has entered it, and otherwise anything
abbrev pub Possible : List Part → Bool → Type 0
Possible before assumed =
    is_some (entered_at before (modules_in before) absolute_name) ≡ true
    → assumed ≡ is_relocatable (first_attributes before absolute_name)

abbrev pub even_under : ℕ → List Part → Bool → Transfer → Bool
even_under bottom before assumed transfer =
    is_even_after (relocated_under before assumed transfer) bottom transfer.value

abbrev pub slot : Bool → Option Transfer → Option Transfer → Option Transfer
slot assumed transfer moved = if assumed then moved else transfer

-- under each possible assumption, this is the first even transfer address
pub record TransfersOf (bottom : ℕ) (before : List Part) (transfer moved : Option Transfer) : Type 0 where
  pub known : AllKnown before (transfers_of before)
  pub first : (assumed : Bool) → Possible before assumed
      → slot assumed transfer moved ≡ find (even_under bottom before assumed) (transfers_of before)

-- ---- a part that ends no module

pub possible_before : (before : List Part) (part : Part) (assumed : Bool)
    → modules_in (before ++ part ∷ []) ≡ modules_in before
    → Possible (before ++ part ∷ []) assumed → Possible before assumed
possible_before before part assumed m p e =
    let index = modules_in before in
    p (ap (λ n. is_some (entered_at (before ++ part ∷ []) n absolute_name)) m
    ∙ ap is_some (entered_stays before part index absolute_name e) ∙ e)
    ∙ ap is_relocatable (attributes_stay before part index absolute_name e)

-- earlier transfer entries are judged as before
pub earlier_first : (bottom : ℕ) (before : List Part) (part : Part) (transfer moved : Option Transfer) (assumed : Bool)
    → modules_in (before ++ part ∷ []) ≡ modules_in before → TransfersOf bottom before transfer moved
    → Possible (before ++ part ∷ []) assumed
    → slot assumed transfer moved ≡ find (even_under bottom (before ++ part ∷ []) assumed) (transfers_of before)
earlier_first bottom before part transfer moved assumed m t p =
    t.first assumed (possible_before before part assumed m p)
    ∙ find_same before (even_under bottom before assumed) (even_under bottom (before ++ part ∷ []) assumed)
    (transfers_of before) t.known
    (λ one k. ap (λ b. is_even_after b bottom one.value) (sym (under_goes_on before part assumed one m k)))

pub no_transfer : (before : List Part) (part : Part) → transfer_in before part ≡ None
    → transfers_of (before ++ part ∷ []) ≡ transfers_of before
no_transfer before part e =
    transfers_more before part ∙ ap (λ found. transfers_of before ++ cons_option found []) e
    ∙ append-nil (transfers_of before)

pub transfers_kept : (bottom : ℕ) (before : List Part) (part : Part) (transfer moved : Option Transfer)
    → modules_in (before ++ part ∷ []) ≡ modules_in before → transfer_in before part ≡ None
    → TransfersOf bottom before transfer moved → TransfersOf bottom (before ++ part ∷ []) transfer moved
transfers_kept bottom before part transfer moved m e t =
    let same = no_transfer before part e in
    let P : List Transfer → Type 0 = λ these. AllKnown (before ++ part ∷ []) these in
    record {
      known = subst P (sym same) (all_known before (before ++ part ∷ []) (transfers_of before)
          (λ one k. known_goes_on before part one m k) t.known);
      first = λ assumed p. earlier_first bottom before part transfer moved assumed m t p
          ∙ ap (λ these. find (even_under bottom (before ++ part ∷ []) assumed) these) (sym same);
    }

-- ---- what this module entered

entered_by : (entered found : Option ℕ) (sizes : List ℕ) (offset : ℕ) (assumed : Bool) → (found ≡ None → entered ≡ None)
    → is_relocated (if is_some (offset_from entered offset) then total_from found sizes else None) assumed
    ≡ (if is_some entered then is_relocatable (unwrap_or found 0) else assumed)
entered_by None found sizes offset assumed h = refl
entered_by (Some size) None sizes offset assumed h = absurd (true≢false (ap is_some (h refl)))
entered_by (Some size) (Some attributes) sizes offset assumed h = refl

pub relocated_is : (before : List Part) (g : LayoutTables) (name : ℕ × ℕ) (assumed : Bool)
    → length g.names ≡ modules_in before
    → SectionsOf before g.sections → ContributionsOf before g.contributions
    → is_relocated (entered_total g name) assumed
    ≡ (if is_some (entered_at before (modules_in before) name) then is_relocatable
    (first_attributes before name) else assumed)
unfolding first_attributes
relocated_is before g name assumed l s c =
    (λ j. is_relocated (if is_some (lookup (is_contribution (l j, name)) g.contributions) then lookup
    (is_same_name name) g.sections else None) assumed)
    ∙ (λ j. is_relocated (if is_some (c (modules_in before) name j) then s.totals name j else None) assumed)
    ∙ entered_by (entered_at before (modules_in before) name) (attributes_found before name) (sizes_of before name)
    (offset_in before (modules_in before) name) assumed (enters_reported before (modules_in before) name)

-- ---- a transfer entry

by_known : (entered absolute relocatable assumed later : Bool) → (entered || absolute) ≡ true
    → (entered ≡ true → later ≡ relocatable)
    → (absolute ≡ true → entered ≡ true → assumed ≡ relocatable)
    → (if entered then relocatable else assumed) ≡ (if absolute then assumed else later)
by_known true true relocatable assumed later k l a = sym (a refl refl)
by_known true false relocatable assumed later k l a = sym (l refl)
by_known false true relocatable assumed later k l a = refl
by_known false false relocatable assumed later k l a = absurd (true≢false (sym k))

-- a transfer entry of this module is relocated as the attributes of its section say if the module has entered the section, and otherwise as
-- assumed
pub this_under : (before : List Part) (part : Part) (name : ℕ × ℕ) (value : ℕ) (assumed : Bool)
    → modules_in (before ++ part ∷ []) ≡ modules_in before
    → (is_some (entered_at before (modules_in before) name) || is_same_name name absolute_name) ≡ true
    → Possible before assumed
    → (if is_some (entered_at before (modules_in before) name) then is_relocatable
    (first_attributes before name) else assumed)
    ≡ relocated_under (before ++ part ∷ []) assumed
    (record { module_index = modules_in before; section = name; value = value })
this_under before part name value assumed m k p =
    let index = modules_in before in
    let entered = is_some (entered_at before index name) in
    let absolute = is_same_name name absolute_name in
    let later : (entered ≡ true → relocated_at (before ++ part ∷ []) index name
    ≡ is_relocatable (first_attributes before name)) = λ e.
    both_stay before part index name e ∙ ap (λ b. b && is_relocatable (first_attributes before name)) e in
    let here : (absolute ≡ true → entered ≡ true → assumed ≡ is_relocatable (first_attributes before name)) = λ a e.
    let P : ℕ × ℕ → Type 0 = λ n. is_some (entered_at before index n) ≡ true
    → assumed ≡ is_relocatable (first_attributes before n) in
    subst P (sym (same_name_equal name absolute_name a)) p e in
    by_known entered absolute (is_relocatable (first_attributes before name)) assumed
    (relocated_at (before ++ part ∷ []) index name) k later here
    ∙ ap (λ b. if b && absolute then assumed else relocated_at (before ++ part ∷ []) index name)
    (sym (ap (λ n. nat_eq index n) m ∙ itself index))
