-- The transfer address after a transfer entry, after an end, and in a plan.
use Rattle.std.proofs.Common.{◌≡◌, ℕ, nat_eq, nat_lt, Bool, true, false, ◌&&◌, ◌||◌, if◌then◌else◌, List, [], ◌∷◌, ◌++◌, length, is_some, Option, Some, refl, sym, ap, ◌∙◌, subst, arith}
use Rattle.std.specs.List.{cons_option, find}
use Rattle.std.proofs.lemmas.Bool.Decides.{nat_tests}
use Rattle.m11_base.specs.Rad50.{is_same_name}
use Rattle.m11_base.proofs.SameNames.{same_name_equal}
use Rattle.m11_base.specs.Names.{absolute_name}
use Rattle.m11_obj.specs.declared.gsd.GsdEntry.{GsdEntry}
use Rattle.m11_link_modules.specs.Parts.{Part, EndOfModule}
use Rattle.m11_link_modules.specs.Positions.{modules_in}
use Rattle.m11_link_layout.specs.Tables.{LayoutTables, entered_total, is_even_after, is_relocated, settled, transfer_after, with_transfer}
use Rattle.m11_link_layout.specs.Sections.{first_attributes, is_relocatable}
use Rattle.m11_link_layout.specs.Transfers.{transfer_in, transfers_of}
use Rattle.m11_link_layout.specs.declared.definition.Transfer.{Transfer}
use Rattle.m11_link_layout.proofs.ContributionsCollected.{ContributionsOf}
use Rattle.m11_link_layout.proofs.Evenness.{relocated_at}
use Rattle.m11_link_layout.proofs.FirstEven.{all_known, find_more, find_same, known_below, known_ended, known_goes_on, one_known, transfers_more}
use Rattle.m11_link_layout.proofs.Offsets.{entered_at}
use Rattle.m11_link_layout.proofs.SectionsCollected.{SectionsOf}
use Rattle.m11_link_layout.proofs.TransfersGathered.{Possible, TransfersOf, earlier_first, even_under, no_transfer, relocated_is, slot, this_under}
use Rattle.m11_link_layout.proofs.TransfersKnown.{AllKnown, ended_relocated, known_at, relocated_under}
use Rattle.m11_link_layout.proofs.ModulesOfParts.{itself}

-- ---- a transfer entry

in_both : (assumed : Bool) (transfer moved : Option Transfer) (now : Bool → Bool) (one : Transfer)
    → slot assumed (transfer_after transfer (now false) one) (transfer_after moved (now true) one)
    ≡ transfer_after (slot assumed transfer moved) (now assumed) one
in_both true transfer moved now one = refl
in_both false transfer moved now one = refl

known_here : (later now known : Bool) → now ≡ true → known ≡ true → (later || (now && known)) ≡ true
known_here true now known n k = refl
known_here false now known n k = let P : Bool → Type 0 = λ b. (b && known) ≡ true in subst P (sym n) k

pub transfer_entered : (bottom : ℕ) (before : List Part) (g : LayoutTables) (entry : GsdEntry) (part : Part)
    → modules_in (before ++ part ∷ []) ≡ modules_in before
    → transfer_in before part
    ≡ Some (record { module_index = modules_in before; section = entry.name; value = entry.value })
    → (is_some (entered_at before (modules_in before) entry.name) || is_same_name entry.name absolute_name) ≡ true
    → length g.names ≡ modules_in before → SectionsOf before g.sections → ContributionsOf before g.contributions
    → ((assumed : Bool) → Possible (before ++ part ∷ []) assumed → Possible before assumed)
    → TransfersOf bottom before g.transfer g.moved
    → TransfersOf bottom (before ++ part ∷ []) (with_transfer bottom entry g).transfer
    (with_transfer bottom entry g).moved
transfer_entered bottom before g entry part m e k l s c p t =
    let all = before ++ part ∷ [] in
    let index = modules_in before in
    let one : Transfer = record { module_index = index; section = entry.name; value = entry.value } in
    let same = transfers_more before part ∙ ap (λ found. transfers_of before ++ cons_option found []) e in
    let known_one = known_here (nat_lt index index) (nat_eq index index) _ (itself index) k in
    let P : List Transfer → Type 0 = λ these. AllKnown all these in
    let now : Bool → Bool = λ assumed. is_even_after
    (is_relocated (entered_total g entry.name) assumed) bottom entry.value in
    record {
      known = subst P (sym same) (one_known all (transfers_of before) one
          (all_known before all (transfers_of before) (λ other k. known_goes_on before part other m k) t.known)
          (known_goes_on before part one m known_one));
      first = λ assumed possible.
          in_both assumed g.transfer g.moved now
          (record { module_index = length g.names; section = entry.name; value = entry.value })
          ∙ (λ j. transfer_after (earlier_first bottom before part g.transfer g.moved assumed m t possible j)
          (is_even_after ((relocated_is before g entry.name assumed l s c
          ∙ this_under before part entry.name entry.value assumed m k (p assumed possible)) j) bottom entry.value)
          (record { module_index = l j; section = entry.name; value = entry.value }))
          ∙ sym (find_more (even_under bottom all assumed) (transfers_of before) one)
          ∙ ap (λ these. find (even_under bottom all assumed) these) (sym same);
    }

-- ---- the transfer address that is settled

absolute_relocated : (before : List Part) (g : LayoutTables) → length g.names ≡ modules_in before
    → SectionsOf before g.sections
    → ContributionsOf before g.contributions → is_relocated (entered_total g absolute_name) false
    ≡ relocated_at before (modules_in before) absolute_name
absolute_relocated before g l s c =
    relocated_is before g absolute_name false l s c
    ∙ either (is_some (entered_at before (modules_in before) absolute_name))
    (is_relocatable (first_attributes before absolute_name))
  where
    either : (b r : Bool) → (if b then r else false) ≡ (b && r)
    either true r = refl
    either false r = refl

same_number : (a b : ℕ) → nat_eq a b ≡ true → a ≡ b
same_number a b e = grind (arith, nat_tests)

-- if the assumption about `. ABS.` of this module is right, each transfer entry is relocated under it if and only if it is relocated
under_settled : (before : List Part) (assumed : Bool) (one : Transfer)
    → assumed ≡ relocated_at before (modules_in before) absolute_name
    → relocated_under before assumed one ≡ relocated_at before one.module_index one.section
under_settled before assumed one a =
    by (nat_eq one.module_index (modules_in before)) (is_same_name one.section absolute_name) refl refl
  where
    by : (n b : Bool) → nat_eq one.module_index (modules_in before) ≡ n → is_same_name one.section absolute_name ≡ b
        → (if n && b then assumed else relocated_at before one.module_index one.section)
        ≡ relocated_at before one.module_index one.section
    by true true e f =
        let index = same_number one.module_index (modules_in before) e in
        let name = same_name_equal one.section absolute_name f in
        a ∙ (λ j. relocated_at before (sym index j) (sym name j))
    by true false e f = refl
    by false b e f = refl

pub settled_is : (bottom : ℕ) (before : List Part) (g : LayoutTables) → length g.names ≡ modules_in before
    → SectionsOf before g.sections
    → ContributionsOf before g.contributions → TransfersOf bottom before g.transfer g.moved
    → settled g ≡ find (λ one. is_even_after (relocated_at before one.module_index one.section) bottom one.value)
    (transfers_of before)
settled_is bottom before g l s c t =
    let assumed = is_relocated (entered_total g absolute_name) false in
    let is = absolute_relocated before g l s c in
    t.first assumed (λ e. is ∙ ap (λ b. b && is_relocatable (first_attributes before absolute_name)) e)
    ∙ find_same before (even_under bottom before assumed)
    (λ one. is_even_after (relocated_at before one.module_index one.section) bottom one.value)
    (transfers_of before) t.known (λ one k. ap (λ b. is_even_after b bottom one.value)
    (under_settled before assumed one is))

-- ---- the end of a module

not_equal : (index modules : ℕ) → nat_lt index modules ≡ true → nat_eq index modules ≡ false
not_equal index modules e = grind (arith, nat_tests)

under_ended : (before : List Part) (assumed : Bool) (one : Transfer) → known_at before one ≡ true
    → relocated_under (before ++ EndOfModule ∷ []) assumed one ≡ relocated_at before one.module_index one.section
under_ended before assumed one k =
    ap (λ b. if b && is_same_name one.section absolute_name then assumed else relocated_at
    (before ++ EndOfModule ∷ []) one.module_index one.section)
    (not_equal one.module_index (modules_in (before ++ EndOfModule ∷ [])) (known_below before one k))
    ∙ ended_relocated before one.module_index one.section

same_slot : (assumed : Bool) (transfer : Option Transfer) → slot assumed transfer transfer ≡ transfer
same_slot true transfer = refl
same_slot false transfer = refl

pub transfers_ended : (bottom : ℕ) (before : List Part) (g : LayoutTables) → length g.names ≡ modules_in before
    → SectionsOf before g.sections
    → ContributionsOf before g.contributions → TransfersOf bottom before g.transfer g.moved
    → TransfersOf bottom (before ++ EndOfModule ∷ []) (settled g) (settled g)
transfers_ended bottom before g l s c t =
    let all = before ++ EndOfModule ∷ [] in
    let same = no_transfer before EndOfModule refl in
    let P : List Transfer → Type 0 = λ these. AllKnown all these in
    record {
      known = subst P (sym same) (all_known before all (transfers_of before)
          (λ one k. known_ended before one k) t.known);
      first = λ assumed possible. same_slot assumed (settled g) ∙ settled_is bottom before g l s c t
          ∙ find_same before (λ one. is_even_after
          (relocated_at before one.module_index one.section) bottom one.value) (even_under bottom all assumed)
          (transfers_of before) t.known (λ one k. ap (λ b. is_even_after b bottom one.value)
          (sym (under_ended before assumed one k)))
          ∙ ap (λ these. find (even_under bottom all assumed) these) (sym same);
    }
