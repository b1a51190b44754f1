-- The first transfer entry with an even address, after one more part.
use Rattle.std.proofs.Common.{◌≡◌, ℕ, ◌+◌, nat_eq, nat_lt, Bool, true, false, cond, ◌&&◌, ◌||◌, if◌then◌else◌, List, [], ◌∷◌, ◌++◌, is_some, Option, Some, refl, sym, ap, ◌∙◌, subst, true≢false, arith}
use Rattle.std.specs.List.{cons_option, find}
use Rattle.std.proofs.lemmas.Bool.Decides.{nat_tests}
use Rattle.m11_base.specs.Rad50.{is_same_name}
use Rattle.m11_base.specs.Names.{absolute_name}
use Rattle.m11_link_modules.specs.Parts.{Part, EndOfModule}
use Rattle.m11_link_modules.specs.Positions.{modules_in}
use Rattle.m11_link_layout.specs.Tables.{transfer_after}
use Rattle.m11_link_layout.specs.Transfers.{transfer_in, transfers_of}
use Rattle.m11_link_layout.specs.declared.definition.Transfer.{Transfer}
use Rattle.m11_link_layout.proofs.Evenness.{relocated_at}
use Rattle.m11_link_layout.proofs.ModulesOfParts.{one_ended}
use Rattle.m11_link_layout.proofs.Offsets.{entered_at}
use Rattle.m11_link_layout.proofs.TransfersKnown.{AllKnown, entered_stays, is_absolute_here, known_at, relocated_under, stays_known}
use Rattle.m11_link_layout.proofs.Reporting.{reported_more}

-- ---- lists of transfer entries

pub find_same : (before : List Part) (p q : Transfer → Bool) (transfers : List Transfer) → AllKnown before transfers
    → ((transfer : Transfer) → known_at before transfer ≡ true → p transfer ≡ q transfer)
    → find p transfers ≡ find q transfers
find_same before p q [] k h = refl
find_same before p q (transfer ∷ transfers) k h =
    let first = h transfer k.0 in
    let rest = find_same before p q transfers k.1 h in
    λ j. cond (first j) (Some transfer) (rest j)

pub find_more : (p : Transfer → Bool) (transfers : List Transfer) (transfer : Transfer)
    → find p (transfers ++ transfer ∷ []) ≡ transfer_after (find p transfers) (p transfer) transfer
find_more p [] transfer = refl
find_more p (first ∷ transfers) transfer = by (p first) _ _ (find_more p transfers transfer)
  where
    by : (b : Bool) (more rest : Option Transfer) → more ≡ transfer_after rest (p transfer) transfer
        → cond b (Some first) more ≡ transfer_after (cond b (Some first) rest) (p transfer) transfer
    by true more rest e = refl
    by false more rest e = e

pub all_known : (before after : List Part) (transfers : List Transfer)
    → ((transfer : Transfer) → known_at before transfer ≡ true → known_at after transfer ≡ true)
    → AllKnown before transfers → AllKnown after transfers
all_known before after [] h k = tt
all_known before after (transfer ∷ transfers) h k = (h transfer k.0, all_known before after transfers h k.1)

pub one_known : (before : List Part) (transfers : List Transfer) (transfer : Transfer) → AllKnown before transfers
    → known_at before transfer ≡ true
    → AllKnown before (transfers ++ transfer ∷ [])
one_known before [] transfer k e = (e, tt)
one_known before (first ∷ transfers) transfer k e = (k.0, one_known before transfers transfer k.1 e)

pub transfers_more : (before : List Part) (part : Part)
    → transfers_of (before ++ part ∷ []) ≡ transfers_of before ++ cons_option (transfer_in before part) []
unfolding transfers_of
transfers_more before part = reported_more transfer_in before part

-- ---- known after one more part

more_known : (l n a x : Bool) → (l || (n && (false || a))) ≡ true → (l || (n && (x || a))) ≡ true
more_known true n a x e = refl
more_known false true a true e = refl
more_known false true a false e = e
more_known false false a x e = e

known_by : (before : List Part) (part : Part) (transfer : Transfer) (b : Bool)
    → is_some (entered_at before transfer.module_index transfer.section) ≡ b
    → known_at before transfer ≡ true
    → (nat_lt transfer.module_index (modules_in before)
    || (nat_eq transfer.module_index (modules_in before)
    && (is_some (entered_at (before ++ part ∷ []) transfer.module_index transfer.section)
    || is_same_name transfer.section absolute_name))) ≡ true
known_by before part transfer true e k =
    let P : Option ℕ → Type 0 = λ entered. (nat_lt transfer.module_index (modules_in before)
    || (nat_eq transfer.module_index (modules_in before)
    && (is_some entered || is_same_name transfer.section absolute_name))) ≡ true in
    subst P (sym (entered_stays before part transfer.module_index transfer.section e)) k
known_by before part transfer false e k =
    let l = nat_lt transfer.module_index (modules_in before) in
    let n = nat_eq transfer.module_index (modules_in before) in
    let a = is_same_name transfer.section absolute_name in
    let P : Bool → Type 0 = λ b. (l || (n && (b || a))) ≡ true in
    more_known l n a (is_some (entered_at (before ++ part ∷ []) transfer.module_index transfer.section)) (subst P e k)

pub known_goes_on : (before : List Part) (part : Part) (transfer : Transfer)
    → modules_in (before ++ part ∷ []) ≡ modules_in before
    → known_at before transfer ≡ true → known_at (before ++ part ∷ []) transfer ≡ true
known_goes_on before part transfer m k =
    let P : ℕ → Type 0 = λ n. (nat_lt transfer.module_index n
    || (nat_eq transfer.module_index n
    && (is_some (entered_at (before ++ part ∷ []) transfer.module_index transfer.section)
    || is_same_name transfer.section absolute_name))) ≡ true in
    subst P (sym m) (known_by before part transfer
    (is_some (entered_at before transfer.module_index transfer.section)) refl k)

below_next : (index modules : ℕ) (x : Bool) → (nat_lt index modules || (nat_eq index modules && x)) ≡ true
    → nat_lt index (modules + 1) ≡ true
below_next index modules x e = by (nat_lt index modules) (nat_eq index modules) refl refl e
  where
    by : (l n : Bool) → nat_lt index modules ≡ l → nat_eq index modules ≡ n → (l || (n && x)) ≡ true
        → nat_lt index (modules + 1) ≡ true
    by true n f g e = grind (arith, nat_tests)
    by false true f g e = grind (arith, nat_tests)
    by false false f g e = absurd (true≢false (sym e))

pub known_below : (before : List Part) (transfer : Transfer) → known_at before transfer ≡ true
    → nat_lt transfer.module_index (modules_in (before ++ EndOfModule ∷ [])) ≡ true
known_below before transfer k =
    ap (λ n. nat_lt transfer.module_index n) (one_ended before)
    ∙ below_next transfer.module_index (modules_in before) _ k

pub known_ended : (before : List Part) (transfer : Transfer) → known_at before transfer ≡ true
    → known_at (before ++ EndOfModule ∷ []) transfer ≡ true
known_ended before transfer k =
    ap (λ b. b || (nat_eq transfer.module_index (modules_in (before ++ EndOfModule ∷ []))
    && (is_some (entered_at (before ++ EndOfModule ∷ []) transfer.module_index transfer.section)
    || is_same_name transfer.section absolute_name)))
    (known_below before transfer k)

-- ---- relocated after one more part

under_by : (before : List Part) (part : Part) (assumed : Bool) (transfer : Transfer) (b : Bool)
    → is_absolute_here before transfer ≡ b
    → known_at before transfer ≡ true
    → (if b then assumed else relocated_at (before ++ part ∷ []) transfer.module_index transfer.section)
    ≡ (if b then assumed else relocated_at before transfer.module_index transfer.section)
under_by before part assumed transfer true e k = refl
under_by before part assumed transfer false e k = stays_known before part transfer k e

pub under_goes_on : (before : List Part) (part : Part) (assumed : Bool) (transfer : Transfer)
    → modules_in (before ++ part ∷ []) ≡ modules_in before
    → known_at before transfer ≡ true → relocated_under (before ++ part ∷ []) assumed transfer
    ≡ relocated_under before assumed transfer
under_goes_on before part assumed transfer m k =
    ap (λ n. if nat_eq transfer.module_index n && is_same_name transfer.section absolute_name then assumed
    else relocated_at (before ++ part ∷ []) transfer.module_index transfer.section) m
    ∙ under_by before part assumed transfer (is_absolute_here before transfer) refl k
