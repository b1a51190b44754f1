-- Texts that are built line by line, and maps made from a plan.
use Rattle.std.proofs.Common.{◌≡◌, ◌∙◌, ℕ, ◌+◌, ◌<◌, ◌≤◌, List, [], ◌∷◌, ◌++◌, append-nil, append_assoc, length, drop, get_or, slice_get, Some, refl, sym, ap, subst}
use Rattle.std.specs.List.{flat_map}
use Rattle.std.proofs.lemmas.List.{drop_all, drop_more}
use Rattle.m11_link_modules.proofs.Indexing.{drop_at}
use Rattle.m11_link_modules.specs.Parts.{Part}
use Rattle.m11_link_layout.specs.Plan.{IsPlanOf, PlanTables}
use Rattle.m11_link_layout.specs.declared.planned.PlannedGlobal.{PlannedGlobal}
use Rattle.m11_link_load_map.specs.LoadMap.{IsByValue, IsLoadMap, map_text}
use Rattle.m11_link_load_map.specs.Noted.{contributions_from, index_after, noted_of}
use Rattle.m11_link_load_map.specs.Run.{IsMapBy}
use Rattle.m11_link_load_map.specs.declared.noted.MapFact.{MapFact}
use Rattle.m11_link_load_map.specs.declared.noted.MapFact.TheVariants.{Section, ModuleEnd}
use Rattle.m11_link_load_map.proofs.Shown.{noted_contributions}

-- ---- lines one after another

flat_append : {X : Type 0} (show : X → List ℕ) (xs ys : List X) → flat_map show (xs ++ ys) ≡ flat_map show xs ++ flat_map show ys
flat_append show [] ys = refl
flat_append show (x ∷ xs) ys =
    ap (λ (these : List ℕ). show x ++ these) (flat_append show xs ys)
    ∙ sym (append_assoc (show x) (flat_map show xs) (flat_map show ys))

-- the text so far, and the items left to show, make the same text as the first text and all items
abbrev pub Leads : {X : Type 0} → (X → List ℕ) → List ℕ → List X → List ℕ → List X → Type 0
Leads show first all now left = now ++ flat_map show left ≡ first ++ flat_map show all

-- this still holds after some more items are shown
pub more_shown : {X : Type 0} (show : X → List ℕ) (first : List ℕ) (all : List X) (now later : List ℕ) (left one rest : List X)
    → left ≡ one ++ rest → Leads show first all now left → later ≡ now ++ flat_map show one → Leads show first all later rest
more_shown {X} show first all now later left one rest split leads e =
    ap (λ (text : List ℕ). text ++ flat_map show rest) e
    ∙ append_assoc now (flat_map show one) (flat_map show rest)
    ∙ ap (λ (text : List ℕ). now ++ text) (sym (flat_append show one rest) ∙ ap (λ (these : List X). flat_map show these) (sym split))
    ∙ leads

pub all_shown : {X : Type 0} (show : X → List ℕ) (first : List ℕ) (all : List X) (now : List ℕ) (left : List X)
    → left ≡ [] → Leads show first all now left → now ≡ first ++ flat_map show all
all_shown {X} show first all now left none leads =
    sym (append-nil now) ∙ ap (λ (these : List X). now ++ flat_map show these) (sym none) ∙ leads

pub item_shown : {X : Type 0} (show : X → List ℕ) (first : List ℕ) (all : List X) (now later line : List ℕ) (index : ℕ) (x : X)
    → index < length all → x ≡ get_or all index x → Leads show first all now (drop index all)
    → later ≡ now ++ line → line ≡ show x → Leads show first all later (drop (index + 1) all)
item_shown {X} show first all now later line index x inside is leads put shown =
    let split : drop index all ≡ (x ∷ []) ++ drop (index + 1) all =
    drop_more all index x inside ∙ ap (λ (this : X). this ∷ drop (index + 1) all) (sym is) in
    more_shown show first all now later (drop index all) (x ∷ []) (drop (index + 1) all) split leads
    (put ∙ ap (λ (text : List ℕ). now ++ text) (shown ∙ sym (append-nil (show x))))

-- if a first piece is added to an empty text, the text is that piece
pub first_put : (old new bytes line : List ℕ) → old ≡ [] → new ≡ old ++ bytes → bytes ≡ line → new ≡ line
first_put old new bytes line e put is = put ∙ ap (λ (text : List ℕ). text ++ bytes) e ∙ is

-- if five pieces are added one after another, the text consists of them in order
pub five_put : (a b c d e one two three four five : List ℕ) → one ≡ a → two ≡ one ++ b → three ≡ two ++ c → four ≡ three ++ d
    → five ≡ four ++ e → five ≡ (((a ++ b) ++ c) ++ d) ++ e
five_put a b c d e one two three four five p q r s t =
    t ∙ ap (λ (text : List ℕ). text ++ e) (s ∙ ap (λ (text : List ℕ). text ++ d) (r ∙ ap (λ (text : List ℕ). text ++ c)
    (q ∙ ap (λ (text : List ℕ). text ++ b) p)))

-- ---- recorded contributions

one_from : (index : ℕ) (item : MapFact) (rest : List MapFact)
    → contributions_from index (item ∷ rest) ≡ contributions_from index (item ∷ []) ++ contributions_from (index_after index item) rest
one_from index (Section name size) rest = refl
one_from index ModuleEnd rest = refl

pub noted_left : (index at : ℕ) (noted : List MapFact) (item : MapFact) → slice_get noted at ≡ Some item
    → contributions_from index (drop at noted)
    ≡ contributions_from index (item ∷ []) ++ contributions_from (index_after index item) (drop (at + 1) noted)
noted_left index at noted item e =
    ap (λ (these : List MapFact). contributions_from index these) (drop_at noted at item e)
    ∙ one_from index item (drop (at + 1) noted)

pub noted_over : (index at : ℕ) (noted : List MapFact) → length noted ≤ at → contributions_from index (drop at noted) ≡ []
noted_over index at noted le = ap (λ (these : List MapFact). contributions_from index these) (drop_all at noted le)

-- ---- a map made from a plan is the load map of the definition

pub map_is : (bottom : ℕ) (parts : List Part) (plan : PlanTables) (noted : List MapFact) (text : List ℕ)
    → IsPlanOf bottom parts plan → noted ≡ noted_of parts → IsMapBy plan noted text → IsLoadMap bottom parts text
map_is bottom parts plan noted text p n m =
    let P : List PlannedGlobal → Type 0 = λ globals. IsByValue globals m.0 in
    let contributions = ap (λ (these : List MapFact). contributions_from 0 these) n ∙ noted_contributions parts in (
      m.0,
      subst P p.globals m.1,
      m.2 ∙ (λ j. map_text (λ index name. p.bases index name j) (λ index. p.names index j) (p.limits.0 j) (p.limits.1 j)
          (contributions j) m.0),
    )

-- ---- lists that are built item by item

pub one_listed : {X : Type 0} (all now later : List X) (index : ℕ) (x : X) → slice_get all index ≡ Some x
    → now ++ drop index all ≡ all → later ≡ now ++ x ∷ [] → later ++ drop (index + 1) all ≡ all
one_listed {X} all now later index x e h l =
    ap (λ (these : List X). these ++ drop (index + 1) all) l ∙ append_assoc now (x ∷ []) (drop (index + 1) all)
    ∙ ap (λ (these : List X). now ++ these) (sym (drop_at all index x e)) ∙ h

pub all_listed : {X : Type 0} (all now : List X) (index : ℕ) → length all ≤ index → now ++ drop index all ≡ all → now ≡ all
all_listed {X} all now index le h =
    sym (append-nil now) ∙ ap (λ (these : List X). now ++ these) (sym (drop_all index all le)) ∙ h
