-- Items accepted one after another.
use Rattle.std.proofs.Common.{◌≡◌, ◌∙◌, ℕ, List, [], ◌∷◌, ◌++◌, append-nil, Option, Some, None, Result, Ok, Err, refl, sym, ap, subst}
use Rattle.std.specs.Prelude.{is_ok, true, ⊤}
use Rattle.std.proofs.Math.Seq.{append_snoc}
use Rattle.m11_obj.specs.Reading.{content_of, IsRecord}
use Rattle.m11_obj.specs.Records.{Content}
use Rattle.m11_obj.specs.declared.fault.RecordFault.{RecordFault}
use Rattle.m11_link_modules.specs.declared.fault.ModuleFault.{ModuleFault}
use Rattle.m11_link_modules.specs.declared.fault.ModuleFault.TheVariants as rule
use Rattle.m11_link_modules.specs.Parts.{Part, EndOfFile, parts_in, parts_of, record_parts}
use Rattle.m11_link_modules.specs.Positions.{RulesState, known_of, stage_after}
use Rattle.m11_link_modules.specs.Rules.{fault_known, fault_of, first_fault}
use Rattle.m11_link_modules.specs.Steps.{known_after}
use Rattle.m11_link_modules.proofs.KnownAfter.{known_after_part}
use Rattle.m11_link_layout.specs.Fault.{of_module}
use Rattle.m11_link_layout.specs.Layout.{FirstFault, LayoutState, AcceptsBlock}
use Rattle.m11_link_layout.specs.declared.fault.LinkFault.{LinkFault}
use Rattle.m11_link_layout.specs.declared.fault.LinkFault.TheVariants as fault
use Rattle.m11_link_layout.proofs.Walking.{head_none, rest_none}
use Rattle.m11_link.specs.Objects.{◌>>=◌, Item, BlockOf, ObjectEnds, parts_or_fault, parts_by, taken, accepted_item, accepted_parts, unless_fault}

abbrev pub PartsOrFault : Type 0
PartsOrFault = Result (List Part) LinkFault

pub bind_ok : (r : PartsOrFault) (f : List Part → PartsOrFault) (parts : List Part) → (r >>= f) ≡ Ok parts
    → (middle : List Part) × (r ≡ Ok middle) × (f middle ≡ Ok parts)
bind_ok (Ok middle) f parts e = (middle, refl, e)
bind_ok (Err stopped) f parts e = absurd cc

pub bind_on : (r : PartsOrFault) (f : List Part → PartsOrFault) (middle : List Part) → r ≡ Ok middle → (r >>= f) ≡ f middle
bind_on r f middle e = ap (λ (a : PartsOrFault). a >>= f) e

pub bind_stops : (r : PartsOrFault) (f : List Part → PartsOrFault) (stopped : LinkFault) → r ≡ Err stopped
    → (r >>= f) ≡ Err stopped
bind_stops r f stopped e = ap (λ (a : PartsOrFault). a >>= f) e

-- ---- more items

same_parts : (xs ys : List Part) → ◌≡◌ {A = PartsOrFault} (Ok xs) (Ok ys) → xs ≡ ys
same_parts xs ys e = cc

pub accepted_after : (before : List Part) (xs ys : List Item) (parts : List Part) → taken before xs ≡ Ok parts
    → taken before (xs ++ ys) ≡ taken parts ys
accepted_after before [] ys parts e = ap (λ (these : List Part). taken these ys) (same_parts before parts e)
accepted_after before (x ∷ xs) ys parts e =
    let first = bind_ok (accepted_item before x) (λ these. taken these xs) parts e in
    bind_on (accepted_item before x) (λ these. taken these (xs ++ ys)) first.0 first.1
    ∙ accepted_after first.0 xs ys parts first.2

split_fault : (r : PartsOrFault) (f g : List Part → PartsOrFault) (stopped : LinkFault) → (r >>= f) ≡ Err stopped
    → ((middle : List Part) → f middle ≡ Err stopped → g middle ≡ Err stopped) → (r >>= g) ≡ Err stopped
split_fault (Ok middle) f g stopped e h = h middle e
split_fault (Err other) f g stopped e h = e

-- items after a fault don't change the fault
pub fault_after : (before : List Part) (xs ys : List Item) (stopped : LinkFault) → taken before xs ≡ Err stopped
    → taken before (xs ++ ys) ≡ Err stopped
fault_after before [] ys stopped e = absurd cc
fault_after before (x ∷ xs) ys stopped e =
    split_fault (accepted_item before x) (λ these. taken these xs) (λ these. taken these (xs ++ ys)) stopped e
    (λ middle h. fault_after middle xs ys stopped h)

pub one_taken : (before : List Part) (item : Item) (result : PartsOrFault) → accepted_item before item ≡ result
    → taken before (item ∷ []) ≡ result
one_taken before item result e = alone (accepted_item before item) ∙ e
  where
    alone : (r : PartsOrFault) → (r >>= λ these. taken these []) ≡ r
    alone (Ok parts) = refl
    alone (Err stopped) = refl

-- ---- one item

-- if two lists of parts have no fault together, the second has no fault after the first
pub rest_sound : (done before parts : List Part) → first_fault done (before ++ parts) ≡ None
    → first_fault (done ++ before) parts ≡ None
unfolding first_fault
rest_sound done [] parts e = let P : List Part → Type 0 = λ all. first_fault all parts ≡ None in
    subst P (sym (append-nil done)) e
rest_sound done (part ∷ before) parts e =
    let P : List Part → Type 0 = λ all. first_fault all parts ≡ None in
    subst P (append_snoc done part before) (rest_sound (done ++ part ∷ []) before parts
    (rest_none (fault_of done part) (first_fault (done ++ part ∷ []) (before ++ parts)) e))

parts_taken : (before parts : List Part) → first_fault [] (before ++ parts) ≡ None
    → accepted_parts before parts ≡ Ok (before ++ parts)
parts_taken before parts e =
    ap (λ (o : Option ModuleFault). unless_fault o (before ++ parts)) (rest_sound [] before parts e)

pub record_read : (content : Result Content RecordFault) → is_ok content ≡ true
    → parts_or_fault content ≡ Ok (parts_in content)
record_read (Ok content) e = refl
record_read (Err inner) e = absurd cc

pub block_taken : (before : List Part) (bytes : List ℕ) → IsRecord bytes
    → first_fault [] (before ++ record_parts bytes) ≡ None
    → accepted_item before (BlockOf bytes) ≡ Ok (before ++ record_parts bytes)
block_taken before bytes is e =
    bind_on (parts_by (BlockOf bytes)) (accepted_parts before) (record_parts bytes) (record_read (content_of bytes) is)
    ∙ parts_taken before (record_parts bytes) e

pub end_taken : (before : List Part) → first_fault [] (before ++ EndOfFile ∷ []) ≡ None
    → accepted_item before ObjectEnds ≡ Ok (before ++ EndOfFile ∷ [])
end_taken before e = parts_taken before (EndOfFile ∷ []) e

-- if a list with only the end of a file has no fault, the end of a file has no fault
end_sound : (before : List Part) → first_fault before (EndOfFile ∷ []) ≡ None → fault_of before EndOfFile ≡ None
unfolding first_fault
end_sound before e = head_none (fault_of before EndOfFile) None e

known_again : (before : List Part) → fault_of before EndOfFile ≡ None
    → known_of (before ++ EndOfFile ∷ []) ≡ known_of before
unfolding known_after
known_again before e = known_after_part before EndOfFile e

pub ends_again : (before : List Part) → first_fault [] (before ++ EndOfFile ∷ []) ≡ None
    → fault_of (before ++ EndOfFile ∷ []) EndOfFile ≡ None
ends_again before e =
    let sound = end_sound before (rest_sound [] before (EndOfFile ∷ []) e) in
    ap (λ (known : RulesState). fault_known known EndOfFile) (known_again before sound) ∙ sound

pub ends_first : fault_of [] EndOfFile ≡ None
unfolding fault_known known_of stage_after
ends_first = refl

-- ---- the fault of an item

-- these items have this fault, whatever follows them; always true of NoMemory, with which any items may stop; never true of Read
abbrev pub Decides : List Part → List Item → LinkFault → Type 0
Decides before items fault.Read = ⊥
Decides before items fault.NoMemory = ⊤
Decides before items stopped = taken before items ≡ Err stopped

decided : (before : List Part) (items : List Item) (broken : ModuleFault)
    → taken before items ≡ Err (of_module broken) → Decides before items (of_module broken)
decided before items rule.NoMemory e = tt
decided before items broken e = e

module _ (before : List Part) (item : Item) (parts : List Part)
    (comes : (broken : ModuleFault) → first_fault before parts ≡ Some broken
    → accepted_item before item ≡ Err (of_module broken))
  where
    first_decides : (stopped : LinkFault) (broken : ModuleFault) → first_fault before parts ≡ Some broken
        → stopped ≡ of_module broken → Decides before (item ∷ []) stopped
    first_decides stopped broken e reported =
        let P : LinkFault → Type 0 = λ these. Decides before (item ∷ []) these in
        subst P (sym reported) (decided before (item ∷ []) broken
        (one_taken before item (Err (of_module broken)) (comes broken e)))

    fault_decides : (stopped : LinkFault) → FirstFault before parts stopped → Decides before (item ∷ []) stopped
    fault_decides fault.NoMemory h = tt
    fault_decides stopped h = first_decides stopped h.0 h.1 h.2

parts_refused : (before parts : List Part) (broken : ModuleFault) → first_fault before parts ≡ Some broken
    → accepted_parts before parts ≡ Err (of_module broken)
parts_refused before parts broken e = ap (λ (o : Option ModuleFault). unless_fault o (before ++ parts)) e

nothing_refused : (before : List Part) (broken : ModuleFault) → first_fault before [] ≡ Some broken → ⊥
unfolding first_fault
nothing_refused before broken e = cc

record_refused : (before : List Part) (content : Result Content RecordFault) (broken : ModuleFault)
    → first_fault before (parts_in content) ≡ Some broken
    → (parts_or_fault content >>= accepted_parts before) ≡ Err (of_module broken)
record_refused before (Ok content) broken e = parts_refused before (parts_of content) broken e
record_refused before (Err inner) broken e = absurd (nothing_refused before broken e)

pub no_record_decides : (before : List Part) (bytes : List ℕ) (inner : RecordFault) → content_of bytes ≡ Err inner
    → Decides before (BlockOf bytes ∷ []) (fault.Record inner)
no_record_decides before bytes inner e =
    one_taken before (BlockOf bytes) (Err (fault.Record inner))
    (bind_stops (parts_by (BlockOf bytes)) (accepted_parts before) (fault.Record inner) (ap parts_or_fault e))

pub parts_decide : (before : List Part) (bytes : List ℕ) (stopped : LinkFault)
    → FirstFault before (record_parts bytes) stopped → Decides before (BlockOf bytes ∷ []) stopped
parts_decide before bytes stopped h =
    fault_decides before (BlockOf bytes) (record_parts bytes)
    (λ broken e. record_refused before (content_of bytes) broken e) stopped h

pub end_decides : (before : List Part) (stopped : LinkFault) → FirstFault before (EndOfFile ∷ []) stopped
    → Decides before (ObjectEnds ∷ []) stopped
end_decides before stopped h =
    fault_decides before ObjectEnds (EndOfFile ∷ []) (λ broken e. parts_refused before (EndOfFile ∷ []) broken e)
    stopped h

pub block_decides : (bottom : ℕ) (before : List Part) (layout : LayoutState) (bytes : List ℕ) (stopped : LinkFault)
    → AcceptsBlock bottom before layout bytes (Err stopped) → Decides before (BlockOf bytes ∷ []) stopped
block_decides bottom before layout bytes (fault.Record inner) h = no_record_decides before bytes inner h
block_decides bottom before layout bytes fault.NoMemory h = tt
block_decides bottom before layout bytes stopped h = parts_decide before bytes stopped h

-- ---- after other items

pub decides_then : (before parts : List Part) (done items : List Item) (stopped : LinkFault)
    → taken before done ≡ Ok parts
    → Decides parts items stopped → Decides before (done ++ items) stopped
decides_then before parts done items fault.Read e h = absurd h
decides_then before parts done items fault.NoMemory e h = tt
decides_then before parts done items stopped e h = accepted_after before done items parts e ∙ h

pub decides_more : (before : List Part) (items more : List Item) (stopped : LinkFault)
    → Decides before items stopped → Decides before (items ++ more) stopped
decides_more before items more fault.Read h = absurd h
decides_more before items more fault.NoMemory h = tt
decides_more before items more stopped h = fault_after before items more stopped h
