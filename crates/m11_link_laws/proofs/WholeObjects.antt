-- Objects whose parts have no fault are files of whole modules.
use Rattle.std.proofs.Common.{◌≡◌, ◌∙◌, ℕ, List, [], ◌∷◌, ◌++◌, Option, Some, None, Result, Ok, Err, refl, subst}
use Rattle.m11_obj_blocks.specs.Limited.{most_bytes}
use Rattle.m11_obj.specs.Reading.{content_of}
use Rattle.m11_obj.specs.Records.{Content}
use Rattle.m11_obj.specs.declared.fault.RecordFault.{RecordFault}
use Rattle.m11_link_modules.specs.declared.fault.ModuleFault.{ModuleFault}
use Rattle.m11_link_modules.specs.Parts.{Part, EndOfFile, parts_of}
use Rattle.m11_link_modules.specs.Rules.{fault_of, first_fault}
use Rattle.m11_link_layout.proofs.Standing.{sound_after}
use Rattle.m11_link.specs.Objects.{◌>>=◌, AreItems, BlockOf, Item, ObjectEnds, ObjectItems, Refused, parts_or_fault, taken, accepted_item, accepted_parts, unless_fault}
use Rattle.m11_link.specs.Objects as objects
use Rattle.m11_link.proofs.ItemsAccepted.{PartsOrFault, bind_ok, bind_on, ends_again, ends_first}

-- ---- no part has a fault

unless_none : (broken : Option ModuleFault) (parts these : List Part) → unless_fault broken parts ≡ Ok these
    → broken ≡ None
unless_none None parts these e = refl
unless_none (Some said) parts these e = absurd cc

unless_same : (broken : Option ModuleFault) (parts these : List Part) → unless_fault broken parts ≡ Ok these
    → parts ≡ these
unless_same None parts these e = cc
unless_same (Some said) parts these e = absurd cc

parts_sound : (before parts these : List Part) → first_fault [] before ≡ None → accepted_parts before parts ≡ Ok these
    → first_fault [] these ≡ None
parts_sound before parts these sound e =
    let none = unless_none (first_fault before parts) (before ++ parts) these e in
    let same = unless_same (first_fault before parts) (before ++ parts) these e in
    let P : List Part → Type 0 = λ all. first_fault [] all ≡ None in
    subst P same (sound_after [] before parts sound none)

content_sound : (before : List Part) (content : Result Content RecordFault) (these : List Part)
    → first_fault [] before ≡ None → (parts_or_fault content >>= accepted_parts before) ≡ Ok these
    → first_fault [] these ≡ None
content_sound before (Ok content) these sound e = parts_sound before (parts_of content) these sound e
content_sound before (Err inner) these sound e = absurd cc

item_sound : (before : List Part) (item : Item) (these : List Part) → first_fault [] before ≡ None
    → accepted_item before item ≡ Ok these → first_fault [] these ≡ None
item_sound before (BlockOf bytes) these sound e = content_sound before (content_of bytes) these sound e
item_sound before ObjectEnds these sound e = parts_sound before (EndOfFile ∷ []) these sound e
item_sound before (Refused refused) these sound e = absurd cc

same_parts : (xs ys : List Part) → ◌≡◌ {A = PartsOrFault} (Ok xs) (Ok ys) → xs ≡ ys
same_parts xs ys e = cc

items_sound : (before : List Part) (items : List Item) (parts : List Part) → first_fault [] before ≡ None
    → taken before items ≡ Ok parts → first_fault [] parts ≡ None
items_sound before [] parts sound e =
    let P : List Part → Type 0 = λ all. first_fault [] all ≡ None in subst P (same_parts before parts e) sound
items_sound before (item ∷ items) parts sound e =
    let first = bind_ok (accepted_item before item) (λ these. taken these items) parts e in
    items_sound first.0 items parts (item_sound before item first.0 sound first.1) first.2

nothing_sound : first_fault [] [] ≡ None
unfolding first_fault
nothing_sound = refl

pub taken_sound : (items : List Item) (parts : List Part) → taken [] items ≡ Ok parts → first_fault [] parts ≡ None
taken_sound items parts e = items_sound [] items parts nothing_sound e

-- ---- the parts end between modules

pub taken_both : (before : List Part) (xs ys : List Item) (parts : List Part) → taken before (xs ++ ys) ≡ Ok parts
    → (middle : List Part) × (taken before xs ≡ Ok middle) × (taken middle ys ≡ Ok parts)
taken_both before [] ys parts e = (before, refl, e)
taken_both before (x ∷ xs) ys parts e =
    let first = bind_ok (accepted_item before x) (λ these. taken these (xs ++ ys)) parts e in
    let others = taken_both first.0 xs ys parts first.2 in
    (others.0, bind_on (accepted_item before x) (λ these. taken these xs) first.0 first.1 ∙ others.1, others.2)

end_between : (before parts : List Part) → first_fault [] before ≡ None → accepted_item before ObjectEnds ≡ Ok parts
    → fault_of parts EndOfFile ≡ None
end_between before parts sound e =
    let same = unless_same (first_fault before (EndOfFile ∷ [])) (before ++ EndOfFile ∷ []) parts e in
    let none = unless_none (first_fault before (EndOfFile ∷ [])) (before ++ EndOfFile ∷ []) parts e in
    let P : List Part → Type 0 = λ all. fault_of all EndOfFile ≡ None in
    subst P same (ends_again before (sound_after [] before (EndOfFile ∷ []) sound none))

no_refusal : (before : List Part) (item : Item) (items : List Item) (parts : List Part) → taken before (item ∷ items) ≡ Ok parts
    → (first : List Part) × (accepted_item before item ≡ Ok first) × (taken first items ≡ Ok parts)
no_refusal before item items parts e = bind_ok (accepted_item before item) (λ these. taken these items) parts e

object_between : (room : ℕ) (bytes : List ℕ) (items : List Item) (before parts : List Part)
    → ObjectItems room bytes items → first_fault [] before ≡ None → taken before items ≡ Ok parts
    → fault_of parts EndOfFile ≡ None
object_between room bytes _ before parts
    (objects.ObjectItems.Begins {left = left} {rest = rest} {content = content} {items = items} e fits h) sound t =
    let first = no_refusal before (BlockOf content) items parts t in
    object_between left rest items first.0 parts h (item_sound before (BlockOf content) first.0 sound first.1) first.2
object_between room bytes _ before parts (objects.ObjectItems.Ends e le) sound t =
    let first = no_refusal before ObjectEnds [] parts t in
    let P : List Part → Type 0 = λ all. fault_of all EndOfFile ≡ None in
    subst P (same_parts first.0 parts first.2) (end_between before first.0 sound first.1)
object_between room bytes _ before parts (objects.ObjectItems.IsCut e le) sound t = absurd cc
object_between room bytes _ before parts (objects.ObjectItems.IsBad e le) sound t = absurd cc
object_between room bytes _ before parts (objects.ObjectItems.Passes lt short) sound t = absurd cc

objects_between : (sources : List (List ℕ)) (items : List Item) (before parts : List Part) → AreItems sources items
    → first_fault [] before ≡ None → fault_of before EndOfFile ≡ None → taken before items ≡ Ok parts
    → fault_of parts EndOfFile ≡ None
objects_between _ _ before parts objects.AreItems.Nothing sound between t =
    let P : List Part → Type 0 = λ all. fault_of all EndOfFile ≡ None in subst P (same_parts before parts t) between
objects_between _ _ before parts
    (objects.AreItems.Object {source = source} {sources = sources} {own = own} {items = items} o h) sound between t =
    let both = taken_both before own items parts t in
    objects_between sources items both.0 parts h (items_sound before own both.0 sound both.1)
    (object_between most_bytes source own before both.0 o sound both.1) both.2

pub taken_between : (sources : List (List ℕ)) (items : List Item) (parts : List Part) → AreItems sources items
    → taken [] items ≡ Ok parts → fault_of parts EndOfFile ≡ None
taken_between sources items parts are e = objects_between sources items [] parts are nothing_sound ends_first e
