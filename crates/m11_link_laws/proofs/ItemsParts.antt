-- The parts of items, one item after another.
use Rattle.std.proofs.Common.{◌≡◌, ◌∙◌, List, [], ◌∷◌, ◌++◌, append-nil, append_assoc, Option, Some, None, Result, Ok, Err, sym, ap}
use Rattle.std.specs.List.{flat_map}
use Rattle.m11_obj.specs.Reading.{content_of}
use Rattle.m11_obj.specs.Records.{Content}
use Rattle.m11_obj.specs.declared.fault.RecordFault.{RecordFault}
use Rattle.m11_link_modules.specs.declared.fault.ModuleFault.{ModuleFault}
use Rattle.m11_link_modules.specs.Parts.{Part, EndOfFile, parts_in, parts_of, record_parts}
use Rattle.m11_link_modules.specs.Rules.{first_fault}
use Rattle.m11_link.specs.Objects.{◌>>=◌, Item, BlockOf, ObjectEnds, Refused, parts_or_fault, taken, accepted_item, accepted_parts, unless_fault}
use Rattle.m11_link.proofs.ItemsAccepted.{PartsOrFault, bind_ok}

-- the parts of an item; none if it is refused
abbrev pub parts_within : Item → List Part
parts_within (BlockOf content) = record_parts content
parts_within ObjectEnds = EndOfFile ∷ []
parts_within (Refused refused) = []

unfoldable pub items_parts : List Item → List Part
items_parts items = flat_map parts_within items

unless_is : (broken : Option ModuleFault) (parts these : List Part) → unless_fault broken parts ≡ Ok these → these ≡ parts
unless_is None parts these e = cc
unless_is (Some said) parts these e = absurd cc

content_is : (before : List Part) (content : Result Content RecordFault) (these : List Part)
    → (parts_or_fault content >>= accepted_parts before) ≡ Ok these → these ≡ before ++ parts_in content
content_is before (Ok content) these e =
    unless_is (first_fault before (parts_of content)) (before ++ parts_of content) these e
content_is before (Err inner) these e = absurd cc

item_is : (before : List Part) (item : Item) (these : List Part) → accepted_item before item ≡ Ok these
    → these ≡ before ++ parts_within item
item_is before (BlockOf bytes) these e = content_is before (content_of bytes) these e
item_is before ObjectEnds these e =
    unless_is (first_fault before (EndOfFile ∷ [])) (before ++ EndOfFile ∷ []) these e
item_is before (Refused refused) these e = absurd cc

same_parts : (xs ys : List Part) → ◌≡◌ {A = PartsOrFault} (Ok xs) (Ok ys) → ys ≡ xs
same_parts xs ys e = cc

pub parts_are : (before : List Part) (items : List Item) (parts : List Part) → taken before items ≡ Ok parts
    → parts ≡ before ++ items_parts items
unfolding items_parts
parts_are before [] parts e = same_parts before parts e ∙ sym (append-nil before)
parts_are before (item ∷ items) parts e =
    let first = bind_ok (accepted_item before item) (λ these. taken these items) parts e in
    parts_are first.0 items parts first.2
    ∙ ap (λ (these : List Part). these ++ items_parts items) (item_is before item first.0 first.1)
    ∙ append_assoc before (parts_within item) (items_parts items)
