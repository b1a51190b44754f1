-- Items of files, accepted one after another, with the end of each file or with one end after them all.
use Rattle.std.proofs.Common.{◌≡◌, ◌∙◌, ℕ, Bool, true, false, if◌then◌else◌, List, [], ◌∷◌, ◌++◌, map, append-nil, Option, Some, None, Result, Ok, Err, refl, sym, ap, subst}
use Rattle.std.specs.List.{AllByRecursion}
use Rattle.std.specs.Option.{option_or}
use Rattle.std.proofs.lemmas.Bool.{false≢true}
use Rattle.std.proofs.lemmas.List.Concat.{flat_map-append}
use Rattle.m11_obj.specs.Reading.{content_of}
use Rattle.m11_obj.specs.Records.{Content}
use Rattle.m11_obj.specs.declared.fault.RecordFault.{RecordFault}
use Rattle.m11_link_modules.proofs.KnownAfter.{stage_append}
use Rattle.m11_link_modules.specs.declared.fault.ModuleFault.{ModuleFault}
use Rattle.m11_link_modules.specs.declared.fault.ModuleFault.TheVariants.{BadOrder}
use Rattle.m11_link_modules.specs.declared.stage.Stage.{Stage}
use Rattle.m11_link_modules.specs.declared.stage.Stage.TheVariants.{Between}
use Rattle.m11_link_modules.specs.Parts.{Part, EndOfFile, parts_in, parts_of}
use Rattle.m11_link_modules.specs.Positions.{known_of, stage_after, stage_from}
use Rattle.m11_link_modules.specs.Rules.{fault_in_order, fault_known, fault_of, first_fault, may_occur}
use Rattle.m11_link_modules.specs.Steps.{first_known_fault}
use Rattle.m11_link_modules.proofs.KnownAfter.{faults_known}
use Rattle.m11_link_layout.specs.Sections.{is_too_large}
use Rattle.m11_link_layout.specs.declared.fault.LinkFault.TheVariants as fault
use Rattle.m11_link_layout.proofs.Walking.{head_none, rest_none}
use Rattle.m11_link.specs.Objects.{◌>>=◌, BlockOf, Item, ObjectEnds, Refused, parts_by, parts_or_fault, taken, accepted_item, accepted_parts, outcome, unless_fault, unless_too_large}
use Rattle.m11_link_text.specs.Findings.{findings_of}
use Rattle.m11_link.specs.Written.{link_writes}
use Rattle.m11_link.proofs.ItemsAccepted.{PartsOrFault, bind_ok, fault_after, one_taken, accepted_after}
use Rattle.m11_link_laws.specs.Joining.{LinkAlike}
use Rattle.m11_link_laws.proofs.ItemsParts.{items_parts, parts_are, parts_within}
use Rattle.m11_link_laws.proofs.JoiningEnds.{end_left, known_same, stage_same, without_append, without_ends}
use Rattle.m11_link_laws.proofs.JoiningFindings.{too_large_same}
use Rattle.m11_link_laws.proofs.JoiningWrites.{InOrder, written_alike}

-- ---- the order of parts

order_then : (stage : Stage) (xs ys : List Part) → InOrder stage xs → InOrder (stage_from stage xs) ys
    → InOrder stage (xs ++ ys)
order_then stage [] ys h k = k
order_then stage (x ∷ xs) ys h k =
    let P : Stage → Type 0 = λ s. InOrder s ys in
    (h.0, order_then (stage_from stage (x ∷ [])) xs ys h.1 (subst P (stage_append stage (x ∷ []) xs) k))

order_at : (stage : Stage) (xs : List Part) (part : Part) (ys : List Part) → InOrder stage (xs ++ part ∷ ys)
    → may_occur part (stage_from stage xs) ≡ true
order_at stage [] part ys h = h.0
order_at stage (x ∷ xs) part ys h =
    let P : Stage → Type 0 = λ s. may_occur part s ≡ true in
    subst P (sym (stage_append stage (x ∷ []) xs)) (order_at (stage_from stage (x ∷ [])) xs part ys h.1)

may_be : (b : Bool) (fault : Option ModuleFault) → (if b then fault else Some BadOrder) ≡ None → b ≡ true
may_be true fault e = refl
may_be false fault e = absurd cc

stands : (before : List Part) (part : Part) → fault_of before part ≡ None
    → may_occur part (stage_from Between before) ≡ true
unfolding fault_known known_of stage_after
stands before part e = may_be (may_occur part (stage_from Between before)) (fault_in_order (known_of before) part) e

order_after : (before parts : List Part) → first_fault before parts ≡ None
    → InOrder (stage_from Between before) parts
unfolding first_fault
order_after before [] e = tt
order_after before (part ∷ parts) e =
    let head = head_none (fault_of before part) (first_fault (before ++ part ∷ []) parts) e in
    let rest = rest_none (fault_of before part) (first_fault (before ++ part ∷ []) parts) e in
    let P : Stage → Type 0 = λ s. InOrder s parts in (
      stands before part head,
      subst P (stage_append Between before (part ∷ [])) (order_after (before ++ part ∷ []) parts rest),
    )

-- ---- the order of parts that were accepted

unless_none : (broken : Option ModuleFault) (parts these : List Part) → unless_fault broken parts ≡ Ok these
    → broken ≡ None
unless_none None parts these e = refl
unless_none (Some said) parts these e = absurd cc

content_order : (before : List Part) (content : Result Content RecordFault) (these : List Part)
    → (parts_or_fault content >>= accepted_parts before) ≡ Ok these
    → InOrder (stage_from Between before) (parts_in content)
content_order before (Ok content) these e = order_after before (parts_of content)
    (unless_none (first_fault before (parts_of content)) (before ++ parts_of content) these e)
content_order before (Err inner) these e = absurd cc

item_order : (before : List Part) (item : Item) (these : List Part) → accepted_item before item ≡ Ok these
    → InOrder (stage_from Between before) (parts_within item)
item_order before (BlockOf bytes) these e = content_order before (content_of bytes) these e
item_order before ObjectEnds these e = order_after before (EndOfFile ∷ [])
    (unless_none (first_fault before (EndOfFile ∷ [])) (before ++ EndOfFile ∷ []) these e)
item_order before (Refused refused) these e = absurd cc

one_item : (item : Item) → items_parts (item ∷ []) ≡ parts_within item
unfolding items_parts
one_item item = append-nil (parts_within item)

items_order : (before : List Part) (items : List Item) (parts : List Part) → taken before items ≡ Ok parts
    → InOrder (stage_from Between before) (items_parts items)
unfolding items_parts
items_order before [] parts e = tt
items_order before (item ∷ items) parts e =
    let first = bind_ok (accepted_item before item) (λ these. taken these items) parts e in
    let P : Stage → Type 0 = λ s. InOrder s (items_parts items) in
    let alone : taken before (item ∷ []) ≡ Ok first.0 = one_taken before item (Ok first.0) first.1 in
    let is : first.0 ≡ before ++ parts_within item =
    parts_are before (item ∷ []) first.0 alone ∙ ap (λ these. before ++ these) (one_item item) in
    order_then (stage_from Between before) (parts_within item) (items_parts items)
    (item_order before item first.0 first.1)
    (subst P (ap (λ these. stage_from Between these) is ∙ stage_append Between before (parts_within item))
    (items_order first.0 items parts first.2))

pub taken_in_order : (items : List Item) (parts : List Part) → taken [] items ≡ Ok parts → InOrder Between parts
taken_in_order items parts e =
    let P : List Part → Type 0 = λ these. InOrder Between these in
    subst P (sym (parts_are [] items parts e)) (items_order [] items parts e)

-- ---- the same items after parts that differ only in the ends of files

-- two results are parts that differ only in the ends of files, or the same fault
abbrev pub Same : PartsOrFault → PartsOrFault → Type 0
Same (Ok parts) (Ok others) = without_ends parts ≡ without_ends others
Same (Err stopped) (Err other) = stopped ≡ other
Same one other = ⊥

first_same : (before parts : List Part) → first_fault (without_ends before) parts ≡ first_fault before parts
first_same before parts = faults_known (without_ends before) parts
    ∙ ap (λ known. first_known_fault known parts) (known_same before)
    ∙ sym (faults_known before parts)

fault_alike : (before other parts : List Part) → without_ends before ≡ without_ends other
    → first_fault before parts ≡ first_fault other parts
fault_alike before other parts same =
    sym (first_same before parts) ∙ ap (λ these. first_fault these parts) same ∙ first_same other parts

stage_alike : (before other : List Part) → without_ends before ≡ without_ends other
    → stage_from Between before ≡ stage_from Between other
stage_alike before other same = sym (stage_same Between before) ∙ ap (λ these. stage_from Between these) same
    ∙ stage_same Between other

same_then : (one other : PartsOrFault) (f g : List Part → PartsOrFault) → Same one other
    → ((parts others : List Part) → without_ends parts ≡ without_ends others → Same (f parts) (g others))
    → Same (one >>= f) (other >>= g)
same_then (Ok parts) (Ok others) f g same h = h parts others same
same_then (Ok parts) (Err other) f g same h = absurd same
same_then (Err stopped) (Ok others) f g same h = absurd same
same_then (Err stopped) (Err other) f g same h = same

unless_same : (broken : Option ModuleFault) (parts others : List Part) → without_ends parts ≡ without_ends others
    → Same (unless_fault broken parts) (unless_fault broken others)
unless_same None parts others same = same
unless_same (Some said) parts others same = refl

module _ (before other : List Part) (same : without_ends before ≡ without_ends other) where
  parts_same : (parts : List Part) → Same (accepted_parts before parts) (accepted_parts other parts)
  parts_same parts =
      let P : Option ModuleFault → Type 0 = λ broken.
      Same (unless_fault (first_fault before parts) (before ++ parts)) (unless_fault broken (other ++ parts)) in
      subst P (fault_alike before other parts same)
      (unless_same (first_fault before parts) (before ++ parts) (other ++ parts)
      (without_append before parts ∙ ap (λ these. these ++ without_ends parts) same ∙ sym (without_append other parts)))

  parts_or_fault_same : (result : PartsOrFault) → Same (result >>= accepted_parts before) (result >>= accepted_parts other)
  parts_or_fault_same (Ok parts) = parts_same parts
  parts_or_fault_same (Err stopped) = refl

taken_same : (items : List Item) (before other : List Part) → without_ends before ≡ without_ends other
    → Same (taken before items) (taken other items)
taken_same [] before other same = same
taken_same (item ∷ items) before other same =
    same_then (accepted_item before item) (accepted_item other item) (λ these. taken these items) (λ these. taken these items)
    (parts_or_fault_same before other same (parts_by item)) (λ parts others k. taken_same items parts others k)

-- ---- files, and their blocks in one file

abbrev pub blocks : List (List ℕ) → List Item
blocks contents = map (λ content. BlockOf content) contents

-- the items of files that hold blocks of these contents
abbrev pub files_items : List (List (List ℕ)) → List Item
files_items [] = []
files_items (contents ∷ files) = blocks contents ++ ObjectEnds ∷ files_items files

-- the items of one file that holds the blocks of all these files
abbrev pub joined_items : List (List (List ℕ)) → List Item
joined_items [] = ObjectEnds ∷ []
joined_items (contents ∷ files) = blocks contents ++ joined_items files

-- a file with blocks of these contents consists of whole modules
abbrev pub IsWhole : List (List ℕ) → Type 0
IsWhole contents = (parts : List Part) × (taken [] (blocks contents ++ ObjectEnds ∷ []) ≡ Ok parts)

end_between : (stage : Stage) → may_occur EndOfFile stage ≡ true → stage ≡ Between
end_between Between h = refl
end_between stage h = absurd (false≢true h)

-- if a file consists of whole modules, and no module is open before it, none is open after its blocks
closes : (contents : List (List ℕ)) → IsWhole contents → (before parts : List Part)
    → stage_from Between before ≡ Between → taken before (blocks contents) ≡ Ok parts
    → stage_from Between parts ≡ Between
unfolding items_parts
closes contents w before parts s e =
    let own : List Part = items_parts (blocks contents) in
    let P : List Part → Type 0 = λ these. InOrder Between these in
    let order : InOrder Between (own ++ EndOfFile ∷ []) =
    subst P (flat_map-append parts_within (blocks contents) (ObjectEnds ∷ []))
    (items_order [] (blocks contents ++ ObjectEnds ∷ []) w.0 w.1) in
    ap (λ these. stage_from Between these) (parts_are before (blocks contents) parts e)
    ∙ stage_append Between before own
    ∙ ap (λ stage. stage_from stage own) s
    ∙ end_between (stage_from Between own) (order_at Between own EndOfFile [] order)

end_sound : (before : List Part) → stage_from Between before ≡ Between → first_fault before (EndOfFile ∷ []) ≡ None
unfolding first_fault fault_known known_of stage_after
end_sound before s =
    let P : Stage → Type 0 = λ stage.
    option_or (if may_occur EndOfFile stage then None else Some BadOrder) None ≡ None in
    subst P (sym s) refl

end_taken : (before : List Part) (items : List Item) → stage_from Between before ≡ Between
    → taken before (ObjectEnds ∷ items) ≡ taken (before ++ EndOfFile ∷ []) items
end_taken before items s =
    ap (λ broken. unless_fault broken (before ++ EndOfFile ∷ []) >>= λ these. taken these items) (end_sound before s)

to_same : (one one' other other' : PartsOrFault) → one ≡ one' → other ≡ other' → Same one' other' → Same one other
to_same one one' other other' e f h =
    let P : PartsOrFault → Type 0 = λ r. Same r other in
    let Q : PartsOrFault → Type 0 = λ r. Same one' r in
    subst P (sym e) (subst Q (sym f) h)

module _ (contents : List (List ℕ)) (more others : List Item) (before other : List Part) (w : IsWhole contents)
    (s : stage_from Between before ≡ Between)
    (rest : (parts those : List Part) → stage_from Between parts ≡ Between → without_ends parts ≡ without_ends those
    → Same (taken parts more) (taken those others))
  where
    file_then : (one result : PartsOrFault) → taken before (blocks contents) ≡ one → taken other (blocks contents) ≡ result
        → Same one result
        → Same (taken before (blocks contents ++ ObjectEnds ∷ more)) (taken other (blocks contents ++ others))
    file_then (Ok parts) (Ok those) e f same =
        let closed = closes contents w before parts s e in
        to_same (taken before (blocks contents ++ ObjectEnds ∷ more)) (taken (parts ++ EndOfFile ∷ []) more)
        (taken other (blocks contents ++ others)) (taken those others)
        (accepted_after before (blocks contents) (ObjectEnds ∷ more) parts e ∙ end_taken parts more closed)
        (accepted_after other (blocks contents) others those f)
        (rest (parts ++ EndOfFile ∷ []) those (stage_append Between parts (EndOfFile ∷ []) ∙ closed)
        (end_left parts ∙ same))
    file_then (Ok parts) (Err reported) e f same = absurd same
    file_then (Err stopped) (Ok those) e f same = absurd same
    file_then (Err stopped) (Err reported) e f same =
        to_same (taken before (blocks contents ++ ObjectEnds ∷ more)) (Err stopped)
        (taken other (blocks contents ++ others)) (Err reported)
        (fault_after before (blocks contents) (ObjectEnds ∷ more) stopped e)
        (fault_after other (blocks contents) others reported f) same

files_taken : (files : List (List (List ℕ))) → AllByRecursion IsWhole files → (before other : List Part)
    → stage_from Between before ≡ Between → without_ends before ≡ without_ends other
    → Same (taken before (files_items files)) (taken other (joined_items files))
files_taken [] h before other s same =
    to_same (Ok before) (Ok before) (taken other (ObjectEnds ∷ [])) (Ok (other ++ EndOfFile ∷ [])) refl
    (end_taken other [] (sym (stage_alike before other same) ∙ s)) (same ∙ sym (end_left other))
files_taken (contents ∷ files) h before other s same =
    file_then contents (files_items files) (joined_items files) before other h.0 s
    (λ parts those s' same'. files_taken files h.1 parts those s' same')
    (taken before (blocks contents)) (taken other (blocks contents)) refl refl
    (taken_same (blocks contents) before other same)

-- ---- the results of the links

module _ (bottom : ℕ) where
  by_size : (large : Bool) (parts others : List Part)
      → link_writes (findings_of bottom parts) parts ≡ link_writes (findings_of bottom others) others
      → LinkAlike bottom (if large then Err fault.TooLarge else Ok parts)
      (if large then Err fault.TooLarge else Ok others)
  by_size true parts others e = refl
  by_size false parts others e = e

  size_alike : (parts others : List Part) → without_ends parts ≡ without_ends others
      → is_too_large bottom parts ≡ is_too_large bottom others
  size_alike parts others same = sym (too_large_same bottom parts) ∙ ap (λ these. is_too_large bottom these) same
      ∙ too_large_same bottom others

  outcomes_alike : (one other : PartsOrFault) → Same one other
      → ((parts : List Part) → one ≡ Ok parts → InOrder Between parts)
      → ((parts : List Part) → other ≡ Ok parts → InOrder Between parts)
      → LinkAlike bottom (one >>= unless_too_large bottom) (other >>= unless_too_large bottom)
  outcomes_alike (Ok parts) (Ok others) same h k =
      let P : Bool → Type 0 = λ large. LinkAlike bottom (unless_too_large bottom parts)
      (if large then Err fault.TooLarge else Ok others) in
      subst P (size_alike parts others same) (by_size (is_too_large bottom parts) parts others
      (written_alike bottom parts others (h parts refl) (k others refl) same))
  outcomes_alike (Ok parts) (Err other) same h k = absurd same
  outcomes_alike (Err stopped) (Ok others) same h k = absurd same
  outcomes_alike (Err stopped) (Err other) same h k = same

  pub files_alike : (files : List (List (List ℕ))) → AllByRecursion IsWhole files
      → LinkAlike bottom (outcome bottom (files_items files)) (outcome bottom (joined_items files))
  files_alike files h =
      outcomes_alike (taken [] (files_items files)) (taken [] (joined_items files)) (files_taken files h [] [] refl refl)
      (λ parts e. taken_in_order (files_items files) parts e) (λ parts e. taken_in_order (joined_items files) parts e)
