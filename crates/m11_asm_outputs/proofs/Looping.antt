-- Equal writes, and loops over lists that are written.
use Rattle.std.proofs.Common.{◌≡◌, ℕ, ◌+◌, ◌<◌, List, [], ◌∷◌, ◌++◌, length, drop, get_or, Result, refl, sym, ap, ◌∙◌, subst}
use Rattle.std.proofs.lemmas.List.{drop_more, map-append}
use Rattle.m11_asm_faults.specs.declared.fault.AsmFault.{AsmFault}
use Rattle.m11_obj.specs.Records.{Content, record_data}
use Rattle.m11_obj_blocks.specs.Frames.{block}
use Rattle.m11_asm_outputs.specs.Object.{content_writes}
use Rattle.m11_asm_outputs.specs.Outputs.{Writes}
use Rattle.m11_base_writes.specs.Outputs.{Outputs, Write, to_messages, to_product}

-- ---- contents

pub content_writes-append : (xs ys : List Content) → content_writes (xs ++ ys) ≡ content_writes xs ++ content_writes ys
unfolding content_writes
content_writes-append xs ys = map-append (λ content. to_product (block (record_data content))) xs ys

pub no_contents : content_writes [] ≡ []
unfolding content_writes
no_contents = refl

pub one_content : (content : Content) → content_writes (content ∷ []) ≡ to_product (block (record_data content)) ∷ []
unfolding content_writes
one_content content = refl

-- equal writes are made with the same result
pub writes_as : {A : Type 0} (a b : Outputs) (xs ys : List Write) (result : Result A AsmFault) → xs ≡ ys
    → Writes a b xs result → Writes a b ys result
writes_as a b xs ys result e h = let P : List Write → Type 0 = λ these. Writes a b these result in subst P e h

-- an equal line of the messages is written with the same result
pub line_as : {A : Type 0} (a b : Outputs) (xs ys : List ℕ) (result : Result A AsmFault) → xs ≡ ys
    → Writes a b (to_messages xs ∷ []) result → Writes a b (to_messages ys ∷ []) result
line_as a b xs ys result e h =
    let P : List ℕ → Type 0 = λ these. Writes a b (to_messages these ∷ []) result in subst P e h

-- the items left at an index of a list begin with the item at that index
pub item_left : {X : Type 0} (items : List X) (index : ℕ) (item : X) → index < length items
    → item ≡ get_or items index item → drop index items ≡ item ∷ drop (index + 1) items
item_left {X} items index item h is =
    drop_more items index item h ∙ ap (λ (x : X). x ∷ drop (index + 1) items) (sym is)
