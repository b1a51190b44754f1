-- Records written as blocks.
use Rattle.std.proofs.Common.{◌≡◌, ℕ, List, [], ◌∷◌, ◌++◌, map, Result, refl, sym, ap, ◌∙◌, subst}
use Rattle.arrayvec.specs.ArrayVec.{ArrayVec}
use Rattle.m11_asm_faults.specs.declared.fault.AsmFault.{AsmFault}
use Rattle.m11_base.specs.Devices.{Bytes}
use Rattle.m11_obj_blocks.specs.Frames.{block}
use Rattle.m11_obj.specs.Records.{Content, EndOfGsd, record_data}
use Rattle.m11_obj.specs.Blocks.{AreRecords}
use Rattle.m11_obj.specs.declared.directory.DirectoryRow.{DirectoryRow}
use Rattle.m11_asm_outputs.specs.Object.{block_writes, content_writes, head_contents, records_filled_by, rest_records}
use Rattle.m11_asm_outputs.specs.Outputs.{Gains, Stops, Writes}
use Rattle.m11_base_writes.specs.Outputs.{Outputs, Write, to_product}
use Rattle.m11_asm_outputs.proofs.Fitting.{head_in_two}
use Rattle.m11_asm_outputs.proofs.Looping.{content_writes-append}

blocks_mapped : (blocks : List (ArrayVec ℕ))
    → map (λ content. to_product (block content.items)) blocks
    ≡ map (λ content. to_product (block content)) (map (λ content. content.items) blocks)
blocks_mapped [] = refl
blocks_mapped (content ∷ blocks) =
    ap (λ (t : List Write). to_product (block content.items) ∷ t) (blocks_mapped blocks)

contents_mapped : (contents : List Content)
    → map (λ content. to_product (block (record_data content))) contents
    ≡ map (λ content. to_product (block content)) (map record_data contents)
contents_mapped [] = refl
contents_mapped (content ∷ contents) =
    ap (λ (t : List Write). to_product (block (record_data content)) ∷ t) (contents_mapped contents)

-- blocks that hold records are written like these records
pub as_records : (blocks : List (ArrayVec ℕ)) (contents : List Content) → AreRecords blocks contents
    → block_writes blocks ≡ content_writes contents
unfolding block_writes content_writes
as_records blocks contents h = blocks_mapped blocks
    ∙ ap (λ (t : List Bytes). map (λ content. to_product (block content)) t) h.0 ∙ sym (contents_mapped contents)

pub no_blocks : block_writes [] ≡ []
unfolding block_writes
no_blocks = refl

pub one_block : (content : ArrayVec ℕ) → block_writes (content ∷ []) ≡ to_product (block content.items) ∷ []
unfolding block_writes
one_block content = refl

pub blocks_left : (blocks rest : List (ArrayVec ℕ)) (content : ArrayVec ℕ) → blocks ≡ content ∷ rest
    → block_writes blocks ≡ (to_product (block content.items) ∷ []) ++ block_writes rest
unfolding block_writes
blocks_left blocks rest content e = ap (λ (t : List (ArrayVec ℕ)). map (λ content. to_product (block content.items)) t) e

pub blocks_end : (blocks : List (ArrayVec ℕ)) → blocks ≡ [] → block_writes blocks ≡ []
blocks_end blocks e = ap block_writes e ∙ no_blocks

-- equal contents are written with the same result
pub contents_as : {A : Type 0} (a b : Outputs) (xs ys : List Content) (result : Result A AsmFault) → xs ≡ ys
    → Writes a b (content_writes xs) result → Writes a b (content_writes ys) result
contents_as a b xs ys result e h =
    let P : List Content → Type 0 = λ these. Writes a b (content_writes these) result in subst P e h

pub contents_gain : (a b : Outputs) (xs ys : List Content) → xs ≡ ys → Gains a b (content_writes xs)
    → Gains a b (content_writes ys)
contents_gain a b xs ys e h =
    let P : List Content → Type 0 = λ these. Gains a b (content_writes these) in subst P e h

pub contents_stop : (a b : Outputs) (xs ys : List Content) (stopped : AsmFault) → xs ≡ ys
    → Stops a b (content_writes xs) stopped → Stops a b (content_writes ys) stopped
contents_stop a b xs ys stopped e h =
    let P : List Content → Type 0 = λ these. Stops a b (content_writes these) stopped in subst P e h

-- the head is written as the records that its rows fill, followed by the rest of the directory and its end
pub head_split : (rows : List DirectoryRow) → content_writes (head_contents rows)
    ≡ content_writes (records_filled_by [] rows) ++ content_writes (rest_records rows ++ EndOfGsd ∷ [])
head_split rows =
    ap content_writes (sym (head_in_two rows))
    ∙ content_writes-append (records_filled_by [] rows) (rest_records rows ++ EndOfGsd ∷ [])
