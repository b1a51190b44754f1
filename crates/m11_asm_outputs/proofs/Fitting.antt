-- Records that fit their blocks.
use Rattle.std.proofs.Common.{◌≡◌, ◌∙◌, ℕ, List, [], ◌∷◌, ◌++◌, map, Result, Ok, Err, sym, ap, subst, append_assoc}
use Rattle.std.specs.Prelude.{OnOk}
use Rattle.std.specs.List.{AllByRecursion}
use Rattle.arrayvec.specs.ArrayVec.{ArrayVec}
use Rattle.m11_obj.specs.Reading.{content_of}
use Rattle.m11_obj.specs.Records.{Content, EndOfGsd}
use Rattle.m11_obj.specs.declared.fault.RecordFault.{RecordFault}
use Rattle.m11_obj.specs.Blocks.{AreRecords}
use Rattle.m11_obj.specs.declared.directory.DirectoryRow.{DirectoryRow}
use Rattle.m11_asm_faults.specs.declared.fault.AsmFault.{AsmFault}
use Rattle.m11_asm_outputs.specs.Object.{AllFit, BlockFits, head_contents, records_filled_by, rest_records}
use Rattle.m11_asm_outputs.proofs.Closing.{all_directory, from_nothing}

pub all_fit-append : (xs ys : List Content) → AllFit xs → AllFit ys → AllFit (xs ++ ys)
all_fit-append [] ys first second = second
all_fit-append (x ∷ xs) ys first second = (first.0, all_fit-append xs ys first.1 second)

pub fit_as : (xs ys : List Content) → xs ≡ ys → AllFit xs → AllFit ys
fit_as xs ys e fit = subst AllFit e fit

-- if a call promises something when it succeeds, it also promises what follows from it
pub on_ok : {A : Type 0} (result : Result A AsmFault) (P Q : Type 0) → (P → Q) → OnOk result P → OnOk result Q
on_ok (Ok value) P Q follows holds = follows holds
on_ok (Err fault) P Q follows holds = tt

pub always : {A : Type 0} (result : Result A AsmFault) → OnOk result (Unit {0})
always (Ok value) = tt
always (Err fault) = tt

-- ---- records read from blocks

abbrev Read : Type 0
Read = Result Content RecordFault

first_is : (x y : Read) (xs ys : List Read) → x ∷ xs ≡ y ∷ ys → x ≡ y
first_is x y xs ys e = cc

others_are : (x y : Read) (xs ys : List Read) → x ∷ xs ≡ y ∷ ys → xs ≡ ys
others_are x y xs ys e = cc

none_is_some : (x : Read) (xs : List Read) → ◌≡◌ {A = List Read} [] (x ∷ xs) → ⊥
none_is_some x xs e = cc

read_fit : (blocks : List (ArrayVec ℕ)) (contents : List Content) → AllByRecursion BlockFits blocks
    → map (λ block. content_of block.items) blocks ≡ map (λ content. Ok content) contents → AllFit contents
read_fit blocks [] fit e = tt
read_fit [] (content ∷ contents) fit e = absurd (none_is_some (Ok content) (map (λ c. Ok c) contents) e)
read_fit (block ∷ blocks) (content ∷ contents) fit e =
    let here = first_is (content_of block.items) (Ok content) (map (λ b. content_of b.items) blocks) (map (λ c. Ok c) contents) e in
    let rest = others_are (content_of block.items) (Ok content) (map (λ b. content_of b.items) blocks) (map (λ c. Ok c) contents) e in
    (fit.0 content here, read_fit blocks contents fit.1 rest)

pub records_fit : (blocks : List (ArrayVec ℕ)) (contents : List Content) → AllByRecursion BlockFits blocks
    → AreRecords blocks contents → AllFit contents
records_fit blocks contents fit are = read_fit blocks contents fit are.1

-- ---- a head in two parts

pub head_in_two : (rows : List DirectoryRow) → records_filled_by [] rows ++ (rest_records rows ++ EndOfGsd ∷ []) ≡ head_contents rows
head_in_two rows =
    sym (append_assoc (records_filled_by [] rows) (rest_records rows) (EndOfGsd ∷ []))
    ∙ ap (λ (t : List Content). t ++ EndOfGsd ∷ [])
    (ap (λ (t : List Content). t ++ rest_records rows) (from_nothing rows) ∙ all_directory rows)
