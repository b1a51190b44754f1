use Rattle.std.proofs.Common.{◌∙◌, ℕ, List, ap, subst}
use Rattle.std.specs.List.{AllByRecursion}
use Rattle.arrayvec.specs.ArrayVec.{ArrayVec}
use Rattle.m11_obj.specs.Texts.{records_of}
use Rattle.m11_asm_outputs.specs.Object.{AllFit, BlockFits, block_writes}
use Rattle.m11_asm_outputs.proofs.Blocks.{as_records}
use Rattle.m11_asm_outputs.proofs.Fitting.{on_ok, records_fit}
use Rattle.m11_asm_outputs.proofs.Looping.{writes_as}
use Rattle.m11_asm_outputs.proofs.object.put_text.Goals as goal

pub returns-clause-writes : goal.returns-clause-writes
returns-clause-writes g c = λ listing messages. writes_as _ _ _ _ _
    (ap block_writes c.as_slice.ensures.value ∙ as_records c.records.result.items (records_of c.args.text.now) c.records.ensures)
    (c.put_blocks.ensures.writes listing messages)

pub returns-clause-fit : goal.returns-clause-fit
returns-clause-fit g c =
    let P : List (ArrayVec ℕ) → Type 0 = AllByRecursion BlockFits in
    on_ok _ (P c.as_slice.result.now) (AllFit (records_of c.args.text.now))
    (λ fit. records_fit c.records.result.items (records_of c.args.text.now) (subst P c.as_slice.ensures.value fit) c.records.ensures)
    c.put_blocks.ensures.fit
