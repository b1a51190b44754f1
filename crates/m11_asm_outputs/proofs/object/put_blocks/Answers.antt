use Rattle.std.proofs.Common.{ℕ, List, arith, subst, sym}
use Rattle.std.proofs.lemmas.Result.{err_from_is_err_and}
use Rattle.std.specs.List.{AllByRecursion}
use Rattle.arrayvec.specs.ArrayVec.{ArrayVec}
use Rattle.m11_asm_outputs.specs.Object.{BlockFits}
use Rattle.std.proofs.lemmas.List.{drop_all}
use Rattle.m11_asm_outputs.proofs.Blocks.{blocks_end, blocks_left}
use Rattle.m11_base_writes.proofs.Looping.{stopped_there, wrote_all, wrote_one}
use Rattle.m11_asm_outputs.specs.Outputs.{assembly}
use Rattle.m11_asm_outputs.proofs.Looping.{item_left}
use Rattle.m11_asm_outputs.proofs.object.put_blocks.Goals as goal

pub contents-init : goal.contents-init
contents-init g c = (λ listing messages new result writes. writes, λ fit. fit)

pub returns-in_err-put_record-clause-writes : goal.returns-in_err-put_record-clause-writes
returns-in_err-put_record-clause-writes g c = λ listing messages.
    let r = c.from_residual in
    let p = err_from_is_err_and r.result r.ensures.1 in
    rw (p.1, p.2)
    (stopped_there assembly _ _ _ _ _ _ _ _
    (blocks_left _ _ c.content-item.result
    (item_left c.args.contents.now c.contents.content-index c.content-item.result c.contents-test.true c.content-item.is))
    (c.contents.invariant.0 listing messages) (c.in_err-put_record.ensures listing messages))

pub contents-preserved : goal.contents-preserved
contents-preserved g c =
    let left = item_left c.args.contents.now c.contents.content-index c.content-item.result c.contents-test.true c.content-item.is in
    let P : List (ArrayVec ℕ) → Type 0 = AllByRecursion BlockFits in (
      λ listing messages. wrote_one assembly _ _ _ _ _ _ _ (blocks_left _ _ c.content-item.result left)
          (c.contents.invariant.0 listing messages) (c.in_ok-put_record.ensures listing messages),
      λ rest. c.contents.invariant.1 (subst P (sym left) (c.what_is_read_fits.ensures, rest)),
    )

pub returns-clause-writes : goal.returns-clause-writes
returns-clause-writes g c = λ listing messages. wrote_all assembly _ _ _ _ tt
    (blocks_end _ (drop_all c.contents.content-index c.args.contents.now (omega arith))) (c.contents.invariant.0 listing messages)

pub returns-clause-fit : goal.returns-clause-fit
returns-clause-fit g c =
    let P : List (ArrayVec ℕ) → Type 0 = AllByRecursion BlockFits in
    c.contents.invariant.1 (subst P (sym (drop_all c.contents.content-index c.args.contents.now (omega arith))) tt)
