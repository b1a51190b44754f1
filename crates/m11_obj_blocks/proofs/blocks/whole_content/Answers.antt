use Rattle.std.proofs.Common.{◌+◌, ◌-◌, ◌∙◌, ℕ, length, take, drop, arith, rules, subst}
use Rattle.m11_obj_blocks.proofs.BlockFrames.{whole_block}
use Rattle.m11_obj_blocks.proofs.ReadSteps.{Bytes, bytes_known, bytes_of_front}
use Rattle.m11_obj_blocks.proofs.blocks.whole_content.Goals as goal

pub returns-clause-whole : goal.returns-clause-whole
returns-clause-whole c =
    let front = c.in_ok-front_count.ensures in
    let w = whole_block c.in_ok-front_count.field-0 (4 + c.from-end.result) c.args.bytes.now (omega arith) c.if-bytes-end.false
    front.2 (c.if-bytes-end-2.false ∙ c.block_sum.ensures) in
    (omega arith, omega arith, w.1)

pub returns-clause-bytes : goal.returns-clause-bytes
returns-clause-bytes c =
    let end : ℕ = 4 + c.from-end.result in
    let count : ℕ = length (take (end - 4) (drop 4 c.args.bytes.now)) + 5 in
    subst Bytes (returns-clause-whole c).2 (bytes_of_front count c.args.bytes.now (bytes_known c.args.bytes.now
    (λ i. let fits = c.type_inv.bytes i in search rules)))
