use Rattle.std.proofs.Common.{◌≡◌, subst, ℕ, arith}
use Rattle.m11_obj.proofs.Walks.{Passed, passed_more, passed_found, passed_end}
use Rattle.m11_obj.proofs.relocation_walk.relocation_at.Goals as goal

pub returns-in-Err : goal.returns-in-Err
returns-in-Err c =
    passed_end c.args.bytes.now c.loop.rest.now c.in-Err.field-0 c.loop.counter c.args.index c.loop.invariant
    (omega arith) c.in-Err.ensures

pub loop-preserved : goal.loop-preserved
loop-preserved c =
    passed_more c.args.bytes.now c.loop.rest.now c.in-Ok.following.now c.in-Ok.field-0-0 c.loop.counter c.loop.invariant
    c.in-Ok.ensures

pub returns-in-Ok-first_relocation : goal.returns-in-Ok-first_relocation
returns-in-Ok-first_relocation c =
    let all : c.loop.counter ≡ c.args.index = omega arith in
    passed_found c.args.bytes.now c.loop.rest.now c.in-Ok-first_relocation.field-0-1.now
    c.in-Ok-first_relocation.relocation c.args.index
    (subst (λ (n : ℕ). Passed c.args.bytes.now c.loop.rest.now n) all c.loop.invariant)
    c.in-Ok-first_relocation.ensures

pub returns-in-Err-first_relocation : goal.returns-in-Err-first_relocation
returns-in-Err-first_relocation c =
    passed_end c.args.bytes.now c.loop.rest.now c.in-Err-first_relocation.field-0 c.loop.counter c.args.index
    c.loop.invariant (omega arith) c.in-Err-first_relocation.ensures
