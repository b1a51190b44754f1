use Rattle.std.proofs.lemmas.Result.{err_from_is_err_and}
use Rattle.m11_obj.specs.Reading.{record_relocations}
use Rattle.m11_link_modules.specs.Parts.{Relocated}
use Rattle.m11_link_modules.proofs.Taking.{walk_taken, walk_refused, walk_ended}
use Rattle.m11_link_modules.proofs.rules.Rules.each_relocation.Goals as goal

pub relocations-preserved : goal.relocations-preserved
relocations-preserved c = walk_taken (λ relocation. Relocated relocation) c.args.self.now c.relocations.self c.relocation.new.self
    (record_relocations c.args.record.now) c.relocations.relocation-iterator c.next.new.self c.in-Some.relocation tt
    c.in-Some.ensures.steps c.relocations.invariant c.in_ok-relocation.ensures.takes

pub returns-in_err-relocation : goal.returns-in_err-relocation
returns-in_err-relocation c =
    let r = c.from_residual in
    let p = err_from_is_err_and r.result r.ensures.1 in
    rw (p.1, p.2)
    (walk_refused (λ relocation. Relocated relocation) c.args.self.now c.relocations.self c.relocation.new.self c.relocation.new.self
    (record_relocations c.args.record.now) c.relocations.relocation-iterator c.next.new.self c.in-Some.relocation _
    c.in-Some.ensures.steps c.relocations.invariant c.in_err-relocation.ensures.takes)

pub returns : goal.returns
returns c = walk_ended (λ relocation. Relocated relocation) c.args.self.now c.relocations.self
    (record_relocations c.args.record.now) c.relocations.relocation-iterator tt c.in-None.ensures.steps.0 c.relocations.invariant
