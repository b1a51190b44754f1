use Rattle.m11_asm_passes.proofs.Assembling.{acts_told}
use Rattle.m11_asm_passes.proofs.begun.act_under.Goals as goal

pub returns-clause-acts : goal.returns-clause-acts
returns-clause-acts c =
    acts_told c.new.result c.args.table.now c.location.result c.args.line.now.text c.args.unfolder.now.stage c.act.new.self.stage
    c.act.result c.new.ensures c.location.ensures (c.act.ensures.acts c.requires.goes_on)
