use Rattle.m11_asm.proofs.Noting.{notes}
use Rattle.m11_asm.proofs.facts.Facts.add_line.Goals as goal

pub returns : goal.returns
returns c =
    notes c.args.table.now c.args.live.now c.args.self.now c.add_action.new.self c.add_action.result c.add_action.ensures
