use Rattle.std.proofs.Common.{rules}
use Rattle.m11_link.proofs.Entering.{held_set}
use Rattle.m11_link.proofs.reporting.Reporter.end_text.Goals as goal

pub returns-in-Ok : goal.returns-in-Ok
returns-in-Ok g c = λ map messages.
    let ended = c.in-Ok.ensures in (search (rules, ended), held_set c.args.self.now _ c.self.view_is)
