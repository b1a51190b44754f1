use Rattle.std.proofs.Common.{arith}
use Rattle.m11_link_layout.specs.Plan.{planned_globals}
use Rattle.m11_link_load_map.proofs.Texts.{all_listed, one_listed}
use Rattle.m11_link_load_map.proofs.text.globals_of.Goals as goal

pub globals-preserved : goal.globals-preserved
globals-preserved c =
    one_listed (planned_globals c.args.plan.now) c.globals.globals.items c.push.new.self.items c.globals.index c.global_at.result
    c.global_at.ensures c.globals.invariant c.in_ok-push.ensures.items

pub returns : goal.returns
returns c =
    all_listed (planned_globals c.args.plan.now) c.globals.globals.items c.globals.index
    (omega (arith, c.globals-test.false, c.global_count-index-end.ensures)) c.globals.invariant
