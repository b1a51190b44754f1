use Rattle.m11_link_layout.proofs.Ending.{plan_failed}
use Rattle.m11_link_layout.proofs.Listing.{plan_refused}
use Rattle.m11_link_layout.proofs.plan.plan_of.Goals as goal

pub returns-in-Err : goal.returns-in-Err
returns-in-Err c = plan_failed c.args.bottom c.args.tables c.with_hasher-bases.result.entries c.place_all.new.bases.entries
    c.in-Err.fault
    c.with_hasher-bases.ensures.empty c.in-Err.ensures

pub returns-in-Err-list : goal.returns-in-Err-list
returns-in-Err-list c = plan_refused c.args.bottom c.args.tables c.with_hasher-bases.result.entries
    (record { bases = c.place_all.new.bases.entries; top = c.in-Ok.top }) c.in-Err-list.fault
    c.in-Err-list.ensures.no_memory c.with_hasher-bases.ensures.empty c.in-Ok.ensures c.in-Err-list.ensures.some
