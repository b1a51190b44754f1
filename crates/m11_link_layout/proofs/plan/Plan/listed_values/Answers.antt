use Rattle.m11_link_layout.specs.Plan.{definition_values}
use Rattle.m11_link_layout.proofs.Listing.{listed_more}
use Rattle.m11_link_layout.proofs.plan.Plan.listed_values.Goals as goal

pub globals-preserved : goal.globals-preserved
globals-preserved c = listed_more (definition_values c.args.self.now) c.globals.listed.items c.push.new.self.items
    c.globals.index c.defined_value.result c.defined_value.ensures c.in_ok-push.ensures.items c.globals.invariant
