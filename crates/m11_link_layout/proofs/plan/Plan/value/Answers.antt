use Rattle.m11_link_layout.proofs.Listing.{value_found, value_shown}
use Rattle.m11_link_layout.proofs.plan.Plan.value.Goals as goal

pub returns-in-Some : goal.returns-in-Some
returns-in-Some c = value_shown c.args.self.now c.self.view_is c.args.name c.in_ok-index.index c.in-Some.value.now
    c.self.inside.values.items c.deref.result.now c.in_ok-index.ensures.at c.self.invariant.values_agree
    c.deref.ensures.value c.in-Some.ensures.lookup.3.0 c.in-Some.ensures.lookup.1

pub returns-in-None : goal.returns-in-None
returns-in-None c = value_found c.args.self.now c.self.view_is c.args.name c.in_ok-index.index c.defined_value.result
    c.in_ok-index.ensures.at c.defined_value.ensures
