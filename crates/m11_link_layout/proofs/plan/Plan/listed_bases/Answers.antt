use Rattle.m11_link_layout.specs.Plan.{contribution_bases}
use Rattle.m11_link_layout.proofs.Listing.{base_made, listed_more}
use Rattle.m11_link_layout.proofs.plan.Plan.listed_bases.Goals as goal

pub contributions-preserved : goal.contributions-preserved
contributions-preserved c = listed_more (contribution_bases c.args.self.now) c.contributions.listed.items c.push.new.self.items
    c.contributions.index c.moved.result
    (base_made c.args.self.now c.contributions.index c.contribution_at-section.result.0 c.contribution_at-section.result.1
    c.moved.result c.section_base.result c.self.view_is c.contribution_at-section.ensures c.section_base.ensures
    c.moved.ensures)
    c.in_ok-push.ensures.items c.contributions.invariant
