use Rattle.m11_link_layout.proofs.Listing.{stands}
use Rattle.m11_link_layout.proofs.tables.Tables.contribution.Goals as goal

pub returns-in-Some-clause-at : goal.returns-in-Some-clause-at
returns-in-Some-clause-at c = stands c.args.self.now (c.args.module_index, c.args.section) c.in-Some.field-0-1.now
    c.in-Some.index c.in-Some.offset.now c.self.view_is c.in-Some.ensures.entry c.in-Some.ensures.key
