use Rattle.std.proofs.Common.{◌≤◌, ◌+◌, ◌-◌, length}
use Rattle.m11_link_modules.specs.Rules.{width_of}
use Rattle.m11_link_text.specs.Findings.{planned}
use Rattle.m11_link_text.proofs.Stored.{judged_fits, judged_is_stored}
use Rattle.m11_link_text.proofs.relocation.relocate.Goals as goal

pub returns : goal.returns
returns c =
    let relocation = c.args.relocation.now.relocation in
    let count = c.args.relocation.now.text_length in
    let fits : relocation.displacement - 4 + width_of relocation.is_byte relocation.target ≤ length c.args.text.now =
    judged_fits relocation count (length c.args.text.now) c.relocation.ensures.within c.requires in
    rw (c.store.ensures, c.relocation.ensures.value, c.from-2.ensures, c.from.ensures, c.index-index.ensures)
    (judged_is_stored (planned c.args.plan.now) c.args.module_index c.args.base c.args.address count relocation c.args.text.now
    c.relocation.ensures.within c.requires)
