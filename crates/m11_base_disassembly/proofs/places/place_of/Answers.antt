use Rattle.std.proofs.Common.{refl}
use Rattle.m11_base_disassembly.specs.Lines.{lines_of}
use Rattle.m11_base_disassembly.proofs.FoundContributions.{no_place, place_after, place_found}
use Rattle.m11_base_disassembly.proofs.places.place_of.Goals as goal

pub returns-in-Some : goal.returns-in-Some
returns-in-Some c =
    place_found (lines_of c.args.sections.now) c.args.contributions.now c.contributions.invariant.0 c.contribution-item.result
    c.contributions.own.now c.in-Some.after.now c.in-len1-up.len_at_least c.contribution-item.is c.contributions.invariant.1
    c.contributions.invariant.2 c.in-Some.ensures

pub contributions-preserved : goal.contributions-preserved
contributions-preserved c =
    place_after (lines_of c.args.sections.now) c.args.contributions.now c.contributions.invariant.0 c.contribution-item.result
    c.contributions.own.now _ c.in-len1-up.len_at_least c.contribution-item.is c.contributions.invariant.1
    c.contributions.invariant.2 c.in_default-after_module.ensures refl

pub returns : goal.returns
returns c =
    no_place (lines_of c.args.sections.now) c.args.contributions.now c.contributions.invariant.0 c.contributions.own.now
    c.in_default.len_below c.contributions.invariant.2
