use Rattle.std.proofs.Common.{◌∙◌, sym}
use Rattle.m11_base_disassembly.specs.Lines.{lines_of}
use Rattle.m11_base_disassembly.proofs.FoundContributions.{one_found}
use Rattle.m11_base_disassembly.proofs.contributions.contributions_in.Goals as goal

pub lines-preserved : goal.lines-preserved
lines-preserved c =
    one_found (lines_of c.args.lines.now) (lines_of c.lines.rest.now) c.first_line.result.0.now (lines_of c.first_line.result.1.now)
    c.lines.found.items c.push.new.self.items c.in-Ok.contribution c.lines.invariant c.first_line.ensures.lines
    (sym c.is_globals.ensures ∙ c.if-is_globals.false) (sym c.in-Ok.ensures) c.in_ok-push-in-Ok.ensures.items
