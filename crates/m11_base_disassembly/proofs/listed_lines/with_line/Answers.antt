use Rattle.std.proofs.Common.{sym}
use Rattle.m11_base_disassembly.specs.ListedLines.{line_of}
use Rattle.m11_base_disassembly.proofs.FoundLines.{first_fits}
use Rattle.m11_base_disassembly.proofs.listed_lines.with_line.Goals as goal

pub returns-in-Nothing : goal.returns-in-Nothing
returns-in-Nothing c = λ before fits.
    first_fits c.args.found (line_of c.args.line.now) c.as_slice.result before c.in-Nothing.is fits (sym c.as_slice.ensures.value)
