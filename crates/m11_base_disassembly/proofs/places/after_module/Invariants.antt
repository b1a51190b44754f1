use Rattle.std.proofs.Common.{◌≡◌, length}
use Rattle.m11_base_disassembly.specs.Lines.{lines_of}
use Rattle.m11_base_disassembly.specs.Places.{after_module}
use Rattle.m11_base_disassembly.proofs.places.after_module.Given as goal

abbrev pub invariant-lines : goal.invariant-lines
invariant-lines l =
    after_module l.module_name (lines_of l.sections) l.contributions ≡ after_module l.module_name (lines_of l.lines) l.rest

abbrev pub decreases-lines : goal.decreases-lines
decreases-lines l = length l.lines
