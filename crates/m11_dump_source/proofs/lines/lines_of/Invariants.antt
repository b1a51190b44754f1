use Rattle.std.proofs.Common.{◌≡◌, ◌++◌, ◌-◌, drop, length}
use Rattle.m11_dump_source.specs.Lines.{lines_from}
use Rattle.m11_dump_source.proofs.lines.lines_of.Given as goal

abbrev pub invariant-cells : goal.invariant-cells
invariant-cells l = l.lines.items ++ lines_from l.index 0 (drop l.index l.memory) ≡ lines_from 0 0 l.memory

abbrev pub decreases-cells : goal.decreases-cells
decreases-cells l = length l.memory - l.index
