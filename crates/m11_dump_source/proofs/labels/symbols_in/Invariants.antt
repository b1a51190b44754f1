use Rattle.std.proofs.Common.{◌≡◌, ◌++◌, length}
use Rattle.std.specs.List.{flat_map}
use Rattle.m11_dump_source.specs.Labels.{made_for, symbols_in, targets}
use Rattle.m11_dump_source.proofs.labels.symbols_in.Given as goal

abbrev pub invariant-lines : goal.invariant-lines
invariant-lines l = l.symbols.items ++ flat_map (made_for l.kept (targets l.start l.lines)) l.rest
    ≡ symbols_in l.kept l.start l.lines

abbrev pub decreases-lines : goal.decreases-lines
decreases-lines l = length l.rest
