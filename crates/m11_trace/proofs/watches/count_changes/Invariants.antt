use Rattle.std.proofs.Common.{◌≡◌, ◌++◌, drop, map, take}
use Rattle.m11_trace.specs.Watches.{watch_after}
use Rattle.m11_trace.proofs.watches.count_changes.Given as goal

abbrev pub invariant-words : goal.invariant-words
invariant-words l =
    l.watches ≡ map (watch_after l.fn.memory) (take l.index l.fn.watches) ++ drop l.index l.fn.watches
