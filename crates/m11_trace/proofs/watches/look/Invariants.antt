use Rattle.std.proofs.Common.{◌≡◌, ◌++◌, drop, map, take}
use Rattle.m11_trace.specs.Watches.{watch_of}
use Rattle.m11_trace.proofs.watches.look.Given as goal

abbrev pub invariant-words : goal.invariant-words
invariant-words l = l.watches ≡ map (watch_of l.memory) (take l.index l.fn.watched) ++ drop l.index l.fn.watches
