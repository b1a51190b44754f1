use Rattle.std.proofs.Common.{◌≡◌, ◌++◌, drop, map, take}
use Rattle.m11_trace.specs.Stops.{counted_at}
use Rattle.m11_trace.proofs.stops.count_down.Given as goal

abbrev pub invariant-breakpoints : goal.invariant-breakpoints
invariant-breakpoints l =
    l.waiting ≡ map (counted_at l.fn.address) (take l.index l.fn.waiting) ++ drop l.index l.fn.waiting
