use Rattle.std.proofs.Common.{◌≡◌, ℕ, List, ◌++◌, length}
use Rattle.std.specs.Io.KnownBytes.{Appends}
use Rattle.m11_base.proofs.sink.put_all.Given as goal

abbrev pub invariant-puts : goal.invariant-puts
invariant-puts g l = (done : List ℕ) × (l.bytes ≡ done ++ l.rest)
    × Appends (g.S.Sink.text l.initial.sink) (g.S.Sink.text l.sink) done
    × (g.S.Sink.faults l.sink ≡ g.S.Sink.faults l.initial.sink)

abbrev pub decreases-puts : goal.decreases-puts
decreases-puts g l = length l.rest
