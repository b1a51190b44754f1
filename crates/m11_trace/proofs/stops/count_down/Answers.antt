use Rattle.std.proofs.Common.{get_or, arith}
use Rattle.std.proofs.lemmas.List.{get_or_default}
use Rattle.std.proofs.lemmas.List.Edits.{map_over_more}
use Rattle.m11_trace.specs.Stops.{counted_at}
use Rattle.m11_trace.specs.declared.stops.CountedAddress.{CountedAddress}
use Rattle.m11_trace.proofs.stops.count_down.Goals as goal

pub breakpoints-preserved : goal.breakpoints-preserved
breakpoints-preserved c =
    let none : CountedAddress = record { address = 0; count = 0 } in
    let waiting = c.breakpoints.waiting in
    let index = c.breakpoints.index in
    let here = get_or waiting index none in
    rw c.counted_at.ensures
    (map_over_more (counted_at c.args.address) c.args.waiting.now waiting index here c.breakpoints-test.true c.breakpoints.invariant
    (get_or_default waiting index none here (omega (arith, c.breakpoints.auto.waiting, c.breakpoints-test.true))))
