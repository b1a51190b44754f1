use Rattle.std.proofs.Common.{get_or, arith}
use Rattle.std.proofs.lemmas.List.{get_or_default}
use Rattle.std.proofs.lemmas.List.Edits.{map_over_more}
use Rattle.m11_trace.specs.Watches.{watch_after}
use Rattle.m11_trace.specs.declared.watches.Watch.{Watch}
use Rattle.m11_trace.proofs.watches.count_changes.Goals as goal

pub words-preserved : goal.words-preserved
words-preserved c =
    let none : Watch = record { address = 0; count = 0; word = 0 } in
    let watches = c.words.watches in
    let index = c.words.index in
    let here = get_or watches index none in
    rw c.watch_after.ensures
    (map_over_more (watch_after c.args.memory.now) c.args.watches.now watches index here c.words-test.true c.words.invariant
    (get_or_default watches index none here (omega (arith, c.words.auto.watches, c.words-test.true))))
