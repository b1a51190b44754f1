use Rattle.std.proofs.Common.{get_or, arith}
use Rattle.std.proofs.lemmas.List.{get_or_default}
use Rattle.m11_trace.specs.Watches.{watch_of}
use Rattle.m11_trace.specs.declared.stops.CountedAddress.{CountedAddress}
use Rattle.m11_trace.proofs.Watching.{all_looked_at, one_looked_at}
use Rattle.m11_trace.proofs.watches.look.Goals as goal

pub words-preserved : goal.words-preserved
words-preserved c =
    let none : CountedAddress = record { address = 0; count = 0 } in
    let watched = c.args.watched.now in
    let index = c.words.index in
    let here = get_or watched index none in
    rw c.watch_of.ensures
    (one_looked_at (watch_of c.args.memory.now) watched c.args.watches.now c.words.watches index here c.words-test.true c.requires c.words.invariant
    (get_or_default watched index none here c.words-test.true))

pub returns : goal.returns
returns c =
    all_looked_at (watch_of c.args.memory.now) c.args.watched.now c.args.watches.now c.words.watches c.words.index (omega (arith, c.words-test.false))
    c.requires c.words.invariant
