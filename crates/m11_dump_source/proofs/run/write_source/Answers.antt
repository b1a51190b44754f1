use Rattle.std.proofs.Common.{◌∙◌, refl}
use Rattle.m11_obj_blocks.specs.Limited.{most_bytes, position}
use Rattle.m11_base_writes.specs.States.{output_of}
use Rattle.m11_dump_source.proofs.Sourced.{put_as}
use Rattle.m11_dump_source.proofs.run.write_source.Goals as goal

pub returns-in-Ok : goal.returns-in-Ok
returns-in-Ok g c =
    let old = position (g.F.Feed.text c.args.feed.now) (g.F.Feed.faults c.args.feed.now) most_bytes in
    let new = position (g.F.Feed.text c.read_tape.new.feed) (g.F.Feed.faults c.read_tape.new.feed) c.in_ok-tape.ensures.0 in (
      c.in_ok-tape.ensures.0,
      put_as c.args.symbols.now old new c.in_ok-tape.tape c.deref.result.now (output_of g.S.Sink c.args.sink.now)
          (output_of g.S.Sink c.put_or_fail.new.sink) c.put_or_fail.result c.in_ok-tape.ensures.1
          (c.deref.ensures.value ∙ c.in-Ok.ensures) c.put_or_fail.ensures,
    )

pub returns : goal.returns
returns g c = (c.in_ok-tape.ensures.0, (c.in_ok-tape.tape, c.in_ok-tape.ensures.1, refl))
