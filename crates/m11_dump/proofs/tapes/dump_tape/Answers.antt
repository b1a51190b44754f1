use Rattle.std.proofs.Common.{◌≡◌, subst, ℕ, ◌-◌, List, [], ◌∷◌, ◌++◌, Ok, Err, refl}
use Rattle.std.proofs.lemmas.Result.{err_from_is_err_and}
use Rattle.m11_obj_blocks.specs.Limited.{most_bytes, position}
use Rattle.m11_obj_blocks.specs.declared.tape_part.TapePart.TheVariants.{Data, Start}
use Rattle.m11_base_writes.specs.States.{output_of}
use Rattle.m11_dump.proofs.Taping.{data_fails, data_refused, data_shown, part_stops, tape_begins, tape_ends}
use Rattle.m11_dump.specs.Tapes.{tape_view, ShowsHeld, held_beyond}
use Rattle.m11_dump.specs.declared.tapes.Held.{Held}
use Rattle.m11_dump.proofs.tapes.dump_tape.Goals as goal

pub parts-init : goal.parts-init
parts-init g c = rw c.new-reader.ensures (
  [],
  tape_begins (tape_view c.args.view c.args.symbols.now) (position (g.F.Feed.text c.args.feed.now) (g.F.Feed.faults c.args.feed.now) most_bytes)
      (output_of g.S.Sink c.args.sink.now) refl,
)

pub parts-preserved : goal.parts-preserved
parts-preserved g c =
    let is : c.next.result ≡ Ok (Data c.in-Ok-Data.address c.in-Ok-Data.count) = cc in
    let fits = rw c.in-Ok-Data.field-0-is at c.in-Ok-Data.ensures.fits in
    let next : Held = record {
      address = c.in-Ok-Data.address;
      bytes = c.in-Ok.bytes;
      shown = c.in_ok-shown-in-Ok.shown;
      before = c.parts.passed;
    } in
    let joined : c.beyond_of-beyond.result.now ≡ held_beyond c.parts.held (c.in-Ok-Data.address, c.in-Ok.bytes.items) =
    rw c.deref.ensures.value at c.beyond_of-beyond.ensures in
    let P : List ℕ → Type 0 = λ bytes. ShowsHeld (tape_view c.args.view c.args.symbols.now) c.parts.held bytes (most_bytes - c.read_data.new.reader.room)
    (output_of g.S.Sink c.parts.sink) (output_of g.S.Sink c.show_held.new.sink) (Ok c.in_ok-shown-in-Ok.shown) in (
      c.parts.invariant.0 ++ (c.in-Ok-Data.address, c.in-Ok.bytes.items) ∷ [],
      data_shown
          (tape_view c.args.view c.args.symbols.now) (position (g.F.Feed.text c.args.feed.now) (g.F.Feed.faults c.args.feed.now) most_bytes)
          (position (g.F.Feed.text c.parts.feed) (g.F.Feed.faults c.parts.feed) c.parts.reader.room)
          (output_of g.S.Sink c.args.sink.now) (output_of g.S.Sink c.parts.sink) c.parts.reader.stage c.parts.passed c.parts.held
          c.parts.invariant.0 c.parts.invariant.1
          (position (g.F.Feed.text c.next.new.feed) (g.F.Feed.faults c.next.new.feed) c.next.new.self.room) c.next.new.self.stage
          c.next.result c.next.ensures.reads
          c.in-Ok-Data.address c.in-Ok-Data.count is
          (position (g.F.Feed.text c.read_data.new.feed) (g.F.Feed.faults c.read_data.new.feed) c.read_data.new.reader.room)
          (output_of g.S.Sink c.show_held.new.sink) c.in-Ok.bytes.items c.read_data.new.reader.stage fits.0 c.in-Ok.ensures
          c.in_ok-shown-in-Ok.shown next refl refl refl refl fits.1 (subst P joined c.in_ok-shown-in-Ok.ensures),
    )

pub returns-in_err-shown-in-Ok : goal.returns-in_err-shown-in-Ok
returns-in_err-shown-in-Ok g c =
    let r = c.from_residual in
    let p = err_from_is_err_and r.result r.ensures.1 in
    rw (p.1, p.2) (
    let is : c.next.result ≡ Ok (Data c.in-Ok-Data.address c.in-Ok-Data.count) = cc in
    let fits = rw c.in-Ok-Data.field-0-is at c.in-Ok-Data.ensures.fits in
    let joined : c.beyond_of-beyond.result.now ≡ held_beyond c.parts.held (c.in-Ok-Data.address, c.in-Ok.bytes.items) =
    rw c.deref.ensures.value at c.beyond_of-beyond.ensures in
    let P : List ℕ → Type 0 = λ bytes. ShowsHeld (tape_view c.args.view c.args.symbols.now) c.parts.held bytes (most_bytes - c.read_data.new.reader.room)
    (output_of g.S.Sink c.parts.sink) (output_of g.S.Sink c.show_held.new.sink) (Err c.in_err-shown-in-Ok.field-0.0) in (
      c.read_data.new.reader.room,
      data_refused
          (tape_view c.args.view c.args.symbols.now) (position (g.F.Feed.text c.args.feed.now) (g.F.Feed.faults c.args.feed.now) most_bytes)
          (position (g.F.Feed.text c.parts.feed) (g.F.Feed.faults c.parts.feed) c.parts.reader.room)
          (output_of g.S.Sink c.args.sink.now) (output_of g.S.Sink c.parts.sink) c.parts.reader.stage c.parts.passed c.parts.held
          c.parts.invariant.0 c.parts.invariant.1
          (position (g.F.Feed.text c.next.new.feed) (g.F.Feed.faults c.next.new.feed) c.next.new.self.room) c.next.new.self.stage
          c.next.result c.next.ensures.reads
          c.in-Ok-Data.address c.in-Ok-Data.count is
          (position (g.F.Feed.text c.read_data.new.feed) (g.F.Feed.faults c.read_data.new.feed) c.read_data.new.reader.room)
          (output_of g.S.Sink c.show_held.new.sink) c.in-Ok.bytes.items c.read_data.new.reader.stage fits.0 c.in-Ok.ensures
          c.in_err-shown-in-Ok.field-0.0 (subst P joined c.in_err-shown-in-Ok.ensures),
    ))

pub returns-in-Err-read_data : goal.returns-in-Err-read_data
returns-in-Err-read_data g c =
    let is : c.next.result ≡ Ok (Data c.in-Ok-Data.address c.in-Ok-Data.count) = cc in (
      c.read_data.new.reader.room,
      data_fails
          (tape_view c.args.view c.args.symbols.now) (position (g.F.Feed.text c.args.feed.now) (g.F.Feed.faults c.args.feed.now) most_bytes)
          (position (g.F.Feed.text c.parts.feed) (g.F.Feed.faults c.parts.feed) c.parts.reader.room)
          (output_of g.S.Sink c.args.sink.now) (output_of g.S.Sink c.parts.sink) c.parts.reader.stage c.parts.passed c.parts.held
          c.parts.invariant.0 c.parts.invariant.1
          (position (g.F.Feed.text c.next.new.feed) (g.F.Feed.faults c.next.new.feed) c.next.new.self.room) c.next.new.self.stage
          c.next.result c.next.ensures.reads
          c.in-Ok-Data.address c.in-Ok-Data.count is
          (position (g.F.Feed.text c.read_data.new.feed) (g.F.Feed.faults c.read_data.new.feed) c.read_data.new.reader.room)
          (output_of g.S.Sink c.stopped.new.sink) c.in-Err-read_data.fault c.stopped.result c.in-Err-read_data.ensures c.stopped.ensures,
    )

pub returns-in-Ok-Start : goal.returns-in-Ok-Start
returns-in-Ok-Start g c =
    let is : c.next.result ≡ Ok (Start c.in-Ok-Start.address) = cc in (
      c.next.new.self.room,
      tape_ends
          (tape_view c.args.view c.args.symbols.now) (position (g.F.Feed.text c.args.feed.now) (g.F.Feed.faults c.args.feed.now) most_bytes)
          (position (g.F.Feed.text c.parts.feed) (g.F.Feed.faults c.parts.feed) c.parts.reader.room)
          (output_of g.S.Sink c.args.sink.now) (output_of g.S.Sink c.parts.sink) c.parts.reader.stage c.parts.passed c.parts.held
          c.parts.invariant.0 c.parts.invariant.1
          (position (g.F.Feed.text c.next.new.feed) (g.F.Feed.faults c.next.new.feed) c.next.new.self.room) c.next.new.self.stage
          c.next.result c.next.ensures.reads
          c.in-Ok-Start.address is (output_of g.S.Sink c.show_end.new.sink) c.show_end.result c.show_end.ensures,
    )

pub returns-in-Err : goal.returns-in-Err
returns-in-Err g c =
    let is : c.next.result ≡ Err c.in-Err.fault = cc in
    let number = rw c.bytes_read-end.ensures at c.blocks_before-before.ensures in (
      c.next.new.self.room,
      part_stops
          (tape_view c.args.view c.args.symbols.now) (position (g.F.Feed.text c.args.feed.now) (g.F.Feed.faults c.args.feed.now) most_bytes)
          (position (g.F.Feed.text c.parts.feed) (g.F.Feed.faults c.parts.feed) c.parts.reader.room)
          (output_of g.S.Sink c.args.sink.now) (output_of g.S.Sink c.parts.sink) c.parts.reader.stage c.parts.passed c.parts.held
          c.parts.invariant.0 c.parts.invariant.1
          (position (g.F.Feed.text c.next.new.feed) (g.F.Feed.faults c.next.new.feed) c.next.new.self.room) c.next.new.self.stage
          c.next.result c.next.ensures.reads
          c.in-Err.fault is (output_of g.S.Sink c.stopped-in-Err.new.sink) c.blocks_before-before.result c.stopped-in-Err.result
          number c.stopped-in-Err.ensures,
    )
