use Rattle.std.proofs.Common.{ℕ, sym, subst, Ok}
use Rattle.m11_obj_blocks.specs.Limited.{most_bytes, position}
use Rattle.m11_base_writes.specs.States.{output_of}
use Rattle.m11_dump.specs.Libraries.{AcceptsPart}
use Rattle.m11_dump.specs.declared.library_parts.Stage.TheVariants.{Between}
use Rattle.m11_dump.proofs.Listing.{library_dumped}
use Rattle.m11_dump.proofs.libraries.dump_library.Goals as goal

pub returns : goal.returns
returns g c =
    let found = c.in_ok-before.ensures.seeks in
    let s = found.1 in
    let P : ℕ → Type 0 = λ n. AcceptsPart Between 0 c.seek.new.found.items n (output_of g.S.Sink c.args.sink.now)
    (output_of g.S.Sink c.accept_block.new.sink) (Ok c.in_ok-stage.stage) in
    let l = c.list_blocks.ensures s.0 (sym s.3) in (
      l.0,
      library_dumped (position (g.F.Feed.text c.args.feed.now) (g.F.Feed.faults c.args.feed.now) most_bytes)
          (position (g.F.Feed.text c.seek.new.feed) (g.F.Feed.faults c.seek.new.feed) found.0)
          (position (g.F.Feed.text c.list_blocks.new.feed) (g.F.Feed.faults c.list_blocks.new.feed) l.0) c.seek.new.found.items s.0
          (record { took = s.1; is = s.2 }) c.in_ok-stage.stage (output_of g.S.Sink c.args.sink.now)
          (output_of g.S.Sink c.accept_block.new.sink) (output_of g.S.Sink c.list_blocks.new.sink) (subst P s.3 c.in_ok-stage.ensures)
          c.list_blocks.result l.1,
    )
