use Rattle.m11_cli_tasks.specs.Opened.{texts}
use Rattle.m11_base_writes.specs.States.{output_of}
use Rattle.m11_dumper.proofs.Told.{is_below, told}
use Rattle.m11_dumper.proofs.mapping.show_map.Goals as goal

pub stop_of-requires : goal.stop_of-requires
stop_of-requires g c =
    let run = rw c.in-Err-Objects.field-0-is at c.in-Err-Objects.ensures in
    is_below g.F.Input.Feed.text g.F.Input.Feed.faults (g.F.Opens.files c.args.files.now) c.args.paths.now c.as_mut_slice.result.now
    c.load_map_run.new.objects c.args.bottom c.in-Err-Objects.fault.object_index c.in-Err-Objects.fault.fault
    (rw c.as_mut_slice.ensures.value c.in-Ok.ensures.are) run.0.1

pub returns-in-Err-Objects-clause-shows : goal.returns-in-Err-Objects-clause-shows
returns-in-Err-Objects-clause-shows g c =
    told g.F.Input.Feed.text g.F.Input.Feed.faults c.args.bottom (g.F.Opens.files c.args.files.now) (texts c.args.paths.now)
    (output_of g.O.Sink c.args.out.now) (output_of g.O.Sink c.load_map_run.new.sink) c.in-Err-Objects.fault c.stop_of.result
    c.stop_of.ensures (
      c.as_mut_slice.result.now,
      c.load_map_run.new.objects,
      rw c.as_mut_slice.ensures.value c.in-Ok.ensures.are,
      rw c.in-Err-Objects.field-0-is at c.in-Err-Objects.ensures,
    )
