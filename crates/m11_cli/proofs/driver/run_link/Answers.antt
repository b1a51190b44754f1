use Rattle.std.proofs.Common.{◌∙◌, ap}
use Rattle.m11_base_files.specs.Opens.{keeping, keeping_some}
use Rattle.m11_link.specs.SecondPass.{LinkRuns}
use Rattle.m11_cli.specs.Driver.{got, outputs}
use Rattle.m11_cli_tasks.specs.Opened.{link_inputs}
use Rattle.m11_cli.proofs.Linked.{emptied, kept, link_runs, same_output, seen_output}
use Rattle.m11_base_writes.specs.States.{output_of}
use Rattle.m11_cli.proofs.Sources.{are, seen}
use Rattle.m11_cli.proofs.driver.run_link.Goals as goal
use Rattle.m11_base_writes.specs.Passes.{pass_of}

pub returns : goal.returns
returns g c =
    let text = g.F.Input.Feed.text in
    let faults = g.F.Input.Feed.faults in
    let sink = g.F.Output.Sink in
    let task = c.args.task.now in
    let first = c.args.opened.objects.first.items in
    let second = c.args.opened.objects.second.items in
    let tape = output_of sink c.args.opened.tape in
    let tape' = output_of sink c.link_run_with_seed-returned.new.tape in
    let map = seen_output sink c.args.opened.map in
    let map' = seen_output sink c.link_run_with_seed-returned.new.map in
    let reported = output_of g.E.Sink c.args.err.now in
    let reported' = output_of g.E.Sink c.link_run_with_seed-returned.new.messages in
    let ran : LinkRuns (pass_of text faults first c.link_run_with_seed-returned.new.first)
    (pass_of text faults second c.link_run_with_seed-returned.new.second) task.bottom
    (outputs tape map reported) (outputs tape' map' reported') c.link_run_with_seed-returned.result =
    rw (
      c.as_mut_slice.ensures.value,
      c.as_mut_slice-2.ensures.value,
      same_output sink c.args.opened.map,
      same_output sink c.link_run_with_seed-returned.new.map,
    ) at c.link_run_with_seed-returned.ensures.runs in
    λ before read again emptied-tape emptied-map created same. record {
      first = seen text faults first;
      first' = seen text faults c.link_run_with_seed-returned.new.first;
      second = seen text faults second;
      second' = seen text faults c.link_run_with_seed-returned.new.second;
      tape = tape;
      tape' = tape';
      map = map;
      map' = map';
      read = are text faults before.files (link_inputs task) first read;
      read-again = are text faults before.files (link_inputs task) second again;
      emptied = emptied-tape;
      emptied-map = emptied sink before.files task.map c.args.opened.map emptied-map;
      runs = link_runs text faults _ _ _ _ _ _ _ c.link_run_with_seed-returned.result ran;
      kept = c.hand_back_some.ensures.keeps
          ∙ kept sink task.map c.link_run_with_seed-returned.new.map _
          ∙ ap (λ files. keeping_some got task.map map' files)
          (c.keep.ensures.keeps ∙ ap (λ files. keeping task.tape.now (got tape') files) created);
      opened = c.hand_back_some.ensures.counts ∙ c.keep.ensures.counts ∙ same;
    }
