use Rattle.std.proofs.Common.{◌∙◌, ap}
use Rattle.m11_base_writes.specs.Passes.{pass_of}
use Rattle.m11_asm.specs.Extents.{AsmGives}
use Rattle.m11_asm.specs.Run.{AsmRuns}
use Rattle.m11_base_files.specs.Opens.{keeping, keeping_some}
use Rattle.m11_cli.specs.Driver.{got, outputs}
use Rattle.m11_cli_tasks.specs.Opened.{asm_inputs}
use Rattle.m11_cli.proofs.Assembled.{asm_runs}
use Rattle.m11_cli.proofs.Given.{asm_gives}
use Rattle.m11_cli.proofs.Linked.{emptied, kept, same_output, seen_output}
use Rattle.m11_base_writes.specs.States.{output_of}
use Rattle.m11_cli.proofs.Sources.{are, seen}
use Rattle.m11_cli.proofs.driver.run_asm.Goals as goal

pub returns : goal.returns
returns g c =
    let text = g.F.Input.Feed.text in
    let faults = g.F.Input.Feed.faults in
    let sink = g.F.Output.Sink in
    let task = c.args.task.now in
    let first = c.args.opened.sources.first.items in
    let second = c.args.opened.sources.second.items in
    let object = output_of sink c.args.opened.object in
    let object' = output_of sink c.asm_run_with_seed-returned.new.object in
    let listing = seen_output sink c.args.opened.listing in
    let listing' = seen_output sink c.asm_run_with_seed-returned.new.listing in
    let reported = output_of g.E.Sink c.args.err.now in
    let reported' = output_of g.E.Sink c.asm_run_with_seed-returned.new.messages in
    let ran : AsmRuns (pass_of text faults first c.asm_run_with_seed-returned.new.first)
    (pass_of text faults second c.asm_run_with_seed-returned.new.second)
    (outputs object listing reported) (outputs object' listing' reported') c.asm_run_with_seed-returned.result =
    rw (
      c.as_mut_slice.ensures.value,
      c.as_mut_slice-2.ensures.value,
      same_output sink c.args.opened.listing,
      same_output sink c.asm_run_with_seed-returned.new.listing,
    ) at c.asm_run_with_seed-returned.ensures.runs in
    let given : AsmGives (pass_of text faults first c.asm_run_with_seed-returned.new.first)
    (pass_of text faults second c.asm_run_with_seed-returned.new.second)
    (outputs object listing reported) (outputs object' listing' reported') c.asm_run_with_seed-returned.result =
    rw (
      c.as_mut_slice.ensures.value,
      c.as_mut_slice-2.ensures.value,
      same_output sink c.args.opened.listing,
      same_output sink c.asm_run_with_seed-returned.new.listing,
    ) at c.asm_run_with_seed-returned.ensures.gives in
    λ before read again emptied-object emptied-listing created same. record {
      first = seen text faults first;
      first' = seen text faults c.asm_run_with_seed-returned.new.first;
      second = seen text faults second;
      second' = seen text faults c.asm_run_with_seed-returned.new.second;
      object = object;
      object' = object';
      listing = listing;
      listing' = listing';
      read = are text faults before.files (asm_inputs task) first read;
      read-again = are text faults before.files (asm_inputs task) second again;
      emptied = emptied-object;
      emptied-listing = emptied sink before.files task.listing c.args.opened.listing emptied-listing;
      runs = asm_runs text faults _ _ _ _ _ _ c.asm_run_with_seed-returned.result ran;
      gives = asm_gives text faults _ _ _ _ _ _ c.asm_run_with_seed-returned.result given;
      kept = c.hand_back_some.ensures.keeps
          ∙ kept sink task.listing c.asm_run_with_seed-returned.new.listing _
          ∙ ap (λ files. keeping_some got task.listing listing' files)
          (c.keep.ensures.keeps
          ∙ ap (λ files. keeping task.object.now (got object') files) created);
      opened = c.hand_back_some.ensures.counts ∙ c.keep.ensures.counts ∙ same;
    }
