use Rattle.std.proofs.Common.{◌∙◌, Some, ap, map, sym}
use Rattle.std.specs.Prelude.{string_bytes}
use Rattle.m11_base.specs.contracts.memory.MemoryFeedFeed.TheImpl as feed
use Rattle.m11_base.specs.contracts.memory.MemorySinkSink.TheImpl as sink
use Rattle.m11_base_files.specs.MemoryFiles.{made_of}
use Rattle.m11_base_files.specs.contracts.memory_files.MemoryFilesOpens.TheImpl as opens
use Rattle.m11_cli_reports.specs.Streams.{store, streams}
use Rattle.m11_web.specs.Answers.{obeys}
use Rattle.m11_web.proofs.Carried.{carried, streams_so}
use Rattle.m11_web.proofs.commands.carried_out.Goals as goal

pub returns : goal.returns
returns c =
    let ran = c.carry_out-status in
    let made = map made_of c.as_slice.result.now in
    carried (obeys feed.ghosts.text feed.ghosts.faults c.args.program) (map string_bytes c.args.words.now) c.args.files.now c.args.typed.now
    (opens.ghosts.files c.new-files.result) (opens.ghosts.refusals c.new-files.result)
    (streams feed.ghosts sink.ghosts sink.ghosts c.new-input.result c.new-out.result c.new-err.result)
    (store (opens.ghosts.files ran.new.files) (opens.ghosts.refusals ran.new.files))
    (streams feed.ghosts sink.ghosts sink.ghosts ran.new.input ran.new.out ran.new.err) ran.result c.bytes.result.now c.bytes-2.result.now
    made c.in_ok-answer.answer.items c.new-files.ensures.files c.new-files.ensures.refusals
    (streams_so c.args.typed.now _ _ _ _ _ _ c.new-input.ensures.text c.new-input.ensures.unfailed c.new-out.ensures.text
    c.new-out.ensures.unfailed c.new-err.ensures.text c.new-err.ensures.unfailed)
    ran.ensures c.bytes.ensures c.bytes-2.ensures
    (c.into_made-made.ensures ∙ ap (λ l. Some (map made_of l)) (sym c.as_slice.ensures.value)) c.in_ok-answer.ensures
