-- What one command leaves in files that are known: `asm` the object of its sources, and `link` the tape of its objects; and what `sim` runs.
-- (MACRO-11 Language Reference Manual, "Relocation and linking". This project's own: which files a command writes.)
use Rattle.std.specs.Prelude.{◌≡◌, ℕ, List, Some, Ok, unwrap_or}
use Rattle.std.specs.Io.KnownBytes.{Appends}
use Rattle.m11_base.specs.Devices.{Bytes}
use Rattle.m11_cpu.specs.Simulation.{started, text_at_stop}
use Rattle.m11_cpu.specs.declared.runs.Ran.{Ran}
use Rattle.m11_cpu.specs.declared.simulation.SimDone.{SimDone}
use Rattle.m11_cpu_machine.specs.Dialogue.{Devices, Does, both}
use Rattle.m11_cpu_machine.specs.declared.machine.Machine.{Machine}
use Rattle.m11_cli_chain.specs.Chain.{Chains}
use Rattle.m11_cli_chain.specs.Steps.{IsObjectOf, IsTapeOfObjects}
use Rattle.m11_cli_chain.specs.declared.chain.Chained.{Chained}
use Rattle.m11_cli_reports.specs.Streams.{Store, Streams}
use Rattle.m11_cli_tasks.specs.Opened.{asm_outputs, link_outputs}
use Rattle.m11_cli_tasks.specs.declared.tasks.AsmTask.{AsmTask}
use Rattle.m11_cli_tasks.specs.declared.tasks.LinkTask.{LinkTask}
use Rattle.m11_cli_tasks.specs.declared.tasks.SimTask.{SimTask}
use Rattle.m11_cli_chain.specs.Stores.{KeepsOthers, bytes_at}

-- the file at the object's path has the object of the source that these texts define, and the files at all paths but those of the object
-- and the listing are as they were
pub record LeavesObject (texts : List Bytes) (asm : AsmTask) (old new : Store) : Type 0 where
  pub object : Bytes
  pub is_object : IsObjectOf texts object
  pub left : bytes_at new asm.object.now ≡ Some object
  pub others : KeepsOthers (asm_outputs asm) old new

-- the file at the tape's path has the tape that a link of these objects writes, and the files at all paths but those of the tape and the map
-- are as they were
pub record LeavesTape (objects : List Bytes) (link : LinkTask) (old new : Store) : Type 0 where
  pub tape : Bytes
  pub is_tape : IsTapeOfObjects link.bottom objects tape
  pub left : bytes_at new link.tape.now ≡ Some tape
  pub others : KeepsOthers (link_outputs link) old new

-- the console of a process
abbrev pub console_of : Streams → Devices
console_of process = both process.input.text process.input.faults process.printed.text process.printed.faults

-- The run begins with the machine that a chain of these texts yields, which holds their image, at the task's start, or else at the start of
-- the image. This is its stop, which is reported.
pub record RunsChain (texts : List (List Bytes)) (bottom : ℕ) (sim : SimTask) (before after : Streams) (done : SimDone) : Type 0 where
  pub chained : Chained
  pub chains : Chains texts bottom sim.words (Ok chained)
  pub ran : Ran
  pub machine : Machine
  pub runs : Does (started (unwrap_or sim.start chained.start) sim.limit chained.machine) (console_of before) (console_of after) (ran, machine)
  pub stop : done.stop ≡ ran.stop
  pub reports : Appends before.reported.text after.reported.text (text_at_stop ran machine)
