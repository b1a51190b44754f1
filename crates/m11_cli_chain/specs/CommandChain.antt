-- Calls of `command` that assemble the modules of a program, link their objects and run the tape. (MACRO-11 Language Reference Manual,
-- "Relocation and linking". This project's own: that each command finds the files that the one before it left.)
use Rattle.std.specs.Prelude.{◌≡◌, ⊤, List, [], ◌∷◌, map, Some, Ok}
use Rattle.std.specs.List.{AllByRecursion}
use Rattle.clap.specs.Words.{Text}
use Rattle.m11_asm.specs.declared.done.AsmDone.{AsmDone}
use Rattle.m11_base.specs.Devices.{Bytes}
use Rattle.m11_cpu.specs.declared.simulation.SimDone.{SimDone}
use Rattle.m11_link.specs.declared.emit.LinkDone.{LinkDone}
use Rattle.m11_cli.specs.Driver.{Obeys}
use Rattle.m11_cli.specs.declared.outcome.Outcome.TheVariants as outcome
use Rattle.m11_cli_chain.specs.Chain.{Linked}
use Rattle.m11_cli_chain.specs.Exact.{tape_of}
use Rattle.m11_cli_reports.specs.Streams.{Store, Streams}
use Rattle.m11_cli_tasks.specs.Opened.{asm_inputs, asm_outputs, link_inputs, optional}
use Rattle.m11_cli_tasks.specs.Tasks.{Plans}
use Rattle.m11_cli_tasks.specs.declared.tasks.AsmTask.{AsmTask}
use Rattle.m11_cli_tasks.specs.declared.tasks.LinkTask.{LinkTask}
use Rattle.m11_cli_tasks.specs.declared.tasks.SimTask.{SimTask}
use Rattle.m11_cli_tasks.specs.declared.tasks.Task.TheVariants as task
use Rattle.m11_cli_chain.specs.Commands.{RunsChain}
use Rattle.m11_cli_chain.specs.Stores.{AreApart, AreAt, Follows, IsNoneOf, bytes_at}

-- ---- one call each

-- a call of `command` with the words of this assembly, which succeeded, whichever lines are flagged; and the files and the streams before
-- and after it
pub record AsmCall : Type 0 where
  pub words : List Text
  pub old : Store
  pub new : Store
  pub before : Streams
  pub after : Streams
  pub asm : AsmTask
  pub done : AsmDone
  pub plans : Plans words (Ok (task.Asm asm))
  pub obeys : Obeys words (outcome.Asm (Ok done)) old new before after

-- a call with the words of this link, which succeeded, whatever it reports
pub record LinkCall : Type 0 where
  pub words : List Text
  pub old : Store
  pub new : Store
  pub before : Streams
  pub after : Streams
  pub link : LinkTask
  pub done : LinkDone
  pub plans : Plans words (Ok (task.Link link))
  pub obeys : Obeys words (outcome.Link (Ok done)) old new before after

-- a call with the words of this run, which loaded the tape and stopped, wherever it stopped
pub record SimCall : Type 0 where
  pub words : List Text
  pub old : Store
  pub new : Store
  pub before : Streams
  pub after : Streams
  pub sim : SimTask
  pub done : SimDone
  pub plans : Plans words (Ok (task.Sim sim))
  pub obeys : Obeys words (outcome.Sim (Ok done)) old new before after

-- ---- assemblies, one after another

-- the first assembly begins with the files of `first`, and each other one with those that the assembly before it left; `last` has the files
-- after all of them
abbrev pub AreInTurn : Store → List AsmCall → Store → Type 0
AreInTurn first [] last = last ≡ first
AreInTurn first (call ∷ calls) last = Follows first call.old × AreInTurn call.new calls last

abbrev pub object_path : AsmCall → Bytes
object_path call = call.asm.object.now

-- a later assembly writes neither over the object of this one nor from a file that this one wrote: its object and listing aren't that
-- object, and its sources are neither the object nor the listing of this one
pub record IsApart (call later : AsmCall) : Type 0 where
  pub object : IsNoneOf (object_path call) (asm_outputs later.asm)
  pub sources : AreApart (asm_inputs later.asm) (asm_outputs call.asm)

-- the object of each assembly isn't its own listing, and each later assembly is apart from it
abbrev pub AreAllApart : List AsmCall → Type 0
AreAllApart [] = ⊤
AreAllApart (call ∷ calls) = IsNoneOf (object_path call) (optional call.asm.listing)
    × AllByRecursion (IsApart call) calls × AreAllApart calls

-- these are the texts of the sources of each assembly, which the files have
abbrev pub AreTexts : Store → List AsmCall → List (List Bytes) → Type 0
AreTexts files [] [] = ⊤
AreTexts files [] (texts ∷ more) = ⊥
AreTexts files (call ∷ calls) [] = ⊥
AreTexts files (call ∷ calls) (texts ∷ more) = AreAt files (asm_inputs call.asm) texts × AreTexts files calls more

-- ---- a chain of commands

-- These calls assemble the modules of a program, one after another; link their objects, in the same order; and run the tape. Each begins
-- with the files that the one before it left, the first one with those of `first`. No file is written over before it is read: the
-- assemblies are apart, and the tape isn't the map. The tape may be at the path of an object, and an object at that of its own source, since
-- a command reads known files as they were when it began.
pub record CommandsChain (first : Store) (assemblies : List AsmCall) (linking : LinkCall) (running : SimCall) : Type 0 where
  pub assembled : Store
  pub in_turn : AreInTurn first assemblies assembled
  pub then_link : Follows assembled linking.old
  pub then_run : Follows linking.new running.old
  pub objects : link_inputs linking.link ≡ map object_path assemblies
  pub tape : running.sim.tape.now ≡ linking.link.tape.now
  pub apart : AreAllApart assemblies
  pub own_map : IsNoneOf linking.link.tape.now (optional linking.link.map)

-- no assembly of these texts and no link of their objects is refused; the tape's file has the tape of their sources; and the run is that of
-- the machine that a chain of these texts yields
pub record YieldsChain (texts : List (List Bytes)) (linking : LinkCall) (running : SimCall) : Type 0 where
  pub tape : Linked texts linking.link.bottom
      (λ sources. bytes_at running.new linking.link.tape.now ≡ Some (tape_of linking.link.bottom sources))
  pub run : RunsChain texts linking.link.bottom running.sim running.before running.after running.done
