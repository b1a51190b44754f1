-- What a call of `command` that succeeded did.
use Rattle.std.proofs.Common.{◌≡◌, ◌∙◌, ◌++◌, List, [], ◌∷◌, subst, Option, Some, None, Ok, append-nil, inl, inr}
use Rattle.std.specs.Io.KnownBytes.{Appends}
use Rattle.clap.specs.Words.{Text}
use Rattle.m11_asm.specs.declared.done.AsmDone.{AsmDone}
use Rattle.m11_base.specs.Devices.{Bytes}
use Rattle.m11_base_writes.specs.States.{OutputState}
use Rattle.m11_cpu.specs.declared.simulation.SimDone.{SimDone}
use Rattle.m11_link.specs.declared.emit.LinkDone.{LinkDone}
use Rattle.m11_cli.specs.Driver.{Assembles, Carries, Links, MayAssemble, MayLink, MayRun, Obeys, RunsTape}
use Rattle.m11_cli.specs.declared.outcome.Outcome.TheVariants as outcome
use Rattle.m11_cli_reports.specs.Reports.{Reports}
use Rattle.m11_cli_reports.specs.Streams.{Store, Streams}
use Rattle.m11_cli_tasks.specs.Tasks.{Plans}
use Rattle.m11_cli_tasks.specs.declared.tasks.AsmTask.{AsmTask}
use Rattle.m11_cli_tasks.specs.declared.tasks.LinkTask.{LinkTask}
use Rattle.m11_cli_tasks.specs.declared.tasks.SimTask.{SimTask}
use Rattle.m11_cli_tasks.specs.declared.tasks.Task.{Task}
use Rattle.m11_cli_tasks.specs.declared.tasks.Task.TheVariants as task

module _ (words : List Text) (old new : Store) where
  -- ---- an assembly

  module _ (done : AsmDone) where
    abbrev pub Assembled : OutputState → OutputState → Type 0
    Assembled reported reported' = (asm : AsmTask) × Plans words (Ok (task.Asm asm)) × Assembles asm old new reported reported' (Ok done)

    may_assemble : (asm : AsmTask) (reported reported' : OutputState) → MayAssemble asm old new reported reported' (Ok done)
        → Assembles asm old new reported reported' (Ok done)
    may_assemble asm reported reported' (inl h) = h
    may_assemble asm reported reported' (inr h) = absurd (let e = h.0 in cc)

    carried_asm : (t : Task) (before after : Streams) → Plans words (Ok t) → Carries t (outcome.Asm (Ok done)) old new before after
        → Assembled before.reported after.reported
    carried_asm (task.Asm asm) before after planned (input, printed, h) = (asm, planned, may_assemble asm before.reported after.reported h)
    carried_asm (task.Link link) before after planned h = absurd h
    carried_asm (task.Sim sim) before after planned h = absurd h

    pub obeyed_asm : (before after : Streams) → Obeys words (outcome.Asm (Ok done)) old new before after
        → (reported : OutputState) × Assembled before.reported reported
    obeyed_asm before after (reported, (t, planned, carries), reports) =
        (reported, carried_asm t before (record after { reported = reported }) planned carries)

  -- ---- a link

  module _ (done : LinkDone) where
    abbrev pub DidLink : OutputState → OutputState → Type 0
    DidLink reported reported' = (link : LinkTask) × Plans words (Ok (task.Link link)) × Links link old new reported reported' (Ok done)

    may_link : (link : LinkTask) (reported reported' : OutputState) → MayLink link old new reported reported' (Ok done)
        → Links link old new reported reported' (Ok done)
    may_link link reported reported' (inl h) = h
    may_link link reported reported' (inr h) = absurd (let e = h.0 in cc)

    carried_link : (t : Task) (before after : Streams) → Plans words (Ok t) → Carries t (outcome.Link (Ok done)) old new before after
        → DidLink before.reported after.reported
    carried_link (task.Asm asm) before after planned h = absurd h
    carried_link (task.Link link) before after planned (input, printed, h) = (link, planned, may_link link before.reported after.reported h)
    carried_link (task.Sim sim) before after planned h = absurd h

    pub obeyed_link : (before after : Streams) → Obeys words (outcome.Link (Ok done)) old new before after
        → (reported : OutputState) × DidLink before.reported reported
    obeyed_link before after (reported, (t, planned, carries), reports) =
        (reported, carried_link t before (record after { reported = reported }) planned carries)

  -- ---- a run

  module _ (done : SimDone) where
    abbrev pub Ran : Streams → Streams → Type 0
    Ran before after = (sim : SimTask) × Plans words (Ok (task.Sim sim)) × RunsTape sim old new before after (Ok done)

    may_run : (sim : SimTask) (before after : Streams) → MayRun sim old new before after (Ok done) → RunsTape sim old new before after (Ok done)
    may_run sim before after (inl h) = h
    may_run sim before after (inr h) = absurd (let e = h.0 in cc)

    carried_sim : (t : Task) (before after : Streams) → Plans words (Ok t) → Carries t (outcome.Sim (Ok done)) old new before after
        → Ran before after
    carried_sim (task.Asm asm) before after planned h = absurd h
    carried_sim (task.Link link) before after planned h = absurd h
    carried_sim (task.Sim sim) before after planned h = (sim, planned, may_run sim before after h)

    pub obeyed_sim : (before after : Streams) → Obeys words (outcome.Sim (Ok done)) old new before after
        → (reported : OutputState) × Ran before (record after { reported = reported }) × Reports [] reported after.reported
    obeyed_sim before after (reported, (t, planned, carries), reports) =
        (reported, carried_sim t before (record after { reported = reported }) planned carries, reports)

-- ---- nothing reported

-- if nothing more was reported, what had been appended still is all that was
still_appended : (old now new : Option Bytes) (bytes : Bytes) → Appends old now bytes → Appends now new [] → Appends old new bytes
still_appended None now new bytes h k = tt
still_appended (Some before) None new bytes h k = absurd h
still_appended (Some before) (Some here) None bytes h k = absurd k
still_appended (Some before) (Some here) (Some there) bytes h k = k ∙ append-nil here ∙ h

nothing_put : (part rest : Bytes) → [] ≡ part ++ rest → part ≡ []
nothing_put [] rest e = cc
nothing_put (byte ∷ part) rest e = absurd cc

pub nothing_more : (old : Option Bytes) (now new : OutputState) (bytes : Bytes) → Appends old now.text bytes → Reports [] now new
    → Appends old new.text bytes
nothing_more old now new bytes h (inl (appends, same)) = still_appended old now.text new.text bytes h appends
nothing_more old now new bytes h (inr ((part, rest, split, appends), rises)) =
    still_appended old now.text new.text bytes h
    (let P : Bytes → Type 0 = λ these. Appends now.text new.text these in subst P (nothing_put part rest split) appends)
