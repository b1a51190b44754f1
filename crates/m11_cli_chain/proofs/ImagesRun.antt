-- A call of `sim` runs the machine that its tape yields.
use Rattle.std.proofs.Common.{◌≡◌, ◌∙◌, ℕ, List, Option, Some, None, Ok, unwrap_or, refl, sym, ap, subst}
use Rattle.clap.specs.Words.{Text}
use Rattle.m11_base.specs.Devices.{Bytes}
use Rattle.m11_base.specs.Feed as feed
use Rattle.m11_base_writes.specs.Passes.{IsKnown}
use Rattle.m11_cpu.specs.Loading.{LoadsInto}
use Rattle.m11_cpu.specs.Simulation.{started, text_at_stop}
use Rattle.m11_cpu.specs.declared.simulation.SimDone.{SimDone}
use Rattle.m11_cpu_machine.specs.Dialogue.{Does}
use Rattle.m11_cpu_machine.specs.Machine.{new_machine}
use Rattle.m11_cli.specs.Driver.{Obeys, RunsTape}
use Rattle.m11_cli.specs.declared.outcome.Outcome.TheVariants as outcome
use Rattle.m11_cli_chain.specs.Chain.{Chains}
use Rattle.m11_cli_chain.specs.Steps.{AreObjectsOf, IsTapeOfObjects}
use Rattle.m11_cli_chain.proofs.Joined.{LoadLaw, PartsLaw, SizeLaw, WithinLaw, load_linked}
use Rattle.m11_cli_reports.specs.Streams.{Store, Streams}
use Rattle.m11_cli_tasks.specs.Tasks.{Plans}
use Rattle.m11_cli_tasks.specs.declared.tasks.SimTask.{SimTask}
use Rattle.m11_cli_tasks.specs.declared.tasks.Task.TheVariants as task
use Rattle.m11_cli_chain.specs.Commands.{RunsChain, console_of}
use Rattle.m11_cli_chain.specs.Stores.{IsFresh, bytes_at}
use Rattle.m11_cli_chain.proofs.CommandsObeyed.{nothing_more, obeyed_sim}
use Rattle.m11_cli_chain.proofs.FilesOpened.{one_known}
use Rattle.m11_cli_chain.proofs.TasksPlanned.{SameSim, same_sim}

known_text : (text : Option feed.Text) (bytes : Bytes) → IsKnown text bytes → (t : feed.Text) × (text ≡ Some t) × (t.bytes ≡ bytes)
known_text None bytes h = absurd h
known_text (Some t) bytes h = (t, refl, h)

module _ (parts_law : PartsLaw) (load_law : LoadLaw) (within_law : WithinLaw) (size_law : SizeLaw) (texts : List (List Bytes))
    (bottom : ℕ) (objects : List Bytes) (tape : Bytes) (o : AreObjectsOf texts objects) (t : IsTapeOfObjects bottom objects tape)
    (old new : Store) (fresh : IsFresh old) (done : SimDone) where
  ran : (sim : SimTask) (before after : Streams) → bytes_at old sim.tape.now ≡ Some tape → RunsTape sim old new before after (Ok done)
      → RunsChain texts bottom sim before after done
  ran sim before after has r =
      let text = known_text r.tape.text tape (one_known old.files fresh sim.tape.now r.tape.text tape r.read has) in
      let run = r.runs.2 in
      record {
        chained = record { machine = run.loaded; start = run.transfer };
        chains = load_linked parts_law load_law within_law size_law texts bottom sim.words objects tape o t text.0 r.tape'.text r.tape.faults r.tape'.faults
            run.loaded run.transfer text.2
            (subst (λ (given : Option feed.Text).
            LoadsInto given r.tape'.text r.tape.faults r.tape'.faults (new_machine sim.words) run.loaded (Ok run.transfer))
            text.1 run.loads);
        ran = r.runs.0;
        machine = r.runs.1;
        runs = run.runs;
        stop = r.runs.3;
        reports = r.runs.4;
      }

  same_run : (sim other : SimTask) (before after : Streams) → SameSim sim other → RunsChain texts bottom other before after done
      → RunsChain texts bottom sim before after done
  same_run sim other before after same r = record {
    chained = r.chained;
    chains = subst (λ (n : ℕ). Chains texts bottom n (Ok r.chained)) (sym same.words) r.chains;
    ran = r.ran;
    machine = r.machine;
    runs = subst (λ (s : Option ℕ).
        Does (started (unwrap_or s r.chained.start) sim.limit r.chained.machine) (console_of before) (console_of after) (r.ran, r.machine))
        (sym same.start)
        (subst (λ (n : ℕ).
        Does (started (unwrap_or other.start r.chained.start) n r.chained.machine) (console_of before) (console_of after) (r.ran, r.machine))
        (sym same.limit) r.runs);
    stop = r.stop;
    reports = r.reports;
  }

  pub runs_chain : (words : List Text) (sim : SimTask) (before after : Streams) → Plans words (Ok (task.Sim sim))
      → Obeys words (outcome.Sim (Ok done)) old new before after → bytes_at old sim.tape.now ≡ Some tape
      → RunsChain texts bottom sim before after done
  runs_chain words sim before after planned obeys has =
      let did = obeyed_sim words old new done before after obeys in
      let other = did.1.0 in
      let same = same_sim words sim other planned did.1.1 in
      let now = record after { reported = did.0 } in
      let r = same_run sim other before now same
      (ran other before now (sym (ap (bytes_at old) same.tape) ∙ has) did.1.2) in
      record {
        chained = r.chained;
        chains = r.chains;
        ran = r.ran;
        machine = r.machine;
        runs = r.runs;
        stop = r.stop;
        reports = nothing_more before.reported.text did.0 after.reported (text_at_stop r.ran r.machine) r.reports did.2;
      }

  pub runs_only : (words : List Text) (before after : Streams) → Obeys words (outcome.Sim (Ok done)) old new before after → new ≡ old
  runs_only words before after obeys = (obeyed_sim words old new done before after obeys).1.2.kept
