-- The outcome of a task.
use Rattle.std.proofs.Common.{◌≡◌, ◌∙◌, ℕ, true, false, Bool, List, Option, Some, None, Result, Ok, Err, inl, inr, refl, sym, subst, ap}
use Rattle.std.specs.Borrow.{Bor}
use Rattle.m11_base.specs.Feed as feed
use Rattle.clap.specs.Words.{Text}
use Rattle.m11_link_load_map.specs.NameFiles.{Names}
use Rattle.m11_link_load_map.specs.declared.name_files.NoNames.{NoNames}
use Rattle.m11_link_load_map.specs.declared.name_files.NoNames.TheVariants as none
use Rattle.m11_base_writes.specs.States.{OutputState}
use Rattle.m11_base_files.specs.Opens.{Holds}
use Rattle.m11_cpu.specs.declared.fault.SimFault.{SimFault}
use Rattle.m11_cpu.specs.declared.fault.SimFault.TheVariants.{NoMemory}
use Rattle.m11_cpu_machine.specs.Dialogue.{Input}
use Rattle.m11_trace.specs.Known.{Known}
use Rattle.m11_trace.specs.declared.apart.ApartFault.{ApartFault}
use Rattle.m11_trace.specs.declared.apart.ApartFault.TheVariants.{Lines, Run}
use Rattle.m11_trace.specs.declared.ending.Ending.{Ending}
use Rattle.m11_cli_tasks.specs.Opened.{texts}
use Rattle.m11_tracer.specs.Driver.{Carries, CarriesAsked, CarriesNamed, GoesWithout, HasOutcome, RefusesPlaces, RunsBy, RunsInto, RunsOpen, RunsTape}
use Rattle.m11_tracer.specs.Outcome.{outcome_apart}
use Rattle.m11_cli_reports.specs.Streams.{Store, Streams}
use Rattle.m11_tracer.specs.Task.{Plans}
use Rattle.m11_tracer.specs.declared.outcome.Outcome.{Outcome}
use Rattle.m11_tracer.specs.declared.outcome.Outcome.TheVariants.{Usage, Refused, NotOpened, NoSymbols, LinesFailed, Ran}
use Rattle.m11_tracer.specs.declared.places.Asked.{Asked}
use Rattle.m11_tracer.specs.declared.task.TraceTask.{TraceTask}
use Rattle.m11_cli_reports.specs.declared.refusals.Refusal.{Refusal}
use Rattle.m11_cli_reports.specs.declared.refusals.Refusal.TheVariants as refusal
use Rattle.m11_cli_tasks.specs.declared.usage.UsageFault.{UsageFault}

-- the outcome of a task that is carried out isn't a fault of the command line
no_usage_without : (fault : UsageFault) (none : NoNames) (old new : Store) (before after : Streams)
    → GoesWithout none (Usage fault) old new before after → ⊥
no_usage_without fault (none.NotOpened path) old new before after h = let no : Usage fault ≡ NotOpened = h.4.0 in absurd cc
no_usage_without fault (none.InFile path inner) old new before after h = let no : Usage fault ≡ NoSymbols inner = h.4.0 in absurd cc

no_usage_refused : (fault : UsageFault) (refused : Refusal) (reported reported' : OutputState)
    → RefusesPlaces refused (Usage fault) reported reported' → ⊥
no_usage_refused fault (refusal.Value value) reported reported' h = let no : Usage fault ≡ Refused = h.0 in absurd cc
no_usage_refused fault (refusal.Usage inner) reported reported' h = let no : Usage fault ≡ Ran (Err NoMemory) = h.0 in absurd cc

no_usage_asked : (task : TraceTask) (known : Known) (fault : UsageFault) (old new : Store) (before after : Streams)
    → CarriesAsked task known (Usage fault) old new before after → ⊥
no_usage_asked task known fault old new before after (inl carried) = carried.2
no_usage_asked task known fault old new before after (inr refused) =
    no_usage_refused fault refused.0 before.reported after.reported refused.5

no_usage : {I : Type 0} (text : I → Option feed.Text) (faults : I → ℕ) (task : TraceTask) (fault : UsageFault) (old new : Store)
    (before after : Streams) → Carries text faults task (Usage fault) old new before after → ⊥
no_usage text faults task fault old new before after (inl named) = no_usage_asked task named.0 fault old new before after named.2
no_usage text faults task fault old new before after (inr without) = no_usage_without fault without.0 old new before after without.2

-- ---- a task whose tape is open

-- if there is no file for the lines, they are among the reports
pub runs_unnamed : (task : TraceTask) (asked : Asked) (known : Known) (tape : Input) (old new : Store) (before after : Streams) (result : Result Ending SimFault)
    → task.lines ≡ None → RunsOpen task asked known tape before after result → new ≡ old
    → RunsBy task.lines task asked known tape old new before after (Ran result)
runs_unnamed task asked known tape old new before after result none runs same =
    let P : Option (Bor (List ℕ)) → Type 0 = λ path. RunsBy path task asked known tape old new before after (Ran result) in
    subst P (sym none) (result, runs, same, refl)

-- whether an outcome comes before the tape is opened
abbrev is_early : Outcome → Bool
is_early (Usage fault) = true
is_early Refused = true
is_early NotOpened = false
is_early (NoSymbols fault) = true
is_early LinesFailed = false
is_early (Ran result) = false

apart_is_late : (result : Result Ending ApartFault) → is_early (outcome_apart result) ≡ false
apart_is_late (Ok ending) = refl
apart_is_late (Err Lines) = refl
apart_is_late (Err (Run fault)) = refl

is_late : (task : TraceTask) (asked : Asked) (path : List ℕ) (known : Known) (tape : Input) (old new : Store) (before after : Streams) (outcome : Outcome)
    → RunsInto task asked path known tape old new before after outcome → is_early outcome ≡ false
is_late task asked path known tape old new before after outcome (inl runs) = ap is_early runs.4 ∙ apart_is_late runs.1
is_late task asked path known tape old new before after outcome (inr (inl refused)) = ap is_early refused.0
is_late task asked path known tape old new before after outcome (inr (inr memory)) = ap is_early memory.0

-- if a tape was opened, which changed no file, and run with its lines in a file, the task was carried out
module _ (task : TraceTask) (asked : Asked) (known : Known) (tape : Input) (old middle new : Store) (before after : Streams) where
  runs_tape : (outcome : Outcome) (path : Bor (List ℕ)) → task.lines ≡ Some path → Holds old.files task.sim.tape.now tape.text → middle ≡ old
      → RunsInto task asked path.now known tape middle new before after outcome → RunsTape task asked known old new before after outcome
  runs_tape outcome path some holds same runs =
      let P : Option (Bor (List ℕ)) → Type 0 = λ named. RunsBy named task asked known tape old new before after outcome in
      let Q : Store → Type 0 = λ s. RunsInto task asked path.now known tape s new before after outcome in
      (tape, holds, subst P (sym some) (subst Q same runs))

  pub runs_named : (outcome : Outcome) (path : Bor (List ℕ)) → task.lines ≡ Some path → Holds old.files task.sim.tape.now tape.text → middle ≡ old
      → RunsInto task asked path.now known tape middle new before after outcome → CarriesNamed task asked known outcome old new before after
  runs_named NotOpened path some holds same runs = inl (runs_tape NotOpened path some holds same runs)
  runs_named (Ran result) path some holds same runs = inl (runs_tape (Ran result) path some holds same runs)
  runs_named LinesFailed path some holds same runs = runs_tape LinesFailed path some holds same runs
  runs_named (Usage fault) path some holds same runs =
      let no : true ≡ false = is_late task asked path.now known tape middle new before after (Usage fault) runs in absurd cc
  runs_named Refused path some holds same runs =
      let no : true ≡ false = is_late task asked path.now known tape middle new before after Refused runs in absurd cc
  runs_named (NoSymbols fault) path some holds same runs =
      let no : true ≡ false = is_late task asked path.now known tape middle new before after (NoSymbols fault) runs in absurd cc

-- ---- a task with its names

-- if names were found, and finding them changed no file, the task is carried out with these names
pub goes_on : {I : Type 0} (text : I → Option feed.Text) (faults : I → ℕ) (task : TraceTask) (known : Known) (outcome : Outcome) (old middle new : Store) (before after : Streams)
    → Names text faults task.kept task.bottom old.files (texts task.names.items) known.symbols known.listings → middle ≡ old
    → CarriesAsked task known outcome middle new before after → Carries text faults task outcome old new before after
goes_on text faults task known outcome old middle new before after names same h =
    let P : Store → Type 0 = λ s. CarriesAsked task known outcome s new before after in
    inl (known, names, subst P same h)

-- the outcome of carrying out the task that a command line asks for is an outcome of the command line
pub carried : {I : Type 0} (text : I → Option feed.Text) (faults : I → ℕ) (words : List Text) (task : TraceTask) (outcome : Outcome) (old new : Store) (before after : Streams)
    → Plans words (Ok task) → Carries text faults task outcome old new before after → HasOutcome text faults words outcome old new before after
carried text faults words task (Usage fault) old new before after planned h = absurd (no_usage text faults task fault old new before after h)
carried text faults words task Refused old new before after planned h = inr (task, planned, h)
carried text faults words task (NoSymbols fault) old new before after planned h = (task, planned, h)
carried text faults words task LinesFailed old new before after planned h = (task, planned, h)
carried text faults words task NotOpened old new before after planned h = (task, planned, h)
carried text faults words task (Ran result) old new before after planned h = (task, planned, h)
