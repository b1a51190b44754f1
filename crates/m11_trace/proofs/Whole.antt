-- Whole runs with lines.
use Rattle.std.proofs.Common.{◌≡◌, ◌∙◌, ℕ, ◌%◌, ◌==◌, Bool, true, false, cond, List, [], ◌++◌, length, map, take, Ok, Err, Result, refl, sym, subst, ap, arith}
use Rattle.std.specs.Prelude.{nat_lt, unwrap_or}
use Rattle.std.specs.Io.KnownBytes.{Appends}
use Rattle.m11_base.specs.Devices.{Rises}
use Rattle.m11_base.specs.Sink.{AppendsPrefix}
use Rattle.m11_base.specs.declared.operand.Register.TheVariants.{Pc}
use Rattle.m11_base.proofs.Known.{Appends-Appends}
use Rattle.m11_cpu.specs.Loading.{LoadsInto}
use Rattle.m11_cpu.specs.Messages.{PutsMessages}
use Rattle.m11_cpu.specs.Runs.{run_counted}
use Rattle.m11_cpu.specs.Simulation.{Request, RunDevices, run_devices, started}
use Rattle.m11_cpu.specs.declared.fault.LoadFault.{LoadFault}
use Rattle.m11_cpu.specs.declared.fault.SimFault.{SimFault}
use Rattle.m11_cpu.specs.declared.fault.SimFault.TheVariants.{Load, Write, NoMemory}
use Rattle.m11_cpu.specs.declared.runs.Ran.{Ran}
use Rattle.m11_cpu_machine.specs.Dialogue.{Comes, Devices, Does, Input, Output}
use Rattle.m11_cpu_machine.specs.Machine.{new_machine, with_register}
use Rattle.m11_cpu_machine.specs.declared.machine.Machine.{Machine}
use Rattle.m11_cpu_machine.specs.declared.stop.Stop.TheVariants.{NoStart}
use Rattle.m11_cpu_machine.proofs.Dialogues.{comes}
use Rattle.m11_trace.specs.Messages.{ending_text}
use Rattle.m11_trace.specs.Ranges.{ranges_text}
use Rattle.m11_trace.specs.Stepping.{StepsWithLines, TracesSteps, stop_text}
use Rattle.m11_trace.specs.Taken.{Follow, TracedStep, begun, kept, lines_from, recent_lines, shots_text}
use Rattle.m11_trace.specs.Tracing.{Goes, HasTraced, Traces, end_report, limit_by, ran_by, step_lines}
use Rattle.m11_trace.specs.declared.ending.Ending.{Ending}
use Rattle.m11_trace.specs.declared.ending.Ending.TheVariants.{Stopped}
use Rattle.m11_trace.specs.declared.ranges.Range.{Range}
use Rattle.m11_trace.specs.declared.shots.Shot.{Shot}
use Rattle.m11_trace.specs.declared.steps.Steps.{Steps}
use Rattle.m11_trace.specs.declared.stops.Stops.{Stops}
use Rattle.m11_trace.specs.declared.tracing.Traced.{Traced}
use Rattle.m11_trace.specs.Known.{Known}
use Rattle.m11_trace.proofs.Going.{appends_nothing, begins_after, begins_whole, take_none}
use Rattle.m11_trace.proofs.Reports.{recent_are}

-- ---- the start

does_started : (address : ℕ) (most : ℕ) (m : Machine) (old new : Devices) (y : Ran × Machine) (odd : Bool) → (address % 2 == 1) ≡ odd
    → Does (cond odd (Comes (record { stop = NoStart; steps = 0 }, m)) (run_counted most (with_register Pc address m))) old new y
    → Does (started address most m) old new y
unfolding started
does_started address most m old new y odd e h =
    let P : Bool → Type 0 = λ b.
    Does (cond b (Comes (record { stop = NoStart; steps = 0 }, m)) (run_counted most (with_register Pc address m))) old new y in
    subst P (sym e) h

-- if the address is odd, no step is made and the run ends with `NoStart`
pub nothing_started : (address limit : ℕ) (known : Known) (first last : ℕ) (stops : Stops) (m : Machine) (d : Devices) (output : Output)
    (recent : List Shot) (steps : Steps) → (address % 2 == 1) ≡ true → steps.ending ≡ Stopped NoStart → steps.count ≡ 0 → recent ≡ []
    → StepsWithLines (λ most. started address most m) limit known first last stops (begun address m) m d d output output recent (Ok steps)
nothing_started address limit known first last stops m d output recent steps odd ending count none =
    let same : m ≡ begun address m = ap (λ (b : Bool). cond b m (with_register Pc address m)) (sym odd) in
    let goes : Goes (λ most. started address most m) limit stops (begun address m) d [] (Stopped NoStart) m d = record {
      steps = (same, refl);
      elsewhere = tt;
      quiet = tt;
      ends = tt;
      runs = does_started address limit m d d (record { stop = NoStart; steps = 0 }, m) true odd (comes d _ _ refl);
    } in
    let P : Ending → Type 0 = λ e. Goes (λ most. started address most m) limit stops (begun address m) d [] e m d in
    ([], subst P (sym ending) goes, count, none ∙ sym (take_none last), appends_nothing output.text, refl)

module _ (address limit : ℕ) (stops : Stops) (m m' : Machine) (old new : Devices) (even : (address % 2 == 1) ≡ false) where
  goes_started : (most : ℕ) (taken : List TracedStep) (ending : Ending)
      → Goes (λ n. run_counted n (with_register Pc address m)) most stops (with_register Pc address m) old taken ending m' new
      → Goes (λ n. started address n m) most stops (begun address m) old taken ending m' new
  goes_started most taken ending g =
      let same : with_register Pc address m ≡ begun address m =
      ap (λ (b : Bool). cond b m (with_register Pc address m)) (sym even) in
      let P : Machine → Type 0 = λ n. Follow n old taken m' new in
      record {
        steps = subst P same g.steps;
        elsewhere = g.elsewhere;
        quiet = g.quiet;
        ends = g.ends;
        runs = does_started address (limit_by ending (length taken) most) m old new (ran_by ending (length taken), m') false even g.runs;
      }

  -- if the address is even, the steps begin there
  pub steps_started : (known : Known) (first last : ℕ) (start : Machine) (output output' : Output) (recent : List Shot) (result : Result Steps SimFault)
      → start ≡ with_register Pc address m
      → StepsWithLines (λ n. run_counted n start) limit known first last stops start m' old new output output' recent result
      → StepsWithLines (λ n. started address n m) limit known first last stops (begun address m) m' old new output output' recent result
  steps_started known first last start output output' recent (Ok steps) e h =
      let P : Machine → Type 0 = λ s. Goes (λ n. run_counted n s) limit stops s old h.0 steps.ending m' new in
      (h.0, goes_started limit h.0 steps.ending (subst P e h.1), h.2, h.3, h.4, h.5)
  steps_started known first last start output output' recent (Err Write) e h =
      let P : Machine → Type 0 = λ s. Goes (λ n. run_counted n s) h.0 stops s old h.3 h.2 m' new in
      (h.0, h.1, h.2, h.3, goes_started h.0 h.3 h.2 (subst P e h.4), h.5, h.6)
  steps_started known first last start output output' recent (Err NoMemory) e h = absurd h
  steps_started known first last start output output' recent (Err (Load fault)) e h = absurd h

-- ---- the steps

pub not_loaded : (request : Request) (known : Known) (first last : ℕ) (stops : Stops) (tape tape' : Input) (console : Devices) (written : Output)
    (machine m : Machine) (fault : LoadFault) → machine ≡ new_machine request.words
    → LoadsInto tape.text tape'.text tape.faults tape'.faults machine m (Err fault)
    → TracesSteps request known first last stops (run_devices tape console written) (run_devices tape' console written) (Err (Load fault))
not_loaded request known first last stops tape tape' console written machine m fault e h =
    let P : Machine → Type 0 = λ n. LoadsInto tape.text tape'.text tape.faults tape'.faults n m (Err fault) in
    (m, subst P e h, refl, refl)

module _ (request : Request) (known : Known) (first last : ℕ) (stops : Stops) (before after : RunDevices) (machine loaded m : Machine)
    (transfer address : ℕ) (new : machine ≡ new_machine request.words)
    (loads : LoadsInto before.tape.text after.tape.text before.tape.faults after.tape.faults machine loaded (Ok transfer))
    (start : address ≡ unwrap_or request.start transfer) where
  has_traced : (limit : ℕ) (taken : List TracedStep) (ending : Ending)
      → Goes (λ n. started address n loaded) limit stops (begun address loaded) before.console taken ending m after.console
      → HasTraced (record request { limit = limit }) stops before after taken ending m
  has_traced limit taken ending g =
      let P : Machine → Type 0 = λ n.
      LoadsInto before.tape.text after.tape.text before.tape.faults after.tape.faults n loaded (Ok transfer) in
      let Q : ℕ → Type 0 = λ n. Does (started n (limit_by ending (length taken) limit) loaded) before.console after.console
      (ran_by ending (length taken), m) in
      let R : ℕ → Type 0 = λ n. Follow (begun n loaded) before.console taken m after.console in
      record {
        run = record { transfer = transfer; loaded = loaded; loads = subst P new loads; runs = subst Q start g.runs };
        steps = subst R start g.steps;
        elsewhere = g.elsewhere;
        quiet = g.quiet;
        ends = g.ends;
      }

  -- if a trace line can't be written, the steps end with that fault
  pub line_failed : (capacity : ℕ) (recent : List Shot) (fault : SimFault)
      → StepsWithLines (λ n. started address n loaded) request.limit known first capacity stops (begun address loaded) m before.console
      after.console before.messages after.messages recent (Err fault)
      → TracesSteps request known first last stops before after (Err fault)
  line_failed capacity recent Write h = (
    h.0,
    h.1,
    h.2,
    m,
    h.3,
    has_traced h.0 h.3 h.2 h.4,
    begins_whole before.messages.text after.messages.text (lines_from known first h.3) (recent_lines known first last h.3) h.5,
    h.6,
  )
  line_failed capacity recent NoMemory h = absurd h
  line_failed capacity recent (Load fault) h = absurd h

  module _ (capacity : ℕ) (room : capacity ≡ last) (recent : List Shot) (steps : Steps) (middle : Output)
      (h : StepsWithLines (λ n. started address n loaded) request.limit known first capacity stops (begun address loaded) m before.console
      after.console before.messages middle recent (Ok steps)) where
    recent_is : cond (nat_lt steps.count first) (shots_text known steps.count recent) [] ≡ recent_lines known first last h.0
    recent_is =
        let shots : List Shot = map kept h.0 in
        recent_are known first last steps.count h.0 recent h.2 (h.3 ∙ ap (λ (n : ℕ). take n shots) room)

    -- if the lines of the last steps are written whole, so are all lines
    pub all_shown : (traced : Traced) → traced.machine ≡ m → traced.steps ≡ steps
        → PutsMessages {A = Unit {0}} middle.text after.messages.text middle.faults after.messages.faults
        (cond (nat_lt steps.count first) (shots_text known steps.count recent) []) (Ok tt)
        → TracesSteps request known first last stops before after (Ok traced)
    all_shown traced machine_is steps_is p =
        let P : List ℕ → Type 0 = λ t. Appends middle.text after.messages.text t in
        let Q : Machine → Steps → Type 0 = λ n s. HasTraced request stops before after h.0 s.ending n in
        let R : Machine → Type 0 = λ n. Q n traced.steps in (
          h.0,
          subst R (sym machine_is) (subst (Q m) (sym steps_is) (has_traced request.limit h.0 steps.ending h.1)),
          ap (λ (s : Steps). s.count) steps_is ∙ h.2,
          Appends-Appends before.messages.text middle.text after.messages.text (lines_from known first h.0) _ h.4 (subst P recent_is p.0),
          p.1 ∙ h.5,
        )

    -- if only a prefix of them is written, the steps end with the fault
    pub recent_failed : (fault : SimFault) → PutsMessages {A = Unit {0}} middle.text after.messages.text middle.faults
        after.messages.faults (cond (nat_lt steps.count first) (shots_text known steps.count recent) []) (Err fault)
        → TracesSteps request known first last stops before after (Err fault)
    recent_failed Write p =
        let P : List ℕ → Type 0 = λ t. AppendsPrefix middle.text after.messages.text t in
        let Q : ℕ → Type 0 = λ n. Rises n after.messages.faults in (
          request.limit,
          omega arith,
          steps.ending,
          m,
          h.0,
          has_traced request.limit h.0 steps.ending h.1,
          begins_after before.messages.text middle.text after.messages.text (lines_from known first h.0) _ h.4 (subst P recent_is p.0),
          subst Q h.5 p.1,
        )
    recent_failed NoMemory p = absurd p
    recent_failed (Load fault) p = absurd p

-- ---- the whole

-- if the trace lines can't be written, neither can the report
pub report_failed : (request : Request) (known : Known) (first last : ℕ) (stops : Stops) (ranges : List Range) (before after : RunDevices)
    (fault : SimFault) → TracesSteps request known first last stops before after (Err fault)
    → Traces request known first last stops ranges before after (Err fault)
report_failed request known first last stops ranges before after Write h =
    let rest = end_report stops ranges h.4 h.2 h.3 in
    let whole = begins_whole before.messages.text after.messages.text (step_lines known first last h.4) rest h.6 in
    (h.0, h.1, h.2, h.3, h.4, h.5, whole, h.7)
report_failed request known first last stops ranges before after NoMemory h = h
report_failed request known first last stops ranges before after (Load fault) h = h

-- which steps were made doesn't depend on the output of the lines
pub with_outputs : (request : Request) (stops : Stops) (tape tape' : Input) (console console' : Devices) (written written' other other' : Output)
    (taken : List TracedStep) (ending : Ending) (m : Machine)
    → HasTraced request stops (run_devices tape console written) (run_devices tape' console' written') taken ending m
    → HasTraced request stops (run_devices tape console other) (run_devices tape' console' other') taken ending m
with_outputs request stops tape tape' console console' written written' other other' taken ending m h =
    let run = h.run in
    record {
      run = record { transfer = run.transfer; loaded = run.loaded; loads = run.loads; runs = run.runs };
      steps = h.steps;
      elsewhere = h.elsewhere;
      quiet = h.quiet;
      ends = h.ends;
    }

-- what is reported at the end is by the number of steps
pub end_is : (stops : Stops) (ranges : List Range) (traced : Traced) (taken : List TracedStep) → traced.steps.count ≡ length taken
    → stop_text stops traced.steps ranges traced.machine ≡ end_report stops ranges taken traced.steps.ending traced.machine
end_is stops ranges traced taken long =
    let to : ℕ → List ℕ = λ n. ending_text stops traced.steps.ending n traced.machine ++ ranges_text traced.machine.memory ranges in
    ap to long

module _ (request : Request) (known : Known) (first last : ℕ) (stops : Stops) (ranges : List Range) (tape tape' : Input)
    (console console' : Devices) (written middle after : Output) (traced : Traced)
    (h : TracesSteps request known first last stops (run_devices tape console written) (run_devices tape' console' middle) (Ok traced)) where
  same_traced : HasTraced request stops (run_devices tape console written) (run_devices tape' console' after) h.0 traced.steps.ending traced.machine
  same_traced =
      with_outputs request stops tape tape' console console' written middle written after h.0 traced.steps.ending traced.machine h.1

  all_is : stop_text stops traced.steps ranges traced.machine ≡ end_report stops ranges h.0 traced.steps.ending traced.machine
  all_is = end_is stops ranges traced h.0 h.2

  -- if the end of the report is written whole, so is the whole report
  pub all_reported : PutsMessages {A = Unit {0}} middle.text after.text middle.faults after.faults
      (stop_text stops traced.steps ranges traced.machine) (Ok tt)
      → Traces request known first last stops ranges (run_devices tape console written) (run_devices tape' console' after) (Ok traced.steps.ending)
  all_reported p =
      let P : List ℕ → Type 0 = λ t. Appends middle.text after.text t in (
        traced.machine,
        h.0,
        same_traced,
        Appends-Appends written.text middle.text after.text (step_lines known first last h.0) _ h.3 (subst P all_is p.0),
        p.1 ∙ h.4,
      )

  -- if only a prefix of the end of the report is written, the run ends with the fault
  pub end_failed : (fault : SimFault) → PutsMessages {A = Unit {0}} middle.text after.text middle.faults after.faults
      (stop_text stops traced.steps ranges traced.machine) (Err fault)
      → Traces request known first last stops ranges (run_devices tape console written) (run_devices tape' console' after) (Err fault)
  end_failed Write p =
      let P : List ℕ → Type 0 = λ t. AppendsPrefix middle.text after.text t in
      let Q : ℕ → Type 0 = λ n. Rises n after.faults in (
        request.limit,
        omega arith,
        traced.steps.ending,
        traced.machine,
        h.0,
        same_traced,
        begins_after written.text middle.text after.text (step_lines known first last h.0) _ h.3 (subst P all_is p.0),
        subst Q h.4 p.1,
      )
  end_failed NoMemory p = absurd p
  end_failed (Load fault) p = absurd p
