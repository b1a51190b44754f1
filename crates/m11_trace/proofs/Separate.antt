-- Whole runs whose trace lines have an output of their own.
use Rattle.std.proofs.Common.{◌≡◌, ◌∙◌, ℕ, List, [], append-nil, Option, Some, None, Ok, Err, refl, sym, subst, arith}
use Rattle.std.specs.Io.KnownBytes.{Appends, Keeps}
use Rattle.m11_base.specs.Devices.{Rises}
use Rattle.m11_base.specs.Sink.{AppendsPrefix}
use Rattle.m11_base.proofs.Known.{Appends-Appends}
use Rattle.m11_cpu.specs.Messages.{PutsMessages}
use Rattle.m11_cpu.specs.Simulation.{Request, run_devices}
use Rattle.m11_cpu.specs.declared.fault.SimFault.{SimFault}
use Rattle.m11_cpu.specs.declared.fault.SimFault.TheVariants.{Load, Write, NoMemory}
use Rattle.m11_cpu_machine.specs.Dialogue.{Devices, Input, Output}
use Rattle.m11_trace.specs.Apart.{HandsOn, TracesApart, fault_of_steps}
use Rattle.m11_trace.specs.Stepping.{TracesSteps, stop_text}
use Rattle.m11_trace.specs.Tracing.{step_lines}
use Rattle.m11_trace.specs.declared.apart.ApartFault.TheVariants.{Lines, Run}
use Rattle.m11_trace.specs.declared.ranges.Range.{Range}
use Rattle.m11_trace.specs.declared.stops.Stops.{Stops}
use Rattle.m11_trace.specs.declared.tracing.Traced.{Traced}
use Rattle.m11_trace.specs.Known.{Known}
use Rattle.m11_trace.proofs.Whole.{end_is, with_outputs}

appends_kept : (a b : Option (List ℕ)) → Keeps a b → Appends a b []
appends_kept None b kept = tt
appends_kept (Some text) None kept = absurd kept
appends_kept (Some text) (Some same) kept = kept ∙ sym (append-nil text)

module _ (request : Request) (known : Known) (first last : ℕ) (stops : Stops) (ranges : List Range) (tape tape' : Input)
    (console console' : Devices) (lines lines' reported : Output) where
  -- if the steps fail, so does the run, with nothing reported
  pub steps_failed : (held : ℕ) (fault : SimFault)
      → TracesSteps request known first last stops (run_devices tape console lines) (run_devices tape' console' lines') (Err fault)
      → TracesApart request known first last stops ranges (run_devices tape console reported) (run_devices tape' console' reported) lines lines' held
      (Err (fault_of_steps fault))
  steps_failed held Write h = (h.0, h.1, h.2, h.3, h.4, with_outputs _ stops tape tape' console console' lines lines' reported reported h.4 h.2 h.3 h.5, h.6, h.7, refl)
  steps_failed held NoMemory h = (h.0, h.1, refl, h.2)
  steps_failed held (Load fault) h = (h.0, h.1, h.2, refl, h.3)

  module _ (traced : Traced)
      (h : TracesSteps request known first last stops (run_devices tape console lines) (run_devices tape' console' lines') (Ok traced))
      (lines'' : Output) (kept : Keeps lines'.text lines''.text) where
    all_there : Appends lines.text lines''.text (step_lines known first last h.0)
    all_there =
        let P : List ℕ → Type 0 = λ t. Appends lines.text lines''.text t in
        subst P (append-nil (step_lines known first last h.0))
        (Appends-Appends lines.text lines'.text lines''.text (step_lines known first last h.0) [] h.3 (appends_kept lines'.text lines''.text kept))

    -- if the lines can't be flushed, they may not have been written whole
    pub flush_failed : (held : ℕ) → Rises lines'.faults lines''.faults
        → TracesApart request known first last stops ranges (run_devices tape console reported) (run_devices tape' console' reported) lines lines'' held
        (Err Lines)
    flush_failed held rises =
        let Q : ℕ → Type 0 = λ n. Rises n lines''.faults in
        let text = step_lines known first last h.0 in (
          request.limit,
          omega arith,
          traced.steps.ending,
          traced.machine,
          h.0,
          with_outputs _ stops tape tape' console console' lines lines' reported reported h.0 traced.steps.ending traced.machine h.1,
          (text, [], sym (append-nil text), all_there),
          subst Q h.4 rises,
          refl,
        )

    module _ (held : ℕ) (none : held ≡ 0) (sound : lines''.faults ≡ lines'.faults) (reported' : Output) where
      handed_on : HandsOn lines lines'' held (step_lines known first last h.0)
      handed_on = (all_there, sound ∙ h.4, none)

      -- if the end of the report is written whole, the run has its ending
      pub all_apart : PutsMessages {A = Unit {0}} reported.text reported'.text reported.faults reported'.faults
          (stop_text stops traced.steps ranges traced.machine) (Ok tt)
          → TracesApart request known first last stops ranges (run_devices tape console reported) (run_devices tape' console' reported') lines lines'' held
          (Ok traced.steps.ending)
      all_apart p =
          let P : List ℕ → Type 0 = λ t. Appends reported.text reported'.text t in (
            traced.machine,
            h.0,
            with_outputs _ stops tape tape' console console' lines lines' reported reported' h.0 traced.steps.ending traced.machine h.1,
            handed_on,
            subst P (end_is stops ranges traced h.0 h.2) p.0,
            p.1,
          )

      -- if only a prefix of it is written, the run ends with the fault
      pub report_apart_failed : (fault : SimFault) → PutsMessages {A = Unit {0}} reported.text reported'.text reported.faults reported'.faults
          (stop_text stops traced.steps ranges traced.machine) (Err fault)
          → TracesApart request known first last stops ranges (run_devices tape console reported) (run_devices tape' console' reported') lines lines'' held
          (Err (Run fault))
      report_apart_failed Write p =
          let P : List ℕ → Type 0 = λ t. AppendsPrefix reported.text reported'.text t in (
            traced.steps.ending,
            traced.machine,
            h.0,
            with_outputs _ stops tape tape' console console' lines lines' reported reported' h.0 traced.steps.ending traced.machine h.1,
            handed_on,
            subst P (end_is stops ranges traced h.0 h.2) p.0,
            p.1,
          )
      report_apart_failed NoMemory p = absurd p
      report_apart_failed (Load fault) p = absurd p
