use Rattle.std.proofs.Common.{ℕ, ◌+◌, ◌∙◌, List, [], map, refl, sym, ap₂, arith}
use Rattle.std.proofs.lemmas.Result.{err_from_is_err_and}
use Rattle.m11_cpu_machine.specs.Dialogue.{output_of}
use Rattle.m11_cpu_machine.specs.declared.stop.Turn.TheVariants.{Next, Stopped}
use Rattle.m11_trace.specs.Known.{known_of}
use Rattle.m11_trace.specs.Watches.{watch_of}
use Rattle.m11_trace.specs.declared.stops.CountedAddress.{CountedAddress}
use Rattle.m11_trace.specs.declared.watches.Watch.{Watch}
use Rattle.m11_trace.proofs.Copies.{keeps_up, line_is}
use Rattle.m11_trace.proofs.Going.{at_change, at_limit, at_place, at_stop, kept_by, made, none_made, none_shown, not_put, one_made, one_shown}
use Rattle.m11_trace.proofs.Waiting.{counts_on, none_counted, stops_at}
use Rattle.m11_trace.proofs.Watching.{change_is, none_changed, watches_on}
use Rattle.m11_trace.proofs.steps.steps_with_lines.Goals as goal

pub steps-init : goal.steps-init
steps-init g c =
    let looked : List ℕ → List CountedAddress → List Watch = λ memory watched. map (watch_of memory) watched in (
      [],
      none_made _ _ _ _,
      none_shown _ _ _ _ _ c.requires.none,
      tt,
      λ some le. absurd (omega (arith, some)),
      c.requires.waiting ∙ none_counted _,
      c.look.ensures ∙ ap₂ looked c.memory.ensures c.as_slice.ensures.value ∙ none_changed _ _,
      refl,
    )

pub returns-then-is_due : goal.returns-then-is_due
returns-then-is_due g c =
    let taken = c.steps.invariant.0 in
    let going = c.steps.invariant.1 in
    let shown = c.steps.invariant.2 in (
      taken,
      at_place _ _ _ _ _ _ _ taken going c.steps.invariant.3 c.steps-test.true (stops_at taken c.args.stops.now c.steps.waiting c.steps.invariant.5 c.counter_of-address.result c.steps.machine _ _ c.counter_of-address.ensures c.is_due.ensures c.if-is_due.true),
      going.long,
      shown.kept,
      shown.text,
      shown.faults,
    )

pub returns-in_err-put_line_from : goal.returns-in_err-put_line_from
returns-in_err-put_line_from g c =
    let r = c.from_residual in
    let p = err_from_is_err_and r.result r.ensures.1 in
    let line = line_is (known_of c.args.known) _ _ _ _ _ _ c.steps.machine c.record_step-turn.new.machine c.memory-in-steps.ensures c.memory-in-steps-2.ensures c.record_step-turn.ensures.shot (λ le. c.ready.ensures.same le (keeps_up c.args.first c.steps.count c.steps.before _ _ (sym c.memory-in-steps.ensures) c.steps.invariant.4)) in
    rw (p.1, p.2)
    (not_put _ _ _ _ _ _ _ _ _ _ _ _ c.steps.invariant.0 _ c.steps.recent.items _
    (output_of (g.M.Sink.text c.steps.messages) (g.M.Sink.faults c.steps.messages)) _ _ _ _
    c.steps.invariant.1 c.steps.invariant.3 c.steps.invariant.2 c.steps-test.true (stops_at c.steps.invariant.0 c.args.stops.now c.steps.waiting c.steps.invariant.5 c.counter_of-address.result c.steps.machine _ _ c.counter_of-address.ensures c.is_due.ensures c.if-is_due.false) c.record_step-turn.ensures.does
    line c.in_err-put_line_from.ensures.puts)

pub returns-in-Stopped : goal.returns-in-Stopped
returns-in-Stopped g c =
    let taken = c.steps.invariant.0 in
    let line = line_is (known_of c.args.known) _ _ _ _ _ _ c.steps.machine c.record_step-turn.new.machine c.memory-in-steps.ensures c.memory-in-steps-2.ensures c.record_step-turn.ensures.shot (λ le. c.ready.ensures.same le (keeps_up c.args.first c.steps.count c.steps.before _ _ (sym c.memory-in-steps.ensures) c.steps.invariant.4)) in
    let put = c.in_ok-put_line_from.ensures.puts in
    let going =
    one_made _ _ _ _ _ _ _ taken c.steps.invariant.1 c.steps.invariant.3 _ _ _ c.steps-test.true (stops_at taken c.args.stops.now c.steps.waiting c.steps.invariant.5 c.counter_of-address.result c.steps.machine _ _ c.counter_of-address.ensures c.is_due.ensures c.if-is_due.false)
    (rw c.in-Stopped.is at c.record_step-turn.ensures.does) in
    let shown =
    one_shown _ _ _ _ _ _ (output_of (g.M.Sink.text c.steps.messages) (g.M.Sink.faults c.steps.messages)) c.steps.invariant.2 c.steps.machine
    c.record_step-turn.new.machine (Stopped c.in-Stopped.stop) _ _ _ _
    (output_of (g.M.Sink.text c.put_line_from.new.messages) (g.M.Sink.faults c.put_line_from.new.messages))
    c.steps.invariant.1.long c.record_step-turn.ensures.shot (kept_by _ _ _ _ c.steps.invariant.7 c.keep.ensures.items) line put.0 put.1 in (
      _,
      at_stop _ _ _ _ _ _ _ _ _ going,
      going.long,
      shown.kept,
      shown.text,
      shown.faults,
    )

pub returns-in-Some : goal.returns-in-Some
returns-in-Some g c =
    let taken = c.steps.invariant.0 in
    let line = line_is (known_of c.args.known) _ _ _ _ _ _ c.steps.machine c.record_step-turn.new.machine c.memory-in-steps.ensures c.memory-in-steps-2.ensures c.record_step-turn.ensures.shot (λ le. c.ready.ensures.same le (keeps_up c.args.first c.steps.count c.steps.before _ _ (sym c.memory-in-steps.ensures) c.steps.invariant.4)) in
    let put = c.in_ok-put_line_from.ensures.puts in
    let going =
    one_made _ _ _ _ _ _ _ taken c.steps.invariant.1 c.steps.invariant.3 _ _ _ c.steps-test.true (stops_at taken c.args.stops.now c.steps.waiting c.steps.invariant.5 c.counter_of-address.result c.steps.machine _ _ c.counter_of-address.ensures c.is_due.ensures c.if-is_due.false)
    (rw c.in-Next.is at c.record_step-turn.ensures.does) in
    let shown =
    one_shown _ _ _ _ _ _ (output_of (g.M.Sink.text c.steps.messages) (g.M.Sink.faults c.steps.messages)) c.steps.invariant.2 c.steps.machine
    c.record_step-turn.new.machine Next _ _ _ _
    (output_of (g.M.Sink.text c.put_line_from.new.messages) (g.M.Sink.faults c.put_line_from.new.messages))
    c.steps.invariant.1.long c.record_step-turn.ensures.shot (kept_by _ _ _ _ c.steps.invariant.7 c.keep.ensures.items) line put.0 put.1 in (
      _,
      at_change _ _ _ _ _ _ _ _ taken going _ (change_is taken c.args.stops.now c.steps.machine c.record_step-turn.new.machine c.steps.watches _ c.steps.invariant.6 c.memory-in-Next.ensures _ (sym c.in-Some.is ∙ c.stopping_address.ensures)),
      going.long,
      shown.kept,
      shown.text,
      shown.faults,
    )

pub steps-preserved : goal.steps-preserved
steps-preserved g c =
    let taken = c.steps.invariant.0 in
    let line = line_is (known_of c.args.known) _ _ _ _ _ _ c.steps.machine c.record_step-turn.new.machine c.memory-in-steps.ensures c.memory-in-steps-2.ensures c.record_step-turn.ensures.shot (λ le. c.ready.ensures.same le (keeps_up c.args.first c.steps.count c.steps.before _ _ (sym c.memory-in-steps.ensures) c.steps.invariant.4)) in
    let put = c.in_ok-put_line_from.ensures.puts in (
      _,
      one_made _ _ _ _ _ _ _ taken c.steps.invariant.1 c.steps.invariant.3 _ _ _ c.steps-test.true (stops_at taken c.args.stops.now c.steps.waiting c.steps.invariant.5 c.counter_of-address.result c.steps.machine _ _ c.counter_of-address.ensures c.is_due.ensures c.if-is_due.false)
          (rw c.in-Next.is at c.record_step-turn.ensures.does),
      one_shown _ _ _ _ _ _ (output_of (g.M.Sink.text c.steps.messages) (g.M.Sink.faults c.steps.messages)) c.steps.invariant.2 _ _ _ _ _ _ _
          (output_of (g.M.Sink.text c.put_line_from.new.messages) (g.M.Sink.faults c.put_line_from.new.messages))
          c.steps.invariant.1.long c.record_step-turn.ensures.shot (kept_by _ _ _ _ c.steps.invariant.7 c.keep.ensures.items) line put.0 put.1,
      (
        change_is taken c.args.stops.now c.steps.machine c.record_step-turn.new.machine c.steps.watches _ c.steps.invariant.6 c.memory-in-Next.ensures _ (sym c.in_default.is ∙ c.stopping_address.ensures),
        c.steps.invariant.3,
      ),
      keeps_up c.args.first (c.steps.count + 1) c.put_line_from.new.before _ _ c.memory-in-steps-2.ensures c.in_ok-put_line_from.ensures.same,
      counts_on taken c.args.stops.now c.steps.waiting c.steps.invariant.5 c.counter_of-address.result
          (made c.steps.machine Next c.record_step-turn.new.machine) _ c.counter_of-address.ensures c.count_down.ensures,
      watches_on taken c.args.stops.now c.steps.machine c.record_step-turn.new.machine c.steps.watches _ c.steps.invariant.6 c.memory-in-Next-2.ensures _ c.count_changes.ensures,
      c.keep.ensures.capacity ∙ c.steps.invariant.7,
    )

pub returns : goal.returns
returns g c =
    let taken = c.steps.invariant.0 in
    let going = c.steps.invariant.1 in
    let shown = c.steps.invariant.2 in (
      taken,
      at_limit _ _ _ _ _ _ _ taken going c.steps.invariant.3 c.steps-test.false,
      going.long,
      shown.kept,
      shown.text,
      shown.faults,
    )
