use Rattle.std.proofs.Common.{ℕ, List, ◌-◌, length, take, drop, subst, Err}
use Rattle.std.proofs.lemmas.Result.{err_from_is_err_and}
use Rattle.m11_cpu.specs.Messages.{PutsMessages}
use Rattle.m11_trace.specs.Ranges.{ranges_text}
use Rattle.m11_trace.proofs.Parts.{first_first}
use Rattle.m11_trace.proofs.Reports.{puts_part, puts_then}
use Rattle.m11_trace.proofs.ranges.+put_ranges.Goals as goal

pub returns-in_err-put_range-in-len1-up : goal.returns-in_err-put_range-in-len1-up
returns-in_err-put_range-in-len1-up g t c =
    let r = c.from_residual in
    let p = err_from_is_err_and r.result r.ensures.1 in
    let P : List ℕ → Type 0 = λ text. PutsMessages {A = Unit {0}} (g.M.Sink.text c.args.messages.now) (g.M.Sink.text c.put_range.new.messages)
    (g.M.Sink.faults c.args.messages.now) (g.M.Sink.faults c.put_range.new.messages) text (Err c.in_err-put_range-in-len1-up.field-0.0) in
    rw (p.1, p.2)
    (subst P (first_first c.args.memory.now c.args.ranges.now (record { first = 0; last = 0 }) c.in-len1-up.len_at_least)
    (puts_part _ _ _ _ _ (ranges_text c.args.memory.now (take (length c.args.ranges.now - 1) (drop 1 c.args.ranges.now)))
    _ c.in_err-put_range-in-len1-up.ensures))

pub returns-in_ok-put_range-in-len1-up : goal.returns-in_ok-put_range-in-len1-up
returns-in_ok-put_range-in-len1-up g t c =
    let P : List ℕ → Type 0 = λ text. PutsMessages (g.M.Sink.text c.args.messages.now) (g.M.Sink.text c.put_ranges.new.messages)
    (g.M.Sink.faults c.args.messages.now) (g.M.Sink.faults c.put_ranges.new.messages) text c.put_ranges.result in
    subst P (first_first c.args.memory.now c.args.ranges.now (record { first = 0; last = 0 }) c.in-len1-up.len_at_least)
    (puts_then _ _ _ _ _ _ _ _ _ c.put_ranges.result c.in_ok-put_range-in-len1-up.ensures c.put_ranges.ensures)
