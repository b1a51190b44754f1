use Rattle.std.proofs.Common.{◌∙◌, ℕ, List, subst}
use Rattle.std.specs.Io.KnownBytes.{Appends}
use Rattle.m11_obj_blocks.specs.Limited.{position}
use Rattle.m11_base_writes.specs.States.{output_of}
use Rattle.m11_dumper.proofs.Shown.{head_fails}
use Rattle.m11_dumper.proofs.showing.show_dump.Goals as goal

pub returns-in-Ok : goal.returns-in-Ok
returns-in-Ok g c =
    let middle = output_of g.O.Sink c.put_or_fail.new.sink in
    let P : List ℕ → Type 0 = λ bytes. Appends (g.O.Sink.text c.args.out.now) (g.O.Sink.text c.put_or_fail.new.sink) bytes in
    let whole = subst P (c.deref.ensures.value ∙ c.in_ok-head.ensures) c.in_ok-put_or_fail.ensures.0 in (
      middle,
      position (g.I.Feed.text c.dump.new.input) (g.I.Feed.faults c.dump.new.input) c.in-Ok.ensures.0,
      (whole, c.in_ok-put_or_fail.ensures.1),
      c.in-Ok.ensures.1,
    )

pub returns-in_err-put_or_fail : goal.returns-in_err-put_or_fail
returns-in_err-put_or_fail g c =
    head_fails c.args.view c.args.symbols.now c.args.kind (g.I.Feed.text c.args.input.now) (g.I.Feed.faults c.args.input.now) c.args.path.now
    c.deref.result.now (output_of g.O.Sink c.args.out.now) (output_of g.O.Sink c.put_or_fail.new.sink)
    c.from_residual-in_err-put_or_fail.result c.in_err-put_or_fail.field-0.0 c.from_residual-in_err-put_or_fail.ensures.1
    c.in_err-put_or_fail.ensures.0 (c.deref.ensures.value ∙ c.in_ok-head.ensures)
    (c.in_err-put_or_fail.ensures.1, c.in_err-put_or_fail.ensures.2)
