use Rattle.std.proofs.Common.{◌∙◌, ◌∷◌, sym, ap}
use Rattle.std.proofs.lemmas.Bool.{ne_eqb}
use Rattle.std.proofs.lemmas.List.{take_rest}
use Rattle.m11_scan.proofs.Runs.{none_of, takes_all, takes_line_feed, takes_byte}
use Rattle.m11_scan.proofs.open_line.OpenLine.take.Goals as goal

pub returns-in_default : goal.returns-in_default
returns-in_default c =
    takes_all c.args.bytes.now c.runs.rest.now _ c.plain_length-count.result c.args.self.now c.runs.self
    c.push_plain.new.self c.runs.invariant c.plain_length-count.ensures.plain
    (sym (take_rest c.runs.rest.now c.plain_length-count.result)) c.push_plain.ensures
    (none_of _ c.in_default.ensures.cases)

pub returns-then-byte-eq10 : goal.returns-then-byte-eq10
returns-then-byte-eq10 c =
    takes_line_feed c.args.bytes.now c.runs.rest.now _ c.plain_length-count.result c.args.self.now c.runs.self
    c.push_plain.new.self c.runs.invariant c.plain_length-count.ensures.plain
    (sym (take_rest c.runs.rest.now c.plain_length-count.result)) c.push_plain.ensures c.in-Some.more.now
    (c.in-Some.ensures.cases.0 ∙ ap (λ b. b ∷ c.in-Some.more.now) c.if-byte-eq10.true)

pub runs-preserved : goal.runs-preserved
runs-preserved c =
    takes_byte c.args.bytes.now c.runs.rest.now _ c.plain_length-count.result c.args.self.now c.runs.self
    c.push_plain.new.self c.runs.invariant c.plain_length-count.ensures.plain
    (sym (take_rest c.runs.rest.now c.plain_length-count.result)) c.push_plain.ensures c.in-Some.byte.now
    c.in-Some.more.now c.push.new.self c.in-Some.ensures.cases.0 (ne_eqb _ _ c.if-byte-eq10.false) c.push.ensures
