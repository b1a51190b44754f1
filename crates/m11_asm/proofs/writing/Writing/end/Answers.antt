use Rattle.std.proofs.Common.{[], ◌∷◌, ◌++◌, List, ap}
use Rattle.m11_asm_outputs.proofs.Fitting.{on_ok}
use Rattle.m11_asm_outputs.specs.Object.{AllFit, last_records, object_contents}
use Rattle.m11_obj.specs.Records.{EndOfModule}
use Rattle.m11_asm_outputs.specs.Outputs.{assembly}
use Rattle.m11_base_writes.specs.Outputs.{Write}
use Rattle.m11_base_writes.proofs.Writing.{stopped_first, writes_then}
use Rattle.m11_asm.specs.Written.{EndOfSource, added_writes, closing_writes, flagged_count, head_before, last_location, pieces_in}
use Rattle.m11_asm_outputs.proofs.Looping.{writes_as}
use Rattle.m11_asm.proofs.Putting.{closes_so, gains_as, last_open, object_fits, stops_as}
use Rattle.m11_asm.proofs.writing.Writing.end.Goals as goal

pub returns-in_err-begin-clause-writes : goal.returns-in_err-begin-clause-writes
returns-in_err-begin-clause-writes g c = λ program lines stands location few.
    stopped_first assembly _ _ (head_before program lines) _ _ _
    (c.in_err-begin.ensures.writes program lines _ _ stands) c.from_residual.ensures.1

pub returns-in_err-add_line-clause-writes : goal.returns-in_err-add_line-clause-writes
returns-in_err-add_line-clause-writes g c = λ program lines stands location few.
    let ended : EndOfSource = record { read = c.args.read; has_end = c.args.has_ended } in
    let added : List Write = added_writes ended (last_location program lines) in
    let closing : List Write = closing_writes (pieces_in program.map lines) program.symbols program.sections
    (flagged_count program lines c.args.has_ended) in
    writes_then assembly _ _ _ (head_before program lines) (added ++ closing) _
    (c.in_ok-begin.ensures.writes program lines _ _ stands)
    (stopped_first assembly _ _ added closing _ _
    (stops_as _ _ _ _ _ (ap (added_writes ended) location) (c.in_err-add_line.ensures.writes _))
    c.from_residual-in_err-add_line.ensures.1)

pub returns-clause-writes : goal.returns-clause-writes
returns-clause-writes g c = λ program lines stands location few.
    let ended : EndOfSource = record { read = c.args.read; has_end = c.args.has_ended } in
    let added : List Write = added_writes ended (last_location program lines) in
    let closing : List Write = closing_writes (pieces_in program.map lines) program.symbols program.sections
    (flagged_count program lines c.args.has_ended) in
    writes_then assembly _ _ _ (head_before program lines) (added ++ closing) _
    (c.in_ok-begin.ensures.writes program lines _ _ stands)
    (writes_then assembly _ _ _ added closing _
    (gains_as _ _ _ _ (ap (added_writes ended) location) (c.in_ok-add_line.ensures.writes _))
    (writes_as _ _ _ _ _
    (closes_so program lines c.args.self.now c.begin.new.self c.add_line.new.self stands c.args.has_ended c.in_ok-begin.ensures.begins
    c.in_ok-add_line.ensures.counts few)
    (c.close.ensures.writes (pieces_in program.map lines)
    (last_open program lines c.args.self.now c.begin.new.self c.add_line.new.self stands c.args.has_ended c.in_ok-begin.ensures.begins
    c.in_ok-add_line.ensures.counts))))

pub returns-clause-fit : goal.returns-clause-fit
returns-clause-fit g c = λ program lines stands.
    let pieces = pieces_in program.map lines in
    on_ok _ (AllFit (last_records pieces ++ EndOfModule ∷ [])) (AllFit (object_contents program.rows pieces))
    (object_fits program lines c.args.self.now stands (c.in_ok-begin.ensures.fit program lines stands))
    (c.close.ensures.fit pieces
    (last_open program lines c.args.self.now c.begin.new.self c.add_line.new.self stands c.args.has_ended c.in_ok-begin.ensures.begins
    c.in_ok-add_line.ensures.counts))
