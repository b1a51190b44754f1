use Rattle.std.proofs.Common.{◌∙◌, false, slice_index_or}
use Rattle.m11_dump_source.specs.Labels.{is_among, targets}
use Rattle.m11_dump_source.proofs.Marked.{all_marked, more_marked, start_marked}
use Rattle.m11_dump_source.proofs.labels.marks_of.Goals as goal

pub lines-init : goal.lines-init
lines-init c = record {
  long = c.mark.ensures.long;
  marks = λ at. start_marked (slice_index_or c.in_ok-marks.marks.items at false) (slice_index_or c.mark.new.marks.items at false)
      c.args.start at c.args.lines.now (c.in_ok-marks.ensures.none at) (c.mark.ensures.marks at);
}

pub lines-preserved : goal.lines-preserved
lines-preserved c = record {
  long = c.mark-in-lines.ensures.long;
  marks = λ at. more_marked (slice_index_or c.lines.marks.items at false) (slice_index_or c.mark-in-lines.new.marks.items at false)
      (is_among (targets c.args.start c.args.lines.now) at) c.args.lines.now c.lines.line-index _ at c.deref.result.now
      c.lines-test.true (c.deref.ensures.0 ∙ c.addresses_in.ensures) (c.mark-in-lines.ensures.marks at) (c.lines.invariant.marks at);
}

pub returns-clause-marks : goal.returns-clause-marks
returns-clause-marks c = λ at. all_marked (slice_index_or c.lines.marks.items at false) (is_among (targets c.args.start c.args.lines.now) at)
    c.args.lines.now c.lines.line-index at c.lines-test.false (c.lines.invariant.marks at)
