use Rattle.std.proofs.Common.{arith}
use Rattle.m11_scan_statements.proofs.NextLabels.{label_joins}
use Rattle.m11_scan_statements.proofs.labels.labels_of.Goals as goal

pub labels-preserved : goal.labels-preserved
labels-preserved c =
    let after = c.in-Some.ensures.after in
    record {
      all =
          label_joins c.labels.list.items _ _ _ c.push.new.self.items c.in-Some.label c.labels.invariant.all
          c.in-Some.ensures.label
          c.push.ensures.items;
      room = omega arith;
    }
