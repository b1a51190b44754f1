use Rattle.std.proofs.Common.{arith}
use Rattle.m11_trace.proofs.Copies.{same_words}
use Rattle.m11_trace.proofs.changes.copy_words.Goals as goal

pub returns-clause-same : goal.returns-clause-same
returns-clause-same c = same_words _ _ (λ k lt. c.words.invariant k (omega arith))
