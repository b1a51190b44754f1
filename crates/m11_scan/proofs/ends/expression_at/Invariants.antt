use Rattle.std.proofs.Common.{◌≡◌, ◌≤◌, ◌-◌, ◌++◌, map}
use Rattle.arrayvec.specs.ArrayVec.{array_vec_len}
use Rattle.m11_scan.specs.Cutting.{tokens_from}
use Rattle.m11_scan.specs.Ends.{column_after, expression_at, expression_end, taken_of}
use Rattle.m11_scan.specs.Views.{lexeme}
use Rattle.m11_scan.proofs.ends.expression_at.Given as goal

abbrev pub invariant-tokens : goal.invariant-tokens
invariant-tokens l = record {
  all : map (lexeme l.line.text) l.tokens.items ++ taken_of l.within (tokens_from l.line.text l.end)
      ≡ expression_at l.line.text l.column;
  end : column_after l.end (taken_of l.within (tokens_from l.line.text l.end)) ≡ expression_end l.line.text l.column;
  room : array_vec_len l.tokens ≤ l.end;
  deep : l.within.depth ≤ l.end;
}

abbrev pub decreases-tokens : goal.decreases-tokens
decreases-tokens l = 256 - l.end
