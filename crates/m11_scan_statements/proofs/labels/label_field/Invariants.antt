use Rattle.std.proofs.Common.{◌≡◌, ◌<◌, ◌≤◌, ◌-◌, [], ◌∷◌}
use Rattle.std.specs.Prelude.{◌||◌, IfSome, MatchOption}
use Rattle.m11_scan.specs.Cutting.{tokens_from}
use Rattle.m11_scan.specs.Views.{lexeme}
use Rattle.m11_scan_statements.specs.Labels.{end_of, labels_at, labels_end, labels_in}
use Rattle.m11_scan_statements.specs.Statements.{has_outside}
use Rattle.m11_scan_statements.proofs.labels.label_field.Given as goal

abbrev pub invariant-labels : goal.invariant-labels
invariant-labels l = record {
  last : end_of l.end (labels_in (tokens_from l.line.text l.end)) ≡ labels_end l.line.text;
  outside : (l.has_outside || has_outside (labels_in (tokens_from l.line.text l.end))) ≡ has_outside (labels_at l.line.text);
  unlabelled : l.end ≡ 0 → labels_in (tokens_from l.line.text l.end) ≡ labels_at l.line.text;
  single : IfSome l.single (λ label. labels_at l.line.text ≡ label ∷ labels_in (tokens_from l.line.text l.end));
  next : MatchOption l.next (tokens_from l.line.text l.end ≡ [])
      (λ token. tokens_from l.line.text l.end ≡ lexeme l.line.text token ∷ tokens_from l.line.text token.end);
  begins : IfSome l.next (λ token. l.end ≤ token.start);
  ordered : IfSome l.next (λ token. token.start < token.end);
}

abbrev pub decreases-labels : goal.decreases-labels
decreases-labels l = 256 - l.end
