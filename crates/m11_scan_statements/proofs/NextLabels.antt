-- Reading one label after another.
use Rattle.std.proofs.Common.{◌≡◌, List, [], ◌∷◌, ◌++◌, sym, ap, ◌∙◌}
use Rattle.std.proofs.lemmas.List.{append_assoc}
use Rattle.m11_scan_statements.specs.declared.labels.Label.{Label}

-- if the next label is added to those read so far, these and the remaining ones are still all labels of the line
pub label_joins : (labels left rest whole more : List Label) (label : Label) → labels ++ left ≡ whole → left ≡ label ∷ rest
    → more ≡ labels ++ label ∷ [] → more ++ rest ≡ whole
label_joins labels left rest whole more label before next pushed =
    ap (λ ls. ls ++ rest) pushed ∙ append_assoc labels (label ∷ []) rest ∙ sym (ap (λ ls. labels ++ ls) next) ∙ before
