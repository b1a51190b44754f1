-- The labels and the body of a line are in order.
use Rattle.std.proofs.Common.{ℕ, ◌<◌, ◌≤◌, Bool, true, false, List, [], ◌∷◌, length, Option, Some, None, arith, eqb}
use Rattle.std.specs.Prelude.{if◌then◌else◌, option_map, unwrap_or}
use Rattle.m11_scan.specs.declared.sort.Sort.{Sort}
use Rattle.m11_scan.specs.declared.sort.Sort.TheVariants.{Name, Equals, TwoEquals}
use Rattle.m11_scan.specs.Cutting.{Lexeme, tokens_from, tokens_of}
use Rattle.m11_scan.specs.Cuts.{AreOrdered}
use Rattle.m11_scan.proofs.OrderedTokens.{tokens_from-ordered, tokens_of-ordered}
use Rattle.m11_scan.specs.Skipped.{skipped_between}
use Rattle.m11_scan_statements.specs.declared.bodies.Body.{Body}
use Rattle.m11_scan_statements.specs.declared.bodies.Body.TheVariants.{Operate, Words}
use Rattle.m11_scan_statements.specs.declared.labels.Label.{Label}
use Rattle.m11_scan_statements.specs.declared.labels.LabelKind.{LabelKind}
use Rattle.m11_scan_statements.specs.Bodies.{body_in, operation, set_by}
use Rattle.m11_scan_statements.specs.Labels.{end_of, is_counter, kind_of, labels_at, labels_end, labels_in}
use Rattle.m11_scan_statements.specs.Listed.{is_name}
use Rattle.m11_scan_statements.specs.Order.{BodyLies, LabelsLie}
use Rattle.m11_scan_statements.specs.Statements.{body_of}

-- if tokens at or after a column are in order, the column is within the line
within : (size column : ℕ) (tokens : List Lexeme) → AreOrdered size column tokens → column ≤ size
within size column [] o = o
within size column (token ∷ tokens) o =
    let rest = within size token.end tokens o.2 in
    let first = o.0 in
    let longer = o.1 in
    omega arith

-- a label of this kind, if there is one; and labels that begin with this one, or none without it
abbrev labelled : Lexeme → ℕ → Option LabelKind → Option Label
labelled name end found =
    option_map (λ kind. record { kind = kind; name = record { start = name.start; end = name.end }; end = end }) found

abbrev before_labels : Option Label → List Label → List Label
before_labels found labels = elim found [ None ↦ [] | Some label ↦ label ∷ labels ]

labelled_stand : (size column : ℕ) (name colon : Lexeme) (labels : List Label) (kind : Option LabelKind)
    → column ≤ name.start → name.start < name.end → name.end < colon.end → colon.end ≤ size
    → LabelsLie size colon.end labels → LabelsLie size column (before_labels (labelled name colon.end kind) labels)
labelled_stand size column name colon labels None a b c d rest = omega arith
labelled_stand size column name colon labels (Some kind) a b c d rest = (a, b, c, rest)

label_stands : (size column : ℕ) (name colon : Lexeme) (labels : List Label) (is_next : Bool)
    → column ≤ name.start → name.start < name.end → name.end < colon.end → colon.end ≤ size
    → LabelsLie size colon.end labels
    → LabelsLie size column (before_labels
    (if is_next then labelled name colon.end (kind_of name.sort colon.sort name.text) else None) labels)
label_stands size column name colon labels true a b c d rest =
    labelled_stand size column name colon labels (kind_of name.sort colon.sort name.text) a b c d rest
label_stands size column name colon labels false a b c d rest = omega arith

labels_lie : (size column : ℕ) (tokens : List Lexeme) → AreOrdered size column tokens → LabelsLie size column (labels_in tokens)
labels_lie size column [] o = o
labels_lie size column (name ∷ []) o = within size column (name ∷ []) o
labels_lie size column (name ∷ (colon ∷ tokens)) o =
    let later = within size colon.end tokens o.2.2 in
    let next = o.2.0 in
    let longer = o.2.1 in
    label_stands size column name colon (labels_in tokens) (eqb name.end colon.start) o.0 o.1 (omega arith) later
    (labels_lie size colon.end tokens o.2.2)

end_within : (size column : ℕ) (labels : List Label) → LabelsLie size column labels → end_of column labels ≤ size
end_within size column [] o = o
end_within size column (label ∷ labels) o = end_within size label.end labels o.3

pub labels_at-stand : (line : List ℕ) → LabelsLie (length line) 0 (labels_at line)
labels_at-stand line = labels_lie (length line) 0 (tokens_of line) (tokens_of-ordered line)

module _ (size column : ℕ) (first : Lexeme) (early : column ≤ first.start) (longer : first.start < first.end)
    (inside : first.end ≤ size) where
  operation_stands : (is_operator : Bool) → BodyLies column size
      (if is_operator then Operate (record { start = first.start; end = first.end }) else Words first.start)
  operation_stands true = (early, longer, inside)
  operation_stands false = (early, omega arith)

  module _ (equals : Lexeme) (next : first.end ≤ equals.start) (long : equals.start < equals.end) (ends : equals.end ≤ size)
      (other : Body) (stands : BodyLies column size other) where
    either_stands : (is_dot : Bool) (one two : Option Body) → BodyLies column size (unwrap_or one other)
        → BodyLies column size (unwrap_or two other) → BodyLies column size (unwrap_or (if is_dot then one else two) other)
    either_stands true one two h k = h
    either_stands false one two h k = k

    set_stands : (sort sign : Sort) → BodyLies column size (unwrap_or (set_by sort sign first equals.end) other)
    set_stands Name Equals =
        either_stands (is_counter first.text) _ _ (omega arith, ends) (early, longer, omega arith, ends)
    set_stands Name TwoEquals = either_stands (is_counter first.text) _ _ stands (early, longer, omega arith, ends)
    set_stands _ _ = stands

    assigned_stands : (is_apart : Bool)
        → BodyLies column size (unwrap_or (if is_apart then None else set_by first.sort equals.sort first equals.end) other)
    assigned_stands true = stands
    assigned_stands false = set_stands first.sort equals.sort

body_stands : (size column : ℕ) (line : List ℕ) (tokens : List Lexeme) → AreOrdered size column tokens
    → BodyLies column size (body_in line tokens)
body_stands size column line [] o = o
body_stands size column line (first ∷ []) o = operation_stands size column first o.0 o.1 o.2 (is_name first)
body_stands size column line (first ∷ (equals ∷ tokens)) o =
    let ends = within size equals.end tokens o.2.2 in
    let next = o.2.0 in
    let long = o.2.1 in
    let inside : first.end ≤ size = omega arith in
    assigned_stands size column first o.0 o.1 inside equals next long ends
    (operation first) (operation_stands size column first o.0 o.1 inside (is_name first))
    (skipped_between line first.end equals.start)

pub body_of-stands : (line : List ℕ) → BodyLies (labels_end line) (length line) (body_of line)
body_of-stands line =
    body_stands (length line) (labels_end line) line (tokens_from line (labels_end line))
    (tokens_from-ordered line (labels_end line) (end_within (length line) 0 (labels_at line) (labels_at-stand line)))

pub ruleset orders = (labels_at-stand, body_of-stands)
