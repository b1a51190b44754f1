-- The lines of an expansion become live, and it ends.
use Rattle.std.proofs.Common.{◌≡◌, ◌∙◌, ℕ, zero, suc, ◌+◌, ◌≤◌, Bool, false, List, [], ◌∷◌, ◌++◌, length, map, Option, Some, None, refl, sym, ap}
use Rattle.std.specs.Prelude.{◌||◌, is_some, option_and_then, replicate}
use Rattle.std.specs.List.{flat_map, list_any}
use Rattle.std.proofs.lemmas.List.{map-append}
use Rattle.m11_base.specs.Devices.{Bytes}
use Rattle.m11_base.specs.NameCharacters.{six_of}
use Rattle.m11_base.specs.Rad50.{Name, name_of}
use Rattle.m11_scan.specs.Line.{SourceLine, line_of}
use Rattle.m11_scan_expressions.specs.Expressions.{KnownSymbols}
use Rattle.m11_unfold_bodies.specs.Conditions.{no_conditions}
use Rattle.m11_unfold_bodies.specs.Left.{RemainingItem, Line, End, expanded, round}
use Rattle.m11_unfold_bodies.specs.Substitution.{Piece, Run, Other, actual_named, is_replaced, line_with, pieces_of}
use Rattle.m11_unfold_bodies.specs.declared.mark.Mark.{Mark}
use Rattle.m11_unfold_bodies.proofs.Whole.{unchanged}
use Rattle.m11_unfold_rules.specs.Constructs.{lines_of_rounds, round_lines, times}
use Rattle.m11_unfold_rules.specs.Laws.{foreign_live_line}
use Rattle.m11_unfold_rules.specs.Limits.{most_lines}
use Rattle.m11_unfold_rules.specs.Stages.{Macro, Stage, line_left}
use Rattle.m11_unfold_rules.specs.Taking.{ended}
use Rattle.m11_unfold_rules.specs.Unfolding.{UnfoldedLine, Leads}
use Rattle.m11_unfold_rules.specs.Unfolding as steps
use Rattle.m11_unfold_rules.proofs.OtherLines.{ForeignHere, onwards, stage_at}

-- ---- lines without formals

put_nowhere : (piece : Piece) → is_replaced [] [] piece ≡ false
put_nowhere (Run run) = go (name_of (six_of run)) where
  go : (name : Option Name) → is_some (option_and_then (actual_named [] []) name) ≡ false
  go None = refl
  go (Some name) = refl
put_nowhere (Other byte) = refl

none_put : (pieces : List Piece) → list_any (is_replaced [] []) pieces ≡ false
none_put [] = refl
none_put (piece ∷ pieces) = ap (λ (b : Bool). b || list_any (is_replaced [] []) pieces) (put_nowhere piece) ∙ none_put pieces

-- a text of a body without formals becomes the line of this text
plain : (text : Bytes) → line_with [] [] text ≡ line_of text
plain text = ap line_of (unchanged [] [] text (none_put (pieces_of text)))

pub plain_lines : (body : List Bytes) → round_lines [] body [] ≡ map line_of body
plain_lines [] = refl
plain_lines (text ∷ body) =
    ap (λ (l : SourceLine). l ∷ round_lines [] body []) (plain text) ∙ ap (λ (ls : List SourceLine). line_of text ∷ ls) (plain_lines body)

pub plain_rounds : (n : ℕ) (body : List Bytes) → lines_of_rounds [] (replicate n []) body ≡ times n (map line_of body)
plain_rounds zero body = refl
plain_rounds (suc n) body =
    ap (λ (ls : List SourceLine). ls ++ lines_of_rounds [] (replicate n []) body) (plain_lines body)
    ∙ ap (λ (ls : List SourceLine). map line_of body ++ ls) (plain_rounds n body)

-- ---- an expansion as lines and an end

one_round : (formals : List Name) (body : List Bytes) (actuals : List Bytes)
    → round formals body actuals ≡ map line_left (round_lines formals body actuals)
one_round formals [] actuals = refl
one_round formals (text ∷ body) actuals =
    ap (λ (l : List RemainingItem). Line (line_with formals actuals text) ∷ l) (one_round formals body actuals)

all_rounds : (formals : List Name) (rounds : List (List Bytes)) (body : List Bytes)
    → flat_map (round formals body) rounds ≡ map line_left (lines_of_rounds formals rounds body)
all_rounds formals [] body = refl
all_rounds formals (actuals ∷ rounds) body =
    ap (λ (l : List RemainingItem). l ++ flat_map (round formals body) rounds) (one_round formals body actuals)
    ∙ ap (λ (l : List RemainingItem). map line_left (round_lines formals body actuals) ++ l) (all_rounds formals rounds body)
    ∙ sym (map-append line_left (round_lines formals body actuals) (lines_of_rounds formals rounds body))

pub as_lines : (formals : List Name) (rounds : List (List Bytes)) (body : List Bytes) (mark : Mark) (left : List RemainingItem)
    → expanded formals rounds body mark left ≡ map line_left (lines_of_rounds formals rounds body) ++ End mark ∷ left
as_lines formals rounds body mark left = ap (λ (l : List RemainingItem). l ++ End mark ∷ left) (all_rounds formals rounds body)

-- ---- its run

pub expansion_runs : (known : KnownSymbols) (macros : List (Name × Macro)) (bytes created taken : ℕ) (mark : Mark)
    (lines : List SourceLine) (left : List RemainingItem) → ForeignHere no_conditions macros lines → taken + length lines ≤ most_lines
    → Leads (stage_at no_conditions macros bytes created taken (map line_left lines ++ End mark ∷ left))
    (map (foreign_live_line known (End mark ∷ left)) lines)
    (stage_at mark.conditions macros bytes created (taken + length lines) left)
expansion_runs known macros bytes created taken mark lines left foreign most =
    let before : Stage = stage_at no_conditions macros bytes created taken (map line_left lines ++ End mark ∷ left) in
    let last : Stage = stage_at no_conditions macros bytes created (taken + length lines) (End mark ∷ left) in
    let live = onwards before known no_conditions macros bytes created (End mark ∷ left) refl lines taken [] foreign most
    steps.Leads.Stays in
    steps.Leads.Passing (map (foreign_live_line known (End mark ∷ left)) lines) last (ended mark left last) live refl refl
