-- A call of a macro without formals gives the lines of its body.
use Rattle.std.proofs.Common.{◌≡◌, ◌∙◌, ℕ, ◌+◌, ◌<◌, ◌≤◌, Bool, false, List, [], ◌∷◌, ◌++◌, length, map, append-nil, Some, None, ap, subst, arith}
use Rattle.std.specs.Prelude.{nat_le}
use Rattle.std.proofs.lemmas.Bool.Decides.{nat_tests}
use Rattle.std.proofs.lemmas.List.{length-map}
use Rattle.m11_base.specs.Devices.{Bytes}
use Rattle.m11_scan.specs.Line.{SourceLine, line_of}
use Rattle.m11_unfold_rules.specs.Actuals.{actuals_from}
use Rattle.m11_scan_expressions.specs.Expressions.{KnownSymbols}
use Rattle.m11_scan_expressions.specs.Remarks.{Remarks}
use Rattle.m11_unfold_bodies.specs.Conditions.{no_conditions}
use Rattle.m11_unfold_bodies.specs.Left.{RemainingItem, Line, End, depth, expanded, most_expansions}
use Rattle.m11_unfold_bodies.specs.declared.mark.Mark.{Mark}
use Rattle.m11_unfold_rules.specs.Acting.{Acted, act, act_fault, acted_by, own}
use Rattle.m11_unfold_rules.specs.Constructs.{IsCall, after_call, before_call, expanded_live_line, round_lines}
use Rattle.m11_unfold_rules.specs.Laws.{AreForeign, IsLive, foreign_live_line, own_live_line}
use Rattle.m11_unfold_rules.specs.Limits.{fault_if, most_lines}
use Rattle.m11_unfold_rules.specs.Stages.{Stage, line_left}
use Rattle.m11_unfold_rules.specs.Unfolding.{Leads}
use Rattle.m11_unfold_rules.specs.declared.fault.UnfoldFault.TheVariants.{TooDeep}
use Rattle.m11_unfold_rules.proofs.Cases.{fault_by}
use Rattle.m11_unfold_rules.proofs.Constructs.{one_line}
use Rattle.m11_unfold_rules.proofs.Expanding.{as_lines, expansion_runs, plain_lines}
use Rattle.m11_unfold_rules.proofs.Following.{follows}
use Rattle.m11_unfold_rules.proofs.Operators.{foreign_alike}
use Rattle.m11_unfold_rules.proofs.OtherLines.{ForeignHere, looked_up, stage_at}

-- the expansion of a body without formals is the lines of the body, and then the end of the expansion
one_expansion : (body : List Bytes) (mark : Mark) (left : List RemainingItem)
    → expanded [] ([] ∷ []) body mark left ≡ map line_left (map line_of body) ++ End mark ∷ left
one_expansion body mark left = as_lines [] ([] ∷ []) body mark left
    ∙ ap (λ (ls : List SourceLine). map line_left ls ++ End mark ∷ left) (append-nil (round_lines [] body []) ∙ plain_lines body)

pub called : (known : KnownSymbols) (stage : Stage) (line : SourceLine) (body : List Bytes) (column : ℕ) (left : List RemainingItem) → IsLive stage
    → IsCall stage line body column → AreForeign stage (map line_of body) → depth left < most_expansions
    → stage.taken + 1 + length body ≤ most_lines
    → Leads (before_call stage line left) (own_live_line known left line (actuals_from known line.text 0 column).remarks
    ∷ map (expanded_live_line known (Some 0)) (map line_of body)) (after_call stage body left)
called known stage line body column left live is foreign shallow most =
    let remarks : Remarks = (actuals_from known line.text 0 column).remarks in
    let lines : List SourceLine = map line_of body in
    let mark : Mark = record { arguments = Some 0; bytes = 0; conditions = stage.conditions } in
    let before : Stage = stage_at stage.conditions stage.macros stage.defined_bytes stage.created stage.taken (Line line ∷ left) in
    let here : Stage = stage_at stage.conditions stage.macros stage.defined_bytes stage.created (stage.taken + 1) left in
    let inside : List RemainingItem → Stage = λ l. stage_at no_conditions stage.macros stage.defined_bytes stage.created (stage.taken + 1) l in
    let done : Acted = own remarks (inside (map line_left lines ++ End mark ∷ left)) in
    let deep : nat_le most_expansions (depth left) ≡ false = grind (arith, nat_tests) in
    let acts : act known here line.text ≡ done = ap (acted_by known line.text here) is
    ∙ ap (λ (l : List RemainingItem). own remarks (inside l)) (one_expansion body mark left) in
    let faults : act_fault here line.text ≡ None = ap (fault_by here) is ∙ ap (λ (b : Bool). fault_if b TooDeep) deep in
    let first = one_line known stage.conditions stage.macros stage.defined_bytes stage.created stage.taken line left done live.taking
    (omega (arith, most)) acts faults in
    let same : ForeignHere no_conditions stage.macros lines
    = foreign_alike stage.macros stage.conditions no_conditions lines live.taking (looked_up stage lines foreign) in
    let long = length-map body line_of in
    let most' : stage.taken + 1 + length lines ≤ most_lines = omega (arith, long, most) in
    let runs = expansion_runs known stage.macros stage.defined_bytes stage.created (stage.taken + 1) mark lines left same most' in
    let last : ℕ → Stage = λ n. stage_at stage.conditions stage.macros stage.defined_bytes stage.created n left in
    let whole = follows before done.after (last (stage.taken + 1 + length lines)) (own_live_line known left line remarks ∷ [])
    (map (foreign_live_line known (End mark ∷ left)) lines) first runs in
    let P : ℕ → Type 0 = λ n. Leads before (own_live_line known left line remarks ∷ map (expanded_live_line known (Some 0)) lines)
    (last (stage.taken + 1 + n)) in
    let stood : Leads before (own_live_line known left line remarks ∷ map (expanded_live_line known (Some 0)) lines)
    (last (stage.taken + 1 + length body)) = subst P long whole in
    rw (live.no_body, live.going_on) stood
