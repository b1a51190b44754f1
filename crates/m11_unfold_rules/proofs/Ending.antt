-- After a live `.END` nothing more is read.
use Rattle.std.proofs.Common.{◌≡◌, ℕ, true, List, [], refl, ap, subst, sym, ◌∙◌}
use Rattle.std.specs.Prelude.{Bool, if◌then◌else◌}
use Rattle.m11_scan.specs.Line.{SourceLine}
use Rattle.m11_scan_expressions.specs.Expressions.{KnownSymbols}
use Rattle.m11_unfold_rules.specs.declared.directives.Directive.TheVariants as word
use Rattle.m11_unfold_rules.specs.Acting.{Operation, act, acted_by}
use Rattle.m11_unfold_rules.specs.Laws.{IsDirective}
use Rattle.m11_unfold_rules.specs.Stages.{Stage}
use Rattle.m11_unfold_rules.specs.Taking.{Gives, Passes, NothingLeft, move}
use Rattle.m11_unfold_rules.specs.Unfolding.{UnfoldedLine, Leads}
use Rattle.m11_unfold_rules.specs.Unfolding as steps
use Rattle.m11_unfold_rules.proofs.Cases.{move_from}

-- after a live `.END` no move is left
pub rests_after : (stage : Stage) → stage.has_ended ≡ true → move stage ≡ NothingLeft
rests_after stage ended = ap (λ (b : Bool). if b then NothingLeft else move_from stage.left stage) ended

-- so an unfolding from a stage after a live `.END` has no lines, and stays at this stage
pub stays_after : (before after : Stage) (done : List UnfoldedLine) → before.has_ended ≡ true → Leads before done after
    → (done ≡ []) × (after ≡ before)
stays_after before _ _ ended steps.Leads.Stays = (refl, refl)
stays_after before _ _ ended (steps.Leads.Passing done stage after steps' fault moves) =
    let earlier = stays_after before stage done ended steps' in
    let P : Stage → Type 0 = λ s. move s ≡ Passes after in
    let here : move before ≡ Passes after = subst P earlier.1 moves in
    let rests : move before ≡ NothingLeft = rests_after before ended in
    let bad : NothingLeft ≡ Passes after = sym rests ∙ here in
    absurd (cc bad)
stays_after before _ _ ended (steps.Leads.Giving done stage after live known steps' fault moves acts) =
    let earlier = stays_after before stage done ended steps' in
    let P : Stage → Type 0 = λ s. move s ≡ Gives live after in
    let here : move before ≡ Gives live after = subst P earlier.1 moves in
    let rests : move before ≡ NothingLeft = rests_after before ended in
    let bad : NothingLeft ≡ Gives live after = sym rests ∙ here in
    absurd (cc bad)

ends : (known : KnownSymbols) (stage : Stage) (line : SourceLine) (column : ℕ) → IsDirective stage line word.End column
    → (act known stage line.text).after.has_ended ≡ true
ends known stage line column is =
    ap (λ (o : Operation). (acted_by known line.text stage o).after.has_ended) is

pub rests : (known : KnownSymbols) (stage : Stage) (line : SourceLine) (column : ℕ) → IsDirective stage line word.End column
    → move (act known stage line.text).after ≡ NothingLeft
rests known stage line column is = rests_after (act known stage line.text).after (ends known stage line column is)

pub stays : (known : KnownSymbols) (stage after : Stage) (line : SourceLine) (column : ℕ) (done : List UnfoldedLine)
    → IsDirective stage line word.End column → Leads (act known stage line.text).after done after
    → (done ≡ []) × (after ≡ (act known stage line.text).after)
stays known stage after line column done is =
    stays_after (act known stage line.text).after after done (ends known stage line column is)
