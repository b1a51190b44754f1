-- How many lines are read: each line that becomes live is one more, and its operator reads none.
use Rattle.std.proofs.Common.{◌≡◌, ◌≤◌, ℕ, ◌+◌, Bool, true, false, if◌then◌else◌, List, [], ◌∷◌, Option, Some, None, refl, subst, arith}
use Rattle.m11_scan.specs.Line.{SourceLine}
use Rattle.m11_scan_expressions.specs.Expressions.{KnownSymbols}
use Rattle.m11_unfold_rules.specs.declared.directives.Directive.{Directive}
use Rattle.m11_unfold_rules.specs.declared.directives.Directive.TheVariants as word
use Rattle.m11_base.specs.Devices.{Bytes}
use Rattle.m11_unfold_bodies.specs.Bodies.{PartialBody, depth_after}
use Rattle.m11_unfold_bodies.specs.Conditions.{OpenConditions, has_none}
use Rattle.m11_unfold_bodies.specs.Left.{RemainingItem, Line, End, is_expanding}
use Rattle.m11_unfold.specs.Unfolder.{Comes}
use Rattle.m11_unfold_rules.specs.Immediate as immediate
use Rattle.m11_unfold_rules.specs.Acting.{Acted, Operation, Calls, OwnDirective, Foreign, act, acted_by, operation}
use Rattle.m11_unfold_rules.specs.Limits.{has_room}
use Rattle.m11_unfold_rules.specs.Stages.{Opening, Purpose, Defines, Repeats, Drops, Stage}
use Rattle.m11_unfold_rules.specs.Taking.{Live, Move, NothingLeft, Passes, Gives, into_body, line_move, move, nesting, one_taken, skipped}
use Rattle.m11_unfold_rules.specs.Unfolding.{UnfoldedLine, Leads}
use Rattle.m11_unfold_rules.specs.Unfolding as steps
use Rattle.m11_unfold_rules.proofs.Cases.{live_or_skipped, move_from, with_statement}

-- ---- a move

abbrev Takes : ℕ → Move → Type 0
Takes taken NothingLeft = Unit {0}
Takes taken (Passes after) = taken ≤ after.taken
Takes taken (Gives live after) = taken + 1 ≤ after.taken

pub used_takes : (purpose : Purpose) (taken : PartialBody) (text : Bytes) (depth : Option ℕ) (stage : Stage)
    → (into_body purpose taken text depth stage).taken ≡ stage.taken
used_takes (Defines name formals) taken text None stage = refl
used_takes (Repeats formals rounds) taken text None stage = refl
used_takes Drops taken text None stage = refl
used_takes purpose taken text (Some depth) stage = refl

skipped_takes : (skipped : Option OpenConditions) (line : SourceLine) (left : List RemainingItem) (stage : Stage)
    → Takes stage.taken (live_or_skipped skipped line (one_taken left stage))
skipped_takes (Some conditions) line left stage = omega arith
skipped_takes None line left stage = omega arith

line_takes : (opening : Option Opening) (line : SourceLine) (left : List RemainingItem) (stage : Stage)
    → Takes stage.taken (line_move opening line (one_taken left stage))
line_takes (Some opening) line left stage =
    let same = used_takes opening.purpose opening.taken line.text (depth_after (nesting line.text) opening.taken.depth)
    (one_taken left stage) in
    omega (arith, same)
line_takes None line left stage = skipped_takes (skipped stage.conditions line.text) line left stage

left_takes : (left : List RemainingItem) (stage : Stage) → Takes stage.taken (move_from left stage)
left_takes [] stage = tt
left_takes (End mark ∷ left) stage = omega arith
left_takes (Line line ∷ left) stage = line_takes stage.opening line left stage

move_takes : (has_ended : Bool) (left : List RemainingItem) (stage : Stage)
    → Takes stage.taken (if has_ended then NothingLeft else move_from left stage)
move_takes true left stage = tt
move_takes false left stage = left_takes left stage

pub passing_takes : (stage after : Stage) → move stage ≡ Passes after → stage.taken ≤ after.taken
passing_takes stage after moves =
    subst (Takes stage.taken) moves (move_takes stage.has_ended stage.left stage)

pub giving_takes : (stage after : Stage) (live : Live) → move stage ≡ Gives live after → stage.taken + 1 ≤ after.taken
giving_takes stage after live moves =
    subst (Takes stage.taken) moves (move_takes stage.has_ended stage.left stage)

-- ---- an operator

statement_takes : (text : Bytes) (holds : Bool) (location : Option ℕ) (stage : Stage)
    → (with_statement text holds location stage).taken ≡ stage.taken
statement_takes text true (Some location) stage = refl
statement_takes text true None stage = refl
statement_takes text false location stage = refl

choice_takes : (choice : Bool) (one other : Acted) (taken : ℕ) → one.after.taken ≡ taken → other.after.taken ≡ taken
    → (if choice then one else other).after.taken ≡ taken
choice_takes true one other taken first second = first
choice_takes false one other taken first second = second

directive_takes : (known : KnownSymbols) (text : Bytes) (location : ℕ) (stage : Stage) (of : Directive)
    → (acted_by known text stage (OwnDirective of location)).after.taken ≡ stage.taken
directive_takes known text location stage word.If = choice_takes (has_room stage) _ _ stage.taken refl refl
directive_takes known text location stage word.Iff = choice_takes (has_none stage.conditions) _ _ stage.taken refl refl
directive_takes known text location stage word.Ift = choice_takes (has_none stage.conditions) _ _ stage.taken refl refl
directive_takes known text location stage word.Iftf = choice_takes (has_none stage.conditions) _ _ stage.taken refl refl
directive_takes known text location stage word.Endc = choice_takes (has_none stage.conditions) _ _ stage.taken refl refl
directive_takes known text location stage word.Iif =
    statement_takes text (immediate.immediate known text location).holds (immediate.immediate known text location).statement stage
directive_takes known text location stage word.Macro = refl
directive_takes known text location stage word.Endm = refl
directive_takes known text location stage word.Rept = refl
directive_takes known text location stage word.Endr = refl
directive_takes known text location stage word.Irp = refl
directive_takes known text location stage word.Irpc = refl
directive_takes known text location stage word.Mexit = choice_takes (is_expanding stage.left) _ _ stage.taken refl refl
directive_takes known text location stage word.Narg = refl
directive_takes known text location stage word.Nchr = refl
directive_takes known text location stage word.End = refl

operation_takes : (known : KnownSymbols) (text : Bytes) (stage : Stage) (of : Operation)
    → (acted_by known text stage of).after.taken ≡ stage.taken
operation_takes known text stage Foreign = refl
operation_takes known text stage (Calls macro location) = refl
operation_takes known text stage (OwnDirective of location) = directive_takes known text location stage of

pub act_takes : (known : KnownSymbols) (stage : Stage) (text : Bytes) → (act known stage text).after.taken ≡ stage.taken
act_takes known stage text = operation_takes known text stage (operation stage.conditions stage.macros text)

-- ---- one stage leads to another

pub leads_takes : (before after : Stage) (done : List UnfoldedLine) → Leads before done after → before.taken ≤ after.taken
leads_takes before _ _ steps.Leads.Stays = omega arith
leads_takes before after done (steps.Leads.Passing _ stage _ leads fits moves) =
    let first = leads_takes before stage done leads in
    let next = passing_takes stage after moves in
    omega (arith, first, next)
leads_takes before _ _ (steps.Leads.Giving done stage after live known leads fits moves acts) =
    let first = leads_takes before stage done leads in
    let next = giving_takes stage after live moves in
    let same = act_takes known after live.line.text in
    omega (arith, first, next, same)

pub comes_takes : (before after : Stage) (live : Live) → Comes before live after → before.taken + 1 ≤ after.taken
comes_takes before after live comes =
    let first = leads_takes before comes.middle [] comes.passing in
    let next = giving_takes comes.middle after live comes.gives in
    omega (arith, first, next)
