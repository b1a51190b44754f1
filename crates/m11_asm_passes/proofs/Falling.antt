-- Each move leaves less to do: it reads a line, of which there are at most 200,000, or ends an expansion; and a line opens at most one
-- expansion.
use Rattle.std.proofs.Common.{◌≡◌, ◌≤◌, ◌<◌, ℕ, ◌+◌, ◌-◌, ◌*◌, Bool, true, false, List, [], ◌∷◌, length, map, Option, Some, None, refl, ap, subst, arith}
use Rattle.std.specs.Prelude.{if◌then◌else◌, nat_le}
use Rattle.std.proofs.lemmas.Bool.Decides.{nat_tests}
use Rattle.m11_unfold_rules.specs.declared.macros.MacroFormal.{MacroFormal}
use Rattle.m11_unfold_rules.specs.Actuals.{actuals_from}
use Rattle.m11_scan_expressions.specs.Expressions.{KnownSymbols}
use Rattle.m11_unfold_rules.specs.Filling.{filled}
use Rattle.m11_unfold_rules.specs.Immediate as immediate
use Rattle.m11_unfold_rules.specs.declared.directives.Directive.{Directive}
use Rattle.m11_unfold_rules.specs.declared.directives.Directive.TheVariants as word
use Rattle.m11_base.specs.Devices.{Bytes}
use Rattle.m11_base.specs.Rad50.{Name}
use Rattle.m11_unfold_bodies.proofs.Stacks.{marks-rounds}
use Rattle.m11_unfold_bodies.specs.Bodies.{PartialBody, depth_after, size_of}
use Rattle.m11_unfold_bodies.specs.Conditions.{OpenConditions, has_none}
use Rattle.m11_unfold_bodies.specs.Left.{RemainingItem, Line, End, after_mark, depth, expanded, is_expanding, marks}
use Rattle.m11_unfold_bodies.specs.declared.mark.Mark.{Mark}
use Rattle.m11_scan.specs.Line.{SourceLine}
use Rattle.m11_asm_passes.proofs.Counting.{act_takes, used_takes}
use Rattle.m11_unfold_rules.specs.Acting.{Acted, Operation, Calls, OwnDirective, Foreign, act, acted_by, operation}
use Rattle.m11_unfold_rules.specs.Limits.{has_room, most_lines, next_fault}
use Rattle.m11_unfold_rules.specs.Stages.{Opening, Purpose, Defines, Repeats, Drops, Stage}
use Rattle.m11_unfold_rules.specs.Taking.{Live, Move, NothingLeft, Passes, Gives, into_body, line_move, move, nesting, one_taken, opened, skipped}
use Rattle.m11_unfold_rules.proofs.Cases.{fault_from, live_or_skipped, move_from, taking_fault, with_statement}
use Rattle.m11_asm_passes.proofs.LinesCounted as counting

-- twice the lines that may still be read, and the ends of expansions that are left
abbrev pub work_left : Stage → ℕ
work_left stage = 2 * (most_lines - stage.taken) + depth stage.left

-- ---- how many ends are left

opened_depth : (arguments : Option ℕ) (bytes : ℕ) (formals : List Name) (rounds : List (List Bytes)) (body : List Bytes) (stage : Stage)
    → depth (opened arguments bytes formals rounds body stage).left ≤ depth stage.left + 1
opened_depth arguments bytes formals rounds body stage =
    let mark : Mark = record { arguments = arguments; bytes = bytes; conditions = stage.conditions } in
    let ends : marks (expanded formals rounds body mark stage.left) ≡ mark ∷ marks stage.left
    = marks-rounds formals body rounds (End mark ∷ stage.left) in
    rw ends omega arith

into_depth : (purpose : Purpose) (taken : PartialBody) (text : Bytes) (nested : Option ℕ) (stage : Stage)
    → depth (into_body purpose taken text nested stage).left ≤ depth stage.left + 1
into_depth (Defines name formals) taken text None stage = omega arith
into_depth (Repeats formals rounds) taken text None stage =
    opened_depth None (size_of taken.body) formals rounds taken.body (record stage { opening = None })
into_depth Drops taken text None stage = omega arith
into_depth purpose taken text (Some nested) stage = omega arith

statement_depth : (text : Bytes) (holds : Bool) (column : Option ℕ) (stage : Stage)
    → depth (with_statement text holds column stage).left ≤ depth stage.left + 1
statement_depth text true (Some column) stage = omega arith
statement_depth text true None stage = omega arith
statement_depth text false column stage = omega arith

same_ends : (left : List RemainingItem) → marks (after_mark left) ≡ marks left
same_ends [] = refl
same_ends (Line line ∷ left) = same_ends left
same_ends (End mark ∷ left) = refl

choice_depth : (choice : Bool) (one other : Acted) (most : ℕ) → depth one.after.left ≤ most → depth other.after.left ≤ most
    → depth (if choice then one else other).after.left ≤ most
choice_depth true one other most first second = first
choice_depth false one other most first second = second

directive_depth : (known : KnownSymbols) (text : Bytes) (column : ℕ) (stage : Stage) (of : Directive)
    → depth (acted_by known text stage (OwnDirective of column)).after.left ≤ depth stage.left + 1
directive_depth known text column stage word.If = choice_depth (has_room stage) _ _ (depth stage.left + 1) (omega arith) (omega arith)
directive_depth known text column stage word.Iff =
    choice_depth (has_none stage.conditions) _ _ (depth stage.left + 1) (omega arith) (omega arith)
directive_depth known text column stage word.Ift =
    choice_depth (has_none stage.conditions) _ _ (depth stage.left + 1) (omega arith) (omega arith)
directive_depth known text column stage word.Iftf =
    choice_depth (has_none stage.conditions) _ _ (depth stage.left + 1) (omega arith) (omega arith)
directive_depth known text column stage word.Endc =
    choice_depth (has_none stage.conditions) _ _ (depth stage.left + 1) (omega arith) (omega arith)
directive_depth known text column stage word.Iif =
    statement_depth text (immediate.immediate known text column).holds (immediate.immediate known text column).statement stage
directive_depth known text column stage word.Macro = omega arith
directive_depth known text column stage word.Endm = omega arith
directive_depth known text column stage word.Rept = omega arith
directive_depth known text column stage word.Endr = omega arith
directive_depth known text column stage word.Irp = omega arith
directive_depth known text column stage word.Irpc = omega arith
directive_depth known text column stage word.Mexit =
    choice_depth (is_expanding stage.left) _ _ (depth stage.left + 1) (rw same_ends omega arith) (omega arith)
directive_depth known text column stage word.Narg = omega arith
directive_depth known text column stage word.Nchr = omega arith
directive_depth known text column stage word.End = omega arith

operation_depth : (known : KnownSymbols) (text : Bytes) (stage : Stage) (of : Operation)
    → depth (acted_by known text stage of).after.left ≤ depth stage.left + 1
operation_depth known text stage Foreign = omega arith
operation_depth known text stage (Calls macro column) =
    let given = actuals_from known text (length macro.formals) column in
    let filling = filled macro.formals given.texts stage.created in
    opened_depth (Some (length given.texts)) 0 (map (λ (formal : MacroFormal). formal.name) macro.formals) (filling.texts ∷ []) macro.body
    (record stage { created = filling.created })
operation_depth known text stage (OwnDirective of column) = directive_depth known text column stage of

-- an operator adds at most one to the work left
pub acts_falling : (known : KnownSymbols) (stage : Stage) (text : Bytes) → work_left (act known stage text).after ≤ work_left stage + 1
acts_falling known stage text =
    let deeper = operation_depth known text stage (operation stage.conditions stage.macros text) in
    let same = act_takes known stage text in
    let work : ℕ → ℕ = λ taken. 2 * (most_lines - taken) in
    let all : work (act known stage text).after.taken ≡ work stage.taken = ap work same in
    omega (arith, deeper, all)

-- ---- what is left after a move

-- less work is left after a move than before it, and at least two less if a line becomes live
abbrev Falls : ℕ → Move → Type 0
Falls work NothingLeft = Unit {0}
Falls work (Passes after) = work_left after < work
Falls work (Gives live after) = work_left after + 1 < work

live_falls : (skipped : Option OpenConditions) (line : SourceLine) (left : List RemainingItem) (stage : Stage) → stage.taken < most_lines
    → Falls (2 * (most_lines - stage.taken) + depth left) (live_or_skipped skipped line (one_taken left stage))
live_falls (Some conditions) line left stage room = omega (arith, room)
live_falls None line left stage room = omega (arith, room)

line_falls : (opening : Option Opening) (line : SourceLine) (left : List RemainingItem) (stage : Stage) → stage.taken < most_lines
    → Falls (2 * (most_lines - stage.taken) + depth left) (line_move opening line (one_taken left stage))
line_falls (Some opening) line left stage room =
    let nested = depth_after (nesting line.text) opening.taken.depth in
    let same = used_takes opening.purpose opening.taken line.text nested (one_taken left stage) in
    let deeper = into_depth opening.purpose opening.taken line.text nested (one_taken left stage) in
    omega (arith, same, deeper, room)
line_falls None line left stage room = live_falls (skipped stage.conditions line.text) line left stage room

left_falls : (left : List RemainingItem) (stage : Stage) → fault_from left stage ≡ None
    → Falls (2 * (most_lines - stage.taken) + depth left) (move_from left stage)
left_falls [] stage fits = tt
left_falls (End mark ∷ left) stage fits = omega arith
left_falls (Line line ∷ left) stage fits =
    let full : nat_le most_lines stage.taken ≡ false
    = counting.has_room (nat_le most_lines stage.taken) (taking_fault stage.opening stage line.text) fits in
    let room : stage.taken < most_lines = grind (arith, nat_tests, full) in
    line_falls stage.opening line left stage room

move_falls : (has_ended : Bool) (stage : Stage) → (if has_ended then None else fault_from stage.left stage) ≡ None
    → Falls (work_left stage) (if has_ended then NothingLeft else move_from stage.left stage)
move_falls true stage fits = tt
move_falls false stage fits = left_falls stage.left stage fits

pub passing_falls : (stage after : Stage) → next_fault stage ≡ None → move stage ≡ Passes after → work_left after < work_left stage
passing_falls stage after fits moves = subst (Falls (work_left stage)) moves (move_falls stage.has_ended stage fits)

pub giving_falls : (stage after : Stage) (live : Live) → next_fault stage ≡ None → move stage ≡ Gives live after
    → work_left after + 1 < work_left stage
giving_falls stage after live fits moves = subst (Falls (work_left stage)) moves (move_falls stage.has_ended stage fits)

-- ---- nothing is read if nothing is left or `.END` is live

live_takes : (skipped : Option OpenConditions) (line : SourceLine) (stage : Stage) → live_or_skipped skipped line stage ≡ NothingLeft → ⊥
live_takes (Some conditions) line stage rests = cc
live_takes None line stage rests = cc

line_takes : (opening : Option Opening) (line : SourceLine) (stage : Stage) → line_move opening line stage ≡ NothingLeft → ⊥
line_takes (Some opening) line stage rests = cc
line_takes None line stage rests = live_takes (skipped stage.conditions line.text) line stage rests

none_from : (left : List RemainingItem) (stage : Stage) → move_from left stage ≡ NothingLeft → left ≡ []
none_from [] stage rests = refl
none_from (End mark ∷ left) stage rests = absurd (cc)
none_from (Line line ∷ left) stage rests = absurd (line_takes stage.opening line (one_taken left stage) rests)

none_by : (has_ended : Bool) (stage : Stage) → has_ended ≡ false → (if has_ended then NothingLeft else move_from stage.left stage) ≡ NothingLeft
    → stage.left ≡ []
none_by true stage goes rests = absurd (cc)
none_by false stage goes rests = none_from stage.left stage rests

pub none_left : (stage : Stage) → stage.has_ended ≡ false → move stage ≡ NothingLeft → stage.left ≡ []
none_left stage goes rests = none_by stage.has_ended stage goes rests
