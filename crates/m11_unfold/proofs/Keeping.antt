-- No move and no operator exceeds a limit without its fault, and each move by which no line becomes live leaves less to do.
use Rattle.std.proofs.Common.{◌≡◌, ◌≤◌, ◌<◌, ◌+◌, ◌-◌, ◌*◌, ℕ, Bool, true, false, List, [], ◌∷◌, length, Option, Some, None, refl, sym, ap, ◌∙◌, arith}
use Rattle.std.specs.Prelude.{◌&&◌, ◌==◌, if◌then◌else◌, nat_le, nat_lt}
use Rattle.std.specs.Option.{is_none}
use Rattle.std.proofs.lemmas.Bool.Decides.{nat_tests}
use Rattle.std.proofs.lemmas.List.Sums.{sum_by-append}
use Rattle.m11_base.specs.Rad50.{Name, is_same_name}
use Rattle.m11_unfold_rules.specs.declared.directives.Directive.{Directive}
use Rattle.m11_unfold_rules.specs.declared.directives.Directive.TheVariants as word
use Rattle.m11_unfold_bodies.specs.Bodies.{size_of}
use Rattle.m11_unfold_bodies.specs.Conditions.{OpenConditions, unnested}
use Rattle.m11_unfold_bodies.specs.Left.{RemainingItem, Line, End, depth, expanded, marks}
use Rattle.m11_unfold_bodies.specs.declared.mark.Mark.{Mark}
use Rattle.m11_unfold_bodies.proofs.Stacks.{marks-rounds}
use Rattle.m11_scan.specs.Line.{SourceLine}
use Rattle.m11_unfold_rules.specs.Limits.{body_fault, bytes_of, closing_fault, most_bytes, most_lines, most_macros, next_fault}
use Rattle.m11_unfold_bodies.specs.Left.{most_expansions}
use Rattle.m11_unfold_rules.specs.Macros.{defined, macro_named}
use Rattle.m11_unfold_rules.specs.Stages.{Macro, Opening, Purpose, Defines, Repeats, Drops, Stage}
use Rattle.m11_unfold_rules.specs.Taking.{Move, NothingLeft, Passes, Gives, into_body, line_move, move, nesting, one_taken, opened, skipped, skipped_by, switch_in, used}
use Rattle.m11_unfold_bodies.specs.Bodies.{depth_after}
use Rattle.m11_unfold_bodies.specs.Conditions.{is_skipping}
use Rattle.m11_unfold_rules.specs.Directives.{directive}
use Rattle.m11_unfold_rules.specs.declared.fault.UnfoldFault.{UnfoldFault}
use Rattle.m11_unfold_rules.proofs.Cases.{bytes_taken, fault_from, live_or_skipped, move_from, taking_fault}
use Rattle.m11_unfold.specs.Kept.{IsKept}

-- twice the number of lines that may still be read, plus the number of ends of expansions that are left
abbrev pub work_left : Stage → ℕ
work_left stage = 2 * (most_lines - stage.taken) + depth stage.left

abbrev pub Keeps : Stage → Move → Type 0
Keeps before NothingLeft = Unit {0}
Keeps before (Passes after) = IsKept after × (work_left after < work_left before)
Keeps before (Gives live after) = IsKept after

-- ---- faults that don't come

abbrev how_many : Option UnfoldFault → ℕ
how_many None = 0
how_many (Some fault) = 1

some_none : (fault : UnfoldFault) → Some fault ≡ None → ⊥
some_none fault is = let no : ◌≡◌ {A = ℕ} 1 0 = ap how_many is in omega (arith, no)

pub not_so : (b : Bool) (fault : UnfoldFault) (rest : Option UnfoldFault) → (if b then Some fault else rest) ≡ None
    → (b ≡ false) × (rest ≡ None)
not_so true fault rest is = absurd (some_none fault is)
not_so false fault rest is = (refl, is)

pub under : (most n : ℕ) → nat_le most n ≡ false → n < most
under most n is = grind (arith, nat_tests, is)

within : (most n : ℕ) → nat_lt most n ≡ false → n ≤ most
within most n is = grind (arith, nat_tests, is)

-- ---- skipped lines

abbrev Little : OpenConditions → Option OpenConditions → Type 0
Little before None = Unit {0}
Little before (Some after) = (length after.entered ≡ length before.entered) × (after.nested ≤ before.nested + 1)

little_if : (b : Bool) (before : OpenConditions) (one other : Option OpenConditions) → Little before one → Little before other
    → Little before (if b then one else other)
little_if true before one other first second = first
little_if false before one other first second = second

same : (before : OpenConditions) → Little before (Some before)
same before = (refl, omega arith)

little_switch : (before : OpenConditions) → Little before (switch_in before)
little_switch before =
    little_if before.is_past before (Some before) (if before.nested == 0 then None else Some before) (same before)
    (little_if (before.nested == 0) before None (Some before) tt (same before))

little_by : (before : OpenConditions) (word : Option Directive) → Little before (skipped_by before word)
little_by before (Some word.If) = (refl, omega arith)
little_by before (Some word.Endc) =
    little_if (before.nested == 0) before None (Some (unnested before)) tt (refl, omega arith)
little_by before (Some word.Iff) = little_switch before
little_by before (Some word.Ift) = little_switch before
little_by before (Some word.Iftf) = little_switch before
little_by before (Some word.Iif) = same before
little_by before (Some word.Macro) = same before
little_by before (Some word.Endm) = same before
little_by before (Some word.Rept) = same before
little_by before (Some word.Endr) = same before
little_by before (Some word.Irp) = same before
little_by before (Some word.Irpc) = same before
little_by before (Some word.Mexit) = same before
little_by before (Some word.Narg) = same before
little_by before (Some word.Nchr) = same before
little_by before (Some word.End) = same before
little_by before None = same before

little_skipped : (before : OpenConditions) (text : List ℕ) → Little before (skipped before text)
little_skipped before text =
    little_if (is_skipping before) before (skipped_by before (directive text)) None (little_by before (directive text)) tt

-- ---- a line that is skipped or becomes live

module _ (stage : Stage) (line : SourceLine) (left : List RemainingItem) (kept : IsKept (record stage { left = Line line ∷ left }))
    (room : stage.taken < most_lines) where
  kept_live : (skipped : Option OpenConditions) → Little stage.conditions skipped
      → Keeps (record stage { left = Line line ∷ left })
      (live_or_skipped skipped line (one_taken left (record stage { left = Line line ∷ left })))
  kept_live None little = record {
    lines = omega (arith, room);
    macros = kept.macros;
    bytes = kept.bytes;
    expansions = kept.expansions;
    conditions = kept.conditions;
    nested = let nested = kept.nested in omega (arith, nested);
  }
  kept_live (Some conditions) little =
      let entered = little.0 in
      let deeper = little.1 in
      let conditions = kept.conditions in
      let nested = kept.nested in (
        record {
          lines = omega (arith, room);
          macros = kept.macros;
          bytes = kept.bytes;
          expansions = kept.expansions;
          conditions = omega (arith, entered, conditions);
          nested = omega (arith, deeper, nested);
        },
        omega (arith, room),
      )

-- ---- expansions

pub opened_kept : (arguments : Option ℕ) (bytes : ℕ) (formals : List Name) (rounds : List (List (List ℕ))) (body : List (List ℕ))
    (stage : Stage) → IsKept stage → depth stage.left < most_expansions → bytes_of stage + bytes ≤ most_bytes
    → IsKept (opened arguments bytes formals rounds body stage)
opened_kept arguments bytes formals rounds body stage kept room few =
    let mark : Mark = record { arguments = arguments; bytes = bytes; conditions = stage.conditions } in
    let ends : marks (expanded formals rounds body mark stage.left) ≡ mark ∷ marks stage.left =
    marks-rounds formals body rounds (End mark ∷ stage.left) in
    let conditions = kept.conditions in
    let nested = kept.nested in
    record {
      lines = kept.lines;
      macros = kept.macros;
      bytes = rw ends omega (arith, few);
      expansions = rw ends omega (arith, room);
      conditions = rw ends omega (arith, conditions);
      nested = rw ends omega (arith, nested);
    }

opened_depth : (arguments : Option ℕ) (bytes : ℕ) (formals : List Name) (rounds : List (List (List ℕ))) (body : List (List ℕ))
    (stage : Stage) → depth (opened arguments bytes formals rounds body stage).left ≡ depth stage.left + 1
opened_depth arguments bytes formals rounds body stage =
    let mark : Mark = record { arguments = arguments; bytes = bytes; conditions = stage.conditions } in
    let ends : marks (expanded formals rounds body mark stage.left) ≡ mark ∷ marks stage.left =
    marks-rounds formals body rounds (End mark ∷ stage.left) in
    rw ends omega arith

-- ---- definitions

grown_if : (b : Bool) (e : Name × Macro) (es more : List (Name × Macro)) (macro : Macro) (found : Option Macro)
    → length more ≡ length es + (if is_none found then 1 else 0)
    → length (if b then (e.0, macro) ∷ es else e ∷ more)
    ≡ length (e ∷ es) + (if is_none (if b then Some e.1 else found) then 1 else 0)
grown_if true e es more macro found is = omega arith
grown_if false e es more macro found is = omega (arith, is)

grown : (macros : List (Name × Macro)) (name : Name) (macro : Macro)
    → length (defined macros name macro) ≡ length macros + (if is_none (macro_named macros name) then 1 else 0)
grown [] name macro = refl
grown (e ∷ es) name macro =
    grown_if (is_same_name name e.0) e es (defined es name macro) macro (macro_named es name) (grown es name macro)

few_macros : (b : Bool) (held after : ℕ) → after ≡ held + (if b then 1 else 0) → held ≤ most_macros
    → (b && nat_le most_macros held) ≡ false → after ≤ most_macros
few_macros true held after is few fits = let room = under most_macros held fits in omega (arith, is, room)
few_macros false held after is few fits = omega (arith, is, few)

-- ---- bodies

module _ (stage : Stage) (body : List (List ℕ)) (kept : IsKept stage)
    (few : bytes_of stage + size_of body ≤ most_bytes) where
  used_kept : (purpose : Purpose) → closing_fault purpose stage ≡ None
      → IsKept (used purpose body stage) × ((depth (used purpose body stage).left ≤ depth stage.left + 1)
      × ((used purpose body stage).taken ≡ stage.taken))
  used_kept Drops fits = (kept, (omega arith, refl))
  used_kept (Repeats formals rounds) fits =
      let so = not_so (nat_le most_expansions (depth stage.left)) _ None fits in
      let room = under most_expansions (depth stage.left) so.0 in
      let deeper = opened_depth None (size_of body) formals rounds body stage in
      (opened_kept None (size_of body) formals rounds body stage kept room few, (omega (arith, deeper), refl))
  used_kept (Defines name formals) fits =
      let so = not_so (is_none (macro_named stage.macros name) && nat_le most_macros (length stage.macros)) _ None fits in
      let macro : Macro = record { formals = formals; body = body } in (
        record {
          lines = kept.lines;
          macros = few_macros (is_none (macro_named stage.macros name)) (length stage.macros)
              (length (defined stage.macros name macro)) (grown stage.macros name macro) kept.macros so.0;
          bytes = omega (arith, few);
          expansions = kept.expansions;
          conditions = kept.conditions;
          nested = kept.nested;
        },
        (omega arith, refl),
      )

-- ---- moves

module _ (stage : Stage) (line : SourceLine) (left : List RemainingItem) (kept : IsKept (record stage { left = Line line ∷ left }))
    (room : stage.taken < most_lines) where
  closing_alike : (purpose : Purpose) → closing_fault purpose (record stage { left = Line line ∷ left })
      ≡ closing_fault purpose (record stage { left = left; taken = stage.taken + 1; opening = None })
  closing_alike Drops = refl
  closing_alike (Defines name formals) = refl
  closing_alike (Repeats formals rounds) = refl

  kept_body : (opening : Opening) → stage.opening ≡ Some opening → (depth : Option ℕ)
      → body_fault opening.purpose (record stage { left = Line line ∷ left }) line.text depth ≡ None
      → Keeps (record stage { left = Line line ∷ left })
      (Passes (into_body opening.purpose opening.taken line.text depth (one_taken left (record stage { left = Line line ∷ left }))))
  kept_body opening is (Some inside) fits =
      let so = not_so (nat_lt most_bytes (bytes_of (record stage { left = Line line ∷ left }) + (length line.text + 1))) _ None fits in
      let most = within most_bytes (bytes_of (record stage { left = Line line ∷ left }) + (length line.text + 1)) so.0 in
      let held = ap bytes_taken is in
      let sums = sum_by-append (λ (text : List ℕ). length text + 1) opening.taken.body (line.text ∷ []) in
      let nested = kept.nested in (
        record {
          lines = omega (arith, room);
          macros = kept.macros;
          bytes = omega (arith, most, sums, held);
          expansions = kept.expansions;
          conditions = kept.conditions;
          nested = omega (arith, nested);
        },
        omega (arith, room),
      )
  kept_body opening is None fits =
      let bytes = kept.bytes in
      let held = ap bytes_taken is in
      let nested = kept.nested in
      let closed : Stage = record stage { left = left; taken = stage.taken + 1; opening = None } in
      let begun : IsKept closed = record {
        lines = omega (arith, room);
        macros = kept.macros;
        bytes = omega (arith, bytes);
        expansions = kept.expansions;
        conditions = kept.conditions;
        nested = omega (arith, nested);
      } in
      let after = used_kept closed opening.taken.body begun (omega (arith, bytes, held)) opening.purpose
      (sym (closing_alike opening.purpose) ∙ fits) in
      let deep = after.1.0 in
      let taken = after.1.1 in
      (after.0, omega (arith, room, deep, taken))

  kept_line : (opening : Option Opening) → stage.opening ≡ opening
      → taking_fault opening (record stage { left = Line line ∷ left }) line.text ≡ None
      → Keeps (record stage { left = Line line ∷ left })
      (line_move opening line (one_taken left (record stage { left = Line line ∷ left })))
  kept_line None is fits = kept_live stage line left kept room (skipped stage.conditions line.text)
      (little_skipped stage.conditions line.text)
  kept_line (Some opening) is fits =
      kept_body opening is (depth_after (nesting line.text) opening.taken.depth) fits

kept_from : (left : List RemainingItem) (stage : Stage) → IsKept (record stage { left = left })
    → fault_from left (record stage { left = left }) ≡ None
    → Keeps (record stage { left = left }) (move_from left (record stage { left = left }))
kept_from [] stage kept fits = tt
kept_from (End mark ∷ left) stage kept fits =
    let bytes = kept.bytes in
    let deep = kept.expansions in
    let conditions = kept.conditions in
    let nested = kept.nested in (
      record {
        lines = kept.lines;
        macros = kept.macros;
        bytes = omega (arith, bytes);
        expansions = omega (arith, deep);
        conditions = omega (arith, conditions);
        nested = omega (arith, nested);
      },
      omega arith,
    )
kept_from (Line line ∷ left) stage kept fits =
    let so = not_so (nat_le most_lines stage.taken) _ _ fits in
    kept_line stage line left kept (under most_lines stage.taken so.0) stage.opening refl so.1

kept_by : (b : Bool) (stage : Stage) → IsKept stage → (if b then None else fault_from stage.left stage) ≡ None
    → Keeps stage (if b then NothingLeft else move_from stage.left stage)
kept_by true stage kept fits = tt
kept_by false stage kept fits = kept_from stage.left stage kept fits

-- a next move without a fault keeps all limits, and leaves less to do unless a line becomes live
pub kept_next : (stage : Stage) → IsKept stage → next_fault stage ≡ None → Keeps stage (move stage)
kept_next stage kept fits = kept_by stage.has_ended stage kept fits
