-- The body of a repeat is read, and its rounds take its place.
use Rattle.std.proofs.Common.{◌≡◌, ◌∙◌, ℕ, suc, ◌+◌, ◌<◌, ◌≤◌, Bool, true, false, List, [], ◌∷◌, ◌++◌, length, map, append_assoc, append-nil, Option, Some, None, sym, ap, subst, arith}
use Rattle.std.specs.Prelude.{if◌then◌else◌, nat_le, nat_lt, replicate}
use Rattle.std.proofs.lemmas.Bool.Decides.{nat_tests}
use Rattle.std.proofs.lemmas.List.Sums.{sum_by-append}
use Rattle.m11_base.specs.Devices.{Bytes}
use Rattle.m11_base.specs.Rad50.{Name}
use Rattle.m11_scan.specs.Line.{SourceLine, line_of}
use Rattle.m11_scan_expressions.specs.Expressions.{KnownSymbols}
use Rattle.m11_unfold_rules.specs.Indefinite.{Repeated, Repetition, irpc, irp}
use Rattle.m11_scan_expressions.specs.Remarks.{Remarks}
use Rattle.m11_unfold_rules.specs.Repeats as repeats
use Rattle.m11_unfold_rules.specs.declared.directives.Directive.TheVariants as word
use Rattle.m11_unfold_bodies.specs.Bodies.{depth_after, size_of, texts_of}
use Rattle.m11_unfold_bodies.specs.Conditions.{OpenConditions, no_conditions}
use Rattle.m11_unfold_bodies.specs.Left.{RemainingItem, Line, End, argument_count, bytes_held, bytes_in, count_in, depth, expanded, has_mark, most_expansions}
use Rattle.m11_unfold_bodies.specs.declared.mark.Mark.{Mark}
use Rattle.m11_unfold_bodies.specs.declared.open_body.Nesting.{Nesting}
use Rattle.m11_unfold_bodies.specs.declared.open_body.Nesting.TheVariants.{Closes, Neither}
use Rattle.m11_unfold_rules.specs.Acting.{Acted, act, act_fault, acted_by, acted_repeated, opens, own, repeating}
use Rattle.m11_unfold_rules.specs.Constructs.{Block, HasRoom, IsPlainBody, after_block, before_block, expanded_live_line, lines_of_rounds, repeated_lines, times}
use Rattle.m11_unfold_rules.specs.Laws.{AreForeign, IsDirective, IsLive, foreign_live_line, own_live_line}
use Rattle.m11_unfold_rules.specs.Limits.{body_fault, fault_if, most_bytes, most_lines, next_fault}
use Rattle.m11_unfold_rules.specs.Stages.{Macro, Purpose, Repeats, Stage, line_left}
use Rattle.m11_unfold_rules.specs.Taking.{Passes, into_body, move, nesting, one_taken}
use Rattle.m11_unfold_rules.specs.Unfolding.{UnfoldedLine, Leads}
use Rattle.m11_unfold_rules.specs.Unfolding as steps
use Rattle.m11_unfold_rules.specs.declared.fault.UnfoldFault.TheVariants.{TooDeep, TooManyLines, TooMuchText}
use Rattle.m11_unfold_rules.proofs.Cases.{fault_by, taking_fault}
use Rattle.m11_unfold_rules.proofs.Constructs.{one_line}
use Rattle.m11_unfold_rules.proofs.Expanding.{as_lines, expansion_runs, plain_rounds}
use Rattle.m11_unfold_rules.proofs.Following.{follows}
use Rattle.m11_unfold_rules.proofs.Operators.{foreign_alike}
use Rattle.m11_unfold_rules.proofs.OtherLines.{ForeignHere, has_lines_left, looked_up, same_marks, stage_at}

module _ (conditions : OpenConditions) (macros : List (Name × Macro)) (bytes created : ℕ) (purpose : Purpose) where
  -- a stage at which a body is open, and these lines of it have been read
  abbrev pub body_stage : ℕ → List Bytes → List RemainingItem → Stage
  body_stage taken body left = record {
    left = left;
    conditions = conditions;
    opening = Some (record { purpose = purpose; taken = record { body = body; depth = 0 } });
    macros = macros;
    defined_bytes = bytes;
    created = created;
    taken = taken;
    has_ended = false;
  }

  -- one more line is added to the body, within the limits
  line_room : (taken more : ℕ) (body : List Bytes) (line : SourceLine) (left : List RemainingItem) → nesting line.text ≡ Neither
      → taken + suc more ≤ most_lines → bytes + bytes_held left + (size_of body + (length line.text + 1)) ≤ most_bytes
      → next_fault (body_stage taken body (Line line ∷ left)) ≡ None
  line_room taken more body line left neither most room =
      let few : nat_lt most_bytes (bytes + bytes_held left + size_of body + (length line.text + 1)) ≡ false
      = grind (arith, nat_tests) in
      let here : Stage = body_stage taken body (Line line ∷ left) in
      ap (λ (b : Bool). if b then Some TooManyLines else taking_fault here.opening here line.text) (has_lines_left taken more most)
      ∙ ap (λ (n : Nesting). body_fault purpose here line.text (depth_after n 0)) neither
      ∙ ap (λ (b : Bool). fault_if b TooMuchText) few

  line_moves : (taken : ℕ) (body : List Bytes) (line : SourceLine) (left : List RemainingItem) → nesting line.text ≡ Neither
      → move (body_stage taken body (Line line ∷ left)) ≡ Passes (body_stage (taken + 1) (body ++ line.text ∷ []) left)
  line_moves taken body line left neither =
      let here : Stage = body_stage taken body (Line line ∷ left) in
      ap (λ (n : Nesting). Passes (into_body purpose (record { body = body; depth = 0 }) line.text (depth_after n 0) (one_taken left here))) neither

  -- all lines of the body are added to it, one by one
  pub body_taken : (before : Stage) (done : List UnfoldedLine) (left : List RemainingItem) (lines : List SourceLine) (taken more : ℕ) (body : List Bytes)
      → IsPlainBody (texts_of lines) → taken + (length lines + more) ≤ most_lines
      → bytes + bytes_held left + (size_of body + size_of (texts_of lines)) ≤ most_bytes
      → Leads before done (body_stage taken body (map line_left lines ++ left))
      → Leads before done (body_stage (taken + length lines) (body ++ texts_of lines) left)
  body_taken before done left [] taken more body plain most room so_far =
      let P : List Bytes → Type 0 = λ b. Leads before done (body_stage taken b left) in
      let Q : ℕ → Type 0 = λ n. Leads before done (body_stage n (body ++ []) left) in
      let none : taken ≡ taken + 0 = omega arith in
      subst Q none (subst P (sym (append-nil body)) so_far)
  body_taken before done left (line ∷ lines) taken more body plain most room so_far =
      let rest : List RemainingItem = map line_left lines ++ left in
      let held : bytes_held rest ≡ bytes_held left = ap bytes_in (same_marks lines left) in
      let one : size_of (line.text ∷ []) ≡ length line.text + 1 = omega arith in
      let parts : size_of (texts_of (line ∷ lines)) ≡ size_of (line.text ∷ []) + size_of (texts_of lines)
      = sum_by-append (λ (t : Bytes). length t + 1) (line.text ∷ []) (texts_of lines) in
      let room' : bytes + bytes_held rest + (size_of body + (length line.text + 1)) ≤ most_bytes = omega (arith, room, held, one, parts) in
      let next = steps.Leads.Passing done (body_stage taken body (Line line ∷ rest)) (body_stage (taken + 1) (body ++ line.text ∷ []) rest)
      so_far (line_room taken (length lines + more) body line rest plain.0 (omega (arith, most)) room')
      (line_moves taken body line rest plain.0) in
      let size : size_of (body ++ line.text ∷ []) ≡ size_of body + size_of (line.text ∷ [])
      = sum_by-append (λ (t : Bytes). length t + 1) body (line.text ∷ []) in
      let later = body_taken before done left lines (taken + 1) more (body ++ line.text ∷ []) plain.1 (omega (arith, most))
      (omega (arith, room, size, one, parts)) next in
      let P : List Bytes → Type 0 = λ b. Leads before done (body_stage (taken + 1 + length lines) b left) in
      let Q : ℕ → Type 0 = λ n. Leads before done (body_stage n (body ++ texts_of (line ∷ lines)) left) in
      let sum : taken + 1 + length lines ≡ taken + suc (length lines) = omega arith in
      subst Q sum (subst P (append_assoc body (line.text ∷ []) (texts_of lines)) later)

-- ---- the close of a repeat

module _ (conditions : OpenConditions) (macros : List (Name × Macro)) (bytes created : ℕ) (formals : List Name)
    (rounds : List (List Bytes)) where
  abbrev repeat_mark : List Bytes → Mark
  repeat_mark body = record { arguments = None; bytes = size_of body; conditions = conditions }

  -- the line that closes a repeat's body is followed by the lines of its rounds, and then by the end of the expansion
  closes : (taken more : ℕ) (body : List Bytes) (close : SourceLine) (left : List RemainingItem) → nesting close.text ≡ Closes
      → taken + suc more ≤ most_lines → depth left < most_expansions
      → Leads (body_stage conditions macros bytes created (Repeats formals rounds) taken body (Line close ∷ left)) []
      (stage_at no_conditions macros bytes created (taken + 1) (map line_left (lines_of_rounds formals rounds body) ++ End (repeat_mark body) ∷ left))
  closes taken more body close left is most shallow =
      let here : Stage = body_stage conditions macros bytes created (Repeats formals rounds) taken body (Line close ∷ left) in
      let after : List RemainingItem → Stage = λ l. stage_at no_conditions macros bytes created (taken + 1) l in
      let deep : nat_le most_expansions (depth left) ≡ false = grind (arith, nat_tests) in
      let fault : next_fault here ≡ None
      = ap (λ (b : Bool). if b then Some TooManyLines else taking_fault here.opening here close.text) (has_lines_left taken more most)
      ∙ ap (λ (n : Nesting). body_fault (Repeats formals rounds) here close.text (depth_after n 0)) is
      ∙ ap (λ (b : Bool). fault_if b TooDeep) deep in
      let moves : move here ≡ Passes (after (expanded formals rounds body (repeat_mark body) left))
      = ap (λ (n : Nesting). Passes (into_body (Repeats formals rounds) (record { body = body; depth = 0 }) close.text (depth_after n 0)
      (one_taken left here))) is in
      let P : List RemainingItem → Type 0 = λ l. Leads here [] (after l) in
      subst P (as_lines formals rounds body (repeat_mark body) left)
      (steps.Leads.Passing [] here (after (expanded formals rounds body (repeat_mark body) left)) steps.Leads.Stays fault moves)

-- ---- the whole block

module _ (known : KnownSymbols) (stage : Stage) (block : Block) (formals : List Name) (rounds : List (List Bytes)) where
  abbrev gives : List SourceLine
  gives = lines_of_rounds formals rounds (texts_of block.lines)

  abbrev first_taken : Stage
  first_taken = stage_at stage.conditions stage.macros stage.defined_bytes stage.created (stage.taken + 1)
      (map line_left block.lines ++ Line block.close ∷ block.left)

  pub repeats_run : (remarks : Remarks) → IsLive stage → IsPlainBody (texts_of block.lines) → nesting block.close.text ≡ Closes
      → AreForeign stage gives → HasRoom stage block (texts_of block.lines) gives
      → act known first_taken block.first.text ≡ own remarks (opens (Repeats formals rounds) first_taken)
      → act_fault first_taken block.first.text ≡ None
      → Leads (before_block stage block)
      (own_live_line known block.left block.first remarks ∷ map (expanded_live_line known (argument_count block.left)) gives)
      (after_block stage block (length gives))
  repeats_run remarks live plain is foreign room acts faults =
      let body : List Bytes = texts_of block.lines in
      let count : ℕ = length block.lines in
      let rest : List RemainingItem = Line block.close ∷ block.left in
      let all : List RemainingItem = map line_left block.lines ++ rest in
      let before : Stage = stage_at stage.conditions stage.macros stage.defined_bytes stage.created stage.taken (Line block.first ∷ all) in
      let done : Acted = own remarks (opens (Repeats formals rounds) first_taken) in
      let lines_left = room.lines in
      let first = one_line known stage.conditions stage.macros stage.defined_bytes stage.created stage.taken block.first all done
      live.taking (omega (arith, lines_left)) acts faults in
      let told : List Mark → UnfoldedLine = λ m. record {
        live = record { line = block.first; is_expanded = has_mark m };
        known = known;
        is_own = true;
        remarks = remarks;
        arguments = count_in m;
      } in
      let P : List Mark → Type 0 = λ m. Leads before (told m ∷ []) done.after in
      let begun : Leads before (own_live_line known block.left block.first remarks ∷ []) done.after
      = subst P (same_marks block.lines rest) first in
      let bytes_left = room.bytes in
      let bytes_in_all : stage.defined_bytes + bytes_held rest + (size_of [] + size_of body) ≤ most_bytes = omega (arith, bytes_left) in
      let taken_in = body_taken stage.conditions stage.macros stage.defined_bytes stage.created (Repeats formals rounds) before
      (own_live_line known block.left block.first remarks ∷ []) rest block.lines (stage.taken + 1) 1 [] plain (omega (arith, lines_left))
      bytes_in_all begun in
      let closed = closes stage.conditions stage.macros stage.defined_bytes stage.created formals rounds (stage.taken + 1 + count) 0 body
      block.close block.left is (omega (arith, lines_left)) room.expansions in
      let mark : Mark = record { arguments = None; bytes = size_of body; conditions = stage.conditions } in
      let here : ForeignHere no_conditions stage.macros gives
      = foreign_alike stage.macros stage.conditions no_conditions gives live.taking (looked_up stage gives foreign) in
      let rounds_live = expansion_runs known stage.macros stage.defined_bytes stage.created (stage.taken + 1 + count + 1) mark gives
      block.left here (omega (arith, lines_left)) in
      let opened_in = stage_at no_conditions stage.macros stage.defined_bytes stage.created (stage.taken + 1 + count + 1)
      (map line_left gives ++ End mark ∷ block.left) in
      let last : ℕ → Stage = λ n. stage_at stage.conditions stage.macros stage.defined_bytes stage.created n block.left in
      let joined = follows before (body_stage stage.conditions stage.macros stage.defined_bytes stage.created (Repeats formals rounds)
      (stage.taken + 1 + count) body rest) opened_in (own_live_line known block.left block.first remarks ∷ []) [] taken_in closed in
      let whole = follows before opened_in (last (stage.taken + 1 + count + 1 + length gives))
      (own_live_line known block.left block.first remarks ∷ []) (map (foreign_live_line known (End mark ∷ block.left)) gives) joined rounds_live in
      let sum : stage.taken + 1 + count + 1 + length gives ≡ stage.taken + (count + 2) + length gives = omega arith in
      let Q : ℕ → Type 0 = λ n. Leads before
      (own_live_line known block.left block.first remarks ∷ map (expanded_live_line known (argument_count block.left)) gives) (last n) in
      let stood : Leads before (own_live_line known block.left block.first remarks ∷ map (expanded_live_line known (argument_count block.left)) gives)
      (last (stage.taken + (count + 2) + length gives)) = subst Q sum whole in
      rw (live.no_body, live.going_on) stood

-- ---- each repeat

pub repeated : (known : KnownSymbols) (stage : Stage) (block : Block) (column : ℕ) → IsLive stage → IsDirective stage block.first word.Rept column
    → IsPlainBody (texts_of block.lines) → nesting block.close.text ≡ Closes
    → AreForeign stage (times (repeats.rept_count known block.first.text column) (map line_of (texts_of block.lines)))
    → HasRoom stage block (texts_of block.lines)
    (times (repeats.rept_count known block.first.text column) (map line_of (texts_of block.lines)))
    → Leads (before_block stage block) (own_live_line known block.left block.first (repeats.remarks known block.first.text column)
    ∷ map (expanded_live_line known (argument_count block.left))
    (times (repeats.rept_count known block.first.text column) (map line_of (texts_of block.lines))))
    (after_block stage block (length (times (repeats.rept_count known block.first.text column) (map line_of (texts_of block.lines)))))
repeated known stage block column live is plain closing foreign room =
    let n : ℕ = repeats.rept_count known block.first.text column in
    let remarks : Remarks = repeats.remarks known block.first.text column in
    let rounds : List (List Bytes) = replicate n [] in
    let body : List Bytes = texts_of block.lines in
    let same : lines_of_rounds [] rounds body ≡ times n (map line_of body) = plain_rounds n body in
    let P : List SourceLine → Type 0 = λ ls. AreForeign stage ls → HasRoom stage block body ls
    → Leads (before_block stage block)
    (own_live_line known block.left block.first remarks ∷ map (expanded_live_line known (argument_count block.left)) ls)
    (after_block stage block (length ls)) in
    let here : Stage = first_taken known stage block [] rounds in
    let acts : act known here block.first.text ≡ own remarks (opens (Repeats [] rounds) here) = ap (acted_by known block.first.text here) is in
    let faults : act_fault here block.first.text ≡ None = ap (fault_by here) is in
    subst P same (λ foreign' room'. repeats_run known stage block [] rounds remarks live plain closing foreign' room' acts faults) foreign room

module _ (known : KnownSymbols) (stage : Stage) (block : Block) (column : ℕ) (rounds : Repetition) where
  abbrev here : Stage
  here = first_taken known stage block (rounds.formal ∷ []) (map (λ text. text ∷ []) rounds.texts)

  -- an `.IRP` or `.IRPC` with these arguments yields its own line and then the lines of its rounds
  pub indefinitely : (arguments : Repeated) → arguments.rounds ≡ Some rounds → IsLive stage
      → IsPlainBody (texts_of block.lines) → nesting block.close.text ≡ Closes
      → AreForeign stage (repeated_lines rounds (texts_of block.lines))
      → HasRoom stage block (texts_of block.lines) (repeated_lines rounds (texts_of block.lines))
      → act known here block.first.text ≡ acted_repeated arguments here → act_fault here block.first.text ≡ None
      → Leads (before_block stage block) (own_live_line known block.left block.first arguments.remarks
      ∷ map (expanded_live_line known (argument_count block.left)) (repeated_lines rounds (texts_of block.lines)))
      (after_block stage block (length (repeated_lines rounds (texts_of block.lines))))
  indefinitely arguments some live plain closing foreign room acts faults =
      let acts' : act known here block.first.text ≡ own arguments.remarks (opens (Repeats (rounds.formal ∷ []) (map (λ text. text ∷ []) rounds.texts)) here)
      = acts ∙ ap (λ (r : Option Repetition). own arguments.remarks (opens (repeating r) here)) some in
      repeats_run known stage block (rounds.formal ∷ []) (map (λ text. text ∷ []) rounds.texts) arguments.remarks live plain closing foreign room acts' faults

  pub with_list : IsDirective stage block.first word.Irp column
      → (irp known block.first.text column).rounds ≡ Some rounds → IsLive stage
      → IsPlainBody (texts_of block.lines) → nesting block.close.text ≡ Closes
      → AreForeign stage (repeated_lines rounds (texts_of block.lines))
      → HasRoom stage block (texts_of block.lines) (repeated_lines rounds (texts_of block.lines))
      → Leads (before_block stage block) (own_live_line known block.left block.first (irp known block.first.text column).remarks
      ∷ map (expanded_live_line known (argument_count block.left)) (repeated_lines rounds (texts_of block.lines)))
      (after_block stage block (length (repeated_lines rounds (texts_of block.lines))))
  with_list is some live plain closing foreign room =
      indefinitely (irp known block.first.text column) some live plain closing foreign room
      (ap (acted_by known block.first.text here) is) (ap (fault_by here) is)

  pub with_characters : IsDirective stage block.first word.Irpc column
      → (irpc block.first.text column).rounds ≡ Some rounds → IsLive stage
      → IsPlainBody (texts_of block.lines) → nesting block.close.text ≡ Closes
      → AreForeign stage (repeated_lines rounds (texts_of block.lines))
      → HasRoom stage block (texts_of block.lines) (repeated_lines rounds (texts_of block.lines))
      → Leads (before_block stage block) (own_live_line known block.left block.first (irpc block.first.text column).remarks
      ∷ map (expanded_live_line known (argument_count block.left)) (repeated_lines rounds (texts_of block.lines)))
      (after_block stage block (length (repeated_lines rounds (texts_of block.lines))))
  with_characters is some live plain closing foreign room =
      indefinitely (irpc block.first.text column) some live plain closing foreign room
      (ap (acted_by known block.first.text here) is) (ap (fault_by here) is)
