-- Further lines of a source change nothing before them.
use Rattle.std.proofs.Common.{◌≡◌, ◌∙◌, ℕ, ◌+◌, Bool, true, false, List, [], ◌∷◌, ◌++◌, length, map, append_assoc, Option, Some, None, refl, sym, ap, subst}
use Rattle.std.specs.Prelude.{if◌then◌else◌, nat_le, nat_lt}
use Rattle.std.specs.List.{flat_map}
use Rattle.m11_unfold_rules.specs.declared.macros.MacroFormal.{MacroFormal}
use Rattle.m11_base.specs.Devices.{Bytes}
use Rattle.m11_base.specs.Rad50.{Name}
use Rattle.m11_scan.specs.Line.{SourceLine}
use Rattle.m11_unfold_rules.specs.Actuals.{ActualTexts, actuals_from}
use Rattle.m11_unfold_rules.specs.Conditions.{condition}
use Rattle.m11_scan_expressions.specs.Expressions.{KnownSymbols}
use Rattle.m11_unfold_rules.specs.Filling.{FormalTexts, filled}
use Rattle.m11_unfold_rules.specs.Immediate as immediate
use Rattle.m11_scan_expressions.specs.Remarks.{remarks_of}
use Rattle.m11_unfold_rules.specs.declared.directives.Directive.{Directive}
use Rattle.m11_unfold_rules.specs.declared.directives.Directive.TheVariants as word
use Rattle.m11_unfold_bodies.specs.Bodies.{PartialBody, depth_after, size_of}
use Rattle.m11_unfold_bodies.specs.Conditions.{OpenConditions, closed, has_none, most_conditions, no_conditions, past, switched}
use Rattle.m11_unfold_bodies.specs.Left.{RemainingItem, Line, End, after_mark, bytes_in, conditions_in, count_in, has_mark, is_expanding, marks, most_expansions, round}
use Rattle.m11_unfold_bodies.specs.declared.conditions.Part.TheVariants as part
use Rattle.m11_unfold_bodies.specs.declared.mark.Mark.{Mark}
use Rattle.m11_unfold_rules.specs.Acting.{Acted, Operation, Calls, OwnDirective, Foreign, act, act_fault, acted_by, acted_exit, acted_if, acted_immediate, acted_within, condition_opened, flagged, flag_O, operation, own}
use Rattle.m11_unfold_rules.specs.Histories.{with_more}
use Rattle.m11_unfold_rules.specs.Limits.{body_fault, bytes_of, closing_fault, depth_fault, fault_if, has_room, line_fault, most_bytes, most_lines}
use Rattle.m11_unfold_rules.specs.Stages.{Opening, Purpose, Defines, Repeats, Drops, Stage, line_left}
use Rattle.m11_unfold_rules.specs.Taking.{Gives, Live, Move, Passes, NothingLeft, into_body, line_move, nesting, one_taken, opened, skipped, used}
use Rattle.m11_unfold_rules.specs.Unfolding as steps
use Rattle.m11_unfold_rules.specs.Unfolding.{Leads, given}
use Rattle.m11_unfold_rules.specs.declared.fault.UnfoldFault.{UnfoldFault}
use Rattle.m11_unfold_rules.specs.declared.fault.UnfoldFault.TheVariants.{TooDeep, TooManyLines, TooMuchText}
use Rattle.m11_unfold_rules.proofs.Cases.{bytes_taken, fault_by, fault_from, live_or_skipped, move_from, taking_fault, with_statement}

no_marks : (more : List SourceLine) → marks (map line_left more) ≡ []
no_marks [] = refl
no_marks (line ∷ more) = no_marks more

-- a move that reads something
abbrev IsMove : Move → Type 0
IsMove NothingLeft = ⊥
IsMove (Passes stage) = Unit {0}
IsMove (Gives live stage) = Unit {0}

module _ (more : List SourceLine) where
  abbrev lines : List RemainingItem
  lines = map line_left more

  abbrev on : Stage → Stage
  on stage = with_more more stage

  -- further lines of the source don't change which expansions are open
  pub same_open : (left : List RemainingItem) → marks (left ++ lines) ≡ marks left
  same_open [] = no_marks more
  same_open (Line line ∷ left) = same_open left
  same_open (End mark ∷ left) = ap (λ (ms : List Mark). mark ∷ ms) (same_open left)

  -- ---- limits

  same_depth : (left : List RemainingItem) → depth_fault (left ++ lines) ≡ depth_fault left
  same_depth left = ap (λ (ms : List Mark). fault_if (nat_le most_expansions (length ms)) TooDeep) (same_open left)

  same_bytes : (stage : Stage) → bytes_of (on stage) ≡ bytes_of stage
  same_bytes stage = ap (λ (ms : List Mark). stage.defined_bytes + bytes_in ms + bytes_taken stage.opening) (same_open stage.left)

  same_closing : (purpose : Purpose) (stage : Stage) → closing_fault purpose (on stage) ≡ closing_fault purpose stage
  same_closing (Defines name formals) stage = refl
  same_closing (Repeats formals rounds) stage = same_depth stage.left
  same_closing Drops stage = refl

  same_body : (purpose : Purpose) (stage : Stage) (text : Bytes) (depth : Option ℕ)
      → body_fault purpose (on stage) text depth ≡ body_fault purpose stage text depth
  same_body purpose stage text None = same_closing purpose stage
  same_body purpose stage text (Some depth) =
      ap (λ (n : ℕ). fault_if (nat_lt most_bytes (n + (length text + 1))) TooMuchText) (same_bytes stage)

  same_taking : (opening : Option Opening) (stage : Stage) (text : Bytes) → taking_fault opening (on stage) text ≡ taking_fault opening stage text
  same_taking None stage text = refl
  same_taking (Some opening) stage text =
      same_body opening.purpose stage text (depth_after (nesting text) opening.taken.depth)

  same_line : (stage : Stage) (text : Bytes) → line_fault (on stage) text ≡ line_fault stage text
  same_line stage text =
      ap (λ (f : Option UnfoldFault). if nat_le most_lines stage.taken then Some TooManyLines else f) (same_taking stage.opening stage text)

  same_fault : (left : List RemainingItem) (stage : Stage) → IsMove (move_from left stage)
      → fault_from (left ++ lines) (on stage) ≡ fault_from left stage
  same_fault [] stage moves = absurd moves
  same_fault (End mark ∷ left) stage moves = refl
  same_fault (Line line ∷ left) stage moves = same_line stage line.text

  -- ---- moves

  abbrev on_after : Move → Move
  on_after NothingLeft = NothingLeft
  on_after (Passes stage) = Passes (on stage)
  on_after (Gives live stage) = Gives live (on stage)

  opened_on : (arguments : Option ℕ) (bytes : ℕ) (formals : List Name) (rounds : List (List Bytes)) (body : List Bytes) (stage : Stage)
      → opened arguments bytes formals rounds body (on stage) ≡ on (opened arguments bytes formals rounds body stage)
  opened_on arguments bytes formals rounds body stage =
      let mark : Mark = record { arguments = arguments; bytes = bytes; conditions = stage.conditions } in
      ap (λ (l : List RemainingItem). record stage { left = l; conditions = no_conditions })
      (sym (append_assoc (flat_map (round formals body) rounds) (End mark ∷ stage.left) lines))

  used_on : (purpose : Purpose) (body : List Bytes) (stage : Stage) → used purpose body (on stage) ≡ on (used purpose body stage)
  used_on (Defines name formals) body stage = refl
  used_on (Repeats formals rounds) body stage = opened_on None (size_of body) formals rounds body stage
  used_on Drops body stage = refl

  into_on : (purpose : Purpose) (taken : PartialBody) (text : Bytes) (depth : Option ℕ) (stage : Stage)
      → into_body purpose taken text depth (on stage) ≡ on (into_body purpose taken text depth stage)
  into_on purpose taken text None stage = used_on purpose taken.body (record stage { opening = None })
  into_on purpose taken text (Some depth) stage = refl

  live_on : (conditions : Option OpenConditions) (line : SourceLine) (stage : Stage)
      → live_or_skipped conditions line (on stage) ≡ on_after (live_or_skipped conditions line stage)
  live_on (Some conditions) line stage = refl
  live_on None line stage =
      ap (λ (ms : List Mark). Gives (record { line = line; is_expanded = has_mark ms }) (on stage)) (same_open stage.left)

  taken_on : (opening : Option Opening) (line : SourceLine) (stage : Stage)
      → line_move opening line (on stage) ≡ on_after (line_move opening line stage)
  taken_on (Some opening) line stage =
      ap Passes (into_on opening.purpose opening.taken line.text (depth_after (nesting line.text) opening.taken.depth) stage)
  taken_on None line stage = live_on (skipped stage.conditions line.text) line stage

  from_on : (left : List RemainingItem) (stage : Stage) → IsMove (move_from left stage)
      → move_from (left ++ lines) (on stage) ≡ on_after (move_from left stage)
  from_on [] stage moves = absurd moves
  from_on (End mark ∷ left) stage moves = refl
  from_on (Line line ∷ left) stage moves = taken_on stage.opening line (one_taken left stage)

  fault_on : (has_ended : Bool) (left : List RemainingItem) (stage : Stage) (result : Move)
      → (if has_ended then NothingLeft else move_from left stage) ≡ result → IsMove result
      → (if has_ended then None else fault_from left stage) ≡ None
      → (if has_ended then None else fault_from (left ++ lines) (on stage)) ≡ None
  fault_on true left stage result moves is fault = refl
  fault_on false left stage result moves is fault = same_fault left stage (subst IsMove (sym moves) is) ∙ fault

  moves_on : (has_ended : Bool) (left : List RemainingItem) (stage : Stage) (result : Move)
      → (if has_ended then NothingLeft else move_from left stage) ≡ result → IsMove result
      → (if has_ended then NothingLeft else move_from (left ++ lines) (on stage)) ≡ on_after result
  moves_on true left stage result moves is = absurd (subst IsMove (sym moves) is)
  moves_on false left stage result moves is = from_on left stage (subst IsMove (sym moves) is) ∙ ap on_after moves

  -- ---- acting

  abbrev on_acted : Acted → Acted
  on_acted acted = record { is_own = acted.is_own; remarks = acted.remarks; after = on acted.after }

  either_on : (b : Bool) (one other : Acted) → (if b then on_acted one else on_acted other) ≡ on_acted (if b then one else other)
  either_on true one other = refl
  either_on false one other = refl

  if_on : (known : KnownSymbols) (text : Bytes) (column : ℕ) (stage : Stage)
      → acted_if known text column (on stage) ≡ on_acted (acted_if known text column stage)
  if_on known text column stage =
      ap (λ (ms : List Mark). if nat_lt (length stage.conditions.entered + conditions_in ms) most_conditions
      then condition_opened text (condition known text column) (on stage)
      else own (remarks_of flag_O []) (record (on stage) { conditions = past stage.conditions })) (same_open stage.left)
      ∙ either_on (has_room stage) (condition_opened text (condition known text column) stage)
      (own (remarks_of flag_O []) (record stage { conditions = past stage.conditions }))

  statement_on : (text : Bytes) (holds : Bool) (column : Option ℕ) (stage : Stage)
      → with_statement text holds column (on stage) ≡ on (with_statement text holds column stage)
  statement_on text true (Some column) stage = refl
  statement_on text true None stage = refl
  statement_on text false column stage = refl

  immediate_on : (known : KnownSymbols) (text : Bytes) (column : ℕ) (stage : Stage)
      → acted_immediate known text column (on stage) ≡ on_acted (acted_immediate known text column stage)
  immediate_on known text column stage =
      ap (own (immediate.remarks known text column)) (statement_on text (immediate.immediate known text column).holds
      (immediate.immediate known text column).statement stage)

  within_on : (change : OpenConditions → OpenConditions) (text : Bytes) (column : ℕ) (stage : Stage)
      → acted_within change text column (on stage) ≡ on_acted (acted_within change text column stage)
  within_on change text column stage =
      either_on (has_none stage.conditions) (own (flagged flag_O text column) stage)
      (own (flagged 0 text column) (record stage { conditions = change stage.conditions }))

  after_mark_on : (left : List RemainingItem) → is_expanding left ≡ true → after_mark (left ++ lines) ≡ after_mark left ++ lines
  after_mark_on [] is = absurd (let bad = is in cc)
  after_mark_on (Line line ∷ left) is = after_mark_on left is
  after_mark_on (End mark ∷ left) is = refl

  exit_on : (text : Bytes) (column : ℕ) (stage : Stage) → acted_exit text column (on stage) ≡ on_acted (acted_exit text column stage)
  exit_on text column stage =
      ap (λ (ms : List Mark). if has_mark ms then own (flagged 0 text column) (record stage { left = after_mark (stage.left ++ lines) })
      else own (flagged flag_O text column) (on stage)) (same_open stage.left)
      ∙ go (is_expanding stage.left) refl
    where
      go : (b : Bool) → is_expanding stage.left ≡ b
          → (if b then own (flagged 0 text column) (record stage { left = after_mark (stage.left ++ lines) })
          else own (flagged flag_O text column) (on stage))
          ≡ on_acted (if b then own (flagged 0 text column) (record stage { left = after_mark stage.left })
          else own (flagged flag_O text column) stage)
      go true is = ap (λ (l : List RemainingItem). own (flagged 0 text column) (record stage { left = l })) (after_mark_on stage.left is)
      go false is = refl

  directive_on : (known : KnownSymbols) (text : Bytes) (stage : Stage) (directive : Directive) (column : ℕ)
      → acted_by known text (on stage) (OwnDirective directive column) ≡ on_acted (acted_by known text stage (OwnDirective directive column))
  directive_on known text stage word.If column = if_on known text column stage
  directive_on known text stage word.Iff column = within_on (switched part.False) text column stage
  directive_on known text stage word.Ift column = within_on (switched part.True) text column stage
  directive_on known text stage word.Iftf column = within_on (switched part.Both) text column stage
  directive_on known text stage word.Endc column = within_on closed text column stage
  directive_on known text stage word.Iif column = immediate_on known text column stage
  directive_on known text stage word.Macro column = refl
  directive_on known text stage word.Endm column = refl
  directive_on known text stage word.Rept column = refl
  directive_on known text stage word.Endr column = refl
  directive_on known text stage word.Irp column = refl
  directive_on known text stage word.Irpc column = refl
  directive_on known text stage word.Mexit column = exit_on text column stage
  directive_on known text stage word.Narg column = refl
  directive_on known text stage word.Nchr column = refl
  directive_on known text stage word.End column = refl

  acted_on : (known : KnownSymbols) (text : Bytes) (stage : Stage) (operation : Operation)
      → acted_by known text (on stage) operation ≡ on_acted (acted_by known text stage operation)
  acted_on known text stage Foreign = refl
  acted_on known text stage (Calls macro column) =
      let actuals : ActualTexts = actuals_from known text (length macro.formals) column in
      let texts : FormalTexts = filled macro.formals actuals.texts stage.created in
      ap (own actuals.remarks) (opened_on (Some (length actuals.texts)) 0 (map (λ (formal : MacroFormal). formal.name) macro.formals) (texts.texts ∷ []) macro.body
      (record stage { created = texts.created }))
  acted_on known text stage (OwnDirective directive column) = directive_on known text stage directive column

  act_on : (known : KnownSymbols) (stage : Stage) (text : Bytes) → act known (on stage) text ≡ on_acted (act known stage text)
  act_on known stage text = acted_on known text stage (operation stage.conditions stage.macros text)

  fault_by_on : (stage : Stage) (operation : Operation) → fault_by (on stage) operation ≡ fault_by stage operation
  fault_by_on stage Foreign = refl
  fault_by_on stage (Calls macro column) = same_depth stage.left
  fault_by_on stage (OwnDirective directive column) = refl

  act_fault_on : (stage : Stage) (text : Bytes) → act_fault (on stage) text ≡ act_fault stage text
  act_fault_on stage text = fault_by_on stage (operation stage.conditions stage.macros text)

  given_on : (known : KnownSymbols) (live : Live) (stage : Stage) → given known live (on stage) ≡ given known live stage
  given_on known live stage =
      ap (λ (a : Acted). record {
        live = live;
        known = known;
        is_own = a.is_own;
        remarks = a.remarks;
        arguments = count_in (marks (stage.left ++ lines));
      }) (act_on known stage live.line.text)
      ∙ ap (λ (ms : List Mark). record {
        live = live;
        known = known;
        is_own = (act known stage live.line.text).is_own;
        remarks = (act known stage live.line.text).remarks;
        arguments = count_in ms;
      }) (same_open stage.left)

  -- ---- the law

  pub leads_on : (before after : Stage) (done : List steps.UnfoldedLine) → Leads before done after → Leads (on before) done (on after)
  leads_on before _ _ steps.Leads.Stays = steps.Leads.Stays
  leads_on before after done (steps.Leads.Passing _ stage _ leads fault moves) =
      steps.Leads.Passing done (on stage) (on after) (leads_on before stage done leads)
      (fault_on stage.has_ended stage.left stage (Passes after) moves tt fault)
      (moves_on stage.has_ended stage.left stage (Passes after) moves tt)
  leads_on before _ _ (steps.Leads.Giving done stage after live known leads fault moves acts) =
      let next = steps.Leads.Giving done (on stage) (on after) live known (leads_on before stage done leads)
      (fault_on stage.has_ended stage.left stage (Gives live after) moves tt fault)
      (moves_on stage.has_ended stage.left stage (Gives live after) moves tt)
      (act_fault_on after live.line.text ∙ acts) in
      let P : Acted → Type 0 = λ a. Leads (on before) (done ++ given known live (on after) ∷ []) a.after in
      let Q : steps.UnfoldedLine → Type 0 = λ g. Leads (on before) (done ++ g ∷ []) (on (act known after live.line.text).after) in
      subst Q (given_on known live after) (subst P (act_on known after live.line.text) next)
