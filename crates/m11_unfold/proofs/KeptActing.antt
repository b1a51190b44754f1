-- No operator exceeds a limit without its fault.
use Rattle.std.proofs.Common.{◌≡◌, ◌≤◌, ◌<◌, ◌+◌, ℕ, Bool, true, false, List, [], ◌∷◌, length, Option, Some, None, Result, Ok, Err, IfErr, IfOk, refl, sym, subst, arith}
use Rattle.std.specs.Prelude.{if◌then◌else◌, nat_le, nat_lt, drop, map}
use Rattle.std.proofs.lemmas.Bool.Decides.{nat_tests}
use Rattle.m11_unfold_rules.specs.declared.macros.MacroFormal.{MacroFormal}
use Rattle.m11_unfold_rules.specs.Actuals.{actuals_from}
use Rattle.m11_unfold_rules.specs.Conditions.{ConditionResult, condition}
use Rattle.m11_scan_expressions.specs.Expressions.{KnownSymbols}
use Rattle.m11_unfold_rules.specs.Filling.{filled}
use Rattle.m11_unfold_rules.specs.Immediate as immediate
use Rattle.m11_unfold_rules.specs.Indefinite.{irpc, irp}
use Rattle.m11_unfold_rules.specs.Headers.{header}
use Rattle.m11_unfold_rules.specs.declared.directives.Directive.TheVariants as word
use Rattle.m11_unfold_bodies.specs.Conditions.{OpenConditions, closed, has_none, most_conditions, switched}
use Rattle.m11_unfold_bodies.specs.Left.{RemainingItem, Line, End, after_mark, conditions_open, depth, is_expanding, marks, most_expansions}
use Rattle.m11_unfold_bodies.specs.declared.conditions.OpenCondition.{OpenCondition}
use Rattle.m11_unfold_bodies.specs.declared.conditions.Part.{Part}
use Rattle.m11_unfold_bodies.specs.declared.conditions.Part.TheVariants as part
use Rattle.m11_unfold_bodies.proofs.Cases.{with_part, without_first}
use Rattle.m11_scan.specs.Line.{line_of}
use Rattle.m11_unfold_rules.specs.Acting.{Acted, Operation, Foreign, Calls, OwnDirective, act, act_fault, acted_by, acted_exit, acted_within, condition_opened, defining, flagged, flag_O, operation, opens, own, repeating}
use Rattle.m11_unfold_rules.specs.Limits.{has_room}
use Rattle.m11_unfold_rules.specs.Stages.{Purpose, Stage}
use Rattle.m11_unfold_rules.specs.declared.fault.UnfoldFault.{UnfoldFault}
use Rattle.m11_unfold_rules.proofs.Cases.{fault_by, with_statement}
use Rattle.m11_unfold.specs.Kept.{IsKept}
use Rattle.m11_unfold.proofs.Keeping.{not_so, opened_kept, under}

-- if the limits hold after either of two results, they hold after the one that is chosen
kept_if : (b : Bool) (one other : Acted) → (b ≡ true → IsKept one.after) → (b ≡ false → IsKept other.after)
    → IsKept (if b then one else other).after
kept_if true one other first second = first refl
kept_if false one other first second = second refl

below : (n most : ℕ) → nat_lt n most ≡ true → n < most
below n most is = grind (arith, nat_tests, is)

same_ends : (left : List RemainingItem) → marks (after_mark left) ≡ marks left
same_ends [] = refl
same_ends (Line line ∷ left) = same_ends left
same_ends (End mark ∷ left) = refl

with_part_same : (p : Part) (entered : List OpenCondition) → length (with_part p entered) ≡ length entered
with_part_same p [] = refl
with_part_same p (condition ∷ outer) = refl

no_more : (entered : List OpenCondition) → length (without_first entered) ≤ length entered
no_more [] = omega arith
no_more (condition ∷ outer) = omega arith

closed_fewer : (b : Bool) (entered : List OpenCondition) → length (if b then entered else without_first entered) ≤ length entered
closed_fewer true entered = omega arith
closed_fewer false entered = no_more entered

module _ (stage : Stage) (kept : IsKept stage) where
  -- the limits hold with other conditions, if few enough are open and as many `.IF`s are open among skipped lines
  with_conditions : (conditions : OpenConditions) → length conditions.entered + conditions_open stage.left ≤ most_conditions
      → conditions.nested ≡ stage.conditions.nested → IsKept (record stage { conditions = conditions })
  with_conditions conditions few same =
      let nested = kept.nested in
      record {
        lines = kept.lines;
        macros = kept.macros;
        bytes = kept.bytes;
        expansions = kept.expansions;
        conditions = few;
        nested = omega (arith, nested, same);
      }

  kept_condition : (text : List ℕ) (asked : ConditionResult) → has_room stage ≡ true → IsKept (condition_opened text asked stage).after
  kept_condition text asked room =
      let one_more = below (length stage.conditions.entered + conditions_open stage.left) most_conditions room in
      with_conditions _ (omega (arith, one_more)) refl

  kept_within : (change : OpenConditions → OpenConditions) (text : List ℕ) (column : ℕ)
      → length (change stage.conditions).entered ≤ length stage.conditions.entered
      → (change stage.conditions).nested ≡ stage.conditions.nested → IsKept (acted_within change text column stage).after
  kept_within change text column fewer same =
      let few = kept.conditions in
      kept_if (has_none stage.conditions) (own (flagged flag_O text column) stage)
      (own (flagged 0 text column) (record stage { conditions = change stage.conditions })) (λ _. kept)
      (λ _. with_conditions (change stage.conditions) (omega (arith, few, fewer)) same)

  kept_switch : (p : Part) (text : List ℕ) (column : ℕ) → IsKept (acted_within (switched p) text column stage).after
  kept_switch p text column =
      let alike = with_part_same p stage.conditions.entered in
      kept_within (switched p) text column (omega (arith, alike)) refl

  kept_opening : (purpose : Purpose) → IsKept (opens purpose stage)
  kept_opening purpose =
      let bytes = kept.bytes in
      record {
        lines = kept.lines;
        macros = kept.macros;
        bytes = omega (arith, bytes);
        expansions = kept.expansions;
        conditions = kept.conditions;
        nested = kept.nested;
      }

  -- the limits hold with other lines left before the same ends of expansions
  with_left : (left : List RemainingItem) → marks left ≡ marks stage.left → IsKept (record stage { left = left })
  with_left left same =
      record {
        lines = kept.lines;
        macros = kept.macros;
        bytes = rw same kept.bytes;
        expansions = rw same kept.expansions;
        conditions = rw same kept.conditions;
        nested = rw same kept.nested;
      }

  kept_statement : (text : List ℕ) (holds : Bool) (begin : Option ℕ) → IsKept (with_statement text holds begin stage)
  kept_statement text true (Some column) = with_left (Line (line_of (drop column text)) ∷ stage.left) refl
  kept_statement text true None = kept
  kept_statement text false begin = kept

  kept_exit : (text : List ℕ) (column : ℕ) → IsKept (acted_exit text column stage).after
  kept_exit text column =
      kept_if (is_expanding stage.left) (own (flagged 0 text column) (record stage { left = after_mark stage.left }))
      (own (flagged flag_O text column) stage) (λ _. with_left (after_mark stage.left) (same_ends stage.left)) (λ _. kept)

  pub kept_created : (created : ℕ) → IsKept (record stage { created = created })
  kept_created created = record {
    lines = kept.lines;
    macros = kept.macros;
    bytes = kept.bytes;
    expansions = kept.expansions;
    conditions = kept.conditions;
    nested = kept.nested;
  }

  kept_ended : IsKept (record stage { has_ended = true })
  kept_ended = record {
    lines = kept.lines;
    macros = kept.macros;
    bytes = kept.bytes;
    expansions = kept.expansions;
    conditions = kept.conditions;
    nested = kept.nested;
  }

  kept_by : (known : KnownSymbols) (text : List ℕ) (what : Operation) → fault_by stage what ≡ None
      → IsKept (acted_by known text stage what).after
  kept_by known text Foreign fits = kept
  kept_by known text (Calls macro column) fits =
      let so = not_so (nat_le most_expansions (depth stage.left)) _ None fits in
      let given = actuals_from known text (length macro.formals) column in
      let filling = filled macro.formals given.texts stage.created in
      let bytes = kept.bytes in
      opened_kept (Some (length given.texts)) 0 (map (λ (formal : MacroFormal). formal.name) macro.formals) (filling.texts ∷ []) macro.body
      (record stage { created = filling.created }) (kept_created filling.created)
      (under most_expansions (depth stage.left) so.0) (omega (arith, bytes))
  kept_by known text (OwnDirective word.If column) fits =
      kept_if (has_room stage) (condition_opened text (condition known text column) stage) _
      (λ room. kept_condition text (condition known text column) room)
      (λ _. with_conditions _ kept.conditions refl)
  kept_by known text (OwnDirective word.Iff column) fits = kept_switch part.False text column
  kept_by known text (OwnDirective word.Ift column) fits = kept_switch part.True text column
  kept_by known text (OwnDirective word.Iftf column) fits = kept_switch part.Both text column
  kept_by known text (OwnDirective word.Endc column) fits =
      kept_within closed text column (closed_fewer stage.conditions.is_past stage.conditions.entered) refl
  kept_by known text (OwnDirective word.Iif column) fits =
      kept_statement text (immediate.immediate known text column).holds (immediate.immediate known text column).statement
  kept_by known text (OwnDirective word.Macro column) fits = kept_opening (defining (header text column).named)
  kept_by known text (OwnDirective word.Endm column) fits = kept
  kept_by known text (OwnDirective word.Rept column) fits = kept_opening _
  kept_by known text (OwnDirective word.Endr column) fits = kept
  kept_by known text (OwnDirective word.Irp column) fits =
      kept_opening (repeating (irp known text column).rounds)
  kept_by known text (OwnDirective word.Irpc column) fits = kept_opening (repeating (irpc text column).rounds)
  kept_by known text (OwnDirective word.Mexit column) fits = kept_exit text column
  kept_by known text (OwnDirective word.Narg column) fits = kept
  kept_by known text (OwnDirective word.Nchr column) fits = kept
  kept_by known text (OwnDirective word.End column) fits = kept_ended

  -- if its operator exceeds no limit, the limits hold after a line
  pub kept_acts : (known : KnownSymbols) (text : List ℕ) → act_fault stage text ≡ None → IsKept (act known stage text).after
  kept_acts known text fits = kept_by known text (operation stage.conditions stage.macros text) fits

-- the limits hold after a call that executes the operator or fails
pub kept_acted : (before after : Stage) (acted : Result Bool UnfoldFault) (known : KnownSymbols) (text : List ℕ) → IsKept before
    → IfOk acted (λ _. act_fault before text ≡ None) → IfOk acted (λ _. after ≡ (act known before text).after)
    → IfErr acted (λ _. IsKept after) → IsKept after
kept_acted before after (Ok is_own) known text kept fits goes fallen = subst IsKept (sym goes) (kept_acts before kept known text fits)
kept_acted before after (Err fault) known text kept fits goes fallen = fallen
