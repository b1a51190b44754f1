-- The worked source has its shape.
use Rattle.std.proofs.Common.{◌≡◌, ℕ, List, [], ◌∷◌, ◌++◌, map, Some, None, refl}
use Rattle.std.specs.Prelude.{codes}
use Rattle.m11_base.specs.Rad50.{alphabet, code_of}
use Rattle.m11_scan.specs.Line.{SourceLine, line_of}
use Rattle.m11_scan.specs.Pieces.{first_piece}
use Rattle.m11_scan.specs.declared.radix.Radix.TheVariants.{Octal}
use Rattle.m11_scan_expressions.specs.declared.names.Symbol.{Symbol}
use Rattle.m11_scan_expressions.specs.Quantities.{Quantity}
use Rattle.m11_scan_expressions.specs.Values.{value_of}
use Rattle.m11_scan_expressions.specs.Expressions.{KnownSymbols, known_by}
use Rattle.m11_scan_expressions.specs.Remarks.{no_remarks}
use Rattle.m11_unfold_rules.specs.declared.directives.Directive.TheVariants as word
use Rattle.m11_unfold_rules.specs.Acting.{OwnDirective}
use Rattle.m11_unfold_rules.specs.Stages.{Macro, Defines, start}
use Rattle.m11_unfold_rules.specs.Unfolding.{UnfoldedLine}
use Rattle.m11_unfold_laws.specs.Levels.{Level, Situation, beginning, operation_at, source_level, stage_of, within_expansion}
use Rattle.m11_unfold_laws.specs.Laws.{HasLiveLines}
use Rattle.m11_unfold_laws.specs.Putting.{HasBody, Opens, Put, Puts}
use Rattle.m11_unfold_laws.specs.Putting as putting
use Rattle.m11_unfold_laws.specs.Shapes.{IsOther, Shape}
use Rattle.m11_unfold_laws.specs.Shapes as shapes
use Rattle.m11_unfold_laws.specs.Worked.{inner_line, source_line, twice_body, twice_formals, twice_name, worked_end, worked_lines, worked_source}
use Rattle.m11_unfold_laws.specs.Worked as worked
use Rattle.m11_unfold_laws.proofs.Walks.{walked}

module _ (value_of_symbol : Symbol → Quantity) where
  abbrev known : KnownSymbols
  known = known_by Octal value_of_symbol

  abbrev first : SourceLine
  first = line_of (codes " .MACRO TWICE ?L")

  is_macro : operation_at source_level beginning first ≡ OwnDirective word.Macro 7
  unfolding alphabet code_of first_piece value_of
  is_macro = refl

  opens_macro : Opens known first.text (operation_at source_level beginning first) no_remarks (Defines twice_name twice_formals)
  unfolding alphabet code_of first_piece value_of
  opens_macro = putting.Opens.Macro 7

  abbrev calls : List SourceLine
  calls = line_of (codes " TWICE") ∷ line_of (codes " TWICE") ∷ []

  abbrev body_lines : List SourceLine
  body_lines = map line_of (codes "L: .REPT 2" ∷ codes " NOP" ∷ codes " .ENDR" ∷ codes " BR L" ∷ codes " .ENDM" ∷ []) ++ calls

  has_body : HasBody body_lines twice_body calls
  unfolding alphabet code_of first_piece value_of
  has_body = refl

  -- ---- the macros and symbols

  abbrev twice : Macro
  twice = record { formals = twice_formals; body = twice_body }

  abbrev made : ℕ → ℕ → Situation
  made created taken = record { macros = (twice_name, twice) ∷ []; defined_bytes = 29; created = created; taken = taken }

  abbrev call : SourceLine
  call = line_of (codes " TWICE")

  abbrev nop : SourceLine
  nop = line_of (codes " NOP")

  abbrev in_call : Level
  in_call = within_expansion (Some 0) 0 source_level

  abbrev in_rounds : Level
  in_rounds = within_expansion None 5 in_call

  -- ---- the call that creates 30000$

  abbrev repeat_line_1 : SourceLine
  repeat_line_1 = line_of (codes "30000$: .REPT 2")

  abbrev branch_1 : SourceLine
  branch_1 = line_of (codes " BR 30000$")

  abbrev repeat_rest_1 : List SourceLine
  repeat_rest_1 = nop ∷ line_of (codes " .ENDR") ∷ branch_1 ∷ []

  abbrev put_1 : Put
  put_1 = putting.put_by_repeat no_remarks [] ([] ∷ [] ∷ []) (codes " NOP" ∷ []) (made 30001 7) (branch_1 ∷ [])

  repeat_puts_1 : Puts known (made 30001 7) repeat_line_1.text repeat_rest_1
      (operation_at in_call (made 30001 7) repeat_line_1) put_1
  unfolding alphabet code_of first_piece value_of
  repeat_puts_1 = putting.Puts.Repeat (OwnDirective word.Rept 13) no_remarks [] ([] ∷ [] ∷ []) (codes " NOP" ∷ []) (branch_1 ∷ [])
      (putting.Opens.Repeat 13) refl

  nop_1 : (taken : ℕ) → IsOther (operation_at in_rounds (made 30001 taken) nop)
  unfolding alphabet code_of first_piece value_of
  nop_1 taken = shapes.IsOther.Other

  branch_other_1 : IsOther (operation_at in_call (made 30001 12) branch_1)
  unfolding alphabet code_of first_piece value_of
  branch_other_1 = shapes.IsOther.Other

  rounds_1 : Shape in_rounds (made 30001 10) (nop ∷ nop ∷ [])
      (inner_line value_of_symbol (codes " NOP") ∷ inner_line value_of_symbol (codes " NOP") ∷ [])
      (made 30001 12) shapes.Ending.GoesOn
  rounds_1 =
      shapes.Shape.Other in_rounds (made 30001 10) (made 30001 12) shapes.Ending.GoesOn known nop (nop ∷ [])
      (inner_line value_of_symbol (codes " NOP") ∷ []) (nop_1 10)
      (shapes.Shape.Other in_rounds (made 30001 11) (made 30001 12) shapes.Ending.GoesOn known nop [] [] (nop_1 11)
      (shapes.Shape.Nothing in_rounds (made 30001 12)))

  inside_1 : Shape in_call (made 30001 7) (repeat_line_1 ∷ repeat_rest_1)
      (worked.repeat_line value_of_symbol (codes "30000$: .REPT 2") ∷ inner_line value_of_symbol (codes " NOP")
      ∷ inner_line value_of_symbol (codes " NOP")
      ∷ inner_line value_of_symbol (codes " BR 30000$") ∷ []) (made 30001 13) shapes.Ending.GoesOn
  unfolding alphabet code_of
  inside_1 =
      shapes.Shape.Expansion in_call (made 30001 7) (made 30001 12) (made 30001 13) shapes.Ending.GoesOn
      shapes.Ending.GoesOn known repeat_line_1 repeat_rest_1
      (inner_line value_of_symbol (codes " NOP") ∷ inner_line value_of_symbol (codes " NOP") ∷ [])
      (inner_line value_of_symbol (codes " BR 30000$") ∷ [])
      put_1 repeat_puts_1 rounds_1 tt
      (shapes.Shape.Other in_call (made 30001 12) (made 30001 13) shapes.Ending.GoesOn known branch_1 [] []
      branch_other_1 (shapes.Shape.Nothing in_call (made 30001 13)))

  call_put_1 : List SourceLine → Put
  call_put_1 others = record {
    remarks = no_remarks;
    arguments = Some 0;
    bytes = 0;
    lines = repeat_line_1 ∷ repeat_rest_1;
    situation = made 30001 7;
    others = others;
  }

  call_puts_1 : (others : List SourceLine)
      → Puts known (made 30000 6) call.text others (operation_at source_level (made 30000 6) call) (call_put_1 others)
  unfolding alphabet code_of first_piece value_of call_put_1
  call_puts_1 others = putting.Puts.Call twice 6

  then_1 : (others : List SourceLine) (later : List UnfoldedLine)
      → Shape source_level (made 30001 13) others later worked_end shapes.Ending.GoesOn
      → Shape source_level (made 30000 6) (call ∷ others)
      (source_line value_of_symbol (codes " TWICE") ∷ worked.repeat_line value_of_symbol (codes "30000$: .REPT 2")
      ∷ inner_line value_of_symbol (codes " NOP") ∷ inner_line value_of_symbol (codes " NOP") ∷ inner_line value_of_symbol (codes " BR 30000$")
      ∷ later)
      worked_end shapes.Ending.GoesOn
  unfolding call_put_1
  then_1 others later next =
      shapes.Shape.Expansion source_level (made 30000 6) (made 30001 13) worked_end shapes.Ending.GoesOn
      shapes.Ending.GoesOn known call others
      (worked.repeat_line value_of_symbol (codes "30000$: .REPT 2") ∷ inner_line value_of_symbol (codes " NOP")
      ∷ inner_line value_of_symbol (codes " NOP")
      ∷ inner_line value_of_symbol (codes " BR 30000$") ∷ []) later (call_put_1 others) (call_puts_1 others) inside_1 tt next

  -- ---- the call that creates 30001$

  abbrev repeat_line_2 : SourceLine
  repeat_line_2 = line_of (codes "30001$: .REPT 2")

  abbrev branch_2 : SourceLine
  branch_2 = line_of (codes " BR 30001$")

  abbrev repeat_rest_2 : List SourceLine
  repeat_rest_2 = nop ∷ line_of (codes " .ENDR") ∷ branch_2 ∷ []

  abbrev put_2 : Put
  put_2 = putting.put_by_repeat no_remarks [] ([] ∷ [] ∷ []) (codes " NOP" ∷ []) (made 30002 14) (branch_2 ∷ [])

  repeat_puts_2 : Puts known (made 30002 14) repeat_line_2.text repeat_rest_2
      (operation_at in_call (made 30002 14) repeat_line_2) put_2
  unfolding alphabet code_of first_piece value_of
  repeat_puts_2 = putting.Puts.Repeat (OwnDirective word.Rept 13) no_remarks [] ([] ∷ [] ∷ []) (codes " NOP" ∷ []) (branch_2 ∷ [])
      (putting.Opens.Repeat 13) refl

  nop_2 : (taken : ℕ) → IsOther (operation_at in_rounds (made 30002 taken) nop)
  unfolding alphabet code_of first_piece value_of
  nop_2 taken = shapes.IsOther.Other

  branch_other_2 : IsOther (operation_at in_call (made 30002 19) branch_2)
  unfolding alphabet code_of first_piece value_of
  branch_other_2 = shapes.IsOther.Other

  rounds_2 : Shape in_rounds (made 30002 17) (nop ∷ nop ∷ [])
      (inner_line value_of_symbol (codes " NOP") ∷ inner_line value_of_symbol (codes " NOP") ∷ [])
      (made 30002 19) shapes.Ending.GoesOn
  rounds_2 =
      shapes.Shape.Other in_rounds (made 30002 17) (made 30002 19) shapes.Ending.GoesOn known nop (nop ∷ [])
      (inner_line value_of_symbol (codes " NOP") ∷ []) (nop_2 17)
      (shapes.Shape.Other in_rounds (made 30002 18) (made 30002 19) shapes.Ending.GoesOn known nop [] [] (nop_2 18)
      (shapes.Shape.Nothing in_rounds (made 30002 19)))

  inside_2 : Shape in_call (made 30002 14) (repeat_line_2 ∷ repeat_rest_2)
      (worked.repeat_line value_of_symbol (codes "30001$: .REPT 2") ∷ inner_line value_of_symbol (codes " NOP")
      ∷ inner_line value_of_symbol (codes " NOP")
      ∷ inner_line value_of_symbol (codes " BR 30001$") ∷ []) (made 30002 20) shapes.Ending.GoesOn
  unfolding alphabet code_of
  inside_2 =
      shapes.Shape.Expansion in_call (made 30002 14) (made 30002 19) (made 30002 20) shapes.Ending.GoesOn
      shapes.Ending.GoesOn known repeat_line_2 repeat_rest_2
      (inner_line value_of_symbol (codes " NOP") ∷ inner_line value_of_symbol (codes " NOP") ∷ [])
      (inner_line value_of_symbol (codes " BR 30001$") ∷ [])
      put_2 repeat_puts_2 rounds_2 tt
      (shapes.Shape.Other in_call (made 30002 19) (made 30002 20) shapes.Ending.GoesOn known branch_2 [] []
      branch_other_2 (shapes.Shape.Nothing in_call (made 30002 20)))

  call_put_2 : List SourceLine → Put
  call_put_2 others = record {
    remarks = no_remarks;
    arguments = Some 0;
    bytes = 0;
    lines = repeat_line_2 ∷ repeat_rest_2;
    situation = made 30002 14;
    others = others;
  }

  call_puts_2 : (others : List SourceLine)
      → Puts known (made 30001 13) call.text others (operation_at source_level (made 30001 13) call) (call_put_2 others)
  unfolding alphabet code_of first_piece value_of call_put_2
  call_puts_2 others = putting.Puts.Call twice 6

  then_2 : (others : List SourceLine) (later : List UnfoldedLine)
      → Shape source_level (made 30002 20) others later worked_end shapes.Ending.GoesOn
      → Shape source_level (made 30001 13) (call ∷ others)
      (source_line value_of_symbol (codes " TWICE") ∷ worked.repeat_line value_of_symbol (codes "30001$: .REPT 2")
      ∷ inner_line value_of_symbol (codes " NOP") ∷ inner_line value_of_symbol (codes " NOP") ∷ inner_line value_of_symbol (codes " BR 30001$")
      ∷ later)
      worked_end shapes.Ending.GoesOn
  unfolding call_put_2
  then_2 others later next =
      shapes.Shape.Expansion source_level (made 30001 13) (made 30002 20) worked_end shapes.Ending.GoesOn
      shapes.Ending.GoesOn known call others
      (worked.repeat_line value_of_symbol (codes "30001$: .REPT 2") ∷ inner_line value_of_symbol (codes " NOP")
      ∷ inner_line value_of_symbol (codes " NOP")
      ∷ inner_line value_of_symbol (codes " BR 30001$") ∷ []) later (call_put_2 others) (call_puts_2 others) inside_2 tt next

  -- ---- the whole

  abbrev second_call : List UnfoldedLine
  second_call =
      source_line value_of_symbol (codes " TWICE") ∷ worked.repeat_line value_of_symbol (codes "30001$: .REPT 2")
      ∷ inner_line value_of_symbol (codes " NOP") ∷ inner_line value_of_symbol (codes " NOP") ∷ inner_line value_of_symbol (codes " BR 30001$")
      ∷ []

  abbrev both_calls : List UnfoldedLine
  both_calls =
      source_line value_of_symbol (codes " TWICE") ∷ worked.repeat_line value_of_symbol (codes "30000$: .REPT 2")
      ∷ inner_line value_of_symbol (codes " NOP") ∷ inner_line value_of_symbol (codes " NOP") ∷ inner_line value_of_symbol (codes " BR 30000$")
      ∷ second_call

  pub as_worked : Shape source_level beginning worked_source (worked_lines value_of_symbol) worked_end shapes.Ending.GoesOn
  as_worked =
      shapes.Shape.Definition source_level beginning worked_end shapes.Ending.GoesOn known first body_lines calls both_calls
      no_remarks twice_name
      twice_formals twice_body opens_macro has_body
      (then_1 (call ∷ []) second_call (then_2 [] [] (shapes.Shape.Nothing source_level worked_end)))

  pub unfolds_so : HasLiveLines worked_source (worked_lines value_of_symbol)
  unfolding alphabet code_of first_piece value_of
  unfolds_so =
      let all = walked 60 known (start worked_source) (record {
        gives = worked_lines value_of_symbol;
        after
            = stage_of source_level worked_end [];
      }) refl in
      record { stage = stage_of source_level worked_end []; unfolds = all.0; rests = all.1 }
