-- The names of a list become global one after the other.
use Rattle.std.proofs.Common.{◌≡◌, ◌∙◌, ◌≤◌, ◌-◌, List, [], ◌∷◌, drop, get_or, length, take, Option, Some, None, Result, Ok, Err, IfOk, refl, sym, ap, arith}
use Rattle.std.specs.List.{cons_option}
use Rattle.std.proofs.lemmas.List.{take_all}
use Rattle.std.specs.Option.{option_to_list}
use Rattle.m11_base.specs.Devices.{Bytes}
use Rattle.m11_base.specs.Rad50.{Name}
use Rattle.m11_asm_rules.specs.Changes.{with_globals}
use Rattle.m11_asm_rules.specs.Elements.{names_of, texts_of}
use Rattle.m11_asm_rules.specs.Tables.{Table}
use Rattle.m11_scan_statements.specs.declared.spans.Span.{Span}

none_first : 1 ≤ 0 → ⊥
none_first some = omega (arith, some)

first_global : (name : Option Name) (more : List Name) (table : Table)
    → with_globals more (with_globals (cons_option name []) table) ≡ with_globals (cons_option name more) table
first_global (Some name) more table = refl
first_global None more table = refl

then_others : (line : Bytes) (name : Option Span) (rest : List (Option Span)) (table : Table)
    → with_globals (names_of (texts_of line rest)) (with_globals (names_of (texts_of line (name ∷ []))) table)
    ≡ with_globals (names_of (texts_of line (name ∷ rest))) table
then_others line (Some name) rest table = first_global _ (names_of (texts_of line rest)) table
then_others line None rest table = refl

pub exported_then : (line : Bytes) (names : List (Option Span)) (name other : Option Span) (found : Option Name) (old middle new : Table)
    → 1 ≤ length names → get_or names 0 other ≡ name → option_to_list found ≡ names_of (texts_of line (name ∷ []))
    → middle ≡ with_globals (option_to_list found) old
    → {F : Type 0} (result : Result (Unit {0}) F)
    → IfOk result (λ _. new ≡ with_globals (names_of (texts_of line (take (length names - 1) (drop 1 names)))) middle)
    → IfOk result (λ _. new ≡ with_globals (names_of (texts_of line names)) old)
exported_then line [] name other found old middle new some first is exports result all = absurd (none_first some)
exported_then line (item ∷ rest) name other found old middle new some first is exports (Err fault) all = tt
exported_then line (item ∷ rest) name other found old middle new some first is exports (Ok done) all =
    all
    ∙ ap (λ (l : List (Option Span)). with_globals (names_of (texts_of line l)) middle) (take_all (length (item ∷ rest) - 1) rest (omega arith))
    ∙ ap (λ (t : Table). with_globals (names_of (texts_of line rest)) t)
    (exports ∙ ap (λ (l : List Name). with_globals l old)
    (is ∙ ap (λ (n : Option Span). names_of (texts_of line (n ∷ []))) (sym first)))
    ∙ then_others line item rest old
