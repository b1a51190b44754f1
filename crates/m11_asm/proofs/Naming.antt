-- Names inserted one after another.
use Rattle.std.proofs.Common.{◌≡◌, ◌∙◌, ◌≤◌, ◌-◌, List, [], ◌∷◌, drop, get_or, length, take, Option, Some, None, refl, sym, ap, arith}
use Rattle.std.specs.List.{cons_option}
use Rattle.std.proofs.lemmas.List.{take_all}
use Rattle.std.specs.Option.{option_to_list}
use Rattle.m11_base.specs.Devices.{Bytes}
use Rattle.m11_base.specs.NameCharacters.{six_of}
use Rattle.m11_base.specs.Rad50.{Name, name_of}
use Rattle.m11_scan.specs.Cutting.{text_between}
use Rattle.m11_asm_rules.specs.Elements.{names_of, texts_of}
use Rattle.m11_scan_statements.specs.declared.spans.Span.{Span}
use Rattle.m11_asm.specs.Facts.{each_once}

then_others : (names : List Name) (name : Option Name) (more : List Name)
    → each_once names (cons_option name more) ≡ each_once (each_once names (cons_option name [])) more
then_others names (Some name) more = refl
then_others names None more = refl

one_first : (names : List Name) (line : Bytes) (name : Option Span) (more : List (Option Span))
    → each_once names (names_of (texts_of line (name ∷ more)))
    ≡ each_once (each_once names (names_of (texts_of line (name ∷ [])))) (names_of (texts_of line more))
one_first names line (Some name) more =
    then_others names (name_of (six_of (text_between line name.start name.end))) (names_of (texts_of line more))
one_first names line None more = refl

none_first : 1 ≤ 0 → ⊥
none_first some = omega (arith, some)

pub inserted_first : (line : Bytes) (list : List (Option Span)) (name other : Option Span) (found : Option Name) (before after : List Name)
    → 1 ≤ length list → get_or list 0 other ≡ name → option_to_list found ≡ names_of (texts_of line (name ∷ []))
    → after ≡ each_once before (option_to_list found)
    → each_once after (names_of (texts_of line (take (length list - 1) (drop 1 list)))) ≡ each_once before (names_of (texts_of line list))
inserted_first line [] name other found before after some first is inserts = absurd (none_first some)
inserted_first line (item ∷ rest) name other found before after some first is inserts =
    ap (λ (l : List (Option Span)). each_once after (names_of (texts_of line l))) (take_all (length (item ∷ rest) - 1) rest (omega arith))
    ∙ ap (λ (l : List Name). each_once l (names_of (texts_of line rest)))
    (inserts ∙ ap (each_once before) (is ∙ ap (λ (n : Option Span). names_of (texts_of line (n ∷ []))) (sym first)))
    ∙ sym (one_first before line item rest)
