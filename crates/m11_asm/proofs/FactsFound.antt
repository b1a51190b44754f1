-- The facts of a source are those of its lines, added one after another.
use Rattle.std.proofs.Common.{◌≡◌, ◌∙◌, List, [], ◌∷◌, ◌++◌, map, flat_map, append-nil, Option, Some, None, refl, ap}
use Rattle.std.specs.Option.{option_or}
use Rattle.std.proofs.lemmas.List.{map-append}
use Rattle.std.proofs.lemmas.List.Concat.{flat_map-append}
use Rattle.indexmap.specs.IndexSet.{insert_key}
use Rattle.m11_base.specs.Rad50.{Name, is_same_name}
use Rattle.m11_unfold_rules.specs.Unfolding.{UnfoldedLine}
use Rattle.m11_scan_expressions.specs.Quantities.{Quantity}
use Rattle.m11_asm_rules.specs.Lines.{after_line}
use Rattle.m11_asm_rules.specs.Meanings.{empty_map}
use Rattle.m11_asm_rules.specs.Placements.{after_lines, table_after}
use Rattle.m11_asm_rules.specs.Sources.{last_of, line_identification, line_title, line_transfer, line_weak_names, transfer_after}
use Rattle.m11_asm_rules.specs.Tables.{Table, first_table}
use Rattle.m11_asm.specs.Facts.{each_once, facts_of, with_line}

or_none : {A : Type 0} (found : Option A) → option_or None found ≡ found
or_none found = refl

or_joins : {A : Type 0} (later middle earlier : Option A) → option_or (option_or later middle) earlier ≡ option_or later (option_or middle earlier)
or_joins (Some later) middle earlier = refl
or_joins None middle earlier = refl

last_more : {A : Type 0} (all : List (Option A)) (one : Option A) → last_of (all ++ one ∷ []) ≡ option_or one (last_of all)
last_more [] (Some one) = refl
last_more [] None = refl
last_more (first ∷ all) one = ap (λ l. option_or l first) (last_more all one) ∙ or_joins one (last_of all) first

title_more : (all : List UnfoldedLine) (one : UnfoldedLine)
    → last_of (map line_title (all ++ one ∷ [])) ≡ option_or (line_title one) (last_of (map line_title all))
title_more all one = ap last_of (map-append line_title all (one ∷ [])) ∙ last_more (map line_title all) (line_title one)

identification_more : (all : List UnfoldedLine) (one : UnfoldedLine) → last_of (map line_identification (all ++ one ∷ []))
    ≡ option_or (line_identification one) (last_of (map line_identification all))
identification_more all one =
    ap last_of (map-append line_identification all (one ∷ [])) ∙ last_more (map line_identification all) (line_identification one)

once_joined : (names first second : List Name) → each_once names (first ++ second) ≡ each_once (each_once names first) second
once_joined names [] second = refl
once_joined names (name ∷ first) second = once_joined (insert_key is_same_name names name) first second

weak_more : (all : List UnfoldedLine) (one : UnfoldedLine) → each_once [] (flat_map line_weak_names (all ++ one ∷ []))
    ≡ each_once (each_once [] (flat_map line_weak_names all)) (line_weak_names one)
weak_more all one =
    ap (each_once []) (flat_map-append line_weak_names all (one ∷ []))
    ∙ once_joined [] (flat_map line_weak_names all) (flat_map line_weak_names (one ∷ []))
    ∙ ap (each_once (each_once [] (flat_map line_weak_names all))) (append-nil (line_weak_names one))

transfer_more : (table : Table) (all : List UnfoldedLine) (one : UnfoldedLine) → transfer_after empty_map table (all ++ one ∷ [])
    ≡ option_or (line_transfer empty_map (after_lines empty_map table all) one) (transfer_after empty_map table all)
transfer_more table [] one = one_alone (line_transfer empty_map table one)
  where
    one_alone : (found : Option Quantity) → option_or None found ≡ option_or found None
    one_alone (Some found) = refl
    one_alone None = refl
transfer_more table (first ∷ all) one =
    ap (λ (l : Option Quantity). option_or l (line_transfer empty_map table first))
    (transfer_more (after_line empty_map table first) all one)
    ∙ or_joins (line_transfer empty_map (after_lines empty_map (after_line empty_map table first) all) one)
    (transfer_after empty_map (after_line empty_map table first) all) (line_transfer empty_map table first)

pub finds_more : (all : List UnfoldedLine) (one : UnfoldedLine)
    → facts_of (all ++ one ∷ []) ≡ with_line (table_after empty_map all) one (facts_of all)
finds_more all one =
    rw (title_more all one, identification_more all one, weak_more all one, transfer_more first_table all one) refl
