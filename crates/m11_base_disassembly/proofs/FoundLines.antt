-- The lines that were found in the first lines of a listing.
use Rattle.std.proofs.Common.{◌≡◌, ◌∙◌, ℕ, Bool, false, cond, List, [], ◌∷◌, ◌++◌, append_assoc, Option, Some, None, refl, sym, subst, ap}
use Rattle.std.specs.Borrow.{Bor}
use Rattle.std.specs.List.{filter_map}
use Rattle.std.specs.Option.{option_to_list}
use Rattle.std.specs.Prelude.{codes}
use Rattle.std.specs.Str.{bytes_eq}
use Rattle.m11_base_disassembly.specs.Fitting.{Fits}
use Rattle.m11_base_disassembly.specs.ListedLines.{ListedLine, lines_before, listed_line, listed_lines}
use Rattle.m11_base_disassembly.specs.declared.listed_lines.Fitting.{Fitting}
use Rattle.m11_base_disassembly.specs.declared.listed_lines.Fitting.TheVariants.{Nothing, Single}

-- what the first of several lines shows comes before what the others show
first_shown : (h : List ℕ → Option ListedLine) (line : List ℕ) (others : List (List ℕ))
    → filter_map h (line ∷ others) ≡ option_to_list (h line) ++ filter_map h others
first_shown h line others = by (h line) refl
  where
    by : (shown : Option ListedLine) → h line ≡ shown → filter_map h (line ∷ others) ≡ option_to_list (h line) ++ filter_map h others
    by (Some shown) is = rw is refl
    by None is = rw is refl

-- if one more line is read, what it shows, if it shows a word, follows what was found before
pub one_listed : (lines rest : List (List ℕ)) (line : List ℕ) (others : List (List ℕ)) (found new : List ListedLine)
    → listed_lines lines ≡ found ++ listed_lines rest → rest ≡ line ∷ others → bytes_eq line (codes "SYMBOL TABLE") ≡ false
    → new ≡ found ++ option_to_list (listed_line line) → listed_lines lines ≡ new ++ listed_lines others
one_listed lines rest line others found new so_far first other added =
    let before : List (List ℕ) = lines_before (codes "SYMBOL TABLE") others in
    let here : listed_lines (line ∷ others) ≡ option_to_list (listed_line line) ++ listed_lines others =
    ap (λ (b : Bool). filter_map listed_line (cond b [] (line ∷ before))) other ∙ first_shown listed_line line before in
    so_far ∙ ap (λ (r : List (List ℕ)). found ++ listed_lines r) first ∙ ap (λ (l : List ListedLine). found ++ l) here
    ∙ sym (append_assoc found (option_to_list (listed_line line)) (listed_lines others))
    ∙ ap (λ (l : List ListedLine). l ++ listed_lines others) (sym added)

-- if no line was found to fit before, this one alone does
pub first_fits : (found : Fitting) (line : ListedLine) (text : Bor (List ℕ)) (before : List ListedLine) → found ≡ Nothing → Fits found before
    → line.text ≡ text.now → Fits (Single text) (before ++ line ∷ [])
first_fits found line text before none fits same =
    let nothing : before ≡ [] = subst (λ (f : Fitting). Fits f before) none fits in
    (line, ap (λ (l : List ListedLine). l ++ line ∷ []) nothing, same)
