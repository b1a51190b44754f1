-- The addresses that are marked, those of one line after another.
use Rattle.std.proofs.Common.{◌≡◌, ◌∙◌, ℕ, ◌+◌, ◌<◌, ◌≤◌, ◌==◌, ◌||◌, Bool, true, false, List, [], ◌∷◌, drop, get_or, length, refl, sym, ap}
use Rattle.std.proofs.lemmas.List.{drop_all, drop_more}
use Rattle.std.proofs.lemmas.List.Folds.{list_any-append}
use Rattle.std.specs.List.{flat_map}
use Rattle.m11_dump_source.specs.Labels.{addresses_in, is_among, targets}
use Rattle.m11_dump_source.specs.declared.lines.Line.{Line}

either_again : (a b c : Bool) → ((a || b) || c) ≡ (a || (b || c))
either_again true b c = refl
either_again false b c = refl

either_none : (a : Bool) → (a || false) ≡ a
either_none true = refl
either_none false = refl

pub start_marked : (old new : Bool) (start at : ℕ) (lines : List Line) → old ≡ false → new ≡ (old || is_among (start ∷ []) at)
    → (new || is_among (flat_map addresses_in lines) at) ≡ is_among (targets start lines) at
start_marked old new start at lines none is =
    ap (λ (b : Bool). b || is_among (flat_map addresses_in lines) at)
    (is ∙ ap (λ (b : Bool). b || is_among (start ∷ []) at) none ∙ either_none (start == at))

pub more_marked : (old new all : Bool) (lines : List Line) (index : ℕ) (line : Line) (at : ℕ) (found : List ℕ) → index < length lines
    → found ≡ addresses_in (get_or lines index line) → new ≡ (old || is_among found at)
    → (old || is_among (flat_map addresses_in (drop index lines)) at) ≡ all
    → (new || is_among (flat_map addresses_in (drop (index + 1) lines)) at) ≡ all
more_marked old new all lines index line at found within is marked before =
    let rest : List ℕ = flat_map addresses_in (drop (index + 1) lines) in
    let own : List ℕ = addresses_in (get_or lines index line) in
    ap (λ (b : Bool). b || is_among rest at) (marked ∙ ap (λ (l : List ℕ). old || is_among l at) is)
    ∙ either_again old (is_among own at) (is_among rest at)
    ∙ ap (λ (b : Bool). old || b) (sym (list_any-append (λ address. address == at) own rest))
    ∙ ap (λ (l : List Line). old || is_among (flat_map addresses_in l) at) (sym (drop_more lines index line within)) ∙ before

pub all_marked : (marked all : Bool) (lines : List Line) (index at : ℕ) → length lines ≤ index
    → (marked || is_among (flat_map addresses_in (drop index lines)) at) ≡ all → marked ≡ all
all_marked marked all lines index at past before =
    sym (either_none marked)
    ∙ ap (λ (l : List Line). marked || is_among (flat_map addresses_in l) at) (sym (drop_all index lines past)) ∙ before
