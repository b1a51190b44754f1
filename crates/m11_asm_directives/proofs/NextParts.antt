-- The parts of a text that begin at a column, by the next part.
use Rattle.std.proofs.Common.{◌≡◌, ℕ, suc, Bool, true, false, not, List, [], ◌∷◌, ◌++◌, Option, Some, None, refl, sym, ap, ◌∙◌}
use Rattle.std.proofs.lemmas.List.{append_assoc, append-nil}
use Rattle.std.specs.Prelude.{if◌then◌else◌}
use Rattle.m11_asm_rules.specs.Elements.{ListAt, item_before}
use Rattle.m11_asm_rules.specs.Strings.{parts_by, parts_within}
use Rattle.m11_scan_statements.specs.Parts.{next_part}
use Rattle.m11_scan_statements.specs.declared.parts.Part.{Part}
use Rattle.m11_asm_directives.specs.Seen.{parts_of, parts_then}

-- if no part comes next, the parts found so far are all the parts
ended : (line : List ℕ) (is_first : Bool) (column : ℕ) (list : List Part) (more whole : ListAt Part) → more ≡ parts_of [] column
    → parts_then list more ≡ whole → parts_of list column ≡ whole
ended line is_first column list more whole none all =
    ap (λ (l : List Part). parts_of l column) (sym (append-nil list)) ∙ ap (λ (p : ListAt Part). parts_then list p) (sym none) ∙ all

-- if the bound is 0, the parts found so far are all the parts
pub bound_ends : (line : List ℕ) (is_first : Bool) (left column : ℕ) (list : List Part) (whole : ListAt Part) → left ≡ 0
    → parts_then list (parts_within left line is_first column) ≡ whole → parts_of list column ≡ whole
bound_ends line is_first left column list whole is all =
    ended line is_first column list (parts_within left line is_first column) whole
    (ap (λ (n : ℕ). parts_within n line is_first column) is) all

module _ (line : List ℕ) (is_first : Bool) (left next column : ℕ) (is : left ≡ suc next) (list : List Part) (whole : ListAt Part)
    (all : parts_then list (parts_within left line is_first column) ≡ whole) where
  stands : (found : Option Part) → found ≡ next_part line column is_first
      → parts_within left line is_first column ≡ parts_by (λ n. parts_within next line false n) column found
  stands found same =
      ap (λ (n : ℕ). parts_within n line is_first column) is
      ∙ ap (λ (f : Option Part). parts_by (λ n. parts_within next line false n) column f) (sym same)

  pub parts_end : None ≡ next_part line column is_first → parts_of list column ≡ whole
  parts_end none =
      ended line is_first column list (parts_within left line is_first column) whole (stands None none) all

  module _ (part : Part) (longer : List Part) (some : Some part ≡ next_part line column is_first)
      (pushed : longer ≡ list ++ part ∷ []) where
    before : (more : ListAt Part) → parts_within left line is_first column ≡ item_before part more → parts_then longer more ≡ whole
    before more same =
        ap (λ (l : List Part). parts_then l more) pushed
        ∙ ap (λ (l : List Part). parts_of l more.end) (append_assoc list (part ∷ []) more.list)
        ∙ ap (λ (p : ListAt Part). parts_then list p) (sym same) ∙ all

    by_end : (is_closed : Bool) → part.is_closed ≡ is_closed
        → parts_within left line is_first column
        ≡ (if is_closed then item_before part (parts_within next line false part.end) else parts_of (part ∷ []) part.end)
    by_end is_closed closes =
        stands (Some part) some
        ∙ ap (λ (b : Bool). if b then item_before part (parts_within next line false part.end) else parts_of (part ∷ []) part.end)
        closes

    -- a part without its closing delimiter is the last one
    pub part_breaks : part.is_closed ≡ false → parts_of longer part.end ≡ whole
    part_breaks unclosed =
        ap (λ (l : List Part). parts_of l part.end) pushed ∙ ap (λ (p : ListAt Part). parts_then list p) (sym (by_end false unclosed)) ∙ all

    -- after any other part, the next one begins at its end
    pub part_joins : part.is_closed ≡ true → (after : ℕ) → after ≡ part.end
        → parts_then longer (parts_within next line false after) ≡ whole
    part_joins closed after same =
        ap (λ (n : ℕ). parts_then longer (parts_within next line false n)) same
        ∙ before (parts_within next line false part.end) (by_end true closed)

pub is_open : (closed : Bool) → not closed ≡ true → closed ≡ false
is_open true e = sym e
is_open false e = refl

pub is_closed : (closed : Bool) → not closed ≡ false → closed ≡ true
is_closed true e = refl
is_closed false e = sym e
