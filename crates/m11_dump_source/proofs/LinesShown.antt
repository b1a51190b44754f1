-- The lines that show what memory holds, one after another.
use Rattle.std.proofs.Common.{◌≡◌, ◌∙◌, ℕ, zero, suc, ◌+◌, ◌-◌, ◌<◌, List, [], ◌∷◌, drop, get_or, length, Option, Some, None, refl, sym, ap, subst, arith}
use Rattle.std.proofs.lemmas.List.{drop-drop, drop_more}
use Rattle.m11_dump_source.specs.Lines.{leading, line_at, lines_from, shown_at, size_shown}
use Rattle.m11_dump_source.specs.Memory.{Cells}
use Rattle.m11_dump_source.specs.declared.lines.Line.{Line}

-- the lines of some cells are the lines of those that the line before them doesn't show
lines_after : (address before : ℕ) (cells : Cells) → lines_from address before cells ≡ lines_from (address + before) 0 (drop before cells)
lines_after address zero cells =
    let e : address ≡ address + 0 = omega arith in ap (λ (a : ℕ). lines_from a 0 cells) e
lines_after address (suc before) [] = refl
lines_after address (suc before) (cell ∷ cells) =
    let e : address + 1 + before ≡ address + suc before = omega arith in
    lines_after (address + 1) before cells ∙ ap (λ (a : ℕ). lines_from a 0 (drop before cells)) e

-- the lines of some cells are the first line, and the lines of the cells that it doesn't show
line_first : (index size byte : ℕ) (cells : Cells) → 0 < size
    → size ≡ size_shown (shown_at index (leading 6 (Some byte ∷ cells)))
    → lines_from index 0 (Some byte ∷ cells)
    ≡ line_at index (leading 6 (Some byte ∷ cells)) ∷ lines_from (index + size) 0 (drop size (Some byte ∷ cells))
line_first index zero byte cells least is = absurd (omega (arith, least))
line_first index (suc rest) byte cells least is =
    let left : size_shown (shown_at index (leading 6 (Some byte ∷ cells))) - 1 ≡ rest = omega (arith, is) in
    let e : index + 1 + rest ≡ index + suc rest = omega arith in
    ap (λ (l : List Line). line_at index (leading 6 (Some byte ∷ cells)) ∷ l)
    (ap (λ (n : ℕ). lines_from (index + 1) n cells) left ∙ lines_after (index + 1) rest cells
    ∙ ap (λ (a : ℕ). lines_from a 0 (drop rest cells)) e)

-- the lines of memory from an index on, where there is no byte, and where there is one
module _ (memory : Cells) (index : ℕ) (within : index < length memory) where
  cell : (found : Option ℕ) → get_or memory index None ≡ found → drop index memory ≡ found ∷ drop (index + 1) memory
  cell found is = drop_more memory index None within ∙ ap (λ (c : Option ℕ). c ∷ drop (index + 1) memory) is

  pub gap_passed : get_or memory index None ≡ None
      → lines_from index 0 (drop index memory) ≡ lines_from (index + 1) 0 (drop (index + 1) memory)
  gap_passed none = ap (λ (cells : Cells). lines_from index 0 cells) (cell None none)

  pub line_passed : (byte size : ℕ) → get_or memory index None ≡ Some byte → 0 < size
      → size ≡ size_shown (shown_at index (leading 6 (drop index memory)))
      → lines_from index 0 (drop index memory)
      ≡ line_at index (leading 6 (drop index memory)) ∷ lines_from (index + size) 0 (drop (index + size) memory)
  line_passed byte size some least is =
      let rest : Cells = drop (index + 1) memory in
      let P : Cells → Type 0 = λ cells. lines_from index 0 cells ≡ line_at index (leading 6 cells) ∷ lines_from (index + size) 0 (drop size cells) in
      let size_is : size ≡ size_shown (shown_at index (leading 6 (Some byte ∷ rest))) =
      is ∙ ap (λ (cells : Cells). size_shown (shown_at index (leading 6 cells))) (cell (Some byte) some) in
      subst P (sym (cell (Some byte) some)) (line_first index size byte rest least size_is)
      ∙ ap (λ (cells : Cells). line_at index (leading 6 (drop index memory)) ∷ lines_from (index + size) 0 cells)
      (drop-drop size index memory)
