-- Lines of instructions with relocations after the bytes that they apply to, one byte after another.
use Rattle.std.proofs.Common.{◌≡◌, ◌∙◌, ℕ, zero, suc, ◌+◌, ◌-◌, ◌<◌, ◌≤◌, List, [], ◌∷◌, ◌++◌, append_assoc, drop, length, refl, sym, ap, take, arith}
use Rattle.std.proofs.lemmas.List.{drop-append-le, drop-drop, length-drop, length-take-le, take-append-drop, take_all}
use Rattle.m11_base_disassembly.specs.declared.references.References.{References}
use Rattle.m11_dump.specs.Beside.{left_at, line_at, lines_beside}
use Rattle.m11_dump.specs.Instructions.{over_from}
use Rattle.m11_dump.specs.Octets.{location_after}

-- the lines of some bytes are the line that begins with the first byte, the other lines for that byte, and the lines of the bytes after it
first_beside : (references : ℕ → References) (others : ℕ → List ℕ) (address index shown : ℕ) (bytes beyond : List ℕ) → 0 < length bytes
    → lines_beside references others address index shown bytes beyond
    ≡ line_at (references index) (location_after address index) shown (bytes ++ beyond) ++ (others index ++ lines_beside references others address (index + 1)
    (left_at (references index) (location_after address index) shown (bytes ++ beyond)) (drop 1 bytes) beyond)
first_beside references others address index shown [] beyond some = absurd (omega (arith, some))
first_beside references others address index shown (byte ∷ bytes) beyond some = refl

over_beside : (references : ℕ → References) (address index shown : ℕ) (bytes beyond : List ℕ) → 0 < length bytes → over_from references address index shown bytes beyond
    ≡ over_from references address (index + 1) (left_at (references index) (location_after address index) shown (bytes ++ beyond)) (drop 1 bytes) beyond
over_beside references address index shown [] beyond some = absurd (omega (arith, some))
over_beside references address index zero (byte ∷ bytes) beyond some = refl
over_beside references address index (suc shown) (byte ∷ bytes) beyond some = refl

drop_one : (index : ℕ) (bytes : List ℕ) → drop 1 (drop index bytes) ≡ drop (index + 1) bytes
drop_one index bytes = drop-drop 1 index bytes

-- after the lines of the byte at an index, the lines of the bytes after it remain
module _ (bytes : List ℕ) (address own index : ℕ) (there : own ≤ length bytes) (below : index < own) (location : ℕ)
    (at : location ≡ location_after address index) where
  abbrev mine : List ℕ
  mine = take own bytes

  abbrev beyond : List ℕ
  beyond = drop own bytes

  long : length mine ≡ own
  long = length-take-le own bytes there

  some : 0 < length (drop index mine)
  some = omega (arith, long, below, length-drop index mine)

  -- the bytes at and after the index, as the code passes them, are the text's remaining bytes and those beyond the text
  left_is : take (length bytes - index) (drop index bytes) ≡ drop index mine ++ beyond
  left_is = take_all (length bytes - index) (drop index bytes) (omega (arith, length-drop index bytes))
      ∙ ap (λ (l : List ℕ). drop index l) (sym (take-append-drop own bytes))
      ∙ drop-append-le index mine beyond (omega (arith, long, below))

  dropped : drop 1 (drop index mine) ≡ drop (index + 1) mine
  dropped = drop_one index mine

  module _ (references : ℕ → References) (others : ℕ → List ℕ) (shown left : ℕ)
      (left_at_is : left ≡ left_at (references index) location shown (take (length bytes - index) (drop index bytes))) where
    left_here : left ≡ left_at (references index) (location_after address index) shown (drop index mine ++ beyond)
    left_here = left_at_is ∙ ap (λ (p : ℕ). left_at (references index) p shown (take (length bytes - index) (drop index bytes))) at
        ∙ ap (λ (l : List ℕ). left_at (references index) (location_after address index) shown l) left_is

    pub byte_beside : (all now middle later : List ℕ) → now ++ lines_beside references others address index shown (drop index mine) beyond ≡ all
        → middle ≡ now ++ line_at (references index) location shown (take (length bytes - index) (drop index bytes)) → later ≡ middle ++ others index
        → later ++ lines_beside references others address (index + 1) left (drop (index + 1) mine) beyond ≡ all
    byte_beside all now middle later leads line_is others_is =
        let line = line_at (references index) (location_after address index) shown (drop index mine ++ beyond) in
        let rest = lines_beside references others address (index + 1) left (drop (index + 1) mine) beyond in
        let same : line_at (references index) location shown (take (length bytes - index) (drop index bytes)) ≡ line =
        ap (λ (p : ℕ). line_at (references index) p shown (take (length bytes - index) (drop index bytes))) at
        ∙ ap (λ (l : List ℕ). line_at (references index) (location_after address index) shown l) left_is in
        let first : lines_beside references others address index shown (drop index mine) beyond ≡ line ++ (others index ++ rest) =
        first_beside references others address index shown (drop index mine) beyond some
        ∙ ap (λ (n : ℕ). line ++ (others index ++ lines_beside references others address (index + 1) n (drop 1 (drop index mine)) beyond))
        (sym left_here)
        ∙ ap (λ (l : List ℕ). line ++ (others index ++ lines_beside references others address (index + 1) left l beyond)) dropped in
        ap (λ (t : List ℕ). t ++ rest) (others_is ∙ ap (λ (t : List ℕ). t ++ others index) (line_is ∙ ap (λ (t : List ℕ). now ++ t) same))
        ∙ append_assoc (now ++ line) (others index) rest
        ∙ append_assoc now line (others index ++ rest)
        ∙ ap (λ (t : List ℕ). now ++ t) (sym first)
        ∙ leads

    pub over_passed : (all : ℕ) → over_from references address index shown (drop index mine) beyond ≡ all
        → over_from references address (index + 1) left (drop (index + 1) mine) beyond ≡ all
    over_passed all leads =
        ap (λ (l : List ℕ). over_from references address (index + 1) left l beyond) (sym dropped)
        ∙ ap (λ (n : ℕ). over_from references address (index + 1) n (drop 1 (drop index mine)) beyond) left_here
        ∙ sym (over_beside references address index shown (drop index mine) beyond some)
        ∙ leads
