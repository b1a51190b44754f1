-- Bytes that are shown as instructions, one line after another.
use Rattle.std.proofs.Common.{◌≡◌, ◌∙◌, ℕ, zero, suc, ◌+◌, ◌-◌, ◌<◌, ◌≤◌, List, [], ◌∷◌, ◌++◌, append_assoc, drop, length, refl, sym, ap, take, arith}
use Rattle.std.proofs.lemmas.List.{drop-append-le, drop-drop, length-drop, length-take-le, take-append-drop, take_all}
use Rattle.m11_base_disassembly.specs.References.{no_references}
use Rattle.m11_base_disassembly.specs.declared.symbols.Symbol.{Symbol}
use Rattle.m11_dump.specs.Octets.{location_after}
use Rattle.m11_dump.specs.Instructions.{front_size, line_text, lines_from, over_from, unreferred}

module _ (address : ℕ) (beyond : List ℕ) where
  -- the lines of some bytes are the lines of those that the previous line doesn't show
  lines_after : (symbols : List Symbol) (shown index : ℕ) (bytes : List ℕ)
      → lines_from symbols unreferred address index shown bytes beyond ≡ lines_from symbols unreferred address (index + shown) 0 (drop shown bytes) beyond
  lines_after symbols zero index bytes =
      let e : index ≡ index + 0 = omega arith in ap (λ (i : ℕ). lines_from symbols unreferred address i 0 bytes beyond) e
  lines_after symbols (suc shown) index [] = refl
  lines_after symbols (suc shown) index (byte ∷ bytes) =
      let e : index + 1 + shown ≡ index + suc shown = omega arith in
      lines_after symbols shown (index + 1) bytes ∙ ap (λ (i : ℕ). lines_from symbols unreferred address i 0 (drop shown bytes) beyond) e

  over_after : (shown index : ℕ) (bytes : List ℕ)
      → over_from unreferred address index shown bytes beyond
      ≡ over_from unreferred address (index + shown) (shown - length bytes) (drop shown bytes) beyond
  over_after zero index bytes =
      let e : index ≡ index + 0 = omega arith in
      let none : 0 ≡ 0 - length bytes = omega arith in
      ap (λ (i : ℕ). over_from unreferred address i 0 bytes beyond) e
      ∙ ap (λ (n : ℕ). over_from unreferred address (index + 0) n bytes beyond) none
  over_after (suc shown) index [] =
      let e : suc shown ≡ suc shown - 0 = omega arith in e
  over_after (suc shown) index (byte ∷ bytes) =
      let e : index + 1 + shown ≡ index + suc shown = omega arith in
      let left : shown - length bytes ≡ suc shown - suc (length bytes) = omega arith in
      over_after shown (index + 1) bytes
      ∙ ap (λ (i : ℕ). over_from unreferred address i (shown - length bytes) (drop shown bytes) beyond) e
      ∙ ap (λ (n : ℕ). over_from unreferred address (index + suc shown) n (drop shown bytes) beyond) left

  pub lines_begin : (symbols : List Symbol) (shown : ℕ) (bytes : List ℕ)
      → lines_from symbols unreferred address 0 shown bytes beyond ≡ lines_from symbols unreferred address shown 0 (drop shown bytes) beyond
  lines_begin symbols shown bytes =
      let e : 0 + shown ≡ shown = omega arith in
      lines_after symbols shown 0 bytes ∙ ap (λ (i : ℕ). lines_from symbols unreferred address i 0 (drop shown bytes) beyond) e

  pub over_begins : (shown own : ℕ) (bytes : List ℕ) → length bytes ≡ own → over_from unreferred address 0 shown bytes beyond
      ≡ over_from unreferred address shown (shown - own) (drop shown bytes) beyond
  over_begins shown own bytes long =
      let e : 0 + shown ≡ shown = omega arith in
      over_after shown 0 bytes ∙ ap (λ (i : ℕ). over_from unreferred address i (shown - length bytes) (drop shown bytes) beyond) e
      ∙ ap (λ (n : ℕ). over_from unreferred address shown (shown - n) (drop shown bytes) beyond) long

  -- the lines of some bytes are the first line, and the lines of the bytes that it doesn't show
  first_line : (symbols : List Symbol) (index size : ℕ) (bytes : List ℕ) → 0 < length bytes → 0 < size
      → size ≡ front_size no_references (location_after address index) (bytes ++ beyond)
      → lines_from symbols unreferred address index 0 bytes beyond
      ≡ line_text symbols no_references (location_after address index) (bytes ++ beyond) ++ lines_from symbols unreferred address (index + size) 0 (drop size bytes) beyond
  first_line symbols index size [] some least is = absurd (omega (arith, some))
  first_line symbols index zero (byte ∷ bytes) some least is = absurd (omega (arith, least))
  first_line symbols index (suc rest) (byte ∷ bytes) some least is =
      let left : front_size no_references (location_after address index) (byte ∷ (bytes ++ beyond)) - 1 ≡ rest = omega (arith, is) in
      let e : index + 1 + rest ≡ index + suc rest = omega arith in
      ap (λ (t : List ℕ). line_text symbols no_references (location_after address index) (byte ∷ (bytes ++ beyond)) ++ t)
      (ap (λ (n : ℕ). lines_from symbols unreferred address (index + 1) n bytes beyond) left ∙ lines_after symbols rest (index + 1) bytes
      ∙ ap (λ (i : ℕ). lines_from symbols unreferred address i 0 (drop rest bytes) beyond) e)

  first_over : (index size : ℕ) (bytes : List ℕ) → 0 < length bytes → 0 < size
      → size ≡ front_size no_references (location_after address index) (bytes ++ beyond)
      → over_from unreferred address index 0 bytes beyond
      ≡ over_from unreferred address (index + size) (size - length bytes) (drop size bytes) beyond
  first_over index size [] some least is = absurd (omega (arith, some))
  first_over index zero (byte ∷ bytes) some least is = absurd (omega (arith, least))
  first_over index (suc rest) (byte ∷ bytes) some least is =
      let left : front_size no_references (location_after address index) (byte ∷ (bytes ++ beyond)) - 1 ≡ rest = omega (arith, is) in
      let e : index + 1 + rest ≡ index + suc rest = omega arith in
      let n : rest - length bytes ≡ suc rest - suc (length bytes) = omega arith in
      ap (λ (n : ℕ). over_from unreferred address (index + 1) n bytes beyond) left ∙ over_after rest (index + 1) bytes
      ∙ ap (λ (i : ℕ). over_from unreferred address i (rest - length bytes) (drop rest bytes) beyond) e
      ∙ ap (λ (n : ℕ). over_from unreferred address (index + suc rest) n (drop rest bytes) beyond) n

-- after the line that begins at an index, the lines of the bytes after it remain
module _ (bytes : List ℕ) (address own index size : ℕ) (there : own ≤ length bytes) (below : index < own) (least : 0 < size)
    (location : ℕ) (at : location ≡ location_after address index)
    (sized : size ≡ front_size no_references location (take (length bytes - index) (drop index bytes))) where
  abbrev mine : List ℕ
  mine = take own bytes

  abbrev beyond : List ℕ
  beyond = drop own bytes

  long : length mine ≡ own
  long = length-take-le own bytes there

  some : 0 < length (drop index mine)
  some = omega (arith, long, below, length-drop index mine)

  -- the bytes at and after the index, as the code passes them, are the remaining bytes of the text or block and those beyond it
  left_is : take (length bytes - index) (drop index bytes) ≡ drop index mine ++ beyond
  left_is = take_all (length bytes - index) (drop index bytes) (omega (arith, length-drop index bytes))
      ∙ ap (λ (l : List ℕ). drop index l) (sym (take-append-drop own bytes))
      ∙ drop-append-le index mine beyond (omega (arith, long, below))

  size_is : size ≡ front_size no_references (location_after address index) (drop index mine ++ beyond)
  size_is = sized ∙ ap (λ (p : ℕ). front_size no_references p (take (length bytes - index) (drop index bytes))) at
      ∙ ap (λ (l : List ℕ). front_size no_references (location_after address index) l) left_is

  dropped : drop size (drop index mine) ≡ drop (index + size) mine
  dropped = drop-drop size index mine

  pub line_shown : (symbols : List Symbol) (all now later : List ℕ) → now ++ lines_from symbols unreferred address index 0 (drop index mine) beyond ≡ all
      → later ≡ now ++ line_text symbols no_references location (take (length bytes - index) (drop index bytes))
      → later ++ lines_from symbols unreferred address (index + size) 0 (drop (index + size) mine) beyond ≡ all
  line_shown symbols all now later leads is =
      let line = line_text symbols no_references (location_after address index) (drop index mine ++ beyond) in
      let rest = lines_from symbols unreferred address (index + size) 0 (drop (index + size) mine) beyond in
      let line_is : line_text symbols no_references location (take (length bytes - index) (drop index bytes)) ≡ line =
      ap (λ (p : ℕ). line_text symbols no_references p (take (length bytes - index) (drop index bytes))) at
      ∙ ap (λ (l : List ℕ). line_text symbols no_references (location_after address index) l) left_is in
      ap (λ (t : List ℕ). t ++ rest) (is ∙ ap (λ (t : List ℕ). now ++ t) line_is)
      ∙ append_assoc now line rest
      ∙ ap (λ (t : List ℕ). now ++ t) (sym (first_line address beyond symbols index size (drop index mine) some least size_is
      ∙ ap (λ (l : List ℕ). line ++ lines_from symbols unreferred address (index + size) 0 l beyond) dropped))
      ∙ leads

  pub over_shown : (all : ℕ) → over_from unreferred address index (index - own) (drop index mine) beyond ≡ all
      → over_from unreferred address (index + size) (index + size - own) (drop (index + size) mine) beyond ≡ all
  over_shown all leads =
      let none : index - own ≡ 0 = omega (arith, below) in
      let left : size - length (drop index mine) ≡ index + size - own = omega (arith, long, below, length-drop index mine) in
      ap (λ (n : ℕ). over_from unreferred address (index + size) n (drop (index + size) mine) beyond) (sym left)
      ∙ ap (λ (l : List ℕ). over_from unreferred address (index + size) (size - length (drop index mine)) l beyond) (sym dropped)
      ∙ sym (first_over address beyond index size (drop index mine) some least size_is)
      ∙ ap (λ (n : ℕ). over_from unreferred address index n (drop index mine) beyond) (sym none)
      ∙ leads
