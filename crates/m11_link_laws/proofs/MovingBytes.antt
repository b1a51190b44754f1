-- A byte of a text stays the same unless a relocation that moves covers it.
use Rattle.std.proofs.Common.{◌≡◌, ℕ, ◌+◌, ◌-◌, ◌<◌, ◌≤◌, Bool, true, false, ◌&&◌, ◌||◌, not, nat_le, nat_lt, if◌then◌else◌, List, [], ◌∷◌, ◌++◌, length, get_or, take, drop, refl, sym, ap, ap₂, ◌∙◌, subst, true≢false, arith, length-append, get_or-drop, get_or-take}
use Rattle.std.proofs.lemmas.Bool.Decides.{nat_tests}
use Rattle.std.proofs.lemmas.List.{get_or-append_right, get_or_append_left, length-take-le}
use Rattle.m11_obj.specs.declared.relocations.Relocation.{Relocation}
use Rattle.m11_obj.specs.declared.relocations.Target.TheVariants as target
use Rattle.m11_link_modules.specs.Parts.{Part}
use Rattle.m11_link_modules.specs.Rules.{lies_within, width_of}
use Rattle.m11_link_text.specs.Findings.{Findings, findings_of}
use Rattle.m11_link_text.specs.Relocation.{modulo, replaced, stored_bytes}
use Rattle.m11_link_text.proofs.Stored.{stored_width}
use Rattle.m11_link.specs.Written.{PlacedText, placed_text, with_relocation, with_relocations}
use Rattle.m11_link_laws.specs.Moving.{byte_stays, bytes_moved, covers, moves, relocation_moved, relocations_moved, target_stays, text_position}
use Rattle.m11_link_laws.proofs.MovingLaws.{text_content}
use Rattle.m11_link_laws.proofs.MovingShapes.{bytes_length, relocation_length}
use Rattle.m11_link_laws.proofs.MovingStored.{both, bytes_stay}

-- ---- a byte of a text in which some bytes are replaced

abbrev one_of : ℕ → ℕ → ℕ → ℕ → ℕ → ℕ
one_of start count index outside inside =
    if nat_lt index start then outside else if nat_lt index (start + count) then inside else outside

below : (n m : ℕ) → nat_lt n m ≡ true → n < m
below n m e = grind (arith, nat_tests)

above : (n m : ℕ) → nat_lt n m ≡ false → m ≤ n
above n m e = grind (arith, nat_tests)

farther_below : (n m k : ℕ) → n < m → n < m + k
farther_below n m k h = omega arith

rest_below : (n m k : ℕ) → m ≤ n → n < m + k → n - m < k
rest_below n m k h g = omega arith

back : (n m : ℕ) → m ≤ n → m + (n - m) ≡ n
back n m h = omega arith

replaced_at : (text bytes : List ℕ) (start index : ℕ) → start ≤ length text
    → get_or (replaced text start bytes) index 0
    ≡ one_of start (length bytes) index (get_or text index 0) (get_or bytes (index - start) 0)
replaced_at text bytes start index h = by (nat_lt index start) (nat_lt index (start + length bytes)) refl refl
  where
    first : length (take start text) ≡ start
    first = length-take-le start text h

    front : length (take start text ++ bytes) ≡ start + length bytes
    front = length-append (take start text) bytes ∙ ap (λ n. n + length bytes) first

    in_front : index < start + length bytes
        → get_or ((take start text ++ bytes) ++ drop (start + length bytes) text) index 0
        ≡ get_or (take start text ++ bytes) index 0
    in_front g =
        get_or_append_left (take start text ++ bytes) (drop (start + length bytes) text) 0 index
        (subst (λ n. index < n) (sym front) g)

    by : (b c : Bool) → nat_lt index start ≡ b → nat_lt index (start + length bytes) ≡ c
        → get_or ((take start text ++ bytes) ++ drop (start + length bytes) text) index 0
        ≡ (if b then get_or text index 0 else if c then get_or bytes (index - start) 0 else get_or text index 0)
    by true c e f =
        let g : index < start = below index start e in
        in_front (farther_below index start (length bytes) g)
        ∙ get_or_append_left (take start text) bytes 0 index (subst (λ n. index < n) (sym first) g)
        ∙ get_or-take start text index 0 g
    by false true e f =
        in_front (below index (start + length bytes) f)
        ∙ get_or-append_right (take start text) bytes start index 0 first (above index start e)
    by false false e f =
        let g : start + length bytes ≤ index = above index (start + length bytes) f in
        get_or-append_right (take start text ++ bytes) (drop (start + length bytes) text) (start + length bytes) index 0
        front g
        ∙ get_or-drop (start + length bytes) text (index - (start + length bytes)) 0
        ∙ ap (λ n. get_or text n 0) (back index (start + length bytes) g)

-- ---- a byte that a relocation doesn't cover

starts_within : (displacement width count : ℕ)
    → (nat_le 4 displacement && nat_le (displacement + width) (4 + count)) ≡ true → displacement - 4 ≤ count
starts_within displacement width count e = by (both (nat_le 4 displacement) _ e)
  where
    by : (nat_le 4 displacement ≡ true) × (nat_le (displacement + width) (4 + count) ≡ true)
        → displacement - 4 ≤ count
    by h = plain h.0 h.1
      where
        plain : nat_le 4 displacement ≡ true → nat_le (displacement + width) (4 + count) ≡ true
            → displacement - 4 ≤ count
        plain e f = grind (arith, nat_tests)

uncovered : (index displacement width count : ℕ) → nat_le 4 displacement ≡ true → count ≤ width
    → nat_lt index (displacement - 4) ≡ false
    → nat_lt index (displacement - 4 + count) ≡ true
    → (nat_le displacement (4 + index) && nat_lt (4 + index) (displacement + width)) ≡ true
uncovered index displacement width count l h e f =
    by (nat_le displacement (4 + index)) (nat_lt (4 + index) (displacement + width)) refl refl
  where
    by : (b c : Bool) → nat_le displacement (4 + index) ≡ b → nat_lt (4 + index) (displacement + width) ≡ c
        → (b && c) ≡ true
    by true true g k = refl
    by true false g k = absurd (grind (arith, nat_tests))
    by false c g k = absurd (grind (arith, nat_tests))

outside : (index displacement width count one other : ℕ) → nat_le 4 displacement ≡ true → count ≤ width
    → not (nat_le displacement (4 + index) && nat_lt (4 + index) (displacement + width)) ≡ true
    → one_of (displacement - 4) count index one other ≡ one
outside index displacement width count one other l h n =
    by (nat_lt index (displacement - 4)) (nat_lt index (displacement - 4 + count)) refl refl
  where
    by : (b c : Bool) → nat_lt index (displacement - 4) ≡ b → nat_lt index (displacement - 4 + count) ≡ c
        → (if b then one else if c then other else one) ≡ one
    by true c e f = refl
    by false true e f =
        absurd (true≢false (sym n ∙ ap not (uncovered index displacement width count l h e f)))
    by false false e f = refl

-- ---- one relocation of two texts that have a byte in common

either : (b c : Bool) → (b || c) ≡ true → (b ≡ false → c ≡ true)
either true c e f = absurd (true≢false f)
either false c e f = e

module _ (distance : ℕ) (parts : List Part) (near : Findings) (index : ℕ) where
  replaced_same : (does_move : Bool) (text : PlacedText) (bytes : List ℕ) (relocation : Relocation)
      → length text.bytes ≡ length bytes → get_or text.bytes index 0 ≡ get_or bytes index 0
      → (target_stays parts text.module_index does_move relocation.target || not (covers index relocation)) ≡ true
      → lies_within relocation (length bytes) ≡ true
      → get_or (replaced text.bytes (relocation.displacement - 4) (bytes_moved distance parts near (text_position text.module_index text.base (modulo (text.address + (relocation.displacement - 4))) does_move) relocation.is_byte relocation.target))
      index 0
      ≡ get_or (replaced bytes (relocation.displacement - 4) (stored_bytes near text.module_index
      text.base (modulo (text.address + (relocation.displacement - 4))) relocation.is_byte relocation.target)) index 0
  replaced_same does_move text bytes relocation e g s l =
      by (target_stays parts text.module_index does_move relocation.target) refl
    where
      start : ℕ
      start = relocation.displacement - 4

      location : ℕ
      location = modulo (text.address + (relocation.displacement - 4))

      far : List ℕ
      far = bytes_moved distance parts near (text_position text.module_index text.base (modulo (text.address + (relocation.displacement - 4))) does_move) relocation.is_byte relocation.target

      here : List ℕ
      here = stored_bytes near text.module_index text.base
          (modulo (text.address + (relocation.displacement - 4))) relocation.is_byte relocation.target

      within : relocation.displacement - 4 ≤ length bytes
      within = starts_within relocation.displacement (width_of relocation.is_byte relocation.target) (length bytes) l

      lengths : length far ≡ length here
      lengths = bytes_length distance parts near text.module_index text.base
          (modulo (text.address + (relocation.displacement - 4))) does_move relocation.is_byte relocation.target

      width : length here ≤ width_of relocation.is_byte relocation.target
      width = stored_width near text.module_index text.base
          (modulo (text.address + (relocation.displacement - 4))) relocation.is_byte relocation.target

      at_far : get_or (replaced text.bytes start far) index 0
          ≡ one_of start (length far) index (get_or text.bytes index 0) (get_or far (index - start) 0)
      at_far = replaced_at text.bytes far start index (subst (λ n. start ≤ n) (sym e) within)

      at_here : get_or (replaced bytes start here) index 0
          ≡ one_of start (length here) index (get_or bytes index 0) (get_or here (index - start) 0)
      at_here = replaced_at bytes here start index within

      uncovered_here : target_stays parts text.module_index does_move relocation.target ≡ false
          → not (covers index relocation) ≡ true
      uncovered_here = either (target_stays parts text.module_index does_move relocation.target)
          (not (covers index relocation)) s

      by : (b : Bool) → target_stays parts text.module_index does_move relocation.target ≡ b
          → get_or (replaced text.bytes start far) index 0 ≡ get_or (replaced bytes start here) index 0
      by true f =
          at_far
          ∙ ap₂ (λ stored outside. one_of start (length stored) index outside (get_or stored (index - start) 0))
          (bytes_stay distance parts near text.module_index text.base
          (modulo (text.address + (relocation.displacement - 4))) does_move relocation.is_byte relocation.target f) g
          ∙ sym at_here
      by false f =
          let low = (both (nat_le 4 relocation.displacement) _ l).0 in
          at_far
          ∙ outside index relocation.displacement (width_of relocation.is_byte relocation.target) (length far)
          (get_or text.bytes index 0) (get_or far (index - start) 0) low
          (subst (λ n. n ≤ width_of relocation.is_byte relocation.target) (sym lengths) width) (uncovered_here f)
          ∙ g
          ∙ sym (outside index relocation.displacement (width_of relocation.is_byte relocation.target) (length here)
          (get_or bytes index 0) (get_or here (index - start) 0) low width (uncovered_here f))
          ∙ sym at_here

  relocation_same : (does_move : Bool) (text : PlacedText) (bytes : List ℕ) (relocation : Relocation)
      → length text.bytes ≡ length bytes → get_or text.bytes index 0 ≡ get_or bytes index 0
      → (target_stays parts text.module_index does_move relocation.target || not (covers index relocation)) ≡ true
      → get_or (relocation_moved distance parts near does_move text relocation).bytes index 0
      ≡ get_or (with_relocation near (record text { bytes = bytes }) relocation).bytes index 0
  relocation_same does_move text bytes relocation e g s =
      ap (λ count. get_or (if lies_within relocation count then replaced text.bytes (relocation.displacement - 4)
      (bytes_moved distance parts near (text_position text.module_index text.base (modulo (text.address + (relocation.displacement - 4))) does_move) relocation.is_byte relocation.target)
      else text.bytes) index 0) e
      ∙ by (lies_within relocation (length bytes)) refl
    where
      by : (b : Bool) → lies_within relocation (length bytes) ≡ b
          → get_or (if b then replaced text.bytes (relocation.displacement - 4)
          (bytes_moved distance parts near (text_position text.module_index text.base (modulo (text.address + (relocation.displacement - 4))) does_move) relocation.is_byte relocation.target)
          else text.bytes) index 0
          ≡ get_or (if b then replaced bytes (relocation.displacement - 4)
          (stored_bytes near text.module_index text.base
          (modulo (text.address + (relocation.displacement - 4))) relocation.is_byte relocation.target) else bytes)
          index 0
      by true l = replaced_same does_move text bytes relocation e g s l
      by false l = g

  relocations_same : (does_move : Bool) (text : PlacedText) (bytes : List ℕ) (relocations : List Relocation)
      → length text.bytes ≡ length bytes → get_or text.bytes index 0 ≡ get_or bytes index 0
      → byte_stays parts text.module_index does_move relocations index ≡ true
      → get_or (relocations_moved distance parts near does_move text relocations).bytes index 0
      ≡ get_or (with_relocations near (record text { bytes = bytes }) relocations).bytes index 0
  relocations_same does_move text bytes [] e g s = g
  relocations_same does_move text bytes (relocation ∷ relocations) e g s =
      let h = both (target_stays parts text.module_index does_move relocation.target || not (covers index relocation))
      (byte_stays parts text.module_index does_move relocations index) s in
      relocations_same does_move (relocation_moved distance parts near does_move text relocation)
      (with_relocation near (record text { bytes = bytes }) relocation).bytes relocations
      (relocation_length distance parts near does_move text bytes relocation e)
      (relocation_same does_move text bytes relocation e g h.0) h.1

pub byte_is_same : (bottom distance : ℕ) (parts : List Part) (module_index : ℕ) (section : ℕ × ℕ) (address : ℕ)
    (bytes : List ℕ) (relocations : List Relocation) (index : ℕ)
    → byte_stays parts module_index (moves parts module_index section) relocations index ≡ true
    → get_or (with_relocations (findings_of (bottom + distance) parts)
    (placed_text (findings_of (bottom + distance) parts) module_index section address bytes) relocations).bytes index 0
    ≡ get_or (with_relocations (findings_of bottom parts)
    (placed_text (findings_of bottom parts) module_index section address bytes) relocations).bytes index 0
byte_is_same bottom distance parts module_index section address bytes relocations index s =
    ap (λ text. get_or text.bytes index 0)
    (text_content bottom distance parts module_index section address bytes relocations)
    ∙ relocations_same distance parts (findings_of bottom parts) index (moves parts module_index section)
    (placed_text (findings_of bottom parts) module_index section address bytes) bytes relocations refl refl s
