-- The pieces of the items of memory have the bytes of memory.
use Rattle.std.proofs.Common.{◌≡◌, ◌∙◌, ℕ, zero, suc, ◌+◌, ◌-◌, ◌%◌, ◌<◌, ◌≤◌, Bool, true, false, List, [], ◌∷◌, ◌++◌, drop, length, map, get_or, Option, Some, None, refl, sym, ap, ap₂, subst, arith, append_assoc}
use Rattle.std.specs.Prelude.{◌==◌, nat_le, if◌then◌else◌}
use Rattle.std.specs.List.{AllByRecursion, flat_map}
use Rattle.std.specs.Option.{option_or}
use Rattle.std.proofs.lemmas.Bool.{eqb-true}
use Rattle.std.proofs.lemmas.List.{drop_at, length-append, length-map, map-append}
use Rattle.m11_base.specs.Devices.{Bytes}
use Rattle.m11_base.specs.Names.{absolute_name}
use Rattle.m11_base_disassembly.specs.declared.symbols.Symbol.{Symbol}
use Rattle.m11_obj.specs.declared.pieces.Piece.{Piece}
use Rattle.m11_obj_blocks.specs.Frames.{word_bytes}
use Rattle.m11_cpu_laws.specs.Image.{byte_of, byte_within}
use Rattle.m11_cpu_laws.proofs.BytesPlaced.{byte_of-append}
use Rattle.m11_asm_rules.specs.Contents.{fixed_byte, fixed_word, further, piece, pieces_from}
use Rattle.m11_asm_dump_laws.specs.Items.{Item, Labelled, Assigned, Noted, MovedTo, contents_in, pieces_of}
use Rattle.m11_dump_source.specs.Lines.{leading, line_at, lines_from, lines_of, shown_at, size_shown}
use Rattle.m11_dump_source.specs.Memory.{Cells}
use Rattle.m11_dump_source.specs.Texts.{begins_at}
use Rattle.m11_dump_source.specs.declared.lines.Line.{Line}
use Rattle.m11_dump_source.specs.declared.lines.Shown.{Shown}
use Rattle.m11_dump_source.specs.declared.lines.Shown.TheVariants.{Byte, Word, TwoWords, ThreeWords}
use Rattle.m11_dump_laws.specs.Items.{IsCell, item_of, items_in, label_at, labels_at, line_items, move_to, value_of}
use Rattle.m11_dump_laws.proofs.CellsFound.{as_cells, cell_at, cells_parted, found_from, none_passed, within_cells}
use Rattle.m11_dump_laws.proofs.Shown.{AreBytes, as_many_shown, bytes_shown, cells_shown}
use Rattle.m11_dump_laws.proofs.Written.{after_shown, counter_there}

-- ---- items that have no piece

label_by : (here : ℕ) (symbol : Symbol) (items : List Item) (b : Bool)
    → pieces_of here ((if b then Labelled symbol ∷ [] else []) ++ items) ≡ pieces_of here items
label_by here symbol items true = refl
label_by here symbol items false = refl

labels_have_none : (here address : ℕ) (symbols : List Symbol) (items : List Item)
    → pieces_of here (labels_at address symbols ++ items) ≡ pieces_of here items
labels_have_none here address [] items = refl
labels_have_none here address (symbol ∷ symbols) items =
    ap (pieces_of here) (append_assoc (label_at address symbol) (labels_at address symbols) items)
    ∙ label_by here symbol (labels_at address symbols ++ items) (symbol.value == address)
    ∙ labels_have_none here address symbols items

move_by : (counter address : ℕ) (items : List Item) (b : Bool) → (b ≡ true → counter ≡ address)
    → pieces_of counter ((if b then [] else MovedTo address ∷ []) ++ items) ≡ pieces_of address items
move_by counter address items true is = ap (λ n. pieces_of n items) (is refl)
move_by counter address items false is = refl

value_by : (here : ℕ) (symbol : Symbol) (items : List Item) (b : Bool)
    → pieces_of here ((if b then [] else Assigned symbol ∷ []) ++ items) ≡ pieces_of here items
value_by here symbol items true = refl
value_by here symbol items false = refl

values_have_none : (here : ℕ) (lines : List Line) (kept : List Symbol) (items : List Item)
    → pieces_of here (flat_map (value_of lines) kept ++ items) ≡ pieces_of here items
values_have_none here lines [] items = refl
values_have_none here lines (symbol ∷ kept) items =
    ap (pieces_of here) (append_assoc (value_of lines symbol) (flat_map (value_of lines) kept) items)
    ∙ value_by here symbol (flat_map (value_of lines) kept ++ items) (begins_at lines symbol.value)
    ∙ values_have_none here lines kept items

notes_have_none : (here : ℕ) (others : List Symbol) (items : List Item) → pieces_of here (map Noted others ++ items) ≡ pieces_of here items
notes_have_none here [] items = refl
notes_have_none here (symbol ∷ others) items = notes_have_none here others items

-- ---- the pieces of a line

own_pieces : ℕ → Shown → List Piece
own_pieces address shown = pieces_from absolute_name address (contents_in (item_of shown))

line_pieces : (symbols : List Symbol) (here : ℕ) (line : Line) (items : List Item) → line.address < 65536
    → pieces_of (here % 65536) (line_items symbols here line ++ items)
    ≡ own_pieces line.address line.shown ++ pieces_of ((line.address + size_shown line.shown) % 65536) items
unfolding own_pieces
line_pieces symbols here line items below =
    let address : ℕ = line.address in
    let move : List Item = move_to here address in
    let labels : List Item = labels_at address symbols in
    let own : List Item = item_of line.shown ∷ [] in
    ap (pieces_of (here % 65536)) (append_assoc move (labels ++ own) items ∙ ap (λ l. move ++ l) (append_assoc labels own items))
    ∙ move_by (here % 65536) address (labels ++ (own ++ items)) (here == address)
    (λ is. counter_there here address (eqb-true here address is) below)
    ∙ labels_have_none address address symbols (own ++ items)
    ∙ ap (λ n. own_pieces address line.shown ++ pieces_of n items) (after_shown address line.shown)

-- ---- cells

cells_small : (bytes : Bytes) (rest : Cells) → AllByRecursion IsCell (as_cells bytes ++ rest) → AreBytes bytes
cells_small [] rest all = tt
cells_small (byte ∷ bytes) rest all = (all.0, cells_small bytes rest all.1)

one_less : (shown : Shown) (cell : Option ℕ) (cells : Cells) → drop (size_shown shown - 1) cells ≡ drop (size_shown shown) (cell ∷ cells)
one_less (Byte byte) cell cells = refl
one_less (Word word) cell cells = refl
one_less (TwoWords word second) cell cells = refl
one_less (ThreeWords word second third) cell cells = refl

some_shown : (shown : Shown) → 0 < size_shown shown
some_shown (Byte byte) = omega arith
some_shown (Word word) = omega arith
some_shown (TwoWords word second) = omega arith
some_shown (ThreeWords word second third) = omega arith

none_there : (b : Bool) → let none : Option ℕ = None in (if b then none else none) ≡ none
none_there true = refl
none_there false = refl

-- ---- where a piece lies, and its bytes

-- pieces of fixed words and bytes lie at their locations
pub record LiesFixed (lies : Piece → ℕ × Bytes) : Type 0 where
  pub word : (location word : ℕ) → location < 65536 → lies (piece absolute_name location (fixed_word word)) ≡ (location, word_bytes word)
  pub byte : (location byte : ℕ) → location < 65536 → byte < 256
      → lies (piece absolute_name location (fixed_byte byte)) ≡ (location, byte ∷ [])

module _ (lies : Piece → ℕ × Bytes) (fixed : LiesFixed lies) (at : ℕ) where
  -- the byte that pieces have at the address
  abbrev found_in : List Piece → Option ℕ
  found_in pieces = byte_of (map lies pieces) at

  -- the byte that bytes have at the address, the first of them at this one
  abbrev within : ℕ → Bytes → Option ℕ
  within first bytes = byte_within (first, bytes) at

  found_both : (one other : List Piece) → found_in (one ++ other) ≡ option_or (found_in other) (found_in one)
  found_both one other =
      ap (λ (blocks : List (ℕ × Bytes)). byte_of blocks at) (map-append lies one other) ∙ byte_of-append (map lies one) (map lies other) at

  within_both : (first : ℕ) (one other : Bytes)
      → option_or (within (first + length one) other) (within first one) ≡ within first (one ++ other)
  within_both first one other =
      ap₂ option_or (within_cells (first + length one) other at) (within_cells first one at)
      ∙ sym (cells_parted first one (as_cells other) at)
      ∙ ap (λ (cells : Cells). cell_at first cells at) (sym (map-append (λ b. Some b) one other))
      ∙ sym (within_cells first (one ++ other) at)

  on : (address size : ℕ) → address + size < 65536 → further address size ≡ address + size
  on address size fits = omega (arith, fits)

  word_found : (location word : ℕ) → location < 65536
      → byte_within (lies (piece absolute_name location (fixed_word word))) at ≡ within location (word_bytes word)
  word_found location word below = ap (λ (block : ℕ × Bytes). byte_within block at) (fixed.word location word below)

  own_found : (address : ℕ) (shown : Shown) → address + size_shown shown ≤ 65536 → AreBytes (bytes_shown shown)
      → found_in (own_pieces address shown) ≡ within address (bytes_shown shown)
  unfolding own_pieces
  own_found address (Byte byte) fits small =
      ap (λ (block : ℕ × Bytes). byte_within block at) (fixed.byte address byte (omega (arith, fits)) small.0)
  own_found address (Word word) fits small = word_found address word (omega (arith, fits))
  own_found address (TwoWords word second) fits small =
      ap₂ option_or
      (ap (λ (n : ℕ). byte_within (lies (piece absolute_name n (fixed_word second))) at) (on address 2 (omega (arith, fits)))
      ∙ word_found (address + 2) second (omega (arith, fits)))
      (word_found address word (omega (arith, fits)))
      ∙ within_both address (word_bytes word) (word_bytes second)
  own_found address (ThreeWords word second third) fits small =
      let place : ℕ = address + 2 in
      let last : ℕ = address + 2 + 2 in
      let next : further address 2 ≡ place = on address 2 (omega (arith, fits)) in
      ap₂ option_or
      (ap₂ option_or
      (ap (λ (n : ℕ). byte_within (lies (piece absolute_name n (fixed_word third))) at)
      (ap (λ (n : ℕ). further n 2) next ∙ on place 2 (omega (arith, fits)))
      ∙ word_found last third (omega (arith, fits)))
      (ap (λ (n : ℕ). byte_within (lies (piece absolute_name n (fixed_word second))) at) next
      ∙ word_found place second (omega (arith, fits)))
      ∙ within_both place (word_bytes second) (word_bytes third))
      (word_found address word (omega (arith, fits)))
      ∙ within_both address (word_bytes word) (word_bytes second ++ word_bytes third)

  -- ---- all lines

  -- a line and the cells after it
  module _ (address byte : ℕ) (cells : Cells) (all : AllByRecursion IsCell (Some byte ∷ cells)) where
    abbrev shown : Shown
    shown = shown_at address (leading 6 (Some byte ∷ cells))

    abbrev size : ℕ
    size = size_shown shown

    abbrev bytes : Bytes
    bytes = bytes_shown shown

    abbrev others : Cells
    others = (cells_shown address byte cells all).0

    parts : Some byte ∷ cells ≡ as_cells bytes ++ others
    parts = (cells_shown address byte cells all).1

    same_size : length (as_cells bytes) ≡ size
    same_size = length-map bytes (λ b. Some b) ∙ as_many_shown shown

    all_cells : suc (length cells) ≡ size + length others
    all_cells = ap length parts ∙ length-append (as_cells bytes) others ∙ ap (λ n. n + length others) same_size

    small : AreBytes bytes
    small = cells_small bytes others (subst (λ (cs : Cells). AllByRecursion IsCell cs) parts all)

    left : drop (size - 1) cells ≡ others
    left = one_less shown (Some byte) cells ∙ ap (drop size) parts ∙ drop_at (as_cells bytes) others size same_size

    after : address + 1 + (size - 1) ≡ address + length bytes
    after = let e = as_many_shown shown in let some = some_shown shown in omega (arith, e, some)

    both_found : option_or (cell_at (address + 1 + (size - 1)) (drop (size - 1) cells) at) (within address bytes)
        ≡ cell_at (address + 0) (Some byte ∷ cells) at
    both_found =
        let none : address ≡ address + 0 = omega arith in
        ap₂ option_or (ap₂ (λ (n : ℕ) (cs : Cells). cell_at n cs at) after left) (within_cells address bytes at)
        ∙ sym (cells_parted address bytes others at)
        ∙ ap₂ (λ (n : ℕ) (cs : Cells). cell_at n cs at) none (sym parts)

  module _ (symbols : List Symbol) where
    -- the byte at the address by the lines of cells, where the location counter is `here`
    abbrev by_lines : ℕ → List Line → Option ℕ
    by_lines here lines = found_in (pieces_of (here % 65536) (items_in symbols here lines))

    line_found : (address byte : ℕ) (cells : Cells) (all : AllByRecursion IsCell (Some byte ∷ cells)) → address + suc (length cells) ≤ 65536
        → (here : ℕ) (lines : List Line)
        → by_lines here (line_at address (leading 6 (Some byte ∷ cells)) ∷ lines)
        ≡ option_or (by_lines (address + size address byte cells all) lines) (within address (bytes address byte cells all))
    line_found address byte cells all fits here lines =
        let line : Line = line_at address (leading 6 (Some byte ∷ cells)) in
        let rest : List Item = items_in symbols (address + size address byte cells all) lines in
        let e = all_cells address byte cells all in
        ap found_in (line_pieces symbols here line rest (omega (arith, fits)))
        ∙ found_both (own_pieces address line.shown) (pieces_of ((address + size address byte cells all) % 65536) rest)
        ∙ ap (λ o. option_or (by_lines (address + size address byte cells all) lines) o)
        (own_found address line.shown (omega (arith, fits, e)) (small address byte cells all))

    pub cells_found : (address before : ℕ) (cells : Cells) → AllByRecursion IsCell cells → address + length cells ≤ 65536 → (here : ℕ)
        → by_lines here (lines_from address before cells) ≡ cell_at (address + before) (drop before cells) at
    cells_found address zero [] all fits here = sym (none_there (nat_le (address + 0) at))
    cells_found address (suc before) [] all fits here = sym (none_there (nat_le (address + suc before) at))
    cells_found address (suc before) (cell ∷ cells) all fits here =
        let next : address + 1 + before ≡ address + suc before = omega arith in
        cells_found (address + 1) before cells all.1 (omega (arith, fits)) here
        ∙ ap (λ (n : ℕ). cell_at n (drop before cells) at) next
    cells_found address zero (None ∷ cells) all fits here =
        let next : address + 1 + 0 ≡ address + 1 = omega arith in
        let none : address ≡ address + 0 = omega arith in
        cells_found (address + 1) 0 cells all.1 (omega (arith, fits)) here
        ∙ ap (λ (n : ℕ). cell_at n cells at) next ∙ none_passed address cells at
        ∙ ap (λ (n : ℕ). cell_at n (None ∷ cells) at) none
    cells_found address zero (Some byte ∷ cells) all fits here =
        line_found address byte cells all fits here (lines_from (address + 1) (size address byte cells all - 1) cells)
        ∙ ap (λ o. option_or o (within address (bytes address byte cells all)))
        (cells_found (address + 1) (size address byte cells all - 1) cells all.1 (omega (arith, fits))
        (address + size address byte cells all))
        ∙ both_found address byte cells all

  -- the pieces of the items of memory have a byte at an address if memory has one there, and it is that one
  pub memory_found : (kept others symbols : List Symbol) (cells : Cells) → AllByRecursion IsCell cells → length cells ≤ 65536
      → found_in (pieces_of 0 (flat_map (value_of (lines_of cells)) kept ++ (map Noted others ++ items_in symbols 0 (lines_of cells))))
      ≡ get_or cells at None
  memory_found kept others symbols cells all few =
      let same : at - 0 ≡ at = omega arith in
      let items : List Item = items_in symbols 0 (lines_of cells) in
      ap found_in (values_have_none 0 (lines_of cells) kept (map Noted others ++ items) ∙ notes_have_none 0 others items)
      ∙ cells_found symbols 0 0 cells all (omega (arith, few)) 0
      ∙ found_from 0 cells at (omega arith)
      ∙ ap (λ (n : ℕ). get_or cells n None) same
