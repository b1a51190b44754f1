-- The text of a source is the text of its items.
use Rattle.std.proofs.Common.{◌≡◌, ◌∙◌, ℕ, ◌+◌, ◌%◌, ◌<◌, ◌≤◌, Bool, true, false, List, [], ◌∷◌, ◌++◌, length, map, refl, sym, ap, ap₂, arith, append_assoc, append-nil}
use Rattle.std.specs.Prelude.{◌==◌, codes, if◌then◌else◌}
use Rattle.std.specs.List.{AllByRecursion, flat_map}
use Rattle.std.proofs.lemmas.Bool.{eqb-true}
use Rattle.std.proofs.lemmas.Grind.{flat_map-append}
use Rattle.m11_base.specs.Devices.{Bytes}
use Rattle.m11_base_disassembly.specs.Numbers.{number_text}
use Rattle.m11_base_disassembly.specs.References.{no_references}
use Rattle.m11_base_disassembly.specs.Texts.{statement_text}
use Rattle.m11_base_disassembly.specs.declared.symbols.Symbol.{Symbol}
use Rattle.m11_asm_dump_laws.specs.Items.{Item, Labelled, Assigned, Noted, MovedTo, after_item, end_text, source_of, symbol_text, texts_of}
use Rattle.m11_dump_source.specs.Labels.{kept_of, left_out}
use Rattle.m11_dump_source.specs.Lines.{lines_of, size_shown, statement_by}
use Rattle.m11_dump_source.specs.Memory.{Cells}
use Rattle.m11_dump_source.specs.Texts.{assignment, begins_at, label, line_text, lines_text, moving, note, source_text}
use Rattle.m11_dump_source.specs.declared.lines.Line.{Line}
use Rattle.m11_dump_source.specs.declared.lines.Shown.{Shown}
use Rattle.m11_dump_source.specs.declared.lines.Shown.TheVariants.{Byte, Word, TwoWords, ThreeWords}
use Rattle.m11_dump_laws.specs.Items.{all_symbols, item_of, items_in, items_of, label_at, labels_at, move_to, value_of}
use Rattle.m11_dump_laws.proofs.LinesWithin.{IsBelow, lines_below}

-- lines, each with a line feed at its end
abbrev ended : List Bytes → Bytes
ended texts = flat_map (λ text. text ++ 10 ∷ []) texts

pub after_shown : (address : ℕ) (shown : Shown) → after_item address (item_of shown) ≡ (address + size_shown shown) % 65536
after_shown address (Byte byte) = refl
after_shown address (Word word) = refl
after_shown address (TwoWords word second) = refl
after_shown address (ThreeWords word second third) = refl

pub counter_there : (here address : ℕ) → here ≡ address → address < 65536 → here % 65536 ≡ address
counter_there here address is below = omega (arith, is)

module _ (all : List Symbol) where
  -- the text of items, where the location counter is `here`
  abbrev text_at : ℕ → List Item → Bytes
  text_at here items = ended (texts_of all here items)

  -- ---- the parts of a line

  label_by : (here : ℕ) (symbol : Symbol) (items : List Item) (b : Bool)
      → text_at here ((if b then Labelled symbol ∷ [] else []) ++ items)
      ≡ (if b then symbol_text symbol ++ codes ":\n" else []) ++ text_at here items
  label_by here symbol items true =
      ap (λ text. text ++ text_at here items) (append_assoc (symbol_text symbol) (codes ":") (10 ∷ []))
  label_by here symbol items false = refl

  labels_written : (here address : ℕ) (symbols : List Symbol) (items : List Item)
      → text_at here (labels_at address symbols ++ items) ≡ flat_map (label address) symbols ++ text_at here items
  labels_written here address [] items = refl
  labels_written here address (symbol ∷ symbols) items =
      ap (text_at here) (append_assoc (label_at address symbol) (labels_at address symbols) items)
      ∙ label_by here symbol (labels_at address symbols ++ items) (symbol.value == address)
      ∙ ap (λ text. label address symbol ++ text) (labels_written here address symbols items)
      ∙ sym (append_assoc (label address symbol) (flat_map (label address) symbols) (text_at here items))

  move_by : (counter address : ℕ) (items : List Item) (b : Bool) → (b ≡ true → counter ≡ address)
      → text_at counter ((if b then [] else MovedTo address ∷ []) ++ items)
      ≡ (if b then [] else (codes "\t.=" ++ number_text address) ++ codes "\n") ++ text_at address items
  move_by counter address items true is = ap (λ n. text_at n items) (is refl)
  move_by counter address items false is = refl

  -- the text of what a line shows
  abbrev own_text : ℕ → Shown → Bytes
  own_text address shown = (codes "\t" ++ statement_text all no_references (statement_by address shown)) ++ codes "\n"

  shown_written : (address : ℕ) (shown : Shown) (items : List Item)
      → text_at address (item_of shown ∷ items) ≡ own_text address shown ++ text_at (after_item address (item_of shown)) items
  shown_written address (Byte byte) items = refl
  shown_written address (Word word) items = refl
  shown_written address (TwoWords word second) items = refl
  shown_written address (ThreeWords word second third) items = refl

  -- ---- lines

  line_written : (here : ℕ) (line : Line) (items : List Item) → line.address < 65536
      → text_at (here % 65536) ((move_to here line.address ++ (labels_at line.address all ++ item_of line.shown ∷ [])) ++ items)
      ≡ (moving here line.address ++ line_text all line) ++ text_at ((line.address + size_shown line.shown) % 65536) items
  line_written here line items below =
      let address : ℕ = line.address in
      let move : List Item = move_to here address in
      let labels : List Item = labels_at address all in
      let own : List Item = item_of line.shown ∷ [] in
      let rest : Bytes = text_at (after_item address (item_of line.shown)) items in
      let labels_text : Bytes = flat_map (label address) all in
      ap (text_at (here % 65536)) (append_assoc move (labels ++ own) items ∙ ap (λ l. move ++ l) (append_assoc labels own items))
      ∙ move_by (here % 65536) address (labels ++ (own ++ items)) (here == address)
      (λ is. counter_there here address (eqb-true here address is) below)
      ∙ ap (λ text. moving here address ++ text)
      (labels_written address address all (own ++ items)
      ∙ ap (λ text. labels_text ++ text) (shown_written address line.shown items)
      ∙ sym (append_assoc labels_text (own_text address line.shown) rest))
      ∙ sym (append_assoc (moving here address) (line_text all line) rest)
      ∙ ap (λ n. (moving here address ++ line_text all line) ++ text_at n items) (after_shown address line.shown)

  lines_written : (lines : List Line) (here : ℕ) → AllByRecursion (IsBelow 65536) lines
      → text_at (here % 65536) (items_in all here lines) ≡ lines_text all here lines
  lines_written [] here below = refl
  lines_written (line ∷ lines) here below =
      let after : ℕ = line.address + size_shown line.shown in
      line_written here line (items_in all after lines) below.0
      ∙ ap (λ text. (moving here line.address ++ line_text all line) ++ text) (lines_written lines after below.1)

  -- ---- names that stand for no line

  value_by : (symbol : Symbol) (items : List Item) (b : Bool)
      → text_at 0 ((if b then [] else Assigned symbol ∷ []) ++ items)
      ≡ (if b then [] else (symbol_text symbol ++ codes "=" ++ number_text symbol.value) ++ codes "\n") ++ text_at 0 items
  value_by symbol items true = refl
  value_by symbol items false = refl

  values_written : (lines : List Line) (kept : List Symbol) (items : List Item)
      → text_at 0 (flat_map (value_of lines) kept ++ items) ≡ flat_map (assignment lines) kept ++ text_at 0 items
  values_written lines [] items = refl
  values_written lines (symbol ∷ kept) items =
      ap (text_at 0) (append_assoc (value_of lines symbol) (flat_map (value_of lines) kept) items)
      ∙ value_by symbol (flat_map (value_of lines) kept ++ items) (begins_at lines symbol.value)
      ∙ ap (λ text. assignment lines symbol ++ text) (values_written lines kept items)
      ∙ sym (append_assoc (assignment lines symbol) (flat_map (assignment lines) kept) (text_at 0 items))

  -- ---- names that are left out

  notes_written : (others : List Symbol) (items : List Item) → text_at 0 (map Noted others ++ items) ≡ flat_map note others ++ text_at 0 items
  notes_written [] items = refl
  notes_written (symbol ∷ others) items =
      ap (λ text. note symbol ++ text) (notes_written others items) ∙ sym (append_assoc (note symbol) (flat_map note others) (text_at 0 items))

-- ---- the whole text

source_by : (all kept others : List Symbol) (start : ℕ) (lines : List Line) → AllByRecursion (IsBelow 65536) lines
    → ended (source_of all start (flat_map (value_of lines) kept ++ (map Noted others ++ items_in all 0 lines)))
    ≡ (((codes "\t.ASECT\n" ++ flat_map (assignment lines) kept) ++ flat_map note others) ++ lines_text all 0 lines)
    ++ (end_text all start ++ codes "\n")
source_by all kept others start lines below =
    let items : List Item = flat_map (value_of lines) kept ++ (map Noted others ++ items_in all 0 lines) in
    let last : Bytes = end_text all start ++ codes "\n" in
    let values : Bytes = flat_map (assignment lines) kept in
    let notes : Bytes = flat_map note others in
    let shown : Bytes = lines_text all 0 lines in
    let first : Bytes = codes "\t.ASECT\n" in
    ap (λ text. first ++ text)
    (flat_map-append (λ text. text ++ 10 ∷ []) (texts_of all 0 items) (end_text all start ∷ [])
    ∙ ap₂ (λ text end. text ++ end)
    (values_written all lines kept (map Noted others ++ items_in all 0 lines)
    ∙ ap (λ text. values ++ text) (notes_written all others (items_in all 0 lines) ∙ ap (λ text. notes ++ text) (lines_written all lines 0 below)))
    (append-nil last))
    ∙ sym (append_assoc first (values ++ (notes ++ shown)) last)
    ∙ ap (λ text. text ++ last)
    (sym (append_assoc first values (notes ++ shown)) ∙ sym (append_assoc (first ++ values) notes shown))

pub text_written : (names : List Symbol) (start : ℕ) (cells : Cells) → length cells ≤ 65536
    → source_text names start cells ≡ ended (source_of (all_symbols names start cells) start (items_of names start cells))
text_written names start cells few =
    sym (source_by (all_symbols names start cells) (kept_of names) (left_out names) start (lines_of cells)
    (lines_below 65536 0 0 cells (omega (arith, few))))
