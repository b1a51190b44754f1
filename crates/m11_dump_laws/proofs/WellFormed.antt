-- The items of memory are well formed.
use Rattle.std.proofs.Common.{◌≡◌, ◌∙◌, ℕ, ◌+◌, ◌<◌, ◌≤◌, Bool, true, false, ◌||◌, List, [], ◌∷◌, ◌++◌, length, map, refl, sym, ap, ap₂, subst, arith, append-nil}
use Rattle.std.specs.Prelude.{◌==◌, cond, filter, not, if◌then◌else◌}
use Rattle.std.specs.List.{AllByRecursion, flat_map}
use Rattle.std.proofs.lemmas.Bool.{both_ways, eq-eqb, eqb-true, not-true}
use Rattle.std.proofs.lemmas.Grind.{flat_map-append}
use Rattle.m11_base_disassembly.specs.declared.symbols.Symbol.{Symbol}
use Rattle.m11_asm_dump_laws.specs.Items.{AreDistinct, AreWellFormed, Assigned, IsAmong, IsNoRegister, Item, Labelled, MovedTo, Noted, all_defined, defined_in}
use Rattle.m11_asm_dump_laws.specs.Knowledge.{IsSpelled}
use Rattle.m11_dump_source.specs.Labels.{is_kept, kept_of, left_out, made_for, symbols_in, targets}
use Rattle.m11_dump_source.specs.Lines.{lines_of, size_shown}
use Rattle.m11_dump_source.specs.Memory.{Cells}
use Rattle.m11_dump_source.specs.Texts.{begins_at}
use Rattle.m11_dump_source.specs.declared.lines.Line.{Line}
use Rattle.m11_dump_source.specs.declared.lines.Shown.{Shown}
use Rattle.m11_dump_source.specs.declared.lines.Shown.TheVariants.{Byte, Word, TwoWords, ThreeWords}
use Rattle.m11_dump_laws.specs.Items.{AreCells, AreNames, IsGiven, all_symbols, item_of, items_in, items_of, label_at, labels_at, line_items, move_to, value_of}
use Rattle.m11_dump_laws.proofs.AllSymbols.{AreRising, AreUsable, IsUsable, begin_there, later, lines_rising, made_at_lines, names_kept, symbols_usable}
use Rattle.m11_dump_laws.proofs.Among.{IsApart, IsApartByValue, all_among, all_both, all_by, all_left, all_with, among_left, among_right, apart_by_value, chosen, chosen_all, chosen_distinct, chosen_has, distinct_both}
use Rattle.m11_dump_laws.proofs.LinesWithin.{lines_below}
use Rattle.m11_dump_laws.proofs.Names.{can_spell, no_register}
use Rattle.m11_dump_laws.proofs.SoundLines.{IsSoundLine, items_sound, notes_sound, sound_lines, values_sound}

-- ---- the symbols that items define

-- the symbols with this value
abbrev valued : ℕ → List Symbol → List Symbol
valued address symbols = chosen (λ symbol. symbol.value == address) symbols

-- the symbols that label lines
abbrev labelling : List Symbol → List Line → List Symbol
labelling symbols lines = flat_map (λ line. valued line.address symbols) lines

-- the symbols that stand for no line
abbrev elsewhere : List Line → List Symbol → List Symbol
elsewhere lines kept = chosen (λ symbol. not (begins_at lines symbol.value)) kept

defined_parted : (one other : List Item) → all_defined (one ++ other) ≡ all_defined one ++ all_defined other
defined_parted one other = flat_map-append defined_in one other

label_defines : (symbol : Symbol) (b : Bool) → all_defined (if b then Labelled symbol ∷ [] else []) ≡ (if b then symbol ∷ [] else [])
label_defines symbol true = refl
label_defines symbol false = refl

labels_define : (address : ℕ) (symbols : List Symbol) → all_defined (labels_at address symbols) ≡ valued address symbols
labels_define address [] = refl
labels_define address (symbol ∷ symbols) =
    defined_parted (label_at address symbol) (labels_at address symbols)
    ∙ ap₂ (λ (x y : List Symbol). x ++ y) (label_defines symbol (symbol.value == address)) (labels_define address symbols)

move_defines : (address : ℕ) (b : Bool) → all_defined (if b then [] else MovedTo address ∷ []) ≡ []
move_defines address true = refl
move_defines address false = refl

shown_defines : (shown : Shown) → all_defined (item_of shown ∷ []) ≡ []
shown_defines (Byte byte) = refl
shown_defines (Word word) = refl
shown_defines (TwoWords word second) = refl
shown_defines (ThreeWords word second third) = refl

line_defines : (symbols : List Symbol) (here : ℕ) (line : Line) → all_defined (line_items symbols here line) ≡ valued line.address symbols
line_defines symbols here line =
    let labels : List Item = labels_at line.address symbols in
    let own : List Item = item_of line.shown ∷ [] in
    defined_parted (move_to here line.address) (labels ++ own)
    ∙ ap₂ (λ (x y : List Symbol). x ++ y) (move_defines line.address (here == line.address))
    (defined_parted labels own ∙ ap₂ (λ (x y : List Symbol). x ++ y) (labels_define line.address symbols) (shown_defines line.shown)
    ∙ append-nil (valued line.address symbols))

lines_define : (symbols : List Symbol) (here : ℕ) (lines : List Line) → all_defined (items_in symbols here lines) ≡ labelling symbols lines
lines_define symbols here [] = refl
lines_define symbols here (line ∷ lines) =
    let after : ℕ = line.address + size_shown line.shown in
    defined_parted (line_items symbols here line) (items_in symbols after lines)
    ∙ ap₂ (λ (x y : List Symbol). x ++ y) (line_defines symbols here line) (lines_define symbols after lines)

value_defines : (symbol : Symbol) (b : Bool)
    → all_defined (if b then [] else Assigned symbol ∷ []) ≡ (if not b then symbol ∷ [] else [])
value_defines symbol true = refl
value_defines symbol false = refl

values_define : (lines : List Line) (kept : List Symbol) → all_defined (flat_map (value_of lines) kept) ≡ elsewhere lines kept
values_define lines [] = refl
values_define lines (symbol ∷ kept) =
    defined_parted (value_of lines symbol) (flat_map (value_of lines) kept)
    ∙ ap₂ (λ (x y : List Symbol). x ++ y) (value_defines symbol (begins_at lines symbol.value)) (values_define lines kept)

notes_define : (others : List Symbol) (items : List Item) → all_defined (map Noted others ++ items) ≡ all_defined items
notes_define [] items = refl
notes_define (symbol ∷ others) items = notes_define others items

-- ---- what holds of them

module _ (symbols : List Symbol) where
  -- the symbols that label lines have what all symbols have, and their values what the lines' addresses have
  labelling_all : (P : Symbol → Type 0) (Q : ℕ → Type 0) (lines : List Line) → AllByRecursion P symbols
      → AllByRecursion (λ line. Q line.address) lines → AllByRecursion (λ symbol. P symbol × Q symbol.value) (labelling symbols lines)
  labelling_all P Q [] all these = tt
  labelling_all P Q (line ∷ lines) all these =
      all_both (λ symbol. P symbol × Q symbol.value) (valued line.address symbols) (labelling symbols lines)
      (all_by (λ symbol. P symbol × ((symbol.value == line.address) ≡ true)) (λ symbol. P symbol × Q symbol.value)
      (valued line.address symbols)
      (λ symbol is. (is.0, subst Q (sym (eqb-true symbol.value line.address is.1)) these.0))
      (chosen_all P (λ symbol. symbol.value == line.address) symbols all))
      (labelling_all P Q lines all these.1)

  -- each pair of symbols with other values has other names
  abbrev AreApart : Type 0
  AreApart = AllByRecursion (λ symbol. AllByRecursion (IsApartByValue symbol) symbols) symbols

  -- a symbol is apart from the labels of lines that begin elsewhere
  apart_from : (symbol : Symbol) (Q : ℕ → Type 0) (lines : List Line) → AllByRecursion (IsApartByValue symbol) symbols
      → AllByRecursion (λ line. Q line.address) lines → ((value : ℕ) → Q value → value ≡ symbol.value → ⊥)
      → AllByRecursion (IsApart symbol) (labelling symbols lines)
  apart_from symbol Q lines apart these differ =
      all_by (λ other. IsApartByValue symbol other × Q other.value) (IsApart symbol) (labelling symbols lines)
      (λ other is. is.0 (differ other.value is.1)) (labelling_all (IsApartByValue symbol) Q lines apart these)

  labels_distinct : (least : ℕ) (lines : List Line) → AreDistinct symbols → AreApart → AreRising least lines
      → AreDistinct (labelling symbols lines)
  labels_distinct least [] distinct apart rising = tt
  labels_distinct least (line ∷ lines) distinct apart rising =
      let R : Symbol → Type 0 = λ symbol. AllByRecursion (IsApartByValue symbol) symbols in
      distinct_both (valued line.address symbols) (labelling symbols lines)
      (chosen_distinct (λ symbol. symbol.value == line.address) symbols distinct)
      (labels_distinct (line.address + 1) lines distinct apart rising.1)
      (all_by (λ symbol. R symbol × ((symbol.value == line.address) ≡ true))
      (λ symbol. AllByRecursion (IsApart symbol) (labelling symbols lines)) (valued line.address symbols)
      (λ symbol is. apart_from symbol (λ n. line.address + 1 ≤ n) lines is.0 (later line lines rising.1)
      (λ value more same. let here = eqb-true symbol.value line.address is.1 in omega (arith, more, same, here)))
      (chosen_all R (λ symbol. symbol.value == line.address) symbols apart))

  -- a symbol labels the line that begins at its value
  labels_line : (symbol : Symbol) (line : Line) → IsAmong symbols symbol → (line.address == symbol.value) ≡ true
      → IsAmong (valued line.address symbols) symbol
  labels_line symbol line is here =
      chosen_has (λ s. s.value == line.address) symbols symbol is
      (eq-eqb symbol.value line.address (sym (eqb-true line.address symbol.value here)))

  labels_by : (symbol : Symbol) (line : Line) (lines : List Line) (b : Bool) → (line.address == symbol.value) ≡ b
      → (b || begins_at lines symbol.value) ≡ true → IsAmong symbols symbol
      → (begins_at lines symbol.value ≡ true → IsAmong (labelling symbols lines) symbol)
      → IsAmong (labelling symbols (line ∷ lines)) symbol
  labels_by symbol line lines true here begins is others =
      among_left (valued line.address symbols) (labelling symbols lines) symbol (labels_line symbol line is here)
  labels_by symbol line lines false here begins is others =
      among_right (valued line.address symbols) (labelling symbols lines) symbol (others begins)

  labels_there : (symbol : Symbol) (lines : List Line) → begins_at lines symbol.value ≡ true → IsAmong symbols symbol
      → IsAmong (labelling symbols lines) symbol
  labels_there symbol [] begins is = absurd (both_ways false refl begins)
  labels_there symbol (line ∷ lines) begins is =
      labels_by symbol line lines (line.address == symbol.value) refl begins is (λ more. labels_there symbol lines more is)

-- ---- all items

module _ (kept noted : List Symbol) (start : ℕ) (lines : List Line) where
  abbrev symbols : List Symbol
  symbols = symbols_in kept start lines

  -- all symbols that items define
  abbrev defined : List Symbol
  defined = elsewhere lines kept ++ labelling symbols lines

  each_of : (P : Symbol → Type 0) → AllByRecursion P symbols → AllByRecursion P defined
  each_of P all =
      all_both P (elsewhere lines kept) (labelling symbols lines)
      (all_by (λ s. P s × (not (begins_at lines s.value) ≡ true)) P (elsewhere lines kept) (λ s is. is.0)
      (chosen_all P (λ s. not (begins_at lines s.value)) kept
      (all_left P kept (flat_map (made_for kept (targets start lines)) lines) all)))
      (all_by (λ s. P s × Unit {0}) P (labelling symbols lines) (λ s is. is.0)
      (labelling_all symbols P (λ n. Unit {0}) lines all (all_units lines)))
    where
      all_units : (list : List Line) → AllByRecursion (λ line. Unit {0}) list
      all_units [] = tt
      all_units (line ∷ list) = (tt, all_units list)

  -- a name that is kept is defined by its value, or as a label
  kept_by : (symbol : Symbol) (b : Bool) → begins_at lines symbol.value ≡ b → IsAmong kept symbol → IsAmong symbols symbol
      → IsAmong defined symbol
  kept_by symbol true begins is also =
      among_right (elsewhere lines kept) (labelling symbols lines) symbol (labels_there symbols symbol lines begins also)
  kept_by symbol false begins is also =
      among_left (elsewhere lines kept) (labelling symbols lines) symbol
      (chosen_has (λ s. not (begins_at lines s.value)) kept symbol is (ap not begins))

  all_known : AllByRecursion (IsAmong defined) symbols
  all_known =
      let others : List Symbol = flat_map (made_for kept (targets start lines)) lines in
      all_both (IsAmong defined) kept others
      (all_by (IsAmong kept) (IsAmong defined) kept
      (λ s is. kept_by s (begins_at lines s.value) refl is (among_left kept others s is)) (all_among kept))
      (all_by (λ s. IsAmong others s × (begins_at lines s.value ≡ true)) (IsAmong defined) others
      (λ s is. among_right (elsewhere lines kept) (labelling symbols lines) s
      (labels_there symbols s lines is.1 (among_right kept others s is.0)))
      (all_with (IsAmong others) (λ s. begins_at lines s.value ≡ true) others (all_among others) (made_at_lines kept start lines)))

  all_distinct : AreUsable kept → AreUsable symbols → AreRising 0 lines → AreDistinct defined
  all_distinct are all rising =
      let R : Symbol → Type 0 = λ symbol. AllByRecursion (IsApartByValue symbol) symbols in
      let apart : AllByRecursion R symbols = apart_by_value symbols all.distinct in
      distinct_both (elsewhere lines kept) (labelling symbols lines)
      (chosen_distinct (λ s. not (begins_at lines s.value)) kept are.distinct)
      (labels_distinct symbols 0 lines all.distinct apart rising)
      (all_by (λ s. R s × (not (begins_at lines s.value) ≡ true)) (λ s. AllByRecursion (IsApart s) (labelling symbols lines))
      (elsewhere lines kept)
      (λ s is. apart_from symbols s (λ n. begins_at lines n ≡ true) lines is.0 (begin_there lines)
      (λ value begins same.
      both_ways (begins_at lines s.value) (not-true (begins_at lines s.value) is.1) (ap (begins_at lines) (sym same) ∙ begins)))
      (chosen_all R (λ s. not (begins_at lines s.value)) kept
      (all_left R kept (flat_map (made_for kept (targets start lines)) lines) apart)))

  abbrev items : List Item
  items = flat_map (value_of lines) kept ++ (map Noted noted ++ items_in symbols 0 lines)

  defines : all_defined items ≡ defined
  defines =
      defined_parted (flat_map (value_of lines) kept) (map Noted noted ++ items_in symbols 0 lines)
      ∙ ap₂ (λ (x y : List Symbol). x ++ y) (values_define lines kept)
      (notes_define noted (items_in symbols 0 lines) ∙ lines_define symbols 0 lines)

  well_formed : AreUsable kept → AllByRecursion IsGiven noted → AreUsable symbols → AreRising 0 lines
      → AllByRecursion (IsSoundLine 65536) lines → AreWellFormed symbols items
  well_formed are given all rising sound_ =
      let back : (P : List Symbol → Type 0) → P defined → P (all_defined items) = λ P is. subst P (sym defines) is in
      record {
        sound = values_sound 0 lines kept (map Noted noted ++ items_in symbols 0 lines)
            (all_by IsUsable (λ s. s.value < 65536) kept (λ s is. is.1) are.each)
            (notes_sound 0 noted (items_in symbols 0 lines) given (items_sound symbols 0 lines sound_));
        spelled = back (AllByRecursion IsSpelled)
            (each_of IsSpelled (all_by IsUsable IsSpelled symbols (λ s is. can_spell s is.0) all.each));
        others = back (AllByRecursion IsNoRegister)
            (each_of IsNoRegister (all_by IsUsable IsNoRegister symbols (λ s is. no_register s is.0) all.each));
        distinct = back AreDistinct (all_distinct are all rising);
        known = back (λ list. AllByRecursion (IsAmong list) symbols) all_known;
      }

-- of names that are given, those that pass a test are given too
given_by : (symbol : Symbol) (rest : List Symbol) (b : Bool) → IsGiven symbol → AllByRecursion IsGiven rest
    → AllByRecursion IsGiven (cond b (symbol ∷ rest) rest)
given_by symbol rest true is others = (is, others)
given_by symbol rest false is others = others

some_given : (test : Symbol → Bool) (names : List Symbol) → AreNames names → AllByRecursion IsGiven (filter test names)
some_given test [] given = tt
some_given test (symbol ∷ names) given = given_by symbol (filter test names) (test symbol) given.0 (some_given test names given.1)

pub items_well_formed : (names : List Symbol) (start : ℕ) (cells : Cells) → AreNames names → AreCells cells
    → AreWellFormed (all_symbols names start cells) (items_of names start cells)
items_well_formed names start cells given are =
    let kept : List Symbol = kept_of names in
    let lines : List Line = lines_of cells in
    let few : 0 + length cells ≤ 65536 = let most = are.few in omega (arith, most) in
    let kept_are = names_kept names given in
    let rising = lines_rising cells in
    well_formed kept (left_out names) start lines kept_are (some_given (λ symbol. not (is_kept kept symbol)) names given)
    (symbols_usable kept start lines kept_are rising (lines_below 65536 0 0 cells few)) rising (sound_lines 65536 0 0 cells are.bytes few)
