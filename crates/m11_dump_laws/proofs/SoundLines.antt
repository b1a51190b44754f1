-- What a line shows can be so at its address, and so can all items.
use Rattle.std.proofs.Common.{◌≡◌, ◌∙◌, ℕ, zero, suc, ◌+◌, ◌-◌, ◌*◌, ◌%◌, ◌<◌, ◌≤◌, Bool, true, false, List, [], ◌∷◌, ◌++◌, length, map, take, Option, Some, None, refl, sym, ap, subst, arith, append_assoc}
use Rattle.std.specs.Prelude.{◌==◌, nat_le, if◌then◌else◌}
use Rattle.std.specs.List.{AllByRecursion, flat_map}
use Rattle.std.proofs.lemmas.Bool.{eqb-true, le-leb, leb-false, leb-true, lt-leb}
use Rattle.std.proofs.lemmas.List.{length-take-le}
use Rattle.m11_base.specs.Devices.{Bytes}
use Rattle.m11_base.specs.Instructions.{instruction_of}
use Rattle.m11_base.specs.declared.instruction_list.Row.{Row}
use Rattle.m11_base_disassembly.specs.Instructions.{row_named, size_by, size_of, words_after}
use Rattle.m11_base_disassembly.specs.Meaning.{AreWords}
use Rattle.m11_base_disassembly.specs.declared.symbols.Symbol.{Symbol}
use Rattle.m11_asm_dump_laws.specs.Items.{AreSound, Assigned, IsSound, Item, Labelled, MovedTo, Noted, Shows}
use Rattle.m11_dump_source.specs.Lines.{leading, lines_from, shown_at, shown_by, shown_words, size_shown, words_in}
use Rattle.m11_dump_source.specs.Memory.{Cells}
use Rattle.m11_dump_source.specs.Texts.{begins_at}
use Rattle.m11_dump_source.specs.declared.lines.Line.{Line}
use Rattle.m11_dump_laws.specs.Items.{IsCell, IsGiven, item_of, items_in, label_at, labels_at, line_items, move_to, value_of}
use Rattle.m11_dump_laws.proofs.Shown.{AreBytes, leading_bytes}
use Rattle.m11_dump_laws.proofs.Written.{after_shown, counter_there}

-- ---- the words that a line keeps

none_by : (b : Bool) (word : ℕ) → size_by (if b then None else None) word ≡ 1
none_by true word = refl
none_by false word = refl

-- how many words follow the first, if this many do
abbrev size_among : ℕ → Option Row → ℕ → ℕ
size_among count row word = size_by (if nat_le (words_after (instruction_of word)) count then row else None) word

kept_by : (word : ℕ) (more : List ℕ) (b : Bool) (row : Option Row) → nat_le (words_after (instruction_of word)) (length more) ≡ b
    → size_among (length (take (size_by (if b then row else None) word - 1) more)) row word
    ≡ 1 + length (take (size_by (if b then row else None) word - 1) more)
kept_by word more true None is = none_by (nat_le (words_after (instruction_of word)) 0) word
kept_by word more true (Some row) is =
    let count : ℕ = words_after (instruction_of word) in
    let enough = leb-true count (length more) is in
    let one_less : 1 + count - 1 ≡ count = omega arith in
    let kept : length (take (1 + count - 1) more) ≡ count = ap (λ n. length (take n more)) one_less ∙ length-take-le count more enough in
    ap (λ n. size_among n (Some row) word) kept
    ∙ ap (λ (b : Bool). size_by (if b then Some row else None) word) (le-leb count count (omega arith))
    ∙ ap (λ n. 1 + n) (sym kept)
kept_by word more false row is =
    let count : ℕ = words_after (instruction_of word) in
    let missing = leb-false count (length more) is in
    ap (λ (b : Bool). size_by (if b then row else None) word) (lt-leb count 0 (omega (arith, missing)))

kept_size : (word : ℕ) (more : List ℕ)
    → size_of word (take (size_of word more - 1) more) ≡ 1 + length (take (size_of word more - 1) more)
kept_size word more = kept_by word more (nat_le (words_after (instruction_of word)) (length more)) (row_named word) refl

-- ---- what a line shows

shows_kept : (word : ℕ) (kept : List ℕ) → length kept ≤ 2 → item_of (shown_words word kept) ≡ Shows word kept
shows_kept word [] few = refl
shows_kept word (second ∷ []) few = refl
shows_kept word (second ∷ third ∷ []) few = refl
shows_kept word (second ∷ third ∷ fourth ∷ more) few = absurd (omega (arith, few))

words_taken : (count : ℕ) (words : List ℕ) → AreWords words → AreWords (take count words)
words_taken zero words all = tt
words_taken (suc count) [] all = tt
words_taken (suc count) (word ∷ words) all = (all.0, words_taken count words all.1)

fewer : (count : ℕ) (words : List ℕ) → length (take count words) ≤ length words
fewer zero words = omega arith
fewer (suc count) [] = omega arith
fewer (suc count) (word ∷ words) = let less = fewer count words in omega (arith, less)

sound_by : (is_even : Bool) (here byte : ℕ) (words : List ℕ) → (is_even ≡ true → here % 2 ≡ 0) → AreWords words → length words ≤ 3
    → byte < 256 → IsSound here (item_of (shown_by is_even words byte))
sound_by false here byte words even all few small = small
sound_by true here byte [] even all few small = small
sound_by true here byte (word ∷ more) even all few small =
    let kept : List ℕ = take (size_of word more - 1) more in
    let less = fewer (size_of word more - 1) more in
    subst (IsSound here) (sym (shows_kept word kept (omega (arith, less, few))))
    (even refl, all.0, words_taken (size_of word more - 1) more all.1, kept_size word more)

words_in_bytes : (bytes : Bytes) → AreBytes bytes → AreWords (words_in bytes)
words_in_bytes [] all = tt
words_in_bytes (byte ∷ []) all = tt
words_in_bytes (low ∷ high ∷ bytes) all =
    let small : low < 256 = all.0 in let also : high < 256 = all.1.0 in
    (omega (arith, small, also), words_in_bytes bytes all.1.1)

half_as_many : (bytes : Bytes) → 2 * length (words_in bytes) ≤ length bytes
half_as_many [] = omega arith
half_as_many (byte ∷ []) = omega arith
half_as_many (low ∷ high ∷ bytes) = let rest = half_as_many bytes in omega (arith, rest)

at_most : (most : ℕ) (cells : Cells) → length (leading most cells) ≤ most
at_most zero cells = omega arith
at_most (suc most) [] = omega arith
at_most (suc most) (None ∷ cells) = omega arith
at_most (suc most) (Some byte ∷ cells) = let rest = at_most most cells in omega (arith, rest)

first_sound : (address byte : ℕ) (cells : Cells) → AllByRecursion IsCell (Some byte ∷ cells)
    → IsSound address (item_of (shown_at address (leading 6 (Some byte ∷ cells))))
first_sound address byte cells all =
    let bytes : Bytes = leading 6 (Some byte ∷ cells) in
    let half = half_as_many bytes in
    let most = at_most 6 (Some byte ∷ cells) in
    sound_by (address % 2 == 0) address byte (words_in bytes) (λ is. eqb-true (address % 2) 0 is)
    (words_in_bytes bytes (leading_bytes 6 (Some byte ∷ cells) all)) (omega (arith, half, most)) all.0

-- a line begins below a bound, and what it shows can be so there
abbrev pub IsSoundLine : ℕ → Line → Type 0
IsSoundLine bound line = (line.address < bound) × IsSound line.address (item_of line.shown)

pub sound_lines : (bound address before : ℕ) (cells : Cells) → AllByRecursion IsCell cells → address + length cells ≤ bound
    → AllByRecursion (IsSoundLine bound) (lines_from address before cells)
sound_lines bound address before [] all fits = tt
sound_lines bound address (suc before) (cell ∷ cells) all fits = sound_lines bound (address + 1) before cells all.1 (omega (arith, fits))
sound_lines bound address zero (None ∷ cells) all fits = sound_lines bound (address + 1) 0 cells all.1 (omega (arith, fits))
sound_lines bound address zero (Some byte ∷ cells) all fits = (
  (omega (arith, fits), first_sound address byte cells all),
  sound_lines bound (address + 1) (size_shown (shown_at address (leading 6 (Some byte ∷ cells))) - 1) cells all.1 (omega (arith, fits)),
)

-- ---- items

label_by : (here : ℕ) (symbol : Symbol) (items : List Item) (b : Bool) → (b ≡ true → symbol.value ≡ here) → AreSound here items
    → AreSound here ((if b then Labelled symbol ∷ [] else []) ++ items)
label_by here symbol items true is sound = (is refl, sound)
label_by here symbol items false is sound = sound

labels_sound : (address : ℕ) (symbols : List Symbol) (items : List Item) → AreSound address items
    → AreSound address (labels_at address symbols ++ items)
labels_sound address [] items sound = sound
labels_sound address (symbol ∷ symbols) items sound =
    subst (AreSound address) (sym (append_assoc (label_at address symbol) (labels_at address symbols) items))
    (label_by address symbol (labels_at address symbols ++ items) (symbol.value == address) (λ is. eqb-true symbol.value address is)
    (labels_sound address symbols items sound))

move_by : (counter address : ℕ) (items : List Item) (b : Bool) → (b ≡ true → counter ≡ address) → address < 65536
    → AreSound address items → AreSound counter ((if b then [] else MovedTo address ∷ []) ++ items)
move_by counter address items true is below sound = subst (λ n. AreSound n items) (sym (is refl)) sound
move_by counter address items false is below sound = (below, sound)

line_sound : (symbols : List Symbol) (here : ℕ) (line : Line) (items : List Item) → IsSoundLine 65536 line
    → AreSound ((line.address + size_shown line.shown) % 65536) items → AreSound (here % 65536) (line_items symbols here line ++ items)
line_sound symbols here line items is sound =
    let address : ℕ = line.address in
    let move : List Item = move_to here address in
    let labels : List Item = labels_at address symbols in
    let own : List Item = item_of line.shown ∷ [] in
    subst (AreSound (here % 65536))
    (sym (append_assoc move (labels ++ own) items ∙ ap (λ l. move ++ l) (append_assoc labels own items)))
    (move_by (here % 65536) address (labels ++ (own ++ items)) (here == address)
    (λ same. counter_there here address (eqb-true here address same) is.0) is.0
    (labels_sound address symbols (own ++ items) (is.1, subst (λ n. AreSound n items) (sym (after_shown address line.shown)) sound)))

pub items_sound : (symbols : List Symbol) (here : ℕ) (lines : List Line) → AllByRecursion (IsSoundLine 65536) lines
    → AreSound (here % 65536) (items_in symbols here lines)
items_sound symbols here [] all = tt
items_sound symbols here (line ∷ lines) all =
    let after : ℕ = line.address + size_shown line.shown in
    line_sound symbols here line (items_in symbols after lines) all.0 (items_sound symbols after lines all.1)

value_by : (here : ℕ) (symbol : Symbol) (items : List Item) (b : Bool) → symbol.value < 65536 → AreSound here items
    → AreSound here ((if b then [] else Assigned symbol ∷ []) ++ items)
value_by here symbol items true small sound = sound
value_by here symbol items false small sound = (small, sound)

pub values_sound : (here : ℕ) (lines : List Line) (kept : List Symbol) (items : List Item)
    → AllByRecursion (λ symbol. symbol.value < 65536) kept → AreSound here items
    → AreSound here (flat_map (value_of lines) kept ++ items)
values_sound here lines [] items small sound = sound
values_sound here lines (symbol ∷ kept) items small sound =
    subst (AreSound here) (sym (append_assoc (value_of lines symbol) (flat_map (value_of lines) kept) items))
    (value_by here symbol (flat_map (value_of lines) kept ++ items) (begins_at lines symbol.value) small.0
    (values_sound here lines kept items small.1 sound))

pub notes_sound : (here : ℕ) (others : List Symbol) (items : List Item) → AllByRecursion IsGiven others → AreSound here items
    → AreSound here (map Noted others ++ items)
notes_sound here [] items given sound = sound
notes_sound here (symbol ∷ others) items given sound = (given.0.0, notes_sound here others items given.1 sound)
