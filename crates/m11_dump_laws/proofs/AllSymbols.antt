-- The symbols of a source: a source can define each, and no two have one name.
use Rattle.std.proofs.Common.{◌≡◌, ◌∙◌, ℕ, zero, suc, ◌+◌, ◌-◌, ◌<◌, ◌≤◌, Bool, true, false, ◌&&◌, List, [], ◌∷◌, ◌++◌, Option, Some, None, refl, sym, ap, arith}
use Rattle.std.specs.Prelude.{◌==◌, not, if◌then◌else◌, is_none}
use Rattle.std.specs.List.{AllByRecursion, flat_map}
use Rattle.std.proofs.lemmas.Bool.{and_parts, both_ways, eq-eqb, false_from_ne_true, or_left, or_right}
use Rattle.std.proofs.lemmas.Slice.Eq.{bytes_eq-Decides}
use Rattle.m11_base.specs.Devices.{Bytes}
use Rattle.m11_base.specs.Rad50.{Name, is_same_name, name_of, name_text}
use Rattle.m11_base.proofs.SameNames.{same_name_equal}
use Rattle.m11_base_disassembly.specs.Names.{bare_name}
use Rattle.m11_base_disassembly.specs.Symbols.{is_called, value_named}
use Rattle.m11_base_disassembly.specs.declared.symbols.Symbol.{Symbol}
use Rattle.m11_asm_dump_laws.specs.Items.{AreDistinct}
use Rattle.m11_dump_source.specs.Labels.{has_value, is_among, is_definable, is_free, is_new, kept_after, kept_of, made_by, made_characters, made_for, named, symbols_in, targets}
use Rattle.m11_dump_source.specs.Lines.{leading, lines_from, lines_of, shown_at, size_shown}
use Rattle.m11_dump_source.specs.Memory.{Cells}
use Rattle.m11_dump_source.specs.Texts.{begins_at}
use Rattle.m11_dump_source.specs.declared.lines.Line.{Line}
use Rattle.m11_dump_laws.specs.Items.{AreNames, IsGiven}
use Rattle.m11_dump_laws.proofs.Among.{IsApart, all_both, all_by, distinct_both}
use Rattle.m11_dump_laws.proofs.LinesWithin.{IsBelow}
use Rattle.m11_dump_laws.proofs.MadeNames.{made_definable, made_name, same_address}
use Rattle.m11_dump_laws.proofs.Names.{CanDefine}

-- a source can define the symbol, and its value is a word
abbrev pub IsUsable : Symbol → Type 0
IsUsable symbol = CanDefine symbol × (symbol.value < 65536)

-- ---- names that are free

-- the symbol has another name than this
abbrev HasOther : Name → Symbol → Type 0
HasOther name symbol = is_same_name name symbol.name ≡ false

free_by : (b : Bool) (value : ℕ) (rest : Option ℕ) → is_none (if b then Some value else rest) ≡ true → (b ≡ false) × (is_none rest ≡ true)
free_by true value rest is = absurd (both_ways (is_none (Some value)) refl is)
free_by false value rest is = (refl, is)

not_called : (name : Name) (symbol : Symbol) → is_called (bare_name (name_text name)) symbol ≡ false → HasOther name symbol
not_called name symbol is =
    false_from_ne_true (is_same_name name symbol.name) (λ same.
    both_ways (is_called (bare_name (name_text name)) symbol) is
    ((bytes_eq-Decides (bare_name (name_text symbol.name)) (bare_name (name_text name))).1
    (ap (λ (n : Name). bare_name (name_text n)) (sym (same_name_equal name symbol.name same)))))

free_of : (kept : List Symbol) (name : Name) → is_free kept name ≡ true → AllByRecursion (HasOther name) kept
free_of [] name free = tt
free_of (symbol ∷ kept) name free =
    let text : Bytes = bare_name (name_text name) in
    let parts = free_by (is_called text symbol) symbol.value (value_named text kept) free in
    (not_called name symbol parts.0, free_of kept name parts.1)

-- ---- the names that are kept

pub record AreUsable (symbols : List Symbol) : Type 0 where
  pub each : AllByRecursion IsUsable symbols
  pub distinct : AreDistinct symbols

one_more : (kept : List Symbol) (symbol : Symbol) → AreUsable kept → IsGiven symbol → is_new kept symbol ≡ true
    → AreUsable (kept ++ named symbol.name symbol.value ∷ [])
one_more kept symbol are given new =
    let added : Symbol = named symbol.name symbol.value in
    let parts = and_parts (is_definable (name_text symbol.name)) (is_free kept symbol.name) new in
    let can : CanDefine added = record { alone = refl; is_name = given.0; definable = parts.0 } in
    record {
      each = all_both IsUsable kept (added ∷ []) are.each ((can, given.1), tt);
      distinct = distinct_both kept (added ∷ []) are.distinct (tt, tt)
          (all_by (HasOther symbol.name) (λ k. AllByRecursion (IsApart k) (added ∷ [])) kept (λ k other. (other, tt))
          (free_of kept symbol.name parts.1));
    }

usable_if : (one other : List Symbol) (b : Bool) → (b ≡ true → AreUsable one) → AreUsable other → AreUsable (if b then one else other)
usable_if one other true are also = are refl
usable_if one other false are also = also

kept_usable : (symbols kept : List Symbol) → AreNames symbols → AreUsable kept → AreUsable (kept_after kept symbols)
kept_usable [] kept given are = are
kept_usable (symbol ∷ symbols) kept given are =
    usable_if (kept_after (kept ++ named symbol.name symbol.value ∷ []) symbols) (kept_after kept symbols) (is_new kept symbol)
    (λ new. kept_usable symbols (kept ++ named symbol.name symbol.value ∷ []) given.1 (one_more kept symbol are given.0 new))
    (kept_usable symbols kept given.1 are)

pub names_kept : (names : List Symbol) → AreNames names → AreUsable (kept_of names)
names_kept names given = kept_usable names [] given (record { each = tt; distinct = tt })

-- ---- lines one after another

-- each line begins after the one before it, and none before this address
abbrev pub AreRising : ℕ → List Line → Type 0
AreRising least [] = Unit {0}
AreRising least (line ∷ lines) = (least ≤ line.address) × AreRising (line.address + 1) lines

lines_rise : (least address before : ℕ) (cells : Cells) → least ≤ address → AreRising least (lines_from address before cells)
lines_rise least address before [] from = tt
lines_rise least address (suc before) (cell ∷ cells) from = lines_rise least (address + 1) before cells (omega (arith, from))
lines_rise least address zero (None ∷ cells) from = lines_rise least (address + 1) 0 cells (omega (arith, from))
lines_rise least address zero (Some byte ∷ cells) from = (
  from,
  lines_rise (address + 1) (address + 1) (size_shown (shown_at address (leading 6 (Some byte ∷ cells))) - 1) cells (omega arith),
)

pub lines_rising : (cells : Cells) → AreRising 0 (lines_of cells)
lines_rising cells = lines_rise 0 0 0 cells (omega arith)

rising_from : (least lower : ℕ) (lines : List Line) → lower ≤ least → AreRising least lines
    → AllByRecursion (λ line. lower ≤ line.address) lines
rising_from least lower [] from rising = tt
rising_from least lower (line ∷ lines) from rising =
    let next : lower ≤ line.address + 1 = omega (arith, from, rising.0) in
    (omega (arith, from, rising.0), rising_from (line.address + 1) lower lines next rising.1)

pub later : (line : Line) (lines : List Line) → AreRising (line.address + 1) lines
    → AllByRecursion (λ other. line.address + 1 ≤ other.address) lines
later line lines rising = rising_from (line.address + 1) (line.address + 1) lines (omega arith) rising

-- ---- the names that are made

-- the symbol is made for its value, beside these
pub record IsMade (kept : List Symbol) (symbol : Symbol) : Type 0 where
  pub is : symbol ≡ named symbol.name symbol.value
  pub spells : name_of (made_characters symbol.value) ≡ Some symbol.name
  pub free : is_free kept symbol.name ≡ true

-- a symbol is made beside these, and P of its value
abbrev MadeWith : List Symbol → (ℕ → Type 0) → Symbol → Type 0
MadeWith kept P symbol = IsMade kept symbol × P symbol.value

module _ (kept : List Symbol) (address : ℕ) where
  -- what is made for an address: nothing, or a symbol
  made_of : (Q : List Symbol → Type 0) (found : Option Name) → name_of (made_characters address) ≡ found → Q []
      → ((name : Name) → IsMade kept (named name address) → Q (named name address ∷ [])) → Q (made_by kept address found)
  made_of Q None is none some = none
  made_of Q (Some name) is none some = by_free (is_free kept name) refl
    where
      by_free : (b : Bool) → is_free kept name ≡ b → Q (if b then named name address ∷ [] else [])
      by_free true free = some name (record { is = refl; spells = is; free = free })
      by_free false free = none

  made_if_any : (Q : List Symbol → Type 0) (b : Bool) → Q []
      → ((name : Name) → IsMade kept (named name address) → Q (named name address ∷ []))
      → Q (if b then made_by kept address (name_of (made_characters address)) else [])
  made_if_any Q true none some = made_of Q (name_of (made_characters address)) refl none some
  made_if_any Q false none some = none

module _ (kept : List Symbol) (wanted : List ℕ) where
  -- what is made for lines
  abbrev made : List Line → List Symbol
  made lines = flat_map (made_for kept wanted) lines

  -- what is made for one line
  one_made : (Q : List Symbol → Type 0) (line : Line) → Q []
      → ((name : Name) → IsMade kept (named name line.address) → Q (named name line.address ∷ [])) → Q (made_for kept wanted line)
  one_made Q line none some =
      made_if_any kept line.address Q (is_among wanted line.address && not (has_value kept line.address)) none some

  pub made_with : (P : ℕ → Type 0) (lines : List Line) → AllByRecursion (λ line. P line.address) lines
      → AllByRecursion (MadeWith kept P) (made lines)
  made_with P [] all = tt
  made_with P (line ∷ lines) all =
      all_both (MadeWith kept P) (made_for kept wanted line) (made lines)
      (one_made (AllByRecursion (MadeWith kept P)) line tt (λ name is. ((is, all.0), tt))) (made_with P lines all.1)

  apart : (symbol other : Symbol) → IsMade kept symbol → symbol.value < 65536 → IsMade kept other → other.value < 65536
      → (symbol.value ≡ other.value → ⊥) → IsApart symbol other
  apart symbol other is below also other_below differ =
      false_from_ne_true (is_same_name other.name symbol.name) (λ same.
      differ (same_address symbol.value other.value below other_below
      (sym (made_name symbol.value symbol.name is.spells).1
      ∙ ap name_text (sym (same_name_equal other.name symbol.name same))
      ∙ (made_name other.value other.name also.spells).1)))

  made_distinct : (least : ℕ) (lines : List Line) → AreRising least lines → AllByRecursion (IsBelow 65536) lines → AreDistinct (made lines)
  made_distinct least [] rising below = tt
  made_distinct least (line ∷ lines) rising below =
      let P : ℕ → Type 0 = λ n. (n < 65536) × (line.address + 1 ≤ n) in
      let rest : AllByRecursion (MadeWith kept P) (made lines) = made_with P lines (both lines below.1 (later line lines rising.1)) in
      distinct_both (made_for kept wanted line) (made lines) (one_made AreDistinct line tt (λ name is. (tt, tt)))
      (made_distinct (line.address + 1) lines rising.1 below.1)
      (one_made (AllByRecursion (λ symbol. AllByRecursion (IsApart symbol) (made lines))) line tt (λ name is. (
        all_by (MadeWith kept P) (IsApart (named name line.address)) (made lines)
            (λ other with_. apart (named name line.address) other is below.0 with_.0 with_.1.0
            (λ same. let more = with_.1.1 in omega (arith, same, more))) rest,
        tt,
      )))
    where
      both : (lines : List Line) → AllByRecursion (IsBelow 65536) lines → AllByRecursion (λ other. line.address + 1 ≤ other.address) lines
          → AllByRecursion (λ other. (other.address < 65536) × (line.address + 1 ≤ other.address)) lines
      both [] one other = tt
      both (l ∷ lines) one other = ((one.0, other.0), both lines one.1 other.1)

-- ---- all of them

can_define : (kept : List Symbol) (symbol : Symbol) → MadeWith kept (λ n. n < 65536) symbol → IsUsable symbol
can_define kept symbol with_ =
    let name = made_name symbol.value symbol.name with_.0.spells in (
      record {
        alone = ap (λ (s : Symbol). s.scope) with_.0.is;
        is_name = name.0;
        definable = ap is_definable name.1 ∙ made_definable symbol.value;
      },
      with_.1,
    )

-- what holds of each pair from two lists, the other way round
turned : (R : Symbol → Symbol → Type 0) (one other : List Symbol) → AllByRecursion (λ y. AllByRecursion (λ x. R x y) one) other
    → AllByRecursion (λ x. AllByRecursion (R x) other) one
turned R [] other all = tt
turned R (x ∷ one) other all = (
  all_by (λ y. AllByRecursion (λ z. R z y) (x ∷ one)) (R x) other (λ y these. these.0) all,
  turned R one other
      (all_by (λ y. AllByRecursion (λ z. R z y) (x ∷ one)) (λ y. AllByRecursion (λ z. R z y) one) other (λ y these. these.1) all),
)

pub symbols_usable : (kept : List Symbol) (start : ℕ) (lines : List Line) → AreUsable kept → AreRising 0 lines
    → AllByRecursion (IsBelow 65536) lines → AreUsable (symbols_in kept start lines)
symbols_usable kept start lines are rising below =
    let wanted : List ℕ = targets start lines in
    let others : List Symbol = flat_map (made_for kept wanted) lines in
    let P : ℕ → Type 0 = λ n. n < 65536 in
    let made_ : AllByRecursion (MadeWith kept P) others = made_with kept wanted P lines below in
    record {
      each = all_both IsUsable kept others are.each (all_by (MadeWith kept P) IsUsable others (can_define kept) made_);
      distinct = distinct_both kept others are.distinct (made_distinct kept wanted 0 lines rising below)
          (turned IsApart kept others
          (all_by (MadeWith kept P) (λ other. AllByRecursion (λ symbol. IsApart symbol other) kept) others
          (λ other with_. free_of kept other.name with_.0.free) made_));
    }

-- ---- symbols that are made stand at lines

pub begin_there : (lines : List Line) → AllByRecursion (λ line. begins_at lines line.address ≡ true) lines
begin_there [] = tt
begin_there (line ∷ lines) = (
  or_left (line.address == line.address) (begins_at lines line.address) (eq-eqb line.address line.address refl),
  all_by (λ (l : Line). begins_at lines l.address ≡ true) (λ (l : Line). begins_at (line ∷ lines) l.address ≡ true) lines
      (λ l is. or_right (line.address == l.address) (begins_at lines l.address) is) (begin_there lines),
)

pub made_at_lines : (kept : List Symbol) (start : ℕ) (lines : List Line)
    → AllByRecursion (λ symbol. begins_at lines symbol.value ≡ true) (flat_map (made_for kept (targets start lines)) lines)
made_at_lines kept start lines =
    let P : ℕ → Type 0 = λ n. begins_at lines n ≡ true in
    all_by (MadeWith kept P) (λ symbol. P symbol.value) (flat_map (made_for kept (targets start lines)) lines) (λ symbol with_. with_.1)
    (made_with kept (targets start lines) P lines (begin_there lines))
