-- Lines of the listing, one after another.
use Rattle.std.proofs.Common.{◌≡◌, ◌∙◌, ◌≤◌, ◌<◌, ℕ, ◌+◌, List, [], ◌∷◌, ◌++◌, length, map, take, drop, append_assoc, get_or, Result, refl, sym, ap, subst, arith}
use Rattle.std.proofs.lemmas.List.{map-append}
use Rattle.m11_asm_faults.specs.declared.fault.AsmFault.{AsmFault}
use Rattle.m11_base.specs.Devices.{Bytes}
use Rattle.m11_asm_listing.specs.Items.{location_after}
use Rattle.m11_asm_listing.specs.Listing.{further_line, further_lines}
use Rattle.m11_asm_listing.specs.Messages.{count_line}
use Rattle.m11_asm_listing.specs.SymbolTable.{empty_line, last_lines, section_line, symbol_line, title_line}
use Rattle.m11_asm_listing.specs.declared.items.Item.{Item}
use Rattle.m11_asm_listing.specs.declared.symbol_table.SectionEntry.{SectionEntry}
use Rattle.m11_asm_listing.specs.declared.symbol_table.SymbolEntry.{SymbolEntry}
use Rattle.m11_base_writes.specs.States.{OutputState, no_output}
use Rattle.m11_base_writes.proofs.Writing.{gains_nothing, gains_then}
use Rattle.m11_asm_outputs.specs.Outputs.{Gains, Stops, Writes, assembly}
use Rattle.m11_base_writes.specs.Outputs.{Outputs, Write, outputs, to_report}
use Rattle.m11_asm.specs.Listed.{all_to_listing}
use Rattle.m11_asm_outputs.proofs.Looping.{item_left}
use Rattle.m11_asm_faults.specs.Faults.{stop_of}
use Rattle.m11_base_writes.proofs.Putting.{to_no_report}

-- ---- a line that equals another

pub gains_line : (a b : Outputs) (xs ys : Bytes) → xs ≡ ys → Gains a b (to_report xs ∷ []) → Gains a b (to_report ys ∷ [])
gains_line a b xs ys is h = let P : Bytes → Type 0 = λ these. Gains a b (to_report these ∷ []) in subst P is h

pub stops_line : (a b : Outputs) (xs ys : Bytes) (stopped : AsmFault) → xs ≡ ys → Stops a b (to_report xs ∷ []) stopped
    → Stops a b (to_report ys ∷ []) stopped
stops_line a b xs ys stopped is h = let P : Bytes → Type 0 = λ these. Stops a b (to_report these ∷ []) stopped in subst P is h

pub writes_line : {A : Type 0} (a b : Outputs) (xs ys : Bytes) (result : Result A AsmFault) → xs ≡ ys
    → Writes a b (to_report xs ∷ []) result → Writes a b (to_report ys ∷ []) result
writes_line a b xs ys result is h = let P : Bytes → Type 0 = λ these. Writes a b (to_report these ∷ []) result in subst P is h

-- an empty list of writes leaves the outputs as they are
pub writes_nothing : (a : Outputs) (ws : List Write) → ws ≡ [] → Gains a a ws
writes_nothing a ws none = let P : List Write → Type 0 = λ w. Gains a a w in subst P (sym none) (gains_nothing assembly a)

-- ---- further items

pub further_split : (location : ℕ) (items : List Item) → 1 ≤ length items → all_to_listing (further_lines location items)
    ≡ (to_report (further_line location items) ∷ [])
    ++ all_to_listing (further_lines (location_after location (take 3 items)) (drop 3 items))
further_split location [] some = absurd (omega (arith, some))
further_split location (one ∷ []) some = refl
further_split location (one ∷ two ∷ []) some = refl
further_split location (one ∷ two ∷ three ∷ items) some = refl

-- the lines of further items are that of the first three, and then those of the rest, at the location after the first three
pub further_rest : (location next : ℕ) (items shown left : List Item) → 1 ≤ length items → shown ≡ take 3 items → left ≡ drop 3 items
    → next ≡ location_after location shown → all_to_listing (further_lines location items)
    ≡ (to_report (further_line location items) ∷ []) ++ all_to_listing (further_lines next left)
further_rest location next items shown left some first others goes =
    further_split location items some
    ∙ ap (λ (l : List Item). (to_report (further_line location items) ∷ []) ++ all_to_listing (further_lines (location_after location l) (drop 3 items)))
    (sym first)
    ∙ ap (λ (n : ℕ). (to_report (further_line location items) ∷ []) ++ all_to_listing (further_lines n (drop 3 items))) (sym goes)
    ∙ ap (λ (l : List Item). (to_report (further_line location items) ∷ []) ++ all_to_listing (further_lines next l)) (sym others)

pub less_left : (items left : List Item) → 1 ≤ length items → left ≡ drop 3 items → length left < length items
less_left items left some is =
    let P : List Item → Type 0 = λ l. length l < length items in subst P (sym is) (fewer items some)
  where
    fewer : (all : List Item) → 1 ≤ length all → length (drop 3 all) < length all
    fewer [] none = absurd (omega (arith, none))
    fewer (one ∷ []) some = omega arith
    fewer (one ∷ two ∷ []) some = omega arith
    fewer (one ∷ two ∷ three ∷ all) some = omega arith

pub further_none : (location : ℕ) (items : List Item) → length items ≡ 0 → all_to_listing (further_lines location items) ≡ []
further_none location [] none = refl
further_none location (item ∷ items) none = absurd (omega (arith, none))

-- ---- a line for each item of a list

module _ {X : Type 0} (line : X → Bytes) where
  abbrev pub lines_left : List X → List Write
  lines_left things = all_to_listing (map line things)

  pub line_split : (things : List X) (index : ℕ) (thing : X) → index < length things → thing ≡ get_or things index thing
      → lines_left (drop index things) ≡ (to_report (line thing) ∷ []) ++ lines_left (drop (index + 1) things)
  line_split things index thing within is = ap lines_left (item_left things index thing within is)

-- ---- a missing listing accepts every line

pub none_listed : (object messages : OutputState) (lines : List Bytes)
    → Gains (outputs object no_output messages) (outputs object no_output messages) (all_to_listing lines)
none_listed object messages [] = gains_nothing assembly (outputs object no_output messages)
none_listed object messages (line ∷ lines) =
    gains_then assembly (outputs object no_output messages) (outputs object no_output messages) (outputs object no_output messages)
    (to_report line ∷ []) (all_to_listing lines) (to_no_report stop_of {A = ℕ} object messages line 0) (none_listed object messages lines)

-- ---- the parts of a symbol table

module _ (symbols : List SymbolEntry) (sections : List SectionEntry) (count : ℕ) where
  abbrev pub title : List Write
  title = all_to_listing (empty_line ∷ title_line ∷ [])

  abbrev pub names : List Write
  names = all_to_listing (map symbol_line symbols)

  abbrev pub gap : List Write
  gap = all_to_listing (empty_line ∷ [])

  abbrev pub areas : List Write
  areas = all_to_listing (map section_line sections)

  abbrev pub last : List Write
  last = all_to_listing (empty_line ∷ count_line count ∷ [])

  pub table_parts : title ++ (names ++ (gap ++ (areas ++ last))) ≡ all_to_listing (last_lines symbols sections count)
  table_parts =
      sym (map-append to_report ((empty_line ∷ title_line ∷ map symbol_line symbols) ++ empty_line ∷ map section_line sections)
      (empty_line ∷ count_line count ∷ [])
      ∙ ap (λ (ws : List Write). ws ++ last)
      (map-append to_report (empty_line ∷ title_line ∷ map symbol_line symbols) (empty_line ∷ map section_line sections))
      ∙ append_assoc (title ++ names) (gap ++ areas) last)
