-- Lists whose items a link writes one after another. (This project's own.)
use Rattle.std.proofs.Common.{◌≡◌, ◌≤◌, ℕ, ◌+◌, not, codes, Bool, true, false, List, [], ◌∷◌, ◌++◌, length, map, drop, slice_get, Option, Some, None, sym, ap, refl, ◌∙◌}
use Rattle.std.proofs.lemmas.Bool.{false≢true, true≢false}
use Rattle.std.proofs.lemmas.List.{drop_all}
use Rattle.m11_link_modules.proofs.Indexing.{drop_at}
use Rattle.m11_link_layout.specs.declared.planned.PlannedGlobal.{PlannedGlobal}
use Rattle.m11_link_layout.specs.declared.planned.PlannedSection.{PlannedSection}
use Rattle.m11_link_text.specs.Findings.{Findings}
use Rattle.std.specs.List.{cons_option, filter_map}
use Rattle.m11_link.specs.Front.{is_empty, written_if, undefined_by, undefined_names, section_write, section_writes, global_write, global_writes, name_write, name_writes, undefined_write, undefined_writes, weak_writes}
use Rattle.m11_base_writes.specs.Outputs.{Write, to_report}
use Rattle.m11_link.specs.Written.{counted}
use Rattle.m11_link.proofs.Counting.{counted-append}

-- ---- lists that are written

pub section_left : (sections : List PlannedSection) (index : ℕ) (section : PlannedSection)
    → slice_get sections index ≡ Some section
    → section_writes (drop index sections) ≡ (section_write section ∷ []) ++ section_writes (drop (index + 1) sections)
unfolding section_writes
section_left sections index section e = ap (λ left. map section_write left) (drop_at sections index section e)

pub sections_end : (sections : List PlannedSection) (index : ℕ) → length sections ≤ index
    → section_writes (drop index sections) ≡ []
unfolding section_writes
sections_end sections index le = ap (λ left. map section_write left) (drop_all index sections le)

pub global_left : (globals : List PlannedGlobal) (index : ℕ) (global : PlannedGlobal)
    → slice_get globals index ≡ Some global
    → global_writes (drop index globals) ≡ (global_write global ∷ []) ++ global_writes (drop (index + 1) globals)
unfolding global_writes
global_left globals index global e = ap (λ left. map global_write left) (drop_at globals index global e)

pub globals_end : (globals : List PlannedGlobal) (index : ℕ) → length globals ≤ index
    → global_writes (drop index globals) ≡ []
unfolding global_writes
globals_end globals index le = ap (λ left. map global_write left) (drop_all index globals le)

-- ---- references

written_then : (write : ℕ × ℕ → Write) (name : Option (ℕ × ℕ)) (names : List (ℕ × ℕ))
    → map write (cons_option name names) ≡ written_if write name ++ map write names
written_then write None names = refl
written_then write (Some name) names = refl

module _ (found : Findings) (is_strong : Bool) (references : List ((ℕ × ℕ) × Bool)) (index : ℕ) where
  names_left : (write : ℕ × ℕ → Write) (reference : (ℕ × ℕ) × Bool) → slice_get references index ≡ Some reference
      → map write (undefined_names found is_strong (drop index references))
      ≡ written_if write (undefined_by found is_strong reference)
      ++ map write (undefined_names found is_strong (drop (index + 1) references))
  unfolding undefined_names
  names_left write reference e = ap (λ left. map write (filter_map (undefined_by found is_strong) left))
      (drop_at references index reference e)
      ∙ written_then write (undefined_by found is_strong reference)
      (filter_map (undefined_by found is_strong) (drop (index + 1) references))

  names_end : (write : ℕ × ℕ → Write) → length references ≤ index
      → map write (undefined_names found is_strong (drop index references)) ≡ []
  unfolding undefined_names
  names_end write le =
      ap (λ left. map write (filter_map (undefined_by found is_strong) left)) (drop_all index references le)

  -- the remaining names are written as the line of the next reference, if it has one, and then the lines of the others
  pub name_left : (reference : (ℕ × ℕ) × Bool) → slice_get references index ≡ Some reference
      → name_writes found is_strong (drop index references)
      ≡ written_if name_write (undefined_by found is_strong reference)
      ++ name_writes found is_strong (drop (index + 1) references)
  unfolding name_writes
  name_left reference e = names_left name_write reference e

  pub name_writes_end : length references ≤ index → name_writes found is_strong (drop index references) ≡ []
  unfolding name_writes
  name_writes_end le = names_end name_write le

-- the remaining messages are the message about the next reference, if it has one, and then those about the others
module _ (found : Findings) (references : List ((ℕ × ℕ) × Bool)) (index : ℕ) where
  pub message_left : (reference : (ℕ × ℕ) × Bool) → slice_get references index ≡ Some reference
      → undefined_writes found (drop index references)
      ≡ written_if undefined_write (undefined_by found true reference)
      ++ undefined_writes found (drop (index + 1) references)
  unfolding undefined_writes
  message_left reference e = names_left found true references index undefined_write reference e

  pub messages_end : length references ≤ index → undefined_writes found (drop index references) ≡ []
  unfolding undefined_writes
  messages_end le = names_end found true references index undefined_write le

-- ---- the count of messages

module _ (found : Findings) (references : List ((ℕ × ℕ) × Bool)) (index count reported : ℕ) where
  pub count_left : (later : ℕ) (reference : (ℕ × ℕ) × Bool) → slice_get references index ≡ Some reference
      → later ≡ counted reported (written_if undefined_write (undefined_by found true reference))
      → counted reported (undefined_writes found (drop index references)) ≡ counted count (undefined_writes found references)
      → counted later (undefined_writes found (drop (index + 1) references)) ≡ counted count (undefined_writes found references)
  count_left later reference e l h =
      let one = written_if undefined_write (undefined_by found true reference) in
      let rest = undefined_writes found (drop (index + 1) references) in
      ap (λ n. counted n rest) l ∙ counted-append reported one rest
      ∙ ap (λ ws. counted reported ws) (sym (message_left found references index reference e)) ∙ h

  pub count_end : length references ≤ index
      → counted reported (undefined_writes found (drop index references)) ≡ counted count (undefined_writes found references)
      → reported ≡ counted count (undefined_writes found references)
  count_end le h = ap (λ ws. counted reported ws) (sym (messages_end found references index le)) ∙ h

-- ---- a weak name

module _ (found : Findings) (references : List ((ℕ × ℕ) × Bool)) (index : ℕ) where
  abbrev Goes : Type 0
  Goes = is_empty (name_writes found false (drop index references)) ≡ is_empty (name_writes found false references)

  pub weak_found : (reference : (ℕ × ℕ) × Bool) → slice_get references index ≡ Some reference → (name : ℕ × ℕ)
      → undefined_by found false reference ≡ Some name → Goes → true ≡ not (is_empty (name_writes found false references))
  weak_found reference e name u h =
      let left = name_left found false references index reference e in
      let some = ap (λ o. written_if name_write o ++ name_writes found false (drop (index + 1) references)) u in
      ap not (sym (ap is_empty (left ∙ some))) ∙ ap not h

  pub weak_passed : (reference : (ℕ × ℕ) × Bool) → slice_get references index ≡ Some reference
      → undefined_by found false reference ≡ None → Goes
      → is_empty (name_writes found false (drop (index + 1) references)) ≡ is_empty (name_writes found false references)
  weak_passed reference e u h =
      let left = name_left found false references index reference e in
      let none = ap (λ o. written_if name_write o ++ name_writes found false (drop (index + 1) references)) u in
      sym (ap is_empty (left ∙ none)) ∙ h

  pub weak_ended : length references ≤ index → Goes → false ≡ not (is_empty (name_writes found false references))
  weak_ended le h = ap not (sym (ap is_empty (name_writes_end found false references index le))) ∙ ap not h

pub weak_some : (writes : List Write) → is_empty writes ≡ false
    → weak_writes writes ≡ (to_report (codes "WEAK\n") ∷ []) ++ writes
weak_some [] e = absurd (true≢false e)
weak_some (write ∷ writes) e = refl

pub weak_none : (writes : List Write) → is_empty writes ≡ true → weak_writes writes ≡ []
weak_none [] e = refl
weak_none (write ∷ writes) e = absurd (false≢true e)

pub no_weak : (writes : List Write) → not (is_empty writes) ≡ false → is_empty writes ≡ true
no_weak [] e = refl
no_weak (write ∷ writes) e = absurd (true≢false e)

pub some_weak : (writes : List Write) → not (is_empty writes) ≡ true → is_empty writes ≡ false
some_weak [] e = absurd (false≢true e)
some_weak (write ∷ writes) e = refl
