-- The entries of the sections: of one more, and of all.
use Rattle.std.proofs.Common.{◌≡◌, ◌∙◌, ℕ, ◌+◌, ◌<◌, List, [], ◌∷◌, ◌++◌, length, map, take, zero-add, sym, ap, subst}
use Rattle.std.specs.List.{enumerate_from}
use Rattle.std.proofs.lemmas.List.{map-append, take_more}
use Rattle.std.proofs.lemmas.List.FromFn.{get_or-enumerate_from, length-enumerate_from}
use Rattle.std.proofs.Math.Seq.{take-length}
use Rattle.m11_base.specs.Names.{blank_name}
use Rattle.m11_asm_directory.specs.FirstPass.{DirectoryFacts}
use Rattle.m11_asm_listing.specs.declared.symbol_table.SectionEntry.{SectionEntry}
use Rattle.m11_asm_rules.specs.declared.sections.Section.{Section}
use Rattle.m11_asm_rules.specs.Sections.{numbered, of_program, section}
use Rattle.m11_asm.specs.Sections.{section_entries, section_entry}

module _ (facts : DirectoryFacts) where
  abbrev sections : List Section
  sections = facts.table.sections

  abbrev numbers : List (ℕ × Section)
  numbers = enumerate_from 0 sections

  abbrev blank : Section
  blank = section blank_name of_program

  one_more : (number : ℕ) → number < length sections
      → take (number + 1) numbers ≡ take number numbers ++ (number, numbered number sections) ∷ []
  one_more number within =
      let P : ℕ → Type 0 = λ count. number < count in
      take_more numbers number (0, blank) (subst P (sym (length-enumerate_from 0 sections)) within)
      ∙ ap (λ (s : ℕ × Section). take number numbers ++ s ∷ [])
      (get_or-enumerate_from 0 sections number (0, blank) within
      ∙ ap (λ (n : ℕ). (n, numbered number sections)) (zero-add number))

  pub entry_added : (entries after : List SectionEntry) (number : ℕ) → number < length sections
      → entries ≡ map (section_entry facts) (take number numbers)
      → after ≡ entries ++ section_entry facts (number, numbered number sections) ∷ []
      → after ≡ map (section_entry facts) (take (number + 1) numbers)
  entry_added entries after number within e f =
      f
      ∙ ap (λ (es : List SectionEntry). es ++ section_entry facts (number, numbered number sections) ∷ []) e
      ∙ sym (map-append (section_entry facts) (take number numbers) ((number, numbered number sections) ∷ []))
      ∙ ap (λ (ns : List (ℕ × Section)). map (section_entry facts) ns) (sym (one_more number within))

  pub entries_done : (entries : List SectionEntry) (count : ℕ) → count ≡ length sections
      → entries ≡ map (section_entry facts) (take count numbers) → entries ≡ section_entries facts
  unfolding section_entries
  entries_done entries count e f =
      f
      ∙ ap (λ (n : ℕ). map (section_entry facts) (take n numbers)) (e ∙ sym (length-enumerate_from 0 sections))
      ∙ ap (λ (ns : List (ℕ × Section)). map (section_entry facts) ns) (take-length numbers)
