-- The rows of a directory: those of one more section, and of all parts.
use Rattle.std.proofs.Common.{◌≡◌, ◌∙◌, ℕ, ◌+◌, ◌<◌, List, [], ◌∷◌, ◌++◌, take, length, append-nil, append_assoc, zero-add, sym, ap, subst}
use Rattle.std.specs.Prelude.{unwrap_or}
use Rattle.std.specs.List.{enumerate_from, flat_map}
use Rattle.std.proofs.lemmas.Grind.{flat_map-append}
use Rattle.std.proofs.lemmas.List.{take_more}
use Rattle.std.proofs.lemmas.List.FromFn.{get_or-enumerate_from, length-enumerate_from}
use Rattle.std.proofs.Math.Seq.{take-length}
use Rattle.m11_base.specs.Names.{blank_name}
use Rattle.m11_obj.specs.declared.directory.DirectoryRow.{DirectoryRow}
use Rattle.m11_obj.specs.declared.directory.DirectoryRow.TheVariants as row
use Rattle.m11_asm_rules.specs.declared.sections.Section.{Section}
use Rattle.m11_asm_rules.specs.Sections.{numbered, of_program, section}
use Rattle.m11_asm_directory.specs.FirstPass.{DirectoryFacts}
use Rattle.m11_asm_directory.specs.Rows.{all_section_rows, directory_rows, identification_rows, main_name, section_rows}
use Rattle.m11_asm_directory.specs.Transfers.{transfer_row}

module _ (facts : DirectoryFacts) where
  abbrev sections : List Section
  sections = facts.table.sections

  abbrev numbers : List (ℕ × Section)
  numbers = enumerate_from 0 sections

  abbrev module_row : DirectoryRow
  module_row = row.Module (unwrap_or facts.title main_name)

  abbrev blank : Section
  blank = section blank_name of_program

  one_more : (number : ℕ) → number < length sections
      → take (number + 1) numbers ≡ take number numbers ++ (number, numbered number sections) ∷ []
  one_more number within =
      let P : ℕ → Type 0 = λ count. number < count in
      take_more numbers number (0, blank) (subst P (sym (length-enumerate_from 0 sections)) within)
      ∙ ap (λ (s : ℕ × Section). take number numbers ++ s ∷ [])
      (get_or-enumerate_from 0 sections number (0, blank) within
      ∙ ap (λ (n : ℕ). (n, numbered number sections)) (zero-add number))

  pub section_added : (before rows after : List DirectoryRow) (number : ℕ) → number < length sections
      → rows ≡ before ++ flat_map (section_rows facts) (take number numbers)
      → after ≡ rows ++ section_rows facts (number, numbered number sections)
      → after ≡ before ++ flat_map (section_rows facts) (take (number + 1) numbers)
  section_added before rows after number within e f =
      let next = section_rows facts (number, numbered number sections) in
      let so_far = flat_map (section_rows facts) (take number numbers) in
      f
      ∙ ap (λ (r : List DirectoryRow). r ++ next) e
      ∙ append_assoc before so_far next
      ∙ ap (λ (r : List DirectoryRow). before ++ (so_far ++ r)) (sym (append-nil next))
      ∙ ap (λ (r : List DirectoryRow). before ++ r)
      (sym (flat_map-append (section_rows facts) (take number numbers) ((number, numbered number sections) ∷ [])))
      ∙ ap (λ (ns : List (ℕ × Section)). before ++ flat_map (section_rows facts) ns) (sym (one_more number within))

  pub sections_done : (before rows : List DirectoryRow) (count : ℕ) → count ≡ length sections
      → rows ≡ before ++ flat_map (section_rows facts) (take count numbers) → rows ≡ before ++ all_section_rows facts
  sections_done before rows count e f =
      f
      ∙ ap (λ (n : ℕ). before ++ flat_map (section_rows facts) (take n numbers)) (e ∙ sym (length-enumerate_from 0 sections))
      ∙ ap (λ (ns : List (ℕ × Section)). before ++ flat_map (section_rows facts) ns) (take-length numbers)

  -- the rows of a directory, one part after another
  pub parts_joined : (start named identified filled all : List DirectoryRow) → start ≡ [] → named ≡ start ++ module_row ∷ []
      → identified ≡ named ++ identification_rows facts.identification → filled ≡ identified ++ all_section_rows facts
      → all ≡ filled ++ transfer_row facts.transfer ∷ [] → all ≡ directory_rows facts
  unfolding directory_rows
  parts_joined start named identified filled all e f g h k =
      let last = transfer_row facts.transfer ∷ [] in
      let first : named ≡ module_row ∷ [] = f ∙ ap (λ (r : List DirectoryRow). r ++ module_row ∷ []) e in
      k ∙ ap (λ (r : List DirectoryRow). r ++ last) h
      ∙ ap (λ (r : List DirectoryRow). r ++ all_section_rows facts ++ last) g
      ∙ ap (λ (r : List DirectoryRow). r ++ identification_rows facts.identification ++ all_section_rows facts ++ last) first
