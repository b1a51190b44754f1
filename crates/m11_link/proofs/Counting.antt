-- Counts of messages. (This project's own.)
use Rattle.std.proofs.Common.{◌≡◌, ℕ, Bool, true, false, List, [], ◌∷◌, ◌++◌, map, refl, ◌∙◌, sym}
use Rattle.m11_link_layout.specs.declared.planned.PlannedGlobal.{PlannedGlobal}
use Rattle.m11_link_layout.specs.declared.planned.PlannedSection.{PlannedSection}
use Rattle.m11_link_text.specs.Findings.{Findings}
use Rattle.m11_link.specs.Front.{front_writes, global_writes, last_writes, map_writes, name_writes, section_writes, undefined_names, undefined_writes, weak_writes}
use Rattle.m11_link_text.specs.Lines as line
use Rattle.m11_base_writes.specs.Outputs.{Write, to_report}
use Rattle.m11_link.specs.Written.{counted, is_message, one_more}

pub counted-append : (count : ℕ) (xs ys : List Write) → counted (counted count xs) ys ≡ counted count (xs ++ ys)
counted-append count [] ys = refl
counted-append count (x ∷ xs) ys = counted-append (one_more count (is_message x)) xs ys

-- lines of the map aren't counted as messages
pub lines_not_counted : {X : Type 0} (line : X → List ℕ) (count : ℕ) (xs : List X)
    → counted count (map (λ x. to_report (line x)) xs) ≡ count
lines_not_counted line count [] = refl
lines_not_counted line count (x ∷ xs) = lines_not_counted line count xs

names_not_counted : (found : Findings) (is_strong : Bool) (count : ℕ) (references : List ((ℕ × ℕ) × Bool))
    → counted count (name_writes found is_strong references) ≡ count
unfolding name_writes
names_not_counted found is_strong count references =
    lines_not_counted line.name_line count (undefined_names found is_strong references)

sections_not_counted : (count : ℕ) (sections : List PlannedSection) → counted count (section_writes sections) ≡ count
unfolding section_writes
sections_not_counted count sections =
    lines_not_counted (λ s. line.section_line s.name s.base s.size s.attributes.0) count sections

globals_not_counted : (count : ℕ) (globals : List PlannedGlobal) → counted count (global_writes globals) ≡ count
unfolding global_writes
globals_not_counted count globals =
    lines_not_counted (λ g. line.global_line g.name g.value g.module_name) count globals

weak_not_counted : (count : ℕ) (writes : List Write) → counted count (weak_writes writes) ≡ counted count writes
weak_not_counted count [] = refl
weak_not_counted count (write ∷ writes) = refl

map_not_counted : (found : Findings) (count : ℕ) → counted count (map_writes found) ≡ count
unfolding map_writes
map_not_counted found count =
    sym (counted-append count (section_writes found.sections) _)
    ∙ rw (sections_not_counted count found.sections) (
    sym (counted-append count (global_writes found.globals) _)
    ∙ rw (globals_not_counted count found.globals) (
    sym (counted-append count (name_writes found true found.references) _)
    ∙ rw (names_not_counted found true count found.references) (
    sym (counted-append count (weak_writes (name_writes found false found.references)) (last_writes found))
    ∙ rw (
      weak_not_counted count (name_writes found false found.references),
      names_not_counted found false count found.references,
    ) refl)))

pub front_counted : (found : Findings) (count reported : ℕ) → reported ≡ counted count (undefined_writes found found.references)
    → reported ≡ counted count (front_writes found)
unfolding front_writes
front_counted found count reported e = e
    ∙ sym (map_not_counted found (counted count (undefined_writes found found.references)))
    ∙ counted-append count (undefined_writes found found.references) (map_writes found)
