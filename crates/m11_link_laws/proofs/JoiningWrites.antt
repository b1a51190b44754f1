-- Parts in order without the ends of files: the writes of a link stay the same.
use Rattle.std.proofs.Common.{◌≡◌, ◌∙◌, ℕ, true, if◌then◌else◌, List, [], ◌∷◌, ◌++◌, Some, refl, sym, ap, ap₂, subst}
use Rattle.std.specs.List.{cons_option}
use Rattle.std.proofs.lemmas.Bool.{false≢true}
use Rattle.m11_obj_blocks.specs.Tapes.{tape_block}
use Rattle.m11_link_modules.specs.declared.stage.Stage.{Stage}
use Rattle.m11_link_modules.specs.declared.stage.Stage.TheVariants.{Between, InBody}
use Rattle.m11_link_modules.specs.Parts.{Part, Entry, Text, Relocations, Relocated, EndOfFile}
use Rattle.m11_link_modules.specs.Positions.{stage_from}
use Rattle.m11_link_modules.specs.Rules.{may_occur}
use Rattle.m11_link_text.specs.Findings.{Findings, findings_of}
use Rattle.m11_link.specs.Front.{front_writes}
use Rattle.m11_base_writes.specs.Outputs.{to_product}
use Rattle.m11_link.specs.Written.{entry_writes, has_ended, link_writes, parts_writes, placed_text, relocations_after, text_writes, with_relocations, writes_at, writes_after}
use Rattle.m11_link_laws.proofs.JoiningEnds.{current_same, end_left, kept, modules_same, without_append, without_ends}
use Rattle.m11_link_laws.proofs.JoiningFindings.{defined_same, findings_same}

-- ---- the order of records

-- each of these parts may come where it does, if the first one comes at this stage
abbrev pub InOrder : Stage → List Part → Type 0
InOrder stage [] = Unit {0}
InOrder stage (part ∷ parts) = (may_occur part stage ≡ true) × InOrder (stage_from stage (part ∷ [])) parts

text_in_body : (stage : Stage) (address : ℕ) (bytes : List ℕ) → may_occur (Text address bytes) stage ≡ true
    → stage ≡ InBody
text_in_body InBody address bytes h = refl
text_in_body stage address bytes h = absurd (false≢true h)

-- ---- after a text no file ends within its module

ended_same : (parts : List Part) → InOrder InBody parts → has_ended (without_ends parts) ≡ has_ended parts
ended_same [] h = refl
ended_same (Relocations ∷ parts) h = ended_same parts h.1
ended_same (Relocated relocation ∷ parts) h = ended_same parts h.1
ended_same (EndOfFile ∷ parts) h = absurd (false≢true h.0)
ended_same (part ∷ parts) h = refl

after_same : (parts : List Part) → InOrder InBody parts
    → relocations_after (without_ends parts) ≡ relocations_after parts
after_same [] h = refl
after_same (Relocations ∷ parts) h = after_same parts h.1
after_same (Relocated relocation ∷ parts) h = ap (λ these. relocation ∷ these) (after_same parts h.1)
after_same (EndOfFile ∷ parts) h = absurd (false≢true h.0)
after_same (part ∷ parts) h = refl

-- ---- part by part

module _ (found : Findings) where
  text_same : (before parts : List Part) (address : ℕ) (bytes : List ℕ) → InOrder InBody parts
      → writes_at found (without_ends before) (Text address bytes) (without_ends parts)
      ≡ writes_at found before (Text address bytes) parts
  unfolding writes_at
  text_same before parts address bytes h = λ j.
      if ended_same parts h j
      then text_writes (with_relocations found
      (placed_text found (modules_same before j) (current_same before j) address bytes) (after_same parts h j))
      else []

  at_same : (stage : Stage) (before : List Part) (part : Part) (parts : List Part) → InOrder stage (part ∷ parts)
      → writes_at found (without_ends before) part (without_ends parts) ≡ writes_at found before part parts
  unfolding writes_at
  at_same stage before (Entry entry) parts h = λ j.
      entry_writes found (modules_same before j) (defined_same before j) entry
  at_same stage before (Text address bytes) parts h =
      text_same before parts address bytes
      (let P : Stage → Type 0 = λ s. InOrder s parts in subst P (text_in_body stage address bytes h.0) h.1)
  at_same stage before part parts h = refl

  end_writes : (before parts : List Part)
      → writes_after found (before ++ EndOfFile ∷ []) parts ≡ writes_after found before (EndOfFile ∷ parts)
  unfolding writes_at
  end_writes before parts = refl

  more_written : (stage : Stage) (before : List Part) (part : Part) (parts : List Part) → kept part ≡ Some part
      → InOrder stage (part ∷ parts)
      → writes_after found (without_ends (before ++ part ∷ [])) (without_ends parts)
      ≡ writes_after found (before ++ part ∷ []) parts
      → writes_after found (without_ends before) (part ∷ without_ends parts)
      ≡ writes_after found before (part ∷ parts)
  more_written stage before part parts is h same =
      ap (λ all. writes_at found (without_ends before) part (without_ends parts)
      ++ writes_after found all (without_ends parts))
      (sym (without_append before (part ∷ []) ∙ ap (λ these. without_ends before ++ cons_option these []) is))
      ∙ ap₂ (λ xs ys. xs ++ ys) (at_same stage before part parts h) same

  after_written : (stage : Stage) (before parts : List Part) → InOrder stage parts
      → writes_after found (without_ends before) (without_ends parts) ≡ writes_after found before parts
  after_written stage before [] h = refl
  after_written stage before (EndOfFile ∷ parts) h =
      ap (λ all. writes_after found all (without_ends parts)) (sym (end_left before))
      ∙ after_written stage (before ++ EndOfFile ∷ []) parts h.1
      ∙ end_writes before parts
  after_written stage before (part ∷ parts) h =
      more_written stage before part parts refl h
      (after_written (stage_from stage (part ∷ [])) (before ++ part ∷ []) parts h.1)

  parts_written : (parts : List Part) → InOrder Between parts
      → parts_writes found (without_ends parts) ≡ parts_writes found parts
  unfolding parts_writes
  parts_written parts h = after_written Between [] parts h

link_written : (found : Findings) (parts : List Part) → InOrder Between parts
    → link_writes found (without_ends parts) ≡ link_writes found parts
link_written found parts h = ap (λ ws. (front_writes found ++ ws) ++ to_product (tape_block found.transfer []) ∷ [])
    (parts_written found parts h)

-- ---- a whole link

-- if parts are in order, a link of them makes the same writes without the ends of files
all_written : (bottom : ℕ) (parts : List Part) → InOrder Between parts
    → link_writes (findings_of bottom (without_ends parts)) (without_ends parts)
    ≡ link_writes (findings_of bottom parts) parts
all_written bottom parts h =
    ap (λ found. link_writes found (without_ends parts)) (findings_same bottom parts)
    ∙ link_written (findings_of bottom parts) parts h

-- if parts in order differ only in the ends of files, links of them make the same writes
pub written_alike : (bottom : ℕ) (parts others : List Part) → InOrder Between parts → InOrder Between others
    → without_ends parts ≡ without_ends others
    → link_writes (findings_of bottom parts) parts ≡ link_writes (findings_of bottom others) others
written_alike bottom parts others h k same =
    sym (all_written bottom parts h)
    ∙ ap (λ these. link_writes (findings_of bottom these) these) same
    ∙ all_written bottom others k
