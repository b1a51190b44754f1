-- Parts without the ends of files: what is computed from the parts of each module is the same.
use Rattle.std.proofs.Common.{◌≡◌, ◌∙◌, ℕ, ◌+◌, false, List, [], ◌∷◌, ◌++◌, append-nil, length, Option, Some, None, refl, sym, ap}
use Rattle.std.specs.List.{cons_option, filter_map}
use Rattle.std.specs.Map.{keys_of}
use Rattle.std.proofs.lemmas.List.Elements.{filter_map-append}
use Rattle.m11_base.specs.Names.{absolute_name}
use Rattle.m11_link_modules.specs.declared.stage.Stage.{Stage}
use Rattle.m11_link_modules.specs.declared.stage.Stage.TheVariants.{Between, InDirectory, InBody}
use Rattle.m11_link_modules.specs.Parts.{Part, Directory, EndOfDirectory, Text, Relocated, EndOfModule, EndOfFile}
use Rattle.m11_link_modules.specs.Positions.{current_section, distinct, ends_module, global_in, global_names, known_of, length_after, modules_in, section_after, section_in, section_names, sections_in, selected_by, stage_after, stage_from, text_length, this_module}
use Rattle.m11_link_modules.proofs.KnownAfter.{this_module_ended, this_module_goes_on}
use Rattle.m11_link_layout.proofs.Walking.{grown}

-- ---- parts without the ends of files

abbrev pub kept : Part → Option Part
kept EndOfFile = None
kept part = Some part

abbrev pub without_ends : List Part → List Part
without_ends parts = filter_map kept parts

pub without_append : (xs ys : List Part) → without_ends (xs ++ ys) ≡ without_ends xs ++ without_ends ys
without_append xs ys = filter_map-append kept xs ys

-- a further end of a file is left out
pub end_left : (before : List Part) → without_ends (before ++ EndOfFile ∷ []) ≡ without_ends before
end_left before = without_append before (EndOfFile ∷ []) ∙ append-nil (without_ends before)

-- ---- part by part

-- a function of single parts that yields nothing for the end of a file yields the same without the ends of files
pub reported_same : {X : Type 0} (report : Part → Option X) → report EndOfFile ≡ None → (parts : List Part)
    → filter_map report (without_ends parts) ≡ filter_map report parts
reported_same report e [] = refl
reported_same report e (EndOfFile ∷ parts) =
    reported_same report e parts ∙ ap (λ found. cons_option found (filter_map report parts)) (sym e)
reported_same report e (part ∷ parts) = ap (λ found. cons_option (report part) found) (reported_same report e parts)

pub sections_same : (parts : List Part) → sections_in (without_ends parts) ≡ sections_in parts
unfolding sections_in
sections_same parts = reported_same section_in refl parts

pub section_names_same : (parts : List Part) → section_names (without_ends parts) ≡ section_names parts
unfolding section_names
section_names_same parts = ap (λ entered. distinct (keys_of entered)) (sections_same parts)

global_names_same : (parts : List Part) → global_names (without_ends parts) ≡ global_names parts
unfolding global_names
global_names_same parts = ap (λ names. distinct names) (reported_same global_in refl parts)

pub modules_same : (parts : List Part) → modules_in (without_ends parts) ≡ modules_in parts
unfolding modules_in
modules_same [] = refl
modules_same (EndOfModule ∷ parts) = ap (λ n. n + 1) (modules_same parts)
modules_same (part ∷ parts) = modules_same parts

pub stage_same : (stage : Stage) (parts : List Part) → stage_from stage (without_ends parts) ≡ stage_from stage parts
stage_same stage [] = refl
stage_same stage (Directory ∷ parts) = stage_same InDirectory parts
stage_same stage (EndOfDirectory ∷ parts) = stage_same InBody parts
stage_same stage (EndOfModule ∷ parts) = stage_same Between parts
stage_same stage (part ∷ parts) = stage_same stage parts

selected_same : (section : ℕ × ℕ) (parts : List Part)
    → section_after section (without_ends parts) ≡ section_after section parts
selected_same section [] = refl
selected_same section (Relocated relocation ∷ parts) = selected_same (selected_by section relocation.target) parts
selected_same section (part ∷ parts) = selected_same section parts

length_same : (before : Option ℕ) (parts : List Part)
    → length_after before (without_ends parts) ≡ length_after before parts
length_same before [] = refl
length_same before (Text address bytes ∷ parts) = length_same (Some (length bytes)) parts
length_same before (part ∷ parts) = length_same before parts

-- ---- the parts of the module

abbrev ModuleSame : List Part → Type 0
ModuleSame parts = this_module (without_ends parts) ≡ without_ends (this_module parts)

stays : (before : List Part) (part : Part) → ends_module part ≡ false → kept part ≡ Some part → ModuleSame before
    → ModuleSame (before ++ part ∷ [])
stays before part goes_on is same =
    let one : without_ends (part ∷ []) ≡ part ∷ [] = ap (λ found. cons_option found []) is in
    ap (λ parts. this_module parts) (without_append before (part ∷ []) ∙ ap (λ these. without_ends before ++ these) one)
    ∙ this_module_goes_on (without_ends before) part goes_on
    ∙ ap (λ these. these ++ part ∷ []) same
    ∙ ap (λ these. without_ends (this_module before) ++ these) (sym one)
    ∙ sym (without_append (this_module before) (part ∷ []))
    ∙ ap (λ parts. without_ends parts) (sym (this_module_goes_on before part goes_on))

module_more : (before : List Part) (part : Part) → ModuleSame before → ModuleSame (before ++ part ∷ [])
module_more before EndOfModule same =
    ap (λ parts. this_module parts) (without_append before (EndOfModule ∷ []))
    ∙ this_module_ended (without_ends before)
    ∙ ap (λ parts. without_ends parts) (sym (this_module_ended before))
module_more before EndOfFile same =
    ap (λ parts. this_module parts) (end_left before)
    ∙ same
    ∙ sym (end_left (this_module before))
    ∙ ap (λ parts. without_ends parts) (sym (this_module_goes_on before EndOfFile refl))
module_more before part same = stays before part refl refl same

module_none : ModuleSame []
unfolding this_module
module_none = refl

pub module_same : (parts : List Part) → this_module (without_ends parts) ≡ without_ends (this_module parts)
module_same parts = grown ModuleSame module_more parts module_none

-- ---- the state by which parts are judged

pub entered_same : (parts : List Part)
    → sections_in (this_module (without_ends parts)) ≡ sections_in (this_module parts)
entered_same parts = ap (λ these. sections_in these) (module_same parts) ∙ sections_same (this_module parts)

pub current_same : (parts : List Part)
    → current_section (this_module (without_ends parts)) ≡ current_section (this_module parts)
unfolding current_section
current_same parts =
    ap (λ these. current_section these) (module_same parts) ∙ selected_same absolute_name (this_module parts)

text_same : (parts : List Part) → text_length (this_module (without_ends parts)) ≡ text_length (this_module parts)
unfolding text_length
text_same parts = ap (λ these. text_length these) (module_same parts) ∙ length_same None (this_module parts)

pub known_same : (parts : List Part) → known_of (without_ends parts) ≡ known_of parts
unfolding known_of stage_after
known_same parts = rw (
  stage_same Between parts,
  modules_same parts,
  section_names_same parts,
  global_names_same parts,
  entered_same parts,
  current_same parts,
  text_same parts,
) refl
