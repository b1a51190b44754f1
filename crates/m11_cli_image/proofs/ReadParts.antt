-- Functions of parts one after another, each with a summary of the parts before it.
use Rattle.std.proofs.Common.{◌≡◌, ◌∙◌, ℕ, ◌+◌, false, List, [], ◌∷◌, ◌++◌, append-nil, Option, Some, None, refl, ap, ap₂}
use Rattle.std.specs.List.{cons_option, filter_map}
use Rattle.std.specs.Map.{keys_of}
use Rattle.std.proofs.lemmas.List.{map-append}
use Rattle.std.proofs.lemmas.List.Elements.{filter_map-append}
use Rattle.m11_base.specs.Names.{absolute_name}
use Rattle.m11_base.specs.Rad50.{Name}
use Rattle.m11_link_layout.specs.Globals.{last_of, last_section}
use Rattle.m11_link_layout.specs.Modules.{reported_after}
use Rattle.m11_link_modules.specs.Parts.{Part, Directory, Entry, EndOfDirectory, Text, Relocations, Relocated, EndOfModule, EndOfFile}
use Rattle.m11_link_modules.specs.Positions.{current_section, ends_module, modules_in, section_after, section_by, section_in, sections_in, selected_by, this_module}
use Rattle.m11_link_modules.proofs.KnownAfter.{this_module_ended, this_module_goes_on}

-- ---- the summary that parts leave for the next one

-- the number of modules that ended; and, in the module after them, the section entered last, if there is one, and the section selected last
pub record Seen : Type 0 where
  pub modules : ℕ
  pub entered : Option Name
  pub selected : Name

abbrev pub seen_of : List Part → Seen
seen_of before = record {
  modules = modules_in before;
  entered = last_section (this_module before);
  selected = current_section (this_module before);
}

abbrev pub entered_after : Option Name → Option (Name × ℕ) → Option Name
entered_after entered None = entered
entered_after entered (Some section) = Some section.0

abbrev pub seen_after : Seen → Part → Seen
seen_after seen (Entry entry) =
    record seen { entered = entered_after seen.entered (section_by entry.kind entry) }
seen_after seen (Relocated relocation) =
    record seen { selected = selected_by seen.selected relocation.target }
seen_after seen EndOfModule =
    record { modules = seen.modules + 1; entered = None; selected = absolute_name }
seen_after seen part = seen

-- ---- one more part

modules_stay : (before : List Part) (part : Part) → ends_module part ≡ false
    → modules_in (before ++ part ∷ []) ≡ modules_in before
unfolding modules_in
modules_stay [] EndOfModule e = absurd cc
modules_stay [] part e = refl
modules_stay (EndOfModule ∷ before) part e = ap (λ n. n + 1) (modules_stay before part e)
modules_stay (first ∷ before) part e = modules_stay before part e

modules_end : (before : List Part) → modules_in (before ++ EndOfModule ∷ []) ≡ modules_in before + 1
unfolding modules_in
modules_end [] = refl
modules_end (EndOfModule ∷ before) = ap (λ n. n + 1) (modules_end before)
modules_end (first ∷ before) = modules_end before

last_more : (names : List Name) (found : Option (Name × ℕ))
    → last_of (names ++ keys_of (cons_option found [])) ≡ entered_after (last_of names) found
last_more names None = ap last_of (append-nil names)
last_more [] (Some section) = refl
last_more (name ∷ []) (Some section) = refl
last_more (name ∷ next ∷ names) (Some section) = last_more (next ∷ names) (Some section)

entered_more : (own : List Part) (part : Part)
    → last_section (own ++ part ∷ []) ≡ entered_after (last_section own) (section_in part)
unfolding last_section sections_in
entered_more own part =
    ap (λ sections. last_of (keys_of sections)) (filter_map-append section_in own (part ∷ []))
    ∙ ap last_of (map-append (λ e. e.0) (filter_map section_in own) (cons_option (section_in part) []))
    ∙ last_more (keys_of (filter_map section_in own)) (section_in part)

pub selected_more : (section : Name) (own : List Part) (part : Part)
    → section_after section (own ++ part ∷ []) ≡ section_after (section_after section own) (part ∷ [])
selected_more section [] part = refl
selected_more section (Relocated relocation ∷ own) part =
    selected_more (selected_by section relocation.target) own part
selected_more section (first ∷ own) part = selected_more section own part

goes_on : (before : List Part) (part : Part) → ends_module part ≡ false
    → seen_of (before ++ part ∷ []) ≡ record {
      modules = modules_in before;
      entered = entered_after (last_section (this_module before)) (section_in part);
      selected = section_after (current_section (this_module before)) (part ∷ []);
    }
unfolding current_section
goes_on before part e =
    let own = this_module before in
    rw (modules_stay before part e, this_module_goes_on before part e, entered_more own part, selected_more absolute_name own part)
    refl

ended : (before : List Part) → seen_of (before ++ EndOfModule ∷ []) ≡ seen_after (seen_of before) EndOfModule
unfolding last_section sections_in current_section
ended before = rw (modules_end before, this_module_ended before) refl

pub seen_more : (before : List Part) (part : Part)
    → seen_of (before ++ part ∷ []) ≡ seen_after (seen_of before) part
seen_more before Directory = goes_on before Directory refl
seen_more before (Entry entry) = goes_on before (Entry entry) refl
seen_more before EndOfDirectory = goes_on before EndOfDirectory refl
seen_more before (Text address bytes) = goes_on before (Text address bytes) refl
seen_more before Relocations = goes_on before Relocations refl
seen_more before (Relocated relocation) = goes_on before (Relocated relocation) refl
seen_more before EndOfModule = ended before
seen_more before EndOfFile = goes_on before EndOfFile refl

-- ---- functions of parts

abbrev pub reported_by : {X : Type 0} → (Seen → Part → Option X) → Seen → List Part → List X
reported_by report seen [] = []
reported_by report seen (part ∷ parts) =
    cons_option (report seen part) (reported_by report (seen_after seen part) parts)

pub reported_is : {X : Type 0} (report : List Part → Part → Option X) (by : Seen → Part → Option X)
    → ((before : List Part) (part : Part) → report before part ≡ by (seen_of before) part)
    → (before parts : List Part) → reported_after report before parts ≡ reported_by by (seen_of before) parts
reported_is report by same before [] = refl
reported_is report by same before (part ∷ parts) =
    ap₂ cons_option (same before part)
    (reported_is report by same (before ++ part ∷ []) parts
    ∙ ap (λ seen. reported_by by seen parts) (seen_more before part))

abbrev pub seen_after_all : Seen → List Part → Seen
seen_after_all seen [] = seen
seen_after_all seen (part ∷ parts) = seen_after_all (seen_after seen part) parts

pub onto : {X : Type 0} (found : Option X) (xs ys : List X) → cons_option found (xs ++ ys) ≡ cons_option found xs ++ ys
onto None xs ys = refl
onto (Some x) xs ys = refl

pub reported_then : {X : Type 0} (report : Seen → Part → Option X) (seen : Seen) (xs ys : List Part)
    → reported_by report seen (xs ++ ys)
    ≡ reported_by report seen xs ++ reported_by report (seen_after_all seen xs) ys
reported_then report seen [] ys = refl
reported_then report seen (x ∷ xs) ys =
    ap (cons_option (report seen x)) (reported_then report (seen_after seen x) xs ys)
    ∙ onto (report seen x) (reported_by report (seen_after seen x) xs) _
