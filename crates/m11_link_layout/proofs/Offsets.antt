-- The offset of a module's contribution, after those of earlier modules.
use Rattle.std.proofs.Common.{◌≡◌, ℕ, ◌&&◌, min, sum, not, nat_eq, nat_lt, Bool, true, false, cond, if◌then◌else◌, List, [], ◌∷◌, ◌++◌, map, append-nil, Option, Some, None, refl, sym, ap, ◌∙◌, subst}
use Rattle.std.specs.Int.RustNames.{bit_and}
use Rattle.std.specs.List.{cons_option, filter_map}
use Rattle.std.specs.Map.{lookup}
use Rattle.std.specs.Option.{option_or, unwrap_or}
use Rattle.std.proofs.lemmas.List.Elements.{filter_map-append}
use Rattle.m11_base.specs.Rad50.{is_same_name}
use Rattle.m11_obj.specs.declared.gsd.GsdEntry.{GsdEntry}
use Rattle.m11_obj.specs.declared.gsd.GsdKind.{GsdKind}
use Rattle.m11_obj.specs.declared.gsd.GsdKind.TheVariants.{ModuleName, ControlSection, InternalSymbol, TransferAddress, GlobalSymbol, ProgramSection, Identification}
use Rattle.m11_link_modules.specs.Parts.{Part, Directory, Entry, EndOfDirectory, Text, Relocations, Relocated, EndOfModule, EndOfFile}
use Rattle.m11_link_modules.specs.Positions.{modules_in, section_by, section_in, sections_in, this_module}
use Rattle.m11_link_layout.specs.Tables.{is_concatenated, next_offset, size_cap}
use Rattle.m11_link_layout.specs.Modules.{module_at, modules_before}
use Rattle.m11_link_layout.specs.Sections.{attribute_bits, attributes_by, attributes_in, control_attributes, first_attributes, greatest, is_overlaid, is_relocatable, offset_after, rounded, size_under, sizes_of}
use Rattle.m11_link_layout.proofs.Finding.{lookup_append}
use Rattle.m11_link_layout.proofs.ModulesOfParts.{before_more, module_more, modules_are, where_true}
use Rattle.m11_link_layout.proofs.Sizing.{attributes_found, attributes_more, total_from}
use Rattle.m11_link_layout.proofs.Walking.{grown}

-- ---- a part enters one section or none

pub data Reports (part : Part) : Type 0 where
  ReportsNone : filter_map attributes_in (part ∷ []) ≡ [] → filter_map section_in (part ∷ []) ≡ [] → Reports part
  ReportsOne : (name : ℕ × ℕ) (attributes size : ℕ) → filter_map attributes_in (part ∷ []) ≡ (name, attributes) ∷ []
      → filter_map section_in (part ∷ []) ≡ (name, size) ∷ [] → Reports part

entry_reports : (entry : GsdEntry) (kind : GsdKind) → filter_map attributes_in (Entry entry ∷ [])
    ≡ cons_option (attributes_by kind entry) []
    → filter_map section_in (Entry entry ∷ []) ≡ cons_option (section_by kind entry) [] → Reports (Entry entry)
entry_reports entry ControlSection a s = ReportsOne entry.name (control_attributes entry.name) entry.value a s
entry_reports entry ProgramSection a s = ReportsOne entry.name (bit_and entry.flags attribute_bits) entry.value a s
entry_reports entry ModuleName a s = ReportsNone a s
entry_reports entry InternalSymbol a s = ReportsNone a s
entry_reports entry TransferAddress a s = ReportsNone a s
entry_reports entry GlobalSymbol a s = ReportsNone a s
entry_reports entry Identification a s = ReportsNone a s

pub reports : (part : Part) → Reports part
reports Directory = ReportsNone refl refl
reports (Entry entry) = entry_reports entry entry.kind refl refl
reports EndOfDirectory = ReportsNone refl refl
reports (Text address bytes) = ReportsNone refl refl
reports Relocations = ReportsNone refl refl
reports (Relocated relocation) = ReportsNone refl refl
reports EndOfModule = ReportsNone refl refl
reports EndOfFile = ReportsNone refl refl

-- ---- what a module enters

abbrev pub entered_at : List Part → ℕ → ℕ × ℕ → Option ℕ
entered_at parts index name = lookup (is_same_name name) (sections_in (module_at parts index))

abbrev pub reported_where : Bool → Part → List ((ℕ × ℕ) × ℕ)
reported_where b part = if b then filter_map section_in (part ∷ []) else []

sections_where : (b : Bool) (part : Part) → sections_in (where_true b part) ≡ reported_where b part
unfolding sections_in
sections_where true part = refl
sections_where false part = refl

pub entered_more : (before : List Part) (part : Part) (index : ℕ) (name : ℕ × ℕ)
    → entered_at (before ++ part ∷ []) index name
    ≡ option_or (entered_at before index name) (lookup (is_same_name name)
    (reported_where (nat_eq (modules_in before) index) part))
unfolding sections_in
entered_more before part index name =
    ap (λ parts. lookup (is_same_name name) (sections_in parts)) (module_more before part index)
    ∙ ap (λ reported. lookup (is_same_name name) reported) (filter_map-append section_in (module_at before index)
    (where_true (nat_eq (modules_in before) index) part))
    ∙ lookup_append (is_same_name name) (sections_in (module_at before index))
    (sections_in (where_true (nat_eq (modules_in before) index) part))
    ∙ ap (λ reported. option_or (entered_at before index name) (lookup (is_same_name name) reported))
    (sections_where (nat_eq (modules_in before) index) part)

pub earlier_sizes_more : (before : List Part) (part : Part) (index : ℕ) (name : ℕ × ℕ)
    → sizes_of (modules_before (before ++ part ∷ []) index) name
    ≡ sizes_of (modules_before before index) name ++ filter_map (size_under name)
    (reported_where (nat_lt (modules_in before) index) part)
unfolding sizes_of sections_in
earlier_sizes_more before part index name =
    ap (λ parts. sizes_of parts name) (before_more before part index)
    ∙ ap (λ reported. filter_map (size_under name) reported)
    (filter_map-append section_in (modules_before before index) (where_true (nat_lt (modules_in before) index) part))
    ∙ filter_map-append (size_under name) (sections_in (modules_before before index))
    (sections_in (where_true (nat_lt (modules_in before) index) part))
    ∙ ap (λ reported. sizes_of (modules_before before index) name ++ filter_map (size_under name) reported)
    (sections_where (nat_lt (modules_in before) index) part)

-- an alternative of two options is None only if both are None
both_none : (first rest : Option ℕ) → option_or first rest ≡ None → (first ≡ None) × (rest ≡ None)
both_none None rest e = (refl, e)
both_none (Some x) rest e = search

one_found : (b : Bool) (size : ℕ) (attributes : ℕ) → cond b (Some attributes) None ≡ None
    → cond b (Some size) None ≡ None
one_found true size attributes e = search
one_found false size attributes e = refl

neither_found : (b : Bool) (part : Part) (name : ℕ × ℕ) → Reports part
    → lookup (is_same_name name) (filter_map attributes_in (part ∷ [])) ≡ None
    → lookup (is_same_name name) (reported_where b part) ≡ None
neither_found false part name t e = refl
neither_found true part name (ReportsNone a s) e = ap (λ reported. lookup (is_same_name name) reported) s
neither_found true part name (ReportsOne entered attributes size a s) e =
    let P : List ((ℕ × ℕ) × ℕ) → Type 0 = λ reported. lookup (is_same_name name) reported ≡ None in
    subst P (sym s) (one_found (is_same_name name entered) size attributes (subst P a e))

abbrev EntersReported : List Part → Type 0
EntersReported parts = (index : ℕ) (name : ℕ × ℕ) → attributes_found parts name ≡ None → entered_at parts index name ≡ None

enters_more : (before : List Part) (part : Part) → EntersReported before → EntersReported (before ++ part ∷ [])
enters_more before part h index name e =
    let n = both_none (attributes_found before name) (lookup (is_same_name name) (filter_map attributes_in (part ∷ [])))
    (sym (attributes_more before part name) ∙ e) in
    entered_more before part index name
    ∙ (λ j. option_or (h index name n.0 j) (neither_found (nat_eq (modules_in before) index) part name
    (reports part) n.1 j))

enters_none : EntersReported []
unfolding module_at sections_in
enters_none index name e = refl

pub enters_reported : (parts : List Part) (index : ℕ) (name : ℕ × ℕ) → attributes_found parts name ≡ None
    → entered_at parts index name ≡ None
enters_reported parts = grown EntersReported enters_more parts enters_none

-- if a section isn't found among entries, the entries have no size for it
no_size : (name : ℕ × ℕ) (reported : List ((ℕ × ℕ) × ℕ)) → lookup (is_same_name name) reported ≡ None
    → filter_map (size_under name) reported ≡ []
no_size name [] e = refl
no_size name (first ∷ reported) e =
    by (is_same_name name first.0) first.1 (lookup (is_same_name name) reported) (filter_map (size_under name) reported)
    (no_size name reported) e
  where
    by : (b : Bool) (size : ℕ) (found : Option ℕ) (sizes : List ℕ) → (found ≡ None → sizes ≡ [])
        → cond b (Some size) found ≡ None
        → cons_option (if b then Some size else None) sizes ≡ []
    by true size found sizes h e = search
    by false size found sizes h e = h e

-- if the current module hasn't entered a section, all sizes of the section are those of earlier modules
pub earlier_sizes : (before : List Part) (name : ℕ × ℕ)
    → lookup (is_same_name name) (sections_in (this_module before)) ≡ None
    → sizes_of (modules_before before (modules_in before)) name ≡ sizes_of before name
unfolding sizes_of sections_in
earlier_sizes before name e =
    let first = modules_before before (modules_in before) in
    sym (append-nil (sizes_of first name))
    ∙ ap (λ these. sizes_of first name ++ these) (sym (no_size name (sections_in (this_module before)) e))
    ∙ sym (filter_map-append (size_under name) (sections_in first) (sections_in (this_module before)))
    ∙ ap (λ reported. filter_map (size_under name) reported) (sym (filter_map-append section_in first (this_module before)))
    ∙ ap (λ parts. sizes_of parts name) (modules_are before).all

-- ---- the offset of a contribution

abbrev pub offset_in : List Part → ℕ → ℕ × ℕ → ℕ
offset_in parts index name =
    min size_cap (offset_after (first_attributes parts name) (sizes_of (modules_before parts index) name))

abbrev pub offset_from : Option ℕ → ℕ → Option ℕ
offset_from None offset = None
offset_from (Some size) offset = Some offset

abbrev pub contribution_of : List Part → ℕ → ℕ × ℕ → Option ℕ
contribution_of parts index name = offset_from (entered_at parts index name) (offset_in parts index name)

no_offset : (b : Bool) → 0 ≡ min size_cap (if b then sum (map rounded []) else 0)
no_offset true = refl
no_offset false = refl

next_by : (relocatable overlaid : Bool) (sizes : List ℕ)
    → (if relocatable && not overlaid
    then min size_cap (if relocatable then
    (if overlaid then greatest (map rounded sizes) else sum (map rounded sizes)) else greatest sizes) else 0)
    ≡ min size_cap (if relocatable && not overlaid then sum (map rounded sizes) else 0)
next_by true true sizes = refl
next_by true false sizes = refl
next_by false overlaid sizes = refl

-- the offset of the next contribution is that after the sizes so far, at most the cap
pub next_is : (found : Option ℕ) (sizes : List ℕ) (attributes : ℕ) → (found ≡ None → sizes ≡ [])
    → next_offset (total_from found sizes) ≡ min size_cap
    (offset_after (unwrap_or (option_or found (Some attributes)) 0) sizes)
next_is None sizes attributes h =
    let P : List ℕ → Type 0 = λ sizes. 0 ≡ min size_cap (offset_after attributes sizes) in
    subst P (sym (h refl)) (no_offset (is_concatenated attributes))
next_is (Some first) sizes attributes h = next_by (is_relocatable first) (is_overlaid first) sizes
