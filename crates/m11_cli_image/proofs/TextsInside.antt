-- If a link refuses nothing, no text of it extends past the last address.
use Rattle.std.proofs.Common.{◌≡◌, ◌∙◌, ℕ, ◌+◌, ◌<◌, ◌≤◌, ◌^◌, Bool, true, false, ◌&&◌, not, cond, if◌then◌else◌, List, [], ◌∷◌, ◌++◌, append-nil, append_assoc, length, map, flat_map, sum, sum_by, suc, take, Option, Some, None, refl, ap, subst, arith, true≢false}
use Rattle.std.specs.List.{AllByRecursion, cons_option, enumerate_from, filter_map}
use Rattle.std.specs.Map.{lookup}
use Rattle.std.specs.Option.{option_or, unwrap_or}
use Rattle.std.proofs.lemmas.List.Elements.{recursion_from_All}
use Rattle.m11_asm_outputs.specs.Object.{texts_of}
use Rattle.m11_base.specs.Names.{absolute_name}
use Rattle.m11_base.specs.Rad50.{Name, is_same_name}
use Rattle.m11_asm_directory.specs.Rows.{directory_rows}
use Rattle.m11_link_layout.specs.Sections.{base_entered, contribution_base, first_attributes, is_overlaid, is_relocatable, is_too_large, module_base, names_before, offset_after, room_of, rounded, section_base, section_size, sizes_of}
use Rattle.m11_link_layout.specs.Modules.{module_at, modules_before}
use Rattle.m11_link_laws.specs.LinkedTexts.{ObjectText}
use Rattle.m11_link_laws.specs.Spans.{size_entered as entered_in}
use Rattle.m11_link_laws.proofs.Contributions.{ends_low, is_section, overlaid_fits, overlaid_together, they_lie_within}
use Rattle.m11_link_text.specs.Relocation.{modulo}
use Rattle.m11_link_modules.specs.Parts.{Part, EndOfFile}
use Rattle.m11_link_modules.specs.Positions.{current_section, section_by, section_names, sections_in, this_module}
use Rattle.m11_link_modules.specs.Rules.{first_fault}
use Rattle.m11_obj.specs.declared.gsd.GsdEntry.{GsdEntry}
use Rattle.m11_obj.specs.declared.gsd.GsdKind.{GsdKind}
use Rattle.m11_obj.specs.declared.gsd.GsdKind.TheVariants.{ControlSection, ProgramSection}
use Rattle.m11_obj.specs.Gsd.{EntryFits}
use Rattle.m11_obj.specs.Records.{Content, EndOfGsd, EndOfModule, Fits, Gsd}
use Rattle.m11_obj.specs.declared.directory.DirectoryRow.{DirectoryRow}
use Rattle.m11_obj.specs.Directory.{entry_of, record_cutting}
use Rattle.m11_obj.specs.Fronts.{joined}
use Rattle.m11_obj.specs.Texts.{TextParts, text_records}
use Rattle.m11_obj.proofs.InRecords.{holds_rows}
use Rattle.m11_cli_image.specs.Links.{EndsInside, all_texts, texts_at}
use Rattle.m11_cli_image.specs.Objects.{SourceFits, link_parts, source_parts, text_in}
use Rattle.m11_cli_image.specs.Sections.{all_sections, attributes_of, base_of, contribution, sections_of, size_entered, sizes_of as own_sizes, source_at}
use Rattle.m11_cli_image.specs.Sources.{Source}
use Rattle.m11_cli_image.proofs.BoundedTexts.{Bounded, TextWithin, bounded, source_bounded}
use Rattle.m11_cli_image.proofs.LinkedLocations.{module_same, own_same}
use Rattle.m11_cli_image.proofs.ReadRows.{row_sections}

-- ---- sizes are words

abbrev pub SmallSize : Name × ℕ → Type 0
SmallSize section = section.1 < 2 ^ 16

front_fits : (xs ys : List Content) → AllByRecursion Fits (xs ++ ys) → AllByRecursion Fits xs
front_fits [] ys h = tt
front_fits (x ∷ xs) ys h = (h.0, front_fits xs ys h.1)

both_fit : (xs ys : List GsdEntry) → AllByRecursion EntryFits xs → AllByRecursion EntryFits ys
    → AllByRecursion EntryFits (xs ++ ys)
both_fit [] ys h k = k
both_fit (x ∷ xs) ys h k = (h.0, both_fit xs ys h.1 k)

entries_fit : (cuts : List (List GsdEntry)) → AllByRecursion Fits (map (λ entries. Gsd entries) cuts)
    → AllByRecursion EntryFits (joined cuts)
entries_fit [] h = tt
entries_fit (entries ∷ cuts) h =
    both_fit entries (joined cuts) (recursion_from_All EntryFits entries h.0.1) (entries_fit cuts h.1)

one_size : (kind : GsdKind) (entry : GsdEntry) (more : List (Name × ℕ)) → EntryFits entry → AllByRecursion SmallSize more
    → AllByRecursion SmallSize (cons_option (section_by kind entry) more)
one_size ControlSection entry more fits h = (fits.value, h)
one_size ProgramSection entry more fits h = (fits.value, h)
one_size kind entry more fits h = h

row_sizes : (rows : List DirectoryRow) → AllByRecursion EntryFits (map entry_of rows)
    → AllByRecursion SmallSize (filter_map (λ row. section_by (entry_of row).kind (entry_of row)) rows)
row_sizes [] h = tt
row_sizes (first ∷ rows) h =
    one_size (entry_of first).kind (entry_of first) _ h.0 (row_sizes rows h.1)

pub sizes_small : (source : Source) → SourceFits source → AllByRecursion SmallSize (map size_entered (sections_of source))
sizes_small source fits =
    let rows = directory_rows source.facts in
    let gsd : List Content = map (λ entries. Gsd entries) (record_cutting rows) in
    let head = front_fits (gsd ++ EndOfGsd ∷ []) (text_records source.pieces)
    (front_fits (gsd ++ EndOfGsd ∷ [] ++ text_records source.pieces) (EndOfModule ∷ []) fits.records) in
    let entries = entries_fit (record_cutting rows) (front_fits gsd (EndOfGsd ∷ []) head) in
    let P : List GsdEntry → Type 0 = λ these. AllByRecursion EntryFits these in
    let Q : List (Name × ℕ) → Type 0 = λ these. AllByRecursion SmallSize these in
    subst Q (row_sections source) (row_sizes rows (subst P (holds_rows rows).exact entries))

pub found_small : (name : Name) (entered : List (Name × ℕ)) (size : ℕ) → AllByRecursion SmallSize entered
    → lookup (is_same_name name) entered ≡ Some size → size < 2 ^ 16
found_small name [] size h e = absurd cc
found_small name (first ∷ entered) size h e = by (is_same_name name first.0) e (found_small name entered size h.1)
  where
    same : (a b : ℕ) → Some a ≡ Some b → a ≡ b
    same a b e = cc

    by : (b : Bool) → cond b (Some first.1) (lookup (is_same_name name) entered) ≡ Some size
        → (lookup (is_same_name name) entered ≡ Some size → size < 2 ^ 16) → size < 2 ^ 16
    by true e later = let P : ℕ → Type 0 = λ n. n < 2 ^ 16 in subst P (same first.1 size e) h.0
    by false e later = later e

-- ---- one contribution

low : (base size whole : ℕ) → base + size ≤ whole → whole ≤ 57344 → base + size ≤ 65536
low base size whole h k = omega arith

small : (base size : ℕ) → base ≡ 0 → size < 2 ^ 16 → base + size ≤ 65536
small base size e h = omega arith

overlaid_low : (base own size whole : ℕ) → base ≡ own → size ≤ whole → own + whole ≤ 57344 → base + size ≤ 65536
overlaid_low base own size whole e h k = omega arith

not_moved : (entered : Option ℕ) (r o : Bool) (before offset : ℕ) → r ≡ false
    → modulo (base_entered entered ((if r then before else 0) + (if r && not o then offset else 0))) ≡ 0
not_moved None r o before offset e = refl
not_moved (Some size) true o before offset e = absurd (true≢false e)
not_moved (Some size) false o before offset e = refl

none_is_zero : (entered : Option ℕ) (base : ℕ) → entered ≡ None → modulo (base_entered entered base) ≡ 0
none_is_zero None base e = refl
none_is_zero (Some size) base e = absurd cc

module _ (bottom : ℕ) (sources : List Source) (index : ℕ) (name : Name) where
  abbrev parts : List Part
  parts = link_parts sources

  abbrev entered : Option ℕ
  entered = lookup (is_same_name name) (map size_entered (all_sections (source_at sources index)))

  base_zero : is_relocatable (first_attributes parts name) ≡ false → module_base bottom parts index name ≡ 0
  unfolding module_base contribution_base section_base
  base_zero r = not_moved (lookup (is_same_name name) (sections_in (module_at parts index)))
      (is_relocatable (first_attributes parts name)) (is_overlaid (first_attributes parts name))
      (bottom + sum_by (room_of parts) (names_before name (section_names parts)))
      (sum (map rounded (sizes_of (modules_before parts index) name))) r

  ends_by : (size : ℕ) (r o : Bool) → is_relocatable (first_attributes parts name) ≡ r
      → is_overlaid (first_attributes parts name) ≡ o → is_too_large bottom parts ≡ false
      → entered_in parts index name ≡ Some size → size < 2 ^ 16 → module_base bottom parts index name + size ≤ 65536
  ends_by size false o r-is o-is n e s = small (module_base bottom parts index name) size (base_zero r-is) s
  ends_by size true true r-is o-is n e s =
      overlaid_low (module_base bottom parts index name) (section_base bottom parts name) size (section_size parts name)
      (overlaid_together bottom parts name index size n r-is o-is e) (overlaid_fits parts name index size r-is o-is e)
      (ends_low bottom parts name n r-is (is_section parts index name size e))
  ends_by size true false r-is o-is n e s =
      low (module_base bottom parts index name) size (section_base bottom parts name + section_size parts name)
      (they_lie_within bottom parts name index size n r-is o-is e).1
      (ends_low bottom parts name n r-is (is_section parts index name size e))

  -- if the source has the section, the contribution ends at or before the last address
  contribution_ends : (size : ℕ) → is_too_large bottom parts ≡ false → entered ≡ Some size → size < 2 ^ 16
      → contribution bottom sources index name + size ≤ 65536
  contribution_ends size n e s =
      let P : ℕ → Type 0 = λ base. base + size ≤ 65536 in
      subst P (module_same sources bottom index name)
      (ends_by size (is_relocatable (first_attributes parts name)) (is_overlaid (first_attributes parts name)) refl refl n
      (ap (lookup (is_same_name name)) (own_same sources index) ∙ e) s)

  -- if the source doesn't have the section, the contribution is at 0
  not_entered : entered ≡ None → contribution bottom sources index name ≡ 0
  unfolding contribution
  not_entered e = none_is_zero entered
      (base_of bottom sources name + offset_after (attributes_of sources name) (own_sizes (take index sources) name)) e

  past : (location : ℕ) (bytes : List ℕ) (found : Option ℕ) → is_too_large bottom parts ≡ false → entered ≡ found
      → ((size : ℕ) → found ≡ Some size → size < 2 ^ 16)
      → location + length bytes ≤ unwrap_or (option_or found (if is_same_name name absolute_name then Some 0 else None)) 0
      → contribution bottom sources index name + location + length bytes ≤ 65536
  past location bytes (Some size) n e s h =
      ends (contribution bottom sources index name) size location (length bytes) (contribution_ends size n e (s size refl)) h
    where
      ends : (base size location count : ℕ) → base + size ≤ 65536 → location + count ≤ size → base + location + count ≤ 65536
      ends base size location count h k = omega arith
  past location bytes None n e s h =
      ends (contribution bottom sources index name) location (length bytes) (is_same_name name absolute_name) (not_entered e) h
    where
      ends : (base location count : ℕ) (b : Bool) → base ≡ 0 → location + count ≤ unwrap_or (if b then Some 0 else None) 0
          → base + location + count ≤ 65536
      ends base location count true e h = omega arith
      ends base location count false e h = omega arith

-- ---- all texts

module _ (bottom : ℕ) (sources : List Source) (n : is_too_large bottom (link_parts sources) ≡ false) where
  texts_end : (index : ℕ) (source : Source) → source_at sources index ≡ source ∷ [] → SourceFits source
      → (texts : List TextParts) → AllByRecursion (TextWithin source) texts
      → AllByRecursion (EndsInside bottom sources) (map (text_in index) texts)
  texts_end index source at fits [] h = tt
  texts_end index source at fits (text ∷ texts) h = (
    past bottom sources index text.section text.location text.bytes
        (lookup (is_same_name text.section) (map size_entered (sections_of source))) n
        (ap (λ these. lookup (is_same_name text.section) (map size_entered (all_sections these))) at
        ∙ ap (λ these. lookup (is_same_name text.section) (map size_entered these)) (append-nil (sections_of source)))
        (λ size e. found_small text.section (map size_entered (sections_of source)) size (sizes_small source fits) e) h.0,
    texts_end index source at fits texts h.1,
  )

  both_end : (xs ys : List ObjectText) → AllByRecursion (EndsInside bottom sources) xs
      → AllByRecursion (EndsInside bottom sources) ys → AllByRecursion (EndsInside bottom sources) (xs ++ ys)
  both_end [] ys h k = k
  both_end (x ∷ xs) ys h k = (h.0, both_end xs ys h.1 k)

  -- the texts of the last sources, the first of which has this index, end at or before the last address
  rest_end : (index : ℕ) (rest : List Source) → ((more : ℕ) → source_at sources (index + more) ≡ source_at rest more)
      → AllByRecursion SourceFits rest → Bounded [] absolute_name (link_parts rest)
      → AllByRecursion (EndsInside bottom sources) (flat_map texts_at (enumerate_from index rest))
  rest_end index [] at fit h = tt
  rest_end index (source ∷ rest) at fit h =
      let P : List Part → Type 0 = λ parts. Bounded [] absolute_name parts in
      let split = source_bounded source (EndOfFile ∷ link_parts rest)
      (subst P (append_assoc (source_parts source) (EndOfFile ∷ []) (link_parts rest)) h) in
      both_end (texts_at (index, source)) (flat_map texts_at (enumerate_from (index + 1) rest))
      (texts_end index source (ap (source_at sources) (plain index) ∙ at 0) fit.0 (texts_of source.pieces) split.0)
      (rest_end (index + 1) rest (λ more. ap (source_at sources) (moved index more) ∙ at (suc more)) fit.1 split.1)
    where
      plain : (index : ℕ) → index ≡ index + 0
      plain index = omega arith

      moved : (index more : ℕ) → index + 1 + more ≡ index + suc more
      moved index more = omega arith

pub first_bounded : (parts : List Part) → first_fault [] parts ≡ None → Bounded [] absolute_name parts
unfolding sections_in this_module current_section
first_bounded parts e = bounded [] parts e

pub texts_end_inside : (bottom : ℕ) (sources : List Source) → AllByRecursion SourceFits sources
    → first_fault [] (link_parts sources) ≡ None → is_too_large bottom (link_parts sources) ≡ false
    → AllByRecursion (EndsInside bottom sources) (all_texts sources)
texts_end_inside bottom sources fit e n =
    rest_end bottom sources n 0 sources (λ more. ap (source_at sources) (from_zero more)) fit
    (first_bounded (link_parts sources) e)
  where
    from_zero : (more : ℕ) → 0 + more ≡ more
    from_zero more = omega arith
