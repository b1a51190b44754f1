-- The directory of a source is in order: it enters each section once, and its globals come after a section.
use Rattle.std.proofs.Common.{◌≡◌, ◌∙◌, ℕ, ◌+◌, ◌==◌, ◌||◌, Bool, true, false, if◌then◌else◌, List, [], ◌∷◌, ◌++◌, append-nil, append_assoc, length, map, flat_map, Option, Some, None, refl, sym, ap, subst, arith}
use Rattle.std.proofs.lemmas.Bool.{or_parts}
use Rattle.std.specs.Prelude.{⊤, nat_eq, unwrap_or}
use Rattle.std.specs.List.{AllByRecursion, cons_option, enumerate_from}
use Rattle.std.specs.Map.{lookup}
use Rattle.std.specs.Option.{is_none, option_or}
use Rattle.std.proofs.lemmas.Bool.Decides.{nat_tests}
use Rattle.std.proofs.lemmas.List.{length-append, map-append}
use Rattle.m11_base.specs.Rad50.{Name, is_same_name}
use Rattle.m11_base.proofs.SameNames.{same_name_equal, same_name_itself}
use Rattle.m11_asm_directory.specs.Definitions.{definition_rows, lies_in, row_by}
use Rattle.m11_asm_directory.specs.FirstPass.{DirectoryFacts}
use Rattle.m11_asm_directory.specs.Names.{ordered}
use Rattle.m11_asm_directory.specs.References.{reference_rows, references}
use Rattle.m11_asm_directory.specs.Rows.{all_section_rows, directory_rows, identification_rows, main_name, rows_under, section_rows}
use Rattle.m11_asm_directory.specs.Transfers.{transfer_row}
use Rattle.m11_asm_rules.specs.Definitions.{last_definition}
use Rattle.m11_asm_rules.specs.declared.definitions.Definition.{Definition}
use Rattle.m11_asm_rules.specs.declared.definitions.Key.TheVariants.{Named}
use Rattle.m11_asm_rules.specs.declared.definitions.Standing.{Standing}
use Rattle.m11_asm_rules.specs.declared.definitions.Standing.TheVariants.{Known, Unknown}
use Rattle.m11_asm_rules.specs.Tables.{size_of}
use Rattle.m11_asm_rules.specs.declared.sections.Section.{Section}
use Rattle.m11_link_modules.specs.Names.{is_among}
use Rattle.m11_link_modules.specs.Positions.{size_known}
use Rattle.m11_obj.specs.Directory.{entry_of}
use Rattle.m11_obj.specs.declared.directory.DirectoryRow.{DirectoryRow}
use Rattle.m11_obj.specs.declared.directory.DirectoryRow.TheVariants as row
use Rattle.m11_obj.specs.declared.gsd.GsdEntry.{GsdEntry}
use Rattle.m11_scan_expressions.specs.Quantities.{Quantity}
use Rattle.m11_cli_image.specs.Objects.{transfer_at}
use Rattle.m11_cli_image.specs.Sections.{OwnSection, name_of, own_section, sections_of, size_entered}
use Rattle.m11_cli_image.specs.Sources.{Source}
use Rattle.m11_cli_image.specs.Refusals.{AreOnce, IsConsistent, IsOwn}
use Rattle.m11_cli_image.proofs.DirectoryTaken.{Entered, MayAllCome, after_both, both_come, entered_after}

-- ---- names

pub turned : (one other : Name) → is_same_name one other ≡ false → is_same_name other one ≡ false
turned one other e = by (is_same_name other one) refl
  where
    by : (b : Bool) → is_same_name other one ≡ b → b ≡ false
    by true f =
        let P : Name → Type 0 = λ name. is_same_name one name ≡ true in
        let bad = subst P (sym (same_name_equal other one f)) (same_name_itself one) in
        absurd (let no = sym bad ∙ e in cc)
    by false f = refl

-- a name that is not among some entries is not among them and an entry with another name
none_more : (name other : Name) (size : ℕ) (entered : Entered) → lookup (is_same_name name) entered ≡ None → is_same_name name other ≡ false
    → lookup (is_same_name name) (entered ++ (other, size) ∷ []) ≡ None
none_more name other size [] e f = by (is_same_name name other) f
  where
    by : (b : Bool) → b ≡ false → (if b then Some size else None) ≡ None
    by true f = absurd cc
    by false f = refl
none_more name other size (first ∷ entered) e f = by (is_same_name name first.0) e (λ h. none_more name other size entered h f)
  where
    by : (b : Bool) → (if b then Some first.1 else lookup (is_same_name name) entered) ≡ None
        → (lookup (is_same_name name) entered ≡ None → lookup (is_same_name name) (entered ++ (other, size) ∷ []) ≡ None)
        → (if b then Some first.1 else lookup (is_same_name name) (entered ++ (other, size) ∷ [])) ≡ None
    by true e later = absurd cc
    by false e later = later e

-- a name that the entries have is found among them
pub known_by : (name : Name) (entered : Entered) → is_among (map (λ one. one.0) entered) name ≡ true
    → is_none (size_known entered name) ≡ false
known_by name entered e = found (lookup (is_same_name name) entered) _ (there entered e)
  where
    by : (b c : Bool) (size : ℕ) (more : Option ℕ) → (b || c) ≡ true → (c ≡ true → is_none more ≡ false)
        → is_none (if b then Some size else more) ≡ false
    by true c size more e h = refl
    by false c size more e h = h e

    there : (entered : Entered) → is_among (map (λ one. one.0) entered) name ≡ true → is_none (lookup (is_same_name name) entered) ≡ false
    there [] e = absurd cc
    there (first ∷ entered) e =
        by (is_same_name name first.0) (is_among (map (λ one. one.0) entered) name) first.1 (lookup (is_same_name name) entered) e (there entered)

    found : (one other : Option ℕ) → is_none one ≡ false → is_none (option_or one other) ≡ false
    found (Some size) other h = refl
    found None other h = absurd cc

-- ---- rows of globals

abbrev IsGlobal : DirectoryRow → Type 0
IsGlobal (row.Definition name moves value) = ⊤
IsGlobal (row.Reference name is_weak) = ⊤
IsGlobal other = ⊥

globals_come : (entered : Entered) (rows : List DirectoryRow) → nat_eq (length entered) 0 ≡ false → AllByRecursion IsGlobal rows
    → MayAllCome entered (map entry_of rows)
globals_come entered [] some all = tt
globals_come entered (row.Definition name moves value ∷ rows) some all = (some, globals_come entered rows some all.1)
globals_come entered (row.Reference name is_weak ∷ rows) some all = (some, globals_come entered rows some all.1)
globals_come entered (other ∷ rows) some all = absurd all.0

globals_enter : (entered : Entered) (rows : List DirectoryRow) → AllByRecursion IsGlobal rows
    → entered_after entered (map entry_of rows) ≡ entered
globals_enter entered [] all = refl
globals_enter entered (row.Definition name moves value ∷ rows) all = globals_enter entered rows all.1
globals_enter entered (row.Reference name is_weak ∷ rows) all = globals_enter entered rows all.1
globals_enter entered (other ∷ rows) all = absurd all.0

module _ (facts : DirectoryFacts) where
  lying : (b : Bool) (name : Name) (moves : Bool) (value : ℕ) (rows : List DirectoryRow) → AllByRecursion IsGlobal rows
      → AllByRecursion IsGlobal (cons_option (if b then Some (row.Definition name moves value) else None) rows)
  lying true name moves value rows h = (tt, h)
  lying false name moves value rows h = h

  standing_global : (section name : Name) (definition : Definition) (standing : Standing) (rows : List DirectoryRow)
      → AllByRecursion IsGlobal rows
      → AllByRecursion IsGlobal (cons_option (row_by section name (Some (record definition { standing = standing }))) rows)
  standing_global section name definition (Known value kind) rows h = lying (lies_in section kind) name _ value rows h
  standing_global section name definition Unknown rows h = h

  one_global : (section name : Name) (definition : Option Definition) (rows : List DirectoryRow) → AllByRecursion IsGlobal rows
      → AllByRecursion IsGlobal (cons_option (row_by section name definition) rows)
  one_global section name (Some definition) rows h = standing_global section name definition definition.standing rows h
  one_global section name None rows h = h

  definitions_global : (section : Name) (names : List Name) → AllByRecursion IsGlobal (definition_rows facts.table section names)
  definitions_global section [] = tt
  definitions_global section (name ∷ names) =
      one_global section name (last_definition (Named name) facts.table.definitions) _ (definitions_global section names)

  references_global : (weak names : List Name) → AllByRecursion IsGlobal (reference_rows weak names)
  references_global weak [] = tt
  references_global weak (name ∷ names) = (tt, references_global weak names)

  either_global : (b : Bool) (rows : List DirectoryRow) → AllByRecursion IsGlobal rows → AllByRecursion IsGlobal (if b then rows else [])
  either_global true rows h = h
  either_global false rows h = tt

  both_global : (some more : List DirectoryRow) → AllByRecursion IsGlobal some → AllByRecursion IsGlobal more
      → AllByRecursion IsGlobal (some ++ more)
  both_global [] more h k = k
  both_global (one ∷ some) more h k = (h.0, both_global some more h.1 k)

  under_global : (number : ℕ) (section : Name) → AllByRecursion IsGlobal (rows_under facts number section)
  under_global number section =
      both_global (definition_rows facts.table section (ordered facts.table.globals))
      (if number == 0 then reference_rows facts.weak (references facts) else [])
      (definitions_global section (ordered facts.table.globals))
      (either_global (number == 0) (reference_rows facts.weak (references facts)) (references_global facts.weak (references facts)))

  -- ---- rows of sections

  abbrev entered_by : ℕ × Section → Name × ℕ
  entered_by numbered = (numbered.1.name, size_of numbered.0 facts.table)

  abbrev named : ℕ × Section → Name
  named numbered = numbered.1.name

  -- none of these sections was entered
  abbrev AreNew : Entered → List (ℕ × Section) → Type 0
  AreNew entered numbered = AllByRecursion (λ (one : ℕ × Section). lookup (is_same_name one.1.name) entered ≡ None) numbered

  still_new : (entered : Entered) (name : Name) (size : ℕ) (numbered : List (ℕ × Section)) → AreNew entered numbered
      → is_among (map named numbered) name ≡ false → AreNew (entered ++ (name, size) ∷ []) numbered
  still_new entered name size [] new e = tt
  still_new entered name size (one ∷ numbered) new e =
      let parts = or_parts (is_same_name name one.1.name) (is_among (map named numbered) name) e in
      (none_more one.1.name name size entered new.0 (turned name one.1.name parts.0), still_new entered name size numbered new.1 parts.1)

  some_entered : (entered : Entered) (one : Name × ℕ) → nat_eq (length (entered ++ one ∷ [])) 0 ≡ false
  some_entered entered one =
      let size = length-append entered (one ∷ []) in
      not_zero (length (entered ++ one ∷ [])) (length entered) size
    where
      not_zero : (n m : ℕ) → n ≡ m + 1 → nat_eq n 0 ≡ false
      not_zero n m e = grind (arith, nat_tests)

  sections_come : (entered : Entered) (numbered : List (ℕ × Section)) → AreNew entered numbered → AreOnce (map named numbered)
      → MayAllCome entered (map entry_of (flat_map (section_rows facts) numbered))
      × (entered_after entered (map entry_of (flat_map (section_rows facts) numbered)) ≡ entered ++ map entered_by numbered)
  sections_come entered [] new once = (tt, sym (append-nil entered))
  sections_come entered (one ∷ numbered) new once =
      let under = rows_under facts one.0 one.1.name in
      let more = flat_map (section_rows facts) numbered in
      let now : Entered = entered ++ entered_by one ∷ [] in
      let global = under_global one.0 one.1.name in
      let rest = sections_come now numbered (still_new entered one.1.name (size_of one.0 facts.table) numbered new.1 once.0) once.1 in
      let here = globals_come now under (some_entered entered (entered_by one)) global in
      let stays = globals_enter now under global in
      let P : Entered → Type 0 = λ these. MayAllCome these (map entry_of more) in
      let Q : List GsdEntry → Type 0 = λ these. MayAllCome now these in (
        (
          new.0,
          subst Q (sym (map-append entry_of under more))
              (both_come now (map entry_of under) (map entry_of more) here (subst P (sym stays) rest.0)),
        ),
        ap (entered_after now) (map-append entry_of under more)
            ∙ after_both now (map entry_of under) (map entry_of more)
            ∙ ap (λ (these : Entered). entered_after these (map entry_of more)) stays
            ∙ rest.1 ∙ append_assoc entered (entered_by one ∷ []) (map entered_by numbered),
      )

-- ---- all rows

all_new : (facts : DirectoryFacts) (numbered : List (ℕ × Section)) → AreNew facts [] numbered
all_new facts [] = tt
all_new facts (one ∷ numbered) = (refl, all_new facts numbered)

same_names : (facts : DirectoryFacts) (numbered : List (ℕ × Section))
    → map name_of (map (own_section facts) numbered) ≡ map (named facts) numbered
same_names facts [] = refl
same_names facts (one ∷ numbered) = ap (λ (names : List Name). one.1.name ∷ names) (same_names facts numbered)

same_entered : (facts : DirectoryFacts) (numbered : List (ℕ × Section))
    → map (entered_by facts) numbered ≡ map size_entered (map (own_section facts) numbered)
same_entered facts [] = refl
same_entered facts (one ∷ numbered) = ap (λ (these : Entered). entered_by facts one ∷ these) (same_entered facts numbered)

pub names_entered : (sections : List OwnSection) → map (λ one. one.0) (map size_entered sections) ≡ map name_of sections
names_entered [] = refl
names_entered (one ∷ sections) = ap (λ (names : List Name). one.name ∷ names) (names_entered sections)

-- a section of the source is known after its directory
pub own_known : (source : Source) (name : Name) → IsOwn source name → is_none (size_known (map size_entered (sections_of source)) name) ≡ false
own_known source name own =
    let P : List Name → Type 0 = λ names. is_among names name ≡ true in
    known_by name (map size_entered (sections_of source)) (subst P (sym (names_entered (sections_of source))) own)

transfer_comes : (entered : Entered) (found : Option Quantity) → is_none (size_known entered (transfer_at 0 found).section) ≡ false
    → MayAllCome entered (map entry_of (transfer_row found ∷ []))
transfer_comes entered (Some value) known = (known, tt)
transfer_comes entered None known = (known, tt)

transfer_enters : (entered : Entered) (found : Option Quantity) → entered_after entered (map entry_of (transfer_row found ∷ [])) ≡ entered
transfer_enters entered (Some value) = refl
transfer_enters entered None = refl

names_come : (entered : Entered) (found : Option Name) → MayAllCome entered (map entry_of (identification_rows found))
names_come entered (Some name) = (tt, tt)
names_come entered None = tt

names_enter : (entered : Entered) (found : Option Name) → entered_after entered (map entry_of (identification_rows found)) ≡ entered
names_enter entered (Some name) = refl
names_enter entered None = refl

pub record RowsCome (source : Source) : Type 0 where
  pub come : MayAllCome [] (map entry_of (directory_rows source.facts))
  pub enter : entered_after [] (map entry_of (directory_rows source.facts)) ≡ map size_entered (sections_of source)

pub rows_come : (source : Source) → IsConsistent source → RowsCome source
unfolding directory_rows
rows_come source is =
    let facts = source.facts in
    let numbered = enumerate_from 0 facts.table.sections in
    let own = map size_entered (sections_of source) in
    let names : List GsdEntry = map entry_of (identification_rows facts.identification) in
    let front : List GsdEntry = entry_of (row.Module (unwrap_or facts.title main_name)) ∷ names in
    let middle : List GsdEntry = map entry_of (all_section_rows facts) in
    let last : List GsdEntry = map entry_of (transfer_row facts.transfer ∷ []) in
    let P : List Name → Type 0 = λ these. AreOnce these in
    let Q : Entered → Type 0 = λ these. MayAllCome these middle in
    let R : Entered → Type 0 = λ these. MayAllCome these last in
    let S : List GsdEntry → Type 0 = λ these. MayAllCome [] these in
    let sections = sections_come facts [] numbered (all_new facts numbered) (subst P (same_names facts numbered) is.once) in
    let enters : entered_after [] front ≡ [] = names_enter [] facts.identification in
    let now : entered_after [] (front ++ middle) ≡ own =
    after_both [] front middle ∙ ap (λ (these : Entered). entered_after these middle) enters ∙ sections.1 ∙ same_entered facts numbered in
    let whole : map entry_of (directory_rows facts) ≡ (front ++ middle) ++ last =
    map-append entry_of ((row.Module (unwrap_or facts.title main_name) ∷ identification_rows facts.identification) ++ all_section_rows facts)
    (transfer_row facts.transfer ∷ [])
    ∙ ap (λ (these : List GsdEntry). these ++ last)
    (map-append entry_of (row.Module (unwrap_or facts.title main_name) ∷ identification_rows facts.identification) (all_section_rows facts)) in
    record {
      come = subst S (sym whole) (both_come [] (front ++ middle) last
          (both_come [] front middle (tt, names_come [] facts.identification) (subst Q (sym enters) sections.0))
          (subst R (sym now) (transfer_comes own facts.transfer (own_known source (transfer_at 0 facts.transfer).section is.begins))));
      enter = ap (entered_after []) whole ∙ after_both [] (front ++ middle) last
          ∙ ap (λ (these : Entered). entered_after these last) now ∙ transfer_enters own facts.transfer;
    }
