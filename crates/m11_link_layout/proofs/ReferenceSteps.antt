-- References and weak names after one more part.
use Rattle.std.proofs.Common.{◌≡◌, ℕ, Bool, true, false, ◌&&◌, ◌||◌, not, if◌then◌else◌, List, [], ◌∷◌, ◌++◌, append-nil, Option, Some, None, refl, sym, ap, ◌∙◌, subst}
use Rattle.std.specs.List.{cons_option, filter_map}
use Rattle.std.specs.Map.{lookup}
use Rattle.std.specs.Option.{unwrap_or}
use Rattle.std.proofs.lemmas.List.Elements.{filter_map-append}
use Rattle.std.proofs.lemmas.List.Folds.{list_any-append}
use Rattle.indexmap.specs.IndexMap.{insert_entry}
use Rattle.indexmap.specs.IndexSet.{insert_key}
use Rattle.m11_base.specs.Rad50.{is_same_name}
use Rattle.m11_base.proofs.SameNames.{same_name_equal}
use Rattle.m11_obj.specs.declared.gsd.GsdEntry.{GsdEntry}
use Rattle.m11_obj.specs.declared.gsd.GsdKind.{GsdKind}
use Rattle.m11_obj.specs.declared.gsd.GsdKind.TheVariants.{ModuleName, ControlSection, InternalSymbol, TransferAddress, GlobalSymbol, ProgramSection, Identification}
use Rattle.m11_link_modules.specs.Names.{is_among}
use Rattle.m11_link_modules.specs.Parts.{Part, Directory, Entry, EndOfDirectory, Text, Relocations, Relocated, EndOfModule, EndOfFile}
use Rattle.m11_link_modules.specs.Positions.{ends_module, global_of, this_module}
use Rattle.m11_link_modules.specs.Rules.{defines}
use Rattle.m11_obj.specs.Gsd.{has_bits}
use Rattle.m11_link_modules.proofs.KnownAfter.{this_module_ended, this_module_goes_on}
use Rattle.m11_link_layout.specs.Tables.{LayoutTables, collected_after, nothing_collected, with_definition, with_entry, with_reference, with_relocated, with_weak}
use Rattle.m11_link_layout.specs.Globals.{reference_by, reference_in, references_of, referred, relocated_reference, weak_by, weak_in, weak_names}
use Rattle.m11_link_layout.proofs.ReferencesGathered.{TableOf, none_referred, one_referred, references_more, table_is}

-- ---- weak names

-- these names are those to which this module's entries refer weakly
abbrev pub WeakOf : List Part → List (ℕ × ℕ) → Type 0
WeakOf before weak = (name : ℕ × ℕ) → is_among weak name ≡ is_among (weak_names (this_module before)) name

weak_more : (own : List Part) (part : Part) (name : ℕ × ℕ)
    → is_among (weak_names (own ++ part ∷ [])) name
    ≡ (is_among (weak_names own) name || is_among (filter_map weak_in (part ∷ [])) name)
unfolding weak_names
weak_more own part name =
    ap (λ names. is_among names name) (filter_map-append weak_in own (part ∷ []))
    ∙ list_any-append (is_same_name name) (filter_map weak_in own) (filter_map weak_in (part ∷ []))

or_false : (b : Bool) → (b || false) ≡ b
or_false true = refl
or_false false = refl

inserted_by : (b : Bool) (names : List (ℕ × ℕ)) (name other : ℕ × ℕ) → is_among names name ≡ b
    → is_among (if b then names else names ++ name ∷ []) other ≡ (is_among names other || (is_same_name other name || false))
inserted_by false names name other e = list_any-append (is_same_name other) names (name ∷ [])
inserted_by true names name other e = by (is_same_name other name) refl
  where
    by : (c : Bool) → is_same_name other name ≡ c → is_among names other ≡ (is_among names other || (c || false))
    by false f = sym (or_false (is_among names other))
    by true f =
        let P : ℕ × ℕ → Type 0 = λ n. is_among names n ≡ true in
        let t = subst P (sym (same_name_equal other name f)) e in
        t ∙ ap (λ b. b || true) (sym t)

pub among_inserted : (names : List (ℕ × ℕ)) (name other : ℕ × ℕ)
    → is_among (insert_key is_same_name names name) other ≡ (is_among names other || (is_same_name other name || false))
among_inserted names name other = inserted_by (is_among names name) names name other refl

weak_kept : (before : List Part) (part : Part) (weak : List (ℕ × ℕ)) (reported : Option (ℕ × ℕ)) → ends_module part ≡ false
    → filter_map weak_in (part ∷ []) ≡ cons_option reported [] → reported ≡ None → WeakOf before weak
    → WeakOf (before ++ part ∷ []) weak
weak_kept before part weak reported e t n w name =
    w name ∙ sym (or_false (is_among (weak_names (this_module before)) name))
    ∙ ap (λ names. is_among (weak_names (this_module before)) name || is_among names name)
    (sym (t ∙ ap (λ o. cons_option o []) n))
    ∙ sym (weak_more (this_module before) part name)
    ∙ ap (λ own. is_among (weak_names own) name) (sym (this_module_goes_on before part e))

weak_noted : (before : List Part) (part : Part) (weak : List (ℕ × ℕ)) (reported : Option (ℕ × ℕ)) (noted : ℕ × ℕ)
    → ends_module part ≡ false
    → filter_map weak_in (part ∷ []) ≡ cons_option reported [] → reported ≡ Some noted → WeakOf before weak
    → WeakOf (before ++ part ∷ []) (insert_key is_same_name weak noted)
weak_noted before part weak reported noted e t n w name =
    among_inserted weak noted name
    ∙ ap (λ b. b || (is_same_name name noted || false)) (w name)
    ∙ ap (λ names. is_among (weak_names (this_module before)) name || is_among names name)
    (sym (t ∙ ap (λ o. cons_option o []) n))
    ∙ sym (weak_more (this_module before) part name)
    ∙ ap (λ own. is_among (weak_names own) name) (sym (this_module_goes_on before part e))

weak_ended : (before : List Part) → WeakOf (before ++ EndOfModule ∷ []) []
unfolding weak_names
weak_ended before name = ap (λ own. is_among (filter_map weak_in own) name) (sym (this_module_ended before))

-- ---- references

pub record ReferencesOf (before : List Part) (references : List ((ℕ × ℕ) × Bool)) (weak : List (ℕ × ℕ)) : Type 0 where
  pub table : TableOf (references_of before) references
  pub weak_is : WeakOf before weak

abbrev Referring : List Part → LayoutTables → Type 0
Referring before g = ReferencesOf before g.references g.weak

table_kept : (before : List Part) (part : Part) (table : List ((ℕ × ℕ) × Bool)) → reference_in before part ≡ None
    → TableOf (references_of before) table
    → TableOf (references_of (before ++ part ∷ [])) table
table_kept before part table n t =
    let P : List ((ℕ × ℕ) × Bool) → Type 0 = λ references. TableOf references table in
    subst P (sym (references_more before part ∙ ap (λ o. references_of before ++ cons_option o []) n
    ∙ append-nil (references_of before))) t

table_noted : (before : List Part) (part : Part) (table : List ((ℕ × ℕ) × Bool)) (name : ℕ × ℕ) (strong : Bool)
    → reference_in before part ≡ Some (name, strong) → TableOf (references_of before) table
    → TableOf (references_of (before ++ part ∷ []))
    (insert_entry is_same_name table name (unwrap_or (lookup (is_same_name name) table) false || strong))
table_noted before part table name strong n t =
    let P : List ((ℕ × ℕ) × Bool) → Type 0 = λ references.
    TableOf references (insert_entry is_same_name table name (unwrap_or (lookup (is_same_name name) table) false || strong)) in
    subst P (sym (references_more before part ∙ ap (λ o. references_of before ++ cons_option o []) n))
    (one_referred (references_of before) table name strong t)

kept : (before : List Part) (g : LayoutTables) (part : Part) (reported : Option (ℕ × ℕ)) → ends_module part ≡ false
    → reference_in before part ≡ None
    → filter_map weak_in (part ∷ []) ≡ cons_option reported [] → reported ≡ None → Referring before g
    → Referring (before ++ part ∷ []) g
kept before g part reported e r w n t =
    record {
      table = table_kept before part g.references r t.table;
      weak_is =
          weak_kept before part g.weak reported e w n t.weak_is;
    }

symbol_step : (before : List Part) (g : LayoutTables) (entry : GsdEntry) (d w : Bool)
    → reference_in before (Entry entry) ≡ (if d then None else Some (entry.name, not w))
    → filter_map weak_in (Entry entry ∷ []) ≡ cons_option (if not d && w then Some entry.name else None) []
    → Referring before g
    → Referring (before ++ Entry entry ∷ [])
    (if d then with_definition entry g else if w then with_weak entry.name g else with_reference entry.name true g)
symbol_step before g entry true w r n t = kept before g (Entry entry) None refl r n refl t
symbol_step before g entry false true r n t = record {
  table = table_noted before (Entry entry) g.references entry.name false r t.table;
  weak_is = weak_noted before (Entry entry) g.weak (Some entry.name) entry.name refl n refl t.weak_is;
}
symbol_step before g entry false false r n t = record {
  table = table_noted before (Entry entry) g.references entry.name true r t.table;
  weak_is = weak_kept before (Entry entry) g.weak None refl n refl t.weak_is;
}

entry_step : (bottom : ℕ) (before : List Part) (g : LayoutTables) (kind : GsdKind) (entry : GsdEntry)
    → reference_in before (Entry entry) ≡ reference_by kind entry
    → filter_map weak_in (Entry entry ∷ []) ≡ cons_option (weak_by kind entry) [] → Referring before g
    → Referring (before ++ Entry entry ∷ []) (with_entry bottom kind entry g)
entry_step bottom before g GlobalSymbol entry r n t =
    symbol_step before g entry (defines entry) (has_bits 1 entry.flags) r n t
entry_step bottom before g ControlSection entry r n t = kept before g (Entry entry) None refl r n refl t
entry_step bottom before g ProgramSection entry r n t = kept before g (Entry entry) None refl r n refl t
entry_step bottom before g ModuleName entry r n t = kept before g (Entry entry) None refl r n refl t
entry_step bottom before g InternalSymbol entry r n t = kept before g (Entry entry) None refl r n refl t
entry_step bottom before g TransferAddress entry r n t = kept before g (Entry entry) None refl r n refl t
entry_step bottom before g Identification entry r n t = kept before g (Entry entry) None refl r n refl t

relocated_step : (before : List Part) (g : LayoutTables) (part : Part) (global : Option (ℕ × ℕ)) → ends_module part ≡ false
    → reference_in before part ≡ relocated_reference (weak_names (this_module before)) global
    → filter_map weak_in (part ∷ []) ≡ []
    → Referring before g → Referring (before ++ part ∷ []) (with_relocated global g)
relocated_step before g part None e r n t = kept before g part None e r n refl t
relocated_step before g part (Some name) e r n t = record {
  table = table_noted before part g.references name (not (is_among g.weak name))
      (r ∙ ap (λ b. Some (name, not b)) (sym (t.weak_is name))) t.table;
  weak_is = weak_kept before part g.weak None e n refl t.weak_is;
}

pub references_step : (bottom : ℕ) (before : List Part) (g : LayoutTables) (part : Part)
    → ReferencesOf before g.references g.weak
    → ReferencesOf (before ++ part ∷ []) (collected_after bottom g part).references (collected_after bottom g part).weak
unfolding collected_after
references_step bottom before g Directory t = kept before g Directory None refl refl refl refl t
references_step bottom before g (Entry entry) t = entry_step bottom before g entry.kind entry refl refl t
references_step bottom before g EndOfDirectory t = kept before g EndOfDirectory None refl refl refl refl t
references_step bottom before g (Text address bytes) t = kept before g (Text address bytes) None refl refl refl refl t
references_step bottom before g Relocations t = kept before g Relocations None refl refl refl refl t
references_step bottom before g (Relocated relocation) t =
    relocated_step before g (Relocated relocation) (global_of relocation.target) refl refl refl t
references_step bottom before g EndOfModule t =
    record { table = table_kept before EndOfModule g.references refl t.table; weak_is = weak_ended before }
references_step bottom before g EndOfFile t = kept before g EndOfFile None refl refl refl refl t

pub references_none : ReferencesOf [] nothing_collected.references nothing_collected.weak
unfolding references_of weak_names this_module
references_none = record { table = none_referred; weak_is = λ name. refl }

pub references_are : (parts : List Part) (references : List ((ℕ × ℕ) × Bool)) (weak : List (ℕ × ℕ))
    → ReferencesOf parts references weak
    → references ≡ referred parts
unfolding referred
references_are parts references weak t = table_is (references_of parts) references t.table
