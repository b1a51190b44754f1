-- A directory whose entries are in order passes the rules of a link, whatever names come before it.
use Rattle.std.proofs.Common.{◌≡◌, ℕ, Bool, true, false, ◌&&◌, List, [], ◌∷◌, ◌++◌, append_assoc, length, map, flat_map, Option, Some, None, refl, sym, subst}
use Rattle.std.specs.Prelude.{⊤, nat_eq, nat_le}
use Rattle.std.specs.Map.{lookup}
use Rattle.std.specs.Option.{is_none, is_some, option_or}
use Rattle.indexmap.specs.IndexMap.{insert_entry}
use Rattle.indexmap.specs.IndexSet.{insert_key}
use Rattle.indexmap.proofs.MapLemmas.{insert_entry-absent, absent_from_lookup}
use Rattle.m11_base.specs.Rad50.{Name, is_same_name}
use Rattle.m11_link_modules.specs.declared.fault.ModuleFault.{ModuleFault}
use Rattle.m11_link_modules.specs.declared.fault.ModuleFault.TheVariants.{BadOrder, UnknownSection, TextOutside, TooManyGlobals, TooManySections, TooManyModules}
use Rattle.m11_link_modules.specs.declared.stage.Stage.{Stage}
use Rattle.m11_link_modules.specs.declared.stage.Stage.TheVariants.{Between, InDirectory, InBody}
use Rattle.m11_link_modules.specs.Grammar.{directory_parts}
use Rattle.m11_link_modules.specs.Parts.{Part, Directory, Entry, EndOfDirectory}
use Rattle.m11_link_modules.specs.Positions.{RulesState, size_known}
use Rattle.m11_link_modules.specs.Rules.{begin_fault, defines_relocatable, entry_fault, fault_known, first_there, may_occur, global_fault, is_past, most_globals, most_modules, most_sections}
use Rattle.m11_link_modules.specs.Steps.{first_known_fault, known_after, with_entry}
use Rattle.m11_obj.specs.declared.gsd.GsdEntry.{GsdEntry}
use Rattle.m11_obj.specs.declared.gsd.GsdKind.{GsdKind}
use Rattle.m11_obj.specs.declared.gsd.GsdKind.TheVariants.{ModuleName, ControlSection, InternalSymbol, TransferAddress, GlobalSymbol, ProgramSection, Identification}
use Rattle.m11_obj.specs.Fronts.{joined}

abbrev pub Entered : Type 0
Entered = List (Name × ℕ)

-- ---- faults that are limits: too many globals or sections; too many modules, if `many` holds; a text outside its section, if `outside`
-- holds

abbrev pub Limits : Type 0 → Type 0 → ModuleFault → Type 0
Limits many outside TooManyGlobals = ⊤
Limits many outside TooManySections = ⊤
Limits many outside TooManyModules = many
Limits many outside TextOutside = outside
Limits many outside fault = ⊥

-- no fault, or a limit
abbrev pub Fine : Type 0 → Type 0 → Option ModuleFault → Type 0
Fine many outside None = ⊤
Fine many outside (Some fault) = Limits many outside fault

-- the state of the rules before a part
abbrev pub state : Stage → ℕ → List Name → List Name → Entered → Name → Option ℕ → RulesState
state stage modules sections globals entered section text = record {
  stage = stage;
  modules = modules;
  sections = sections;
  globals = globals;
  entered = entered;
  section = section;
  text = text;
}

-- ---- entries in order

-- an entry of this kind may come after these sections were entered
abbrev pub MayCome : GsdKind → GsdEntry → Entered → Type 0
MayCome ControlSection entry entered = lookup (is_same_name entry.name) entered ≡ None
MayCome ProgramSection entry entered = lookup (is_same_name entry.name) entered ≡ None
MayCome TransferAddress entry entered = is_none (size_known entered entry.name) ≡ false
MayCome GlobalSymbol entry entered = nat_eq (length entered) 0 ≡ false
MayCome kind entry entered = ⊤

abbrev pub entered_with : GsdKind → GsdEntry → Entered → Entered
entered_with ControlSection entry entered = entered ++ (entry.name, entry.value) ∷ []
entered_with ProgramSection entry entered = entered ++ (entry.name, entry.value) ∷ []
entered_with kind entry entered = entered

abbrev pub entered_after : Entered → List GsdEntry → Entered
entered_after entered [] = entered
entered_after entered (entry ∷ entries) = entered_after (entered_with entry.kind entry entered) entries

abbrev pub MayAllCome : Entered → List GsdEntry → Type 0
MayAllCome entered [] = ⊤
MayAllCome entered (entry ∷ entries) =
    MayCome entry.kind entry entered × MayAllCome (entered_with entry.kind entry entered) entries

pub first_come : (entered : Entered) (some more : List GsdEntry) → MayAllCome entered (some ++ more) → MayAllCome entered some
first_come entered [] more h = tt
first_come entered (entry ∷ some) more h = (h.0, first_come (entered_with entry.kind entry entered) some more h.1)

pub then_come : (entered : Entered) (some more : List GsdEntry) → MayAllCome entered (some ++ more)
    → MayAllCome (entered_after entered some) more
then_come entered [] more h = h
then_come entered (entry ∷ some) more h = then_come (entered_with entry.kind entry entered) some more h.1

pub both_come : (entered : Entered) (some more : List GsdEntry) → MayAllCome entered some
    → MayAllCome (entered_after entered some) more → MayAllCome entered (some ++ more)
both_come entered [] more h k = k
both_come entered (entry ∷ some) more h k = (h.0, both_come (entered_with entry.kind entry entered) some more h.1 k)

pub after_both : (entered : Entered) (some more : List GsdEntry)
    → entered_after entered (some ++ more) ≡ entered_after (entered_after entered some) more
after_both entered [] more = refl
after_both entered (entry ∷ some) more = after_both (entered_with entry.kind entry entered) some more

module _ (many outside : Type 0) where
  abbrev Sound : Option ModuleFault → Type 0
  Sound fault = Fine many outside fault

  pub fine_or : (first rest : Option ModuleFault) → Sound first → Sound rest → Sound (option_or first rest)
  fine_or None rest h k = k
  fine_or (Some fault) rest h k = h

  -- ---- one entry

  past_sections : (b : Bool) → Sound (first_there ((b, TooManySections) ∷ []))
  past_sections true = tt
  past_sections false = tt

  past_globals : (b : Bool) → Sound (first_there ((b, TooManyGlobals) ∷ []))
  past_globals true = tt
  past_globals false = tt

  enters_once : (found : Option ℕ) (b : Bool) → found ≡ None
      → Sound (first_there ((is_some found, BadOrder) ∷ (b, TooManySections) ∷ []))
  enters_once None b e = past_sections b
  enters_once (Some size) b e = absurd cc

  is_known : (b : Bool) → b ≡ false → Sound (first_there ((b, UnknownSection) ∷ []))
  is_known true e = absurd cc
  is_known false e = tt

  pub named_section : (found : Option ℕ) → is_none found ≡ false → Sound (first_there ((is_none found, UnknownSection) ∷ []))
  named_section found e = is_known (is_none found) e

  defines_after : (b c : Bool) (rest : Option ModuleFault) → c ≡ false → Sound rest
      → Sound (option_or (first_there ((b && c, BadOrder) ∷ [])) rest)
  defines_after true true rest e h = absurd cc
  defines_after true false rest e h = h
  defines_after false c rest e h = h

  pub global_fine : (globals : List Name) (name : Name) → Sound (global_fault globals name)
  global_fine globals name = past_globals (is_past most_globals globals name)

  begin_fine : (stage : Stage) (modules : ℕ) → (nat_le most_modules modules ≡ true → many) → Sound (begin_fault stage modules)
  begin_fine Between modules h = by (nat_le most_modules modules) h
    where
      by : (b : Bool) → (b ≡ true → many) → Sound (first_there ((b, TooManyModules) ∷ []))
      by true h = h refl
      by false h = tt
  begin_fine InDirectory modules h = tt
  begin_fine InBody modules h = tt

  module _ (modules : ℕ) (section : Name) (text : Option ℕ) where
    -- the state inside a directory
    abbrev pub inside : List Name → List Name → Entered → RulesState
    inside sections globals entered = state InDirectory modules sections globals entered section text

    -- whatever names come before, these parts have no fault but a limit
    abbrev pub Goes : Entered → List Part → Type 0
    Goes entered parts = (sections globals : List Name) → Sound (first_known_fault (inside sections globals entered) parts)

    enters : (entry : GsdEntry) (entered : Entered) (globals : List Name) (parts : List Part)
        → lookup (is_same_name entry.name) entered ≡ None
        → Goes (entered ++ (entry.name, entry.value) ∷ []) parts → (sections : List Name)
        → Sound (first_known_fault (inside sections globals (insert_entry is_same_name entered entry.name entry.value)) parts)
    enters entry entered globals parts e h sections =
        let P : Entered → Type 0 = λ these. Sound (first_known_fault (inside sections globals these) parts) in
        subst P (sym (insert_entry-absent is_same_name entry.name entry.value entered
        (absent_from_lookup (is_same_name entry.name) entered e))) (h sections globals)

    entry_goes : (kind : GsdKind) (entry : GsdEntry) (entered : Entered) (parts : List Part)
        → MayCome kind entry entered → Goes (entered_with kind entry entered) parts → (sections globals : List Name)
        → Sound (option_or (entry_fault kind entry entered sections globals)
        (first_known_fault (with_entry kind entry (inside sections globals entered)) parts))
    entry_goes ModuleName entry entered parts may h sections globals = h sections globals
    entry_goes ControlSection entry entered parts may h sections globals =
        fine_or _ _ (enters_once (lookup (is_same_name entry.name) entered) (is_past most_sections sections entry.name) may)
        (enters entry entered globals parts may h (insert_key is_same_name sections entry.name))
    entry_goes InternalSymbol entry entered parts may h sections globals = h sections globals
    entry_goes TransferAddress entry entered parts may h sections globals =
        fine_or _ _ (named_section (size_known entered entry.name) may) (h sections globals)
    entry_goes GlobalSymbol entry entered parts may h sections globals =
        fine_or _ _ (defines_after (defines_relocatable entry) (nat_eq (length entered) 0) _ may (global_fine globals entry.name))
        (h sections (insert_key is_same_name globals entry.name))
    entry_goes ProgramSection entry entered parts may h sections globals =
        fine_or _ _ (enters_once (lookup (is_same_name entry.name) entered) (is_past most_sections sections entry.name) may)
        (enters entry entered globals parts may h (insert_key is_same_name sections entry.name))
    entry_goes Identification entry entered parts may h sections globals = h sections globals

    -- ---- the entries of a record

    entries_go : (entered : Entered) (entries : List GsdEntry) (parts : List Part) → MayAllCome entered entries
        → Goes (entered_after entered entries) parts → Goes entered (map (λ entry. Entry entry) entries ++ parts)
    unfolding fault_known known_after
    entries_go entered [] parts may h = h
    entries_go entered (entry ∷ entries) parts may h =
        entry_goes entry.kind entry entered (map (λ entry. Entry entry) entries ++ parts) may.0
        (entries_go (entered_with entry.kind entry entered) entries parts may.1 h)

    -- ---- records, with or without an open module before them

    abbrev pub GoesFrom : Stage → Entered → List Part → Type 0
    GoesFrom stage entered parts = (sections globals : List Name)
        → Sound (first_known_fault (state stage modules sections globals entered section text) parts)

    -- these parts have no fault but a limit, whether or not a directory is open before them
    abbrev pub GoesBefore : Entered → List Part → Type 0
    GoesBefore entered parts = GoesFrom Between entered parts × GoesFrom InDirectory entered parts

    opens : (stage : Stage) (entered : Entered) (parts : List Part) → (nat_le most_modules modules ≡ true → many)
        → may_occur Directory stage ≡ true → Goes entered parts → GoesFrom stage entered (Directory ∷ parts)
    unfolding fault_known known_after
    opens Between entered parts room may h sections globals = fine_or _ _ (begin_fine Between modules room) (h sections globals)
    opens InDirectory entered parts room may h sections globals = h sections globals
    opens InBody entered parts room may h sections globals = absurd cc

    pub directory_goes : (room : nat_le most_modules modules ≡ true → many) (entered : Entered) (cuts : List (List GsdEntry))
        (parts : List Part) → MayAllCome entered (joined cuts) → GoesBefore (entered_after entered (joined cuts)) parts
        → GoesBefore entered (flat_map directory_parts cuts ++ parts)
    directory_goes room entered [] parts may h = h
    directory_goes room entered (entries ∷ cuts) parts may h =
        let own : List Part = map (λ entry. Entry entry) entries in
        let more : List Part = flat_map directory_parts cuts ++ parts in
        let P : List Part → Type 0 = λ these. GoesBefore entered (Directory ∷ these) in
        let Q : Entered → Type 0 = λ these. GoesBefore these parts in
        let rest = directory_goes room (entered_after entered entries) cuts parts
        (then_come entered entries (joined cuts) may) (subst Q (after_both entered entries (joined cuts)) h) in
        let inner = entries_go entered entries more (first_come entered entries (joined cuts) may) rest.1 in
        subst P (sym (append_assoc own (flat_map directory_parts cuts) parts))
        (opens Between entered (own ++ more) room refl inner, opens InDirectory entered (own ++ more) room refl inner)

    -- if the parts after the end of a directory have no fault but a limit, then that end with these parts has no other fault either
    pub directory_ends : (room : nat_le most_modules modules ≡ true → many) (entered : Entered) (parts : List Part)
        → GoesFrom InBody entered parts → GoesBefore entered (EndOfDirectory ∷ parts)
    unfolding fault_known known_after
    directory_ends room entered parts h = (
      λ sections globals. fine_or _ _ (begin_fine Between modules room) (h sections globals),
      λ sections globals. h sections globals,
    )
