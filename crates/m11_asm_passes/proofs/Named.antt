-- Names that lines use are among the names after them, and using them once more adds none.
use Rattle.std.proofs.Common.{◌≡◌, ◌∙◌, ◌||◌, Bool, true, false, List, [], ◌∷◌, ◌++◌, map, refl, sym, ap, subst}
use Rattle.std.proofs.lemmas.List.Folds.{list_any-append}
use Rattle.std.specs.List.{flat_map, list_any}
use Rattle.std.specs.Prelude.{if◌then◌else◌}
use Rattle.m11_base.proofs.SameNames.{same_name_itself}
use Rattle.m11_base.specs.Devices.{Bytes}
use Rattle.m11_base.specs.Rad50.{Name, is_same_name}
use Rattle.m11_asm_rules.specs.Alignment.{location_for}
use Rattle.m11_asm_rules.specs.Definitions.{first_definitions, is_defined}
use Rattle.m11_asm_rules.specs.Fields.{fields_at}
use Rattle.m11_asm_rules.specs.Limits.{is_counted, names_after, with_uses, with_symbol}
use Rattle.m11_asm_rules.specs.Actions.{Action, Operate}
use Rattle.m11_asm_rules.specs.Lines.{after_line, stands}
use Rattle.m11_asm_rules.specs.Operations.{action}
use Rattle.m11_asm_rules.specs.Meanings.{Map, empty_map, known_at}
use Rattle.m11_asm_rules.specs.SymbolUses.{SymbolUse, action_uses, uses_of_fields, label_uses, symbol_use, symbol_uses}
use Rattle.m11_asm_rules.specs.Placements.{table_after}
use Rattle.m11_asm_rules.specs.Tables.{Table, firm_table, first_table, location}
use Rattle.m11_asm_rules.specs.declared.definitions.Key.TheVariants.{Named}
use Rattle.m11_asm_rules.specs.declared.meanings.Context.TheVariants.{LocalOnly}
use Rattle.m11_scan_statements.specs.Labels.{labels_at}
use Rattle.m11_unfold_rules.specs.Unfolding.{UnfoldedLine}
use Rattle.m11_scan_expressions.specs.declared.names.Symbol.{Symbol}
use Rattle.m11_scan_expressions.specs.declared.names.Symbol.TheVariants.{Ordinary, Local, Counter}
use Rattle.m11_asm_passes.proofs.KnownAlike.{PlaceAlike, after_both, stands_alike}

-- ---- one name

stays_by : (is_register is_there is_new : Bool) → (is_register || is_there) ≡ true → (is_register || (is_there || is_new)) ≡ true
stays_by true is_there is_new there = refl
stays_by false true is_new there = refl
stays_by false false is_new there = absurd (cc)

counts_by : (is_register is_there is_new : Bool) → is_new ≡ true → (is_register || (is_there || (is_new || false))) ≡ true
counts_by true is_there is_new same = refl
counts_by false true is_new same = refl
counts_by false false true same = refl
counts_by false false false same = absurd (cc)

module _ (name : Name) where
  counted_with : (names more : List Name) → is_counted name (names ++ more)
      ≡ (is_defined (Named name) first_definitions
      || (list_any (λ other. is_same_name other name) names || list_any (λ other. is_same_name other name) more))
  counted_with names more =
      ap (λ (b : Bool). is_defined (Named name) first_definitions || b) (list_any-append (λ other. is_same_name other name) names more)

  counted_more : (names more : List Name) → is_counted name names ≡ true → is_counted name (names ++ more) ≡ true
  counted_more names more there =
      counted_with names more
      ∙ stays_by (is_defined (Named name) first_definitions) (list_any (λ other. is_same_name other name) names)
      (list_any (λ other. is_same_name other name) more) there

  counted_now : (names : List Name) → is_counted name (names ++ name ∷ []) ≡ true
  counted_now names =
      counted_with names (name ∷ [])
      ∙ counts_by (is_defined (Named name) first_definitions) (list_any (λ other. is_same_name other name) names) (is_same_name name name)
      (same_name_itself name)

  name_stays : (is_known : Bool) (other : Name) (names : List Name) → is_counted name names ≡ true
      → is_counted name (if is_known then names else names ++ other ∷ []) ≡ true
  name_stays true other names there = there
  name_stays false other names there = counted_more names (other ∷ []) there

  symbol_stays : (symbol : Symbol) (names : List Name) → is_counted name names ≡ true → is_counted name (with_symbol symbol names) ≡ true
  symbol_stays (Ordinary other) names there = name_stays (is_counted other names) other names there
  symbol_stays (Local number) names there = there
  symbol_stays Counter names there = there

  now_there : (is_known : Bool) (names : List Name) → is_counted name names ≡ is_known
      → is_counted name (if is_known then names else names ++ name ∷ []) ≡ true
  now_there true names there = there
  now_there false names there = counted_now names

-- ---- uses of names that are all there

abbrev IsThere : Symbol → List Name → Type 0
IsThere (Ordinary name) names = is_counted name names ≡ true
IsThere (Local number) names = Unit {0}
IsThere Counter names = Unit {0}

abbrev pub AreThere : List SymbolUse → List Name → Type 0
AreThere [] names = Unit {0}
AreThere (symbol_use ∷ symbol_uses) names = IsThere symbol_use.symbol names × AreThere symbol_uses names

none_by : (symbol : Symbol) (names : List Name) → IsThere symbol names → with_symbol symbol names ≡ names
none_by (Ordinary name) names there = ap (λ (b : Bool). if b then names else names ++ name ∷ []) there
none_by (Local number) names there = refl
none_by Counter names there = refl

-- uses of names that are all counted already add no names
pub adds_none : (some : List SymbolUse) (names : List Name) → AreThere some names → with_uses some names ≡ names
adds_none [] names there = refl
adds_none (symbol_use ∷ some) names there =
    ap (with_uses some) (none_by symbol_use.symbol names there.0) ∙ adds_none some names there.1

-- a symbol that is already counted still is after a further use
there_by : (symbol other : Symbol) (names : List Name) → IsThere symbol names → IsThere symbol (with_symbol other names)
there_by (Ordinary name) other names there = symbol_stays name other names there
there_by (Local number) other names there = tt
there_by Counter other names there = tt

one_stays : (symbol : Symbol) (some : List SymbolUse) (names : List Name) → IsThere symbol names
    → IsThere symbol (with_uses some names)
one_stays symbol [] names there = there
one_stays symbol (symbol_use ∷ some) names there =
    one_stays symbol some (with_symbol symbol_use.symbol names) (there_by symbol symbol_use.symbol names there)

all_stay : (some others : List SymbolUse) (names : List Name) → AreThere some names → AreThere some (with_uses others names)
all_stay [] others names there = tt
all_stay (symbol_use ∷ some) others names there =
    (one_stays symbol_use.symbol others names there.0, all_stay some others names there.1)

lines_keep : (map : Map) (table : Table) (lines : List UnfoldedLine) (some : List SymbolUse) (names : List Name) → AreThere some names
    → AreThere some (names_after map table lines names)
lines_keep map table [] some names there = there
lines_keep map table (given ∷ lines) some names there =
    lines_keep map (after_line map table given) lines some (with_uses (symbol_uses table given) names)
    (all_stay some (symbol_uses table given) names there)

-- a symbol is counted once it is used
one_there : (symbol : Symbol) (names : List Name) → IsThere symbol (with_symbol symbol names)
one_there (Ordinary name) names = now_there name (is_counted name names) names refl
one_there (Local number) names = tt
one_there Counter names = tt

used_symbols : (some : List SymbolUse) (names : List Name) → AreThere some (with_uses some names)
used_symbols [] names = tt
used_symbols (symbol_use ∷ some) names = (
  one_stays symbol_use.symbol some (with_symbol symbol_use.symbol names) (one_there symbol_use.symbol names),
  used_symbols some (with_symbol symbol_use.symbol names),
)

-- ---- lines whose names are all there

abbrev pub AllThere : Map → Table → List UnfoldedLine → List Name → Type 0
AllThere map table [] names = Unit {0}
AllThere map table (given ∷ lines) names =
    AreThere (symbol_uses table given) names × AllThere map (after_line map table given) lines names

pub lines_there : (map : Map) (table : Table) (lines : List UnfoldedLine) (names : List Name)
    → AllThere map table lines (names_after map table lines names)
lines_there map table [] names = tt
lines_there map table (given ∷ lines) names = (
  lines_keep map (after_line map table given) lines (symbol_uses table given) (with_uses (symbol_uses table given) names)
      (used_symbols (symbol_uses table given) names),
  lines_there map (after_line map table given) lines (with_uses (symbol_uses table given) names),
)

pub lines_add_none : (map : Map) (table : Table) (lines : List UnfoldedLine) (names : List Name) → AllThere map table lines names
    → names_after map table lines names ≡ names
lines_add_none map table [] names there = refl
lines_add_none map table (given ∷ lines) names there =
    ap (names_after map (after_line map table given) lines) (adds_none (symbol_uses table given) names there.0)
    ∙ lines_add_none map (after_line map table given) lines names there.1

pub lines_before : (map : Map) (table : Table) (first second : List UnfoldedLine) (names : List Name)
    → AllThere map table (first ++ second) names → AllThere map table first names
lines_before map table [] second names there = tt
lines_before map table (given ∷ first) second names there =
    (there.0, lines_before map (after_line map table given) first second names there.1)

-- ---- the same under every map

actions_alike : (line : Bytes) (of : Action) (first second : Table) → firm_table first ≡ firm_table second
    → action_uses first line of ≡ action_uses second line of
actions_alike line (Operate operation start) first second same =
    ap (λ (t : Table). uses_of_fields
    (fields_at (known_at empty_map LocalOnly t (location_for true (location t))) line start operation)) same
actions_alike line other first second same = refl

module _ (alike : PlaceAlike) (one other : Map) where
  uses_alike : (done : List UnfoldedLine) (given : UnfoldedLine)
      → symbol_uses (table_after one done) given ≡ symbol_uses (table_after other done) given
  uses_alike done given =
      ap (λ (l : List SymbolUse). flat_map (label_uses given.live.line.text) (labels_at given.live.line.text)
      ++ map (symbol_use LocalOnly) given.remarks.symbols ++ l)
      (actions_alike given.live.line.text (action given.is_own given.arguments given.live.line.text) (stands (table_after one done) given)
      (stands (table_after other done) given) (stands_alike alike one other done given))

  there_after : (names : List Name) (lines done : List UnfoldedLine) (first second : Table) → first ≡ table_after one done
      → second ≡ table_after other done → AllThere one first lines names → AllThere other second lines names
  there_after names [] done first second is is' there = tt
  there_after names (given ∷ lines) done first second is is' there = (
    subst (λ (l : List SymbolUse). AreThere l names)
        (ap (λ (t : Table). symbol_uses t given) is ∙ uses_alike done given ∙ ap (λ (t : Table). symbol_uses t given) (sym is')) there.0,
    there_after names lines (done ++ given ∷ []) (after_line one first given) (after_line other second given)
        (ap (λ (t : Table). after_line one t given) is ∙ sym (after_both one done (given ∷ []) first_table))
        (ap (λ (t : Table). after_line other t given) is' ∙ sym (after_both other done (given ∷ []) first_table)) there.1,
  )

  pub there_alike : (names : List Name) (lines : List UnfoldedLine) → AllThere one first_table lines names
      → AllThere other first_table lines names
  there_alike names lines there = there_after names lines [] first_table first_table refl refl there
