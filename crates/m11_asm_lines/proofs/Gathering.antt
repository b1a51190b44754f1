-- Uses of symbols that are added one part after the other.
use Rattle.std.specs.List.{cons_option}
use Rattle.std.proofs.Common.{◌≡◌, ◌∙◌, ◌<◌, ◌≤◌, ◌-◌, Bool, true, false, if◌then◌else◌, List, [], ◌∷◌, ◌++◌, drop, flat_map, get_or, length, map, take, Option, Some, None, Result, Ok, Err, IsErrAnd, refl, sym, ap, subst, arith}
use Rattle.std.proofs.lemmas.List.{take_all}
use Rattle.m11_asm_faults.specs.declared.fault.AsmFault.{AsmFault}
use Rattle.m11_asm_faults.specs.declared.fault.AsmFault.TheVariants.{TooManySymbols, NoMemory}
use Rattle.std.specs.Option.{option_to_list}
use Rattle.m11_base.specs.Devices.{Bytes}
use Rattle.m11_base.specs.Rad50.{Name}
use Rattle.m11_asm_rules.specs.Elements.{names_of, texts_of}
use Rattle.m11_scan_statements.specs.declared.spans.Span.{Span}
use Rattle.m11_asm_rules.specs.Limits.{is_counted, most_names, with_uses, with_symbol}
use Rattle.m11_asm_rules.specs.SymbolUses.{SymbolUse, defined, label_uses, symbol_use, named}
use Rattle.m11_asm_rules.specs.declared.meanings.Context.{Context}
use Rattle.m11_asm_lines.specs.Faults.{Refuses}
use Rattle.m11_asm_lines.specs.Labels.{FitsUpToName, HasName}
use Rattle.m11_asm_lines.specs.UsedSymbols.{Adds, UsedNames, in_context, is_register, names_referred, with_name_used, registers_used, with_all, with_name, with_reference, with_register}
use Rattle.m11_scan_statements.specs.declared.labels.Label.{Label}
use Rattle.m11_scan_expressions.specs.declared.names.Symbol.{Symbol}
use Rattle.m11_scan_expressions.specs.declared.names.Symbol.TheVariants.{Ordinary, Local, Counter}

names_joined : (first second : List SymbolUse) (names : List Name)
    → with_uses (first ++ second) names ≡ with_uses second (with_uses first names)
names_joined [] second names = refl
names_joined (symbol_use ∷ first) second names = names_joined first second (with_symbol symbol_use.symbol names)

registers_joined : (first second : List SymbolUse) (names : List Name)
    → registers_used (first ++ second) names ≡ registers_used second (registers_used first names)
registers_joined [] second names = refl
registers_joined (symbol_use ∷ first) second names = registers_joined first second (with_register symbol_use.symbol names)

referred_joined : (first second : List SymbolUse) (names : List Name)
    → names_referred (first ++ second) names ≡ names_referred second (names_referred first names)
referred_joined [] second names = refl
referred_joined (symbol_use ∷ first) second names =
    referred_joined first second (with_reference symbol_use.symbol symbol_use.context names)

abbrev used_names : List Name → List Name → List Name → UsedNames
used_names names registers referred = record { names = names; registers = registers; referred = referred }

pub all_joined : (first second : List SymbolUse) (old : UsedNames)
    → with_all (first ++ second) old ≡ with_all second (with_all first old)
all_joined first second old =
    rw (names_joined first second old.names, registers_joined first second old.registers, referred_joined first second old.referred)
    refl

-- ---- one name

pub noted_register : (name : Name) (old : UsedNames) → is_register name ≡ true
    → record old { registers = with_name name old.registers } ≡ with_name_used name old
noted_register name old is = rw is refl

pub noted_other : (name : Name) (old : UsedNames) → is_register name ≡ false
    → record old { names = with_name name old.names } ≡ with_name_used name old
noted_other name old is = rw is refl

-- ---- the names never become fewer

one_more : (names : List Name) (name : Name) → length names ≤ length (names ++ name ∷ [])
one_more [] name = omega arith
one_more (first ∷ names) name = let more : length names ≤ length (names ++ name ∷ []) = one_more names name in omega (arith, more)

counted_by : (is_known : Bool) (name : Name) (names : List Name)
    → length names ≤ length (if is_known then names else names ++ name ∷ [])
counted_by true name names = omega arith
counted_by false name names = one_more names name

symbol_more : (symbol : Symbol) (names : List Name) → length names ≤ length (with_symbol symbol names)
symbol_more (Ordinary name) names = counted_by (is_counted name names) name names
symbol_more (Local number) names = omega arith
symbol_more Counter names = omega arith

uses_more : (symbol_uses : List SymbolUse) (names : List Name) → length names ≤ length (with_uses symbol_uses names)
uses_more [] names = omega arith
uses_more (symbol_use ∷ symbol_uses) names =
    let first : length names ≤ length (with_symbol symbol_use.symbol names) = symbol_more symbol_use.symbol names in
    let more : length (with_symbol symbol_use.symbol names) ≤ length (with_uses symbol_uses (with_symbol symbol_use.symbol names))
    = uses_more symbol_uses (with_symbol symbol_use.symbol names) in
    omega (arith, first, more)

-- ---- one part after another

pub added_then : (first second : List SymbolUse) (old middle new : UsedNames) (result : Result (Unit {0}) AsmFault)
    → middle ≡ with_all first old → Adds second middle new result → Adds (first ++ second) old new result
added_then first second old middle new (Ok _) added adds =
    adds ∙ ap (with_all second) added ∙ sym (all_joined first second old)
added_then first second old middle new (Err fault) added refuses =
    let P : UsedNames → Type 0 = λ g. Refuses fault (most_names < length g.names) ⊥ in
    subst P (ap (with_all second) added ∙ sym (all_joined first second old)) refuses

refused_more : (fault : AsmFault) (first second : List SymbolUse) (old : UsedNames)
    → Refuses fault (most_names < length (with_all first old).names) ⊥
    → Refuses fault (most_names < length (with_all (first ++ second) old).names) ⊥
refused_more TooManySymbols first second old refuses =
    let P : UsedNames → Type 0 = λ g. most_names < length g.names in
    subst P (sym (all_joined first second old))
    (let more : length (with_all first old).names ≤ length (with_all second (with_all first old)).names
    = uses_more second (with_all first old).names in
    omega (arith, refuses, more))
refused_more NoMemory first second old refuses = tt
refused_more other first second old refuses = refuses

-- a fault of the first part is that of the whole
pub failed_first : (first second : List SymbolUse) (old new : UsedNames) (fault : AsmFault) (result : Result (Unit {0}) AsmFault)
    → Refuses fault (most_names < length (with_all first old).names) ⊥ → IsErrAnd result (λ f. f ≡ fault)
    → Adds (first ++ second) old new result
failed_first first second old new fault (Ok done) refuses is = absurd is
failed_first first second old new fault (Err other) refuses is =
    let P : AsmFault → Type 0 = λ f. Refuses f (most_names < length (with_all (first ++ second) old).names) ⊥ in
    subst P (sym is) (refused_more fault first second old refuses)

none_first : 1 ≤ 0 → ⊥
none_first e = omega (arith, e)

others_all : {A : Type 0} (item : A) (items : List A) → take (length (item ∷ items) - 1) items ≡ items
others_all item items = take_all (length (item ∷ items) - 1) items (omega arith)

-- the same for a list that the code splits into its first item and the items after it
module _ {A : Type 0} (symbol_uses : A → List SymbolUse) (items : List A) (item other : A) (old : UsedNames)
    (result : Result (Unit {0}) AsmFault) where
  pub failed_item : (new : UsedNames) (fault : AsmFault) → 1 ≤ length items → get_or items 0 other ≡ item
      → Refuses fault (most_names < length (with_all (symbol_uses item) old).names) ⊥ → IsErrAnd result (λ f. f ≡ fault)
      → Adds (flat_map symbol_uses items) old new result
  failed_item new fault some first refuses is = by_items items some first
    where
      by_items : (all : List A) → 1 ≤ length all → get_or all 0 other ≡ item → Adds (flat_map symbol_uses all) old new result
      by_items [] some first = absurd (none_first some)
      by_items (found ∷ rest) some first =
          let P : A → Type 0 = λ i. Refuses fault (most_names < length (with_all (symbol_uses i) old).names) ⊥ in
          failed_first (symbol_uses found) (flat_map symbol_uses rest) old new fault result (subst P (sym first) refuses) is

  pub item_then : (middle new : UsedNames) → 1 ≤ length items → get_or items 0 other ≡ item
      → middle ≡ with_all (symbol_uses item) old
      → Adds (flat_map symbol_uses (take (length items - 1) (drop 1 items))) middle new result
      → Adds (flat_map symbol_uses items) old new result
  item_then middle new some first adds rest = by_items items some first rest
    where
      by_items : (all : List A) → 1 ≤ length all → get_or all 0 other ≡ item
          → Adds (flat_map symbol_uses (take (length all - 1) (drop 1 all))) middle new result
          → Adds (flat_map symbol_uses all) old new result
      by_items [] some first rest = absurd (none_first some)
      by_items (found ∷ more) some first rest =
          let P : List A → Type 0 = λ l. Adds (flat_map symbol_uses l) middle new result in
          added_then (symbol_uses found) (flat_map symbol_uses more) old middle new result
          (adds ∙ ap (λ (i : A). with_all (symbol_uses i) old) (sym first)) (subst P (others_all found more) rest)

-- ---- the names of a list

-- the use of an element, if it is a name
abbrev pub name_uses : Bytes → Option Span → List SymbolUse
name_uses line name = map named (names_of (texts_of line (name ∷ [])))

first_text : (name : Option Name) (more : List Name) → map named (cons_option name more) ≡ map named (cons_option name []) ++ map named more
first_text (Some name) more = refl
first_text None more = refl

pub each_named : (line : Bytes) (names : List (Option Span))
    → flat_map (name_uses line) names ≡ map named (names_of (texts_of line names))
each_named line [] = refl
each_named line (Some name ∷ names) =
    ap (λ (l : List SymbolUse). name_uses line (Some name) ++ l) (each_named line names) ∙ sym (first_text _ (names_of (texts_of line names)))
each_named line (None ∷ names) = each_named line names

pub defined_as : (name : Option Name) → defined name ≡ map named (option_to_list name)
defined_as (Some name) = refl
defined_as None = refl

pub failed_symbol : (context : Context) (symbols : List Symbol) (symbol other : Symbol) (old new : UsedNames) (fault : AsmFault)
    (result : Result (Unit {0}) AsmFault) → 1 ≤ length symbols → get_or symbols 0 other ≡ symbol
    → Refuses fault (most_names < length (with_all (symbol_use context symbol ∷ []) old).names) ⊥
    → IsErrAnd result (λ f. f ≡ fault) → Adds (in_context context symbols) old new result
failed_symbol context [] symbol other old new fault result some first refuses is = absurd (none_first some)
failed_symbol context (found ∷ symbols) symbol other old new fault result some first refuses is =
    let P : Symbol → Type 0 = λ s. Refuses fault (most_names < length (with_all (symbol_use context s ∷ []) old).names) ⊥ in
    failed_first (symbol_use context found ∷ []) (in_context context symbols) old new fault result (subst P (sym first) refuses) is

-- ---- memory is refused at a label, and the names up to that label are within the limit

pub first_label : (line : Bytes) (labels : List Label) (other : Label) (old : UsedNames) → 1 ≤ length labels
    → HasName line (get_or labels 0 other)
    → length (with_all (label_uses line (get_or labels 0 other)) old).names ≤ most_names → FitsUpToName line labels old
first_label line [] other old some named fits = absurd (none_first some)
first_label line (label ∷ others) other old some named fits =
    let P : UsedNames → Type 0 = λ g. length g.names ≤ most_names in
    record {
      done = [];
      label = label;
      rest = others;
      are = refl;
      grows = named;
      fits = subst P (sym (all_joined (label_uses line label) [] old)) fits;
    }

pub later_label : (line : Bytes) (labels : List Label) (other : Label) (old middle : UsedNames) → 1 ≤ length labels
    → middle ≡ with_all (label_uses line (get_or labels 0 other)) old → FitsUpToName line (take (length labels - 1) (drop 1 labels)) middle
    → FitsUpToName line labels old
later_label line [] other old middle some first later = absurd (none_first some)
later_label line (label ∷ others) other old middle some first later =
    let P : UsedNames → Type 0 = λ g. length g.names ≤ most_names in
    let rest : List SymbolUse = flat_map (label_uses line) (later.done ++ later.label ∷ []) in
    record {
      done = label ∷ later.done;
      label = later.label;
      rest = later.rest;
      are = ap (λ (ls : List Label). label ∷ ls) (sym (others_all label others) ∙ later.are);
      grows = later.grows;
      fits = subst P (ap (with_all rest) first ∙ sym (all_joined (label_uses line label) rest old)) later.fits;
    }
