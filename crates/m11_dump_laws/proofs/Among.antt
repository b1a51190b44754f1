-- Lists of symbols: those that pass a test, those that are among others, and those of which no two have one name.
use Rattle.std.proofs.Common.{◌≡◌, ◌∙◌, ℕ, Bool, true, false, ◌&&◌, List, [], ◌∷◌, ◌++◌, refl, sym, ap, ap₂, append_assoc}
use Rattle.std.specs.Prelude.{◌==◌, if◌then◌else◌}
use Rattle.std.specs.List.{AllByRecursion}
use Rattle.std.proofs.lemmas.Bool.{eq-eqb, eqb-true, false_from_ne_true, both_ways}
use Rattle.m11_base.specs.Rad50.{Name, is_same_name}
use Rattle.m11_base_disassembly.specs.declared.symbols.Symbol.{Symbol}
use Rattle.m11_asm_dump_laws.specs.Items.{AreDistinct, IsAmong}

-- ---- what holds of each of a list

module _ {X : Type 0} (P : X → Type 0) where
  pub all_both : (one other : List X) → AllByRecursion P one → AllByRecursion P other → AllByRecursion P (one ++ other)
  all_both [] other these those = those
  all_both (x ∷ one) other these those = (these.0, all_both one other these.1 those)

  pub all_left : (one other : List X) → AllByRecursion P (one ++ other) → AllByRecursion P one
  all_left [] other all = tt
  all_left (x ∷ one) other all = (all.0, all_left one other all.1)

pub all_by : {X : Type 0} (P Q : X → Type 0) (list : List X) → ((x : X) → P x → Q x) → AllByRecursion P list → AllByRecursion Q list
all_by P Q [] gives all = tt
all_by P Q (x ∷ list) gives all = (gives x all.0, all_by P Q list gives all.1)

pub all_with : {X : Type 0} (P Q : X → Type 0) (list : List X) → AllByRecursion P list → AllByRecursion Q list
    → AllByRecursion (λ x. P x × Q x) list
all_with P Q [] these those = tt
all_with P Q (x ∷ list) these those = ((these.0, those.0), all_with P Q list these.1 those.1)

-- ---- those that pass a test

abbrev pub chosen : (Symbol → Bool) → List Symbol → List Symbol
chosen test [] = []
chosen test (symbol ∷ symbols) = (if test symbol then symbol ∷ [] else []) ++ chosen test symbols

chosen_by : (P : Symbol → Type 0) (test : Symbol → Bool) (symbol : Symbol) (rest : List Symbol) (b : Bool) → test symbol ≡ b → P symbol
    → AllByRecursion (λ s. P s × (test s ≡ true)) rest → AllByRecursion (λ s. P s × (test s ≡ true)) ((if b then symbol ∷ [] else []) ++ rest)
chosen_by P test symbol rest true is one others = ((one, is), others)
chosen_by P test symbol rest false is one others = others

pub chosen_all : (P : Symbol → Type 0) (test : Symbol → Bool) (symbols : List Symbol) → AllByRecursion P symbols
    → AllByRecursion (λ s. P s × (test s ≡ true)) (chosen test symbols)
chosen_all P test [] all = tt
chosen_all P test (symbol ∷ symbols) all =
    chosen_by P test symbol (chosen test symbols) (test symbol) refl all.0 (chosen_all P test symbols all.1)

-- ---- those that are among others

pub among_left : (one other : List Symbol) (symbol : Symbol) → IsAmong one symbol → IsAmong (one ++ other) symbol
among_left one other symbol is =
    (is.0, is.1 ++ other, ap (λ l. l ++ other) is.2 ∙ append_assoc is.0 (symbol ∷ is.1) other)

pub among_right : (one other : List Symbol) (symbol : Symbol) → IsAmong other symbol → IsAmong (one ++ other) symbol
among_right one other symbol is =
    (one ++ is.0, is.1, ap (λ l. one ++ l) is.2 ∙ sym (append_assoc one is.0 (symbol ∷ is.1)))

pub all_among : (symbols : List Symbol) → AllByRecursion (IsAmong symbols) symbols
all_among [] = tt
all_among (symbol ∷ symbols) = (
  ([], symbols, refl),
  all_by (IsAmong symbols) (IsAmong (symbol ∷ symbols)) symbols (λ other is. among_right (symbol ∷ []) symbols other is) (all_among symbols),
)

chosen_parted : (test : Symbol → Bool) (one other : List Symbol) → chosen test (one ++ other) ≡ chosen test one ++ chosen test other
chosen_parted test [] other = refl
chosen_parted test (symbol ∷ one) other =
    let first : List Symbol = if test symbol then symbol ∷ [] else [] in
    ap (λ l. first ++ l) (chosen_parted test one other) ∙ sym (append_assoc first (chosen test one) (chosen test other))

pub chosen_has : (test : Symbol → Bool) (all : List Symbol) (symbol : Symbol) → IsAmong all symbol → test symbol ≡ true
    → IsAmong (chosen test all) symbol
chosen_has test all symbol is passes = (
  chosen test is.0,
  chosen test is.1,
  ap (chosen test) is.2 ∙ chosen_parted test is.0 (symbol ∷ is.1)
      ∙ ap (λ (b : Bool). chosen test is.0 ++ ((if b then symbol ∷ [] else []) ++ chosen test is.1)) passes,
)

-- ---- no two with one name

-- the other symbol has another name
abbrev pub IsApart : Symbol → Symbol → Type 0
IsApart symbol other = is_same_name other.name symbol.name ≡ false

same_number : (one other : ℕ) → (one == other) ≡ true → (other == one) ≡ true
same_number one other is = eq-eqb other one (sym (eqb-true one other is))

numbers_apart : (one other : ℕ) (b : Bool) → (one == other) ≡ b → (other == one) ≡ b
numbers_apart one other true is = same_number one other is
numbers_apart one other false is =
    false_from_ne_true (other == one) (λ same. both_ways (one == other) is (same_number other one same))

pub same_names : (one other : Name) → is_same_name one other ≡ is_same_name other one
same_names one other =
    ap₂ (λ a b. a && b) (sym (numbers_apart one.0 other.0 (one.0 == other.0) refl))
    (sym (numbers_apart one.1 other.1 (one.1 == other.1) refl))

pub distinct_both : (one other : List Symbol) → AreDistinct one → AreDistinct other
    → AllByRecursion (λ symbol. AllByRecursion (IsApart symbol) other) one → AreDistinct (one ++ other)
distinct_both [] other these those apart = those
distinct_both (symbol ∷ one) other these those apart =
    (all_both (IsApart symbol) one other these.0 apart.0, distinct_both one other these.1 those apart.1)

chosen_apart : (symbol : Symbol) (test : Symbol → Bool) (symbols : List Symbol) → AllByRecursion (IsApart symbol) symbols
    → AllByRecursion (IsApart symbol) (chosen test symbols)
chosen_apart symbol test symbols all =
    all_by (λ s. IsApart symbol s × (test s ≡ true)) (IsApart symbol) (chosen test symbols) (λ s is. is.0)
    (chosen_all (IsApart symbol) test symbols all)

distinct_by : (symbol : Symbol) (rest : List Symbol) (b : Bool) → AllByRecursion (IsApart symbol) rest → AreDistinct rest
    → AreDistinct ((if b then symbol ∷ [] else []) ++ rest)
distinct_by symbol rest true apart distinct = (apart, distinct)
distinct_by symbol rest false apart distinct = distinct

pub chosen_distinct : (test : Symbol → Bool) (symbols : List Symbol) → AreDistinct symbols → AreDistinct (chosen test symbols)
chosen_distinct test [] distinct = tt
chosen_distinct test (symbol ∷ symbols) distinct =
    distinct_by symbol (chosen test symbols) (test symbol) (chosen_apart symbol test symbols distinct.0)
    (chosen_distinct test symbols distinct.1)

-- symbols with other values have other names
abbrev pub IsApartByValue : Symbol → Symbol → Type 0
IsApartByValue symbol other = (other.value ≡ symbol.value → ⊥) → IsApart symbol other

pub apart_by_value : (symbols : List Symbol) → AreDistinct symbols
    → AllByRecursion (λ symbol. AllByRecursion (IsApartByValue symbol) symbols) symbols
apart_by_value [] distinct = tt
apart_by_value (symbol ∷ symbols) distinct =
    let first : AllByRecursion (IsApartByValue symbol) symbols =
    all_by (IsApart symbol) (IsApartByValue symbol) symbols (λ other is apart. is) distinct.0 in
    let column : AllByRecursion (λ other. IsApartByValue other symbol) symbols =
    all_by (IsApart symbol) (λ other. IsApartByValue other symbol) symbols
    (λ other is apart. same_names symbol.name other.name ∙ is) distinct.0 in (
      (λ apart. absurd (apart refl), first),
      all_with (λ other. IsApartByValue other symbol) (λ other. AllByRecursion (IsApartByValue other) symbols) symbols column
          (apart_by_value symbols distinct.1),
    )
