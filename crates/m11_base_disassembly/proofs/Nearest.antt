-- The nearest symbol may name its address, and goes before all others that may.
use Rattle.std.proofs.Common.{◌≡◌, ◌∙◌, ℕ, ◌≤◌, Bool, true, false, cond, List, [], ◌∷◌, ◌++◌, Option, Some, None, inl, inr, refl, sym, subst, ap, arith}
use Rattle.std.specs.List.{AllByRecursion}
use Rattle.std.specs.Prelude.{◌&&◌, nat_le}
use Rattle.std.proofs.lemmas.Bool.{cases_lt, le-leb, lt-leb}
use Rattle.m11_base_disassembly.specs.Symbols.{IsBefore, IsAfter, IsNearest, IsOut, goes_before, nearer, nearest, order, reaches}
use Rattle.m11_base_disassembly.specs.declared.symbols.Symbol.{Symbol}

-- ---- the order of symbols

pub no_higher : (a b : ℕ) → nat_le a b ≡ true → a ≤ b
no_higher a b h = elim (cases_lt b a) [
  | inl below ↦ let no : true ≡ false = sym h ∙ lt-leb a b below in absurd cc
  | inr above ↦ above
]

no_longer : (a b c : ℕ) → nat_le b a ≡ true → nat_le c b ≡ true → nat_le c a ≡ true
no_longer a b c h k = let one = no_higher b a h in let two = no_higher c b k in le-leb c a (omega (arith, one, two))

pub other_way : (a b : ℕ) → nat_le b a ≡ false → nat_le a b ≡ true
other_way a b h = elim (cases_lt b a) [
  | inl below ↦ let no : true ≡ false = sym (le-leb b a (omega (arith, below))) ∙ h in absurd cc
  | inr above ↦ le-leb a b above
]

module _ (symbol other third : Symbol) where
  pub goes_on : goes_before symbol other ≡ true → goes_before other third ≡ true → goes_before symbol third ≡ true
  goes_on = no_longer (order symbol.scope symbol.value) (order other.scope other.value) (order third.scope third.value)

  goes_past : goes_before symbol other ≡ true → goes_before third other ≡ false → goes_before symbol third ≡ true
  goes_past h k = goes_on h (other_way (order third.scope third.value) (order other.scope other.value) k)

-- ---- symbols that a nearer one goes before

before_all_out : (address : ℕ) (symbol : Symbol) (symbols : List Symbol) → AllByRecursion (IsOut address) symbols
    → AllByRecursion (IsBefore address symbol) symbols
before_all_out address symbol [] h = tt
before_all_out address symbol (other ∷ symbols) h =
    (λ may. let no : true ≡ false = sym may ∙ h.0 in absurd cc, before_all_out address symbol symbols h.1)

module _ (address : ℕ) (symbol other : Symbol) (first : goes_before symbol other ≡ true) where
  before_after : (after : List Symbol) → AllByRecursion (IsBefore address other) after
      → AllByRecursion (IsBefore address symbol) after
  before_after [] h = tt
  before_after (next ∷ after) h = (λ may. goes_on symbol other next first (h.0 may), before_after after h.1)

  before_all : (before after : List Symbol) → AllByRecursion (IsAfter address other) before
      → AllByRecursion (IsBefore address other) after → AllByRecursion (IsBefore address symbol) (before ++ other ∷ after)
  before_all [] after h k = (λ may. first, before_after after k)
  before_all (next ∷ before) after h k = (λ may. goes_past symbol other next first (h.0 may), before_all before after h.1 k)

-- ---- the nearest symbol, with one more symbol in front

module _ (address : ℕ) (symbol : Symbol) (symbols : List Symbol) where
  of_none : (may : Bool) → reaches address symbol ≡ may → IsNearest address symbols None
      → IsNearest address (symbol ∷ symbols) (cond may (Some symbol) None)
  of_none true may h = ([], symbols, refl, may, tt, before_all_out address symbol symbols h)
  of_none false may h = (may, h)

  -- if the symbol in front may not name the address, or doesn't go before the nearest of the others, that one stays the nearest
  of_later : (other : Symbol) → IsNearest address symbols (Some other) → IsAfter address other symbol
      → IsNearest address (symbol ∷ symbols) (Some other)
  of_later other h after =
      (symbol ∷ h.0, h.1, ap (λ (xs : List Symbol). symbol ∷ xs) h.2, h.3, (after, h.4), h.5)

  of_some : (other : Symbol) (may first : Bool) → reaches address symbol ≡ may → goes_before symbol other ≡ first
      → IsNearest address symbols (Some other) → IsNearest address (symbol ∷ symbols) (cond (may && first) (Some symbol) (Some other))
  of_some other true true may first h =
      let P : List Symbol → Type 0 = λ xs. AllByRecursion (IsBefore address symbol) xs in
      ([], symbols, refl, may, tt, subst P (sym h.2) (before_all address symbol other first h.0 h.1 h.4 h.5))
  of_some other true false may first h = of_later other h (λ is. first)
  of_some other false first' may first h = of_later other h (λ is. let no : true ≡ false = sym is ∙ may in absurd cc)

  of_any : (later : Option Symbol) → IsNearest address symbols later → IsNearest address (symbol ∷ symbols) (nearer address symbol later)
  of_any None h = of_none (reaches address symbol) refl h
  of_any (Some other) h = of_some other (reaches address symbol) (goes_before symbol other) refl refl h

pub nearest_is : (address : ℕ) (symbols : List Symbol) → IsNearest address symbols (nearest address symbols)
nearest_is address [] = tt
nearest_is address (symbol ∷ symbols) = of_any address symbol symbols (nearest address symbols) (nearest_is address symbols)
