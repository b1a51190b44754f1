-- A symbol is entered in an index, up to an address.
use Rattle.std.proofs.Common.{◌≡◌, ◌≢◌, ◌∙◌, ◌⊎◌, ℕ, zero, suc, ◌+◌, ◌<◌, ◌≤◌, Bool, true, false, List, [], ◌∷◌, Option, Some, None, inl, inr, length, get_or, replicate, refl, sym, subst, ap, arith}
use Rattle.std.specs.Prelude.{◌&&◌, if◌then◌else◌, nat_le, not, slice_set}
use Rattle.std.specs.List.{slice_get}
use Rattle.std.proofs.lemmas.Bool.{cases_lt, le-leb, lt-ltb}
use Rattle.std.proofs.lemmas.List.{length-set, get_or-set_same, get_or-set_other}
use Rattle.std.proofs.lemmas.Option.{slice_get_past}
use Rattle.m11_base_disassembly.proofs.Nearest.{goes_on, nearest_is, no_higher, other_way}
use Rattle.m11_base_disassembly.specs.SymbolIndex.{Finds, end_of, found, is_over, takes}
use Rattle.m11_base_disassembly.specs.Symbols.{IsNearest, goes_before, is_within, nearer, nearest, order, reaches}
use Rattle.m11_base_disassembly.specs.declared.symbols.Scope.{Scope}
use Rattle.m11_base_disassembly.specs.declared.symbols.Scope.TheVariants.{Unknown, Label, Section}
use Rattle.m11_base_disassembly.specs.declared.symbols.Symbol.{Symbol}

-- ---- the addresses that a symbol may name

-- below an address the index finds what it found before, or the symbol if it is nearer; from the address on what it found before
pub record IsEntered (list : List Symbol) (symbol : Symbol) (before : List ℕ) (end : ℕ) (places : List ℕ) : Type 0 where
  pub room : length places ≡ 65536
  pub done : (address : ℕ) → address < 65536 → address < end → found list places address ≡ nearer address symbol (found list before address)
  pub left : (address : ℕ) → address < 65536 → end ≤ address → found list places address ≡ found list before address

within_end : (address : ℕ) (scope : Scope) → address < 65536 → address < end_of scope → is_within address scope ≡ true
within_end address Unknown few below = refl
within_end address (Label end) few below = lt-ltb address end (omega (arith, below))
within_end address (Section end) few below = lt-ltb address end (omega (arith, below))

before_end : (address : ℕ) (scope : Scope) → address < 65536 → is_within address scope ≡ true → address < end_of scope
before_end address Unknown few within = few
before_end address (Label end) few within = grind arith
before_end address (Section end) few within = grind arith

pub end_few : (scope : Scope) → end_of scope ≤ 65536
end_few Unknown = omega arith
end_few (Label end) = omega arith
end_few (Section end) = omega arith

-- ---- a symbol that goes before another one and reaches as far

both : (a b : Bool) → (a && b) ≡ true → (a ≡ true) × (b ≡ true)
both true true h = (refl, refl)
both true false h = absurd cc
both false b h = absurd cc

no_true : (a : Bool) → not a ≡ true → a ≡ false
no_true true h = absurd cc
no_true false h = refl

is_reached : (address : ℕ) (symbol : Symbol) → address < 65536 → symbol.value ≤ address → address < end_of symbol.scope
    → reaches address symbol ≡ true
is_reached address symbol few above below = rw (le-leb symbol.value address above, within_end address symbol.scope few below) refl

-- a symbol that may not name an address, or before which the other one goes, changes nothing there
not_reached : (address : ℕ) (symbol : Symbol) (later : Option Symbol) → reaches address symbol ≡ false → nearer address symbol later ≡ later
not_reached address symbol None h = rw h refl
not_reached address symbol (Some other) h = rw h refl

not_nearer : (address : ℕ) (symbol other : Symbol) → goes_before symbol other ≡ false → nearer address symbol (Some other) ≡ Some other
not_nearer address symbol other h = by (reaches address symbol)
  where
    by : (may : Bool) → (if may && goes_before symbol other then Some symbol else Some other) ≡ Some other
    by true = rw h refl
    by false = refl

no_later : (symbol : Symbol) → goes_before symbol symbol ≡ true
no_later symbol = le-leb (order symbol.scope symbol.value) (order symbol.scope symbol.value) (omega arith)

-- at an address, the symbol that was put in front of others, if it may name the address, or what was nearest among the others, if it
-- goes before another one, leaves a nearest symbol that goes before that one too
abbrev HasBefore : Option Symbol → Symbol → Type 0
HasBefore found other = (next : Symbol) × (found ≡ Some next) × (goes_before next other ≡ true)

module _ (address : ℕ) (symbol other : Symbol) where
  of_reached : (later : Option Symbol) → reaches address symbol ≡ true → HasBefore (nearer address symbol later) symbol
  of_reached None h = (symbol, rw h refl, no_later symbol)
  of_reached (Some next) h = by (goes_before symbol next) refl
    where
      by : (first : Bool) → goes_before symbol next ≡ first → HasBefore (nearer address symbol (Some next)) symbol
      by true first = (symbol, rw (h, first) refl, no_later symbol)
      by false first = (
        next,
        not_nearer address symbol next first,
        other_way (order symbol.scope symbol.value) (order next.scope next.value) first,
      )

  of_more : (next : Symbol) → goes_before next other ≡ true → HasBefore (nearer address symbol (Some next)) other
  of_more next before = by (reaches address symbol && goes_before symbol next) refl
    where
      by : (first : Bool) → (reaches address symbol && goes_before symbol next) ≡ first → HasBefore (nearer address symbol (Some next)) other
      by true first = (symbol, rw first refl, goes_on symbol next other (both (reaches address symbol) (goes_before symbol next) first).1 before)
      by false first = (next, rw first refl, before)

  either : (later : Option Symbol) → nearer address symbol later ≡ Some other → (symbol ≡ other) ⊎ (later ≡ Some other)
  either None h = grind arith
  either (Some next) h = grind arith

-- if another symbol is the nearest one at an address, what is the nearest one further on goes before it, as far as it reaches
stays : (address further : ℕ) (other : Symbol) → reaches further other ≡ true → (symbols : List Symbol)
    → nearest address symbols ≡ Some other → HasBefore (nearest further symbols) other
stays address further other reached [] h = absurd cc
stays address further other reached (symbol ∷ symbols) h = elim (either address symbol other (nearest address symbols) h) [
  | inl same ↦ let P : Symbol → Type 0 = λ s. HasBefore (nearer further symbol (nearest further symbols)) s in
      subst P same (of_reached further symbol other (nearest further symbols) (rw same reached))
  | inr later ↦ let next = stays address further other reached symbols later in
      rw next.1 (of_more further symbol other next.0 next.2)
]

reached_there : (address : ℕ) (other : Symbol) (symbols : List Symbol) → nearest address symbols ≡ Some other → reaches address other ≡ true
reached_there address other symbols h =
    let P : Option Symbol → Type 0 = λ found. IsNearest address symbols found in
    let nearest : IsNearest address symbols (Some other) = subst P h (nearest_is address symbols) in nearest.3

-- a symbol before which another one goes doesn't go before what goes before that one
after_both : (symbol next other : Symbol) → goes_before next other ≡ true → goes_before symbol other ≡ false → goes_before symbol next ≡ false
after_both symbol next other before after = by (goes_before symbol next) refl
  where
    by : (first : Bool) → goes_before symbol next ≡ first → first ≡ false
    by true first = sym (goes_on symbol next other first before) ∙ after
    by false first = refl

module _ (address further : ℕ) (symbol other : Symbol) (from : address ≤ further) (few : further < 65536) where
  stays_reached : end_of symbol.scope ≤ end_of other.scope → reaches address other ≡ true → reaches further symbol ≡ true
      → reaches further other ≡ true
  stays_reached ends there reached =
      let value = no_higher other.value address (both (nat_le other.value address) (is_within address other.scope) there).0 in
      let end = before_end further symbol.scope few (both (nat_le symbol.value further) (is_within further symbol.scope) reached).1 in
      is_reached further other few (omega (arith, value, from)) (omega (arith, end, ends))

  -- a symbol before which the nearest one goes at an address, and which reaches no further, changes nothing from there on
  over : (symbols : List Symbol) → nearest address symbols ≡ Some other → goes_before symbol other ≡ false
      → end_of symbol.scope ≤ end_of other.scope → nearer further symbol (nearest further symbols) ≡ nearest further symbols
  over symbols there after ends = by (reaches further symbol) refl
    where
      by : (may : Bool) → reaches further symbol ≡ may → nearer further symbol (nearest further symbols) ≡ nearest further symbols
      by false may = not_reached further symbol (nearest further symbols) may
      by true may =
          let next = stays address further other (stays_reached ends (reached_there address other symbols there) may) symbols there in
          rw next.1 (not_nearer further symbol next.0 (after_both symbol next.0 other next.2 after))

-- ---- an index in which a symbol is entered up to an address

module _ (list : List Symbol) (symbol : Symbol) (before : List ℕ) (address : ℕ) (places : List ℕ) (few : address < 65536)
    (entered : IsEntered list symbol before address places) where
  -- at the address the index finds what the symbol leaves there
  pub entered_one : (after : List ℕ) → length after ≡ 65536
      → found list after address ≡ nearer address symbol (found list before address)
      → ((other : ℕ) → other ≢ address → found list after other ≡ found list places other)
      → IsEntered list symbol before (address + 1) after
  entered_one after room here others = record {
    room = room;
    done = λ other few' below. by other few' (cases_lt other address) below;
    left = λ other few' above. others other (omega (arith, above)) ∙ entered.left other few' (omega (arith, above));
  }
    where
      by : (other : ℕ) → other < 65536 → (other < address) ⊎ (address ≤ other) → other < address + 1
          → found list after other ≡ nearer other symbol (found list before other)
      by other few' (inl below) _ = others other (omega (arith, below)) ∙ entered.done other few' below
      by other few' (inr above) below = let same : address ≡ other = omega (arith, above, below) in rw (← same) here

  pub entered_kept : (later : Option Symbol) → later ≡ found list places address → takes symbol later ≡ false
      → IsEntered list symbol before (address + 1) places
  entered_kept later is kept = entered_one places entered.room
      (sym is ∙ unchanged later kept ∙ ap (nearer address symbol) (is ∙ entered.left address few (omega arith))) (λ other apart. refl)
    where
      unchanged : (later : Option Symbol) → takes symbol later ≡ false → later ≡ nearer address symbol later
      unchanged None kept = absurd cc
      unchanged (Some other) kept = sym (not_nearer address symbol other kept)

  pub entered_taken : (place : ℕ) (later : Option Symbol) → slice_get list place ≡ Some symbol → later ≡ found list places address
      → takes symbol later ≡ true → symbol.value ≤ address → address < end_of symbol.scope
      → IsEntered list symbol before (address + 1) (slice_set places address place)
  entered_taken place later there is taken above below =
      let room : address < length places = rw entered.room few in
      entered_one (slice_set places address place) (length-set places address place ∙ entered.room)
      (ap (slice_get list) (get_or-set_same places address place (length list) room) ∙ there
      ∙ changed later taken (is_reached address symbol few above below)
      ∙ ap (nearer address symbol) (is ∙ entered.left address few (omega arith)))
      (λ other apart. ap (slice_get list) (get_or-set_other places address other place (length list) apart))
    where
      changed : (later : Option Symbol) → takes symbol later ≡ true → reaches address symbol ≡ true → Some symbol ≡ nearer address symbol later
      changed None taken reached = rw reached refl
      changed (Some other) taken reached = rw (reached, taken) refl

  -- where what the index finds reaches as far and goes before the symbol, it is entered for all addresses
  pub entered_over : (later : Option Symbol) → later ≡ found list places address → is_over symbol later ≡ true
      → (symbols : List Symbol) → Finds list before symbols → Finds list places (symbol ∷ symbols)
  entered_over later is over' symbols finds other few' = by (cases_lt other address)
    where
      by : (other < address) ⊎ (address ≤ other) → found list places other ≡ nearer other symbol (nearest other symbols)
      by (inl below) = entered.done other few' below ∙ ap (nearer other symbol) (finds other few')
      by (inr above) = entered.left other few' above ∙ finds other few'
          ∙ sym (unchanged later (sym (finds address few) ∙ sym (entered.left address few (omega arith)) ∙ sym is) over')
        where
          unchanged : (later : Option Symbol) → nearest address symbols ≡ later → is_over symbol later ≡ true
              → nearer other symbol (nearest other symbols) ≡ nearest other symbols
          unchanged None there h = absurd cc
          unchanged (Some present) there h =
              let parts = both (not (goes_before symbol present)) (nat_le (end_of symbol.scope) (end_of present.scope)) h in
              over address other symbol present above few' symbols there (no_true (goes_before symbol present) parts.0)
              (no_higher (end_of symbol.scope) (end_of present.scope) parts.1)

-- ---- an index without symbols

same_everywhere : (place count address : ℕ) → get_or (replicate count place) address place ≡ place
same_everywhere place zero address = refl
same_everywhere place (suc count) zero = refl
same_everywhere place (suc count) (suc address) = same_everywhere place count address

pub finds_none : (list : List Symbol) (count address : ℕ) → found list (replicate count (length list)) address ≡ None
finds_none list count address = rw (same_everywhere (length list) count address)
    (slice_get_past list (length list) (omega arith))
