-- Relocations beside the lines of a text.
use Rattle.std.proofs.Common.{◌≡◌, ◌∙◌, ◌⊎◌, ℕ, zero, suc, ◌+◌, ◌-◌, ◌<◌, ◌≤◌, Bool, true, false, leb, ltb, List, [], ◌∷◌, ◌++◌, append_assoc, arith, inl, inr, refl, sym, ap}
use Rattle.std.specs.List.{flat_map}
use Rattle.std.proofs.lemmas.Bool.{eq-eqb, ne_eqb}
use Rattle.std.proofs.lemmas.Bool.Decides.{leb_tells}
use Rattle.m11_base_disassembly.specs.declared.references.References.{References}
use Rattle.m11_obj.specs.declared.relocations.Relocation.{Relocation}
use Rattle.m11_dump.specs.Beside.{left_at, line_at}
use Rattle.m11_dump.specs.BesideLaws.{AreBeside, IsShownAfter, IsShownBeside}
use Rattle.m11_dump.specs.Relocations.{stores}
use Rattle.m11_dump.specs.Instructions.{lines_from}
use Rattle.m11_dump.specs.Octets.{location_after}

lines_at : (references : ℕ → References) (address index shown byte : ℕ) (bytes beyond : List ℕ) → lines_from [] references address index shown (byte ∷ bytes) beyond
    ≡ line_at (references index) (location_after address index) shown (byte ∷ (bytes ++ beyond))
    ++ lines_from [] references address (index + 1) (left_at (references index) (location_after address index) shown (byte ∷ (bytes ++ beyond))) bytes beyond
lines_at references address index zero byte bytes beyond = refl
lines_at references address index (suc shown) byte bytes beyond = refl

pub places_beside : (references : ℕ → References) (others : ℕ → List ℕ) (address index shown : ℕ) (bytes beyond : List ℕ)
    → (pieces : List (List ℕ × List ℕ)) × AreBeside references others address index shown bytes beyond pieces
places_beside references others address index shown [] beyond = ([], (refl, refl, refl))
places_beside references others address index shown (byte ∷ bytes) beyond =
    let location = location_after address index in
    let line = line_at (references index) location shown (byte ∷ (bytes ++ beyond)) in
    let left = left_at (references index) location shown (byte ∷ (bytes ++ beyond)) in
    let rest = places_beside references others address (index + 1) left bytes beyond in (
      (line, others index) ∷ rest.0,
      (
        ap (λ (t : List ℕ). line ++ (others index ++ t)) rest.1.0 ∙ sym (append_assoc line (others index) (flat_map (λ piece. piece.0 ++ piece.1) rest.0)),
        lines_at references address index shown byte bytes beyond ∙ ap (λ (t : List ℕ). line ++ t) rest.1.1,
        ap (λ (t : List ℕ). others index ++ t) rest.1.2,
      ),
    )

-- ---- each relocation is shown once

abbrev pub Once : ℕ → ℕ → Relocation → Type 0
Once address count relocation = ((index : ℕ) × IsShownBeside address count relocation index) ⊎ IsShownAfter address count relocation

-- a relocation that stores a value is shown once, whether its displacement lies before, in or after the text
module _ (address count : ℕ) (relocation : Relocation) (yes : stores relocation.target ≡ true) where
  abbrev place : ℕ
  place = relocation.displacement

  before : (leb 4 place ≡ false) × (place < 4) → Once address count relocation
  before low = inr (rw (yes, low.0) refl, λ index below. rw (yes, ne_eqb place (index + 4) (λ e. omega (arith, low.1, e))) refl)

  after : leb 4 place ≡ true → (ltb place (count + 4) ≡ false) × (count + 4 < suc place) → Once address count relocation
  after from high =
      inr (rw (yes, from, high.0) refl, λ index below. rw (yes, ne_eqb place (index + 4) (λ e. omega (arith, high.1, below, e))) refl)

  inside : (leb 4 place ≡ true) × (4 ≤ place) → (ltb place (count + 4) ≡ true) × (suc place ≤ count + 4) → Once address count relocation
  inside from till = inl (
    place - 4,
    (
      omega (arith, from.1, till.1),
      rw (yes, eq-eqb place (place - 4 + 4) (omega (arith, from.1))) refl,
      (λ other unlike. rw (yes, ne_eqb place (other + 4) (λ e. unlike (omega (arith, e)))) refl),
      rw (yes, from.0, till.0) refl,
    ),
  )

  stored_once : Once address count relocation
  stored_once = elim (leb_tells 4 place) [
    | inl from ↦ elim (leb_tells (suc place) (count + 4)) [ inl till ↦ inside from till | inr high ↦ after from.0 high ]
    | inr low ↦ before low
  ]

once_by : (address count : ℕ) (relocation : Relocation) (does_store : Bool) → stores relocation.target ≡ does_store
    → Once address count relocation
once_by address count relocation true is = stored_once address count relocation is
once_by address count relocation false is = inr (rw is refl, λ index below. rw is refl)

pub shown_once : (address count : ℕ) (relocation : Relocation) → Once address count relocation
shown_once address count relocation = once_by address count relocation (stores relocation.target) refl
