-- The items of an object are those that `items_of` computes.
use Rattle.std.proofs.Common.{◌≡◌, ◌∙◌, ℕ, zero, suc, ◌+◌, ◌-◌, ◌<◌, ◌≤◌, List, [], ◌∷◌, ◌++◌, length, take, drop, Ok, Err, refl, sym, ap, subst, arith, inl, inr}
use Rattle.std.specs.List.{flat_map}
use Rattle.std.proofs.lemmas.Bool.{cases_lt}
use Rattle.std.proofs.lemmas.List.{append-nil, take-append-drop, length-append, length-drop, length-take, take_all, take_at, drop_all, drop_at}
use Rattle.m11_obj_blocks.specs.Blocks.{first_block}
use Rattle.m11_obj_blocks.specs.Limited.{Between, Inside, Read, IsShort, Stop, most_bytes}
use Rattle.m11_obj_blocks.specs.Limited as limited
use Rattle.m11_obj_blocks.specs.declared.block_fault.BlockFault.{BlockFault}
use Rattle.m11_obj_blocks.specs.declared.block_fault.BlockFault.TheVariants as block
use Rattle.m11_link_layout.specs.declared.fault.LinkFault.TheVariants as fault
use Rattle.m11_link.proofs.Sole.{objects_same}
use Rattle.m11_link.proofs.Steady.{block_shorter, block_steady}
use Rattle.m11_link.specs.Objects as objects
use Rattle.m11_link.specs.Objects.{AreItems, BlockOf, Item, ObjectEnds, ObjectItems}
use Rattle.m11_link_laws.specs.ItemsOf.{block_items, end_or_more, items_of, items_within, last_item}

abbrev Result : Type 0
Result = Read BlockFault (List ℕ)

module _ (room : ℕ) (bytes : List ℕ) where
  -- the bytes within the limit don't begin with a block
  short_yields : (item : Item) → IsShort (first_block (take room bytes))
      → (length bytes ≤ room → ObjectItems room bytes (item ∷ []))
      → (past : List ℕ) → drop room bytes ≡ past → ObjectItems room bytes (end_or_more item past ∷ [])
  short_yields item short whole [] none = whole (omega (arith, ap length none, length-drop room bytes))
  short_yields item short whole (byte ∷ past) one =
      objects.Passes (omega (arith, ap length one, length-drop room bytes)) short

  all_within : length bytes ≤ room → first_block bytes ≡ first_block (take room bytes)
  all_within le = ap first_block (sym (take_all room bytes le))

  stop_yields : (stop : Stop BlockFault) → first_block (take room bytes) ≡ Err stop
      → ObjectItems room bytes (last_item (drop room bytes) stop ∷ [])
  stop_yields Between e = short_yields ObjectEnds (subst (λ (r : Result). IsShort r) (sym e) tt)
      (λ le. objects.Ends (all_within le ∙ e) le) (drop room bytes) refl
  stop_yields Inside e = short_yields (objects.Refused (fault.Block block.Truncated))
      (subst (λ (r : Result). IsShort r) (sym e) tt)
      (λ le. objects.IsCut (all_within le ∙ e) le) (drop room bytes) refl
  stop_yields (limited.Refused inner rest) e =
      let is : first_block bytes ≡ Err (limited.Refused inner (rest ++ drop room bytes)) =
      ap first_block (sym (take-append-drop room bytes))
      ∙ block_steady.refused (take room bytes) (drop room bytes) inner rest e in
      objects.IsBad is (omega (
        arith,
        length-take room bytes,
        length-append rest (drop room bytes),
        length-drop room bytes,
      ))

  -- the bytes within the limit begin with a block
  module _ (content rest : List ℕ) (e : first_block (take room bytes) ≡ Ok (content, rest)) where
    left : ℕ
    left = length (rest ++ drop room bytes) + room - length bytes

    is_read : first_block bytes ≡ Ok (content, rest ++ drop room bytes)
    is_read = ap first_block (sym (take-append-drop room bytes))
        ∙ block_steady.ok (take room bytes) (drop room bytes) content rest e

    fewer : length rest < length (take room bytes)
    fewer = block_shorter (take room bytes) content rest e

    fits : length bytes + left ≡ length (rest ++ drop room bytes) + room
    unfolding left
    fits = omega (arith, length-append rest (drop room bytes), length-drop room bytes)

    split : (take left (rest ++ drop room bytes) ≡ rest) × (drop left (rest ++ drop room bytes) ≡ drop room bytes)
    unfolding left
    split =
        elim (cases_lt room (length bytes)) [
          | inl lt ↦
              let exact : length rest ≡ left = omega (arith, lt, length-append rest (drop room bytes), length-drop room bytes) in
              (take_at rest (drop room bytes) left exact, drop_at rest (drop room bytes) left exact)
          | inr le ↦
              let none : drop room bytes ≡ [] = drop_all room bytes le in
              let all : rest ++ drop room bytes ≡ rest = ap (λ (xs : List ℕ). rest ++ xs) none ∙ append-nil rest in
              let enough : length rest ≤ left = omega (arith, le, length-append rest (drop room bytes)) in (
                ap (λ (xs : List ℕ). take left xs) all ∙ take_all left rest enough,
                ap (λ (xs : List ℕ). drop left xs) all ∙ drop_all left rest enough ∙ sym none,
              )
        ]

yields_by : (bound room : ℕ) (bytes : List ℕ)
    → ((left : ℕ) (rest : List ℕ) → length (take left rest) < length (take room bytes)
    → ObjectItems left rest (items_within bound (drop left rest) (take left rest)))
    → (r : Result) → first_block (take room bytes) ≡ r
    → ObjectItems room bytes (block_items (items_within bound (drop room bytes)) (drop room bytes) r)
yields_by bound room bytes others (Ok (content, rest)) e =
    let s = split room bytes content rest e in
    let left : ℕ = left room bytes content rest e in
    let P : List ℕ → Type 0 = λ past. ObjectItems left (rest ++ drop room bytes) (items_within bound past rest) in
    let Q : List ℕ → Type 0 = λ within.
    ObjectItems left (rest ++ drop room bytes) (items_within bound (drop left (rest ++ drop room bytes)) within) in
    let next = others left (rest ++ drop room bytes) (omega (arith, ap length s.0, fewer room bytes content rest e)) in
    objects.Begins (is_read room bytes content rest e) (fits room bytes content rest e) (subst P s.1 (subst Q s.0 next))
yields_by bound room bytes others (Err stop) e = stop_yields room bytes stop e

yields_within : (bound room : ℕ) (bytes : List ℕ) → length (take room bytes) < bound
    → ObjectItems room bytes (items_within bound (drop room bytes) (take room bytes))
yields_within zero room bytes lt = absurd (omega (arith, lt))
yields_within (suc bound) room bytes lt =
    yields_by bound room bytes (λ left rest fewer. yields_within bound left rest (omega (arith, lt, fewer)))
    (first_block (take room bytes)) refl

pub object_yields : (bytes : List ℕ) → ObjectItems most_bytes bytes (items_of bytes)
unfolding items_of
object_yields bytes = yields_within (suc (length bytes)) most_bytes bytes (omega (arith, length-take most_bytes bytes))

pub objects_yield : (sources : List (List ℕ)) → AreItems sources (flat_map items_of sources)
objects_yield [] = objects.Nothing
objects_yield (source ∷ sources) = objects.Object (object_yields source) (objects_yield sources)

pub objects_alone : (sources : List (List ℕ)) (items : List Item) → AreItems sources items → items ≡ flat_map items_of sources
objects_alone sources items are = objects_same sources items (flat_map items_of sources) are (objects_yield sources)

pub object_alone : (bytes : List ℕ) (items : List Item) → ObjectItems most_bytes bytes items → items ≡ items_of bytes
object_alone bytes items are =
    sym (append-nil items)
    ∙ objects_same (bytes ∷ []) (items ++ []) (items_of bytes ++ []) (objects.Object are objects.Nothing)
    (objects.Object (object_yields bytes) objects.Nothing)
    ∙ append-nil (items_of bytes)
