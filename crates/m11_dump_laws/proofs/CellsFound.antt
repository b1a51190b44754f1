-- The byte at an address of some cells, the first of which has an address.
use Rattle.std.proofs.Common.{◌≡◌, ◌∙◌, ℕ, zero, suc, ◌+◌, ◌-◌, ◌<◌, ◌≤◌, Bool, [], ◌∷◌, ◌++◌, length, map, get_or, Option, Some, None, refl, sym, ap, ap₂, arith, inl, inr}
use Rattle.std.specs.Prelude.{nat_le, if◌then◌else◌, slice_get}
use Rattle.std.specs.Option.{option_or}
use Rattle.std.proofs.lemmas.Bool.{cases_lt, le-leb, lt-leb}
use Rattle.std.proofs.lemmas.List.{get_or-append_right, get_or_append_left, get_or_past, length-map}
use Rattle.m11_base.specs.Devices.{Bytes}
use Rattle.m11_dump_source.specs.Memory.{Cells}

abbrev pub cell_at : ℕ → Cells → ℕ → Option ℕ
cell_at first cells address = if nat_le first address then get_or cells (address - first) None else None

-- bytes as cells
abbrev pub as_cells : Bytes → Cells
as_cells bytes = map (λ byte. Some byte) bytes

or_none : (a : Option ℕ) → option_or a None ≡ a
or_none None = refl
or_none (Some x) = refl

same_byte : (bytes : Bytes) (index : ℕ) → slice_get bytes index ≡ get_or (as_cells bytes) index None
same_byte [] index = refl
same_byte (byte ∷ bytes) zero = refl
same_byte (byte ∷ bytes) (suc index) = same_byte bytes index

module _ (first : ℕ) (cells : Cells) (address : ℕ) where
  none_below : address < first → cell_at first cells address ≡ None
  none_below below = ap (λ (b : Bool). if b then get_or cells (address - first) None else None) (lt-leb first address below)

  pub found_from : first ≤ address → cell_at first cells address ≡ get_or cells (address - first) None
  found_from from = ap (λ (b : Bool). if b then get_or cells (address - first) None else None) (le-leb first address from)

pub within_cells : (first : ℕ) (bytes : Bytes) (address : ℕ)
    → (if nat_le first address then slice_get bytes (address - first) else None) ≡ cell_at first (as_cells bytes) address
within_cells first bytes address =
    ap (λ (o : Option ℕ). if nat_le first address then o else None) (same_byte bytes (address - first))

-- the cells after one without a byte
pub none_passed : (first : ℕ) (cells : Cells) (address : ℕ) → cell_at (first + 1) cells address ≡ cell_at first (None ∷ cells) address
none_passed first cells address = elim (cases_lt address first) [
  | inl below ↦ none_below (first + 1) cells address (omega (arith, below)) ∙ sym (none_below first (None ∷ cells) address below)
  | inr from ↦ elim (cases_lt first address) [
    | inl after ↦ found_from (first + 1) cells address (omega (arith, after))
        ∙ ap (λ n. get_or (None ∷ cells) n None) (index after)
        ∙ sym (found_from first (None ∷ cells) address from)
    | inr same ↦ none_below (first + 1) cells address (omega (arith, same))
        ∙ ap (λ n. get_or (None ∷ cells) n None) (start same)
        ∙ sym (found_from first (None ∷ cells) address from)
  ]
]
  where
    index : first < address → suc (address - (first + 1)) ≡ address - first
    index after = omega arith

    start : address ≤ first → 0 ≡ address - first
    start same = omega arith

module _ (first : ℕ) (front : Bytes) (rest : Cells) (address : ℕ) where
  abbrev size : ℕ
  size = length (as_cells front)

  same_size : first + size ≡ first + length front
  same_size = ap (λ n. first + n) (length-map front (λ byte. Some byte))

  abbrev front_cell : Option ℕ
  front_cell = cell_at first (as_cells front) address

  abbrev rest_cell : Option ℕ
  rest_cell = cell_at (first + size) rest address

  parted_below : address < first → cell_at first (as_cells front ++ rest) address ≡ option_or rest_cell front_cell
  parted_below below =
      none_below first (as_cells front ++ rest) address below
      ∙ ap₂ option_or (sym (none_below (first + size) rest address (omega (arith, below))))
      (sym (none_below first (as_cells front) address below))

  parted_within : first ≤ address → address < first + size
      → cell_at first (as_cells front ++ rest) address ≡ option_or rest_cell front_cell
  parted_within from before =
      found_from first (as_cells front ++ rest) address from
      ∙ get_or_append_left (as_cells front) rest None (address - first) (omega (arith, from, before))
      ∙ sym (found_from first (as_cells front) address from)
      ∙ ap (λ o. option_or o front_cell) (sym (none_below (first + size) rest address before))

  parted_past : first + size ≤ address → cell_at first (as_cells front ++ rest) address ≡ option_or rest_cell front_cell
  parted_past past =
      let from : first ≤ address = omega (arith, past) in
      let there : address - first - size ≡ address - (first + size) = omega (arith, past) in
      found_from first (as_cells front ++ rest) address from
      ∙ get_or-append_right (as_cells front) rest size (address - first) None refl (omega (arith, past))
      ∙ ap (λ n. get_or rest n None) there
      ∙ sym (found_from (first + size) rest address past)
      ∙ sym (or_none rest_cell)
      ∙ ap (λ o. option_or rest_cell o)
      (sym (found_from first (as_cells front) address from ∙ get_or_past (as_cells front) (address - first) None (omega (arith, past))))

  by_size : cell_at first (as_cells front ++ rest) address ≡ option_or rest_cell front_cell
  by_size = elim (cases_lt address first) [
    | inl below ↦ parted_below below
    | inr from ↦ elim (cases_lt address (first + size)) [
      | inl before ↦ parted_within from before
      | inr past ↦ parted_past past
    ]
  ]

  -- the byte of two parts is that of the second part, or that of the first if the second has none there
  pub cells_parted : cell_at first (as_cells front ++ rest) address
      ≡ option_or (cell_at (first + length front) rest address) front_cell
  cells_parted = by_size ∙ ap (λ n. option_or (cell_at n rest address) front_cell) same_size
