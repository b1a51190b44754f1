-- Memory after blocks has at each address the byte that the blocks have there.
use Rattle.std.proofs.Common.{◌≡◌, ◌∙◌, ℕ, zero, suc, ◌+◌, ◌-◌, ◌≤◌, ◌<◌, Bool, true, false, inl, inr, List, [], ◌∷◌, get_or, length, replicate, slice_get, Option, Some, None, refl, sym, ap, subst, arith}
use Rattle.std.specs.Prelude.{if◌then◌else◌, nat_le, slice_index_or}
use Rattle.std.specs.Option.{option_or}
use Rattle.std.proofs.lemmas.Bool.{cases_Bool, leb-false, leb-true}
use Rattle.std.proofs.lemmas.List.{get_or-replicate, length-replicate}
use Rattle.m11_base.specs.Devices.{Bytes}
use Rattle.m11_cpu_laws.specs.Image.{byte_of, byte_within}
use Rattle.m11_dump_source.specs.Memory.{Cells, after_blocks, memory_of, with_bytes}
use Rattle.m11_dump_source.proofs.Stored.{as_long}

or_none : (found : Option ℕ) → option_or found None ≡ found
or_none None = refl
or_none (Some byte) = refl

or_assoc : (one two three : Option ℕ) → option_or one (option_or two three) ≡ option_or (option_or one two) three
or_assoc None two three = refl
or_assoc (Some byte) two three = refl

-- ---- one block

-- cells before a block keep what they have
before_kept : (index : ℕ) (bytes : Bytes) (cells : Cells) (address : ℕ) → address < index
    → get_or (with_bytes index bytes cells) address None ≡ get_or cells address None
before_kept index bytes [] address less = refl
before_kept zero bytes (cell ∷ cells) address less = absurd (omega (arith, less))
before_kept (suc index) bytes (cell ∷ cells) zero less = refl
before_kept (suc index) bytes (cell ∷ cells) (suc address) less = before_kept index bytes cells address (omega (arith, less))

-- from its first cell on a block puts its bytes
first_stored : (bytes : Bytes) (cells : Cells) (distance : ℕ) → distance < length cells
    → get_or (with_bytes 0 bytes cells) distance None ≡ option_or (slice_get bytes distance) (get_or cells distance None)
first_stored bytes [] distance within = absurd (omega (arith, within))
first_stored [] (cell ∷ cells) distance within = refl
first_stored (byte ∷ bytes) (cell ∷ cells) zero within = refl
first_stored (byte ∷ bytes) (cell ∷ cells) (suc distance) within = first_stored bytes cells distance (omega (arith, within))

one_on : (index distance : ℕ) → suc index + distance ≡ suc (index + distance)
one_on index distance = omega arith

from_stored : (index : ℕ) (bytes : Bytes) (cells : Cells) (distance : ℕ) → index + distance < length cells
    → get_or (with_bytes index bytes cells) (index + distance) None
    ≡ option_or (slice_get bytes distance) (get_or cells (index + distance) None)
from_stored index bytes [] distance within = absurd (omega (arith, within))
from_stored zero bytes (cell ∷ cells) distance within =
    let P : ℕ → Type 0 = λ n. get_or (with_bytes 0 bytes (cell ∷ cells)) n None
    ≡ option_or (slice_get bytes distance) (get_or (cell ∷ cells) n None) in
    let same : distance ≡ 0 + distance = omega arith in
    subst P same (first_stored bytes (cell ∷ cells) distance (omega (arith, within)))
from_stored (suc index) bytes (cell ∷ cells) distance within =
    let P : ℕ → Type 0 = λ n. get_or (with_bytes (suc index) bytes (cell ∷ cells)) n None
    ≡ option_or (slice_get bytes distance) (get_or (cell ∷ cells) n None) in
    subst P (sym (one_on index distance)) (from_stored index bytes cells distance (omega (arith, within)))

from_by : (index address : ℕ) → index ≤ address → index + (address - index) ≡ address
from_by index address least = omega (arith, least)

stored_by : (index : ℕ) (bytes : Bytes) (cells : Cells) (address : ℕ) → address < length cells → (b : Bool) → nat_le index address ≡ b
    → get_or (with_bytes index bytes cells) address None
    ≡ option_or (if b then slice_get bytes (address - index) else None) (get_or cells address None)
stored_by index bytes cells address within true is =
    let on = from_by index address (leb-true index address is) in
    let P : ℕ → Type 0 = λ n. get_or (with_bytes index bytes cells) n None
    ≡ option_or (slice_get bytes (address - index)) (get_or cells n None) in
    subst P on (from_stored index bytes cells (address - index) (omega (arith, within, on)))
stored_by index bytes cells address within false is = before_kept index bytes cells address (leb-false index address is)

block_stored : (block : ℕ × Bytes) (cells : Cells) (address : ℕ) → address < length cells
    → get_or (with_bytes block.0 block.1 cells) address None ≡ option_or (byte_within block address) (get_or cells address None)
block_stored block cells address within = stored_by block.0 block.1 cells address within (nat_le block.0 address) refl

-- ---- all blocks

all_stored : (blocks : List (ℕ × Bytes)) (cells : Cells) (address : ℕ) → address < length cells
    → get_or (after_blocks blocks cells) address None ≡ option_or (byte_of blocks address) (get_or cells address None)
all_stored [] cells address within = refl
all_stored (block ∷ blocks) cells address within =
    let next : Cells = with_bytes block.0 block.1 cells in
    let same : length next ≡ length cells = as_long block.0 block.1 cells in
    all_stored blocks next address (omega (arith, within, same))
    ∙ ap (option_or (byte_of blocks address)) (block_stored block cells address within)
    ∙ or_assoc (byte_of blocks address) (byte_within block address) (get_or cells address None)

from_none : (size : ℕ) (blocks : List (ℕ × Bytes)) (address : ℕ) → address < size
    → get_or (after_blocks blocks (replicate size None)) address None ≡ byte_of blocks address
from_none size blocks address within =
    let empty : Cells = replicate size None in
    let same : length empty ≡ size = length-replicate size None in
    all_stored blocks empty address (omega (arith, within, same))
    ∙ ap (option_or (byte_of blocks address)) (get_or-replicate size address None None within) ∙ or_none (byte_of blocks address)

pub memory_stored : (blocks : List (ℕ × Bytes)) (address : ℕ) → address < 65536
    → slice_index_or (memory_of blocks) address None ≡ byte_of blocks address
memory_stored blocks address within = from_none 65536 blocks address within
