-- The byte at an address, in blocks and in the memory into which they were put.
use Rattle.std.proofs.Common.{◌≡◌, ◌∙◌, ℕ, ◌+◌, ◌-◌, ◌<◌, ◌≤◌, List, [], ◌∷◌, ◌++◌, length, take, drop, get_or, Option, Some, None, refl, sym, ap, subst, arith, inl, inr}
use Rattle.std.specs.List.{AllByRecursion, slice_get}
use Rattle.std.specs.Option.{option_or, unwrap_or}
use Rattle.std.proofs.lemmas.Bool.{cases_lt, le-leb, lt-leb}
use Rattle.std.proofs.lemmas.List.{length-append, length-drop, length-take-le, get_or_append_left, get_or-append_right, get_or-drop, get_or-take, take-append-drop}
use Rattle.std.proofs.lemmas.Option.{slice_get_past, slice_get-get_or}
use Rattle.m11_cpu.specs.Loading.{with_bytes, AreInside, stored}
use Rattle.m11_cpu_machine.specs.Memory.{byte_at}
use Rattle.m11_cpu_laws.specs.Image.{byte_within, byte_of}

-- ---- options

or_none : (a : Option ℕ) → option_or a None ≡ a
or_none None = refl
or_none (Some x) = refl

or_assoc : (a b c : Option ℕ) → option_or (option_or a b) c ≡ option_or a (option_or b c)
or_assoc None b c = refl
or_assoc (Some x) b c = refl

unwrap-or : (a b : Option ℕ) (other : ℕ) → unwrap_or a (unwrap_or b other) ≡ unwrap_or (option_or a b) other
unwrap-or None b other = refl
unwrap-or (Some x) b other = refl

or_some : (a : Option ℕ) (x : ℕ) → (y : ℕ) × (option_or a (Some x) ≡ Some y)
or_some None x = (x, refl)
or_some (Some y) x = (y, refl)

-- ---- one block

within_before : (address at : ℕ) (bytes : List ℕ) → at < address → byte_within (address, bytes) at ≡ None
within_before address at bytes lt = rw (lt-leb address at lt) refl

within_from : (address at : ℕ) (bytes : List ℕ) → address ≤ at
    → byte_within (address, bytes) at ≡ slice_get bytes (at - address)
within_from address at bytes le = rw (le-leb address at le) refl

within_past : (address at : ℕ) (bytes : List ℕ) → address + length bytes ≤ at → byte_within (address, bytes) at ≡ None
within_past address at bytes le =
    within_from address at bytes (omega arith) ∙ slice_get_past bytes (at - address) (omega arith)

pub within_at : (address index : ℕ) (bytes : List ℕ) → index < length bytes
    → byte_within (address, bytes) (address + index) ≡ Some (get_or bytes index 0)
within_at address index bytes lt =
    let same : address + index - address ≡ index = omega arith in
    within_from address (address + index) bytes (omega arith) ∙ ap (λ (i : ℕ). slice_get bytes i) same
    ∙ slice_get-get_or bytes index 0 lt

-- bytes that all have addresses in memory
module _ (address : ℕ) (bytes memory : List ℕ) (fits : address + length bytes ≤ length memory) where
  front_long : length (take address memory) ≡ address
  front_long = length-take-le address memory (omega arith)

  put_before : (at : ℕ) → at < address → byte_at (with_bytes address bytes memory) at ≡ byte_at memory at
  put_before at lt =
      get_or_append_left (take address memory) (bytes ++ drop (address + length bytes) memory) 0 at
      (omega (arith, front_long))
      ∙ get_or-take address memory at 0 lt

  put_from : (at : ℕ) → address ≤ at → byte_at (with_bytes address bytes memory) at
      ≡ get_or (bytes ++ drop (address + length bytes) memory) (at - address) 0
  put_from at le =
      get_or-append_right (take address memory) (bytes ++ drop (address + length bytes) memory) address at 0 front_long le

  put_within : (at : ℕ) → address ≤ at → at < address + length bytes
      → byte_at (with_bytes address bytes memory) at ≡ get_or bytes (at - address) 0
  put_within at le lt =
      put_from at le
      ∙ get_or_append_left bytes (drop (address + length bytes) memory) 0 (at - address) (omega arith)

  put_past : (at : ℕ) → address + length bytes ≤ at
      → byte_at (with_bytes address bytes memory) at ≡ byte_at memory at
  put_past at le =
      let same : address + length bytes + (at - address - length bytes) ≡ at = omega arith in
      put_from at (omega arith)
      ∙ get_or-append_right bytes (drop (address + length bytes) memory) (length bytes) (at - address) 0 refl (omega arith)
      ∙ get_or-drop (address + length bytes) memory (at - address - length bytes) 0
      ∙ ap (λ (i : ℕ). get_or memory i 0) same

  byte_placed : (at : ℕ) → byte_at (with_bytes address bytes memory) at
      ≡ unwrap_or (byte_within (address, bytes) at) (byte_at memory at)
  byte_placed at =
      let P : Option ℕ → ℕ = λ b. unwrap_or b (byte_at memory at) in
      elim (cases_lt at address) [
        | inl before ↦ put_before at before ∙ sym (ap P (within_before address at bytes before))
        | inr from ↦ elim (cases_lt at (address + length bytes)) [
          | inl within ↦
              put_within at from within
              ∙ sym (ap P (within_from address at bytes from
              ∙ slice_get-get_or bytes (at - address) 0 (omega arith)))
          | inr past ↦ put_past at past ∙ sym (ap P (within_past address at bytes past))
        ]
      ]

  long_placed : length (with_bytes address bytes memory) ≡ length memory
  long_placed =
      omega (
        arith,
        front_long,
        length-append (take address memory) (bytes ++ drop (address + length bytes) memory),
        length-append bytes (drop (address + length bytes) memory),
        length-drop (address + length bytes) memory,
      )

-- putting no bytes changes nothing, whatever the address
none_placed : (address : ℕ) (memory : List ℕ) → with_bytes address [] memory ≡ memory
none_placed address memory =
    let same : address + 0 ≡ address = omega arith in
    ap (λ (n : ℕ). take address memory ++ drop n memory) same ∙ take-append-drop address memory

none_within : (address at : ℕ) → byte_within (address, []) at ≡ None
none_within address at =
    elim (cases_lt at address) [
      | inl before ↦ within_before address at [] before
      | inr from ↦ within_past address at [] (omega arith)
    ]

pub block_byte : (address : ℕ) (bytes memory : List ℕ) (at : ℕ) → AreInside (length memory) address bytes
    → byte_at (with_bytes address bytes memory) at ≡ unwrap_or (byte_within (address, bytes) at) (byte_at memory at)
block_byte address [] memory at inside =
    ap (λ (m : List ℕ). byte_at m at) (none_placed address memory)
    ∙ sym (ap (λ (b : Option ℕ). unwrap_or b (byte_at memory at)) (none_within address at))
block_byte address (byte ∷ bytes) memory at inside =
    let last : address + length bytes < length memory = inside (length bytes) (omega arith) in
    byte_placed address (byte ∷ bytes) memory (omega arith) at

pub block_long : (address : ℕ) (bytes memory : List ℕ) → AreInside (length memory) address bytes
    → length (with_bytes address bytes memory) ≡ length memory
block_long address [] memory inside = ap (λ (m : List ℕ). length m) (none_placed address memory)
block_long address (byte ∷ bytes) memory inside =
    let last : address + length bytes < length memory = inside (length bytes) (omega arith) in
    long_placed address (byte ∷ bytes) memory (omega arith)

block_outside : (size address : ℕ) (bytes : List ℕ) (at : ℕ) → AreInside size address bytes → size ≤ at
    → byte_within (address, bytes) at ≡ None
block_outside size address [] at inside past = none_within address at
block_outside size address (byte ∷ bytes) at inside past =
    let last : address + length bytes < size = inside (length bytes) (omega arith) in
    within_past address at (byte ∷ bytes) (omega arith)

-- ---- blocks

abbrev pub AllInside : ℕ → List (ℕ × List ℕ) → Type 0
AllInside size blocks = AllByRecursion (λ block. AreInside size block.0 block.1) blocks

pub stored_long : (blocks : List (ℕ × List ℕ)) (memory : List ℕ) → AllInside (length memory) blocks
    → length (stored blocks memory) ≡ length memory
stored_long [] memory inside = refl
stored_long (block ∷ blocks) memory inside =
    let same = block_long block.0 block.1 memory inside.0 in
    stored_long blocks (with_bytes block.0 block.1 memory)
    (subst (λ (size : ℕ). AllInside size blocks) (sym same) inside.1) ∙ same

pub stored_byte : (blocks : List (ℕ × List ℕ)) (memory : List ℕ) (at : ℕ) → AllInside (length memory) blocks
    → byte_at (stored blocks memory) at ≡ unwrap_or (byte_of blocks at) (byte_at memory at)
stored_byte [] memory at inside = refl
stored_byte (block ∷ blocks) memory at inside =
    let same = block_long block.0 block.1 memory inside.0 in
    stored_byte blocks (with_bytes block.0 block.1 memory) at
    (subst (λ (size : ℕ). AllInside size blocks) (sym same) inside.1)
    ∙ ap (λ (b : ℕ). unwrap_or (byte_of blocks at) b) (block_byte block.0 block.1 memory at inside.0)
    ∙ unwrap-or (byte_of blocks at) (byte_within block at) (byte_at memory at)

pub none_outside : (size : ℕ) (blocks : List (ℕ × List ℕ)) (at : ℕ) → AllInside size blocks → size ≤ at
    → byte_of blocks at ≡ None
none_outside size [] at inside past = refl
none_outside size (block ∷ blocks) at inside past =
    ap (λ (b : Option ℕ). option_or b (byte_within block at)) (none_outside size blocks at inside.1 past)
    ∙ block_outside size block.0 block.1 at inside.0 past

-- the byte of two lists of blocks at an address is that of the second list, or that of the first if the second has none there
pub byte_of-append : (xs ys : List (ℕ × List ℕ)) (at : ℕ)
    → byte_of (xs ++ ys) at ≡ option_or (byte_of ys at) (byte_of xs at)
byte_of-append [] ys at = sym (or_none (byte_of ys at))
byte_of-append (x ∷ xs) ys at =
    ap (λ (b : Option ℕ). option_or b (byte_within x at)) (byte_of-append xs ys at)
    ∙ or_assoc (byte_of ys at) (byte_of xs at) (byte_within x at)

-- if one of the blocks has a byte at an address, the list of blocks has one there
pub has_byte : (xs : List (ℕ × List ℕ)) (block : ℕ × List ℕ) (ys : List (ℕ × List ℕ)) (at byte : ℕ)
    → byte_within block at ≡ Some byte → (x : ℕ) × (byte_of (xs ++ block ∷ ys) at ≡ Some x)
has_byte xs block ys at byte e =
    let one = or_some (byte_of ys at) byte in (
      one.0,
      byte_of-append xs (block ∷ ys) at
          ∙ ap (λ (b : Option ℕ). option_or b (byte_of xs at))
          (ap (λ (b : Option ℕ). option_or (byte_of ys at) b) e ∙ one.1),
    )
