-- The tape with two bytes at one address, and the memory after its load.
use Rattle.std.proofs.Common.{◌≡◌, ◌∙◌, ℕ, ◌-◌, ◌≤◌, Bool, true, false, cond, ltb, List, [], ◌∷◌, ◌++◌, Option, Some, Ok, refl, sym, ap, arith, inl, inr}
use Rattle.std.specs.Option.{unwrap_or}
use Rattle.std.proofs.lemmas.Bool.{cases_lt, ltb-true}
use Rattle.m11_base.specs.Feed.{Ending}
use Rattle.m11_obj_blocks.specs.declared.tape_part.TapePart.TheVariants.{Data, Start}
use Rattle.m11_obj_blocks.specs.Limited.{Position, position, Took, most_bytes}
use Rattle.m11_obj_blocks.specs.Tapes.{IsTape, Block, Transfer, tape_block, total_of, first_part, next_part, count, transfer}
use Rattle.m11_obj_blocks.proofs.ReadSteps.{Bytes, chosen}
use Rattle.m11_cpu_machine.specs.declared.machine.Machine.{Machine}
use Rattle.m11_cpu.specs.Loading.{Hold, LoadsInto, LoadsTape, PutBlocks, stored}
use Rattle.m11_cpu_machine.specs.Machine.{byte_in, memory_size}
use Rattle.m11_cpu_laws.specs.Example.{overlaid_tape}
use Rattle.m11_cpu_laws.specs.Image.{Image}
use Rattle.m11_cpu_laws.specs.Loaded.{HoldsImage}
use Rattle.m11_cpu_laws.specs.Tapes.{IsTapeOf, image_of_blocks}
use Rattle.m11_cpu_laws.proofs.Readings.{its_image}

abbrev two_blocks : List (ℕ × List ℕ)
two_blocks = (0o1000, 1 ∷ 2 ∷ 3 ∷ 4 ∷ []) ∷ (0o1002, 0o377 ∷ []) ∷ []

abbrev pub overlaid_image : Image
overlaid_image = image_of_blocks two_blocks 0o1000

consists : IsTape two_blocks 0o1000 overlaid_tape
unfolding overlaid_tape tape_block
consists =
    Block 0o1000 (1 ∷ 2 ∷ 3 ∷ 4 ∷ []) (omega arith) (omega arith) (omega arith)
    (Block 0o1002 (0o377 ∷ []) (omega arith) (omega arith) (omega arith) (Transfer 0o1000 [] (omega arith)))

pub overlaid : IsTapeOf overlaid_image overlaid_tape
overlaid = its_image overlaid_tape two_blocks 0o1000 consists

-- each byte of an image is in memory after a load
stands : (image : Image) (before after : Machine) (start address byte : ℕ) → HoldsImage image before after start
    → image.byte address ≡ Some byte → byte_in address after ≡ byte
stands image before after start address byte h has =
    elim (cases_lt address (memory_size before)) [
      | inl within ↦ h.bytes address within ∙ ap (λ (b : Option ℕ). unwrap_or b (byte_in address before)) has
      | inr past ↦ absurd (let bad = sym (h.inside address past) ∙ has in cc)
    ]

pub later_stands : (before after : Machine) (start : ℕ) → HoldsImage overlaid_image before after start
    → (byte_in 0o1001 after ≡ 2) × (byte_in 0o1002 after ≡ 0o377) × (byte_in 0o1003 after ≡ 4) × (start ≡ 0o1000)
later_stands before after start h = (
  stands overlaid_image before after start 0o1001 2 h refl,
  stands overlaid_image before after start 0o1002 0o377 h refl,
  stands overlaid_image before after start 0o1003 4 h refl,
  h.start_is,
)

-- ---- such a load

-- the first block, and all but the last byte of the second
abbrev front_bytes : List ℕ
front_bytes = 1 ∷ 0 ∷ 0o12 ∷ 0 ∷ 0 ∷ 2 ∷ 1 ∷ 2 ∷ 3 ∷ 4 ∷ 0o351 ∷ 1 ∷ 0 ∷ 7 ∷ 0 ∷ 2 ∷ 2 ∷ 0o377 ∷ []

-- the last byte of the second block, and the transfer block
abbrev last_bytes : List ℕ
last_bytes = 0o365 ∷ 1 ∷ 0 ∷ 6 ∷ 0 ∷ 0 ∷ 2 ∷ 0o367 ∷ []

-- a test whose value, once computed, shows that each number of a list is a byte
abbrev are_small : List ℕ → Bool
are_small [] = true
are_small (x ∷ xs) = cond (ltb x 256) (are_small xs) false

all_small : (xs : List ℕ) → are_small xs ≡ true → Bytes xs
all_small [] e = tt
all_small (x ∷ xs) e =
    elim (chosen (ltb x 256) (are_small xs) false true e) [
      | inl small ↦ (ltb-true x 256 small.0, all_small xs small.1)
      | inr large ↦ absurd (let bad = large.1 in cc)
    ]

first_header : (rest : List ℕ) → first_part (1 ∷ 0 ∷ 0o12 ∷ 0 ∷ 0 ∷ 2 ∷ rest) ≡ Ok (Data 0o1000 4, rest)
unfolding first_part count
first_header rest = refl

second_header : (rest : List ℕ)
    → next_part (total_of 0o1000 (1 ∷ 2 ∷ 3 ∷ 4 ∷ [])) (0o351 ∷ 1 ∷ 0 ∷ 7 ∷ 0 ∷ 2 ∷ 2 ∷ rest) ≡ Ok (Data 0o1002 1, rest)
unfolding next_part first_part count
second_header rest = refl

transfer_last : (rest : List ℕ)
    → next_part (total_of 0o1002 (0o377 ∷ [])) (last_bytes ++ rest) ≡ Ok (Start 0o1000, rest)
unfolding next_part first_part count transfer
transfer_last rest = refl

held : Hold first_part two_blocks front_bytes
held = (
  1 ∷ 0 ∷ 0o12 ∷ 0 ∷ 0 ∷ 2 ∷ [],
  0o351 ∷ 1 ∷ 0 ∷ 7 ∷ 0 ∷ 2 ∷ 2 ∷ 0o377 ∷ [],
  refl,
  first_header,
  (0o351 ∷ 1 ∷ 0 ∷ 7 ∷ 0 ∷ 2 ∷ 2 ∷ [], [], refl, second_header, refl),
)

module _ (ending : Ending) (faults : ℕ) (before : Machine) (fits : 0o1004 ≤ memory_size before) where
  -- the feed when these bytes remain
  abbrev at : List ℕ → ℕ → Position
  at bytes room = position (Some (record { bytes = bytes; ending = ending })) faults room

  front_took : Took (at overlaid_tape most_bytes) (at last_bytes (most_bytes - 18)) front_bytes
  unfolding overlaid_tape
  front_took =
      record { gave = (last_bytes, refl, refl); faults = refl; room = refl; bytes = all_small front_bytes refl }

  last_took : Took (at last_bytes (most_bytes - 18)) (at [] (most_bytes - 26)) last_bytes
  last_took = record { gave = ([], refl, refl); faults = refl; room = refl; bytes = all_small last_bytes refl }

  put : PutBlocks (at overlaid_tape most_bytes) (at last_bytes (most_bytes - 18)) before.memory (stored two_blocks before.memory) two_blocks
  put = record {
    given = front_bytes;
    took = front_took;
    hold = held;
    inside = (λ index lt. omega arith, (λ index lt. omega arith, tt));
    memory = refl;
  }

  loads_tape : LoadsTape (at overlaid_tape most_bytes) (at [] (most_bytes - 26)) before.memory (stored two_blocks before.memory) 0o1000
  unfolding overlaid_tape put
  loads_tape = record {
    blocks = two_blocks;
    following = at last_bytes (most_bytes - 18);
    put = put;
    last = record { given = last_bytes; took = last_took; is = transfer_last };
    tape = consists;
  }

  abbrev pub loaded : Machine
  loaded = record before { memory = stored two_blocks before.memory }

  pub is_met : (after : Machine) × LoadsInto (Some (record { bytes = overlaid_tape; ending = ending }))
      (Some (record { bytes = []; ending = ending })) faults faults before after (Ok 0o1000)
  is_met = (loaded, ((most_bytes - 26, loads_tape), refl, refl))
