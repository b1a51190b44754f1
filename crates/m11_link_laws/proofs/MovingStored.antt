-- The values that relocations store with two bottoms.
use Rattle.std.proofs.Common.{◌≡◌, ℕ, ◌+◌, ◌-◌, Bool, true, false, ◌&&◌, if◌then◌else◌, List, [], ◌∷◌, ◌++◌, length, map, refl, sym, ap, ap₂, ◌∙◌, true≢false}
use Rattle.m11_obj_blocks.specs.Frames.{word_bytes}
use Rattle.m11_obj.specs.declared.relocations.Relocation.{Relocation}
use Rattle.m11_obj.specs.declared.relocations.Target.{Target}
use Rattle.m11_obj.specs.declared.relocations.Target.TheVariants as target
use Rattle.m11_link_modules.specs.Parts.{Part}
use Rattle.m11_link_modules.specs.Rules.{lies_within}
use Rattle.m11_link_text.specs.Findings.{Findings}
use Rattle.m11_link_text.specs.Relocation.{following, less, modulo, replaced, stored_bytes, symbol, value_bytes, value_of}
use Rattle.m11_link.specs.Written.{PlacedText, placed_text, with_relocation, with_relocations}
use Rattle.m11_link_laws.specs.Moving.{all_stay, bytes_moved, global_moves, is_alike, is_displaced, moved, moves, number_moved, relocation_moved, relocations_moved, stores_limits, target_moves, target_stays, text_moved, text_position, value_moved}
use Rattle.m11_link_laws.proofs.MovingNumbers.{displacement_moved, low_moved, plain_moved, sum_moved}

module _ (distance : ℕ) (parts : List Part) (near far : Findings)
    (base : (index : ℕ) (name : ℕ × ℕ)
    → far.base index name ≡ moved distance (moves parts index name) (near.base index name))
    (symbols : (name : ℕ × ℕ) → symbol far name ≡ moved distance (global_moves parts name) (symbol near name))
    (bottom : far.bottom ≡ near.bottom + distance) (top : far.top ≡ near.top + distance) where
  -- ---- addresses of targets, and a constant after them

  added : (constant here there : ℕ) (b : Bool) → there ≡ moved distance b here
      → modulo (there + constant) ≡ moved distance b (modulo (here + constant))
  added constant here there b e = ap (λ n. modulo (n + constant)) e ∙ sum_moved distance here constant b

  displaced : (location here there : ℕ) (b c : Bool) → there ≡ moved distance b here
      → less there (following (moved distance c location)) ≡ number_moved 65536 distance b c (less here (following location))
  displaced location here there b c e =
      ap (λ n. less n (following (moved distance c location))) e ∙ displacement_moved distance here location b c

  plain : (here there : ℕ) (b : Bool) → there ≡ moved distance b here → there ≡ number_moved 65536 distance b false here
  plain here there b e = e ∙ plain_moved distance here b

  pub value_far : (index own location : ℕ) (does_move : Bool) (t : Target)
      → value_of far index (moved distance does_move own) (moved distance does_move location) t
      ≡ value_moved distance parts near (text_position index own location does_move) t
  value_far index own location does_move (target.Internal constant) =
      plain (modulo (own + constant)) (modulo (moved distance does_move own + constant)) does_move
      (added constant own (moved distance does_move own) does_move refl)
  value_far index own location does_move (target.Global name) =
      plain (symbol near name) (symbol far name) (global_moves parts name) (symbols name)
  value_far index own location does_move (target.InternalDisplaced constant) =
      displaced location constant constant false does_move refl
  value_far index own location does_move (target.GlobalDisplaced name) =
      displaced location (symbol near name) (symbol far name) (global_moves parts name) does_move (symbols name)
  value_far index own location does_move (target.GlobalAdditive name constant) =
      plain (modulo (symbol near name + constant)) (modulo (symbol far name + constant)) (global_moves parts name)
      (added constant (symbol near name) (symbol far name) (global_moves parts name) (symbols name))
  value_far index own location does_move (target.GlobalAdditiveDisplaced name constant) =
      displaced location (modulo (symbol near name + constant)) (modulo (symbol far name + constant))
      (global_moves parts name) does_move
      (added constant (symbol near name) (symbol far name) (global_moves parts name) (symbols name))
  value_far index own location does_move (target.Section name) =
      plain (near.base index name) (far.base index name) (moves parts index name) (base index name)
  value_far index own location does_move (target.SectionDisplaced name) =
      displaced location (near.base index name) (far.base index name) (moves parts index name) does_move
      (base index name)
  value_far index own location does_move (target.SectionAdditive name constant) =
      plain (modulo (near.base index name + constant)) (modulo (far.base index name + constant))
      (moves parts index name)
      (added constant (near.base index name) (far.base index name) (moves parts index name) (base index name))
  value_far index own location does_move (target.SectionAdditiveDisplaced name constant) =
      displaced location (modulo (near.base index name + constant)) (modulo (far.base index name + constant))
      (moves parts index name) does_move
      (added constant (near.base index name) (far.base index name) (moves parts index name) (base index name))
  value_far index own location does_move (target.LocationCounterDefinition name constant) = refl
  value_far index own location does_move (target.LocationCounterModification constant) = refl
  value_far index own location does_move target.ProgramLimits = refl

  -- ---- bytes

  pub bytes_far : (index own location : ℕ) (does_move is_byte : Bool) (t : Target)
      → stored_bytes far index (moved distance does_move own) (moved distance does_move location) is_byte t
      ≡ bytes_moved distance parts near (text_position index own location does_move) is_byte t
  bytes_far index own location does_move is_byte target.ProgramLimits =
      ap₂ (λ low high. word_bytes low ++ word_bytes high) bottom top
  bytes_far index own location does_move is_byte (target.LocationCounterDefinition name constant) = refl
  bytes_far index own location does_move is_byte (target.LocationCounterModification constant) = refl
  bytes_far index own location does_move is_byte (target.Internal constant) =
      ap (λ v. value_bytes is_byte v) (value_far index own location does_move (target.Internal constant))
  bytes_far index own location does_move is_byte (target.Global name) =
      ap (λ v. value_bytes is_byte v) (value_far index own location does_move (target.Global name))
  bytes_far index own location does_move is_byte (target.InternalDisplaced constant) =
      ap (λ v. value_bytes is_byte v) (value_far index own location does_move (target.InternalDisplaced constant))
  bytes_far index own location does_move is_byte (target.GlobalDisplaced name) =
      ap (λ v. value_bytes is_byte v) (value_far index own location does_move (target.GlobalDisplaced name))
  bytes_far index own location does_move is_byte (target.GlobalAdditive name constant) =
      ap (λ v. value_bytes is_byte v) (value_far index own location does_move (target.GlobalAdditive name constant))
  bytes_far index own location does_move is_byte (target.GlobalAdditiveDisplaced name constant) =
      ap (λ v. value_bytes is_byte v)
      (value_far index own location does_move (target.GlobalAdditiveDisplaced name constant))
  bytes_far index own location does_move is_byte (target.Section name) =
      ap (λ v. value_bytes is_byte v) (value_far index own location does_move (target.Section name))
  bytes_far index own location does_move is_byte (target.SectionDisplaced name) =
      ap (λ v. value_bytes is_byte v) (value_far index own location does_move (target.SectionDisplaced name))
  bytes_far index own location does_move is_byte (target.SectionAdditive name constant) =
      ap (λ v. value_bytes is_byte v) (value_far index own location does_move (target.SectionAdditive name constant))
  bytes_far index own location does_move is_byte (target.SectionAdditiveDisplaced name constant) =
      ap (λ v. value_bytes is_byte v)
      (value_far index own location does_move (target.SectionAdditiveDisplaced name constant))

  -- ---- texts

  pub placed_far : (index : ℕ) (section : ℕ × ℕ) (address : ℕ) (bytes : List ℕ)
      → placed_text far index section address bytes
      ≡ text_moved distance (moves parts index section) (placed_text near index section address bytes)
  placed_far index section address bytes =
      ap₂ (λ base address. let text : PlacedText = record {
        module_index = index;
        base = base;
        address = address;
        bytes = bytes;
      } in text) (base index section)
      (added address (near.base index section) (far.base index section) (moves parts index section)
      (base index section))

  relocation_far : (does_move : Bool) (text : PlacedText) (relocation : Relocation)
      → with_relocation far (text_moved distance does_move text) relocation
      ≡ text_moved distance does_move (relocation_moved distance parts near does_move text relocation)
  relocation_far does_move text relocation =
      let index = relocation.displacement - 4 in
      let there = text_moved distance does_move text in
      let stored = λ (bytes : List ℕ). let after : PlacedText = record there {
        bytes = if lies_within relocation (length text.bytes) then replaced text.bytes index bytes else text.bytes;
      } in after in
      ap (λ location. stored
      (stored_bytes far text.module_index there.base location relocation.is_byte relocation.target))
      (sum_moved distance text.address index does_move)
      ∙ ap stored (bytes_far text.module_index text.base (modulo (text.address + index)) does_move relocation.is_byte
      relocation.target)

  pub relocations_far : (does_move : Bool) (text : PlacedText) (relocations : List Relocation)
      → with_relocations far (text_moved distance does_move text) relocations
      ≡ text_moved distance does_move (relocations_moved distance parts near does_move text relocations)
  relocations_far does_move text [] = refl
  relocations_far does_move text (relocation ∷ relocations) =
      ap (λ text. with_relocations far text relocations) (relocation_far does_move text relocation)
      ∙ relocations_far does_move (relocation_moved distance parts near does_move text relocation) relocations

-- ---- low bytes

low_byte : (distance value : ℕ) (b c : Bool)
    → value_bytes true (number_moved 65536 distance b c value)
    ≡ map (number_moved 256 distance b c) (value_bytes true value)
low_byte distance value b c = ap (λ n. n ∷ []) (low_moved distance value b c)

low_at : (distance : ℕ) (parts : List Part) (near : Findings) (index own location : ℕ) (does_move : Bool) (t : Target)
    → value_bytes true (value_moved distance parts near (text_position index own location does_move) t)
    ≡ map (number_moved 256 distance (target_moves parts index does_move t) (is_displaced t && does_move))
    (value_bytes true (value_of near index own location t))
low_at distance parts near index own location does_move t =
    low_byte distance (value_of near index own location t) (target_moves parts index does_move t)
    (is_displaced t && does_move)

pub low_bytes : (distance : ℕ) (parts : List Part) (near : Findings) (index own location : ℕ) (does_move : Bool)
    (t : Target) → stores_limits t ≡ false
    → bytes_moved distance parts near (text_position index own location does_move) true t
    ≡ map (number_moved 256 distance (target_moves parts index does_move t) (is_displaced t && does_move))
    (stored_bytes near index own location true t)
low_bytes distance parts near index own location does_move target.ProgramLimits e = absurd (true≢false e)
low_bytes distance parts near index own location does_move (target.LocationCounterDefinition name constant) e = refl
low_bytes distance parts near index own location does_move (target.LocationCounterModification constant) e = refl
low_bytes distance parts near index own location does_move (target.Internal constant) e =
    low_at distance parts near index own location does_move (target.Internal constant)
low_bytes distance parts near index own location does_move (target.Global name) e =
    low_at distance parts near index own location does_move (target.Global name)
low_bytes distance parts near index own location does_move (target.InternalDisplaced constant) e =
    low_at distance parts near index own location does_move (target.InternalDisplaced constant)
low_bytes distance parts near index own location does_move (target.GlobalDisplaced name) e =
    low_at distance parts near index own location does_move (target.GlobalDisplaced name)
low_bytes distance parts near index own location does_move (target.GlobalAdditive name constant) e =
    low_at distance parts near index own location does_move (target.GlobalAdditive name constant)
low_bytes distance parts near index own location does_move (target.GlobalAdditiveDisplaced name constant) e =
    low_at distance parts near index own location does_move (target.GlobalAdditiveDisplaced name constant)
low_bytes distance parts near index own location does_move (target.Section name) e =
    low_at distance parts near index own location does_move (target.Section name)
low_bytes distance parts near index own location does_move (target.SectionDisplaced name) e =
    low_at distance parts near index own location does_move (target.SectionDisplaced name)
low_bytes distance parts near index own location does_move (target.SectionAdditive name constant) e =
    low_at distance parts near index own location does_move (target.SectionAdditive name constant)
low_bytes distance parts near index own location does_move (target.SectionAdditiveDisplaced name constant) e =
    low_at distance parts near index own location does_move (target.SectionAdditiveDisplaced name constant)

-- ---- values that stay

pub both : (b c : Bool) → (b && c) ≡ true → (b ≡ true) × (c ≡ true)
both true c e = (refl, e)
both false c e = absurd (true≢false (sym e))

alike_stays : (distance value : ℕ) (b c : Bool) → is_alike b c ≡ true → number_moved 65536 distance b c value ≡ value
alike_stays distance value true true e = refl
alike_stays distance value true false e = absurd (true≢false (sym e))
alike_stays distance value false true e = absurd (true≢false (sym e))
alike_stays distance value false false e = refl

module _ (distance : ℕ) (parts : List Part) (near : Findings) where
  value_stays : (index own location : ℕ) (does_move is_byte : Bool) (t : Target)
      → is_alike (target_moves parts index does_move t) (is_displaced t && does_move) ≡ true
      → value_bytes is_byte (value_moved distance parts near (text_position index own location does_move) t)
      ≡ value_bytes is_byte (value_of near index own location t)
  value_stays index own location does_move is_byte t e =
      ap (λ v. value_bytes is_byte v) (alike_stays distance (value_of near index own location t)
      (target_moves parts index does_move t) (is_displaced t && does_move) e)

  pub bytes_stay : (index own location : ℕ) (does_move is_byte : Bool) (t : Target)
      → target_stays parts index does_move t ≡ true
      → bytes_moved distance parts near (text_position index own location does_move) is_byte t
      ≡ stored_bytes near index own location is_byte t
  bytes_stay index own location does_move is_byte target.ProgramLimits e = absurd (true≢false (sym e))
  bytes_stay index own location does_move is_byte (target.LocationCounterDefinition name constant) e = refl
  bytes_stay index own location does_move is_byte (target.LocationCounterModification constant) e = refl
  bytes_stay index own location does_move is_byte (target.Internal constant) e =
      value_stays index own location does_move is_byte (target.Internal constant) e
  bytes_stay index own location does_move is_byte (target.Global name) e =
      value_stays index own location does_move is_byte (target.Global name) e
  bytes_stay index own location does_move is_byte (target.InternalDisplaced constant) e =
      value_stays index own location does_move is_byte (target.InternalDisplaced constant) e
  bytes_stay index own location does_move is_byte (target.GlobalDisplaced name) e =
      value_stays index own location does_move is_byte (target.GlobalDisplaced name) e
  bytes_stay index own location does_move is_byte (target.GlobalAdditive name constant) e =
      value_stays index own location does_move is_byte (target.GlobalAdditive name constant) e
  bytes_stay index own location does_move is_byte (target.GlobalAdditiveDisplaced name constant) e =
      value_stays index own location does_move is_byte (target.GlobalAdditiveDisplaced name constant) e
  bytes_stay index own location does_move is_byte (target.Section name) e =
      value_stays index own location does_move is_byte (target.Section name) e
  bytes_stay index own location does_move is_byte (target.SectionDisplaced name) e =
      value_stays index own location does_move is_byte (target.SectionDisplaced name) e
  bytes_stay index own location does_move is_byte (target.SectionAdditive name constant) e =
      value_stays index own location does_move is_byte (target.SectionAdditive name constant) e
  bytes_stay index own location does_move is_byte (target.SectionAdditiveDisplaced name constant) e =
      value_stays index own location does_move is_byte (target.SectionAdditiveDisplaced name constant) e

  relocation_stays : (does_move : Bool) (text : PlacedText) (relocation : Relocation)
      → target_stays parts text.module_index does_move relocation.target ≡ true
      → relocation_moved distance parts near does_move text relocation ≡ with_relocation near text relocation
  relocation_stays does_move text relocation e =
      let index = relocation.displacement - 4 in
      ap (λ bytes. let after : PlacedText = record text {
        bytes = if lies_within relocation (length text.bytes) then replaced text.bytes index bytes else text.bytes;
      } in after) (bytes_stay text.module_index text.base (modulo (text.address + index)) does_move relocation.is_byte
      relocation.target e)

  pub relocations_stay : (does_move : Bool) (text : PlacedText) (relocations : List Relocation)
      → all_stay parts text.module_index does_move relocations ≡ true
      → relocations_moved distance parts near does_move text relocations ≡ with_relocations near text relocations
  relocations_stay does_move text [] e = refl
  relocations_stay does_move text (relocation ∷ relocations) e =
      let h = both (target_stays parts text.module_index does_move relocation.target)
      (all_stay parts text.module_index does_move relocations) e in
      ap (λ text. relocations_moved distance parts near does_move text relocations)
      (relocation_stays does_move text relocation h.0)
      ∙ relocations_stay does_move (with_relocation near text relocation) relocations h.1
