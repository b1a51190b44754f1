-- What a relocation stores in a text.
use Rattle.std.proofs.Common.{◌≡◌, ◌∙◌, ℕ, ◌+◌, ◌-◌, ◌≤◌, min, Bool, true, false, ◌&&◌, if◌then◌else◌, List, [], ◌++◌, length, take, drop, take-append-drop, append-nil, Option, Some, None, refl, sym, ap, ap₂, subst, arith, length-append, length-drop, length-take}
use Rattle.std.specs.Prelude.{nat_le}
use Rattle.std.proofs.lemmas.Bool.{le-leb, leb-true}
use Rattle.std.proofs.lemmas.List.{drop-take, length-take-le, take-take}
use Rattle.std.proofs.Math.Seq.{take-append-add}
use Rattle.m11_obj.specs.declared.relocations.Relocation.{Relocation}
use Rattle.m11_obj.specs.declared.relocations.Target.{Target}
use Rattle.m11_obj.specs.declared.relocations.Target.TheVariants as target
use Rattle.m11_link_modules.specs.Rules.{lies_within, width_of}
use Rattle.m11_link_modules.specs.TextRelocation.{InText, stored_by}
use Rattle.m11_link_text.specs.Findings.{Findings}
use Rattle.m11_link_text.specs.Relocation.{modulo, relocated, replaced, stored_bytes, value_bytes, value_of}

-- ---- a relocation stores no more bytes than its width

value_width : (width : Bool → ℕ) → width true ≡ 1 → width false ≡ 2 → (is_byte : Bool) (value : ℕ)
    → length (value_bytes is_byte value) ≤ width is_byte
value_width width e f true value = subst (λ n. 1 ≤ n) (sym e) (omega arith)
value_width width e f false value = subst (λ n. 2 ≤ n) (sym f) (omega arith)

nothing_within : (width : ℕ) → 0 ≤ width
nothing_within width = omega arith

pub stored_width : (near : Findings) (index own location : ℕ) (is_byte : Bool) (t : Target)
    → length (stored_bytes near index own location is_byte t) ≤ width_of is_byte t
stored_width near index own location is_byte target.ProgramLimits = omega arith
stored_width near index own location is_byte (target.LocationCounterDefinition name constant) =
    nothing_within (width_of is_byte (target.LocationCounterDefinition name constant))
stored_width near index own location is_byte (target.LocationCounterModification constant) =
    nothing_within (width_of is_byte (target.LocationCounterModification constant))
stored_width near index own location is_byte (target.Internal constant) =
    value_width (λ b. width_of b (target.Internal constant)) refl refl is_byte
    (value_of near index own location (target.Internal constant))
stored_width near index own location is_byte (target.Global name) =
    value_width (λ b. width_of b (target.Global name)) refl refl is_byte
    (value_of near index own location (target.Global name))
stored_width near index own location is_byte (target.InternalDisplaced constant) =
    value_width (λ b. width_of b (target.InternalDisplaced constant)) refl refl is_byte
    (value_of near index own location (target.InternalDisplaced constant))
stored_width near index own location is_byte (target.GlobalDisplaced name) =
    value_width (λ b. width_of b (target.GlobalDisplaced name)) refl refl is_byte
    (value_of near index own location (target.GlobalDisplaced name))
stored_width near index own location is_byte (target.GlobalAdditive name constant) =
    value_width (λ b. width_of b (target.GlobalAdditive name constant)) refl refl is_byte
    (value_of near index own location (target.GlobalAdditive name constant))
stored_width near index own location is_byte (target.GlobalAdditiveDisplaced name constant) =
    value_width (λ b. width_of b (target.GlobalAdditiveDisplaced name constant)) refl refl is_byte
    (value_of near index own location (target.GlobalAdditiveDisplaced name constant))
stored_width near index own location is_byte (target.Section name) =
    value_width (λ b. width_of b (target.Section name)) refl refl is_byte
    (value_of near index own location (target.Section name))
stored_width near index own location is_byte (target.SectionDisplaced name) =
    value_width (λ b. width_of b (target.SectionDisplaced name)) refl refl is_byte
    (value_of near index own location (target.SectionDisplaced name))
stored_width near index own location is_byte (target.SectionAdditive name constant) =
    value_width (λ b. width_of b (target.SectionAdditive name constant)) refl refl is_byte
    (value_of near index own location (target.SectionAdditive name constant))
stored_width near index own location is_byte (target.SectionAdditiveDisplaced name constant) =
    value_width (λ b. width_of b (target.SectionAdditiveDisplaced name constant)) refl refl is_byte
    (value_of near index own location (target.SectionAdditiveDisplaced name constant))

-- a relocation is at most four bytes wide
pub width_small : (is_byte : Bool) (t : Target) → width_of is_byte t ≤ 4
width_small is_byte target.ProgramLimits = omega arith
width_small true (target.Internal constant) = omega arith
width_small false (target.Internal constant) = omega arith
width_small true other = omega arith
width_small false other = omega arith

-- ---- a relocation that stores nothing changes no text

none_replaced : (text : List ℕ) (index : ℕ) → replaced text index [] ≡ text
none_replaced text index =
    ap (λ n. (take index text ++ []) ++ drop n text) (add_zero index)
    ∙ ap (λ xs. xs ++ drop index text) (append-nil (take index text))
    ∙ take-append-drop index text
  where
    add_zero : (n : ℕ) → n + 0 ≡ n
    add_zero n = omega arith

same_either : (b : Bool) (one other : List ℕ) → one ≡ other → (if b then one else other) ≡ other
same_either true one other e = e
same_either false one other e = refl

pub none_relocated : (found : Findings) (module_index own address : ℕ) (relocation : Relocation) (text : List ℕ)
    → stored_bytes found module_index own (modulo (address + (relocation.displacement - 4))) relocation.is_byte
    relocation.target ≡ []
    → relocated found module_index own address relocation text ≡ text
none_relocated found module_index own address relocation text e =
    let index = relocation.displacement - 4 in
    ap (λ bytes. if lies_within relocation (length text) then replaced text index bytes else text) e
    ∙ same_either (lies_within relocation (length text)) (replaced text index []) text (none_replaced text index)

pub nothing_stored : (found : Findings) (module_index own location count : ℕ) (is_byte : Bool) (relocation : Relocation)
    (t : Target) → ◌≡◌ {A = Option InText} (stored_by t relocation (Some count)) None
    → stored_bytes found module_index own location is_byte t ≡ []
nothing_stored found module_index own location count is_byte relocation (target.LocationCounterDefinition name constant) e = refl
nothing_stored found module_index own location count is_byte relocation (target.LocationCounterModification constant) e = refl
nothing_stored found module_index own location count is_byte relocation other e = absurd cc

-- ---- a text keeps its length

pub replaced_is : (text bytes : List ℕ) (index : ℕ)
    → length (replaced text index bytes)
    ≡ min index (length text) + length bytes + (length text - (index + length bytes))
replaced_is text bytes index = simp (length-append, length-take, length-drop) refl

both_true : (a b : Bool) → (a && b) ≡ true → (a ≡ true) × (b ≡ true)
both_true true b e = (refl, e)
both_true false b e = absurd cc

-- a relocation lies within a text of `count` bytes
record Place (relocation : Relocation) (count : ℕ) : Type 0 where
  starts : 4 ≤ relocation.displacement
  ends : relocation.displacement + width_of relocation.is_byte relocation.target ≤ 4 + count

place_of : (relocation : Relocation) (count : ℕ) → lies_within relocation count ≡ true → Place relocation count
place_of relocation count e =
    let within = both_true (nat_le 4 relocation.displacement)
    (nat_le (relocation.displacement + width_of relocation.is_byte relocation.target) (4 + count)) e in
    record {
      starts = leb-true 4 relocation.displacement within.0;
      ends = leb-true (relocation.displacement + width_of relocation.is_byte relocation.target) (4 + count) within.1;
    }

size_within : (text bytes : List ℕ) (displacement width : ℕ) → 4 ≤ displacement → displacement + width ≤ 4 + length text
    → length bytes ≤ width → length (replaced text (displacement - 4) bytes) ≡ length text
size_within text bytes displacement width least most le =
    let index : ℕ = displacement - 4 in
    let start : index ≤ length text = omega (arith, least, most) in
    replaced_is text bytes index ∙ omega (arith, least, most, le)

pub size_kept : (found : Findings) (module_index own address : ℕ) (relocation : Relocation) (text : List ℕ) (b : Bool)
    → lies_within relocation (length text) ≡ b
    → length (relocated found module_index own address relocation text) ≡ length text
size_kept found module_index own address relocation text true e =
    let index : ℕ = relocation.displacement - 4 in
    let stored = stored_bytes found module_index own (modulo (address + index)) relocation.is_byte relocation.target in
    let place = place_of relocation (length text) e in
    ap (λ (c : Bool). length (if c then replaced text index stored else text)) e
    ∙ size_within text stored relocation.displacement (width_of relocation.is_byte relocation.target)
    place.starts place.ends
    (stored_width found module_index own (modulo (address + index)) relocation.is_byte relocation.target)
size_kept found module_index own address relocation text false e =
    let index : ℕ = relocation.displacement - 4 in
    let stored = stored_bytes found module_index own (modulo (address + index)) relocation.is_byte relocation.target in
    ap (λ (c : Bool). length (if c then replaced text index stored else text)) e

-- ---- a relocation that lies within a text of some length

lies : (r : Relocation) (n : ℕ) → 4 ≤ r.displacement → r.displacement + width_of r.is_byte r.target ≤ 4 + n → lies_within r n ≡ true
lies r n least most =
    ap₂ (λ a b. a && b) (le-leb 4 r.displacement least) (le-leb (r.displacement + width_of r.is_byte r.target) (4 + n) most)

-- if a relocation lies within a text of `count` bytes, it ends within the first `n` bytes for any `n` of at least `count`
pub judged_fits : (relocation : Relocation) (count n : ℕ) → lies_within relocation count ≡ true → count ≤ n
    → relocation.displacement - 4 + width_of relocation.is_byte relocation.target ≤ n
judged_fits relocation count n e le =
    let place = place_of relocation count e in omega (arith, place.starts, place.ends, le)

-- if a relocation lies within a text of `count` bytes, its bytes are stored in any text of at least that length
pub judged_is_stored : (found : Findings) (module_index own address count : ℕ) (relocation : Relocation) (text : List ℕ)
    → lies_within relocation count ≡ true → count ≤ length text
    → replaced text (relocation.displacement - 4) (stored_bytes found module_index own
    (modulo (address + (relocation.displacement - 4))) relocation.is_byte relocation.target)
    ≡ relocated found module_index own address relocation text
judged_is_stored found module_index own address count relocation text e le =
    let index : ℕ = relocation.displacement - 4 in
    let stored = stored_bytes found module_index own (modulo (address + index)) relocation.is_byte relocation.target in
    let place = place_of relocation count e in
    ap (λ (c : Bool). if c then replaced text index stored else text)
    (sym (lies relocation (length text) place.starts (omega (arith, place.ends, le))))
