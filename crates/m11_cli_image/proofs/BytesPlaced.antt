-- The bytes of a text, each at its address, are those of its pieces.
use Rattle.std.proofs.Common.{◌≡◌, ◌∙◌, ℕ, zero, suc, ◌+◌, ◌-◌, ◌<◌, ◌≤◌, ◌==◌, Bool, true, false, ◌&&◌, if◌then◌else◌, List, [], ◌∷◌, ◌++◌, length, map, take, Option, Some, None, refl, sym, ap, ap₂, subst, arith}
use Rattle.std.specs.Prelude.{nat_le, slice_get}
use Rattle.std.specs.List.{AllByRecursion}
use Rattle.std.specs.Option.{option_or}
use Rattle.std.proofs.lemmas.Bool.Decides.{nat_tests}
use Rattle.std.proofs.lemmas.List.{length-append}
use Rattle.m11_base.specs.Devices.{Bytes}
use Rattle.m11_base.specs.Rad50.{Name, is_same_name}
use Rattle.m11_base.proofs.SameNames.{same_name_equal}
use Rattle.m11_link_text.specs.Relocation.{modulo}
use Rattle.m11_obj.specs.declared.pieces.Piece.{Piece}
use Rattle.m11_obj.specs.declared.pieces.PieceContent.{PieceContent}
use Rattle.m11_obj.specs.declared.pieces.PieceContent.TheVariants.{Byte, Word, Limits}
use Rattle.m11_obj.specs.Fronts.{fronts_by, fronts_of, longest_front}
use Rattle.m11_obj.specs.Pieces.{content_bytes, last_location, size_of, text_bytes}
use Rattle.m11_obj.specs.Texts.{are_contiguous, cutting, follows, is_one_text}
use Rattle.m11_cpu_laws.specs.Image.{byte_of, byte_within}
use Rattle.m11_cli_image.specs.Addresses.{Addresses}
use Rattle.m11_cli_image.specs.Pieces.{Spot, bytes_at, bytes_from, laid, placed, spot}

-- ---- bytes one after another

pub none_last : {X : Type 0} (o : Option X) → option_or o None ≡ o
none_last None = refl
none_last (Some x) = refl

pub or_then : {X : Type 0} (a b c : Option X) → option_or (option_or a b) c ≡ option_or a (option_or b c)
or_then None b c = refl
or_then (Some x) b c = refl

pub nothing_within : (start address : ℕ) → byte_within (start, []) address ≡ None
nothing_within start address = by (nat_le start address)
  where
    by : (b : Bool) → (if b then slice_get {X = ℕ} [] (address - start) else None) ≡ None
    by true = refl
    by false = refl

-- an address is before the start of bytes, or at this distance after it
data Lies (start address : ℕ) : Type 0 where
  Before : nat_le start address ≡ false → nat_le (start + 1) address ≡ false → Lies start address
  After : (far : ℕ) → nat_le start address ≡ true → address - start ≡ far → nat_le (start + 1) address ≡ nat_le 1 far
      → address - (start + 1) ≡ far - 1 → Lies start address

lies : (start address : ℕ) (b : Bool) → nat_le start address ≡ b → Lies start address
lies start address true e =
    let more : nat_le (start + 1) address ≡ nat_le 1 (address - start) = grind (arith, nat_tests) in
    let less : address - (start + 1) ≡ address - start - 1 = omega arith in
    After (address - start) e refl more less
lies start address false e =
    let more : nat_le (start + 1) address ≡ false = grind (arith, nat_tests) in Before e more

within_at : (start address : ℕ) (bytes : Bytes) (b : Bool) (i : ℕ) → nat_le start address ≡ b → address - start ≡ i
    → byte_within (start, bytes) address ≡ (if b then slice_get bytes i else None)
within_at start address bytes b i e f = ap₂ (λ (c : Bool) (k : ℕ). if c then slice_get bytes k else None) e f

first_or : (far : ℕ) (byte : ℕ) (bytes : Bytes) → slice_get (byte ∷ bytes) far
    ≡ option_or (if nat_le 1 far then slice_get bytes (far - 1) else None) (slice_get (byte ∷ []) far)
first_or zero byte bytes = refl
first_or (suc far) byte bytes =
    let back : suc far - 1 ≡ far = omega arith in
    let yes : nat_le 1 (suc far) ≡ true = grind (arith, nat_tests) in
    sym (ap₂ (λ (b : Bool) (i : ℕ). option_or (if b then slice_get bytes i else None) (slice_get [] far)) yes back
    ∙ none_last (slice_get bytes far))

one_within : (start address byte : ℕ) (bytes : Bytes) → Lies start address → byte_within (start, byte ∷ bytes) address
    ≡ option_or (byte_within (start + 1, bytes) address) (byte_within (start, byte ∷ []) address)
one_within start address byte bytes (Before e f) =
    within_at start address (byte ∷ bytes) false (address - start) e refl
    ∙ sym (ap₂ option_or (within_at (start + 1) address bytes false (address - (start + 1)) f refl)
    (within_at start address (byte ∷ []) false (address - start) e refl))
one_within start address byte bytes (After far e f g h) =
    within_at start address (byte ∷ bytes) true far e f
    ∙ first_or far byte bytes
    ∙ sym (ap₂ option_or (within_at (start + 1) address bytes (nat_le 1 far) (far - 1) g h)
    (within_at start address (byte ∷ []) true far e f))

pub bytes_then : (start address : ℕ) (some more : Bytes) → byte_within (start, some ++ more) address
    ≡ option_or (byte_within (start + length some, more) address) (byte_within (start, some) address)
bytes_then start address [] more =
    let same : start ≡ start + 0 = omega arith in
    sym (ap (option_or (byte_within (start + 0, more) address)) (nothing_within start address)
    ∙ none_last (byte_within (start + 0, more) address) ∙ ap (λ (s : ℕ). byte_within (s, more) address) (sym same))
bytes_then start address (byte ∷ some) more =
    let far : start + 1 + length some ≡ start + length (byte ∷ some) = omega arith in
    let alone = byte_within (start, byte ∷ []) address in
    let l = lies start address (nat_le start address) refl in
    one_within start address byte (some ++ more) l
    ∙ ap (λ (o : Option ℕ). option_or o alone) (bytes_then (start + 1) address some more)
    ∙ or_then (byte_within (start + 1 + length some, more) address) (byte_within (start + 1, some) address) alone
    ∙ ap₂ (λ (s : ℕ) (o : Option ℕ). option_or (byte_within (s, more) address) o) far
    (sym (one_within start address byte some l))

pub blocks_then : (some more : List (ℕ × Bytes)) (address : ℕ)
    → byte_of (some ++ more) address ≡ option_or (byte_of more address) (byte_of some address)
blocks_then [] more address = sym (none_last (byte_of more address))
blocks_then (block ∷ some) more address =
    ap (λ (o : Option ℕ). option_or o (byte_within block address)) (blocks_then some more address)
    ∙ or_then (byte_of more address) (byte_of some address) (byte_within block address)

-- ---- pieces of one text

-- each piece begins where the one before it ends, the first at this location, and all are in one section
abbrev pub Runs : Name → ℕ → List Piece → Type 0
Runs section location [] = Unit {0}
Runs section location (piece ∷ pieces) =
    (piece.section ≡ section) × (piece.location ≡ location) × Runs section (location + size_of piece) pieces

pub some_bytes : (content : PieceContent) → 0 < length (content_bytes content)
some_bytes (Byte stored) = omega arith
some_bytes (Word stored) = omega arith
some_bytes Limits = omega arith

both : (b c : Bool) → (b && c) ≡ true → (b ≡ true) × (c ≡ true)
both true c e = (refl, e)
both false c e = absurd cc

same_number : (a b : ℕ) → (a == b) ≡ true → a ≡ b
same_number a b e = grind (arith, nat_tests)

runs_on : (first : Piece) (rest : List Piece) → are_contiguous first rest ≡ true
    → first.location + length (text_bytes (first ∷ rest)) ≤ 65536 → Runs first.section (first.location + size_of first) rest
runs_on first [] e le = tt
runs_on first (next ∷ rest) e le =
    let split = both (follows first next) (are_contiguous next rest) e in
    let here = both (is_same_name next.section first.section) (next.location == last_location first + 1) split.0 in
    let size = length-append (content_bytes first.content) (text_bytes (next ∷ rest)) in
    let some = some_bytes first.content in
    let some_next = some_bytes next.content in
    let size_next = length-append (content_bytes next.content) (text_bytes rest) in
    let same = same_number next.location (last_location first + 1) here.1 in
    let section = same_name_equal next.section first.section here.0 in
    let location : next.location ≡ first.location + size_of first = omega (arith, same, size, size_next, some, some_next, le) in
    let fits : next.location + length (text_bytes (next ∷ rest)) ≤ 65536 = omega (arith, location, size, le) in
    let more = runs_on next rest split.1 fits in
    let P : Name → ℕ → Type 0 = λ s p. Runs s (p + size_of next) rest in
    (section, location, subst (λ (p : ℕ). P first.section p) location (subst (λ (s : Name). P s next.location) section more))

pub runs_of : (first : Piece) (rest : List Piece) → are_contiguous first rest ≡ true
    → first.location + length (text_bytes (first ∷ rest)) ≤ 65536 → Runs first.section first.location (first ∷ rest)
runs_of first rest e le = (refl, refl, runs_on first rest e le)

module _ (program : Addresses) (index : ℕ) where
  as_long : (spot : Spot) (content : PieceContent) → length (bytes_at program spot content) ≡ length (content_bytes content)
  as_long spot (Byte stored) = refl
  as_long spot (Word stored) = refl
  as_long spot Limits = refl

  -- if no address of a text exceeds octal 177777, the text has at each address the byte of its pieces
  module _ (section : Name) (address : ℕ) where
    abbrev base : ℕ
    base = program.base index section

    below : (start size rest : ℕ) → 0 < size → start + (size + rest) ≤ 65536 → start ≡ modulo start
    below start size rest lt le = omega arith

    pub pieces_placed : (pieces : List Piece) (location : ℕ) → Runs section location pieces
        → base + (location + length (text_bytes pieces)) ≤ 65536
        → byte_within (base + location, bytes_from program index base (base + location) pieces) address
        ≡ byte_of (map (placed program index) pieces) address
    pieces_placed [] location r le = nothing_within (base + location) address
    pieces_placed (piece ∷ pieces) location r le =
        let start : ℕ = base + location in
        let here : Spot = spot index base start in
        let new : Bytes = bytes_at program here piece.content in
        let rest : Bytes = bytes_from program index base (start + size_of piece) pieces in
        let some = some_bytes piece.content in
        let size = length-append (content_bytes piece.content) (text_bytes pieces) in
        let fits : start + (size_of piece + length (text_bytes pieces)) ≤ 65536 = omega (arith, size, le) in
        let at : start ≡ modulo start = below start (size_of piece) (length (text_bytes pieces)) some fits in
        let far : start + length new ≡ base + (location + size_of piece) = omega (arith, as_long here piece.content) in
        let next : start + size_of piece ≡ base + (location + size_of piece) = omega arith in
        let more : base + (location + size_of piece + length (text_bytes pieces)) ≤ 65536 = omega (arith, fits) in
        let one : byte_within (start, new) address ≡ byte_within (placed program index piece) address =
        ap (λ (s : ℕ). byte_within (s, new) address) at
        ∙ ap (λ (p : ℕ). byte_within (laid program (spot index base (base + p)) piece.content) address) (sym r.1)
        ∙ ap (λ (s : Name). byte_within
        (laid program (spot index (program.base index s) (program.base index s + piece.location)) piece.content) address) (sym r.0) in
        bytes_then start address new rest
        ∙ ap₂ option_or
        (ap₂ (λ (s t : ℕ). byte_within (s, bytes_from program index base t pieces) address) far next
        ∙ pieces_placed pieces (location + size_of piece) r.2 more)
        one

-- ---- how pieces are cut into texts

-- each of these pieces begins where the one before it ends
abbrev pub IsRun : List Piece → Type 0
IsRun [] = Unit {0}
IsRun (first ∷ rest) = are_contiguous first rest ≡ true

one_run : (front : List Piece) → is_one_text front ≡ true → IsRun front
unfolding is_one_text
one_run [] e = tt
one_run (first ∷ rest) e = (both (are_contiguous first rest) _ e).0

longest_run : (most : ℕ) (pieces : List Piece) → IsRun (longest_front is_one_text most pieces)
longest_run zero pieces = tt
longest_run (suc most) pieces = by (is_one_text (take (suc most) pieces)) refl (longest_run most pieces)
  where
    by : (b : Bool) → is_one_text (take (suc most) pieces) ≡ b → IsRun (longest_front is_one_text most pieces)
        → IsRun (if b then take (suc most) pieces else longest_front is_one_text most pieces)
    by true e h = one_run (take (suc most) pieces) e
    by false e h = h

fronts_run : (most : ℕ) (pieces : List Piece) → AllByRecursion IsRun (fronts_by is_one_text most pieces)
fronts_run zero pieces = tt
fronts_run (suc most) [] = tt
fronts_run (suc most) (piece ∷ pieces) =
    (longest_run (length (piece ∷ pieces)) (piece ∷ pieces), fronts_run most _)

pub cutting_runs : (pieces : List Piece) → AllByRecursion IsRun (cutting pieces)
unfolding fronts_of
cutting_runs pieces = fronts_run (length pieces) pieces
