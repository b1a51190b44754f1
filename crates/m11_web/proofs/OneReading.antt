-- A request has one reading.
use Rattle.std.proofs.Common.{◌≡◌, ℕ, ◌<◌, ◌^◌, List, [], ◌∷◌, ◌++◌, length, refl, sym, ap, ◌∙◌, subst, arith, append_assoc}
use Rattle.std.proofs.lemmas.Nat.{from_le_bytes-to_le_bytes_4}
use Rattle.std.specs.Int.{from_le_bytes, to_le_bytes, w32}
use Rattle.m11_base.specs.Devices.{Bytes}
use Rattle.m11_base_files.specs.declared.memory_files.MemoryFile.{MemoryFile}
use Rattle.m11_web.specs.Blocks.{AreBlocks, block}
use Rattle.m11_web.specs.Requests.{IsRequest, parts}

-- equal lists, split at equal lengths
split_same : (a b rest rest' : List ℕ) → length a ≡ length b → a ++ rest ≡ b ++ rest' → (a ≡ b) × (rest ≡ rest')
split_same [] [] rest rest' l e = (refl, e)
split_same [] (y ∷ b) rest rest' l e = absurd (omega arith)
split_same (x ∷ a) [] rest rest' l e = absurd (omega arith)
split_same (x ∷ a) (y ∷ b) rest rest' l e =
    let following : a ++ rest ≡ b ++ rest' = cc in
    let more = split_same a b rest rest' (omega arith) following in
    (cc, more.1)

-- bytes begin with one block at most
block_one : (x y rest rest' : Bytes) → length x < 2 ^ 32 → length y < 2 ^ 32 → block x ++ rest ≡ block y ++ rest'
    → (x ≡ y) × (rest ≡ rest')
block_one x y rest rest' s s' e =
    let four : Bytes = to_le_bytes w32 (length x) in
    let four' : Bytes = to_le_bytes w32 (length y) in
    let whole : four ++ (x ++ rest) ≡ four' ++ (y ++ rest') =
    sym (append_assoc four x rest) ∙ e ∙ append_assoc four' y rest' in
    let parted = split_same four four' (x ++ rest) (y ++ rest') refl whole in
    let long : length x ≡ length y =
    sym (from_le_bytes-to_le_bytes_4 (length x) s) ∙ ap (from_le_bytes w32) parted.0 ∙ from_le_bytes-to_le_bytes_4 (length y) s' in
    split_same x y rest rest' long parted.1

nothing : (x rest : Bytes) → [] ≡ block x ++ rest → ⊥
nothing x rest e = absurd (omega (arith, ap length e))

blocks_one : (first second : List Bytes) (bytes : Bytes) → AreBlocks first bytes → AreBlocks second bytes → first ≡ second
blocks_one [] [] bytes h k = refl
blocks_one [] (y ∷ second) bytes h k = let e : [] ≡ block y ++ k.0 = sym h ∙ k.1.1 in absurd (nothing y k.0 e)
blocks_one (x ∷ first) [] bytes h k = let e : [] ≡ block x ++ h.0 = sym k ∙ h.1.1 in absurd (nothing x h.0 e)
blocks_one (x ∷ first) (y ∷ second) bytes h k =
    let one = block_one x y h.0 k.0 h.1.0 k.1.0 (sym h.1.1 ∙ k.1.1) in
    let more = blocks_one first second k.0 (subst (AreBlocks first) one.1 h.2) k.2 in
    cc

pub reading_one : (words words' : List Bytes) (files files' : List MemoryFile) (input input' request : Bytes)
    → IsRequest words files input request → IsRequest words' files' input' request
    → (words ≡ words') × (parts files ≡ parts files') × (input ≡ input')
reading_one words words' files files' input input' request r r' =
    let three = blocks_one (r.0 ∷ r.1 ∷ input ∷ []) (r'.0 ∷ r'.1 ∷ input' ∷ []) request r.2 r'.2 in
    let line : r.0 ≡ r'.0 = cc in
    let shelf : r.1 ≡ r'.1 = cc in
    let same : input ≡ input' = cc in (
      blocks_one words words' r'.0 (subst (AreBlocks words) line r.3) r'.3,
      blocks_one (parts files) (parts files') r'.1 (subst (AreBlocks (parts files)) shelf r.4) r'.4,
      same,
    )
