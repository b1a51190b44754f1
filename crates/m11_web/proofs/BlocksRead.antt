-- Blocks, read one after another and put one after another.
use Rattle.std.proofs.Common.{◌≡◌, ℕ, ◌+◌, ◌<◌, List, [], ◌∷◌, ◌++◌, length, map, take, get_or, refl, sym, ap, ◌∙◌, subst, arith, append_assoc, unwrap_or}
use Rattle.std.specs.Prelude.{string_bytes}
use Rattle.std.proofs.lemmas.List.{append-nil, map-append, take_more}
use Rattle.m11_base.specs.Devices.{Bytes}
use Rattle.m11_base_files.specs.MemoryFiles.{made_of}
use Rattle.m11_base_files.specs.Opens.{CreatedFile}
use Rattle.m11_base_files.specs.declared.memory_files.MadeFile.{MadeFile}
use Rattle.m11_base_files.specs.declared.memory_files.MemoryFile.{MemoryFile}
use Rattle.m11_web.specs.Answers.{made_parts}
use Rattle.m11_web.specs.Blocks.{AreBlocks, BeginsWithBlock, PutsBlock, block}
use Rattle.m11_web.specs.Requests.{parts}

-- whatever blocks the rest is, the bytes are these blocks and then those
abbrev pub GoesOn : List Bytes → Bytes → Bytes → Type 0
GoesOn blocks rest bytes = (more : List Bytes) → AreBlocks more rest → AreBlocks (blocks ++ more) bytes

none_left : (rest : Bytes) → length rest ≡ 0 → rest ≡ []
none_left [] e = refl
none_left (x ∷ xs) e = absurd (omega arith)

pub ends : (blocks : List Bytes) (rest bytes : Bytes) → GoesOn blocks rest bytes → length rest ≡ 0 → AreBlocks blocks bytes
ends blocks rest bytes i e =
    subst (λ (l : List Bytes). AreBlocks l bytes) (append-nil blocks) (i [] (none_left rest e))

parts_joined : (files : List MemoryFile) (file : MemoryFile) (more : List Bytes)
    → parts (files ++ file ∷ []) ++ more ≡ parts files ++ (string_bytes file.path ∷ file.bytes.items ∷ more)
parts_joined [] file more = refl
parts_joined (first ∷ files) file more =
    ap (λ (l : List Bytes). string_bytes first.path ∷ first.bytes.items ∷ l) (parts_joined files file more)

-- one more file was read
pub file_read : (files files' : List MemoryFile) (file : MemoryFile) (path contents rest middle following bytes : Bytes)
    → GoesOn (parts files) rest bytes → BeginsWithBlock rest path middle → BeginsWithBlock middle contents following
    → string_bytes file.path ≡ path → file.bytes.items ≡ contents → files' ≡ files ++ file ∷ [] → GoesOn (parts files') following bytes
file_read files files' file path contents rest middle following bytes i first second p b e more h =
    let all = i (path ∷ contents ∷ more) (middle, first, (following, second, h)) in
    let joined : parts files' ++ more ≡ parts files ++ (path ∷ contents ∷ more) =
    ap (λ (l : List MemoryFile). parts l ++ more) e ∙ parts_joined files file more
    ∙ ap (λ (x : Bytes). parts files ++ (x ∷ file.bytes.items ∷ more)) p
    ∙ ap (λ (x : Bytes). parts files ++ (path ∷ x ∷ more)) b in
    subst (λ (l : List Bytes). AreBlocks l bytes) (sym joined) all

-- one more block was put
pub put_last : (blocks : List Bytes) (old new bytes : Bytes) → AreBlocks blocks old → PutsBlock old new bytes
    → AreBlocks (blocks ++ bytes ∷ []) new
put_last [] old new bytes h p =
    let e : new ≡ block bytes ++ [] = p.1 ∙ ap (λ (l : Bytes). l ++ block bytes) h ∙ sym (append-nil (block bytes)) in
    ([], (p.0, e), refl)
put_last (first ∷ blocks) old new bytes h p =
    let rest : Bytes = h.0 in
    let e : new ≡ block first ++ (rest ++ block bytes) =
    p.1 ∙ ap (λ (l : Bytes). l ++ block bytes) h.1.1 ∙ append_assoc (block first) rest (block bytes) in
    (rest ++ block bytes, (h.1.0, e), put_last blocks rest (rest ++ block bytes) bytes h.2 (p.0, refl))

made_joined : (files : List CreatedFile) (file : CreatedFile)
    → made_parts (files ++ file ∷ []) ≡ (made_parts files ++ file.path ∷ []) ++ unwrap_or file.kept [] ∷ []
made_joined [] file = refl
made_joined (first ∷ files) file =
    ap (λ (l : List Bytes). first.path ∷ unwrap_or first.kept [] ∷ l) (made_joined files file)

-- the blocks of one more file were put
pub file_put : (made : List MadeFile) (i : ℕ) (file : MadeFile) (old middle new path contents : Bytes) → i < length made
    → file ≡ get_or made i file → AreBlocks (made_parts (map made_of (take i made))) old → PutsBlock old middle path → PutsBlock middle new contents
    → path ≡ (made_of file).path → contents ≡ unwrap_or (made_of file).kept [] → AreBlocks (made_parts (map made_of (take (i + 1) made))) new
file_put made i file old middle new path contents lt at h first second p b =
    let front : List CreatedFile = map made_of (take i made) in
    let both = put_last _ middle new contents (put_last _ old middle path h first) second in
    let more : map made_of (take (i + 1) made) ≡ front ++ made_of file ∷ [] =
    ap (map made_of) (take_more made i file lt) ∙ map-append made_of (take i made) (get_or made i file ∷ [])
    ∙ ap (λ (f : MadeFile). front ++ made_of f ∷ []) (sym at) in
    let joined : made_parts (map made_of (take (i + 1) made)) ≡ (made_parts front ++ path ∷ []) ++ contents ∷ [] =
    ap made_parts more ∙ made_joined front (made_of file)
    ∙ ap (λ (x : Bytes). (made_parts front ++ x ∷ []) ++ unwrap_or (made_of file).kept [] ∷ []) (sym p)
    ∙ ap (λ (x : Bytes). (made_parts front ++ path ∷ []) ++ x ∷ []) (sym b) in
    subst (λ (l : List Bytes). AreBlocks l new) (sym joined) both
