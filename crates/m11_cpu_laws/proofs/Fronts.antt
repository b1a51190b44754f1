-- The blocks read from a tape are the first of its blocks: a tape can be read in only one way.
use Rattle.std.proofs.Common.{◌≡◌, ◌∙◌, ℕ, ◌<◌, List, [], ◌∷◌, ◌++◌, length, take, drop, Ok, refl, sym, ap, subst, append_assoc, arith}
use Rattle.std.proofs.Math.Seq.{take-append_seam, drop-append_seam}
use Rattle.std.proofs.lemmas.List.{take_at}
use Rattle.m11_obj_blocks.specs.declared.tape_fault.TapeFault.{TapeFault}
use Rattle.m11_obj_blocks.specs.declared.tape_part.TapePart.{TapePart}
use Rattle.m11_obj_blocks.specs.declared.tape_part.TapePart.TheVariants.{Data, Start}
use Rattle.m11_obj_blocks.specs.Limited.{Read}
use Rattle.m11_obj_blocks.specs.Tapes.{AreRead, total_of, next_part, data_byte}
use Rattle.m11_obj_blocks.proofs.ReadSteps.{done, rest_is, value_is}
use Rattle.m11_cpu.specs.Loading.{Hold, part_after}

abbrev pub Reader : Type 0
Reader = List ℕ → Read TapeFault TapePart

abbrev pub Blocks : Type 0
Blocks = List (ℕ × List ℕ)

-- ---- equal parts

data_address : (x y m n : ℕ) → Data x m ≡ Data y n → x ≡ y
data_address x y m n e = cc

data_count : (x y m n : ℕ) → Data x m ≡ Data y n → m ≡ n
data_count x y m n e = cc

start_address : (x y : ℕ) → Start x ≡ Start y → x ≡ y
start_address x y e = cc

no_start : (x m y : ℕ) → Data x m ≡ Start y → ⊥
no_start x m y e = cc

-- if two lists are equal and are split at the same length, their parts are equal
same_front : (xs ys us vs : List ℕ) → length xs ≡ length us → xs ++ ys ≡ us ++ vs → (xs ≡ us) × (ys ≡ vs)
same_front xs ys us vs long e = (
  sym (take-append_seam xs ys) ∙ ap (λ (zs : List ℕ). take (length xs) zs) e ∙ take_at us vs (length xs) (sym long),
  sym (drop-append_seam xs ys) ∙ ap (λ (zs : List ℕ). drop (length xs) zs) e
      ∙ ap (λ (n : ℕ). drop n (us ++ vs)) long ∙ drop-append_seam us vs,
)

-- ---- reading a tape

pub something_read : (read : Reader) (blocks : Blocks) (start : ℕ) (bytes : List ℕ) → AreRead read blocks start bytes
    → (x : TapePart × List ℕ) × (read bytes ≡ Ok x)
something_read read [] start bytes h = ((Start start, h.0), h.1)
something_read read (block ∷ blocks) start bytes h = ((Data block.0 (length block.1), block.1 ++ h.0), h.1)

pub byte_read : (bytes : List ℕ) → 0 < length bytes → (x : ℕ × List ℕ) × (data_byte bytes ≡ Ok x)
byte_read [] some = absurd (omega arith)
byte_read (byte ∷ bytes) some = ((byte, bytes), refl)

-- if the transfer block is read, no block is left
pub at_start : (read : Reader) (blocks : Blocks) (start start' : ℕ) (bytes rest : List ℕ)
    → AreRead read blocks start bytes → read bytes ≡ Ok (Start start', rest) → (blocks ≡ []) × (start' ≡ start)
at_start read [] start start' bytes rest h e =
    (refl, start_address start' start (value_is {Fault = TapeFault} (Start start') (Start start) rest h.0 (sym e ∙ h.1)))
at_start read (block ∷ blocks) start start' bytes rest h e =
    absurd (no_start block.0 (length block.1) start'
    (value_is {Fault = TapeFault} (Data block.0 (length block.1)) (Start start') (block.1 ++ h.0) rest (sym h.1 ∙ e)))

-- if a header is read, there is a block, whose data follows
pub record Opened (blocks : Blocks) (start address count : ℕ) (rest : List ℕ) : Type 0 where
  pub content : List ℕ
  pub others : Blocks
  pub following : List ℕ
  pub blocks_are : blocks ≡ (address, content) ∷ others
  pub long : length content ≡ count
  pub split : rest ≡ content ++ following
  pub are_read : AreRead (next_part (total_of address content)) others start following

pub at_header : (read : Reader) (blocks : Blocks) (start address count : ℕ) (bytes rest : List ℕ)
    → AreRead read blocks start bytes → read bytes ≡ Ok (Data address count, rest)
    → Opened blocks start address count rest
at_header read [] start address count bytes rest h e =
    absurd (no_start address count start
    (value_is {Fault = TapeFault} (Data address count) (Start start) rest h.0 (sym e ∙ h.1)))
at_header read (block ∷ blocks) start address count bytes rest h e =
    let same : done {Fault = TapeFault} (Data block.0 (length block.1)) (block.1 ++ h.0) ≡ done (Data address count) rest
    = sym h.1 ∙ e in
    let part : Data block.0 (length block.1) ≡ Data address count =
    value_is (Data block.0 (length block.1)) (Data address count) (block.1 ++ h.0) rest same in
    let here : block.0 ≡ address = data_address block.0 address (length block.1) count part in
    record {
      content = block.1;
      others = blocks;
      following = h.0;
      blocks_are = ap (λ (a : ℕ). (a, block.1) ∷ blocks) here;
      long = data_count block.0 address (length block.1) count part;
      split = sym (rest_is (Data block.0 (length block.1)) (Data address count) (block.1 ++ h.0) rest same);
      are_read = subst (λ (a : ℕ). AreRead (next_part (total_of a block.1)) blocks start h.0) here h.2;
    }

-- ---- the blocks read so far

-- the blocks read are the first ones, and the others are read after them
pub record Front (read : Reader) (held blocks : Blocks) (start : ℕ) (left : List ℕ) : Type 0 where
  pub others : Blocks
  pub blocks_are : blocks ≡ held ++ others
  pub are_read : AreRead (part_after read held) others start left

-- if a block was read before these blocks, the blocks with it in front are still the first ones
one_more : (read : Reader) (address : ℕ) (content content' : List ℕ) (held blocks others : Blocks) (start : ℕ) (left : List ℕ)
    → content' ≡ content → blocks ≡ (address, content') ∷ others
    → Front (next_part (total_of address content)) held others start left
    → Front read ((address, content) ∷ held) blocks start left
one_more read address content content' held blocks others start left same blocks_are f = record {
  others = f.others;
  blocks_are = blocks_are ∙ ap (λ (xs : List ℕ). (address, xs) ∷ others) same
      ∙ ap (λ (bs : Blocks). (address, content) ∷ bs) f.blocks_are;
  are_read = f.are_read;
}

split_given : (given header content following left : List ℕ) → given ≡ header ++ (content ++ following)
    → given ++ left ≡ header ++ (content ++ (following ++ left))
split_given given header content following left e =
    ap (λ (xs : List ℕ). xs ++ left) e ∙ append_assoc header (content ++ following) left
    ∙ ap (λ (xs : List ℕ). header ++ xs) (append_assoc content following left)

-- the data of a block is the bytes that were read
pub others_read : (address : ℕ) (content : List ℕ) (blocks : Blocks) (start : ℕ) (rest : List ℕ)
    (o : Opened blocks start address (length content) (content ++ rest))
    → (o.content ≡ content) × AreRead (next_part (total_of address content)) o.others start rest
others_read address content blocks start rest o =
    let same = same_front o.content o.following content rest o.long (sym o.split) in (
      same.0,
      subst (λ (xs : List ℕ). AreRead (next_part (total_of address content)) o.others start xs) same.1
          (subst (λ (xs : List ℕ). AreRead (next_part (total_of address xs)) o.others start o.following) same.0 o.are_read),
    )

pub front : (read : Reader) (held blocks : Blocks) (start : ℕ) (given left : List ℕ) → Hold read held given
    → AreRead read blocks start (given ++ left) → Front read held blocks start left
front read [] blocks start given left none h =
    record {
      others = blocks;
      blocks_are = refl;
      are_read = subst (λ (g : List ℕ). AreRead read blocks start (g ++ left)) none h;
    }
front read (block ∷ held) blocks start given left hold h =
    let rest : List ℕ = hold.1 ++ left in
    let header_read : read (given ++ left) ≡ Ok (Data block.0 (length block.1), block.1 ++ rest) =
    ap read (split_given given hold.0 block.1 hold.1 left hold.2) ∙ hold.3 (block.1 ++ rest) in
    let opened = at_header read blocks start block.0 (length block.1) (given ++ left) (block.1 ++ rest) h header_read in
    let others = others_read block.0 block.1 blocks start rest opened in
    one_more read block.0 block.1 opened.content held blocks opened.others start left others.0 opened.blocks_are
    (front (next_part (total_of block.0 block.1)) held opened.others start hold.1 left hold.4 others.1)
