-- The content of a block lies just before its sum byte.
use Rattle.std.proofs.Common.{◌≡◌, ◌∙◌, ℕ, ◌+◌, ◌<◌, List, [], ◌∷◌, ◌++◌, length, length-append, append-nil, append_assoc, Ok, Err, refl, sym, ap, arith}
use Rattle.std.specs.List.{AllByRecursion}
use Rattle.m11_obj_blocks.specs.Blocks.{first_block}
use Rattle.m11_obj_blocks.specs.Frames.{AreBlocks, Block, Nothing, Zero, block, header, sum_byte, word_bytes}
use Rattle.m11_obj_blocks.specs.Limited.{Between}
use Rattle.m11_obj_blocks.proofs.BlockFrames.{block_again, block_parts, blocks_framed}
use Rattle.m11_obj_blocks.proofs.ReadSteps.{rest_is}
use Rattle.m11_obj_blocks.specs.declared.block_fault.BlockFault.{BlockFault}
use Rattle.m11_dump.specs.Positions.{LiesAt, content_start}

none_left : first_block [] ≡ Err Between
unfolding first_block
none_left = refl

after_zero : (bytes : List ℕ) → first_block (0 ∷ bytes) ≡ first_block bytes
unfolding first_block
after_zero bytes = refl

-- the bytes consist of some bytes, this content and one last byte, the sum byte
pub record Split (content bytes : List ℕ) : Type 0 where
  pub front : List ℕ
  pub last : ℕ
  pub is : bytes ≡ front ++ (content ++ last ∷ [])

whole : (content bytes : List ℕ) → bytes ≡ block content → Split content bytes
whole content bytes e = record {
  front = 1 ∷ 0 ∷ word_bytes (length content + 4);
  last = sum_byte (header (length content) ++ content);
  is = e ∙ sym (append-nil (block content)) ∙ block_parts content [];
}

split_one : (contents : List (List ℕ)) (content bytes : List ℕ) → AreBlocks contents bytes → contents ≡ content ∷ []
    → first_block bytes ≡ Ok (content, []) → Split content bytes
split_one contents content bytes Nothing is e = absurd cc
split_one contents content bytes (Zero {bytes = following} h) is e =
    let s = split_one contents content following h is (sym (after_zero following) ∙ e) in
    record { front = 0 ∷ s.front; last = s.last; is = ap (λ (l : List ℕ). 0 ∷ l) s.is }
split_one contents content bytes (Block {bytes = following} own fits h) is e =
    let same : own ≡ content = cc in
    let none : following ≡ [] =
    rest_is {Fault = BlockFault} own content following [] (sym (block_again own following fits) ∙ e) in
    whole content bytes (rw (none, same) (append-nil (block content)))

pub stands : (before given content : List ℕ) → AllByRecursion (λ byte. byte < 256) given → first_block given ≡ Ok (content, [])
    → LiesAt content (before ++ given) (content_start content (length (before ++ given)))
stands before given content small e =
    let s = split_one (content ∷ []) content given (blocks_framed (content ∷ []) given small ([], e, none_left)) refl e in
    let all : before ++ given ≡ (before ++ s.front) ++ (content ++ s.last ∷ []) =
    ap (λ (l : List ℕ). before ++ l) s.is ∙ sym (append_assoc before s.front (content ++ s.last ∷ [])) in (
      before ++ s.front,
      s.last,
      all,
      omega (arith, ap length all, length-append (before ++ s.front) (content ++ s.last ∷ []), length-append content (s.last ∷ [])),
    )
