-- The blocks of a tape, read one after another.
use Rattle.std.proofs.Common.{◌≡◌, ℕ, List, [], ◌∷◌, ◌++◌, length, Result, Ok, refl, sym, ap, subst, ◌∙◌, append_assoc}
use Rattle.std.proofs.lemmas.List.{append-nil}
use Rattle.m11_obj_blocks.specs.declared.tape_fault.TapeFault.{TapeFault}
use Rattle.m11_obj_blocks.specs.declared.tape_part.TapePart.{TapePart}
use Rattle.m11_obj_blocks.specs.declared.tape_part.TapePart.TheVariants.{Data, Start}
use Rattle.m11_obj_blocks.specs.declared.tape_part.TapeStage.{TapeStage}
use Rattle.m11_obj_blocks.specs.declared.tape_part.TapeStage.TheVariants.{BeforeBlock, InBlock, AtEnd, AfterFault}
use Rattle.m11_obj_blocks.specs.Limited.{Position, Took, Read, Reads}
use Rattle.m11_obj_blocks.specs.Tapes.{IsTape, AreRead, total_of, first_part, next_part, data_byte, stage_after, ReadsPart, ReadsNext}
use Rattle.m11_obj_blocks.proofs.ReadSteps.{bytes_then, rest_is, value_is}
use Rattle.m11_obj_blocks.proofs.TapeFrames.{tape_framed}
use Rattle.m11_cpu.specs.Loading.{part_after, Hold}

abbrev Reader : Type 0
Reader = List ℕ → Read TapeFault TapePart

-- ---- a byte

byte_is : (given : List ℕ) (byte : ℕ) → data_byte (given ++ []) ≡ Ok (byte, []) → given ≡ byte ∷ []
byte_is [] byte e = absurd cc
byte_is (b ∷ given) byte e =
    let same : b ≡ byte = value_is {Fault = TapeFault} b byte (given ++ []) [] e in
    let none : given ++ [] ≡ [] = rest_is {Fault = TapeFault} b byte (given ++ []) [] e in
    let empty : given ≡ [] = sym (append-nil given) ∙ none in
    cc

pub byte_took : (old new : Position) (byte : ℕ) → Reads data_byte old new byte → Took old new (byte ∷ [])
byte_took old new byte r = subst (λ (given : List ℕ). Took old new given) (byte_is r.given byte (r.is [])) r.took

-- ---- one more block

pub after_more : (read : Reader) (blocks : List (ℕ × List ℕ)) (address : ℕ) (content : List ℕ)
    → part_after read (blocks ++ (address, content) ∷ []) ≡ next_part (total_of address content)
after_more read [] address content = refl
after_more read (block ∷ blocks) address content =
    after_more (next_part (total_of block.0 block.1)) blocks address content

pub hold_more : (read : Reader) (blocks : List (ℕ × List ℕ)) (address : ℕ) (given header content : List ℕ)
    → Hold read blocks given
    → ((rest : List ℕ) → part_after read blocks (header ++ rest) ≡ Ok (Data address (length content), rest))
    → Hold read (blocks ++ (address, content) ∷ []) (given ++ (header ++ content))
hold_more read [] address given header content none is = (
  header,
  [],
  ap (λ (l : List ℕ). l ++ (header ++ content)) none ∙ ap (λ (l : List ℕ). header ++ l) (sym (append-nil content)),
  is,
  refl,
)
hold_more read (block ∷ blocks) address given header content held is =
    let more : List ℕ = header ++ content in (
      held.0,
      held.1 ++ more,
      ap (λ (l : List ℕ). l ++ more) held.2 ∙ append_assoc held.0 (block.1 ++ held.1) more
          ∙ ap (λ (l : List ℕ). held.0 ++ l) (append_assoc block.1 held.1 more),
      held.3,
      hold_more (next_part (total_of block.0 block.1)) blocks address held.1 header content held.4 is,
    )

-- ---- the whole tape

are_read : (read : Reader) (blocks : List (ℕ × List ℕ)) (start : ℕ) (given last : List ℕ)
    → Hold read blocks given → ((rest : List ℕ) → part_after read blocks (last ++ rest) ≡ Ok (Start start, rest))
    → AreRead read blocks start (given ++ last)
are_read read [] start given last none is =
    ([], ap read (ap (λ (l : List ℕ). l ++ last) none ∙ sym (append-nil last)) ∙ is [])
are_read read (block ∷ blocks) start given last held is =
    let following : List ℕ = held.1 ++ last in (
      following,
      ap read (ap (λ (l : List ℕ). l ++ last) held.2 ∙ append_assoc held.0 (block.1 ++ held.1) last
          ∙ ap (λ (l : List ℕ). held.0 ++ l) (append_assoc block.1 held.1 last))
          ∙ held.3 (block.1 ++ following),
      are_read (next_part (total_of block.0 block.1)) blocks start held.1 last held.4 is,
    )

pub is_tape : (blocks : List (ℕ × List ℕ)) (start : ℕ) (a b c : Position) (given : List ℕ) → Took a b given
    → Hold first_part blocks given
    → (last : Reads (part_after first_part blocks) b c (Start start)) → IsTape blocks start (given ++ last.given)
is_tape blocks start a b c given took held last =
    tape_framed blocks start (given ++ last.given) (bytes_then given last.given took.bytes last.took.bytes)
    (are_read first_part blocks start given last.given held last.is)

-- ---- the part that a reader reads next

-- a reader in this stage reads the next part with this function
abbrev pub IsBeforePart : TapeStage → (List ℕ → Read TapeFault TapePart) → Type 0
IsBeforePart BeforeBlock read = read ≡ first_part
IsBeforePart (InBlock left total) read = (left ≡ 0) × (read ≡ next_part total)
IsBeforePart (AtEnd address) read = ⊥
IsBeforePart AfterFault read = ⊥

pub next_is : (stage : TapeStage) (read : Reader) (old new : Position) (after : TapeStage)
    (result : Result TapePart TapeFault)
    → IsBeforePart stage read → ReadsNext stage old new after result
    → ReadsPart (λ part. part) read old new result × (after ≡ stage_after result)
next_is BeforeBlock read old new after result stands r = rw stands r
next_is (InBlock left total) read old new after result stands r = rw stands.1 r
next_is (AtEnd address) read old new after result stands r = absurd stands
next_is AfterFault read old new after result stands r = absurd stands
