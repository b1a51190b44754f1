-- A tape can be read in only one way, and so it has only one image.
use Rattle.std.proofs.Common.{◌≡◌, ◌∙◌, ℕ, List, [], ◌∷◌, ◌++◌, length, refl, sym, ap}
use Rattle.m11_obj_blocks.specs.Tapes.{AreRead, IsTape, first_part, next_part, total_of}
use Rattle.m11_obj_blocks.proofs.TapeFrames.{tape_read}
use Rattle.m11_cpu_laws.specs.Image.{Image, byte_of}
use Rattle.m11_cpu_laws.specs.Tapes.{IsTapeOf, image_of_blocks, transfer_address}
use Rattle.m11_cpu_laws.proofs.Fronts.{Blocks, Reader, at_header, at_start, others_read}

one_way : (read : Reader) (blocks blocks' : Blocks) (start start' : ℕ) (bytes : List ℕ) → AreRead read blocks start bytes
    → AreRead read blocks' start' bytes → (blocks' ≡ blocks) × (start' ≡ start)
one_way read [] blocks' start start' bytes h h' =
    let last = at_start read blocks' start' start bytes h.0 h' h.1 in (last.0, sym last.1)
one_way read (block ∷ blocks) blocks' start start' bytes h h' =
    let opened = at_header read blocks' start' block.0 (length block.1) bytes (block.1 ++ h.0) h' h.1 in
    let others = others_read block.0 block.1 blocks' start' h.0 opened in
    let more = one_way (next_part (total_of block.0 block.1)) blocks opened.others start start' h.0 h.2 others.1 in (
      opened.blocks_are ∙ ap (λ (xs : List ℕ). (block.0, xs) ∷ opened.others) others.0
          ∙ ap (λ (bs : Blocks). block ∷ bs) more.0,
      more.1,
    )

pub one_reading : (tape : List ℕ) (blocks blocks' : Blocks) (start start' : ℕ) → IsTape blocks start tape
    → IsTape blocks' start' tape → (blocks' ≡ blocks) × (start' ≡ start)
one_reading tape blocks blocks' start start' is is' =
    one_way first_part blocks blocks' start start' tape (tape_read blocks start tape is) (tape_read blocks' start' tape is')

pub its_image : (tape : List ℕ) (blocks : Blocks) (start : ℕ) → IsTape blocks start tape
    → IsTapeOf (image_of_blocks blocks start) tape
its_image tape blocks start is =
    record { blocks = blocks; start = start; consists = is; bytes = λ address. refl; start_is = refl }

pub no_other_image : (tape : List ℕ) (image other : Image) → IsTapeOf image tape → IsTapeOf other tape
    → ((address : ℕ) → other.byte address ≡ image.byte address) × (transfer_address other ≡ transfer_address image)
no_other_image tape image other is is' =
    let one = one_reading tape is.blocks is'.blocks is.start is'.start is.consists is'.consists in (
      λ address. sym (is'.bytes address) ∙ ap (λ (bs : Blocks). byte_of bs address) one.0 ∙ is.bytes address,
      sym is'.start_is ∙ one.1 ∙ is.start_is,
    )
