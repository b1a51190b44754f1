use Rattle.std.proofs.Common.{ℕ, ◌<◌, ◌≤◌, List, length, subst}
use Rattle.std.specs.Prelude.{All}
use Rattle.m11_obj_blocks.specs.Frames.{content_limit}
use Rattle.m11_obj.proofs.RecordsBack.{read_stands}
use Rattle.m11_asm_outputs.proofs.object.what_is_read_fits.Goals as goal

pub returns : goal.returns
returns c = λ content read.
    let P : List ℕ → Type 0 = λ bytes. All (λ byte. byte < 256) bytes in
    let Q : List ℕ → Type 0 = λ bytes. length bytes ≤ content_limit in
    (read_stands c.args.content.now.items content (subst P c.as_slice.ensures.value c.are_bytes.ensures)
    (subst Q c.as_slice.ensures.value c.as_slice.ensures.fits) read).fits
