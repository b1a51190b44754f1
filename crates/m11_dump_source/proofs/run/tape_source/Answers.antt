use Rattle.std.proofs.Common.{◌≡◌, ◌∙◌, IfOk, List, None, ap, replicate, subst}
use Rattle.m11_dump.specs.WholeTapes.{blocks_of}
use Rattle.m11_dump.specs.declared.whole_tapes.TapeBlock.{TapeBlock}
use Rattle.m11_dump_source.specs.Memory.{Cells, after_blocks}
use Rattle.m11_dump_source.specs.Texts.{source_text}
use Rattle.m11_dump_source.proofs.run.tape_source.Goals as goal

pub returns : goal.returns
returns c =
    let P : Cells → Type 0 = λ cells. IfOk c.source_text.result
    (λ text. text.items ≡ source_text c.args.symbols.now c.args.tape.now.start cells) in
    subst P
    (c.deref-2.ensures.value ∙ c.in_ok-memory.ensures.cells
    ∙ ap (λ (blocks : List TapeBlock). after_blocks (blocks_of blocks) (replicate 65536 None)) c.deref.ensures.value) c.source_text.ensures
