-- The source of a tape that was read, written.
use Rattle.std.proofs.Common.{◌≡◌, ℕ, List, Result, Ok, Err, sym, subst}
use Rattle.m11_base_disassembly.specs.declared.symbols.Symbol.{Symbol}
use Rattle.m11_base_writes.specs.States.{OutputState}
use Rattle.m11_base_writes.specs.States as writes
use Rattle.m11_obj_blocks.specs.Limited.{Position}
use Rattle.m11_dump.specs.Objects.{FailsAt, Gained}
use Rattle.m11_dump.specs.WholeTapes.{ReadsTape}
use Rattle.m11_dump.specs.declared.whole_tapes.WholeTape.{WholeTape}
use Rattle.m11_dump_source.specs.Run.{WritesSource, tape_source}
use Rattle.m11_dump_source.specs.declared.run.SourceFault.{SourceFault}
use Rattle.m11_dump_source.specs.declared.run.SourceFault.TheVariants.{Write}

pub put_as : (symbols : List Symbol) (old new : Position) (tape : WholeTape) (text : List ℕ) (output output' : OutputState)
    (result : Result (Unit {0}) SourceFault) → ReadsTape old new (Ok tape) → text ≡ tape_source symbols tape
    → writes.Puts output output' text Write result → WritesSource symbols old new output output' result
put_as symbols old new tape text output output' (Ok done) reads is p =
    let P : List ℕ → Type 0 = λ t. Gained t output output' in (tape, reads, subst P is p)
put_as symbols old new tape text output output' (Err f) reads is p =
    let P : List ℕ → Type 0 = λ t. FailsAt t output output' in
    let Q : SourceFault → Type 0 = λ x. WritesSource symbols old new output output' (Err x) in
    subst Q (sym p.0) (tape, reads, subst P is (p.1, p.2))
