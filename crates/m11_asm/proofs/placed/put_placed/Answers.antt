use Rattle.std.proofs.Common.{◌∙◌, refl, sym}
use Rattle.m11_asm_faults.specs.declared.fault.AsmFault.TheVariants.{NoMemory}
use Rattle.m11_asm_outputs.specs.Outputs.{assembly}
use Rattle.m11_scan.specs.Views.{bits_of}
use Rattle.m11_base_writes.proofs.Writing.{refused_first}
use Rattle.m11_asm.proofs.LinesListed.{absent, shown_so, unlisted}
use Rattle.m11_asm_outputs.proofs.Looping.{writes_as}
use Rattle.m11_asm.proofs.ListedLines.{writes_nothing}
use Rattle.m11_asm.proofs.placed.put_placed.Goals as goal

pub returns-then-is_none : goal.returns-then-is_none
returns-then-is_none g c = λ map table given emission object messages is same.
    absent g.T.Sink c.args.listing.now c.if-is_none.ensures object messages map table (bits_of c.args.flags) c.args.number given

pub returns-then-not-is_listed : goal.returns-then-not-is_listed
returns-then-not-is_listed g c = λ map table given emission object messages is same.
    writes_nothing _ _
    (unlisted map table given c.args.line.now emission c.args.contents.now is same (bits_of c.args.flags) c.args.number
    (sym c.is_listed.ensures ∙ c.if-not-is_listed.true))

pub returns-in_err-gather : goal.returns-in_err-gather
returns-in_err-gather g c = λ map table given emission object messages is same.
    refused_first assembly _ _ NoMemory _ refl c.from_residual.ensures.1

pub returns : goal.returns
returns g c = λ map table given emission object messages is same.
    writes_as _ _ _ _ _
    (shown_so map table given c.args.line.now emission c.args.contents.now is same (bits_of c.args.flags) c.args.number
    c.labels_keep_the_counter.ensures (sym c.is_listed.ensures ∙ c.if-not-is_listed.false) c.as_slice.result.now (c.as_slice.ensures.value ∙ c.in_ok-gather.ensures) c.text-text.result.now
    c.text-text.ensures.text)
    (c.put_listed.ensures object messages)
