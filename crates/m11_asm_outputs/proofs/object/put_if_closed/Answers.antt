use Rattle.std.proofs.Common.{ap, ◌∙◌, sym, append-nil}
use Rattle.m11_obj.specs.OpenText.{records_in}
use Rattle.m11_obj.specs.Texts.{records_of}
use Rattle.m11_asm_outputs.specs.Object.{AllFit}
use Rattle.m11_asm_outputs.specs.Outputs.{assembly}
use Rattle.m11_base_writes.proofs.Writing.{gains_nothing}
use Rattle.m11_asm_outputs.proofs.Blocks.{contents_as}
use Rattle.m11_asm_outputs.proofs.Fitting.{fit_as, on_ok}
use Rattle.m11_asm_outputs.proofs.Looping.{no_contents}
use Rattle.m11_asm_outputs.proofs.object.put_if_closed.Goals as goal

pub returns-in-Some-clause-writes : goal.returns-in-Some-clause-writes
returns-in-Some-clause-writes g c = λ listing messages. contents_as _ _ _ _ _
    (sym (append-nil (records_of c.in-Some.text)) ∙ ap records_in (sym c.in-Some.is))
    (c.put_text.ensures.writes listing messages)

pub returns-in-None-clause-writes : goal.returns-in-None-clause-writes
returns-in-None-clause-writes g c = λ listing messages. rw c.in-None.is (rw no_contents (gains_nothing assembly _))

pub returns-in-Some-clause-fit : goal.returns-in-Some-clause-fit
returns-in-Some-clause-fit g c =
    on_ok _ (AllFit (records_of c.in-Some.text)) (AllFit (records_in c.args.text.now))
    (fit_as _ _ (sym (append-nil (records_of c.in-Some.text)) ∙ ap records_in (sym c.in-Some.is)))
    c.put_text.ensures.fit

pub returns-in-None-clause-fit : goal.returns-in-None-clause-fit
returns-in-None-clause-fit g c = rw c.in-None.is tt
