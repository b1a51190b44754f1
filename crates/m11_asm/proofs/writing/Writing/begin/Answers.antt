use Rattle.std.proofs.Common.{◌∙◌, List, sym, ap}
use Rattle.m11_asm_outputs.proofs.Fitting.{fit_as}
use Rattle.m11_asm_outputs.specs.Object.{content_writes, head_contents}
use Rattle.m11_asm_outputs.specs.Outputs.{assembly}
use Rattle.m11_obj.specs.declared.directory.DirectoryRow.{DirectoryRow}
use Rattle.m11_base_writes.proofs.Writing.{stopped_alone}
use Rattle.m11_asm.specs.Writing.{Writing}
use Rattle.m11_asm_outputs.proofs.Looping.{writes_as}
use Rattle.m11_asm.proofs.Putting.{gains_as, head_is, head_stays, writes_nothing}
use Rattle.m11_asm.proofs.writing.Writing.begin.Goals as goal

pub returns-then-self-clause-writes : goal.returns-then-self-clause-writes
returns-then-self-clause-writes g c = λ program lines listing messages stands.
    writes_nothing _ _ (head_stays program lines c.args.self.now stands
    (sym (ap (λ (w : Writing). w.has_begun) c.self.view_is) ∙ c.if-self.true))

pub returns-in_err-put_head-clause-writes : goal.returns-in_err-put_head-clause-writes
returns-in_err-put_head-clause-writes g c = λ program lines listing messages stands.
    writes_as _ _ _ _ _
    (ap (λ (rows : List DirectoryRow). content_writes (head_contents rows))
    (c.as_slice.ensures.value ∙ ap (λ (w : Writing). w.rows) c.self.view_is)
    ∙ head_is program lines c.args.self.now stands (sym (ap (λ (w : Writing). w.has_begun) c.self.view_is) ∙ c.if-self.false))
    (stopped_alone assembly _ _ _ _ _ (c.in_err-put_head.ensures.writes listing messages) c.from_residual.ensures.1)

pub returns-clause-writes : goal.returns-clause-writes
returns-clause-writes g c = λ program lines listing messages stands.
    gains_as _ _ _ _
    (ap (λ (rows : List DirectoryRow). content_writes (head_contents rows))
    (c.as_slice.ensures.value ∙ ap (λ (w : Writing). w.rows) c.self.view_is)
    ∙ head_is program lines c.args.self.now stands (sym (ap (λ (w : Writing). w.has_begun) c.self.view_is) ∙ c.if-self.false))
    (c.in_ok-put_head.ensures.writes listing messages)

pub returns-then-self-clause-fit : goal.returns-then-self-clause-fit
returns-then-self-clause-fit g c = λ program lines stands.
    stands.head (sym (ap (λ (w : Writing). w.has_begun) c.self.view_is) ∙ c.if-self.true)

pub returns-clause-fit : goal.returns-clause-fit
returns-clause-fit g c = λ program lines stands.
    fit_as _ _ (ap head_contents (c.as_slice.ensures.value ∙ ap (λ (w : Writing). w.rows) c.self.view_is ∙ stands.rows))
    c.in_ok-put_head.ensures.fit
