use Rattle.std.proofs.Common.{sym, ◌∙◌, rules}
use Rattle.m11_obj.proofs.RecordsBack.{no_fault, standing_is_read}
use Rattle.m11_obj.proofs.records.read_record.Goals as goal

pub returns-in_err-check_record-clause-all : goal.returns-in_err-check_record-clause-all
returns-in_err-check_record-clause-all c = λ content is.
    absurd (no_fault content c.args.block.now.items c.as_slice-content.result.now _ c.as_slice-content.ensures.value
    (sym c.in_err-check_record.was ∙ c.check_record.ensures.is) is)

pub returns-clause-all : goal.returns-clause-all
returns-clause-all c = λ content is.
    (standing_is_read content c.args.block.now.items is, search rules)
