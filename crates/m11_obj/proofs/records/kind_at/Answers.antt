use Rattle.std.proofs.Common.{◌∙◌, ap}
use Rattle.m11_obj.specs.declared.records.RecordKind.{RecordKind}
use Rattle.m11_obj.proofs.RecordFields.{done, kind_found, type_is_found, text_found}
use Rattle.m11_obj.proofs.records.kind_at.Goals as goal

pub unreachable-requires : goal.unreachable-requires
unreachable-requires c = type_is_found c.args.bytes.now _ c.requires c.in-Err.ensures

pub returns-clause-kind : goal.returns-clause-kind
returns-clause-kind c = kind_found c.args.bytes.now c.in-Ok.kind _ c.requires c.in-Ok.ensures

pub returns-clause-text : goal.returns-clause-text
returns-clause-text c = λ is_text.
    text_found c.args.bytes.now
    (kind_found c.args.bytes.now c.in-Ok.kind _ c.requires c.in-Ok.ensures
    ∙ ap (λ (k : RecordKind). done k) is_text)
