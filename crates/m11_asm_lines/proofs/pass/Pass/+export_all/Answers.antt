use Rattle.std.proofs.Common.{refl}
use Rattle.m11_asm_lines.proofs.Exporting.{exported_then}
use Rattle.m11_asm_lines.proofs.pass.Pass.+export_all.Goals as goal

pub returns-in_ok-export_one-in-len1-up-clause-exports : goal.returns-in_ok-export_one-in-len1-up-clause-exports
returns-in_ok-export_one-in-len1-up-clause-exports t c =
    exported_then c.args.line.now.text c.args.names.now _ _ c.listed_name.result c.args.self.now c.export_one.new.self c.export_all.new.self
    c.in-len1-up.len_at_least refl c.listed_name.ensures c.in_ok-export_one-in-len1-up.ensures.exports c.export_all.result
    c.export_all.ensures.exports
