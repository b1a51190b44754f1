use Rattle.std.proofs.Common.{◌+◌}
use Rattle.m11_base.specs.NameCharacters.{character_at}
use Rattle.m11_scan.proofs.TableOfCodes.{same_code}
use Rattle.m11_scan.proofs.names.word_at.Goals as goal

pub returns-clause-word : goal.returns-clause-word
returns-clause-word c =
    let first = same_code (character_at c.args.text.now c.args.index) in
    let second = same_code (character_at c.args.text.now (c.args.index + 1)) in
    let third = same_code (character_at c.args.text.now (c.args.index + 2)) in
    rw (c.code_at.ensures, c.code_at-2.ensures, c.code_at-3.ensures, first, second, third) at c.word_of_codes.ensures.word
