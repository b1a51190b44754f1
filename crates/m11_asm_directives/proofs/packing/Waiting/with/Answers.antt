use Rattle.m11_asm_directives.proofs.Packs.{third_code}
use Rattle.m11_asm_directives.proofs.packing.Waiting.with.Goals as goal

pub returns-in_ok-add_fixed_word-in-Two : goal.returns-in_ok-add_fixed_word-in-Two
returns-in_ok-add_fixed_word-in-Two c =
    third_code c.args.emission.now c.add_fixed_word.new.self c.args.self c.in-Two.first c.in-Two.second c.args.code c.packed.result
    c.in-Two.is c.packed.ensures c.in_ok-add_fixed_word-in-Two.ensures
