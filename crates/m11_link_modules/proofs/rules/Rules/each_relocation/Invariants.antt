use Rattle.std.proofs.Common.{map}
use Rattle.m11_obj.specs.Reading.{record_relocations}
use Rattle.m11_link_modules.specs.Parts.{Relocated}
use Rattle.m11_link_modules.proofs.Taking.{GoesOn}
use Rattle.m11_link_modules.proofs.rules.Rules.each_relocation.Given as goal

abbrev pub invariant-relocations : goal.invariant-relocations
invariant-relocations l = GoesOn l.initial.self l.self
    (map (λ relocation. Relocated relocation) l.relocation-iterator)
    (map (λ relocation. Relocated relocation) (record_relocations l.record))
