use Rattle.std.proofs.Common.{◌-◌, length, drop, take, refl, sym}
use Rattle.std.proofs.lemmas.List.{take-append-drop}
use Rattle.m11_base_writes.proofs.laws.devices_have_beginnings.Goals as goal

pub returns-clause-prefix : goal.returns-clause-prefix
returns-clause-prefix c = λ text held.
    (take (length text - held) text, refl, drop (length text - held) text, sym (take-append-drop (length text - held) text))
