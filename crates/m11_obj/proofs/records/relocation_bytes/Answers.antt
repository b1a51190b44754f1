use Rattle.std.proofs.Common.{sym, ap, ◌∙◌, List, length, ℕ, subst, arith}
use Rattle.m11_obj.specs.Reading.{AreRelocations, relocations_left}
use Rattle.m11_obj.proofs.Walks.{has_relocations, no_relocations, none_are, none_left}
use Rattle.m11_obj.proofs.records.relocation_bytes.Goals as goal

pub split_at-requires : goal.split_at-requires
split_at-requires c = (has_relocations c.args.bytes.now c.in-Relocations.ensures.kind).enough

pub returns-in-Relocations-clause-are : goal.returns-in-Relocations-clause-are
returns-in-Relocations-clause-are c =
    subst (λ (bytes : List ℕ). AreRelocations bytes) (sym c.split_at.ensures.back)
    (has_relocations c.args.bytes.now c.in-Relocations.ensures.kind).are

pub returns-in-Relocations-clause-left : goal.returns-in-Relocations-clause-left
returns-in-Relocations-clause-left c =
    ap (λ (bytes : List ℕ). relocations_left bytes) c.split_at.ensures.back
    ∙ (has_relocations c.args.bytes.now c.in-Relocations.ensures.kind).left

pub returns-in-Relocations-clause-few : goal.returns-in-Relocations-clause-few
returns-in-Relocations-clause-few c =
    omega (arith, (has_relocations c.args.bytes.now c.in-Relocations.ensures.kind).few, c.requires.fits)

pub returns-in_default : goal.returns-in_default
returns-in_default c =
    let none = no_relocations c.args.bytes.now c.kind_at.result c.kind_at.ensures.kind c.in_default.not-Relocations in
    record { are = none_are; left = none_left ∙ sym none; few = omega (arith, ap length none) }
