use Rattle.std.proofs.Common.{◌≡◌, length, is_none}
use Rattle.std.specs.List.{list_any}
use Rattle.m11_base.specs.Rad50.{code_of}
use Rattle.m11_base.proofs.rad50.Rad50.has_uncoded.Given as goal

abbrev pub invariant-characters : goal.invariant-characters
invariant-characters l =
    list_any (λ character. is_none (code_of character)) l.rest ≡ list_any (λ character. is_none (code_of character)) l.text

abbrev pub decreases-characters : goal.decreases-characters
decreases-characters l = length l.rest
