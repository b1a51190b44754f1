-- Mapping a list into the definitions and then joining the results for each item can be done in one step.
use Rattle.std.proofs.Common.{◌≡◌, List, [], ◌∷◌, ◌++◌, map, refl, ap}
use Rattle.std.specs.List.{flat_map}

pub each_seen : {A B C : Type 0} (makes : B → List C) (seen : A → B) (list : List A)
    → flat_map (λ one. makes (seen one)) list ≡ flat_map makes (map seen list)
each_seen makes seen [] = refl
each_seen makes seen (one ∷ list) = ap (λ more. makes (seen one) ++ more) (each_seen makes seen list)
