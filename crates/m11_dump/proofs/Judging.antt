-- Records that are checked one after another, each after the earlier records of its module.
use Rattle.std.proofs.Common.{◌≡◌, ℕ, List, [], ◌∷◌, ◌++◌, None, refl}
use Rattle.m11_link_modules.specs.Parts.{Part, record_parts}
use Rattle.m11_link_modules.specs.Rules.{first_fault}
use Rattle.m11_dump.specs.Objects.{FollowRules, open_after, open_parts}

-- ---- one more block

pub open_more : (parts : List Part) (contents : List (List ℕ)) (content : List ℕ)
    → open_parts parts (contents ++ content ∷ []) ≡ open_after (open_parts parts contents) content
open_more parts [] content = refl
open_more parts (first ∷ contents) content = open_more (open_after parts first) contents content

pub follow_more : (parts : List Part) (contents : List (List ℕ)) (content : List ℕ) → FollowRules parts contents
    → first_fault (open_parts parts contents) (record_parts content) ≡ None → FollowRules parts (contents ++ content ∷ [])
follow_more parts [] content follow none = (none, tt)
follow_more parts (first ∷ contents) content follow none =
    (follow.0, follow_more (open_after parts first) contents content follow.1 none)
