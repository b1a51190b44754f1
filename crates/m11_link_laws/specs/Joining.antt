-- Files of whole modules, and links with the same result. (This project's own, in terms of Objects.antt and Written.antt of the
-- linker.)
use Rattle.std.specs.Prelude.{◌≡◌, ℕ, List, [], Result, Ok, Err}
use Rattle.m11_obj_blocks.specs.Limited.{most_bytes}
use Rattle.m11_link_modules.specs.Parts.{Part}
use Rattle.m11_link_layout.specs.declared.fault.LinkFault.{LinkFault}
use Rattle.m11_link_text.specs.Findings.{findings_of}
use Rattle.m11_link.specs.Objects.{Item, ObjectItems, taken}
use Rattle.m11_link.specs.Written.{link_writes}

-- a file by itself consists of whole modules: its items have no fault
abbrev pub AreModules : List ℕ → Type 0
AreModules source = (items : List Item) × ObjectItems most_bytes source items
    × (parts : List Part) × (taken [] items ≡ Ok parts)

-- two links have the same result: the same writes in the same order, or the same fault
abbrev pub LinkAlike : ℕ → Result (List Part) LinkFault → Result (List Part) LinkFault → Type 0
LinkAlike bottom (Ok parts) (Ok others) =
    link_writes (findings_of bottom parts) parts ≡ link_writes (findings_of bottom others) others
LinkAlike bottom (Err fault) (Err other) = fault ≡ other
LinkAlike bottom one other = ⊥
