-- The status of a link that ended early. (This project's own.)
use Rattle.std.specs.Prelude.{ℕ}
use Rattle.m11_link_layout.specs.declared.fault.LinkFault.{LinkFault}
use Rattle.m11_link_layout.specs.declared.fault.LinkFault.TheVariants as link

-- the status of a link that ended early
abbrev pub link_status : LinkFault → ℕ
link_status link.Read = 3
link_status (link.Write output) = 3
link_status (link.Block inner) = 4
link_status (link.Record inner) = 4
link_status link.BadOrder = 4
link_status link.NoText = 4
link_status link.BadDisplacement = 4
link_status link.UnknownSection = 4
link_status link.TooLarge = 6
link_status link.TooManyGlobals = 6
link_status link.TooManySections = 6
link_status link.TooManyModules = 6
link_status link.TooMuch = 6
link_status link.TextOutside = 4
link_status link.NoMemory = 5
