-- What the linker's own rules say of a chain, beside its result. (RT-11 Volume and File Formats Manual, "Object file format". This project's
-- own: the rules of a link, the order in which it looks for refusals, and the blocks of its tape.)
use Rattle.std.specs.Prelude.{◌≡◌, ℕ, false, List, [], map, length, None, Result, Ok, Err}
use Rattle.m11_base.specs.Devices.{Bytes}
use Rattle.m11_base_writes.specs.Writes.{gained}
use Rattle.m11_base_writes.specs.declared.outputs.Output.TheVariants as output
use Rattle.m11_link.specs.Objects.{AreItems, Item, outcome}
use Rattle.m11_link.specs.Outputs.{link}
use Rattle.m11_link.specs.Written.{link_writes}
use Rattle.m11_link_layout.specs.Sections.{is_too_large}
use Rattle.m11_link_layout.specs.declared.fault.LinkFault.{LinkFault}
use Rattle.m11_link_modules.specs.Rules.{first_fault}
use Rattle.m11_link_text.specs.Findings.{findings_of}
use Rattle.m11_asm_passes.specs.Lines.{NumberedLine}
use Rattle.m11_cli_image.specs.Image.{image_of}
use Rattle.m11_cli_image.specs.Objects.{link_parts, object_of}
use Rattle.m11_cli_image.specs.Refusals.{IsOfSizes}
use Rattle.m11_cli_image.specs.Sources.{Source}
use Rattle.m11_cli_image.specs.Tapes.{tape_size}
use Rattle.m11_cli_chain.specs.Chain.{Chains, HasImage, Linked, StopsLoad}
use Rattle.m11_cli_chain.specs.Refusals.{IsOfObjects}
use Rattle.m11_cli_chain.specs.Sources.{AllLive, sources_of}
use Rattle.m11_cli_chain.specs.declared.chain.Chained.{Chained}
use Rattle.m11_cli_chain.specs.declared.fault.ChainFault.{ChainFault}
use Rattle.m11_cli_chain.specs.declared.fault.ChainFault.TheVariants.{Link, Load}

-- the tape that a link of these sources writes
abbrev pub tape_of : ℕ → List Source → Bytes
tape_of bottom sources =
    gained link output.Product (link_writes (findings_of bottom (link_parts sources)) (link_parts sources))

-- a link of the sources' objects refuses none of their parts, no relocatable section ends past octal 160000, and the link's tape has the
-- size that follows from the texts of the sources
pub record LinkAccepts (bottom : ℕ) (sources : List Source) : Type 0 where
  pub sound : first_fault [] (link_parts sources) ≡ None
  pub low : is_too_large bottom (link_parts sources) ≡ false
  pub size : length (tape_of bottom sources) ≡ tape_size sources

-- no assembly of the texts is refused, and this is the first refusal of a link of their objects: a limit that is exceeded, or a source with
-- a byte at the last location of a section
pub record LinkRefuses (texts : List (List Bytes)) (bottom : ℕ) (stopped : LinkFault) : Type 0 where
  pub lines : List (List NumberedLine)
  pub live : AllLive texts lines
  pub items : List Item
  pub are : AreItems (map object_of (sources_of lines)) items
  pub refused : outcome bottom items ≡ Err stopped
  pub of_sizes : IsOfSizes bottom (sources_of lines) stopped

-- a chain has this outcome; if it was linked, by the linker's rules too, and if its link was refused, the fault is the link's first refusal
abbrev pub ChainsExactly : List (List Bytes) → ℕ → ℕ → Result Chained ChainFault → Type 0
ChainsExactly texts bottom words (Ok done) = Linked texts bottom
    (λ sources. LinkAccepts bottom sources × HasImage (image_of bottom sources) words done.machine done.start)
ChainsExactly texts bottom words (Err (Load stopped)) =
    Linked texts bottom (λ sources. LinkAccepts bottom sources × StopsLoad bottom words stopped sources)
ChainsExactly texts bottom words (Err (Link stopped)) = IsOfObjects stopped × LinkRefuses texts bottom stopped
ChainsExactly texts bottom words (Err other) = Chains texts bottom words (Err other)
