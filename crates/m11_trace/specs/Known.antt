-- What is known of addresses: their names, and the lines of listings that show the words there. (This project's own; docs/VIEWS.md, "Names of
-- addresses".)
use Rattle.std.specs.Prelude.{List, map}
use Rattle.m11_base_disassembly.specs.ListedLines.{PlacedListing, listing_of}
use Rattle.m11_base_disassembly.specs.declared.symbols.Symbol.{Symbol}
use Rattle.m11_trace.specs.declared.known.Known as declared

pub record Known : Type 0 where
  pub symbols : List Symbol
  pub listings : List PlacedListing

abbrev pub known_of : declared.Known → Known
known_of known = record { symbols = known.symbols.now; listings = map listing_of known.listings.now }
