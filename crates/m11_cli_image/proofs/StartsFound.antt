-- The start that a linker finds is the image's.
use Rattle.std.proofs.Common.{◌≡◌, ◌∙◌, ℕ, ◌+◌, cond, List, [], ◌∷◌, ◌++◌, map, flat_map, Option, Some, None, option_map, refl, ap, arith}
use Rattle.std.specs.List.{enumerate_from, find}
use Rattle.std.specs.Option.{option_to_list, unwrap_or}
use Rattle.m11_base.specs.Names.{absolute_name}
use Rattle.m11_asm_directory.specs.Transfers.{home}
use Rattle.m11_link_layout.specs.Transfers.{is_even}
use Rattle.m11_link_layout.specs.declared.definition.Transfer.{Transfer}
use Rattle.m11_link_text.specs.Relocation.{modulo}
use Rattle.m11_scan_expressions.specs.declared.kinds.Kind.{Kind}
use Rattle.m11_scan_expressions.specs.declared.kinds.Kind.TheVariants as kind
use Rattle.m11_scan_expressions.specs.Quantities.{Quantity}
use Rattle.m11_cli_image.specs.Image.{addresses_of, all_starts, start_at, start_by, start_of}
use Rattle.m11_cli_image.specs.Links.{beginning, beginning_at, transfer_of}
use Rattle.m11_cli_image.specs.Objects.{transfer_at}
use Rattle.m11_cli_image.specs.Sections.{contribution}
use Rattle.m11_cli_image.specs.Sources.{Source}

chosen : (a b : ℕ) (found others : Option ℕ) → a ≡ b → found ≡ others
    → cond (is_even a) (Some a) found ≡ cond (is_even b) (Some b) others
chosen a b found others e f = λ j. cond (is_even (e j)) (Some (e j)) (f j)

from_zero : (base number : ℕ) → base ≡ 0 → modulo (base + number) ≡ modulo number
from_zero base number e = omega arith

module _ (bottom : ℕ) (sources : List Source) (absolute : (index : ℕ) → contribution bottom sources index absolute_name ≡ 0) where
  abbrev address_of : Transfer → ℕ
  address_of transfer = beginning_at bottom sources transfer

  address_by : (index number : ℕ) (k : Kind)
      → modulo (contribution bottom sources index (home k) + number) ≡ start_by (addresses_of bottom sources) index number k
  unfolding addresses_of
  address_by index number (kind.Section name) = refl
  address_by index number k = from_zero (contribution bottom sources index absolute_name) number (absolute index)

  -- a source without a `.END` value has the transfer address 1, which is odd
  one_start : (index : ℕ) (transfer : Option Quantity) (found : Option ℕ) (others : List ℕ) → found ≡ find is_even others
      → cond (is_even (address_of (transfer_at index transfer))) (Some (address_of (transfer_at index transfer))) found
      ≡ find is_even (option_to_list (option_map (start_at (addresses_of bottom sources) index) transfer) ++ others)
  one_start index (Some given) found others e =
      chosen (address_of (transfer_at index (Some given))) (start_at (addresses_of bottom sources) index given) found
      (find is_even others) (address_by index given.number given.kind) e
  one_start index None found others e =
      ap (λ (n : ℕ). cond (is_even n) (Some n) found)
      (from_zero (contribution bottom sources index absolute_name) 1 (absolute index)) ∙ e

  same_start : (numbered : List (ℕ × Source)) → find is_even (map address_of (map transfer_of numbered))
      ≡ find is_even (flat_map (start_of (addresses_of bottom sources)) numbered)
  same_start [] = refl
  same_start (one ∷ numbered) =
      one_start one.0 one.1.facts.transfer (find is_even (map address_of (map transfer_of numbered)))
      (flat_map (start_of (addresses_of bottom sources)) numbered) (same_start numbered)

  pub start_found : beginning bottom sources ≡ unwrap_or (find is_even (all_starts (addresses_of bottom sources) sources)) 1
  start_found = ap (λ (start : Option ℕ). unwrap_or start 1) (same_start (enumerate_from 0 sources))
