-- A placed line in the listing.
use Rattle.std.proofs.Common.{◌≡◌, ◌∙◌, ℕ, Bool, true, false, not, if◌then◌else◌, List, [], ◌++◌, Option, Some, None, sym, ap}
use Rattle.std.specs.Prelude.{◌==◌, ◌||◌, is_some}
use Rattle.std.specs.Option.{option_to_list}
use Rattle.std.specs.List.{flat_map}
use Rattle.m11_asm.proofs.ListedLines.{none_listed}
use Rattle.m11_asm_outputs.specs.Outputs.{Gains, assembly}
use Rattle.m11_base_writes.specs.Outputs.{outputs}
use Rattle.m11_asm.specs.Listed.{all_to_listing}
use Rattle.m11_base.specs.Devices.{Bytes}
use Rattle.m11_base.specs.declared.sink.Sink.{Ghosts}
use Rattle.m11_asm_listing.specs.Listing.{listed_lines}
use Rattle.m11_asm_listing.specs.declared.items.Item.{Item}
use Rattle.m11_obj.specs.declared.pieces.PieceContent.{PieceContent}
use Rattle.m11_scan.specs.ErrorFlags.{flags_text}
use Rattle.m11_asm_passes.specs.Placed.{IsPlaced}
use Rattle.m11_asm_passes.specs.declared.placed.PlacedLine.{PlacedLine}
use Rattle.m11_asm_rules.specs.Contents.{Emission}
use Rattle.m11_asm_rules.specs.Items.{is_listed, content_items, items}
use Rattle.m11_asm_rules.specs.Labels.{after_labels_in}
use Rattle.m11_asm_rules.specs.Lines.{after_line, line_emission, put_location, stands}
use Rattle.m11_asm_rules.specs.Operations.{action}
use Rattle.m11_asm_rules.specs.Meanings.{Map}
use Rattle.m11_asm_rules.specs.Tables.{Table, location}
use Rattle.m11_unfold_rules.specs.Taking.{Live}
use Rattle.m11_unfold_rules.specs.Unfolding.{UnfoldedLine}
use Rattle.m11_base_writes.specs.States.{OutputState, no_output, optional_output}
use Rattle.m11_base_writes.proofs.Writing.{gains_nothing}
use Rattle.m11_asm.specs.Listed.{lines_of, listing_writes}

-- ---- without a listing

absent_by : (object messages : OutputState) (lines : List Bytes) (is_there : Bool)
    → Gains (outputs object no_output messages) (outputs object no_output messages) (if is_there then all_to_listing lines else [])
absent_by object messages lines true = none_listed object messages lines
absent_by object messages lines false = gains_nothing assembly (outputs object no_output messages)

pub absent : {T : Type 0} (known : Ghosts T) (listing : Option T) → is_some listing ≡ false
    → (object messages : OutputState) (map : Map) (table : Table) (flags number : ℕ) (given : UnfoldedLine)
    → Gains (outputs object (optional_output known listing) messages) (outputs object (optional_output known listing) messages)
    (listing_writes map table flags number given)
unfolding listing_writes
absent known None none object messages map table flags number given =
    absent_by object messages (lines_of map table flags number given) (is_listed (after_line map table given) given flags)
absent known (Some sink) none object messages map table flags number given = absurd (cc)

-- ---- a line

module _ (map : Map) (table : Table) (given : UnfoldedLine) (placed : PlacedLine) (emission : Emission) (contents : List PieceContent)
    (is : IsPlaced map table given placed emission) (same : emission.contents ≡ contents) (flags number : ℕ) where
  listed_by : is_listed (after_line map table given) given flags ≡ not (flags == 0) || placed.is_shown
  listed_by = ap (λ (b : Bool). not (flags == 0) || b) (sym is.shown_is)

  pub unlisted : not (flags == 0) || placed.is_shown ≡ false → listing_writes map table flags number given ≡ []
  unfolding listing_writes
  unlisted hidden =
      ap (λ (b : Bool). if b then all_to_listing (lines_of map table flags number given) else []) (listed_by ∙ hidden)

  -- the items that the code collects are those of the line
  items_so : (all : List Item) → all ≡ flat_map content_items contents ++ option_to_list placed.assigned → all ≡ items map table given
  items_so all are =
      are
      ∙ ap (λ (c : List PieceContent). flat_map content_items c ++ option_to_list placed.assigned) (sym same ∙ is.contents_are)
      ∙ ap (λ (l : List Item). flat_map content_items (line_emission map (stands table given) given).contents ++ l) is.assigned_is

  pub shown_so : ((table : Table) (line : Bytes) → location (after_labels_in table line) ≡ location table)
      → not (flags == 0) || placed.is_shown ≡ true → (all : List Item)
      → all ≡ flat_map content_items contents ++ option_to_list placed.assigned → (text : Bytes) → text ≡ placed.live.line.text
      → all_to_listing (listed_lines (flags_text flags) number placed.counter placed.location all text)
      ≡ listing_writes map table flags number given
  unfolding listing_writes
  shown_so keeps shows all are text text_is =
      let shown = flags_text flags in
      ap (λ (p : ℕ). all_to_listing (listed_lines shown number p placed.location all text))
      (is.counter_is ∙ keeps table given.live.line.text)
      ∙ ap (λ (p : ℕ). all_to_listing (listed_lines shown number (location table) p all text)) is.location_is
      ∙ ap (λ (l : List Item). all_to_listing (listed_lines shown number (location table)
      (put_location (stands table given) (action given.is_own given.arguments given.live.line.text)) l text)) (items_so all are)
      ∙ ap (λ (t : Bytes). all_to_listing (listed_lines shown number (location table)
      (put_location (stands table given) (action given.is_own given.arguments given.live.line.text)) (items map table given) t))
      (text_is ∙ ap (λ (l : Live). l.line.text) is.is_live.live_is)
      ∙ sym (ap (λ (b : Bool). if b then all_to_listing (lines_of map table flags number given) else []) (listed_by ∙ shows))
