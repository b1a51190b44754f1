-- What a listing shows of a line: its items, which are the values that the line emits or assigns; and which lines are listed. (MACRO-11
-- Language Reference Manual, "Listing control directives". This project's own: the mark that each item has; and a line of an expansion is
-- listed only with `.LIST ME`, however high the listing level, unless the line is flagged.)
use Rattle.std.specs.Prelude.{ℕ, ◌%◌, ◌==◌, ◌&&◌, ◌||◌, not, nat_le, Bool, if◌then◌else◌, List, [], ◌∷◌, ◌++◌}
use Rattle.std.specs.List.{flat_map}
use Rattle.m11_unfold_rules.specs.Definedness.{is_defined}
use Rattle.m11_scan_expressions.specs.Expressions.{value}
use Rattle.m11_asm_listing.specs.declared.items.Item.{Item}
use Rattle.m11_asm_listing.specs.declared.items.Item.TheVariants.{InByte, InWord}
use Rattle.m11_asm_listing.specs.declared.items.Mark.{Mark}
use Rattle.m11_asm_listing.specs.declared.items.Mark.TheVariants.{Unmarked, OfSection, OfObject, OfRegister}
use Rattle.m11_obj.specs.declared.pieces.PieceContent.{PieceContent}
use Rattle.m11_obj.specs.declared.pieces.PieceContent.TheVariants.{Byte, Word, Limits}
use Rattle.m11_obj.specs.declared.pieces.RelocationKind.{RelocationKind}
use Rattle.m11_obj.specs.declared.pieces.RelocationKind.TheVariants as relocation
use Rattle.m11_unfold_rules.specs.Unfolding.{UnfoldedLine}
use Rattle.m11_scan_expressions.specs.declared.kinds.Kind.{Kind}
use Rattle.m11_scan_expressions.specs.declared.kinds.Kind.TheVariants as kind
use Rattle.m11_scan_expressions.specs.Quantities.{Quantity}
use Rattle.m11_asm_rules.specs.Actions.{Action, Assign, SetNumber}
use Rattle.m11_asm_rules.specs.Lines.{line_emission, stands}
use Rattle.m11_asm_rules.specs.Meanings.{LocalOnly, Map, known_at}
use Rattle.m11_asm_rules.specs.Operations.{action}
use Rattle.m11_asm_rules.specs.Tables.{Modes, Table, location}

-- ---- emitted values: the stored constant, with a mark for its relocation

abbrev pub mark_of : RelocationKind → Mark
mark_of relocation.Fixed = Unmarked
mark_of relocation.Internal = OfSection
mark_of relocation.InternalDisplaced = Unmarked
mark_of (relocation.Global name) = OfObject
mark_of (relocation.GlobalDisplaced name) = OfObject
mark_of (relocation.Section name) = OfSection
mark_of (relocation.SectionDisplaced name) = OfSection

-- the items of emitted contents: one for a byte or a word, and two for limits, which the linker fills in and which are shown as 0
abbrev pub content_items : PieceContent → List Item
content_items (Byte stored) = InByte (stored.constant % 256) (mark_of stored.kind) ∷ []
content_items (Word stored) = InWord stored.constant (mark_of stored.kind) ∷ []
content_items Limits = InWord 0 Unmarked ∷ InWord 0 Unmarked ∷ []

-- ---- assigned values: the number, with a mark for what it is relative to

abbrev pub mark_by : Kind → Mark
mark_by kind.Absolute = Unmarked
mark_by (kind.Section name) = OfSection
mark_by kind.Register = OfRegister
mark_by (kind.Reference name) = OfObject

-- the item of an assigned value; none if the value is unknown
abbrev pub value_items : Quantity → List Item
value_items value = if is_defined value then InWord value.number (mark_by value.kind) ∷ [] else []

-- the items of an action: the assigned value, even if its name is invalid or a label's and so doesn't get the value; `.=` has no item
abbrev pub action_items : Map → Table → Action → List Item
action_items map table (Assign name is_global tokens) =
    value_items (value (known_at map LocalOnly table (location table)) tokens)
action_items map table (SetNumber name number) = InWord number Unmarked ∷ []
action_items map table other = []

abbrev pub assigned_items : Map → Table → UnfoldedLine → List Item
assigned_items map table given =
    action_items map (stands table given) (action given.is_own given.arguments given.live.line.text)

-- ---- a line: what it emits, and what it assigns; no line does both

abbrev pub items : Map → Table → UnfoldedLine → List Item
items map table given =
    flat_map content_items (line_emission map (stands table given) given).contents ++ assigned_items map table given

-- ---- which lines are listed: a flagged line always; any other line if the listing level after it isn't below 0, and a line of an
-- expansion only if `.LIST ME` is in force too

abbrev pub is_shown : Modes → Bool → Bool
is_shown modes is_expanded =
    nat_le modes.unlisted modes.listed && (not is_expanded || modes.shows_expansions)

abbrev pub is_listed : Table → UnfoldedLine → ℕ → Bool
is_listed after given flags = not (flags == 0) || is_shown after.modes given.live.is_expanded
