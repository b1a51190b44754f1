-- If no location is set in a section, and its counter doesn't pass the greatest address, its pieces lie in the order of the lines.
use Rattle.std.proofs.Common.{◌≡◌, ◌∙◌, ℕ, ◌+◌, ◌%◌, ◌<◌, ◌≤◌, Bool, true, false, List, [], ◌∷◌, ◌++◌, refl, sym, ap, subst, arith, inl, inr, true≢false}
use Rattle.std.proofs.lemmas.Bool.Decides.{nat_tests}
use Rattle.std.proofs.lemmas.List.{append-nil, append_assoc}
use Rattle.std.specs.Prelude.{◌==◌, if◌then◌else◌}
use Rattle.m11_base.specs.Rad50.{Name}
use Rattle.m11_obj.specs.declared.pieces.Piece.{Piece}
use Rattle.m11_obj.specs.declared.pieces.PieceContent.{PieceContent}
use Rattle.m11_unfold_rules.specs.Unfolding.{UnfoldedLine}
use Rattle.m11_asm_rules.proofs.History.{Agrees, first_agrees, line_agrees, stood_agrees}
use Rattle.m11_asm_rules.proofs.LabelLocations.{standing}
use Rattle.m11_asm_rules.proofs.LinesFill.{lines_fill}
use Rattle.m11_asm_rules.specs.Alignment.{gap}
use Rattle.m11_asm_rules.specs.Changes.{Change, Keeps, Counts, Selects, Assigns, Numbers, Exports, Sets}
use Rattle.m11_asm_rules.specs.Contents.{content_size, contents_size, further, pieces_from}
use Rattle.m11_asm_rules.specs.Filling.{Fills, gap_before}
use Rattle.m11_asm_rules.specs.History.{change_moves, line_moves, moves_from, moves_of}
use Rattle.m11_asm_rules.specs.Lines.{after_line, line_change, line_emission, pieces, put_location, stands}
use Rattle.m11_asm_rules.specs.Actions.{Action, Operate, Store}
use Rattle.m11_asm_rules.specs.Operations.{action}
use Rattle.m11_asm_rules.specs.Meanings.{Map}
use Rattle.m11_asm_rules.specs.Order.{LieFrom, pieces_if, pieces_in}
use Rattle.m11_asm_rules.specs.Locations.{Goes, Move, SectionMove, Steps, has_set, in_section, last_set, location_after, location_in, moves_in, sizes_since}
use Rattle.m11_asm_rules.specs.Tables.{Table, firm_table, first_table, location, section_name}

-- ---- moves of one section without a set location

unset_front : (moves more : List Move) → has_set (moves ++ more) ≡ false → has_set moves ≡ false
unset_front [] more unset = refl
unset_front (Steps size ∷ moves) more unset = unset_front moves more unset
unset_front (Goes location ∷ moves) more unset = unset

sizes_front : (moves more : List Move) → has_set (moves ++ more) ≡ false → sizes_since moves ≤ sizes_since (moves ++ more)
sizes_front [] more unset = omega arith
sizes_front (Steps size ∷ moves) more unset =
    let rest : sizes_since moves ≤ sizes_since (moves ++ more) = sizes_front moves more unset in
    let front : has_set moves ≡ false = unset_front moves more unset in
    rw (front, unset) (omega (arith, rest))
sizes_front (Goes location ∷ moves) more unset = absurd (true≢false unset)

none_set : (moves : List Move) → has_set moves ≡ false → last_set moves ≡ 0
none_set [] unset = refl
none_set (Steps size ∷ moves) unset = none_set moves unset
none_set (Goes location ∷ moves) unset = absurd (true≢false unset)

sizes_more : (moves : List Move) (size : ℕ) → has_set moves ≡ false
    → sizes_since (moves ++ Steps size ∷ []) ≡ sizes_since moves + size
sizes_more [] size unset = omega arith
sizes_more (Steps first ∷ moves) size unset =
    let rest : sizes_since (moves ++ Steps size ∷ []) ≡ sizes_since moves + size = sizes_more moves size unset in
    let whole : has_set (moves ++ Steps size ∷ []) ≡ false = unset_more moves size unset in
    rw (unset, whole) (omega (arith, rest))
  where
    unset_more : (moves : List Move) (size : ℕ) → has_set moves ≡ false → has_set (moves ++ Steps size ∷ []) ≡ false
    unset_more [] size unset = refl
    unset_more (Steps first ∷ moves) size unset = unset_more moves size unset
    unset_more (Goes location ∷ moves) size unset = absurd (true≢false unset)
sizes_more (Goes location ∷ moves) size unset = absurd (true≢false unset)

-- ---- moves of all sections

abbrev move_if : Bool → Move → List Move
move_if true move = move ∷ []
move_if false move = []

moves_add : (section other : ℕ) (moves : List SectionMove) (move : Move)
    → moves_in section (moves ++ in_section other move ∷ []) ≡ moves_in section moves ++ move_if (other == section) move
moves_add section other [] move = by_here (other == section)
  where
    by_here : (is_here : Bool) → (if is_here then move ∷ [] else []) ≡ move_if is_here move
    by_here true = refl
    by_here false = refl
moves_add section other (first ∷ moves) move =
    rw (moves_add section other moves move)
    (by_first (first.section == section) first.move (moves_in section moves) (move_if (other == section) move))
  where
    by_first : (is_here : Bool) (first : Move) (before more : List Move)
        → (if is_here then first ∷ (before ++ more) else before ++ more) ≡ (if is_here then first ∷ before else before) ++ more
    by_first true first before more = refl
    by_first false first before more = refl

-- ---- the pieces of one line

-- the pieces lie one after another, beginning no earlier than the first location and ending no later than the second
abbrev LieWithin : ℕ → ℕ → List Piece → Type 0
LieWithin location end [] = location ≤ end
LieWithin location end (piece ∷ pieces) =
    (location ≤ piece.location) × LieWithin (piece.location + content_size piece.content) end pieces

lie_later : (one other : ℕ) (pieces : List Piece) → one ≤ other → LieFrom other pieces → LieFrom one pieces
lie_later one other [] later lie = tt
lie_later one other (piece ∷ pieces) later lie =
    let begins : other ≤ piece.location = lie.0 in
    (omega (arith, later, begins), lie.1)

lie_on : (location end : ℕ) (first next : List Piece) → LieWithin location end first → LieFrom end next → LieFrom location (first ++ next)
lie_on location end [] next within lie = lie_later location end next within lie
lie_on location end (piece ∷ first) next within lie =
    (within.0, lie_on (piece.location + content_size piece.content) end first next within.1 lie)

within_later : (one other end : ℕ) (pieces : List Piece) → one ≤ other → LieWithin other end pieces → LieWithin one end pieces
within_later one other end [] later within =
    let ends : other ≤ end = within in
    omega (arith, later, ends)
within_later one other end (piece ∷ pieces) later within =
    let begins : other ≤ piece.location = within.0 in
    (omega (arith, later, begins), within.1)

further_is : (location size : ℕ) → location + size ≤ 65535 → further location size ≡ location + size
further_is location size fits = omega (arith, fits)

pieces_lie : (section : Name) (location : ℕ) (contents : List PieceContent) → location + contents_size contents ≤ 65535
    → LieWithin location (location + contents_size contents) (pieces_from section location contents)
pieces_lie section location [] fits = omega arith
pieces_lie section location (content ∷ contents) fits =
    let all : location + (content_size content + contents_size contents) ≤ 65535 = fits in
    let next : further location (content_size content) ≡ location + content_size content
    = further_is location (content_size content) (omega (arith, all)) in
    let P : ℕ → Type 0 = λ n. LieWithin (location + content_size content) n
    (pieces_from section (location + content_size content) contents) in
    let Q : ℕ → Type 0 = λ n. LieWithin (location + content_size content) (location + (content_size content + contents_size contents))
    (pieces_from section n contents) in
    let sum : location + content_size content + contents_size contents ≡ location + (content_size content + contents_size contents)
    = omega arith in
    let rest : LieWithin (location + content_size content) (location + content_size content + contents_size contents)
    (pieces_from section (location + content_size content) contents)
    = pieces_lie section (location + content_size content) contents (omega (arith, all)) in
    (omega arith, subst Q (sym next) (subst P sum rest))

-- if the counter is below 65536, a line emits its contents right after the gap, modulo 65536
start_is : (table : Table) (does : Action) → location table < 65536
    → put_location table does ≡ (location table + gap_before table does) % 65536
start_is table (Store storage) below = refl
start_is table (Operate operation start) below = refl
start_is table other below = omega (arith, below)

-- ---- a line

abbrev sizes : ℕ → List SectionMove → ℕ
sizes section moves = sizes_since (moves_in section moves)

abbrev IsUnset : ℕ → List SectionMove → Type 0
IsUnset section moves = has_set (moves_in section moves) ≡ false

-- no earlier line sets the location of the section, and the pieces lie one after another between the sizes of the earlier lines and `end`
record Lies (section end : ℕ) (before : List SectionMove) (found : List Piece) : Type 0 where
  unset : IsUnset section before
  within : LieWithin (sizes section before) end found

-- if no line sets the location of a section, and the sizes of its lines are at most 65535 in all, the location is the sum of the sizes
location_is : (section : ℕ) (moves : List SectionMove) → IsUnset section moves → sizes section moves ≤ 65535
    → location_in section moves ≡ sizes section moves
location_is section moves unset fits = rw (none_set (moves_in section moves) unset) (omega (arith, fits))

-- the moves that a change adds to a section, if it is the current one (true) or not (false)
abbrev added : Bool → Change → List Move
added is_here (Counts move) = move_if is_here move
added is_here other = []

stays : (section : ℕ) (moves : List SectionMove) → moves_in section (moves ++ []) ≡ moves_in section moves ++ []
stays section moves =
    ap (λ (l : List SectionMove). moves_in section l) (append-nil moves) ∙ sym (append-nil (moves_in section moves))

grown : (section other : ℕ) (moves : List SectionMove) (change : Change)
    → moves_in section (moves ++ change_moves other change) ≡ moves_in section moves ++ added (other == section) change
grown section other moves Keeps = stays section moves
grown section other moves (Counts move) = moves_add section other moves move
grown section other moves (Selects name attributes) = stays section moves
grown section other moves (Assigns name is_global tokens) = stays section moves
grown section other moves (Numbers name number) = stays section moves
grown section other moves (Exports names) = stays section moves
grown section other moves (Sets modes) = stays section moves

-- if a line emits nothing into a section, no piece lies out of place
empty_lies : (section : ℕ) (before after : List SectionMove) (more : List Move)
    → moves_in section after ≡ moves_in section before ++ more → IsUnset section after
    → Lies section (sizes section after) before []
empty_lies section before after more grows unset =
    let P : List Move → Type 0 = λ l. has_set l ≡ false in
    let whole : has_set (moves_in section before ++ more) ≡ false = subst P grows unset in
    let Q : List Move → Type 0 = λ l. sizes_since (moves_in section before) ≤ sizes_since l in
    record {
      unset = unset_front (moves_in section before) more whole;
      within = subst Q (sym grows) (sizes_front (moves_in section before) more whole);
    }

-- if a line emits contents after a gap, the pieces lie between the location before the line and the location after it
filled_lies : (section gap start : ℕ) (name : Name) (contents : List PieceContent) (before after : List SectionMove)
    → moves_in section after ≡ moves_in section before ++ Steps (gap + contents_size contents) ∷ []
    → IsUnset section after → sizes section after ≤ 65535 → start ≡ (location_in section before + gap) % 65536
    → Lies section (sizes section after) before (pieces_from name start contents)
filled_lies section gap start name contents before after grows unset fits begins =
    let P : List Move → Type 0 = λ l. has_set l ≡ false in
    let whole : has_set (moves_in section before ++ Steps (gap + contents_size contents) ∷ []) ≡ false = subst P grows unset in
    let front : IsUnset section before
    = unset_front (moves_in section before) (Steps (gap + contents_size contents) ∷ []) whole in
    let ends : sizes section after ≡ sizes section before + (gap + contents_size contents)
    = ap sizes_since grows ∙ sizes_more (moves_in section before) (gap + contents_size contents) front in
    let at : location_in section before ≡ sizes section before = location_is section before front (omega (arith, fits, ends)) in
    let first : start ≡ sizes section before + gap = omega (arith, begins, at, ends, fits) in
    let lie : LieWithin (sizes section before + gap) (sizes section before + gap + contents_size contents)
    (pieces_from name (sizes section before + gap) contents)
    = pieces_lie name (sizes section before + gap) contents (omega (arith, ends, fits)) in
    let last : sizes section before + gap + contents_size contents ≡ sizes section after = omega (arith, ends) in
    let Q : ℕ → Type 0 = λ n. LieWithin (sizes section before + gap) n (pieces_from name (sizes section before + gap) contents) in
    let R : ℕ → Type 0 = λ n. LieWithin (sizes section before + gap) (sizes section after) (pieces_from name n contents) in
    record {
      unset = front;
      within = within_later (sizes section before) (sizes section before + gap) (sizes section after)
          (pieces_from name start contents) (omega arith) (subst R (sym first) (subst Q last lie));
    }

is_here : (one other : ℕ) → (one == other) ≡ true → one ≡ other
is_here one other same = grind (arith, nat_tests)

none_of : (is_here : Bool) → pieces_if is_here [] ≡ []
none_of true = refl
none_of false = refl

-- the pieces of a line lie in place, whether the line is in this section or in another one
line_by : (is_here : Bool) (section other gap start : ℕ) (name : Name) (contents : List PieceContent) (change : Change)
    (before after : List SectionMove) → (other == section) ≡ is_here
    → moves_in section after ≡ moves_in section before ++ added is_here change
    → IsUnset section after → sizes section after ≤ 65535 → start ≡ (location_in other before + gap) % 65536 → Fills gap contents change
    → Lies section (sizes section after) before (pieces_if is_here (pieces_from name start contents))
line_by is_here section other gap start name contents change before after where_it_is grows unset fits begins (inl empty) =
    let P : List PieceContent → Type 0 = λ l.
    Lies section (sizes section after) before (pieces_if is_here (pieces_from name start l)) in
    let Q : List Piece → Type 0 = λ l. Lies section (sizes section after) before l in
    subst P (sym empty) (subst Q (sym (none_of is_here)) (empty_lies section before after (added is_here change) grows unset))
line_by true section other gap start name contents change before after where_it_is grows unset fits begins (inr steps) =
    let step : moves_in section after ≡ moves_in section before ++ Steps (gap + contents_size contents) ∷ []
    = grows ∙ ap (λ (c : Change). moves_in section before ++ added true c) steps in
    let here : start ≡ (location_in section before + gap) % 65536
    = begins ∙ ap (λ (n : ℕ). (location_in n before + gap) % 65536) (is_here other section where_it_is) in
    filled_lies section gap start name contents before after step unset fits here
line_by false section other gap start name contents change before after where_it_is grows unset fits begins (inr steps) =
    empty_lies section before after (added false change) grows unset

low : (moves : List Move) → location_after moves < 65536
low moves = omega arith

line_lies : (map : Map) (section : ℕ) (moves : List SectionMove) (table : Table) (given : UnfoldedLine) → Agrees moves (standing table)
    → IsUnset section (moves ++ line_moves table given) → sizes section (moves ++ line_moves table given) ≤ 65535
    → Lies section (sizes section (moves ++ line_moves table given)) moves
    (pieces_if ((stands table given).modes.section == section) (pieces map table given))
line_lies map section moves table given agrees unset fits =
    let stood : Table = stands table given in
    let does : Action = action given.is_own given.arguments given.live.line.text in
    let at : location stood ≡ location_in stood.modes.section moves
    = (stood_agrees moves table given agrees).counters stood.modes.section in
    let below : location stood < 65536 = subst (λ (n : ℕ). n < 65536) (sym at) (low (moves_in stood.modes.section moves)) in
    line_by (stood.modes.section == section) section stood.modes.section (gap_before stood does) (put_location stood does)
    (section_name stood) (line_emission map stood given).contents (line_change (firm_table stood) given) moves
    (moves ++ line_moves table given) refl (grown section stood.modes.section moves (line_change (firm_table stood) given)) unset fits
    (start_is stood does below ∙ ap (λ (n : ℕ). (n + gap_before stood does) % 65536) at) (lines_fill map stood given)

-- ---- all lines

within_ends : (location end : ℕ) (pieces : List Piece) → LieWithin location end pieces → location ≤ end
within_ends location end [] within = within
within_ends location end (piece ∷ pieces) within =
    let begins : location ≤ piece.location = within.0 in
    let ends : piece.location + content_size piece.content ≤ end
    = within_ends (piece.location + content_size piece.content) end pieces within.1 in
    omega (arith, begins, ends)

record AllLie (section : ℕ) (moves : List SectionMove) (found : List Piece) : Type 0 where
  unset : IsUnset section moves
  fits : sizes section moves ≤ 65535
  lie : LieFrom (sizes section moves) found

one_more : (section end : ℕ) (moves : List SectionMove) (here later : List Piece) → Lies section end moves here → end ≤ 65535
    → LieFrom end later → AllLie section moves (here ++ later)
one_more section end moves here later lies fits lie =
    let within : LieWithin (sizes section moves) end here = lies.within in
    let ends : sizes section moves ≤ end = within_ends (sizes section moves) end here within in
    record {
      unset = lies.unset;
      fits = omega (arith, ends, fits);
      lie = lie_on (sizes section moves) end here later within lie;
    }

all_lie : (map : Map) (section : ℕ) (lines : List UnfoldedLine) (moves : List SectionMove) (table : Table) → Agrees moves (standing table)
    → IsUnset section (moves ++ moves_from map table lines) → sizes section (moves ++ moves_from map table lines) ≤ 65535
    → AllLie section moves (pieces_in section map table lines)
all_lie map section [] moves table agrees unset fits =
    let P : List SectionMove → Type 0 = λ l. IsUnset section l in
    let Q : List SectionMove → Type 0 = λ l. sizes section l ≤ 65535 in
    record { unset = subst P (append-nil moves) unset; fits = subst Q (append-nil moves) fits; lie = tt }
all_lie map section (given ∷ lines) moves table agrees unset fits =
    let here : List SectionMove = moves ++ line_moves table given in
    let whole : (moves ++ (line_moves table given ++ moves_from map (after_line map table given) lines))
    ≡ here ++ moves_from map (after_line map table given) lines
    = sym (append_assoc moves (line_moves table given) (moves_from map (after_line map table given) lines)) in
    let P : List SectionMove → Type 0 = λ l. IsUnset section l in
    let Q : List SectionMove → Type 0 = λ l. sizes section l ≤ 65535 in
    let rest : AllLie section here (pieces_in section map (after_line map table given) lines)
    = all_lie map section lines here (after_line map table given) (line_agrees map moves table given agrees) (subst P whole unset)
    (subst Q whole fits) in
    one_more section (sizes section here) moves
    (pieces_if ((stands table given).modes.section == section) (pieces map table given))
    (pieces_in section map (after_line map table given) lines)
    (line_lies map section moves table given agrees rest.unset rest.fits) rest.fits rest.lie

pub in_order : (map : Map) (lines : List UnfoldedLine) (section : ℕ)
    → has_set (moves_in section (moves_of map lines)) ≡ false → sizes_since (moves_in section (moves_of map lines)) ≤ 65535
    → LieFrom 0 (pieces_in section map first_table lines)
in_order map lines section unset fits =
    let all : AllLie section [] (pieces_in section map first_table lines)
    = all_lie map section lines [] first_table first_agrees unset fits in
    all.lie
