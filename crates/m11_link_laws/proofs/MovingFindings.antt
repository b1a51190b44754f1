-- The findings of the same parts with two bottoms.
use Rattle.std.proofs.Common.{◌≡◌, ℕ, ◌+◌, ◌%◌, sum_by, nat_eq, Bool, true, false, cond, ◌&&◌, if◌then◌else◌, List, [], ◌∷◌, map, is_some, Option, Some, None, refl, sym, ap, ap₂, ◌∙◌, arith}
use Rattle.std.specs.List.{cons_option, filter_map, find}
use Rattle.std.specs.Map.{keys_of, lookup}
use Rattle.std.specs.Option.{option_map, unwrap_or}
use Rattle.m11_base.specs.Rad50.{is_same_name}
use Rattle.m11_link_modules.specs.Parts.{Part}
use Rattle.m11_link_modules.specs.Positions.{distinct, section_names, sections_in}
use Rattle.m11_link_layout.specs.Globals.{definition_value, definitions_of, first_definition, global_defined, global_reported, global_value, globals_of, location_value}
use Rattle.m11_link_layout.specs.Modules.{module_at, modules_before}
use Rattle.m11_link_layout.specs.Sections.{base_entered, contribution_base, first_attributes, module_base, names_before, offset_after, room_of, section_base, section_reported, sections_of, sizes_of, top}
use Rattle.m11_link_layout.specs.Transfers.{is_even, transfer_address, transfer_value, transfers_of}
use Rattle.m11_link_layout.specs.declared.definition.Definition.{Definition}
use Rattle.m11_link_layout.specs.declared.definition.GlobalLocation.{GlobalLocation}
use Rattle.m11_link_layout.specs.declared.definition.GlobalLocation.TheVariants.{Absolute, In}
use Rattle.m11_link_layout.specs.declared.definition.Transfer.{Transfer}
use Rattle.m11_link_layout.specs.declared.planned.PlannedGlobal.{PlannedGlobal}
use Rattle.m11_link_layout.specs.declared.planned.PlannedSection.{PlannedSection}
use Rattle.m11_link_text.specs.Findings.{findings_of}
use Rattle.m11_link_laws.specs.Moving.{Moved, counting_transfer, definition_moves, farther, global_moved, global_moves, location_moves, moved, moves, section_moved, section_moves, transfer_moves}
use Rattle.m11_link_laws.proofs.MovingNumbers.{base_moved, even_moved, sum_moved}

-- ---- sections

last_term : (bottom distance rooms : ℕ) → bottom + distance + rooms ≡ bottom + rooms + distance
last_term bottom distance rooms = omega arith

section_by : (b : Bool) (bottom distance rooms : ℕ)
    → (if b then bottom + distance + rooms else 0) ≡ farther distance b (if b then bottom + rooms else 0)
section_by true bottom distance rooms = last_term bottom distance rooms
section_by false bottom distance rooms = refl

pub section_is : (bottom distance : ℕ) (parts : List Part) (name : ℕ × ℕ)
    → section_base (bottom + distance) parts name
    ≡ farther distance (section_moves parts name) (section_base bottom parts name)
unfolding section_base
section_is bottom distance parts name =
    section_by (section_moves parts name) bottom distance
    (sum_by (room_of parts) (names_before name (section_names parts)))

pub top_is : (bottom distance : ℕ) (parts : List Part) → top (bottom + distance) parts ≡ top bottom parts + distance
unfolding top
top_is bottom distance parts = last_term bottom distance (sum_by (room_of parts) (section_names parts))

reported_is : (bottom distance : ℕ) (parts : List Part) (name : ℕ × ℕ)
    → section_reported (bottom + distance) parts name ≡ section_moved distance (section_reported bottom parts name)
reported_is bottom distance parts name =
    ap (λ base. let reported : PlannedSection = record (section_reported bottom parts name) { base = base } in reported)
    (section_is bottom distance parts name)

all_reported : (bottom distance : ℕ) (parts : List Part) (names : List (ℕ × ℕ))
    → map (section_reported (bottom + distance) parts) names
    ≡ map (section_moved distance) (map (section_reported bottom parts) names)
all_reported bottom distance parts [] = refl
all_reported bottom distance parts (name ∷ names) =
    ap₂ (λ first rest. first ∷ rest) (reported_is bottom distance parts name) (all_reported bottom distance parts names)

pub sections_are : (bottom distance : ℕ) (parts : List Part)
    → sections_of (bottom + distance) parts ≡ map (section_moved distance) (sections_of bottom parts)
unfolding sections_of
sections_are bottom distance parts = all_reported bottom distance parts (section_names parts)

-- ---- contributions

entered_by : (entered : Option ℕ) (b : Bool) (distance base offset : ℕ)
    → base_entered entered (farther distance b base + offset) % 65536
    ≡ moved distance (is_some entered && b) (base_entered entered (base + offset) % 65536)
entered_by None b distance base offset = refl
entered_by (Some size) b distance base offset = base_moved distance base offset b

pub base_is : (bottom distance : ℕ) (parts : List Part) (index : ℕ) (name : ℕ × ℕ)
    → module_base (bottom + distance) parts index name
    ≡ moved distance (moves parts index name) (module_base bottom parts index name)
unfolding module_base contribution_base
base_is bottom distance parts index name =
    let entered = lookup (is_same_name name) (sections_in (module_at parts index)) in
    let offset = offset_after (first_attributes parts name) (sizes_of (modules_before parts index) name) in
    ap (λ base. base_entered entered (base + offset) % 65536) (section_is bottom distance parts name)
    ∙ entered_by entered (section_moves parts name) distance (section_base bottom parts name) offset

-- ---- globals

location_is : (bottom distance : ℕ) (parts : List Part) (index : ℕ) (location : GlobalLocation)
    → location_value (bottom + distance) parts index location
    ≡ moved distance (location_moves parts index location) (location_value bottom parts index location)
location_is bottom distance parts index (Absolute value) = refl
location_is bottom distance parts index (In section value) =
    ap (λ base. (base + value) % 65536) (base_is bottom distance parts index section)
    ∙ sum_moved distance (module_base bottom parts index section) value (moves parts index section)

defined_is : (bottom distance : ℕ) (parts : List Part) (found : Option Definition)
    → option_map (definition_value (bottom + distance) parts) found
    ≡ option_map (moved distance (definition_moves parts found)) (option_map (definition_value bottom parts) found)
defined_is bottom distance parts None = refl
defined_is bottom distance parts (Some definition) =
    ap (λ value. Some value) (location_is bottom distance parts definition.module_index definition.location)

pub value_is : (bottom distance : ℕ) (parts : List Part) (name : ℕ × ℕ)
    → global_value (bottom + distance) parts name
    ≡ option_map (moved distance (global_moves parts name)) (global_value bottom parts name)
unfolding global_value global_moves
value_is bottom distance parts name = defined_is bottom distance parts (first_definition parts name)

-- the value of a global, or 0 if it is defined nowhere, moves as its definition does
symbol_by : (bottom distance : ℕ) (parts : List Part) (found : Option Definition)
    → unwrap_or (option_map (definition_value (bottom + distance) parts) found) 0
    ≡ moved distance (definition_moves parts found) (unwrap_or (option_map (definition_value bottom parts) found) 0)
symbol_by bottom distance parts None = refl
symbol_by bottom distance parts (Some definition) =
    location_is bottom distance parts definition.module_index definition.location

pub symbol_is : (bottom distance : ℕ) (parts : List Part) (name : ℕ × ℕ)
    → unwrap_or (global_value (bottom + distance) parts name) 0
    ≡ moved distance (global_moves parts name) (unwrap_or (global_value bottom parts name) 0)
unfolding global_value global_moves
symbol_is bottom distance parts name = symbol_by bottom distance parts (first_definition parts name)

global_by : (bottom distance : ℕ) (parts : List Part) (name : ℕ × ℕ) (found : Option Definition)
    → option_map (global_reported (bottom + distance) parts name) found
    ≡ option_map (λ global. let reported : PlannedGlobal = record global {
      value = moved distance (definition_moves parts found) global.value;
    } in reported) (option_map (global_reported bottom parts name) found)
global_by bottom distance parts name None = refl
global_by bottom distance parts name (Some definition) =
    ap (λ value. Some (let reported : PlannedGlobal =
    record (global_reported bottom parts name definition) { value = value } in reported))
    (location_is bottom distance parts definition.module_index definition.location)

-- a global in the list moves as the name does under which it was found, since it has this name
named_by : (bottom distance : ℕ) (parts : List Part) (name : ℕ × ℕ) (found : Option Definition)
    → option_map (λ global. let reported : PlannedGlobal = record global {
      value = moved distance (global_moves parts name) global.value;
    } in reported) (option_map (global_reported bottom parts name) found)
    ≡ option_map (global_moved distance parts) (option_map (global_reported bottom parts name) found)
named_by bottom distance parts name None = refl
named_by bottom distance parts name (Some definition) = refl

global_before : (bottom distance : ℕ) (parts : List Part) (name : ℕ × ℕ)
    → global_defined (bottom + distance) parts name
    ≡ option_map (λ global. let reported : PlannedGlobal = record global {
      value = moved distance (global_moves parts name) global.value;
    } in reported) (global_defined bottom parts name)
unfolding global_moves
global_before bottom distance parts name = global_by bottom distance parts name (first_definition parts name)

global_is : (bottom distance : ℕ) (parts : List Part) (name : ℕ × ℕ)
    → global_defined (bottom + distance) parts name
    ≡ option_map (global_moved distance parts) (global_defined bottom parts name)
global_is bottom distance parts name =
    global_before bottom distance parts name
    ∙ named_by bottom distance parts name (first_definition parts name)

mapped_after : {X Y : Type 0} (f : X → Y) (one : Option X) (more : List X)
    → cons_option (option_map f one) (map f more) ≡ map f (cons_option one more)
mapped_after f None more = refl
mapped_after f (Some x) more = refl

all_globals : (bottom distance : ℕ) (parts : List Part) (names : List (ℕ × ℕ))
    → filter_map (global_defined (bottom + distance) parts) names
    ≡ map (global_moved distance parts) (filter_map (global_defined bottom parts) names)
all_globals bottom distance parts [] = refl
all_globals bottom distance parts (name ∷ names) =
    ap₂ (λ first rest. cons_option first rest) (global_is bottom distance parts name)
    (all_globals bottom distance parts names)
    ∙ mapped_after (global_moved distance parts) (global_defined bottom parts name)
    (filter_map (global_defined bottom parts) names)

pub globals_are : (bottom distance : ℕ) (parts : List Part)
    → globals_of (bottom + distance) parts ≡ map (global_moved distance parts) (globals_of bottom parts)
unfolding globals_of
globals_are bottom distance parts = all_globals bottom distance parts (distinct (keys_of (definitions_of parts)))

-- ---- the transfer address

transfer_is : (bottom distance : ℕ) (parts : List Part) (transfer : Transfer)
    → transfer_value (bottom + distance) parts transfer
    ≡ moved distance (moves parts transfer.module_index transfer.section) (transfer_value bottom parts transfer)
transfer_is bottom distance parts transfer =
    ap (λ base. (base + transfer.value) % 65536) (base_is bottom distance parts transfer.module_index transfer.section)
    ∙ sum_moved distance (module_base bottom parts transfer.module_index transfer.section) transfer.value
    (moves parts transfer.module_index transfer.section)

even_is : (bottom distance : ℕ) (parts : List Part) (transfer : Transfer) → distance % 2 ≡ 0
    → is_even (transfer_value (bottom + distance) parts transfer) ≡ is_even (transfer_value bottom parts transfer)
even_is bottom distance parts transfer e =
    ap (λ address. is_even address) (transfer_is bottom distance parts transfer)
    ∙ ap (λ rest. nat_eq rest 0) (even_moved distance (transfer_value bottom parts transfer)
    (moves parts transfer.module_index transfer.section) e)

find_same : (p q : Transfer → Bool) (transfers : List Transfer) → ((transfer : Transfer) → p transfer ≡ q transfer)
    → find p transfers ≡ find q transfers
find_same p q [] h = refl
find_same p q (transfer ∷ transfers) h =
    ap₂ (λ b rest. cond b (Some transfer) rest) (h transfer) (find_same p q transfers h)

pub counting_is : (bottom distance : ℕ) (parts : List Part) → distance % 2 ≡ 0
    → counting_transfer (bottom + distance) parts ≡ counting_transfer bottom parts
unfolding counting_transfer
counting_is bottom distance parts e =
    find_same (λ transfer. is_even (transfer_value (bottom + distance) parts transfer))
    (λ transfer. is_even (transfer_value bottom parts transfer)) (transfers_of parts)
    (λ transfer. even_is bottom distance parts transfer e)

find_mapped : {X Y : Type 0} (p : Y → Bool) (f : X → Y) (xs : List X)
    → find p (map f xs) ≡ option_map f (find (λ x. p (f x)) xs)
find_mapped p f [] = refl
find_mapped {X} {Y} p f (x ∷ xs) = by (p (f x)) (f x) x _ _ (find_mapped p f xs) refl
  where
    by : (b : Bool) (y : Y) (x : X) (more : Option Y) (rest : Option X) → more ≡ option_map f rest → f x ≡ y
        → cond b (Some y) more ≡ option_map f (cond b (Some x) rest)
    by true y x more rest e h = ap (λ z. Some z) (sym h)
    by false y x more rest e h = e

-- the transfer address is the value of the entry that counts, or 1 if there is none
pub address_is : (bottom : ℕ) (parts : List Part)
    → transfer_address bottom parts
    ≡ unwrap_or (option_map (transfer_value bottom parts) (counting_transfer bottom parts)) 1
unfolding transfer_address counting_transfer
address_is bottom parts =
    ap (λ found. unwrap_or found 1) (find_mapped is_even (transfer_value bottom parts) (transfers_of parts))

worth_by : (bottom distance : ℕ) (parts : List Part) (found : Option Transfer)
    → unwrap_or (option_map (transfer_value (bottom + distance) parts) found) 1
    ≡ moved distance (transfer_moves parts found) (unwrap_or (option_map (transfer_value bottom parts) found) 1)
worth_by bottom distance parts None = refl
worth_by bottom distance parts (Some transfer) = transfer_is bottom distance parts transfer

pub address_moved : (bottom distance : ℕ) (parts : List Part) → distance % 2 ≡ 0
    → transfer_address (bottom + distance) parts
    ≡ moved distance (transfer_moves parts (counting_transfer bottom parts)) (transfer_address bottom parts)
address_moved bottom distance parts e =
    address_is (bottom + distance) parts
    ∙ ap (λ found. unwrap_or (option_map (transfer_value (bottom + distance) parts) found) 1)
    (counting_is bottom distance parts e)
    ∙ worth_by bottom distance parts (counting_transfer bottom parts)
    ∙ ap (λ address. moved distance (transfer_moves parts (counting_transfer bottom parts)) address)
    (sym (address_is bottom parts))

-- ---- all findings

pub findings_moved : (bottom distance : ℕ) (parts : List Part)
    → Moved distance parts (findings_of bottom parts) (findings_of (bottom + distance) parts)
unfolding findings_of
findings_moved bottom distance parts = record {
  base = λ index name. base_is bottom distance parts index name;
  value = λ name. value_is bottom distance parts name;
  attributes = λ name. refl;
  module_name = λ index. refl;
  sections = sections_are bottom distance parts;
  globals = globals_are bottom distance parts;
  references = refl;
  transfer = λ e. address_moved bottom distance parts e;
  bottom = refl;
  top = top_is bottom distance parts;
}
