-- The pieces that a line emits are, one by one, the values that the line states, at the same locations.
use Rattle.std.proofs.Common.{◌≡◌, ◌∙◌, ℕ, ◌<◌, Bool, true, false, if◌then◌else◌, List, [], ◌∷◌, ◌++◌, map, flat_map, refl, sym, ap, ap₂, subst, arith}
use Rattle.m11_base.specs.Devices.{Bytes}
use Rattle.m11_obj.specs.declared.pieces.PieceContent.{PieceContent}
use Rattle.m11_obj.specs.declared.pieces.PieceContent.TheVariants.{Word}
use Rattle.m11_scan_expressions.specs.Expressions.{value}
use Rattle.m11_scan_expressions.specs.Tokens.{Expression}
use Rattle.m11_asm_rules.specs.Actions.{Characters, Coded, TextPart}
use Rattle.m11_asm_rules.specs.Codes.{LineContext, form_words, is_relative}
use Rattle.m11_asm_rules.specs.Codes as codes
use Rattle.m11_asm_rules.specs.Contents.{content_size, element_value, fixed_byte, further, pieces_from}
use Rattle.m11_asm_rules.specs.Meanings.{Map, known_at}
use Rattle.m11_asm_rules.specs.Relocations.{is_moved, stored}
use Rattle.m11_asm_rules.specs.Storage.{bytes_from, words_from}
use Rattle.m11_asm_rules.specs.Strings.{packed_words, part_bytes, part_size, parts_bytes}
use Rattle.m11_asm_rules.specs.Tables.{Table, section_name}
use Rattle.m11_asm_rules.specs.declared.meanings.Context.TheVariants.{MayBeGlobal}
use Rattle.m11_asm_rules.specs.declared.operands.Form.{Form}
use Rattle.m11_asm_rules.specs.declared.operands.Form.TheVariants.{Absent, InRegister, Indexed, Unindexed, AfterCounter}
use Rattle.m11_scan_expressions.specs.Quantities.{Quantity}
use Rattle.m11_cli_image.specs.Addresses.{Addresses}
use Rattle.m11_cli_image.specs.Pieces.{placed}
use Rattle.m11_cli_image.specs.Lines.{address_in, lying_from}
use Rattle.m11_cli_image.specs.Stated.{Stated, PlainByte, ValueWord, DistanceWord, bytes_stated, form_stated, packed_stated, part_stated, parts_stated, words_stated}
use Rattle.m11_cli_image.proofs.OneThing.{Means, distance_word, plain_byte, plain_word, value_byte, value_word}

module _ (program : Addresses) (source : ℕ) (table : Table)
    (absolute : is_moved table ≡ false → program.base source (section_name table) ≡ 0) where
  abbrev M : ℕ → PieceContent → Stated → Type 0
  M location content stated = Means program source table absolute location content stated

  -- ---- one after another, the first at a location

  abbrev pub Mean : ℕ → List PieceContent → List Stated → Type 0
  Mean location [] [] = Unit {0}
  Mean location [] (stated ∷ more) = ⊥
  Mean location (content ∷ contents) [] = ⊥
  Mean location (content ∷ contents) (stated ∷ more) = M location content stated × Mean (further location (content_size content)) contents more

  pub laid_out : (location : ℕ) (contents : List PieceContent) (stated : List Stated) → Mean location contents stated
      → map (placed program source) (pieces_from (section_name table) location contents)
      ≡ lying_from program source (section_name table) location stated
  laid_out location [] [] mean = refl
  laid_out location [] (one ∷ more) mean = absurd mean
  laid_out location (content ∷ contents) [] mean = absurd mean
  laid_out location (content ∷ contents) (one ∷ more) mean =
      let address = address_in program source (section_name table) location in
      ap₂ (λ (bytes : Bytes) (rest : List (ℕ × Bytes)). (address, bytes) ∷ rest) mean.0.bytes
      (laid_out (further location (content_size content)) contents more mean.1
      ∙ ap (λ (size : ℕ). lying_from program source (section_name table) (further location size) more) mean.0.size)

  -- ---- at any location

  abbrev Stays : PieceContent → Stated → Type 0
  Stays content stated = (location : ℕ) → M location content stated

  abbrev pub AllStay : List PieceContent → List Stated → Type 0
  AllStay [] [] = Unit {0}
  AllStay [] (stated ∷ more) = ⊥
  AllStay (content ∷ contents) [] = ⊥
  AllStay (content ∷ contents) (stated ∷ more) = Stays content stated × AllStay contents more

  pub anywhere : (location : ℕ) (contents : List PieceContent) (stated : List Stated) → AllStay contents stated → Mean location contents stated
  anywhere location [] [] stay = tt
  anywhere location [] (one ∷ more) stay = stay
  anywhere location (content ∷ contents) [] stay = stay
  anywhere location (content ∷ contents) (one ∷ more) stay =
      (stay.0 location, anywhere (further location (content_size content)) contents more stay.1)

  pub both_stay : (contents others : List PieceContent) (stated more : List Stated) → AllStay contents stated → AllStay others more
      → AllStay (contents ++ others) (stated ++ more)
  both_stay [] others [] more first next = next
  both_stay [] others (one ∷ stated) more first next = absurd first
  both_stay (content ∷ contents) others [] more first next = absurd first
  both_stay (content ∷ contents) others (one ∷ stated) more first next =
      (first.0, both_stay contents others stated more first.1 next)

  -- ---- lists of expressions

  pub words_stay : (known : Map) (location : ℕ) (elements : List Expression)
      → AllStay (words_from known table location elements).contents (words_stated known table location elements)
  words_stay known location [] = tt
  words_stay known location (element ∷ elements) = (
    λ (at : ℕ). value_word program source table absolute location at (element_value (known_at known MayBeGlobal table location) element),
    words_stay known (further location 2) elements,
  )

  pub bytes_stay : (known : Map) (location : ℕ) (elements : List Expression)
      → AllStay (bytes_from known table location elements).contents (bytes_stated known table location elements)
  bytes_stay known location [] = tt
  bytes_stay known location (element ∷ elements) = (
    λ (at : ℕ). value_byte program source table absolute location at (element_value (known_at known MayBeGlobal table location) element),
    bytes_stay known (further location 1) elements,
  )

  -- ---- texts

  pub characters_stay : (text : Bytes) → AllStay (map fixed_byte text) (map PlainByte text)
  characters_stay [] = tt
  characters_stay (character ∷ text) = (λ (at : ℕ). plain_byte program source table absolute at character, characters_stay text)

  part_stays : (known : Map) (location : ℕ) (part : TextPart)
      → AllStay (part_bytes known table location part).contents (part_stated known table location part)
  part_stays known location (Characters text) = characters_stay text
  part_stays known location (Coded tokens) =
      (λ (at : ℕ). value_byte program source table absolute location at (value (known_at known MayBeGlobal table location) tokens), tt)

  pub parts_stay : (known : Map) (location : ℕ) (parts : List TextPart)
      → AllStay (parts_bytes known table location parts).contents (parts_stated known table location parts)
  parts_stay known location [] = tt
  parts_stay known location (part ∷ parts) =
      both_stay (part_bytes known table location part).contents _ (part_stated known table location part) _ (part_stays known location part)
      (parts_stay known (further location (part_size part)) parts)

  pub packed_stay : (packed : List ℕ) → AllStay (packed_words packed) (packed_stated packed)
  packed_stay [] = tt
  packed_stay (first ∷ []) = (λ (at : ℕ). plain_word program source table absolute at _, tt)
  packed_stay (first ∷ (second ∷ [])) = (λ (at : ℕ). plain_word program source table absolute at _, tt)
  packed_stay (first ∷ (second ∷ (third ∷ packed))) = (λ (at : ℕ). plain_word program source table absolute at _, packed_stay packed)

  -- ---- operands; a relative one is stored for its own location

  further_low : (location size : ℕ) → further location size < 65536
  further_low location size = omega arith

  no_further : (location : ℕ) → location < 65536 → further location 0 ≡ location
  no_further location low = omega arith

  after_counter : (location : ℕ) (value : Quantity) (relative : Bool) → location < 65536
      → M location (Word (stored table relative location value)) (if relative then DistanceWord value else ValueWord value)
  after_counter location value true low = distance_word program source table absolute location value low
  after_counter location value false low = value_word program source table absolute location location value

  pub forms_mean : (line_context : LineContext) (location : ℕ) (forms : List (Form Expression)) → line_context.table ≡ table → location < 65536
      → Mean location (codes.words_from line_context location forms).contents (flat_map (form_stated line_context) forms)
  forms_mean line_context location [] same low = tt
  forms_mean line_context location (Absent ∷ forms) same low =
      subst (λ (p : ℕ). Mean location (codes.words_from line_context p forms).contents (flat_map (form_stated line_context) forms))
      (sym (no_further location low)) (forms_mean line_context location forms same low)
  forms_mean line_context location (InRegister kind register ∷ forms) same low =
      subst (λ (p : ℕ). Mean location (codes.words_from line_context p forms).contents (flat_map (form_stated line_context) forms))
      (sym (no_further location low)) (forms_mean line_context location forms same low)
  forms_mean line_context location (Indexed kind register index ∷ forms) same low = (
    subst (λ (t : Table). M location (Word (stored t false location (value line_context.refers index)))
        (ValueWord (value line_context.refers index))) (sym same)
        (value_word program source table absolute location location (value line_context.refers index)),
    forms_mean line_context (further location 2) forms same (further_low location 2),
  )
  forms_mean line_context location (Unindexed register ∷ forms) same low =
      (plain_word program source table absolute location 0, forms_mean line_context (further location 2) forms same (further_low location 2))
  forms_mean line_context location (AfterCounter kind number ∷ forms) same low = (
    subst (λ (t : Table). M location (Word (stored t (is_relative kind) location (value line_context.refers number)))
        (if is_relative kind then DistanceWord (value line_context.refers number)
        else ValueWord (value line_context.refers number))) (sym same)
        (after_counter location (value line_context.refers number) (is_relative kind) low),
    forms_mean line_context (further location 2) forms same (further_low location 2),
  )
