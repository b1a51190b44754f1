-- The pieces of a line have the addresses and the bytes of the values that the line states.
use Rattle.std.proofs.Common.{◌≡◌, ℕ, ◌<◌, true, false, map, refl, arith}
use Rattle.m11_base.specs.Devices.{Bytes}
use Rattle.m11_asm_rules.specs.Alignment.{location_for}
use Rattle.m11_asm_rules.specs.Contents.{further}
use Rattle.m11_asm_rules.specs.Effects.{is_even, stored}
use Rattle.m11_asm_rules.specs.Fields.{forms_of}
use Rattle.m11_asm_rules.specs.Instructions.{fields, line_context}
use Rattle.m11_asm_rules.specs.Actions.{Action, AlignTo, ByteList, LimitWords, Operate, PackedText, Room, Storage, Store, Text, WordList}
use Rattle.m11_asm_rules.specs.Lines.{line_emission, pieces, emission_by, put_location, stands}
use Rattle.m11_asm_rules.specs.Operations.{action}
use Rattle.m11_asm_rules.specs.Meanings.{Map, known_at}
use Rattle.m11_asm_rules.specs.Relocations.{is_moved}
use Rattle.m11_asm_rules.specs.Strings.{last_byte, parts_bytes, parts_codes}
use Rattle.m11_asm_rules.specs.Tables.{Table, location, section_name}
use Rattle.m11_asm_rules.specs.declared.meanings.Context.TheVariants.{LocalOnly}
use Rattle.m11_unfold_rules.specs.Unfolding.{UnfoldedLine}
use Rattle.m11_cli_image.specs.Addresses.{Addresses}
use Rattle.m11_cli_image.specs.Pieces.{placed}
use Rattle.m11_cli_image.specs.Lines.{line_location, line_lying}
use Rattle.m11_cli_image.specs.Stated.{action_stated, line_stated, parts_stated, storage_stated}
use Rattle.m11_cli_image.proofs.OneThing.{limit_words, plain_word}
use Rattle.m11_cli_image.proofs.ManyThings.{AllStay, Mean, anywhere, both_stay, bytes_stay, characters_stay, forms_mean, laid_out, packed_stay, parts_stay, words_stay}

module _ (program : Addresses) (source : ℕ) (table : Table)
    (absolute : is_moved table ≡ false → program.base source (section_name table) ≡ 0) where
  storage_stays : (known : Map) (here : ℕ) (storage : Storage)
      → AllStay program source table absolute (stored known table here storage).contents (storage_stated known table here storage)
  storage_stays known here (WordList elements) = words_stay program source table absolute known here elements
  storage_stays known here (ByteList elements) = bytes_stay program source table absolute known here elements
  storage_stays known here (Text parts is_ended) =
      both_stay program source table absolute (parts_bytes known table here parts).contents _ (parts_stated known table here parts) _
      (parts_stay program source table absolute known here parts)
      (characters_stay program source table absolute (last_byte is_ended))
  storage_stays known here (PackedText parts) =
      packed_stay program source table absolute (parts_codes (known_at known LocalOnly table here) parts).codes
  storage_stays known here LimitWords = (λ (at : ℕ). limit_words program source table absolute at, tt)
  storage_stays known here (Room unit count) = tt
  storage_stays known here (AlignTo is_even) = tt

  further_low : (location size : ℕ) → further location size < 65536
  further_low location size = omega arith

  action_means : (known : Map) (line : Bytes) (done : Action)
      → Mean program source table absolute (put_location table done) (emission_by known table line done).contents
      (action_stated known table line done)
  action_means known line (Store storage) =
      let here = location_for (is_even storage) (location table) in
      anywhere program source table absolute here _ _ (storage_stays known here storage)
  action_means known line (Operate operation start) =
      let here = location_for true (location table) in (
        plain_word program source table absolute here _,
        forms_mean program source table absolute (line_context known table here) (further here 2)
            (forms_of (fields table here line start operation)) refl (further_low here 2),
      )
  action_means known line other = tt

  pub stood_lies : (known : Map) (given : UnfoldedLine)
      → Mean program source table absolute (line_location table given) (line_emission known table given).contents (line_stated known table given)
  unfolding line_emission line_stated
  stood_lies known given = action_means known given.live.line.text (action given.is_own given.arguments given.live.line.text)

pub line_lies : (program : Addresses) (source : ℕ) (known : Map) (table : Table) (given : UnfoldedLine)
    → (is_moved (stands table given) ≡ false → program.base source (section_name (stands table given)) ≡ 0)
    → map (placed program source) (pieces known table given) ≡ line_lying program source known (stands table given) given
line_lies program source known table given absolute =
    laid_out program source (stands table given) absolute (line_location (stands table given) given)
    (line_emission known (stands table given) given).contents (line_stated known (stands table given) given)
    (stood_lies program source (stands table given) absolute known given)
