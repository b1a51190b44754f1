-- The objects of the worked program can be written and read back: tests of their records yield true, and records that pass them fit.
use Rattle.std.proofs.Common.{◌≡◌, ℕ, ◌+◌, ◌<◌, Bool, true, false, ◌&&◌, not, List, [], ◌∷◌, length, Option, Some, None, IfSome, nat_le, nat_lt, refl}
use Rattle.std.proofs.lemmas.Bool.{leb-true, ltb-true}
use Rattle.std.proofs.lemmas.List.Elements.{All-from_recursion}
use Rattle.std.specs.List.{AllByRecursion, list_all}
use Rattle.m11_asm_directory.specs.Rows.{directory_rows}
use Rattle.m11_asm_rules.specs.Lines.{line_change, line_emission}
use Rattle.m11_asm_rules.specs.Sections.{first_sections, of_program, section}
use Rattle.m11_base.specs.Instructions.{other_names, row_of, rows}
use Rattle.m11_base.specs.Names.{blank_name}
use Rattle.m11_base.specs.Rad50.{IsName, Name, alphabet, code_of, word_limit}
use Rattle.m11_obj.specs.Directory.{is_one_record}
use Rattle.m11_obj.specs.Fronts.{fronts_of}
use Rattle.m11_obj.specs.Gsd.{EntryFits}
use Rattle.m11_obj.specs.Records.{Content, EndOfGsd, EndOfModule, Fits, Gsd, InternalSymbols, Relocations, Text}
use Rattle.m11_obj.specs.Relocations.{FormExists, RelocationFits, parts_of, relocations_bytes}
use Rattle.m11_obj.specs.Texts.{is_one_text}
use Rattle.m11_obj.specs.declared.gsd.GsdEntry.{GsdEntry}
use Rattle.m11_obj.specs.declared.pieces.Piece.{Piece}
use Rattle.m11_obj.specs.declared.relocations.Relocation.{Relocation}
use Rattle.m11_obj.specs.declared.relocations.Target.{Target}
use Rattle.m11_scan.specs.Pieces.{first_piece}
use Rattle.m11_scan_expressions.specs.Values.{value_of}
use Rattle.m11_cli_image.specs.Objects.{LiesAtWord, SourceFits, contents_of}
use Rattle.m11_cli_image.specs.Sources.{Source}
use Rattle.m11_cli_image.specs.Worked.{fetching, giving, worked_source, worked_sources}

-- ---- tests

-- two tests yield true if both together do
both : (one two : Bool) → (one && two) ≡ true → (one ≡ true) × (two ≡ true)
both true two e = (refl, e)
both false two e = absurd cc

-- elements that pass a test have what the test shows
all_pass : {A : Type 0} (test : A → Bool) (Has : A → Type 0) (shows : (x : A) → test x ≡ true → Has x) (xs : List A)
    → list_all test xs ≡ true → AllByRecursion Has xs
all_pass test Has shows [] e = tt
all_pass test Has shows (x ∷ xs) e =
    let parts = both (test x) (list_all test xs) e in (shows x parts.0, all_pass test Has shows xs parts.1)

abbrev name_passes : Name → Bool
name_passes name = nat_lt name.0 word_limit && nat_lt name.1 word_limit

name_is : (name : Name) → name_passes name ≡ true → IsName name
name_is name e =
    let parts = both (nat_lt name.0 word_limit) (nat_lt name.1 word_limit) e in
    (ltb-true name.0 word_limit parts.0, ltb-true name.1 word_limit parts.1)

abbrev entry_passes : GsdEntry → Bool
entry_passes entry = name_passes entry.name && (nat_lt entry.flags 256 && nat_lt entry.value 65536)

entry_fits : (entry : GsdEntry) → entry_passes entry ≡ true → EntryFits entry
entry_fits entry e =
    let parts = both (name_passes entry.name) (nat_lt entry.flags 256 && nat_lt entry.value 65536) e in
    let numbers = both (nat_lt entry.flags 256) (nat_lt entry.value 65536) parts.1 in record {
      name = name_is entry.name parts.0;
      flags = ltb-true entry.flags 256 numbers.0;
      value = ltb-true entry.value 65536 numbers.1;
    }

abbrev some_passes : {A : Type 0} → (A → Bool) → Option A → Bool
some_passes test None = true
some_passes test (Some x) = test x

some_has : {A : Type 0} (test : A → Bool) (Has : A → Type 0) (shows : (x : A) → test x ≡ true → Has x) (found : Option A)
    → some_passes test found ≡ true → IfSome found Has
some_has test Has shows None e = tt
some_has test Has shows (Some x) e = shows x e

abbrev word_passes : ℕ → Bool
word_passes word = nat_lt word 65536

word_fits : (word : ℕ) → word_passes word ≡ true → word < 65536
word_fits word e = ltb-true word 65536 e

form_exists : (is_byte : Bool) (target : Target) → not is_byte ≡ true → FormExists is_byte target
form_exists true target e = absurd cc
form_exists false target e = tt

-- no relocation of the program is of a byte
abbrev relocation_passes : Relocation → Bool
relocation_passes relocation = not relocation.is_byte && (nat_lt relocation.displacement 256
    && (some_passes name_passes (parts_of relocation.target).name && some_passes word_passes (parts_of relocation.target).constant))

relocation_fits : (relocation : Relocation) → relocation_passes relocation ≡ true → RelocationFits relocation
relocation_fits relocation e =
    let fields = some_passes name_passes (parts_of relocation.target).name && some_passes word_passes (parts_of relocation.target).constant in
    let parts = both (not relocation.is_byte) (nat_lt relocation.displacement 256 && fields) e in
    let numbers = both (nat_lt relocation.displacement 256) fields parts.1 in
    let options =
    both (some_passes name_passes (parts_of relocation.target).name) (some_passes word_passes (parts_of relocation.target).constant) numbers.1
    in record {
      form = form_exists relocation.is_byte relocation.target parts.0;
      displacement = ltb-true relocation.displacement 256 numbers.0;
      name = some_has name_passes IsName name_is (parts_of relocation.target).name options.0;
      constant = some_has word_passes (λ word. word < 65536) word_fits (parts_of relocation.target).constant options.1;
    }

abbrev content_passes : Content → Bool
content_passes (Gsd entries) = nat_le (length entries) 63 && list_all entry_passes entries
content_passes (Text address bytes) = nat_lt address 65536 && nat_le (length bytes + 4) 512
content_passes (Relocations relocations) =
    nat_le (length (relocations_bytes relocations) + 2) 512 && list_all relocation_passes relocations
content_passes other = true

content_fits : (content : Content) → content_passes content ≡ true → Fits content
content_fits (Gsd entries) e =
    let parts = both (nat_le (length entries) 63) (list_all entry_passes entries) e in
    (leb-true (length entries) 63 parts.0, All-from_recursion EntryFits entries (all_pass entry_passes EntryFits entry_fits entries parts.1))
content_fits (Text address bytes) e =
    let parts = both (nat_lt address 65536) (nat_le (length bytes + 4) 512) e in
    (ltb-true address 65536 parts.0, leb-true (length bytes + 4) 512 parts.1)
content_fits (Relocations relocations) e =
    let parts = both (nat_le (length (relocations_bytes relocations) + 2) 512) (list_all relocation_passes relocations) e in (
      leb-true (length (relocations_bytes relocations) + 2) 512 parts.0,
      All-from_recursion RelocationFits relocations
          (all_pass relocation_passes RelocationFits relocation_fits relocations parts.1),
    )
content_fits EndOfGsd e = tt
content_fits InternalSymbols e = tt
content_fits EndOfModule e = tt

abbrev piece_passes : Piece → Bool
piece_passes piece = nat_lt piece.location 65536

piece_lies : (piece : Piece) → piece_passes piece ≡ true → LiesAtWord piece
piece_lies piece e = ltb-true piece.location 65536 e

-- ---- the two sources

fetching_passes : (list_all content_passes (contents_of (worked_source fetching)) && list_all piece_passes (worked_source fetching).pieces) ≡ true
unfolding alphabet code_of first_piece value_of line_change line_emission rows other_names row_of fronts_of directory_rows is_one_record is_one_text
fetching_passes = refl

giving_passes : (list_all content_passes (contents_of (worked_source giving)) && list_all piece_passes (worked_source giving).pieces) ≡ true
unfolding alphabet code_of first_piece value_of line_change line_emission rows other_names row_of fronts_of directory_rows is_one_record is_one_text
giving_passes = refl

-- a source whose sections are those before its first line fits if its records and pieces pass
source_fits : (source : Source) → source.facts.table.sections ≡ first_sections
    → (list_all content_passes (contents_of source) && list_all piece_passes source.pieces) ≡ true → SourceFits source
source_fits source sections e =
    let parts = both (list_all content_passes (contents_of source)) (list_all piece_passes source.pieces) e in record {
      records = all_pass content_passes Fits content_fits (contents_of source) parts.0;
      locations = all_pass piece_passes LiesAtWord piece_lies source.pieces parts.1;
      others = section blank_name of_program ∷ [];
      absolute = sections;
    }

fetching_sections : (worked_source fetching).facts.table.sections ≡ first_sections
unfolding alphabet code_of first_piece value_of line_change rows other_names row_of
fetching_sections = refl

giving_sections : (worked_source giving).facts.table.sections ≡ first_sections
unfolding alphabet code_of first_piece value_of line_change rows other_names row_of
giving_sections = refl

pub worked_fit : AllByRecursion SourceFits worked_sources
worked_fit = (
  source_fits (worked_source fetching) fetching_sections fetching_passes,
  (source_fits (worked_source giving) giving_sections giving_passes, tt),
)
