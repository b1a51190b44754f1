-- The files that a command opened have the texts that its files have.
use Rattle.std.proofs.Common.{◌≡◌, ◌∙◌, List, [], ◌∷◌, map, Option, Some, None, option_map, sym, ap, subst}
use Rattle.m11_base.specs.Devices.{Bytes}
use Rattle.m11_base.specs.Feed.{Text}
use Rattle.m11_base_files.specs.Opens.{AreFiles, Files, Holds}
use Rattle.m11_base_writes.specs.Passes.{AreKnown, IsKnown}
use Rattle.m11_cli_chain.specs.Stores.{bytes_among}
use Rattle.m11_cli_chain.proofs.FilesWritten.{Fresh, fresh_files, none_is, some_is}

first_is : (one other : Option Bytes) (ones others : List (Option Bytes)) → one ∷ ones ≡ other ∷ others → one ≡ other
first_is one other ones others e = cc

rest_is : (one other : Option Bytes) (ones others : List (Option Bytes)) → one ∷ ones ≡ other ∷ others → ones ≡ others
rest_is one other ones others e = cc

nothing_is : (one : Option Bytes) (ones : List (Option Bytes)) → ◌≡◌ {A = List (Option Bytes)} [] (one ∷ ones) → ⊥
nothing_is one ones e = cc

some_are : (one : Option Bytes) (ones : List (Option Bytes)) → ◌≡◌ {A = List (Option Bytes)} (one ∷ ones) [] → ⊥
some_are one ones e = cc

text_known : (text : Option Text) (bytes : Bytes) → option_map (λ t. t.bytes) text ≡ Some bytes → IsKnown text bytes
text_known (Some t) bytes e = some_is t.bytes bytes e
text_known None bytes e = none_is bytes e

-- the file at this path was opened, and its text is known
pub one_known : (files : Option Files) → Fresh files → (path : Bytes) (text : Option Text) (bytes : Bytes) → Holds files path text
    → bytes_among path files ≡ Some bytes → IsKnown text bytes
one_known files fresh path text bytes holds is =
    let so = fresh_files files fresh in
    let P : Option Files → Type 0 = λ fs. Holds fs path text in
    text_known text bytes
    (ap (option_map (λ t. t.bytes)) (sym (subst P so.1 holds).0) ∙ sym (ap (bytes_among path) so.1) ∙ is)

pub all_known : {F : Type 0} (text : F → Option Text) (files : Option Files) → Fresh files → (paths : List Bytes) (feeds : List F)
    (sources : List Bytes) → AreFiles text files paths feeds
    → map (λ path. bytes_among path files) paths ≡ map (λ source. Some source) sources → AreKnown text feeds sources
all_known text files fresh [] [] [] are e = tt
all_known text files fresh [] [] (source ∷ sources) are e = nothing_is (Some source) (map (λ s. Some s) sources) e
all_known text files fresh [] (feed ∷ feeds) sources are e = absurd are
all_known text files fresh (path ∷ paths) [] sources are e = absurd are
all_known text files fresh (path ∷ paths) (feed ∷ feeds) [] are e =
    absurd (some_are (bytes_among path files) (map (λ p. bytes_among p files) paths) e)
all_known text files fresh (path ∷ paths) (feed ∷ feeds) (source ∷ sources) are e = (
  one_known files fresh path (text feed) source are.0
      (first_is (bytes_among path files) (Some source) (map (λ p. bytes_among p files) paths) (map (λ s. Some s) sources) e),
  all_known text files fresh paths feeds sources are.1
      (rest_is (bytes_among path files) (Some source) (map (λ p. bytes_among p files) paths) (map (λ s. Some s) sources) e),
)
