-- The bytes that are written for a record are read as that record.
use Rattle.std.proofs.Common.{◌≡◌, ℕ, List, Ok, refl, ap, ◌∙◌, arith}
use Rattle.m11_obj.specs.Records.{Content, Gsd, EndOfGsd, Text, Relocations, InternalSymbols, EndOfModule, record_data, Fits}
use Rattle.m11_obj.specs.Reading.{first_word, record_kind_of, first_type, content_after, content_of}
use Rattle.m11_obj.proofs.ReadAgain.{entries_again}
use Rattle.m11_obj.proofs.RelocationsAgain.{relocations_again}

pub record_again : (content : Content) → Fits content → content_of (record_data content) ≡ Ok content
unfolding first_word record_kind_of first_type content_after content_of
record_again (Gsd entries) fits = rw (entries_again entries fits.1) refl
record_again EndOfGsd fits = refl
record_again (Text address bytes) fits = ap (λ (a : ℕ). Ok (Text a bytes)) (omega arith)
record_again (Relocations relocations) fits = rw (relocations_again relocations fits.1) refl
record_again InternalSymbols fits = refl
record_again EndOfModule fits = refl

pub means : (content : Content) (bytes : List ℕ) → Fits content → bytes ≡ record_data content
    → content_of bytes ≡ Ok content
means content bytes fits is = ap content_of is ∙ record_again content fits
