-- Flags and symbols that are added in parts are the same as those added all at once.
use Rattle.std.proofs.Common.{◌≡◌, ℕ, sym, ap}
use Rattle.m11_scan_expressions.specs.Remarks.{Remarks, joined, no_remarks, with_flags}
use Rattle.m11_scan_expressions.proofs.Joining.{joined_nothing, or_joins}
use Rattle.std.proofs.Common.{◌++◌}

pub nothing_more : (a : Remarks) → a ≡ joined a no_remarks
nothing_more a = sym (joined_nothing a)

pub flags_after : (a b : Remarks) (flags : ℕ) → with_flags (joined a b) flags ≡ joined a (with_flags b flags)
flags_after a b flags =
    let noted : ℕ → Remarks = λ all. record { flags = all; symbols = a.symbols ++ b.symbols } in
    ap noted (or_joins a.flags b.flags flags)
