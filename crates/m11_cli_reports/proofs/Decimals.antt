-- The definitions that a proof unfolds to compute the digits of a literal number.
use Rattle.std.specs.Prelude.{⊤}
use Rattle.std.specs.Fmt.{digits}

unfoldable pub decimals : ⊤
unfolding digits
decimals = tt
