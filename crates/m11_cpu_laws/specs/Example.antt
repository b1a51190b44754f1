-- A tape with two bytes for one address. (This project's own.)
use Rattle.std.specs.Prelude.{[], ◌∷◌}
use Rattle.m11_base.specs.Devices.{Bytes}

-- with all numbers in octal: a block with the bytes 1, 2, 3 and 4 for the addresses 1000 to 1003; a block with the byte 377 for 1002, where
-- the first block has 3; and the start 1000
unfoldable pub overlaid_tape : Bytes
overlaid_tape =
    1 ∷ 0 ∷ 0o12 ∷ 0 ∷ 0 ∷ 0o2 ∷ 1 ∷ 2 ∷ 3 ∷ 4 ∷ 0o351 ∷
    1 ∷ 0 ∷ 0o7 ∷ 0 ∷ 0o2 ∷ 0o2 ∷ 0o377 ∷ 0o365 ∷
    1 ∷ 0 ∷ 0o6 ∷ 0 ∷ 0 ∷ 0o2 ∷ 0o367 ∷ []
