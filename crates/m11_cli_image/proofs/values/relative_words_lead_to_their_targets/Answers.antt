use Rattle.std.proofs.Common.{◌≡◌, ℕ, ◌+◌, ◌-◌, ◌%◌, arith}
use Rattle.m11_cli_image.proofs.values.relative_words_lead_to_their_targets.Goals as goal

leads : (address target : ℕ)
    → ((address + 2) % 65536 + (target + (65536 - (address + 2) % 65536)) % 65536) % 65536 ≡ target % 65536
leads address target = omega arith

pub returns : goal.returns
returns c = leads
