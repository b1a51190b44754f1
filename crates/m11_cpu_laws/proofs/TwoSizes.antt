-- Machines of two sizes into which tapes of one image were loaded.
use Rattle.std.proofs.Common.{◌≡◌, ◌∙◌, ℕ, ◌*◌, ◌<◌, ◌≤◌, replicate, Option, None, sym, ap, arith, inl, inr}
use Rattle.std.specs.Option.{unwrap_or}
use Rattle.std.proofs.lemmas.Bool.{cases_lt}
use Rattle.std.proofs.lemmas.List.{get_or-replicate, get_or_past, length-replicate}
use Rattle.m11_cpu_machine.specs.declared.machine.Machine.{Machine}
use Rattle.m11_cpu_machine.specs.Machine.{byte_in, memory_size, new_machine}
use Rattle.m11_cpu_machine.specs.Memory.{byte_at}
use Rattle.m11_cpu_laws.specs.Image.{Image}
use Rattle.m11_cpu_laws.specs.Loaded.{HoldsImage, HoldsTheSame, LiesPast}

none_there : (size address : ℕ) → byte_at (replicate size 0) address ≡ 0
none_there size address =
    elim (cases_lt address size) [
      | inl within ↦ get_or-replicate size address 0 0 within
      | inr past ↦ get_or_past (replicate size 0) address 0 (omega (arith, length-replicate {A = ℕ} size 0))
    ]

new_byte : (words address : ℕ) → byte_in address (new_machine words) ≡ 0
unfolding new_machine
new_byte words address = none_there (2 * words) address

new_size : (words : ℕ) → memory_size (new_machine words) ≡ 2 * words
unfolding new_machine
new_size words = length-replicate {A = ℕ} (2 * words) 0

module _ (image : Image) (words : ℕ) (after : Machine) (start : ℕ) (h : HoldsImage image (new_machine words) after start) where
  size_is : memory_size after ≡ 2 * words
  size_is = h.size ∙ new_size words

  byte_is : (address : ℕ) → address < memory_size after → byte_in address after ≡ unwrap_or (image.byte address) 0
  byte_is address lt =
      h.bytes address (omega (arith, lt, h.size))
      ∙ ap (λ (byte : ℕ). unwrap_or (image.byte address) byte) (new_byte words address)

module _ (image : Image) (words more_words : ℕ) (small large : Machine) (start start' : ℕ) (le : words ≤ more_words)
    (h : HoldsImage image (new_machine words) small start) (h' : HoldsImage image (new_machine more_words) large start') where
  sizes : memory_size small ≤ memory_size large
  sizes = omega (arith, le, size_is image words small start h, size_is image more_words large start' h')

  past_small : (address : ℕ) → memory_size small ≤ address → byte_in address large ≡ 0
  past_small address past =
      elim (cases_lt address (memory_size large)) [
        | inl within ↦
            byte_is image more_words large start' h' address within
            ∙ ap (λ (byte : Option ℕ). unwrap_or byte 0) (h.inside address (omega (arith, past, h.size)))
        | inr outside ↦ get_or_past large.memory address 0 outside
      ]

  pub both_hold : HoldsTheSame small large × (start' ≡ start)
  both_hold = (
    record {
      bytes = λ address within. byte_is image more_words large start' h' address (omega (arith, within, sizes))
          ∙ sym (byte_is image words small start h address within);
      others = past_small;
    },
    h'.start_is ∙ sym h.start_is,
  )

pub not_past : (image : Image) (words more_words : ℕ) (small : Machine) (start : ℕ) → words ≤ more_words
    → HoldsImage image (new_machine words) small start → LiesPast (memory_size (new_machine more_words)) image → ⊥
not_past image words more_words small start le h past =
    let none : image.byte past.address ≡ None =
    h.inside past.address (omega (arith, past.past, le, new_size words, new_size more_words)) in
    let bad = sym none ∙ past.has in cc
