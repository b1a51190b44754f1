-- The whole link with two bottoms, and its messages about undefined globals.
use Rattle.std.proofs.Common.{◌≡◌, ℕ, ◌+◌, ◌%◌, Bool, true, ◌&&◌, is_none, if◌then◌else◌, List, [], ◌∷◌, map, Option, Some, None, refl, ap, ap₂, ◌∙◌}
use Rattle.std.specs.List.{cons_option}
use Rattle.std.specs.Option.{option_map}
use Rattle.m11_link_modules.specs.Parts.{Part}
use Rattle.m11_link_text.specs.Findings.{Agree, Findings, findings_of}
use Rattle.m11_link.specs.Front.{is_strength, undefined_by, undefined_names, undefined_write, undefined_writes}
use Rattle.m11_link.specs.Written.{link_writes}
use Rattle.m11_link.proofs.Agreeing.{link_same}
use Rattle.m11_link_laws.specs.Moving.{Moved, findings_moved, global_moves, moved}
use Rattle.m11_link_laws.proofs.MovingFindings as findings

-- ---- messages

mapped_none : {X Y : Type 0} (f : X → Y) (found : Option X) → is_none (option_map f found) ≡ is_none found
mapped_none f None = refl
mapped_none f (Some x) = refl

module _ (distance : ℕ) (parts : List Part) (near far : Findings) (m : Moved distance parts near far) where
  undefined_is : (is_strong : Bool) (reference : (ℕ × ℕ) × Bool)
      → undefined_by far is_strong reference ≡ undefined_by near is_strong reference
  undefined_is is_strong reference =
      ap (λ b. if b && is_strength is_strong reference.1 then Some reference.0 else None)
      (ap (λ found. is_none found) (m.value reference.0)
      ∙ mapped_none (moved distance (global_moves parts reference.0)) (near.value reference.0))

  names_are : (is_strong : Bool) (references : List ((ℕ × ℕ) × Bool))
      → undefined_names far is_strong references ≡ undefined_names near is_strong references
  unfolding undefined_names
  names_are is_strong [] = refl
  names_are is_strong (reference ∷ references) =
      ap₂ (λ first rest. cons_option first rest) (undefined_is is_strong reference) (names_are is_strong references)

  messages_are : undefined_writes far far.references ≡ undefined_writes near near.references
  unfolding undefined_writes
  messages_are =
      ap (λ names. map undefined_write names) (names_are true far.references)
      ∙ ap (λ references. map undefined_write (undefined_names near true references)) m.references

pub messages_stay : (bottom distance : ℕ) (parts : List Part)
    → undefined_writes (findings_of (bottom + distance) parts) (findings_of (bottom + distance) parts).references
    ≡ undefined_writes (findings_of bottom parts) (findings_of bottom parts).references
messages_stay bottom distance parts =
    messages_are distance parts (findings_of bottom parts) (findings_of (bottom + distance) parts)
    (findings.findings_moved bottom distance parts)

-- ---- the whole link

all_agree : (distance : ℕ) (parts : List Part) (near far : Findings) → Moved distance parts near far → distance % 2 ≡ 0
    → Agree far (findings_moved distance parts near)
all_agree distance parts near far m e = record {
  base = m.base;
  value = m.value;
  attributes = m.attributes;
  module_name = m.module_name;
  sections = m.sections;
  globals = m.globals;
  references = m.references;
  transfer = m.transfer e;
  bottom = m.bottom;
  top = m.top;
}

pub link_moves : (bottom distance : ℕ) (parts others : List Part) → distance % 2 ≡ 0
    → link_writes (findings_of (bottom + distance) parts) others
    ≡ link_writes (findings_moved distance parts (findings_of bottom parts)) others
link_moves bottom distance parts others e =
    let near = findings_of bottom parts in
    let far = findings_of (bottom + distance) parts in
    link_same far (findings_moved distance parts near)
    (all_agree distance parts near far (findings.findings_moved bottom distance parts) e) others
