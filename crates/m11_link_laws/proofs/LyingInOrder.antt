-- Relocatable sections follow one another from the bottom to the top.
use Rattle.std.proofs.Common.{◌≡◌, ℕ, ◌+◌, ◌≤◌, sum_by, Bool, true, false, cond, if◌then◌else◌, List, [], ◌∷◌, ◌++◌, map, append-nil, refl, sym, ap, ◌∙◌, subst, arith}
use Rattle.std.specs.List.{filter, list_any}
use Rattle.std.proofs.Math.Seq.{append_snoc}
use Rattle.std.proofs.lemmas.List.Sums.{sum_by_push}
use Rattle.m11_base.specs.Rad50.{is_same_name}
use Rattle.m11_link_modules.specs.Parts.{Part}
use Rattle.m11_link_modules.specs.Positions.{section_names}
use Rattle.m11_link_layout.specs.Sections.{names_before, section_base, section_size, top}
use Rattle.m11_link_layout.proofs.BasesPlaced.{apart_before, before_it}
use Rattle.m11_link_layout.proofs.Finding.{Apart, apart_distinct}
use Rattle.m11_link_laws.specs.Spans.{LieInOrder, Nothing, Section, Span, lies_from_bottom, relocatable_names, span_of}

abbrev Name : Type 0
Name = ℕ × ℕ

-- ---- sections with these sizes, some of which are relocatable

moved : (a b c : ℕ) → a + b + c ≡ a + (b + c)
moved a b c = omega arith

nothing_more : (a : ℕ) → a + 0 ≡ a
nothing_more a = omega arith

module _ (lies : Name → Bool) (size : Name → ℕ) (bottom : ℕ) (all : List Name) where
  abbrev room : Name → ℕ
  room name = if lies name then size name else 0

  abbrev base : Name → ℕ
  base name = if lies name then bottom + sum_by room (names_before name all) else 0

  abbrev span : Name → Span
  span name = record { base = base name; size = size name }

  abbrev end : List Name → ℕ
  end done = bottom + sum_by room done

  -- spans that lie in order after a section also do with the section's span before them, or without it if the section isn't relocatable
  next_lies : (b : Bool) (from at size : ℕ) (spans : List Span) (last : ℕ) → at ≡ from
      → LieInOrder (from + (if b then size else 0)) spans last
      → LieInOrder from (cond b (record { base = (if b then at else 0); size = size } ∷ spans) spans) last
  next_lies true from at size spans last e h =
      let P : ℕ → Type 0 = λ n. LieInOrder from (record { base = n; size = size } ∷ spans) last in
      subst P (sym e) (Section h)
  next_lies false from at size spans last e h =
      let P : ℕ → Type 0 = λ n. LieInOrder n spans last in subst P (nothing_more from) h

  mapped : (b : Bool) (name : Name) (names : List Name)
      → map span (cond b (name ∷ names) names) ≡ cond b (span name ∷ map span names) (map span names)
  mapped true name names = refl
  mapped false name names = refl

  lie_after : (done rest : List Name) → done ++ rest ≡ all → Apart is_same_name all
      → LieInOrder (end done) (map span (filter lies rest)) (end all)
  lie_after done [] e d =
      let P : List Name → Type 0 = λ names. LieInOrder (end done) [] (end names) in
      subst P (sym (append-nil done) ∙ e) Nothing
  lie_after done (name ∷ rest) e d =
      let A : List Name → Type 0 = λ names. Apart is_same_name names in
      let a : list_any (is_same_name name) done ≡ false = apart_before done name rest (subst A (sym e) d) in
      let B : List Name → Type 0 = λ names. names_before name names ≡ done in
      let b : names_before name all ≡ done = subst B e (before_it done name rest a) in
      let more = lie_after (done ++ name ∷ []) rest (append_snoc done name rest ∙ e) d in
      let P : List Span → Type 0 = λ spans. LieInOrder (end done) spans (end all) in
      let Q : ℕ → Type 0 = λ n. LieInOrder n (map span (filter lies rest)) (end all) in
      subst P (sym (mapped (lies name) name (filter lies rest)))
      (next_lies (lies name) (end done) (bottom + sum_by room (names_before name all)) (size name)
      (map span (filter lies rest)) (end all) (ap (λ names. bottom + sum_by room names) b)
      (subst Q (ap (λ n. bottom + n) (sum_by_push room done name) ∙ sym (moved bottom (sum_by room done) (room name)))
      more))

pub sections_lie : (bottom : ℕ) (parts : List Part)
    → LieInOrder bottom (map (span_of bottom parts) (relocatable_names parts)) (top bottom parts)
unfolding relocatable_names section_base top section_names
sections_lie bottom parts =
    let all = section_names parts in
    let P : ℕ → Type 0 = λ n. LieInOrder n (map (span_of bottom parts) (relocatable_names parts)) (top bottom parts) in
    subst P (nothing_more bottom)
    (lie_after (lies_from_bottom parts) (section_size parts) bottom all [] all refl (apart_distinct _))

-- ---- two sections

taken_apart : (bottom : ℕ) (span : Span) (spans : List Span) (last : ℕ) → LieInOrder bottom (span ∷ spans) last
    → (bottom ≡ span.base) × LieInOrder (bottom + span.size) spans last
taken_apart bottom span spans last (Section h) = (refl, h)

no_lower : (bottom size base : ℕ) → bottom + size ≤ base → bottom ≤ base
no_lower bottom size base h = omega arith

module _ (span : Name → Span) where
  lies_later : (bottom : ℕ) (between : List Name) (other : Name) (after : List Name) (last : ℕ)
      → LieInOrder bottom (map span (between ++ (other ∷ after))) last → bottom ≤ (span other).base
  lies_later bottom [] other after last h =
      let t = taken_apart bottom (span other) (map span after) last h in omega (arith, t.0)
  lies_later bottom (name ∷ between) other after last h =
      let t = taken_apart bottom (span name) (map span (between ++ (other ∷ after))) last h in
      no_lower bottom (span name).size (span other).base
      (lies_later (bottom + (span name).size) between other after last t.1)

  pub lies_after : (bottom : ℕ) (before : List Name) (name : Name) (between : List Name) (other : Name)
      (after : List Name) (last : ℕ)
      → LieInOrder bottom (map span (before ++ (name ∷ (between ++ (other ∷ after))))) last
      → (span name).base + (span name).size ≤ (span other).base
  lies_after bottom [] name between other after last h =
      let t = taken_apart bottom (span name) (map span (between ++ (other ∷ after))) last h in
      let P : ℕ → Type 0 = λ n. n + (span name).size ≤ (span other).base in
      subst P t.0 (lies_later (bottom + (span name).size) between other after last t.1)
  lies_after bottom (first ∷ before) name between other after last h =
      let t = taken_apart bottom (span first) (map span (before ++ (name ∷ (between ++ (other ∷ after))))) last h in
      lies_after (bottom + (span first).size) before name between other after last t.1

pub sections_lie_apart : (bottom : ℕ) (parts : List Part) (before between after : List (ℕ × ℕ)) (name other : ℕ × ℕ)
    → relocatable_names parts ≡ before ++ (name ∷ (between ++ (other ∷ after)))
    → section_base bottom parts name + section_size parts name ≤ section_base bottom parts other
sections_lie_apart bottom parts before between after name other e =
    let P : List (ℕ × ℕ) → Type 0 =
    λ names. LieInOrder bottom (map (span_of bottom parts) names) (top bottom parts) in
    lies_after (span_of bottom parts) bottom before name between other after (top bottom parts)
    (subst P e (sections_lie bottom parts))
