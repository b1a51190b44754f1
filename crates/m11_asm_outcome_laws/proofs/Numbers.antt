-- The number of a placed line is the least number of first source lines that unfold to it and to all live lines before it.
use Rattle.std.proofs.Common.{◌≡◌, ◌∙◌, ◌<◌, ◌≤◌, ℕ, ◌+◌, zero, suc, List, [], ◌∷◌, ◌++◌, append_assoc, append-nil, drop, length, length-append, take, inl, inr, refl, sym, ap, subst, arith}
use Rattle.std.specs.Prelude.{◌⊎◌}
use Rattle.std.proofs.lemmas.List.{length-map, map-append, take-append-drop, take-append-le, take_at}
use Rattle.m11_scan.specs.Line.{SourceLine}
use Rattle.m11_asm_lines.specs.declared.counting.Counting.{Counting}
use Rattle.m11_asm_outcome_laws.proofs.WholeEnds.{Compared, at_rest, stays}
use Rattle.m11_asm_outcome_laws.proofs.WholeSources.{all_lines, known_by, so_far, tells}
use Rattle.m11_asm_outcome_laws.specs.AllLines.{AreAllLines}
use Rattle.m11_asm_outcome_laws.specs.Numbers.{HaveNumbers, IsLastNumber}
use Rattle.m11_asm_passes.specs.Lines.{NumberedLine, PassLines, acted, givens, numbered, table_at, with_line}
use Rattle.m11_asm_passes.specs.Lines as lines
use Rattle.m11_asm_passes.specs.Refusals.{given_by}
use Rattle.m11_asm_rules.specs.Meanings.{Map}
use Rattle.m11_asm_rules.specs.Unfolded.{AreLines}
use Rattle.m11_unfold_bodies.specs.Left.{RemainingItem}
use Rattle.m11_unfold_rules.proofs.MoreLines.{leads_on}
use Rattle.m11_unfold_rules.specs.Histories.{GoesOn, with_more}
use Rattle.m11_unfold_rules.specs.Stages.{Stage, line_left, start}
use Rattle.m11_unfold_rules.specs.Unfolding.{UnfoldedLine, Leads}

either : (a b : ℕ) → (a < b) ⊎ (b ≤ a)
either zero zero = inr (omega arith)
either zero (suc b) = inl (omega arith)
either (suc a) zero = inr (omega arith)
either (suc a) (suc b) = next (either a b)
  where
    next : (a < b) ⊎ (b ≤ a) → (suc a < suc b) ⊎ (suc b ≤ suc a)
    next (inl less) = inl (omega (arith, less))
    next (inr most) = inr (omega (arith, most))

-- ---- one more line

-- a line is in a list, with these lines before it
record StandsBefore (placed before : List NumberedLine) (line : NumberedLine) : Type 0 where
  rest : List NumberedLine
  parts : placed ≡ before ++ line ∷ rest

no_line : (before after : List NumberedLine) (line : NumberedLine) → [] ≡ before ++ line ∷ after → ⊥
no_line [] after line is = let bad = is in cc
no_line (first ∷ before) after line is = let bad = is in cc

last_or_before : (placed before after : List NumberedLine) (one line : NumberedLine) → placed ++ one ∷ [] ≡ before ++ line ∷ after
    → ((before ≡ placed) × (line ≡ one)) ⊎ StandsBefore placed before line
last_or_before [] [] after one line is = inl (refl, let same : one ≡ line = cc in sym same)
last_or_before [] (first ∷ before) after one line is = absurd (no_line before after line (let rest : [] ≡ before ++ line ∷ after = cc in rest))
last_or_before (first ∷ placed) [] after one line is =
    let same : first ≡ line = cc in
    inr (record { rest = placed; parts = ap (λ (l : NumberedLine). l ∷ placed) same })
last_or_before (first ∷ placed) (other ∷ before) after one line is =
    let same : other ≡ first = cc in
    let rest : placed ++ one ∷ [] ≡ before ++ line ∷ after = cc in
    go same (last_or_before placed before after one line rest)
  where
    go : other ≡ first → ((before ≡ placed) × (line ≡ one)) ⊎ StandsBefore placed before line
        → ((other ∷ before ≡ first ∷ placed) × (line ≡ one)) ⊎ StandsBefore (first ∷ placed) (other ∷ before) line
    go same (inl last) = inl (let earlier : before ≡ placed = last.0 in cc, last.1)
    go same (inr stands) = inr (record { rest = stands.rest; parts = let parts : placed ≡ before ++ line ∷ stands.rest = stands.parts in cc })

numbers_more : (map_ : Map) (source : List SourceLine) (placed : List NumberedLine) (one : NumberedLine) → HaveNumbers map_ source placed
    → IsLastNumber map_ source (givens (placed ++ one ∷ [])) one.number → HaveNumbers map_ source (placed ++ one ∷ [])
numbers_more map_ source placed one numbers is_last before after line is = go (last_or_before placed before after one line is)
  where
    go : ((before ≡ placed) × (line ≡ one)) ⊎ StandsBefore placed before line
        → IsLastNumber map_ source (givens (before ++ line ∷ [])) line.number
    go (inl last) =
        let P : List NumberedLine → Type 0 = λ ls. IsLastNumber map_ source (givens (ls ++ one ∷ [])) one.number in
        let Q : NumberedLine → Type 0 = λ l. IsLastNumber map_ source (givens (before ++ l ∷ [])) l.number in
        subst Q (sym last.1) (subst P (sym last.0) is_last)
    go (inr stands) = numbers before stands.rest line stands.parts

module _ (compare : Compared) (map_ : Map) where
  -- the last source line read: when it was read, all lines before it were unfolded, to no more live lines than now
  record LastRead (source : List SourceLine) (placed : List NumberedLine) : Type 0 where
    earlier : List SourceLine
    last : SourceLine
    whole : source ≡ earlier ++ last ∷ []
    before : List NumberedLine
    since : List NumberedLine
    parts : placed ≡ before ++ since
    stage : Stage
    all : AreAllLines map_ earlier (givens before) stage

  with_one : (source : List SourceLine) (placed : List NumberedLine) (one : NumberedLine) → (source ≡ []) ⊎ LastRead source placed
      → (source ≡ []) ⊎ LastRead source (placed ++ one ∷ [])
  with_one source placed one (inl none) = inl none
  with_one source placed one (inr read) = inr (record {
    earlier = read.earlier;
    last = read.last;
    whole = read.whole;
    before = read.before;
    since = read.since ++ one ∷ [];
    parts = ap (λ (ls : List NumberedLine). ls ++ one ∷ []) read.parts ∙ append_assoc read.before read.since (one ∷ []);
    stage = read.stage;
    all = read.all;
  })

  last_read : (counting : Counting) (source : List SourceLine) (placed : List NumberedLine) (stage : Stage)
      → PassLines map_ counting source placed stage → (source ≡ []) ⊎ LastRead source placed
  last_read counting _ _ _ lines.PassLines.Begins = inl refl
  last_read counting _ placed _ (lines.PassLines.Reading source _ stage line before none goes) = inr (record {
    earlier = source;
    last = line;
    whole = refl;
    before = placed;
    since = [];
    parts = sym (append-nil placed);
    stage = with_more [] stage;
    all = all_lines map_ counting source source placed stage
        (record { lines_are = before; more = []; whole = append-nil source; is_over = inr (refl, none, goes) });
  })
  last_read counting source placed _ (lines.PassLines.Passing _ _ stage _ before moves) = last_read counting source placed stage before
  last_read counting source _ _ (lines.PassLines.Placing _ placed stage after live before fits moves within) =
      with_one source placed (numbered (length source) (given_by (table_at map_ placed) live after))
      (last_read counting source placed stage before)

  -- ---- fewer source lines don't suffice

  -- all the live lines of a source are at least as many as any first live lines of it
  all_are_most : (source : List SourceLine) (done gives : List UnfoldedLine) (stage after : Stage) → AreLines map_ source done stage
      → AreAllLines map_ source gives after → length done ≤ length gives
  all_are_most source done gives stage after are all =
      go (compare (tells map_) (start source) stage after done gives (known_by map_ done are.1) (known_by map_ gives all.are.1) are.0 all.are.0)
    where
      go : GoesOn done stage gives after ⊎ GoesOn gives after done stage → length done ≤ length gives
      go (inl on) =
          let sizes : length gives ≡ length done + length on.more = ap length on.whole ∙ length-append done on.more in
          omega (arith, sizes)
      go (inr on) =
          let none : on.more ≡ [] = (stays after stage on.more (at_rest after all.rests) on.leads).0 in
          let whole : done ≡ gives = on.whole ∙ ap (λ (m : List UnfoldedLine). gives ++ m) none ∙ append-nil gives in
          let sizes : length done ≡ length gives = ap length whole in
          omega (arith, sizes)

  -- the live lines of the first lines of a source are the first live lines of the source
  more_give : (source more : List SourceLine) (done : List UnfoldedLine) (stage : Stage) → AreLines map_ source done stage
      → AreLines map_ (source ++ more) done (with_more more stage)
  more_give source more done stage are =
      let P : List RemainingItem → Type 0 = λ l. Leads (record (start source) { left = l }) done (with_more more stage) in
      (subst P (sym (map-append line_left source more)) (leads_on more (start source) stage done are.0), are.1)

  first_give : (source : List SourceLine) (count : ℕ) (done : List UnfoldedLine) (stage : Stage) → AreLines map_ (take count source) done stage
      → AreLines map_ source done (with_more (drop count source) stage)
  first_give source count done stage are =
      let P : List SourceLine → Type 0 = λ s. AreLines map_ s done (with_more (drop count source) stage) in
      subst P (take-append-drop count source) (more_give (take count source) (drop count source) done stage are)

  module _ (source more : List SourceLine) (placed : List NumberedLine) (one : NumberedLine) (count : ℕ) (other : Stage)
      (are : AreLines map_ (take count (source ++ more)) (givens (placed ++ one ∷ [])) other) where
    too_few : LastRead source placed → count < length source → ⊥
    too_few read less =
        let size : length source ≡ length read.earlier + 1 = ap length read.whole ∙ length-append read.earlier (read.last ∷ []) in
        let most : count ≤ length read.earlier = omega (arith, less, size) in
        let parts : source ++ more ≡ read.earlier ++ (read.last ∷ more)
        = ap (λ (s : List SourceLine). s ++ more) read.whole ∙ append_assoc read.earlier (read.last ∷ []) more in
        let same : take count (source ++ more) ≡ take count read.earlier
        = ap (take count) parts ∙ take-append-le count read.earlier (read.last ∷ more) most in
        let P : List SourceLine → Type 0 = λ s. AreLines map_ s (givens (placed ++ one ∷ [])) other in
        let few : length (givens (placed ++ one ∷ [])) ≤ length (givens read.before)
        = all_are_most read.earlier (givens (placed ++ one ∷ [])) (givens read.before) (with_more (drop count read.earlier) other) read.stage
        (first_give read.earlier count (givens (placed ++ one ∷ [])) other (subst P same are)) read.all in
        let these : length (givens (placed ++ one ∷ [])) ≡ length placed + 1
        = length-map (placed ++ one ∷ []) (λ (line : NumberedLine). line.given) ∙ length-append placed (one ∷ []) in
        let those : length (givens read.before) ≡ length read.before = length-map read.before (λ (line : NumberedLine). line.given) in
        let all : length placed ≡ length read.before + length read.since = ap length read.parts ∙ length-append read.before read.since in
        omega (arith, few, these, those, all)

    least : (source ≡ []) ⊎ LastRead source placed → length source ≤ count
    least (inl none) = let size : length source ≡ 0 = ap length none in omega (arith, size)
    least (inr read) = go (either count (length source))
      where
        go : (count < length source) ⊎ (length source ≤ count) → length source ≤ count
        go (inl less) = absurd (too_few read less)
        go (inr most) = most

  -- ---- the numbers of a pass

  pub have_numbers : (counting : Counting) (source more : List SourceLine) (placed : List NumberedLine) (stage : Stage)
      → PassLines map_ counting source placed stage → HaveNumbers map_ (source ++ more) placed
  have_numbers counting _ more _ _ lines.PassLines.Begins = λ before after line is. absurd (no_line before after line is)
  have_numbers counting _ more placed _ (lines.PassLines.Reading source _ stage line passes none goes) =
      let P : List SourceLine → Type 0 = λ s. HaveNumbers map_ s placed in
      subst P (sym (append_assoc source (line ∷ []) more)) (have_numbers counting source (line ∷ more) placed stage passes)
  have_numbers counting source more placed _ (lines.PassLines.Passing _ _ stage _ passes moves) =
      have_numbers counting source more placed stage passes
  have_numbers counting source more _ _ (lines.PassLines.Placing _ placed stage after live passes fits moves within) =
      let one : NumberedLine = numbered (length source) (given_by (table_at map_ placed) live after) in
      let next : Stage = acted (table_at map_ placed) live after in
      let P : List SourceLine → Type 0 = λ s. AreLines map_ s (givens (placed ++ one ∷ [])) (with_more [] next) in
      let here : AreLines map_ (source ++ []) (givens (placed ++ one ∷ [])) (with_more [] next)
      = so_far map_ counting source [] (placed ++ one ∷ []) next
      (lines.PassLines.Placing source placed stage after live passes fits moves within) in
      numbers_more map_ (source ++ more) placed one (have_numbers counting source more placed stage passes) (record {
        stage = with_more [] next;
        are = subst P (append-nil source ∙ sym (take_at source more (length source) refl)) here;
        least = λ count other are. least source more placed one count other are (last_read counting source placed stage passes);
      })
