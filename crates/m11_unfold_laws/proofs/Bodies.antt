-- A body is read up to its close.
use Rattle.std.proofs.Common.{◌≡◌, ◌∙◌, ◌⊎◌, inl, inr, ℕ, suc, ◌+◌, true, false, List, [], ◌∷◌, ◌++◌, length, append_assoc, append-nil, Option, Some, None, refl, sym, ap, subst, arith}
use Rattle.m11_base.specs.Devices.{Bytes}
use Rattle.m11_scan.specs.Line.{SourceLine}
use Rattle.m11_unfold_bodies.specs.Bodies.{Cut, PartialBody, cut_after, cut_at, depth_after, partial_body_with}
use Rattle.m11_unfold_bodies.specs.Left.{RemainingItem, Line, End}
use Rattle.m11_unfold_rules.specs.Stages.{Purpose, Stage}
use Rattle.m11_unfold_rules.specs.Taking.{Passes, ended, into_body, move, nesting, one_taken, used}
use Rattle.m11_unfold_rules.specs.Unfolding.{Leads}
use Rattle.m11_unfold_bodies.specs.declared.mark.Mark.{Mark}
use Rattle.m11_unfold_laws.specs.Bodies.{StaysOpen, past_body, past_open_body, rest_of_body, with_body}
use Rattle.m11_unfold_laws.specs.Limits.{IsCutShort}
use Rattle.m11_unfold_laws.proofs.Runs.{Runs, and_then, arrived, from_same, passes, passes_on, stays, weakened}

module _ (purpose : Purpose) where
  abbrev at : Stage → ℕ → List RemainingItem → Stage
  at stage taken left = record stage { left = left; taken = taken }

  abbrev open_at : Stage → PartialBody → ℕ → List RemainingItem → Stage
  open_at stage half taken left = with_body purpose half (at stage taken left)

  -- the stage after the close
  abbrev closed_by : Stage → PartialBody → ℕ → Cut → Stage
  closed_by stage half taken cut = used purpose (half.body ++ cut.body) (past_body cut (at stage taken []))

  step : (stage : Stage) (half : PartialBody) (taken : ℕ) (line : SourceLine) (left : List RemainingItem) (depth : Option ℕ)
      → depth_after (nesting line.text) half.depth ≡ depth
      → move (open_at stage half taken (Line line ∷ left))
      ≡ Passes (into_body purpose half line.text depth (one_taken left (open_at stage half taken (Line line ∷ left))))
  step stage half taken line left depth is =
      ap (λ (d : Option ℕ). Passes
      (into_body purpose half line.text d (one_taken left (open_at stage half taken (Line line ∷ left))))) is

  abbrev Closes : Stage → PartialBody → ℕ → List RemainingItem → Cut → Type 0
  Closes stage half taken left cut = Runs (open_at stage half taken left) [] (λ s. s ≡ closed_by stage half taken cut)

  closing_line : (stage : Stage) (half : PartialBody) (taken : ℕ) (line : SourceLine) (left : List RemainingItem) (cut : Cut)
      → cut.is_closed ≡ true → ((half' : PartialBody) → (cut_at nesting half'.depth left).is_closed ≡ true
      → Closes stage half' (taken + 1) left (cut_at nesting half'.depth left))
      → (depth : Option ℕ) → depth_after (nesting line.text) half.depth ≡ depth
      → cut_after line.text left (λ inside. cut_at nesting inside left) depth ≡ cut
      → Closes stage half taken (Line line ∷ left) cut
  closing_line stage half taken line left cut closed more None came same =
      let before : Stage = open_at stage half taken (Line line ∷ left) in
      let body : half.body ≡ half.body ++ [] = sym (append-nil half.body) in
      let by : List Bytes → Stage
      = λ b. used purpose b (record stage { left = left; opening = None; taken = taken + 1; has_ended = false }) in
      let there : by half.body ≡ closed_by stage half taken cut = ap by body ∙ ap (closed_by stage half taken) same in
      passes (λ s. s ≡ closed_by stage half taken cut) before (by half.body) (step stage half taken line left None came) there
  closing_line stage half taken line left cut closed more (Some depth) came same =
      let before : Stage = open_at stage half taken (Line line ∷ left) in
      let inner : Cut = cut_at nesting depth left in
      let shut : inner.is_closed ≡ true = ap (λ (c : Cut). c.is_closed) same ∙ closed in
      let half' : PartialBody = partial_body_with half line.text depth in
      let mid : Stage = open_at stage half' (taken + 1) left in
      let body : (half.body ++ line.text ∷ []) ++ inner.body ≡ half.body ++ line.text ∷ inner.body
      = append_assoc half.body (line.text ∷ []) inner.body in
      let count : taken + 1 + (length inner.body + 1) ≡ taken + (suc (length inner.body) + 1) = omega arith in
      let by : List Bytes → ℕ → Stage
      = λ b n. used purpose b (record stage { left = inner.after; opening = None; taken = n; has_ended = false }) in
      let there : closed_by stage half' (taken + 1) inner ≡ closed_by stage half taken cut
      = ap (λ (b : List Bytes). by b (taken + 1 + (length inner.body + 1))) body
      ∙ ap (by (half.body ++ line.text ∷ inner.body)) count
      ∙ ap (closed_by stage half taken) same in
      let P : Stage → Type 0 = λ s. s ≡ closed_by stage half taken cut in
      let rest : Runs mid [] P
      = weakened (λ s. s ≡ closed_by stage half' (taken + 1) inner) P mid [] (λ s is. is ∙ there) (more half' shut) in
      passes_on P before mid [] (step stage half taken line left (Some depth) came) rest

  pub closes : (stage : Stage) (left : List RemainingItem) (half : PartialBody) (taken : ℕ)
      → (cut_at nesting half.depth left).is_closed ≡ true
      → Closes stage half taken left (cut_at nesting half.depth left)
  closes stage [] half taken closed = absurd (let bad : false ≡ true = closed in cc)
  closes stage (End mark ∷ left) half taken closed = absurd (let bad : false ≡ true = closed in cc)
  closes stage (Line line ∷ left) half taken closed =
      closing_line stage half taken line left (cut_at nesting half.depth (Line line ∷ left)) closed
      (λ half' shut. closes stage left half' (taken + 1) shut) (depth_after (nesting line.text) half.depth) refl refl

  -- ---- a body without a close

  pub record IsOpenAt (stage : Stage) (half : PartialBody) (taken : ℕ) (cut : Cut) (after : Stage) : Type 0 where
    pub inner : ℕ
    pub is : after ≡ open_at stage (record { body = half.body ++ cut.body; depth = inner }) (taken + length cut.body) cut.after

  abbrev Opens : Stage → PartialBody → ℕ → List RemainingItem → Cut → Type 0
  Opens stage half taken left cut = Runs (open_at stage half taken left) [] (IsOpenAt stage half taken cut)

  nothing_more : (stage : Stage) (half : PartialBody) (taken : ℕ) (left : List RemainingItem)
      → Opens stage half taken left (record { body = []; is_closed = false; after = left })
  nothing_more stage half taken left =
      let cut : Cut = record { body = []; is_closed = false; after = left } in
      let by : List Bytes → ℕ → Stage = λ b n. open_at stage (record { body = b; depth = half.depth }) n left in
      let count : taken ≡ taken + 0 = omega arith in
      let same : by half.body taken ≡ by (half.body ++ []) (taken + 0)
      = ap (λ (b : List Bytes). by b taken) (sym (append-nil half.body)) ∙ ap (by (half.body ++ [])) count in
      stays (IsOpenAt stage half taken cut) (open_at stage half taken left) (record { inner = half.depth; is = same })

  open_line : (stage : Stage) (half : PartialBody) (taken : ℕ) (line : SourceLine) (left : List RemainingItem) (cut : Cut)
      → cut.is_closed ≡ false → ((half' : PartialBody) → (cut_at nesting half'.depth left).is_closed ≡ false
      → Opens stage half' (taken + 1) left (cut_at nesting half'.depth left))
      → (depth : Option ℕ) → depth_after (nesting line.text) half.depth ≡ depth
      → cut_after line.text left (λ inside. cut_at nesting inside left) depth ≡ cut
      → Opens stage half taken (Line line ∷ left) cut
  open_line stage half taken line left cut isn more None came same =
      absurd (let bad : true ≡ false = ap (λ (c : Cut). c.is_closed) same ∙ isn in cc)
  open_line stage half taken line left cut isn more (Some depth) came same =
      let before : Stage = open_at stage half taken (Line line ∷ left) in
      let inner : Cut = cut_at nesting depth left in
      let shut : inner.is_closed ≡ false = ap (λ (c : Cut). c.is_closed) same ∙ isn in
      let half' : PartialBody = partial_body_with half line.text depth in
      let mid : Stage = open_at stage half' (taken + 1) left in
      let body : (half.body ++ line.text ∷ []) ++ inner.body ≡ half.body ++ line.text ∷ inner.body
      = append_assoc half.body (line.text ∷ []) inner.body in
      let count : taken + 1 + length inner.body ≡ taken + suc (length inner.body) = omega arith in
      let by : ℕ → List Bytes → ℕ → Stage = λ d b n. open_at stage (record { body = b; depth = d }) n inner.after in
      let there : (s : Stage) → IsOpenAt stage half' (taken + 1) inner s → IsOpenAt stage half taken cut s = λ s stood. record {
        inner = stood.inner;
        is = stood.is
            ∙ ap (λ (b : List Bytes). by stood.inner b (taken + 1 + length inner.body)) body
            ∙ ap (by stood.inner (half.body ++ line.text ∷ inner.body)) count
            ∙ ap (λ (c : Cut). open_at stage (record { body = half.body ++ c.body; depth = stood.inner })
            (taken + length c.body) c.after) same;
      } in
      let rest : Runs mid [] (IsOpenAt stage half taken cut)
      = weakened (IsOpenAt stage half' (taken + 1) inner) (IsOpenAt stage half taken cut) mid [] there (more half' shut) in
      passes_on (IsOpenAt stage half taken cut) before mid [] (step stage half taken line left (Some depth) came) rest

  pub stays_open : (stage : Stage) (left : List RemainingItem) (half : PartialBody) (taken : ℕ)
      → (cut_at nesting half.depth left).is_closed ≡ false → Opens stage half taken left (cut_at nesting half.depth left)
  stays_open stage [] half taken isn = nothing_more stage half taken []
  stays_open stage (End mark ∷ left) half taken isn = nothing_more stage half taken (End mark ∷ left)
  stays_open stage (Line line ∷ left) half taken isn =
      open_line stage half taken line left (cut_at nesting half.depth (Line line ∷ left)) isn
      (λ half' shut. stays_open stage left half' (taken + 1) shut) (depth_after (nesting line.text) half.depth) refl refl

-- ---- the laws

module _ (purpose : Purpose) (taken : PartialBody) (stage : Stage) where
  abbrev cut : Cut
  cut = rest_of_body taken stage

  pub closed : cut.is_closed ≡ true
      → Leads (with_body purpose taken stage) [] (used purpose (taken.body ++ cut.body) (past_body cut stage))
      ⊎ IsCutShort (with_body purpose taken stage) []
  closed is = arrived (with_body purpose taken stage) (used purpose (taken.body ++ cut.body) (past_body cut stage)) []
      (closes purpose stage stage.left taken stage.taken is)

  pub ended_open : (mark : Mark) (left : List RemainingItem) → cut.is_closed ≡ false → cut.after ≡ End mark ∷ left
      → Leads (with_body purpose taken stage) [] (ended mark left (past_open_body cut stage))
      ⊎ IsCutShort (with_body purpose taken stage) []
  ended_open mark left is stands =
      let before : Stage = with_body purpose taken stage in
      let last : Stage = ended mark left (past_open_body cut stage) in
      let P : Stage → Type 0 = λ s. s ≡ last in
      let Q : Stage → Type 0 = IsOpenAt purpose stage taken stage.taken cut in
      arrived before last []
      (and_then Q P before [] [] (stays_open purpose stage stage.left taken stage.taken is)
      (λ s stood.
      let by : List RemainingItem → Stage
      = λ l. open_at purpose stage (record { body = taken.body ++ cut.body; depth = stood.inner })
      (stage.taken + length cut.body) l in
      from_same P s (by (End mark ∷ left)) [] (stood.is ∙ ap by stands)
      (passes P (by (End mark ∷ left)) last refl refl)))

  pub left_open : cut.is_closed ≡ false → cut.after ≡ []
      → StaysOpen purpose taken cut stage ⊎ IsCutShort (with_body purpose taken stage) []
  left_open is stands = stood (stays_open purpose stage stage.left taken stage.taken is) where
    stood : Runs (with_body purpose taken stage) [] (IsOpenAt purpose stage taken stage.taken cut)
        → StaysOpen purpose taken cut stage ⊎ IsCutShort (with_body purpose taken stage) []
    stood (inr short) = inr short
    stood (inl there) = inl (record {
      inner = there.holds.inner;
      leads = subst (λ (s : Stage). Leads (with_body purpose taken stage) [] s) there.holds.is there.leads;
    })
