-- A source whose lines unfolding leaves alone, up to a last one with `.END`, has just these lines.
use Rattle.std.proofs.Common.{◌≡◌, ◌∙◌, ℕ, true, false, List, [], ◌∷◌, ◌++◌, map, Option, None, refl, sym, ap, ap₂, subst, append_assoc, append-nil}
use Rattle.std.specs.Prelude.{if◌then◌else◌}
use Rattle.std.specs.List.{AllByRecursion}
use Rattle.std.proofs.lemmas.List.{map-append}
use Rattle.m11_scan.specs.Line.{SourceLine}
use Rattle.m11_scan_expressions.specs.Expressions.{KnownSymbols}
use Rattle.m11_unfold_bodies.specs.Conditions.{no_conditions}
use Rattle.m11_unfold_rules.specs.Acting.{Acted, OwnDirective, act, acted_by, foreign, operation}
use Rattle.m11_unfold_rules.specs.Stages.{Stage, start}
use Rattle.m11_unfold_rules.specs.Taking.{Gives, Live, Move, NothingLeft, Passes, move}
use Rattle.m11_unfold_rules.specs.Unfolding.{Leads, UnfoldedLine, Unfolds, given}
use Rattle.m11_unfold_rules.specs.Unfolding.Leads.{Giving, Passing, Stays}
use Rattle.m11_unfold_rules.specs.declared.directives.Directive.TheVariants as word
use Rattle.m11_asm_dump_laws.proofs.PlainSources.{IsAlone, IsAt, IsLeft, acts_alone, by_left, line_in, next_at, next_live, next_move, next_stage, no_pass, one_more}

-- no condition is open, no macro is defined, and the operator of a line is `.END`
abbrev pub IsEnd : SourceLine → Type 0
IsEnd line = (column : ℕ) × (operation no_conditions [] line.text ≡ OwnDirective word.End column)

-- unfolding leaves all lines of a source alone but the last, and that one ends the source
abbrev pub AreEnded : List SourceLine → Type 0
AreEnded [] = ⊥
AreEnded (line ∷ []) = IsEnd line
AreEnded (line ∷ (next ∷ lines)) = IsLeft line × AreEnded (next ∷ lines)

pub ended_with : (front : List SourceLine) (last : SourceLine) → AllByRecursion IsLeft front → IsEnd last → AreEnded (front ++ last ∷ [])
ended_with [] last left end = end
ended_with (line ∷ []) last left end = (left.0, end)
ended_with (line ∷ (next ∷ front)) last left end = (left.0, ended_with (next ∷ front) last left.1 end)

end_there : (front : List SourceLine) (line : SourceLine) → AreEnded (front ++ line ∷ []) → IsEnd line
end_there [] line all = all
end_there (first ∷ []) line all = all.1
end_there (first ∷ (next ∷ front)) line all = end_there (next ∷ front) line all.1

left_there : (front : List SourceLine) (line next : SourceLine) (lines : List SourceLine) → AreEnded (front ++ line ∷ (next ∷ lines))
    → IsLeft line
left_there [] line next lines all = all.0
left_there (first ∷ []) line next lines all = all.1.0
left_there (first ∷ (second ∷ front)) line next lines all = left_there (second ∷ front) line next lines all.1

module _ (source : List SourceLine) (all : AreEnded source) where
  -- some lines of the source are live, and more are left; or all are, and the source has ended
  data Reached (done : List UnfoldedLine) (stage : Stage) : Type 0 where
    Going : (line : SourceLine) (lines : List SourceLine) → source ≡ map line_in done ++ line ∷ lines → IsAt stage (line ∷ lines)
        → AllByRecursion IsAlone done → Reached done stage
    Over : source ≡ map line_in done → stage.has_ended ≡ true → AllByRecursion IsAlone done → Reached done stage

  over_moves : (stage : Stage) → stage.has_ended ≡ true → move stage ≡ NothingLeft
  over_moves stage over = ap (λ b. if b then NothingLeft else by_left stage stage.left) over

  acts_end : (known : KnownSymbols) (stage : Stage) (line : SourceLine) (lines : List SourceLine) → IsAt stage lines → IsEnd line
      → act known stage line.text ≡ foreign (record stage { has_ended = true })
  acts_end known stage line lines at is =
      ap₂ (λ c m. acted_by known line.text stage (operation c m line.text)) at.conditions at.macros
      ∙ ap (acted_by known line.text stage) is.1

  parts_more : (done : List UnfoldedLine) (one : UnfoldedLine) (lines : List SourceLine) → source ≡ map line_in done ++ line_in one ∷ lines
      → source ≡ map line_in (done ++ one ∷ []) ++ lines
  parts_more done one lines parts =
      parts ∙ sym (ap (λ l. l ++ lines) (map-append line_in done (one ∷ [])) ∙ append_assoc (map line_in done) (line_in one ∷ []) lines)

  next_reached : (done : List UnfoldedLine) (stage : Stage) (known : KnownSymbols) (line : SourceLine) (lines : List SourceLine)
      → source ≡ map line_in done ++ line ∷ lines → IsAt stage (line ∷ lines) → AllByRecursion IsAlone done
      → Reached (done ++ given known (next_live line lines) (next_stage stage lines) ∷ []) (act known (next_stage stage lines) line.text).after
  next_reached done stage known line [] parts at alone =
      let next : Stage = next_stage stage [] in
      let one : UnfoldedLine = given known (next_live line []) next in
      let P : List SourceLine → Type 0 = λ l. AreEnded l in
      let acts = acts_end known next line [] (next_at stage line [] at) (end_there (map line_in done) line (subst P parts all)) in
      Over (parts_more done one [] parts ∙ append-nil (map line_in (done ++ one ∷ []))) (ap (λ (a : Acted). a.after.has_ended) acts)
      (one_more done one alone (ap (λ (a : Acted). a.is_own) acts, ap (λ (a : Acted). a.remarks) acts))
  next_reached done stage known line (other ∷ lines) parts at alone =
      let next : Stage = next_stage stage (other ∷ lines) in
      let one : UnfoldedLine = given known (next_live line (other ∷ lines)) next in
      let there : IsAt next (other ∷ lines) = next_at stage line (other ∷ lines) at in
      let P : List SourceLine → Type 0 = λ l. AreEnded l in
      let acts = acts_alone known next line (other ∷ lines) there (left_there (map line_in done) line other lines (subst P parts all)) in
      let Q : Acted → Type 0 = λ a. IsAt a.after (other ∷ lines) in
      Going other lines (parts_more done one (other ∷ lines) parts) (subst Q (sym acts) there)
      (one_more done one alone (ap (λ (a : Acted). a.is_own) acts, ap (λ (a : Acted). a.remarks) acts))

  gives_by : (done : List UnfoldedLine) (stage after : Stage) (live : Live) (known : KnownSymbols) → Reached done stage
      → move stage ≡ Gives live after
      → Reached (done ++ given known live after ∷ []) (act known after live.line.text).after
  gives_by done stage after live known (Over parts over alone) gives =
      let e : NothingLeft ≡ Gives live after = sym (over_moves stage over) ∙ gives in absurd (cc)
  gives_by done stage after live known (Going line lines parts at alone) gives =
      let e : Gives (next_live line lines) (next_stage stage lines) ≡ Gives live after = sym (next_move stage line lines at) ∙ gives in
      let same_live : next_live line lines ≡ live = cc in
      let same_stage : next_stage stage lines ≡ after = cc in
      let P : Live → Stage → Type 0 = λ l a. Reached (done ++ given known l a ∷ []) (act known a l.line.text).after in
      let Q : Stage → Type 0 = λ a. P (next_live line lines) a in
      let R : Live → Type 0 = λ l. P l after in
      subst R same_live (subst Q same_stage (next_reached done stage known line lines parts at alone))

  passes_by : (done : List UnfoldedLine) (stage after : Stage) → Reached done stage → move stage ≡ Passes after → Reached done after
  passes_by done stage after (Over parts over alone) passes =
      let e : NothingLeft ≡ Passes after = sym (over_moves stage over) ∙ passes in absurd (cc)
  passes_by done stage after (Going line lines parts at alone) passes = absurd (no_pass stage after (line ∷ lines) at passes)

  begun : (lines : List SourceLine) → source ≡ lines → Reached [] (start source)
  begun [] is = let P : List SourceLine → Type 0 = λ l. AreEnded l in absurd (subst P is all)
  begun (line ∷ lines) is =
      let P : List SourceLine → Type 0 = λ l. IsAt (start source) l in
      Going line lines is
      (subst P is (record { left = refl; conditions = refl; opening = refl; macros = refl; goes_on = refl })) tt

  reached : (done : List UnfoldedLine) (stage : Stage) → Leads (start source) done stage → Reached done stage
  reached _ _ Stays = begun source refl
  reached _ _ (Passing done stage after leads no_fault passes) = passes_by done stage after (reached done stage leads) passes
  reached _ _ (Giving done stage after live known leads no_fault gives no_fault_then) =
      gives_by done stage after live known (reached done stage leads) gives

  over_by : (done : List UnfoldedLine) (stage : Stage) → Reached done stage → move stage ≡ NothingLeft
      → (source ≡ map line_in done) × AllByRecursion IsAlone done
  over_by done stage (Over parts over alone) nothing = (parts, alone)
  over_by done stage (Going line lines parts at alone) nothing =
      let e : Gives (next_live line lines) (next_stage stage lines) ≡ NothingLeft = sym (next_move stage line lines at) ∙ nothing in
      absurd (cc)

  -- if nothing is left, all lines are live, and unfolding has left them alone
  pub ended_source : (done : List UnfoldedLine) (stage : Stage) → Unfolds source done stage → move stage ≡ NothingLeft
      → (source ≡ map line_in done) × AllByRecursion IsAlone done
  ended_source done stage unfolds nothing = over_by done stage (reached done stage unfolds) nothing
