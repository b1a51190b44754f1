-- A record that was accepted, and then checked against the rules.
use Rattle.std.proofs.Common.{◌≡◌, ℕ, List, [], ◌++◌, Option, Ok, Err, inl, inr, refl, sym, subst}
use Rattle.std.specs.List.{concat}
use Rattle.m11_obj.specs.Reading.{IsRecord, content_of}
use Rattle.m11_base_writes.specs.States.{OutputState}
use Rattle.m11_link_modules.specs.Laws.{AcceptsAfter}
use Rattle.m11_link_modules.specs.Parts.{Part, record_parts}
use Rattle.m11_link_modules.specs.Positions.{RulesState}
use Rattle.m11_link_modules.specs.declared.fault.ModuleFault.{ModuleFault}
use Rattle.m11_link_modules.specs.declared.fault.ModuleFault.TheVariants as rule
use Rattle.m11_dump.proofs.Gaining.{gained_all, lacked_after, refused_after}
use Rattle.m11_dump.specs.Objects.{Gained, Judges, PutsTexts, RefusesBlock, ShowsBlock, ShowsLast, Takes, texts_held, texts_next}
use Rattle.m11_dump.specs.Positions.{of_rule, rule_byte}
use Rattle.m11_dump.specs.Records.{address_then}
use Rattle.m11_dump.specs.declared.fault.DumpFault.{DumpFault}
use Rattle.m11_dump.specs.declared.fault.DumpFault.TheVariants as fault
use Rattle.m11_dump.specs.declared.fault.LocatedFault.{LocatedFault}
use Rattle.m11_dump.specs.declared.held.HeldText.{HeldText}
use Rattle.m11_dump.specs.declared.stand.Stand.{Stand}
use Rattle.m11_dump.specs.declared.view.View.{View}

-- a record was accepted; what follows when the text that is pending after it is shown, and when it can't be shown
module _ (view : View) (s : Stand) (parts : List Part) (known : RulesState) (content : List ℕ) (count : ℕ) (is : IsRecord content)
    (output middle final : OutputState) (there : ℕ) (at : there ≡ address_then s.address (content_of content)) (held' : Option HeldText)
    (t : Takes view s.address s.held content output middle (Ok held')) where
  rest : texts_next view s.address s.held content ≡ t.0 ++ texts_held view there held'
  rest =
      let P : ℕ → Type 0 = λ a. texts_next view s.address s.held content ≡ t.0 ++ texts_held view a held' in
      subst P (sym at) (t.2 [])

  all_shown : Gained (concat (texts_held view there held')) middle final
      → Gained (concat (texts_next view s.address s.held content)) output final
  all_shown gained =
      gained_all output middle final (texts_next view s.address s.held content) t.0 (texts_held view there held') rest t.1 gained

  unshown : (f : DumpFault) → PutsTexts {A = Unit {0}} (texts_held view there held') middle final (Err f)
      → RefusesBlock view s parts content count output final f count
  unshown fault.Write h =
      (refl, inr (is, refused_after output middle final (texts_next view s.address s.held content) t.0 (texts_held view there held') rest t.1 h))
  unshown fault.NoMemory h = (
    refl,
    inr (is, inl (lacked_after output middle final (texts_next view s.address s.held content) t.0 (texts_held view there held') rest t.1 h)),
  )
  unshown (fault.Block inner) h = absurd h
  unshown (fault.Record inner) h = absurd h
  unshown (fault.Rule inner) h = absurd h
  unshown (fault.Tape inner) h = absurd h

  pub last_refuses : (said : LocatedFault) → ShowsLast view there held' s.blocks count middle final (Err said)
      → ShowsBlock view s parts known content count output final (Err said)
  last_refuses said h =
      let P : LocatedFault → Type 0 = λ x. ShowsBlock view s parts known content count output final (Err x) in
      subst P (sym h.2) (unshown h.0 h.1, refl)

  judged : (inner : ModuleFault) → AcceptsAfter parts known (record_parts content) (Err inner)
      → Gained (concat (texts_next view s.address s.held content)) output final
      → RefusesBlock view s parts content count output final (of_rule inner) (rule_byte inner content count)
  judged rule.NoMemory a gained = (refl, inr (is, inr (gained, a)))
  judged rule.BadOrder a gained = (is, a, gained, refl)
  judged rule.NoText a gained = (is, a, gained, refl)
  judged rule.BadDisplacement a gained = (is, a, gained, refl)
  judged rule.UnknownSection a gained = (is, a, gained, refl)
  judged rule.TextOutside a gained = (is, a, gained, refl)
  judged rule.TooManyGlobals a gained = (is, a, gained, refl)
  judged rule.TooManySections a gained = (is, a, gained, refl)
  judged rule.TooManyModules a gained = (is, a, gained, refl)

  pub judge_refuses : (said : LocatedFault) (done : Unit {0}) → Judges parts known content s.blocks count (Err said)
      → ShowsLast view there held' s.blocks count middle final (Ok done)
      → ShowsBlock view s parts known content count output final (Err said)
  judge_refuses said done j h =
      let P : LocatedFault → Type 0 = λ x. ShowsBlock view s parts known content count output final (Err x) in
      subst P (sym j.2) (judged j.0 j.1 (all_shown h), refl)
