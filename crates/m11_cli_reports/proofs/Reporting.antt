-- Reports, whole or in part.
use Rattle.std.proofs.Common.{◌≡◌, ◌∙◌, ◌++◌, List, [], ℕ, inl, inr, sym, ap, refl, append_assoc, Option, Result, Ok, Err}
use Rattle.std.specs.Prelude.{OnErr, OnOk}
use Rattle.std.specs.Io.KnownBytes.{Appends}
use Rattle.m11_base.proofs.Known.{Appends-Appends}
use Rattle.m11_base.specs.Devices.{Rises}
use Rattle.m11_base.specs.Sink.{AppendsPrefix}
use Rattle.m11_base_writes.proofs.Writing.{keeps}
use Rattle.m11_base_writes.specs.States.{OutputState}
use Rattle.m11_cli_reports.specs.Reports.{Reports, ReportsSome}

-- if a call put a whole text and counted no failure, or failed after a prefix of it and counted the failure, then it reported the text
pub reports : {X E : Type 0} (r : Result X E) (text : List ℕ) (old new : OutputState)
    → OnOk r (Appends old.text new.text text) → OnOk r (new.faults ≡ old.faults)
    → OnErr r (AppendsPrefix old.text new.text text) → OnErr r (Rises old.faults new.faults)
    → Reports text old new
reports (Ok x) text old new whole sound beginning fault = inl (whole, sound)
reports (Err e) text old new whole sound beginning fault = inr (beginning, fault)

-- a true statement also holds at an error, and so do consequences of what holds there
pub at_error : {X E : Type 0} (r : Result X E) (P : Type 0) → P → OnErr r P
at_error (Ok x) P p = tt
at_error (Err e) P p = p

pub then_at_error : {X E : Type 0} (r : Result X E) (P Q : Type 0) → (P → Q) → OnErr r P → OnErr r Q
then_at_error (Ok x) P Q f p = tt
then_at_error (Err e) P Q f p = f p

-- if this text was reported, some text was; if nothing changed, the empty text was reported
pub reports_some : (text : List ℕ) (old new : OutputState) → Reports text old new → ReportsSome old new
reports_some text old new h = (text, h)

pub reports_none : (output : OutputState) → ReportsSome output output
reports_none output = ([], inl (keeps output.text, refl))

-- a beginning of a text is a beginning of a longer text, even after a text that was written whole
pub begins : (old new : Option (List ℕ)) (text more : List ℕ) → AppendsPrefix old new text
    → AppendsPrefix old new (text ++ more)
begins old new text more h = (h.0, h.1 ++ more, ap (λ t. t ++ more) h.2 ∙ append_assoc h.0 h.1 more, h.3)

pub begins_after : (old middle new : Option (List ℕ)) (first text : List ℕ) → Appends old middle first
    → AppendsPrefix middle new text → AppendsPrefix old new (first ++ text)
begins_after old middle new first text a h = (
  first ++ h.0,
  h.1,
  ap (λ t. first ++ t) h.2 ∙ sym (append_assoc first h.0 h.1),
  Appends-Appends old middle new first h.0 a h.3,
)
