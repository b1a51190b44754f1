-- Files that are shown one after another.
use Rattle.std.proofs.Common.{◌≡◌, ℕ, List, ◌∷◌, Option, Result, Ok, Err, inr, inl, sym, subst, ◌∙◌}
use Rattle.std.specs.Prelude.{IsErrAnd}
use Rattle.m11_base.specs.Feed.{Text}
use Rattle.m11_base_disassembly.specs.declared.symbols.Symbol.{Symbol}
use Rattle.m11_base_files.specs.Opens.{Files, Holds}
use Rattle.m11_base_writes.specs.States.{OutputState}
use Rattle.m11_dumper.specs.Showing.{Fails, IsOfKind, ShowsAll, ShowsDump, ShowsFile, ShowsInput}
use Rattle.m11_dumper.specs.Lines.{head_line}
use Rattle.m11_dump.specs.declared.kind.Kind.{Kind}
use Rattle.m11_dumper.specs.declared.paths.Look.{Look}
use Rattle.m11_dumper.specs.declared.stop.Stop.{Stop}
use Rattle.m11_dumper.specs.declared.stop.Stop.TheVariants.{Write}
use Rattle.m11_dump.specs.declared.view.View.{View}

-- if a file is open and was shown, the file at its path was shown
pub file_shown : (look : Look) (symbols : List Symbol) (files : Option Files) (path : List ℕ) (kind : Kind) (text : Option Text) (faults : ℕ) (out out' : OutputState)
    (result : Result (Unit {0}) Stop) → IsOfKind look.kind files path kind → Holds files path text
    → ShowsInput look.form symbols kind text faults path out out' result → ShowsFile look symbols files path out out' result
file_shown look symbols files path kind text faults out out' result k h s = inl (kind, text, faults, k, h, s)

-- if a file was shown, and then others after it, as many as could be shown, all of them together were
pub more_shown : (look : Look) (symbols : List Symbol) (files : Option Files) (path : List ℕ) (paths : List (List ℕ)) (out middle out' : OutputState) (done : Unit {0})
    (result : Result (Unit {0}) Stop) → ShowsFile look symbols files path out middle (Ok done) → ShowsAll look symbols files paths middle out' result
    → ShowsAll look symbols files (path ∷ paths) out out' result
more_shown look symbols files path paths out middle out' done (Ok all) h s = (middle, h, s)
more_shown look symbols files path paths out middle out' done (Err stop) h s = inr (middle, h, s)

-- if showing the first file stopped, showing all files stopped there
pub not_shown : (look : Look) (symbols : List Symbol) (files : Option Files) (path : List ℕ) (paths : List (List ℕ)) (out out' : OutputState) (stop : Stop)
    → ShowsFile look symbols files path out out' (Err stop) → ShowsAll look symbols files (path ∷ paths) out out' (Err stop)
not_shown look symbols files path paths out out' stop h = inl h

-- ---- the head of a file

-- if the head of a file can't be written, showing the file stops with `Write`
pub head_fails : (view : View) (symbols : List Symbol) (kind : Kind) (text : Option Text) (faults : ℕ) (path bytes : List ℕ) (out out' : OutputState)
    (result : Result (Unit {0}) Stop) (stopped : Stop) → IsErrAnd result (λ stop. stop ≡ stopped) → stopped ≡ Write
    → bytes ≡ head_line kind path → Fails bytes out out' → ShowsDump view symbols kind text faults path out out' result
head_fails view symbols kind text faults path bytes out out' (Ok done) stopped h e is fails = absurd h
head_fails view symbols kind text faults path bytes out out' (Err stop) stopped h e is fails =
    let P : Stop → Type 0 = λ these. ShowsDump view symbols kind text faults path out out' (Err these) in
    let Q : List ℕ → Type 0 = λ these. Fails these out out' in
    subst P (sym (h ∙ e)) (subst Q is fails)
