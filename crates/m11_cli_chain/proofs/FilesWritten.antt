-- The files after a command that wrote one file or two.
use Rattle.std.proofs.Common.{◌≡◌, ◌≢◌, ◌∙◌, Bool, true, false, List, [], ◌∷◌, map, Option, Some, None, option_map, refl, sym, ap}
use Rattle.std.proofs.lemmas.Slice.Eq.{bytes_eq-Decides}
use Rattle.std.specs.Borrow.{Bor}
use Rattle.std.specs.Str.{bytes_eq}
use Rattle.m11_base.specs.Devices.{Bytes}
use Rattle.m11_base.specs.Feed.{Text}
use Rattle.m11_base_files.specs.Opens.{CreatedFile, Files, creating, keeping, keeping_some}
use Rattle.m11_cli_tasks.specs.Opened.{optional}
use Rattle.m11_cli_chain.specs.Stores.{IsNoneOf, bytes_among, created_or}

-- ---- paths

same_path : (path : Bytes) → bytes_eq path path ≡ true
same_path path = (bytes_eq-Decides path path).1 refl

other_of : (b : Bool) (one other : Bytes) → (b ≡ true → one ≡ other) → one ≢ other → b ≡ false
other_of true one other h n = absurd (n (h refl))
other_of false one other h n = refl

other_path : (one other : Bytes) → one ≢ other → bytes_eq one other ≡ false
other_path one other n = other_of (bytes_eq one other) one other (bytes_eq-Decides one other).0 n

-- ---- what was created

-- a file created at this path has these bytes, and its output was handed back
abbrev made_at : Bytes → Option Bytes → CreatedFile
made_at path kept = record { path = path; kept = kept }

found_here : (other kept : Option Bytes) (path : Bytes) (more : List CreatedFile) → created_or other path (made_at path kept ∷ more) ≡ kept
found_here other kept path more = rw (same_path path) refl

passed_by : (other kept : Option Bytes) (made path : Bytes) (more : List CreatedFile) → made ≢ path
    → created_or other path (made_at made kept ∷ more) ≡ created_or other path more
passed_by other kept made path more n = rw (other_path made path n) refl

-- ---- the files of a command that wrote one file or two

module _ {O : Type 0} (text : O → Option Bytes) (path : Bytes) (bytes : Option Bytes) where
  abbrev ended : Option Files → Option (Bor Bytes) → Option O → Option Files
  ended old report output = keeping_some text report output (keeping path bytes (creating (path ∷ optional report) old))

  module _ (held : Bytes → Option Text) where
    abbrev begun : Option Files
    begun = Some (record { held = held; made = [] })

    abbrev with_made : List CreatedFile → Option Files
    with_made made = Some (record { held = held; made = made })

    kept_one : keeping path bytes (creating (path ∷ []) begun) ≡ with_made (made_at path bytes ∷ [])
    kept_one = rw (same_path path) refl

    kept_two : (report : Bytes) → keeping path bytes (creating (path ∷ report ∷ []) begun)
        ≡ with_made (made_at path bytes ∷ made_at report None ∷ [])
    kept_two report = rw (same_path path) refl

    report_kept : (report : Bytes) (output : Option Bytes) → path ≢ report
        → keeping report output (with_made (made_at path bytes ∷ made_at report None ∷ []))
        ≡ with_made (made_at path bytes ∷ made_at report output ∷ [])
    report_kept report output n = rw (other_path path report n) (rw (same_path report) refl)

    -- the files as a list of those created
    ended_so : (report : Option (Bor Bytes)) (output : Option O) → IsNoneOf path (optional report)
        → (kept : Option Bytes) × (ended begun report output
        ≡ with_made (made_at path bytes ∷ map (λ p. made_at p kept) (optional report)))
    ended_so None output n = (None, kept_one)
    ended_so (Some report) None n = (None, kept_two report.now)
    ended_so (Some report) (Some output) (n, none) = (
      text output,
      ap (keeping report.now (text output)) (kept_two report.now) ∙ report_kept report.now (text output) n,
    )

    passed_all : (other kept : Option Bytes) (paths : List Bytes) (here : Bytes) → IsNoneOf here paths
        → created_or other here (map (λ p. made_at p kept) paths) ≡ other
    passed_all other kept [] here n = refl
    passed_all other kept (p ∷ paths) here (n, more) =
        passed_by other kept p here (map (λ q. made_at q kept) paths) (λ e. n (sym e)) ∙ passed_all other kept paths here more

    product_left : (report : Option (Bor Bytes)) (output : Option O) → IsNoneOf path (optional report)
        → bytes_among path (ended begun report output) ≡ bytes
    product_left report output n =
        let so = ended_so report output n in
        ap (bytes_among path) so.1
        ∙ found_here (option_map (λ t. t.bytes) (held path)) bytes path (map (λ p. made_at p so.0) (optional report))

    others_left : (report : Option (Bor Bytes)) (output : Option O) → IsNoneOf path (optional report) → (here : Bytes)
        → IsNoneOf here (path ∷ optional report) → bytes_among here (ended begun report output) ≡ bytes_among here begun
    others_left report output n here (apart, none) =
        let so = ended_so report output n in
        let read = option_map (λ t. t.bytes) (held here) in
        ap (bytes_among here) so.1
        ∙ passed_by read bytes path here (map (λ p. made_at p so.0) (optional report)) (λ e. apart (sym e))
        ∙ passed_all read so.0 (optional report) here none

-- ---- known files in which none has been created

abbrev pub Fresh : Option Files → Type 0
Fresh files = option_map (λ f. f.made) files ≡ Some []

pub some_is : {A : Type 0} (one other : A) → ◌≡◌ {A = Option A} (Some one) (Some other) → one ≡ other
some_is one other e = cc

pub none_is : {A : Type 0} (one : A) → ◌≡◌ {A = Option A} None (Some one) → ⊥
none_is one e = cc

pub fresh_files : (files : Option Files) → Fresh files
    → (held : Bytes → Option Text) × (files ≡ Some (record { held = held; made = [] }))
fresh_files None e = absurd (none_is [] e)
fresh_files (Some files) e =
    (files.held, ap (λ (made : List CreatedFile). Some (record { held = files.held; made = made })) (some_is files.made [] e))

module _ {O : Type 0} (text : O → Option Bytes) (path : Bytes) (bytes : Option Bytes) (report : Option (Bor Bytes)) (output : Option O)
    (apart : IsNoneOf path (optional report)) (old new : Option Files) (fresh : Fresh old)
    (kept : new ≡ keeping_some text report output (keeping path bytes (creating (path ∷ optional report) old))) where
  ended_from : (held : Bytes → Option Text) → old ≡ Some (record { held = held; made = [] })
      → new ≡ ended text path bytes (begun text path bytes held) report output
  ended_from held is = kept ∙ ap (λ (fs : Option Files). ended text path bytes fs report output) is

  pub product_is : bytes_among path new ≡ bytes
  product_is =
      let so = fresh_files old fresh in
      ap (bytes_among path) (ended_from so.0 so.1) ∙ product_left text path bytes so.0 report output apart

  pub others_are : (here : Bytes) → IsNoneOf here (path ∷ optional report) → bytes_among here new ≡ bytes_among here old
  others_are here none =
      let so = fresh_files old fresh in
      ap (bytes_among here) (ended_from so.0 so.1) ∙ others_left text path bytes so.0 report output apart here none
      ∙ ap (bytes_among here) (sym so.1)
