-- What is true of feeds is true of their inputs: the texts of the feeds, if they are known, with their counts of failures.
use Rattle.std.proofs.Common.{ℕ, List, [], ◌∷◌, map, Option}
use Rattle.m11_base.specs.Feed.{Text, GiveAll, NoneFailed, OneFailed}
use Rattle.m11_cpu_machine.specs.Dialogue.{Input, input_of}
use Rattle.m11_base_files.specs.Opens.{Files, AreFiles}

module _ {F : Type 0} (text : F → Option Text) (faults : F → ℕ) where
  abbrev pub seen : List F → List Input
  seen feeds = map (λ x. input_of (text x) (faults x)) feeds

  -- if feeds are the files at these paths, so are their inputs
  pub are : (files : Option Files) (paths : List (List ℕ)) (feeds : List F) → AreFiles text files paths feeds
      → AreFiles (λ s. s.text) files paths (seen feeds)
  are files [] [] h = tt
  are files [] (x ∷ xs) h = absurd h
  are files (p ∷ paths) [] h = absurd h
  are files (p ∷ paths) (x ∷ xs) h = (h.0, are files paths xs h.1)

  pub give : (feeds : List F) (ss : List (List ℕ)) → GiveAll text feeds ss → GiveAll (λ s. s.text) (seen feeds) ss
  give [] [] g = tt
  give [] (s ∷ ss) g = absurd g
  give (x ∷ xs) [] g = absurd g
  give (x ∷ xs) (s ∷ ss) g = (g.0, give xs ss g.1)

  pub none : (olds news : List F) → NoneFailed faults olds news → NoneFailed (λ s. s.faults) (seen olds) (seen news)
  none [] [] n = tt
  none [] (y ∷ ys) n = absurd n
  none (x ∷ xs) [] n = absurd n
  none (x ∷ xs) (y ∷ ys) n = (n.0, none xs ys n.1)

  pub one : (olds news : List F) (ss : List (List ℕ)) (beginning : List ℕ)
      → OneFailed text faults olds news ss beginning
      → OneFailed (λ s. s.text) (λ s. s.faults) (seen olds) (seen news) ss beginning
  one [] news ss beginning h = absurd h
  one (x ∷ xs) [] ss beginning h = absurd h
  one (x ∷ xs) (y ∷ ys) [] beginning h = (h.0, h.1, none xs ys h.2)
  one (x ∷ xs) (y ∷ ys) (s ∷ ss) beginning h = (h.0, h.1, one xs ys ss beginning h.2)
