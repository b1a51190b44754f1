-- Blanks at the end of a line. (This project's own: no line ends with blanks.)
use Rattle.std.specs.Prelude.{ℕ, ◌==◌, if◌then◌else◌, List, [], ◌∷◌}
use Rattle.std.specs.List.{list_all}

-- a text without the blanks at its end
unfoldable pub without_last_blanks : List ℕ → List ℕ
without_last_blanks [] = []
without_last_blanks (byte ∷ bytes) =
    if list_all (λ b. b == 32) (byte ∷ bytes) then [] else byte ∷ without_last_blanks bytes
