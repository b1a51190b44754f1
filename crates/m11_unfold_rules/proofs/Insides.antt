-- A part of a line is no longer than the line.
use Rattle.std.proofs.Common.{◌≡◌, ◌≤◌, ℕ, Bool, true, false, ◌-◌, if◌then◌else◌, List, [], length, drop, take, arith}
use Rattle.std.proofs.lemmas.List.{length-drop, length-take, take_all}
use Rattle.m11_scan.specs.Cutting.{text_between}

no_longer : (line : List ℕ) (start end : ℕ) (fits : Bool)
    → length (if fits then take (end - start) (drop start line) else []) ≤ length line
no_longer line start end true =
    omega (arith, length-take (end - start) (drop start line), length-drop start line)
no_longer line start end false = omega arith

pub inside_whole : (line : List ℕ) (start end limit : ℕ) → length line ≤ limit
    → take limit (text_between line start end) ≡ text_between line start end
inside_whole line start end limit short =
    let least : length (text_between line start end) ≤ length line = no_longer line start end _ in
    take_all limit (text_between line start end) (omega arith)
