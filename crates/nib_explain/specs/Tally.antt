-- The events of a trace, counted by their answers: number 0 is how many were accepted, number n how many rule n refused.
use Rattle.std.specs.Prelude.{ℕ, List, eqb, ltb, length, set, get_or, if◌then◌else◌}
use Rattle.nib_text.specs.Reading.{up}

-- a number of the counts, and 0 where there is none
abbrev pub number_at : List ℕ → ℕ → ℕ
number_at counts i = get_or counts i 0

abbrev pub bumped : List ℕ → ℕ → List ℕ
bumped counts i = if ltb i (length counts) then set counts i (up (get_or counts i 0)) else counts

-- a reply whose first byte is 2 is a refusal, by the rule that the second byte numbers
abbrev pub tallied : List ℕ → ℕ → ℕ → List ℕ
tallied counts first second = bumped counts (if eqb first 2 then second else 0)
