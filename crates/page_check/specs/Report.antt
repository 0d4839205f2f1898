-- A check as plain numbers, for hosts: the copy, how many rules are broken, five places for their bytes, whether there is an
-- endurance, and the endurance.
use Rattle.std.specs.Prelude.{ℕ, cond, List, [], ◌∷◌, ◌++◌, ltb, length, drop, get_or, Option, None, Some, Result, Ok, Err}
use Rattle.page_check.specs.declared.Unchecked.{Unchecked}
use Rattle.page_check.specs.declared.Unchecked.TheVariants.{Length, NoGoodCopy}
use Rattle.page_check.specs.declared.Checked.{Checked}
use Rattle.page_check.specs.Check.{checked_of}

abbrev pub has_endurance : Option ℕ → ℕ
has_endurance None = 0
has_endurance (Some n) = 1

abbrev pub cycles : Option ℕ → ℕ
cycles None = 0
cycles (Some n) = n

unfoldable pub report_numbers : Checked → List ℕ
report_numbers c =
    c.copy
    ∷ c.broken.count
    ∷ get_or c.broken.bytes 0 0
    ∷ get_or c.broken.bytes 1 0
    ∷ get_or c.broken.bytes 2 0
    ∷ get_or c.broken.bytes 3 0
    ∷ get_or c.broken.bytes 4 0
    ∷ has_endurance c.endurance
    ∷ cycles c.endurance
    ∷ []

-- a report's answer, and the room after it
pub record Reported : Type 0 where
  pub answer : ℕ
  pub room : List ℕ

-- 0 with a report in the first nine numbers; 1 another length, 2 no good copy: the room stays
abbrev pub found_report : Result Checked Unchecked → List ℕ → Reported
found_report (Err Length) room = record { answer = 1; room = room }
found_report (Err NoGoodCopy) room = record { answer = 2; room = room }
found_report (Ok c) room = record { answer = 0; room = report_numbers c ++ drop 9 room }

-- 16 where there is no room for nine numbers; looked at first, and the room stays
unfoldable pub report_of : List ℕ → List ℕ → Reported
report_of answer room =
    cond (ltb (length room) 9) (record { answer = 16; room = room }) (found_report (checked_of answer) room)
