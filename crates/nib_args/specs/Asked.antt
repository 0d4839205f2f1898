-- Which command the arguments name. Words are lists of ASCII codes.
use Rattle.std.specs.Prelude.{ℕ, Bool, true, false, ◌&&◌, ◌||◌, not, List, [], ◌∷◌, eqb, get_or, if◌then◌else◌, Option, Some, None}
use Rattle.std.specs.Str.{bytes_eq}
use Rattle.nib_args.specs.declared.Asked.{Asked}
use Rattle.nib_args.specs.declared.Asked.TheVariants.{Demo, New, NewFrom, Run, Explain, ExplainEach, Test, Dump, Diff, Text, TextOn, Back, Jobs, JobsOn, Page, Check, Parts, Version, Help}
use Rattle.nib_args.specs.declared.May.{May}

-- the same bytes in the same order
abbrev pub same_bytes : List ℕ → List ℕ → Bool
same_bytes s t = bytes_eq s t

-- demo, text, jobs, help, version, parts, --help
abbrev pub demo_word : List ℕ
demo_word = 100 ∷ 101 ∷ 109 ∷ 111 ∷ []

abbrev pub text_word : List ℕ
text_word = 116 ∷ 101 ∷ 120 ∷ 116 ∷ []

abbrev pub jobs_word : List ℕ
jobs_word = 106 ∷ 111 ∷ 98 ∷ 115 ∷ []

abbrev pub help_word : List ℕ
help_word = 104 ∷ 101 ∷ 108 ∷ 112 ∷ []

abbrev pub version_word : List ℕ
version_word = 118 ∷ 101 ∷ 114 ∷ 115 ∷ 105 ∷ 111 ∷ 110 ∷ []

abbrev pub parts_word : List ℕ
parts_word = 112 ∷ 97 ∷ 114 ∷ 116 ∷ 115 ∷ []

abbrev pub help_flag : List ℕ
help_flag = 45 ∷ 45 ∷ 104 ∷ 101 ∷ 108 ∷ 112 ∷ []

-- new, run, explain, test, dump, diff, page, check, -d, -v
abbrev pub new_word : List ℕ
new_word = 110 ∷ 101 ∷ 119 ∷ []

abbrev pub run_word : List ℕ
run_word = 114 ∷ 117 ∷ 110 ∷ []

abbrev pub explain_word : List ℕ
explain_word = 101 ∷ 120 ∷ 112 ∷ 108 ∷ 97 ∷ 105 ∷ 110 ∷ []

abbrev pub test_word : List ℕ
test_word = 116 ∷ 101 ∷ 115 ∷ 116 ∷ []

abbrev pub dump_word : List ℕ
dump_word = 100 ∷ 117 ∷ 109 ∷ 112 ∷ []

abbrev pub diff_word : List ℕ
diff_word = 100 ∷ 105 ∷ 102 ∷ 102 ∷ []

abbrev pub page_word : List ℕ
page_word = 112 ∷ 97 ∷ 103 ∷ 101 ∷ []

abbrev pub check_word : List ℕ
check_word = 99 ∷ 104 ∷ 101 ∷ 99 ∷ 107 ∷ []

abbrev pub back_flag : List ℕ
back_flag = 45 ∷ 100 ∷ []

abbrev pub each_flag : List ℕ
each_flag = 45 ∷ 118 ∷ []

-- a word by itself
abbrev pub alone_of : List ℕ → Option Asked
alone_of w =
    if same_bytes w demo_word then Some Demo
    else (if same_bytes w text_word then Some Text
    else (if same_bytes w jobs_word then Some Jobs
    else (if same_bytes w parts_word then Some Parts
    else (if same_bytes w version_word then Some Version
    else (if same_bytes w help_word || same_bytes w help_flag then Some Help
    else None)))))

-- an argument that begins with a dash is no folder and no file
abbrev pub dashed : List ℕ → Bool
dashed v = eqb (get_or v 0 0) 45

-- a command that takes a folder or a file
abbrev pub named : List ℕ → Option Asked
named w =
    if same_bytes w new_word then Some New
    else (if same_bytes w run_word then Some Run
    else (if same_bytes w explain_word then Some Explain
    else (if same_bytes w test_word then Some Test
    else (if same_bytes w text_word then Some TextOn
    else (if same_bytes w jobs_word then Some JobsOn
    else (if same_bytes w page_word then Some Page
    else (if same_bytes w check_word then Some Check
    else None)))))))

-- a word with another after it: a folder, a file, -d or --help
abbrev pub with_one_of : List ℕ → List ℕ → Option Asked
with_one_of w v =
    if same_bytes v help_flag then Some Help
    else (if same_bytes w text_word && same_bytes v back_flag then Some Back
    else (if dashed v then None
    else named w))

-- a word with two others after it: a folder and a part or a folder, or -v and a folder
abbrev pub with_two_of : List ℕ → List ℕ → List ℕ → Option Asked
with_two_of w v u =
    if same_bytes u help_flag then Some Help
    else (if dashed u then None
    else (if same_bytes w explain_word && same_bytes v each_flag then Some ExplainEach
    else (if dashed v then None
    else (if same_bytes w new_word then Some NewFrom
    else (if same_bytes w diff_word then Some Diff
    else None)))))

-- n arguments were given, the program's own name among them
abbrev pub asked_of : ℕ → List ℕ → List ℕ → List ℕ → Option Asked
asked_of n w v u =
    if eqb n 2 then alone_of w
    else (if eqb n 3 then with_one_of w v
    else (if eqb n 4 then with_two_of w v u
    else (if eqb n 6 && same_bytes w dump_word && not (dashed v) then Some Dump
    else None)))

-- what a command may do to files: `new` makes a folder; `run` and `test` store array, counts and registers; no other does either,
-- and nothing that is no command
abbrev pub may_of : Option Asked → May
may_of (Some New) = record { make = true; store = false }
may_of (Some NewFrom) = record { make = true; store = false }
may_of (Some Run) = record { make = false; store = true }
may_of (Some Test) = record { make = false; store = true }
may_of _ = record { make = false; store = false }
