-- What `explain` says beyond events and replies: a row, a status byte, data in a row, and the tally.
use Rattle.std.specs.Prelude.{ℕ, suc, ◌-◌, ◌/◌, ◌%◌, Bool, false, ◌&&◌, ◌||◌, not, List, [], ◌∷◌, ◌++◌, eqb, ltb, length, drop, if◌then◌else◌, Option, Some, None}
use Rattle.target.specs.Address.{page_of, block_of, lun_of}
use Rattle.target.specs.declared.Geometry.{Geometry}
use Rattle.target.specs.declared.Row.{Row}
use Rattle.nib_words.specs.Desk.{ascii, when, byte_words, listed, decimal}
use Rattle.nib_told.specs.Words.{row_bytes, times_words}
use Rattle.nib_explain.specs.Tally.{number_at}
use Rattle.nib_explain.specs.declared.fold.Run.{Run}
use Rattle.nib_explain.specs.declared.fold.Run.TheVariants as run

-- a status byte: bits 5 and 6 are set where the LUN is ready, bit 0 where its last program or erase failed, bit 7 where the protect
-- line is high
abbrev pub ready_name : Bool → List ℕ
ready_name ready = if ready then ascii "ready" else ascii "working"

unfoldable pub status_words : ℕ → List ℕ
status_words b =
    ready_name (eqb (b / 32 % 4) 3) ++ (when (eqb (b % 2) 1) (ascii ", FAIL") ++ when (ltb b 128) (ascii ", line low"))

-- 06h and 78h, by their places in the list of first commands
abbrev pub lun_alone : ℕ → Bool
lun_alone first = eqb first 2 || eqb first 5

abbrev pub row_of : ℕ → Row
row_of r = record { 0 = r }

-- a row, and as much of it as the command looks at: 60h, 3 in that list, not at the page; 06h and 78h at the LUN alone
unfoldable pub row_at : ℕ → Geometry → ℕ → List ℕ
row_at first g r =
    ascii "row "
    ++ (row_bytes r
    ++ ((ascii ": LUN " ++ decimal (lun_of g (row_of r)))
    ++ (when (not (lun_alone first)) (ascii ", block " ++ decimal (block_of g (row_of r)))
    ++ when (not (lun_alone first) && not (eqb first 3)) (ascii ", page " ++ decimal (page_of g (row_of r))))))

-- the first bytes of a run, and two dots where it has more
unfoldable pub data_list : List ℕ → List ℕ → ℕ → List ℕ
data_list words bytes count = words ++ (listed bytes ++ when (ltb (length bytes) count) (ascii " .."))

-- 'data in 3Ch', or 'data in, 2 bytes: 3Ch A5h'
unfoldable pub in_words : ℕ → ℕ → List ℕ → List ℕ
in_words b count bytes = times_words 2 b count false ++ when (ltb 1 count) (data_list (ascii ":") bytes count)

-- 'data out', or 'data out, 3 times'
unfoldable pub polled_words : ℕ → List ℕ
polled_words count =
    ascii "data out" ++ (when (ltb 1 count) (ascii ", " ++ decimal count) ++ when (ltb 1 count) (ascii " times"))

-- the cycles of a run, of which b is the first byte and bytes are the first bytes
abbrev pub run_words : Option Run → ℕ → ℕ → List ℕ → List ℕ
run_words None b count bytes = []
run_words (Some run.In) b count bytes = in_words b count bytes
run_words (Some run.Out) b count bytes = times_words 3 0 count false
run_words (Some run.Status) b count bytes = polled_words count

-- 'byte 3Ch', or 'bytes 3Ch A5h'
abbrev pub out_reply : ℕ → ℕ → List ℕ → List ℕ
out_reply b count bytes =
    if ltb 1 count then data_list (ascii "bytes") bytes count else data_list (ascii "byte") (b ∷ []) count

-- 'byte E1h  ready, FAIL'
unfoldable pub status_reply : ℕ → List ℕ
status_reply b = ascii "byte " ++ (byte_words b ++ (ascii "  " ++ status_words b))

-- the replies of a run
abbrev pub run_reply : Option Run → ℕ → ℕ → List ℕ → List ℕ
run_reply None b count bytes = []
run_reply (Some run.In) b count bytes = ascii "accepted"
run_reply (Some run.Out) b count bytes = out_reply b count bytes
run_reply (Some run.Status) b count bytes = status_reply b

-- how often a rule refused, where it did; told says that another was told before it
abbrev pub separator : Bool → List ℕ
separator told = if told then ascii ", " else ascii ": "

unfoldable pub rule_named : ℕ → ℕ → Bool → List ℕ
rule_named times rule told = (separator told ++ decimal times) ++ (ascii " by rule " ++ decimal rule)

abbrev pub rule_times : ℕ → ℕ → Bool → List ℕ
rule_times times rule told = when (ltb 0 times) (rule_named times rule told)

unfoldable pub from_rule : List ℕ → ℕ → Bool → List ℕ
from_rule [] rule told = []
from_rule (times ∷ s) rule told = rule_times times rule told ++ from_rule s (suc rule) (told || ltb 0 times)

-- from rule 1 on
unfoldable pub by_rules : List ℕ → List ℕ
by_rules counts = from_rule (drop 1 counts) 1 false

-- '22 events: 19 accepted, 3 refused: 1 by rule 3, 2 by rule 5'
unfoldable pub tally_words : ℕ → List ℕ → List ℕ
tally_words events counts =
    decimal events
    ++ (ascii " event"
    ++ (when (not (eqb events 1)) (115 ∷ [])
    ++ ((ascii ": " ++ decimal (number_at counts 0))
    ++ ((ascii " accepted, " ++ decimal (events - number_at counts 0))
    ++ (ascii " refused" ++ by_rules counts)))))
