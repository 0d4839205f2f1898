-- An expectation that failed, in words: what was expected, and what came instead. And how a script went.
use Rattle.std.specs.Prelude.{ℕ, ◌&&◌, ◌||◌, not, List, [], ◌∷◌, ◌++◌, eqb, ltb, length, take, if◌then◌else◌}
use Rattle.nib_words.specs.Desk.{ascii, when, byte_words, listed, decimal}
use Rattle.nib_words.specs.Say.{refused_words}
use Rattle.nib_expect.specs.Expect.{refused, gives}
use Rattle.nib_expect.specs.declared.Since.{Since}

-- ' event 9 was refused 4: ..': the first that was refused
unfoldable pub event_words : Since → List ℕ
event_words s = ascii " event " ++ (decimal s.event ++ (ascii " was " ++ refused_words s.refusal))

-- a list of bytes, and of a long one its first 16
unfoldable pub bytes_words : List ℕ → List ℕ
bytes_words s = if ltb 16 (length s) then listed (take 16 s) ++ ascii " .." else listed s

unfoldable pub came_words : List ℕ → List ℕ
came_words given = when (eqb (length given) 0) (ascii " no byte") ++ (bytes_words given ++ ascii " came")

unfoldable pub gave_words : ℕ → List ℕ
gave_words b = ascii " gave " ++ byte_words b

unfoldable pub refused_last : ℕ → List ℕ
refused_last n = ascii " was " ++ refused_words n

abbrev pub answer_words : ℕ → ℕ → List ℕ
answer_words first second =
    if eqb first 0 then ascii " was accepted" else (if gives first then gave_words second else refused_last second)

-- ' event 12 was accepted': the last
unfoldable pub last_words : Since → ℕ → List ℕ
last_words s last = ascii " event " ++ (decimal last ++ answer_words s.first s.second)

-- ok
unfoldable pub ok_words : Since → List ℕ
ok_words s = ascii "expected ok;" ++ event_words s

-- ! and a number
unfoldable pub refusal_words : Since → ℕ → ℕ → List ℕ
refusal_words s last n =
    ascii "expected refusal "
    ++ (decimal n
    ++ (when s.spoiled (ascii " of the last event alone")
    ++ ((59 ∷ [])
    ++ (when (not s.any) (ascii " no event came")
    ++ (when s.spoiled (event_words s)
    ++ when (s.any && not s.spoiled) (last_words s last))))))

-- = and bytes: the first event that was refused, or else the bytes that came
abbrev pub instead_words : Since → List ℕ → List ℕ
instead_words s given = if s.spoiled || refused s.first then event_words s else came_words given

unfoldable pub bytes_failed : Since → List ℕ → List ℕ → List ℕ
bytes_failed s given wanted = ascii "expected bytes" ++ (bytes_words wanted ++ ((59 ∷ []) ++ instead_words s given))

-- '12 events, 5 expectations'
unfoldable pub script_words : ℕ → ℕ → List ℕ
script_words events expected =
    decimal events
    ++ (ascii " event"
    ++ (when (not (eqb events 1)) (115 ∷ [])
    ++ (ascii ", "
    ++ (decimal expected
    ++ (ascii " expectation"
    ++ when (not (eqb expected 1)) (115 ∷ []))))))

-- '2 of 5 expectations failed; nothing was stored'
unfoldable pub failed_words : ℕ → ℕ → List ℕ
failed_words failed expected =
    decimal failed ++ (ascii " of " ++ (decimal expected ++ ascii " expectations failed; nothing was stored"))
