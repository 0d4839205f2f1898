-- A trace as text, in pieces, and why a word of a text is bad: as bytes.
use Rattle.std.specs.Prelude.{ℕ, true, List, [], ◌∷◌, ◌++◌, eqb, ltb, if◌then◌else◌, Option, Some, None}
use Rattle.target.specs.declared.Geometry.{Geometry}
use Rattle.nib_text.specs.Writing.{wrote_next, wrote_odd, wrote_end}
use Rattle.nib_text.specs.declared.Kind.{Kind}
use Rattle.nib_text.specs.declared.Kind.TheVariants.{Command, Address, DataIn, DataOut, Finish, Protect, Raw}
use Rattle.nib_text.specs.declared.writing.Piece.{Piece}
use Rattle.nib_text.specs.declared.writing.Value.{Value}
use Rattle.nib_text.specs.declared.writing.Value.TheVariants as value
use Rattle.nib_told.specs.Lines.{line_at}
use Rattle.nib_told.specs.Words.{line_words}
use Rattle.nib_words.specs.Desk.{ascii, when, hexed, decimal}
use Rattle.nib_speech.specs.Speech.{writing_of}

-- why a word is bad, by its number
unfoldable pub reason_words : ℕ → List ℕ
reason_words n =
    if eqb n 1 then ascii "no letter of c a d o f p x = ! and no job's word stands before it on its line"
    else (if eqb n 2 then ascii "a letter with no value"
    else (if eqb n 3 then ascii "not two hex digits"
    else (if eqb n 4 then ascii "not a decimal number, or too large"
    else (if eqb n 5 then ascii "a letter, a job's word or ok, where the letter before it wants a value; a byte has two hex digits"
    else (if eqb n 6 then ascii "a job's word, which needs a part: text DIR"
    else (if eqb n 7 then ascii "the job wants a value more"
    else (if eqb n 8 then ascii "a value more than the job takes"
    else (if eqb n 9 then ascii "the part has no such LUN"
    else (if eqb n 10 then ascii "the part has no such block"
    else (if eqb n 11 then ascii "the part has no such page"
    else (if eqb n 12 then ascii "the part has no such column"
    else (if eqb n 13 then ascii "a value after ok, which takes none"
    else (if eqb n 14 then ascii "not the number of a refusal: 1 to 255, in decimal"
    else [])))))))))))))

-- c a d o f p x
abbrev pub letter_words : Option Kind → List ℕ
letter_words (Some Command) = 99 ∷ []
letter_words (Some Address) = 97 ∷ []
letter_words (Some DataIn) = 100 ∷ []
letter_words (Some DataOut) = 111 ∷ []
letter_words (Some Finish) = 102 ∷ []
letter_words (Some Protect) = 112 ∷ []
letter_words (Some Raw) = 120 ∷ []
letter_words _ = []

-- a blank before each value
abbrev pub value_words : Option Value → List ℕ
value_words None = []
value_words (Some (value.Byte b)) = 32 ∷ hexed b true
value_words (Some (value.Number n)) = 32 ∷ decimal n
value_words (Some (value.Pair kind v)) = (32 ∷ hexed kind true) ++ (32 ∷ hexed v true)

-- a line of data outs, where there are any
unfoldable pub outs_line : ℕ → List ℕ
outs_line n = ascii "o " ++ (decimal n ++ (10 ∷ []))

abbrev pub outs_words : ℕ → List ℕ
outs_words n = when (ltb 0 n) (outs_line n)

unfoldable pub piece_words : Piece → List ℕ
piece_words p = outs_words p.outs ++ (when p.close (10 ∷ []) ++ (letter_words p.letter ++ value_words p.value))

-- what one byte more of a trace adds to the text, and its end
abbrev pub back_words : ℕ → ℕ → List ℕ
back_words s b = piece_words (wrote_next (writing_of s) b).piece

abbrev pub end_words : ℕ → List ℕ
end_words s = piece_words (wrote_odd (writing_of s)).piece ++ piece_words (wrote_end (wrote_odd (writing_of s)).writing)

-- a line of a trace that is told as jobs, on a part; with no LUNs no part is known
abbrev pub part_of : Geometry → Option Geometry
part_of g = if eqb g.luns 0 then None else Some g

abbrev pub line_said : List ℕ → ℕ → Geometry → List ℕ
line_said records at g = line_words (part_of g) (line_at records at)
