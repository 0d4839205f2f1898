-- What a text means, byte by byte. A word ends at a blank, a line end or `#`; what it says is settled there.
use Rattle.std.specs.Prelude.{ℕ, ◌+◌, ◌-◌, ◌*◌, ◌%◌, Bool, true, false, ◌&&◌, ◌||◌, not, eqb, ltb, if◌then◌else◌, Option, Some, None, is_some}
use Rattle.jobs.specs.declared.reading.First.{First}
use Rattle.nib_text.specs.Kinds.{same_kind}
use Rattle.nib_text.specs.JobWords.{is_job, name_begun, name_next, job_named, is_ok, asks_number, wants, asks_of}
use Rattle.nib_text.specs.declared.job_words.Asks.{Asks}
use Rattle.nib_text.specs.declared.Kind.{Kind}
use Rattle.nib_text.specs.declared.Kind.TheVariants.{Command, Address, DataIn, DataOut, Finish, Protect, Raw, Bytes, Refusal, Accepted}
use Rattle.nib_text.specs.declared.reading.Word.{Word}
use Rattle.nib_text.specs.declared.reading.Reading.{Reading}
use Rattle.nib_text.specs.declared.reading.Wrong.TheVariants as wrong
use Rattle.nib_text.specs.declared.reading.Said.{Said}
use Rattle.nib_text.specs.declared.reading.Said.TheVariants as said
use Rattle.nib_text.specs.declared.reading.Read.{Read}
use Rattle.nib_text.specs.declared.reading.Spot.{Spot}

-- 0 to 9, A to F, a to f in ASCII; 16 for any other byte
abbrev pub hex_value : ℕ → ℕ
hex_value b =
    if ltb b 48 then 16
    else (if ltb b 58 then b - 48
    else (if ltb b 65 then 16
    else (if ltb b 71 then b - 55
    else (if ltb b 97 then 16
    else (if ltb b 103 then b - 87
    else 16)))))

-- c a d o f p x = ! in ASCII
abbrev pub letter_of : ℕ → Option Kind
letter_of b =
    if eqb b 99 then Some Command
    else (if eqb b 97 then Some Address
    else (if eqb b 100 then Some DataIn
    else (if eqb b 111 then Some DataOut
    else (if eqb b 102 then Some Finish
    else (if eqb b 112 then Some Protect
    else (if eqb b 120 then Some Raw
    else (if eqb b 61 then Some Bytes
    else (if eqb b 33 then Some Refusal
    else None))))))))

-- a line end, or the sign of a comment
abbrev pub ends_line : ℕ → Bool
ends_line b = eqb b 10 || eqb b 35

-- a space, a tab, a carriage return, or what ends a line
abbrev pub is_gap : ℕ → Bool
is_gap b = eqb b 32 || eqb b 9 || eqb b 13 || ends_line b

abbrev pub more : ℕ → ℕ
more n = if ltb n 3 then n + 1 else n

abbrev pub tenfold : ℕ → ℕ → ℕ
tenfold n d = if ltb n 100000 then n * 10 + d else n

abbrev pub no_word : Word
no_word = record { length = 0; first = 0; hex = 0; hexed = true; number = 0; numbered = true; name = 0 }

-- a word with one byte more
abbrev pub grown : Word → ℕ → Word
grown w b = record {
  length = more w.length;
  first = if eqb w.length 0 then b else w.first;
  hex = w.hex % 16 * 16 + hex_value b % 16;
  hexed = w.hexed && ltb (hex_value b) 16;
  number = tenfold w.number (hex_value b);
  numbered = w.numbered && ltb (hex_value b) 10;
  name = if eqb w.length 0 then name_begun b else name_next w.name b;
}

-- one byte that is a letter
abbrev pub is_letter : Word → Bool
is_letter w = eqb w.length 1 && is_some (letter_of w.first)

-- a letter, a job's word, or ok
abbrev pub is_head : Word → Bool
is_head w = is_letter w || is_job (job_named w.name) || is_ok w.name

-- two hex digits; a number below 256; a count below 65,536
abbrev pub is_byte : Word → Bool
is_byte w = eqb w.length 2 && w.hexed

abbrev pub is_number : Word → Bool
is_number w = w.numbered && ltb w.number 256

abbrev pub is_count : Word → Bool
is_count w = w.numbered && ltb w.number 65536

-- a refusal's number: 1 to 255
abbrev pub is_refusal : Word → Bool
is_refusal w = is_number w && ltb 0 w.number

abbrev pub byte_said : ℕ → Word → Said
byte_said kind w = if is_byte w then said.Record kind w.hex else said.Wrong wrong.NotByte

abbrev pub number_said : ℕ → Word → Said
number_said kind w = if is_number w then said.Record kind w.number else said.Wrong wrong.NotNumber

abbrev pub count_said : Word → Said
count_said w = if is_count w then said.Outs w.number else said.Wrong wrong.NotNumber

abbrev pub raw_said : Word → Said
raw_said w = if is_byte w then said.Byte w.hex else said.Wrong wrong.NotByte

-- a byte that must have come; the number of a refusal that must have come
abbrev pub expected_said : Word → Said
expected_said w = if is_byte w then said.Expected w.hex else said.Wrong wrong.NotByte

abbrev pub refusal_said : Word → Said
refusal_said w = if is_refusal w then said.Refused w.number else said.Wrong wrong.NotRefusal

-- a value, by the letter before it: kind 0 command, 1 address, 2 data in, 3 data out, 4 finish, 5 protect line
abbrev pub value_said : Option Kind → Word → Said
value_said None w = said.Wrong wrong.NoLetter
value_said (Some Command) w = byte_said 0 w
value_said (Some Address) w = byte_said 1 w
value_said (Some DataIn) w = byte_said 2 w
value_said (Some DataOut) w = count_said w
value_said (Some Finish) w = number_said 4 w
value_said (Some Protect) w = number_said 5 w
value_said (Some Raw) w = raw_said w
value_said (Some Bytes) w = expected_said w
value_said (Some Refusal) w = refusal_said w
value_said (Some Accepted) w = said.Wrong wrong.AfterOk

-- a job's value: a decimal number, or a program's byte
abbrev pub job_said : Option Asks → Word → Said
job_said a w =
    if wants a then (if is_count w then said.Value a w.number else said.Wrong wrong.NotNumber)
    else (if eqb (asks_number a) 6 then (if is_byte w then said.Value a w.hex else said.Wrong wrong.NotByte)
    else said.Wrong wrong.TooMany)

-- a letter or a job's word says nothing by itself, and ok says all. It is wrong where a value is wanted, and a job's word where
-- no part is given
abbrev pub head_said : Reading → Said
head_said r =
    if r.due then (if is_job r.job then said.Wrong wrong.TooFew else said.Wrong wrong.Early)
    else (if is_job (job_named r.word.name) && not r.part then said.Wrong wrong.NoPart
    else (if is_ok r.word.name then said.Accepted else said.Nothing))

-- no word says nothing
abbrev pub word_said : Reading → Said
word_said r =
    if eqb r.word.length 0 then said.Nothing
    else (if is_head r.word then head_said r
    else (if is_job r.job then job_said (asks_of r.job r.got) r.word
    else value_said r.kind r.word))

-- the letter, or the job and how many of its values have come, after the word
abbrev pub word_kind : Reading → Option Kind
word_kind r =
    if is_head r.word
    then (if is_letter r.word then letter_of r.word.first else (if is_ok r.word.name then Some Accepted else None))
    else r.kind

abbrev pub word_job : Reading → Option First
word_job r = if is_head r.word then job_named r.word.name else r.job

abbrev pub one_more : ℕ → ℕ
one_more got = if ltb got 4 then got + 1 else got

abbrev pub word_got : Reading → ℕ
word_got r = if is_head r.word then 0 else (if eqb r.word.length 0 then r.got else one_more r.got)

-- a value has to come after the word
abbrev pub word_due : Reading → Bool
word_due r =
    if eqb r.word.length 0 then r.due
    else is_head r.word && not (is_ok r.word.name) || wants (asks_of (word_job r) (word_got r))

abbrev pub is_wrong : Said → Bool
is_wrong said.Nothing = false
is_wrong (said.Record k v) = false
is_wrong (said.Byte b) = false
is_wrong (said.Outs n) = false
is_wrong (said.Value a n) = false
is_wrong said.Accepted = false
is_wrong (said.Expected b) = false
is_wrong (said.Refused n) = false
is_wrong (said.Wrong w) = true

-- a line that ends too early; what is wrong with its last word is told of first
abbrev pub late_said : Bool → Option First → Said → Said
late_said late job s =
    if late && not (is_wrong s) then (if is_job job then said.Wrong wrong.TooFew else said.Wrong wrong.NoValue) else s

-- the word ends; where the line ends too, no letter and no job counts any more. A job ends there, or at the next letter, job's
-- word or ok; so does a list of bytes that must have come
abbrev pub ended : Reading → ℕ → Read
ended r b = record {
  reading = record {
    comment = eqb b 35;
    kind = if ends_line b then None else word_kind r;
    due = word_due r && not (ends_line b);
    word = no_word;
    part = r.part;
    job = if ends_line b then None else word_job r;
    got = if ends_line b then 0 else word_got r;
  };
  said = late_said (ends_line b && word_due r) (word_job r) (word_said r);
  whole = if ends_line b || is_head r.word then r.job else None;
  listed = (ends_line b || is_head r.word) && same_kind r.kind (Some Bytes);
}

-- a comment goes to the line end
abbrev pub passed : Reading → ℕ → Read
passed r b = record {
  reading = record { comment = not (eqb b 10); kind = r.kind; due = r.due; word = r.word; part = r.part; job = r.job; got = r.got };
  said = said.Nothing;
  whole = None;
  listed = false;
}

abbrev pub inside : Reading → ℕ → Read
inside r b = record {
  reading = record { comment = r.comment; kind = r.kind; due = r.due; word = grown r.word b; part = r.part; job = r.job; got = r.got };
  said = said.Nothing;
  whole = None;
  listed = false;
}

-- one byte of text
abbrev pub next_of : Reading → ℕ → Read
next_of r b = if r.comment then passed r b else (if is_gap b then ended r b else inside r b)

-- where a text begins, with a part or without. A text ends as if a line end came after it
abbrev pub begun : Bool → Reading
begun part = record { comment = false; kind = None; due = false; word = no_word; part = part; job = None; got = 0 }

-- where a text stands, for whoever has to find a word: lines and places are counted from 1
abbrev pub up : ℕ → ℕ
up n = if ltb n 1000000000000 then n + 1 else n

abbrev pub spot_begun : Spot
spot_begun = record { line = 1; place = 1; start = 1 }

abbrev pub spot_next : Spot → Reading → ℕ → Spot
spot_next s r b = record {
  line = if eqb b 10 then up s.line else s.line;
  place = if eqb b 10 then 1 else up s.place;
  start = if eqb r.word.length 0 && not r.comment && not (is_gap b) then s.place else s.start;
}
