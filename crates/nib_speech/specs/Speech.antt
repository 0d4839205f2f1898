-- How far a text or a trace has come, as one number, and what a byte of a text says, as one number. 0 is where both begin.
use Rattle.std.specs.Prelude.{ℕ, ◌≡◌, List, ◌+◌, ◌-◌, ◌*◌, ◌/◌, ◌%◌, Bool, true, false, ◌&&◌, not, eqb, ltb, if◌then◌else◌, Option, Some, None, is_some, unwrap_or}
use Rattle.target.specs.declared.Geometry.{Geometry}
use Rattle.jobs.specs.declared.reading.First.{First}
use Rattle.jobs.specs.declared.reading.First.TheVariants as first
use Rattle.nib_words.specs.Desk.{Desk, wrote}
use Rattle.nib_places.specs.Places.{on_part}
use Rattle.nib_text.specs.JobWords.{job_number, asks_number}
use Rattle.nib_text.specs.declared.job_words.Asks.{Asks}
use Rattle.nib_text.specs.declared.job_words.Asks.TheVariants as asks
use Rattle.nib_text.specs.Kinds.{kind_number}
use Rattle.nib_text.specs.Reading.{next_of, is_gap}
use Rattle.nib_text.specs.Writing.{wrote_next}
use Rattle.nib_text.specs.declared.Kind.{Kind}
use Rattle.nib_text.specs.declared.Kind.TheVariants.{Command, Address, DataIn, DataOut, Finish, Protect, Raw, Bytes, Refusal, Accepted}
use Rattle.nib_text.specs.declared.reading.Reading.{Reading}
use Rattle.nib_text.specs.declared.reading.Wrong.{Wrong}
use Rattle.nib_text.specs.declared.reading.Wrong.TheVariants as wrong
use Rattle.nib_text.specs.declared.reading.Said.{Said}
use Rattle.nib_text.specs.declared.reading.Said.TheVariants as said
use Rattle.nib_text.specs.declared.writing.Writing.{Writing}

-- 0.5.0
abbrev pub version_number : ℕ
version_number = 1537

-- words put down on a lent slice from its beginning: what lies there then, and how many of its bytes are the words'
abbrev pub Says : List ℕ → List ℕ → ℕ → List ℕ → Type 0
Says old new n words = ◌≡◌ {A = Desk} (record { room = new; at = n }) (wrote (record { room = old; at = 0 }) words)

abbrev pub bit : Bool → ℕ
bit true = 1
bit false = 0

abbrev pub kind_of : ℕ → Option Kind
kind_of n =
    if eqb n 1 then Some Command
    else (if eqb n 2 then Some Address
    else (if eqb n 3 then Some DataIn
    else (if eqb n 4 then Some DataOut
    else (if eqb n 5 then Some Finish
    else (if eqb n 6 then Some Protect
    else (if eqb n 7 then Some Raw
    else (if eqb n 8 then Some Bytes
    else (if eqb n 9 then Some Refusal
    else (if eqb n 10 then Some Accepted
    else None)))))))))

abbrev pub first_of : ℕ → Option First
first_of n =
    if eqb n 1 then Some first.Read
    else (if eqb n 2 then Some first.ReadOut
    else (if eqb n 3 then Some first.Program
    else (if eqb n 4 then Some first.Erase
    else (if eqb n 5 then Some first.Status
    else None))))

abbrev pub asks_of : ℕ → Option Asks
asks_of n =
    if eqb n 1 then Some asks.Lun
    else (if eqb n 2 then Some asks.Block
    else (if eqb n 3 then Some asks.Page
    else (if eqb n 4 then Some asks.Column
    else (if eqb n 5 then Some asks.Count
    else (if eqb n 6 then Some asks.Byte
    else None)))))

-- from the lowest bit on: comment, due, no hex digits, no decimal digits, 2 bits the word's length, 8 its first byte, 8 its last
-- two as hex digits, 20 its number, 3 that are 0, whether a part is given, 6 how much of a job's word or of ok it is, 3 how many
-- of the job's values have come, 3 the job, 4 the letter
abbrev pub reading_of : ℕ → Reading
reading_of n = record {
  comment = eqb (n % 2) 1;
  kind = kind_of (n / 288230376151711744);
  due = eqb (n / 2 % 2) 1;
  word = record {
    length = n / 16 % 4;
    first = n / 64 % 256;
    hex = n / 16384 % 256;
    hexed = eqb (n / 4 % 2) 0;
    number = n / 4194304 % 1048576;
    numbered = eqb (n / 8 % 2) 0;
    name = n / 70368744177664 % 64;
  };
  part = eqb (n / 35184372088832 % 2) 1;
  job = first_of (n / 36028797018963968 % 8);
  got = n / 4503599627370496 % 8;
}

abbrev pub reading_number : Reading → ℕ
reading_number r =
    bit r.comment + bit r.due * 2 + bit (not r.word.hexed) * 4 + bit (not r.word.numbered) * 8
    + r.word.length * 16 + r.word.first * 64 + r.word.hex * 16384 + r.word.number % 1048576 * 4194304
    + bit r.part * 35184372088832 + r.word.name % 64 * 70368744177664 + r.got % 8 * 4503599627370496
    + job_number r.job * 36028797018963968 + kind_number r.kind % 16 * 288230376151711744

abbrev pub wrong_number : Wrong → ℕ
wrong_number wrong.NoLetter = 1
wrong_number wrong.NoValue = 2
wrong_number wrong.NotByte = 3
wrong_number wrong.NotNumber = 4
wrong_number wrong.Early = 5
wrong_number wrong.NoPart = 6
wrong_number wrong.TooFew = 7
wrong_number wrong.TooMany = 8
wrong_number wrong.NoLun = 9
wrong_number wrong.NoBlock = 10
wrong_number wrong.NoPage = 11
wrong_number wrong.NoColumn = 12
wrong_number wrong.AfterOk = 13
wrong_number wrong.NotRefusal = 14

abbrev pub said_number : Said → ℕ
said_number said.Nothing = 0
said_number (said.Record k v) = 65536 + k * 256 + v
said_number (said.Byte b) = 131072 + b
said_number (said.Outs n) = 196608 + n % 65536
said_number (said.Value a n) = 262144 + asks_number a * 65536 + n % 65536
said_number (said.Wrong w) = 262144 + wrong_number w
said_number said.Accepted = 720896
said_number (said.Expected b) = 786432 + b
said_number (said.Refused n) = 851968 + n

-- from the lowest bit on: whether the first byte of a record has come, 4 bits the letter, 8 that byte, the rest how many values
abbrev pub writing_of : ℕ → Writing
writing_of n = record {
  half = if eqb (n % 2) 1 then Some (n / 32 % 256) else None;
  line = kind_of (n / 2 % 16);
  many = n / 8192;
}

abbrev pub writing_number : Writing → ℕ
writing_number w = bit (is_some w.half) + kind_number w.line * 2 + unwrap_or w.half 0 * 32 + w.many % 65536 * 8192

abbrev pub text_next : ℕ → ℕ → ℕ
text_next s b = reading_number (next_of (reading_of s) b).reading

abbrev pub text_said : ℕ → ℕ → ℕ
text_said s b = said_number (next_of (reading_of s) b).said

-- the job that ends with the byte
abbrev pub text_job : ℕ → ℕ → ℕ
text_job s b = job_number (next_of (reading_of s) b).whole

-- whether a list of expected bytes ends with the byte
abbrev pub text_listed : ℕ → ℕ → ℕ
text_listed s b = bit (next_of (reading_of s) b).listed

-- a part by its sizes; columns are the page size P
abbrev pub sizes : ℕ → ℕ → ℕ → ℕ → Geometry
sizes luns blocks pages columns = record { bytes = columns; spare = 0; pages = pages; blocks = blocks; luns = luns; programs = 0 }

-- what a byte says, on a part: 5 to 10 times 65,536 are a job's values
abbrev pub said_on : ℕ → Geometry → ℕ
said_on s g =
    if ltb 4 (s / 65536) && ltb (s / 65536) 11 then said_number (on_part g (said.Value (asks_of (s / 65536 - 4)) (s % 65536)))
    else s

abbrev pub text_begins : ℕ → ℕ → ℕ
text_begins s b = bit (eqb (reading_of s).word.length 0 && not (reading_of s).comment && not (is_gap b))

abbrev pub back_next : ℕ → ℕ → ℕ
back_next s b = writing_number (wrote_next (writing_of s) b).writing
