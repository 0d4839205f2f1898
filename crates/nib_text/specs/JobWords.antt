-- Words for whole jobs (document 02, A5): which words name one, and the values that come after each. And the word ok.
use Rattle.std.specs.Prelude.{ℕ, ◌+◌, ◌≡◌, Bool, true, ◌&&◌, not, List, [], ◌∷◌, eqb, ltb, get_or, if◌then◌else◌, Option, Some, None, is_some}
use Rattle.jobs.specs.declared.reading.First.{First}
use Rattle.jobs.specs.declared.reading.First.TheVariants as first
use Rattle.nib_text.specs.declared.job_words.Asks.{Asks}
use Rattle.nib_text.specs.declared.job_words.Asks.TheVariants as asks

-- a job's number, as hosts have it (crates/jobs/specs/Numbers.antt); 0 for none
abbrev pub job_number : Option First → ℕ
job_number None = 0
job_number (Some first.Read) = 1
job_number (Some first.ReadOut) = 2
job_number (Some first.Program) = 3
job_number (Some first.Erase) = 4
job_number (Some first.Status) = 5

abbrev pub is_job : Option First → Bool
is_job f = is_some f

-- the words in ASCII: read-out, whose front is read; program; erase; status; ok
abbrev pub read_out_word : List ℕ → List ℕ
read_out_word ls = 114 ∷ (101 ∷ (97 ∷ (100 ∷ (45 ∷ (111 ∷ (117 ∷ (116 ∷ ls)))))))

abbrev pub program_word : List ℕ → List ℕ
program_word ls = 112 ∷ (114 ∷ (111 ∷ (103 ∷ (114 ∷ (97 ∷ (109 ∷ ls))))))

abbrev pub erase_word : List ℕ → List ℕ
erase_word ls = 101 ∷ (114 ∷ (97 ∷ (115 ∷ (101 ∷ ls))))

abbrev pub status_word : List ℕ → List ℕ
status_word ls = 115 ∷ (116 ∷ (97 ∷ (116 ∷ (117 ∷ (115 ∷ ls)))))

abbrev pub ok_word : List ℕ → List ℕ
ok_word ls = 111 ∷ (107 ∷ ls)

-- one after the other, each with a 0 behind it
abbrev pub letters : List ℕ
letters = read_out_word (0 ∷ program_word (0 ∷ erase_word (0 ∷ status_word (0 ∷ ok_word (0 ∷ [])))))

-- How much of one of these words a word is: the place after its last byte in those letters, 63 for what is none of them. After
-- the first byte it is one of the words' own places; each byte more is the letter that stands there
abbrev pub name_begun : ℕ → ℕ
name_begun b = if eqb b 114 then 1 else (if eqb b 112 then 10 else (if eqb b 101 then 18 else (if eqb b 115 then 24 else (if eqb b 111 then 31 else 63))))

abbrev pub name_next : ℕ → ℕ → ℕ
name_next n b = if eqb b (get_or letters n 0) && not (eqb b 0) && ltb n 33 then n + 1 else 63

-- the places where a word is whole
abbrev pub job_named : ℕ → Option First
job_named n =
    if eqb n 4 then Some first.Read
    else (if eqb n 8 then Some first.ReadOut
    else (if eqb n 16 then Some first.Program
    else (if eqb n 22 then Some first.Erase
    else (if eqb n 29 then Some first.Status
    else None))))

abbrev pub is_ok : ℕ → Bool
is_ok n = eqb n 32

-- a word's bytes, first to last
abbrev pub name_after : ℕ → List ℕ → ℕ
name_after n [] = n
name_after n (b ∷ bs) = name_after (name_next n b) bs

abbrev pub name_of : List ℕ → ℕ
name_of [] = 0
name_of (b ∷ bs) = name_after (name_begun b) bs

abbrev pub word_of : Option First → List ℕ
word_of None = []
word_of (Some first.Read) = 114 ∷ (101 ∷ (97 ∷ (100 ∷ [])))
word_of (Some first.ReadOut) = read_out_word []
word_of (Some first.Program) = program_word []
word_of (Some first.Erase) = erase_word []
word_of (Some first.Status) = status_word []

-- each job has its word, and no other word names one; nor is any other word ok (proved in proofs/Names.antt): whoever believes
-- these words need not read the places above
pub record Names : Type 0 where
  pub named : (f : Option First) → job_named (name_of (word_of f)) ≡ f
  pub only : (bs : List ℕ) → is_job (job_named (name_of bs)) ≡ true → bs ≡ word_of (job_named (name_of bs))
  pub ok : is_ok (name_of (ok_word [])) ≡ true
  pub only-ok : (bs : List ℕ) → is_ok (name_of bs) ≡ true → bs ≡ ok_word []

abbrev pub asks_number : Option Asks → ℕ
asks_number None = 0
asks_number (Some asks.Lun) = 1
asks_number (Some asks.Block) = 2
asks_number (Some asks.Page) = 3
asks_number (Some asks.Column) = 4
asks_number (Some asks.Count) = 5
asks_number (Some asks.Byte) = 6

-- a value must come: any but a program's bytes, of which there may be none
abbrev pub wants : Option Asks → Bool
wants a = ltb 0 (asks_number a) && ltb (asks_number a) 6

-- LUN, block, page and column, and what comes after them
abbrev pub paged : ℕ → Option Asks → Option Asks
paged got rest =
    if eqb got 0 then Some asks.Lun else (if eqb got 1 then Some asks.Block else (if eqb got 2 then Some asks.Page else (if eqb got 3 then Some asks.Column else rest)))

-- a job's next value, where `got` of them have come
abbrev pub asks_of : Option First → ℕ → Option Asks
asks_of None got = None
asks_of (Some first.Read) got = paged got None
asks_of (Some first.ReadOut) got = if eqb got 0 then Some asks.Lun else (if eqb got 1 then Some asks.Column else (if eqb got 2 then Some asks.Count else None))
asks_of (Some first.Program) got = paged got (Some asks.Byte)
asks_of (Some first.Erase) got = if eqb got 0 then Some asks.Lun else (if eqb got 1 then Some asks.Block else None)
asks_of (Some first.Status) got = if eqb got 0 then Some asks.Lun else (if eqb got 1 then Some asks.Count else None)
