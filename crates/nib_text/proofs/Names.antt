-- Each job has its word, and no other word names one; nor is any other word ok.
--     spelled    a word that comes to a place has the letters up to there, none of them the 0 between two words
--     names      the law that is stated in specs/JobWords.antt
-- Assumes nothing.
use mathlib.Core.Path.{◌≡◌, refl, sym, ap, ◌∙◌}
use mathlib.Core.Bool.{Bool, true, false, ◌&&◌, not, false≢true}
use mathlib.Core.List.{List, [], ◌∷◌}
use Prim.Native.Nat.{ℕ, suc, ◌+◌, ◌-◌, ◌≤◌, ◌<◌}
use native.Mathlib.Numerals.{add-one}
use native.Mathlib.Omega.{arith}
use lib.ListN.{take, drop, get_or}
use lib.Seq.{drop-cons}
use lib.Dec.{eqb, ltb, leb}
use borrow.Author.Tests.{eqb-true, ltb-true, le-leb}
use Rattle.std.specs.Prelude.{if◌then◌else◌, Option, Some, None}
use Rattle.target.proofs.Both.{both3}
use Rattle.jobs.specs.declared.reading.First.{First}
use Rattle.jobs.specs.declared.reading.First.TheVariants as first
use Rattle.nib_text.specs.JobWords.{is_job, letters, name_begun, name_next, job_named, is_ok, ok_word, name_after, name_of, word_of, Names}

-- no letter is 0
clear : List ℕ → Bool
clear [] = true
clear (b ∷ bs) = not (eqb b 0) && clear bs

-- what a word that goes from one place to another has
stretch : ℕ → ℕ → List ℕ
stretch n m = take (m - n) (drop n letters)

record Spelled (n m : ℕ) (bs : List ℕ) : Type 0 where
  on : n ≤ m
  same : bs ≡ stretch n m
  cleared : clear (stretch n m) ≡ true

fails : (a : Bool) → (a && false) ≡ false
fails true = refl
fails false = refl

-- what is none of the words stays none
stuck : (b : ℕ) → name_next 63 b ≡ 63
stuck b = rw (fails (eqb b (get_or letters 63 0) && not (eqb b 0)))

never : (bs : List ℕ) → name_after 63 bs ≡ 63
never [] = refl
never (b ∷ bs) = rw (stuck b) (never bs)

one-letter : (n m : ℕ) (bs : List ℕ) (b : ℕ) → b ≡ get_or letters n 0 → not (eqb b 0) ≡ true → n < 33 → Spelled (n + 1) m bs → Spelled n m (b ∷ bs)
unfolding stretch clear
one-letter n m bs b is full below s =
    let on : n + 1 ≤ m = s.on in
    let more : m - n ≡ suc (m - (n + 1)) = omega arith in
    let here : stretch n m ≡ b ∷ stretch (n + 1) m =
    rw (more, drop-cons letters n 0 below, ← is, add-one n) in
    record {
      on = omega arith;
      same = ap (λ (l : List ℕ). b ∷ l) s.same ∙ sym here;
      cleared = rw (here, full) s.cleared;
    }

none : (n : ℕ) → Spelled n n []
unfolding stretch clear
none n =
    let z : n - n ≡ 0 = omega arith in
    record { on = omega arith; same = rw (z); cleared = rw (z) }

spelled : (bs : List ℕ) (n m : ℕ) → name_after n bs ≡ m → m < 63 → Spelled n m bs
spelled [] n m e h = rw (← e) (none n)
spelled (b ∷ bs) n m e h = by (eqb b (get_or letters n 0) && not (eqb b 0) && ltb n 33) refl (λ f. spelled bs (n + 1) m f h) e where
  by : (t : Bool) → (eqb b (get_or letters n 0) && not (eqb b 0) && ltb n 33) ≡ t → (name_after (n + 1) bs ≡ m → Spelled (n + 1) m bs)
      → name_after (if t then n + 1 else 63) bs ≡ m → Spelled n m (b ∷ bs)
  by true t ih e =
      let tests = both3 (eqb b (get_or letters n 0)) (not (eqb b 0)) (ltb n 33) t in
      one-letter n m bs b (eqb-true b (get_or letters n 0) tests.0) tests.1 (ltb-true n 33 tests.2) (ih e)
  by false t ih e = let x : 63 ≡ m = sym (never bs) ∙ e in absurd (omega arith)

-- whether there is such a way at all: a test that is computed
way : ℕ → ℕ → Bool
way n m = leb n m && clear (stretch n m)

yes : (a b : Bool) → a ≡ true → b ≡ true → (a && b) ≡ true
yes a b p q = rw (p, q)

is-way : (n m : ℕ) (bs : List ℕ) → Spelled n m bs → way n m ≡ true
unfolding way
is-way n m bs s = yes (leb n m) (clear (stretch n m)) (le-leb n m s.on) s.cleared

-- the five places that a first letter leads to, and what a word that ends at `m` then is
data Begins : ℕ → ℕ → Type 0 where
  r : Begins 114 1
  p : Begins 112 10
  e : Begins 101 18
  s : Begins 115 24
  o : Begins 111 31

module _ (bs : List ℕ) (m : ℕ) (small : m < 63) where
  begins : (b : ℕ) (word : List ℕ)
      → ((c n : ℕ) → Begins c n → way n m ≡ true → c ∷ stretch n m ≡ word)
      → name_of (b ∷ bs) ≡ m → b ∷ bs ≡ word
  unfolding name_begun
  begins b word right h = by (eqb b 114) (eqb b 112) (eqb b 101) (eqb b 115) (eqb b 111) refl refl refl refl refl h where
    from : {c n : ℕ} → Begins c n → b ≡ c → name_after n bs ≡ m → b ∷ bs ≡ word
    from {c} {n} k is h =
        let s = spelled bs n m h small in
        rw (is, s.same) (right c n k (is-way n m bs s))

    by : (a1 a2 a3 a4 a5 : Bool) → eqb b 114 ≡ a1 → eqb b 112 ≡ a2 → eqb b 101 ≡ a3 → eqb b 115 ≡ a4 → eqb b 111 ≡ a5
        → name_after (if a1 then 1 else (if a2 then 10 else (if a3 then 18 else (if a4 then 24 else (if a5 then 31 else 63))))) bs ≡ m → b ∷ bs ≡ word
    by true a2 a3 a4 a5 h1 h2 h3 h4 h5 h = from r (eqb-true b 114 h1) h
    by false true a3 a4 a5 h1 h2 h3 h4 h5 h = from p (eqb-true b 112 h2) h
    by false false true a4 a5 h1 h2 h3 h4 h5 h = from e (eqb-true b 101 h3) h
    by false false false true a5 h1 h2 h3 h4 h5 h = from s (eqb-true b 115 h4) h
    by false false false false true h1 h2 h3 h4 h5 h = from o (eqb-true b 111 h5) h
    by false false false false false h1 h2 h3 h4 h5 h = let x : 63 ≡ m = sym (never bs) ∙ h in absurd (omega arith)

-- of the ways to each place only one is there
read : (c n : ℕ) → Begins c n → way n 4 ≡ true → c ∷ stretch n 4 ≡ word_of (Some first.Read)
unfolding way stretch clear
read _ _ r h = refl
read _ _ p h = absurd (false≢true h)
read _ _ e h = absurd (false≢true h)
read _ _ s h = absurd (false≢true h)
read _ _ o h = absurd (false≢true h)

read_out : (c n : ℕ) → Begins c n → way n 8 ≡ true → c ∷ stretch n 8 ≡ word_of (Some first.ReadOut)
unfolding way stretch clear
read_out _ _ r h = refl
read_out _ _ p h = absurd (false≢true h)
read_out _ _ e h = absurd (false≢true h)
read_out _ _ s h = absurd (false≢true h)
read_out _ _ o h = absurd (false≢true h)

program : (c n : ℕ) → Begins c n → way n 16 ≡ true → c ∷ stretch n 16 ≡ word_of (Some first.Program)
unfolding way stretch clear
program _ _ r h = absurd (false≢true h)
program _ _ p h = refl
program _ _ e h = absurd (false≢true h)
program _ _ s h = absurd (false≢true h)
program _ _ o h = absurd (false≢true h)

erase : (c n : ℕ) → Begins c n → way n 22 ≡ true → c ∷ stretch n 22 ≡ word_of (Some first.Erase)
unfolding way stretch clear
erase _ _ r h = absurd (false≢true h)
erase _ _ p h = absurd (false≢true h)
erase _ _ e h = refl
erase _ _ s h = absurd (false≢true h)
erase _ _ o h = absurd (false≢true h)

status : (c n : ℕ) → Begins c n → way n 29 ≡ true → c ∷ stretch n 29 ≡ word_of (Some first.Status)
unfolding way stretch clear
status _ _ r h = absurd (false≢true h)
status _ _ p h = absurd (false≢true h)
status _ _ e h = absurd (false≢true h)
status _ _ s h = refl
status _ _ o h = absurd (false≢true h)

ok-word : (c n : ℕ) → Begins c n → way n 32 ≡ true → c ∷ stretch n 32 ≡ ok_word []
unfolding way stretch clear
ok-word _ _ r h = absurd (false≢true h)
ok-word _ _ p h = absurd (false≢true h)
ok-word _ _ e h = absurd (false≢true h)
ok-word _ _ s h = absurd (false≢true h)
ok-word _ _ o h = refl

only : (bs : List ℕ) → is_job (job_named (name_of bs)) ≡ true → bs ≡ word_of (job_named (name_of bs))
only [] h = absurd (false≢true h)
only (b ∷ bs) h =
    by (eqb (name_of (b ∷ bs)) 4) (eqb (name_of (b ∷ bs)) 8) (eqb (name_of (b ∷ bs)) 16) (eqb (name_of (b ∷ bs)) 22) (eqb (name_of (b ∷ bs)) 29)
    (λ x. eqb-true (name_of (b ∷ bs)) 4 x)
    (λ x. eqb-true (name_of (b ∷ bs)) 8 x)
    (λ x. eqb-true (name_of (b ∷ bs)) 16 x)
    (λ x. eqb-true (name_of (b ∷ bs)) 22 x)
    (λ x. eqb-true (name_of (b ∷ bs)) 29 x)
    h
  where
    picked : (a1 a2 a3 a4 a5 : Bool) → Option First
    picked a1 a2 a3 a4 a5 =
        if a1 then Some first.Read else (if a2 then Some first.ReadOut else (if a3 then Some first.Program else (if a4 then Some first.Erase else (if a5 then Some first.Status else None))))

    by : (a1 a2 a3 a4 a5 : Bool)
        → (a1 ≡ true → name_of (b ∷ bs) ≡ 4)
        → (a2 ≡ true → name_of (b ∷ bs) ≡ 8)
        → (a3 ≡ true → name_of (b ∷ bs) ≡ 16)
        → (a4 ≡ true → name_of (b ∷ bs) ≡ 22)
        → (a5 ≡ true → name_of (b ∷ bs) ≡ 29)
        → is_job (picked a1 a2 a3 a4 a5) ≡ true
        → b ∷ bs ≡ word_of (picked a1 a2 a3 a4 a5)
    by true a2 a3 a4 a5 h1 h2 h3 h4 h5 h = begins bs 4 (omega arith) b _ read (h1 refl)
    by false true a3 a4 a5 h1 h2 h3 h4 h5 h = begins bs 8 (omega arith) b _ read_out (h2 refl)
    by false false true a4 a5 h1 h2 h3 h4 h5 h = begins bs 16 (omega arith) b _ program (h3 refl)
    by false false false true a5 h1 h2 h3 h4 h5 h = begins bs 22 (omega arith) b _ erase (h4 refl)
    by false false false false true h1 h2 h3 h4 h5 h = begins bs 29 (omega arith) b _ status (h5 refl)
    by false false false false false h1 h2 h3 h4 h5 h = absurd (false≢true h)

named : (f : Option First) → job_named (name_of (word_of f)) ≡ f
named None = refl
named (Some first.Read) = refl
named (Some first.ReadOut) = refl
named (Some first.Program) = refl
named (Some first.Erase) = refl
named (Some first.Status) = refl

ok : is_ok (name_of (ok_word [])) ≡ true
ok = refl

only-ok : (bs : List ℕ) → is_ok (name_of bs) ≡ true → bs ≡ ok_word []
only-ok [] h = absurd (false≢true h)
only-ok (b ∷ bs) h = begins bs 32 (omega arith) b _ ok-word (eqb-true (name_of (b ∷ bs)) 32 h)

pub names : Names
names = record { named = named; only = only; ok = ok; only-ok = only-ok }
