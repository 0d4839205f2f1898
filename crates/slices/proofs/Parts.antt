-- Two lists with the same bytes in one stretch: what is read, spliced in or stored within the stretch is the same in both.
--     parts-alike      a part that lies within it
--     splices-alike    the stretch after a splice within it
--     get_or-alike      a byte of it
--     set-splice       a store is a splice of one byte
--     pieces-ext       lists cut into pieces of one size are equal where the pieces are
-- Assumes nothing.
use mathlib.Core.Path.{◌≡◌, refl, sym, ap, ◌∙◌}
use mathlib.Core.List.{List, [], ◌∷◌, ◌++◌}
use Prim.Native.Nat.{ℕ, zero, suc, ◌+◌, ◌-◌, ◌*◌, ◌≤◌, ◌<◌}
use native.Mathlib.Nat.{suc-mul, zero-mul}
use native.Mathlib.Omega.{arith}
use lib.ListN.{length, take, drop, get_or, set, length-drop, take-append-drop}
use lib.Seq.{take-take, drop-drop}
use Rattle.slices.specs.Cells.{splice, part}

-- bytes that lie within the first k
among_first : (xs : List ℕ) (i m k : ℕ) → i + m ≤ k → take m (drop i xs) ≡ take m (drop i (take k xs))
among_first xs zero m k within = sym (take-take m k xs (omega arith))
among_first [] (suc i) m zero within = refl
among_first [] (suc i) m (suc k) within = refl
among_first (x ∷ xs) (suc i) m zero within = absurd (omega arith)
among_first (x ∷ xs) (suc i) m (suc k) within = among_first xs i m k (omega arith)

-- a part within a stretch is a part of the stretch
of-stretch : (xs : List ℕ) (b k i m : ℕ) → i + m ≤ k → part xs (b + i) m ≡ part (part xs b k) i m
unfolding part
of-stretch xs b k i m within = ap (take m) (sym (drop-drop i b xs)) ∙ among_first (drop b xs) i m k within

pub parts-alike : (xs ys : List ℕ) (b k : ℕ) → part xs b k ≡ part ys b k → (at m : ℕ) → b ≤ at → at + m ≤ b + k → part xs at m ≡ part ys at m
parts-alike xs ys b k agree at m low high =
    let there : b + (at - b) ≡ at = omega arith in
    let within : at - b + m ≤ k = omega arith in
    rw (← there)
    (of-stretch xs b k (at - b) m within
    ∙ ap (λ (l : List ℕ). part l (at - b) m) agree
    ∙ sym (of-stretch ys b k (at - b) m within))

-- the first bytes of a list that begins with new ones
new-first : (new xs : List ℕ) (n k : ℕ) → length new ≡ n → n ≤ length xs → n ≤ k → take k (new ++ drop n xs) ≡ new ++ drop n (take k xs)
new-first [] xs zero k same fits within = refl
new-first [] xs (suc n) k same fits within = absurd (omega arith)
new-first (y ∷ new) xs zero k same fits within = absurd (omega arith)
new-first (y ∷ new) [] (suc n) k same fits within = absurd (omega arith)
new-first (y ∷ new) (x ∷ xs) (suc n) zero same fits within = absurd (omega arith)
new-first (y ∷ new) (x ∷ xs) (suc n) (suc k) same fits within =
    ap (λ (l : List ℕ). y ∷ l) (new-first new xs n k (omega arith) (omega arith) (omega arith))

-- the first bytes after a splice among them
first_spliced : (xs : List ℕ) (k i n : ℕ) (new : List ℕ) → i + n ≤ k → i + n ≤ length xs → length new ≡ n → take k (splice xs i n new) ≡ splice (take k xs) i n new
unfolding splice
first_spliced xs k zero n new within fits same = new-first new xs n k same (omega arith) (omega arith)
first_spliced [] k (suc i) n new within fits same = absurd (omega arith)
first_spliced (x ∷ xs) zero (suc i) n new within fits same = absurd (omega arith)
first_spliced (x ∷ xs) (suc k) (suc i) n new within fits same =
    ap (λ (l : List ℕ). x ∷ l) (first_spliced xs k i n new (omega arith) (omega arith) same)

-- a stretch after a splice within it is the stretch, spliced
stretch-spliced : (xs : List ℕ) (b k at i n : ℕ) (new : List ℕ) → b + i ≡ at → i + n ≤ k → at + n ≤ length xs → length new ≡ n → part (splice xs at n new) b k ≡ splice (part xs b k) i n new
unfolding part splice
stretch-spliced xs zero k at i n new there within fits same =
    let here : at ≡ i = omega arith in
    rw (here) (first_spliced xs k i n new within (omega arith) same)
stretch-spliced xs (suc b) k zero i n new there within fits same = absurd (omega arith)
stretch-spliced [] (suc b) k (suc at) i n new there within fits same = absurd (omega arith)
stretch-spliced (x ∷ xs) (suc b) k (suc at) i n new there within fits same =
    stretch-spliced xs b k at i n new (omega arith) within (omega arith) same

pub splices-alike : (xs ys : List ℕ) (b k : ℕ) → part xs b k ≡ part ys b k → (at n : ℕ) (new : List ℕ) → b ≤ at → at + n ≤ b + k → at + n ≤ length xs → at + n ≤ length ys → length new ≡ n → part (splice xs at n new) b k ≡ part (splice ys at n new) b k
splices-alike xs ys b k agree at n new low high fits fitsʳ same =
    stretch-spliced xs b k at (at - b) n new (omega arith) (omega arith) fits same
    ∙ ap (λ (l : List ℕ). splice l (at - b) n new) agree
    ∙ sym (stretch-spliced ys b k at (at - b) n new (omega arith) (omega arith) fitsʳ same)

-- a byte is the first one of the part that it is
byte-of-part : (xs : List ℕ) (i : ℕ) → get_or (part xs i 1) 0 0 ≡ get_or xs i 0
unfolding part
byte-of-part [] zero = refl
byte-of-part [] (suc i) = refl
byte-of-part (x ∷ xs) zero = refl
byte-of-part (x ∷ xs) (suc i) = byte-of-part xs i

pub get_or-alike : (xs ys : List ℕ) (b k : ℕ) → part xs b k ≡ part ys b k → (i : ℕ) → i < k → get_or xs (b + i) 0 ≡ get_or ys (b + i) 0
get_or-alike xs ys b k agree i within =
    sym (byte-of-part xs (b + i))
    ∙ ap (λ (l : List ℕ). get_or l 0 0) (parts-alike xs ys b k agree (b + i) 1 (omega arith) (omega arith))
    ∙ byte-of-part ys (b + i)

pub set-splice : (xs : List ℕ) (i v : ℕ) → i < length xs → set xs i v ≡ splice xs i 1 (v ∷ [])
unfolding splice
set-splice [] i v there = absurd (omega arith)
set-splice (x ∷ xs) zero v there = refl
set-splice (x ∷ xs) (suc i) v there = ap (λ (l : List ℕ). x ∷ l) (set-splice xs i v (omega arith))

-- behind the first piece the others are one number lower
piece-behind : (xs : List ℕ) (n l : ℕ) → part (drop n xs) (l * n) n ≡ part xs (suc l * n) n
unfolding part
piece-behind xs n l =
    let there : n + l * n ≡ suc l * n = omega (arith, suc-mul l n) in
    rw (← there) (ap (take n) (drop-drop (l * n) n xs))

none-there : (xs : List ℕ) → length xs ≡ 0 → xs ≡ []
none-there [] empty = refl
none-there (x ∷ xs) empty = absurd (omega arith)

pub pieces-ext : (n c : ℕ) (xs ys : List ℕ) → length xs ≡ c * n → length ys ≡ c * n → ((l : ℕ) → l < c → part xs (l * n) n ≡ part ys (l * n) n) → xs ≡ ys
unfolding part
pieces-ext n zero xs ys ex ey alike =
    none-there xs (omega (arith, ex, zero-mul n)) ∙ sym (none-there ys (omega (arith, ey, zero-mul n)))
pieces-ext n (suc c) xs ys ex ey alike =
    let zeroth = alike 0 (omega arith) in
    let first : take n xs ≡ take n ys = rw (zero-mul n) at zeroth in
    let others : drop n xs ≡ drop n ys =
    pieces-ext n c (drop n xs) (drop n ys)
    (omega (arith, ex, suc-mul c n, length-drop n xs))
    (omega (arith, ey, suc-mul c n, length-drop n ys))
    (λ l below. piece-behind xs n l ∙ alike (suc l) (omega arith) ∙ sym (piece-behind ys n l)) in
    sym (take-append-drop n xs)
    ∙ ap (λ (l : List ℕ). l ++ drop n xs) first
    ∙ ap (λ (l : List ℕ). take n ys ++ l) others
    ∙ take-append-drop n ys
