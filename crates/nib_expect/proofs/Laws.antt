-- What the code keeps of the replies decides just what a script expects.
--     ok_from, refusal-from, first-from    the same from any state on
--     decides                              the laws that are stated in specs/Expect.antt
-- Assumes nothing.
use Prim.Native.Nat.{ℕ, zero, suc, ◌≤◌, ◌<◌}
use mathlib.Core.Path.{◌≡◌, refl, sym, ap, ◌∙◌}
use mathlib.Core.Bool.{Bool, true, false, ◌&&◌, ◌||◌, not}
use mathlib.Core.List.{List, [], ◌∷◌}
use native.Mathlib.Omega.{arith}
use lib.Dec.{eqb}
use lib.ListN.{length, take}
use Rattle.std.specs.Prelude.{if◌then◌else◌}
use Rattle.nib_args.specs.Asked.{same_bytes}
use Rattle.nib_expect.specs.declared.Since.{Since}
use Rattle.nib_expect.specs.Expect.{Answer, refused, held_ok, bytes_of, held_bytes, held_refusal, nothing, ok_holds, refusal_holds, bytes_hold, after, after_all, first_refused, Decides}

and_assoc : (a b c : Bool) → ((a && b) && c) ≡ (a && (b && c))
and_assoc true b c = refl
and_assoc false b c = refl

neither : (w z : Bool) → not (w || z) ≡ (not w && not z)
neither true z = refl
neither false z = refl

-- no event is refused after one more
ok-after : (s : Since) (n x y : ℕ) → ok_holds (after s n x y) ≡ (ok_holds s && not (refused x))
ok-after s n x y = neither (s.spoiled || refused s.first) (refused x)

ok_from : (s : Since) (rs : List Answer) → ok_holds (after_all s rs) ≡ (ok_holds s && held_ok rs)
ok_from s [] = sym (and-true (ok_holds s)) where
  and-true : (a : Bool) → (a && true) ≡ a
  and-true true = refl
  and-true false = refl
ok_from s (a ∷ rs) =
    ok_from (after s a.number a.first a.second) rs
    ∙ (ap (λ (b : Bool). b && held_ok rs) (ok-after s a.number a.first a.second)
    ∙ and_assoc (ok_holds s) (not (refused a.first)) (held_ok rs))

refusal-after : (s : Since) (n x y m : ℕ) → refusal_holds (after s n x y) m ≡ (ok_holds s && (refused x && eqb y m))
refusal-after s n x y m = and_assoc (not (s.spoiled || refused s.first)) (refused x) (eqb y m)

refusal-from : (s : Since) (a : Answer) (rs : List Answer) (n : ℕ) → refusal_holds (after_all s (a ∷ rs)) n ≡ (ok_holds s && held_refusal (a ∷ rs) n)
refusal-from s a [] n = refusal-after s a.number a.first a.second n
refusal-from s a (b ∷ rs) n =
    refusal-from (after s a.number a.first a.second) b rs n
    ∙ (ap (λ (o : Bool). o && held_refusal (b ∷ rs) n) (ok-after s a.number a.first a.second)
    ∙ and_assoc (ok_holds s) (not (refused a.first)) (held_refusal (b ∷ rs) n))

-- the first one that was refused, by its number or by its refusal: `k` is what is kept
by_tests : (o z : Bool) (v k : ℕ) (f : ℕ → ℕ)
    → if o && not z then f (if o && z then v else k) else (if o && z then v else k) ≡ if o then (if z then v else f k) else k
by_tests true true v k f = refl
by_tests true false v k f = refl
by_tests false z v k f = refl

first-from : (k : Since → ℕ) (f : Answer → ℕ)
    → ((s : Since) (a : Answer) → k (after s a.number a.first a.second) ≡ if ok_holds s && refused a.first then f a else k s)
    → (s : Since) (rs : List Answer) → k (after_all s rs) ≡ if ok_holds s then first_refused f (k s) rs else k s
first-from k f keeps s [] = sym (same (ok_holds s) (k s)) where
  same : (o : Bool) (v : ℕ) → if o then v else v ≡ v
  same true v = refl
  same false v = refl
first-from k f keeps s (a ∷ rs) =
    first-from k f keeps (after s a.number a.first a.second) rs
    ∙ rw (ok-after s a.number a.first a.second, keeps s a)
    (by_tests (ok_holds s) (refused a.first) (f a) (k s) (λ d. first_refused f d rs))

event-after : (s : Since) (a : Answer)
    → (after s a.number a.first a.second).event ≡ if ok_holds s && refused a.first then a.number else s.event
event-after s a = refl

refusal-kept : (s : Since) (a : Answer)
    → (after s a.number a.first a.second).refusal ≡ if ok_holds s && refused a.first then a.second else s.refusal
refusal-kept s a = refl

room_for : (k : ℕ) (bs wanted : List ℕ) → length wanted ≤ k → same_bytes (take (suc k) bs) wanted ≡ same_bytes bs wanted
room_for k [] wanted h = refl
room_for k (b ∷ bs) [] h = refl
room_for zero (b ∷ bs) (w ∷ wanted) h = absurd (omega arith)
room_for (suc k) (b ∷ bs) (w ∷ wanted) h = ap (λ (r : Bool). eqb b w && r) (room_for k bs wanted (omega arith))

ok : (rs : List Answer) → ok_holds (after_all nothing rs) ≡ held_ok rs
ok rs = ok_from nothing rs

bytes : (rs : List Answer) (wanted : List ℕ) → bytes_hold (after_all nothing rs) (bytes_of rs) wanted ≡ held_bytes rs wanted
bytes rs wanted = ap (λ (b : Bool). b && same_bytes (bytes_of rs) wanted) (ok rs)

refusal : (rs : List Answer) (n : ℕ) → refusal_holds (after_all nothing rs) n ≡ held_refusal rs n
refusal [] n = refl
refusal (a ∷ rs) n = refusal-from nothing a rs n

event : (rs : List Answer) → (after_all nothing rs).event ≡ first_refused (λ a. a.number) 0 rs
event rs = first-from (λ s. s.event) (λ a. a.number) event-after nothing rs

its-refusal : (rs : List Answer) → (after_all nothing rs).refusal ≡ first_refused (λ a. a.second) 0 rs
its-refusal rs = first-from (λ s. s.refusal) (λ a. a.second) refusal-kept nothing rs

room : (bs wanted : List ℕ) (n : ℕ) → length wanted < n → same_bytes (take n bs) wanted ≡ same_bytes bs wanted
room bs wanted zero h = absurd (omega arith)
room bs wanted (suc k) h = room_for k bs wanted (omega arith)

pub decides : Decides
decides = record { ok = ok; bytes = bytes; refusal = refusal; event = event; its-refusal = its-refusal; room = room }
