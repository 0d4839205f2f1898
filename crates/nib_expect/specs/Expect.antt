-- What a script expects. An expectation speaks of the events since the expectation before it, or since the script's beginning:
-- of what each of them was answered.
use Rattle.std.specs.Prelude.{ℕ, ◌<◌, ◌≡◌, Bool, true, false, ◌&&◌, ◌||◌, not, List, [], ◌∷◌, eqb, ltb, length, take, if◌then◌else◌}
use Rattle.nib_args.specs.Asked.{same_bytes}
use Rattle.nib_expect.specs.declared.Since.{Since}

-- an event's number in the script, and the two bytes of its reply: 0 0 accepted, 1 and a byte, 2 and the refusal's number
pub record Answer : Type 0 where
  pub number : ℕ
  pub first : ℕ
  pub second : ℕ

abbrev pub refused : ℕ → Bool
refused first = ltb 1 first

abbrev pub gives : ℕ → Bool
gives first = eqb first 1

-- ok: none of them was refused
abbrev pub held_ok : List Answer → Bool
held_ok [] = true
held_ok (a ∷ rs) = not (refused a.first) && held_ok rs

-- the bytes that their data outs gave
abbrev pub bytes_of : List Answer → List ℕ
bytes_of [] = []
bytes_of (a ∷ rs) = if gives a.first then a.second ∷ bytes_of rs else bytes_of rs

-- = and bytes: none of them was refused, and these bytes and no others came, in this order
abbrev pub held_bytes : List Answer → List ℕ → Bool
held_bytes rs wanted = held_ok rs && same_bytes (bytes_of rs) wanted

-- ! and a number: the last of them was refused so, and no other was
abbrev pub held_refusal : List Answer → ℕ → Bool
held_refusal [] n = false
held_refusal (a ∷ []) n = refused a.first && eqb a.second n
held_refusal (a ∷ (b ∷ rs)) n = not (refused a.first) && held_refusal (b ∷ rs) n

-- The code goes along event by event, and keeps as little as decides that: here it is, and what it decides.
abbrev pub nothing : Since
nothing = record { any = false; spoiled = false; first = 0; second = 0; event = 0; refusal = 0 }

abbrev pub ok_holds : Since → Bool
ok_holds s = not (s.spoiled || refused s.first)

abbrev pub refusal_holds : Since → ℕ → Bool
refusal_holds s n = not s.spoiled && refused s.first && eqb s.second n

abbrev pub bytes_hold : Since → List ℕ → List ℕ → Bool
bytes_hold s given wanted = ok_holds s && same_bytes given wanted

abbrev pub after : Since → ℕ → ℕ → ℕ → Since
after s number first second = record {
  any = true;
  spoiled = s.spoiled || refused s.first;
  first = first;
  second = second;
  event = if ok_holds s && refused first then number else s.event;
  refusal = if ok_holds s && refused first then second else s.refusal;
}

abbrev pub after_all : Since → List Answer → Since
after_all s [] = s
after_all s (a ∷ rs) = after_all (after s a.number a.first a.second) rs

-- of the first one that was refused, its number or its refusal; `d` where none was
abbrev pub first_refused : (Answer → ℕ) → ℕ → List Answer → ℕ
first_refused f d [] = d
first_refused f d (a ∷ rs) = if refused a.first then f a else first_refused f d rs

-- What is kept decides just the expectations above, and names the first event that was refused; a room for bytes that is longer
-- than the list wanted is room enough, though more bytes come than it holds (proved in proofs/Laws.antt)
pub record Decides : Type 0 where
  pub ok : (rs : List Answer) → ok_holds (after_all nothing rs) ≡ held_ok rs
  pub bytes : (rs : List Answer) (wanted : List ℕ) → bytes_hold (after_all nothing rs) (bytes_of rs) wanted ≡ held_bytes rs wanted
  pub refusal : (rs : List Answer) (n : ℕ) → refusal_holds (after_all nothing rs) n ≡ held_refusal rs n
  pub event : (rs : List Answer) → (after_all nothing rs).event ≡ first_refused (λ a. a.number) 0 rs
  pub its-refusal : (rs : List Answer) → (after_all nothing rs).refusal ≡ first_refused (λ a. a.second) 0 rs
  pub room : (bs wanted : List ℕ) (n : ℕ) → length wanted < n → same_bytes (take n bs) wanted ≡ same_bytes bs wanted
