-- 16, 20 to 25 and the odd byte, as specs/Numbered.antt states them.
-- Assumes nothing.
use Rattle.std.specs.Prelude.{Result, Ok, Err}
use mathlib.Core.Path.{◌≡◌, refl, sym, ap, ◌∙◌}
use mathlib.Core.Bool.{Bool, true, false}
use mathlib.Core.List.{List}
use Prim.Native.Nat.{ℕ, ◌+◌, ◌*◌, ◌%◌}
use native.Mathlib.Omega.{arith}
use lib.ListN.{length}
use lib.Dec.{eqb, ltb}
use Rattle.target.specs.Pick.{pick}
use Rattle.target.specs.Numbers.{number_of}
use Rattle.target.specs.declared.Target.{Target}
use Rattle.target.specs.declared.Refusal.TheVariants.{BadRecord, NotUsable}
use Rattle.target.specs.declared.Reply.TheVariants as reply
use Rattle.power.specs.declared.PowerRefusal.{PowerRefusal}
use Rattle.power.specs.declared.PowerRefusal.TheVariants.{PageLength, Signature, Crc, Field, BufferLength, Content}
use Rattle.power.specs.Power.{power_number, wrong_length, unsigned, crc_bad, field_bad, buffer_bad, content_bad, or_refused, power_answer, powering, power_of}
use Rattle.step.specs.Step.{Buffers}
use Rattle.trace.specs.Run.{run_number, Running, Traced, written, stands_usable, odd_answered, needed, traced, trace_of, batch_of}
use Rattle.thm_kept.specs.Kept.{lets_pass}
use Rattle.thm_demands.specs.Numbered.{PowerExact, TraceRoom, BatchRoom, unchanged, TraceRefused, BatchRefused, ran, OddByte, NoOddByte}

-- Power-on.

number-or : (b : Bool) (r : PowerRefusal) (a : Result Unit PowerRefusal) (n : ℕ) → power_number a ≡ n → power_number (or_refused b r a) ≡ pick b (power_number (Err r)) n
unfolding or_refused
number-or true r a n h = refl
number-or false r a n h = h

answered : (a : Result Unit PowerRefusal) (page : List ℕ) (device : ℕ) (registers counts flags : List ℕ)
    → (powering a page device registers counts flags).answer ≡ a
answered (Ok tt) page device registers counts flags = refl
answered (Err r) page device registers counts flags = refl

pub power-exact : PowerExact
unfolding power_of power_answer
power-exact page device array registers counts flags =
    ap power_number (answered (power_answer page (length array) (length registers) counts flags) page device registers counts flags)
    ∙ number-or (wrong_length page) PageLength _ _
    (number-or (unsigned page) Signature _ _
    (number-or (crc_bad page) Crc _ _
    (number-or (field_bad page) Field _ _
    (number-or (buffer_bad page (length array) (length registers) (length counts) (length flags)) BufferLength _ _
    (number-or (content_bad page counts flags) Content (Ok tt) 0 refl)))))

-- Reply room.

answer-pick : (x : Bool) (a b : Traced) → run_number a.answer ≡ 16 → run_number b.answer ≡ 0 → run_number (pick x a b).answer ≡ pick x 16 0
answer-pick true a b h k = h
answer-pick false a b h k = k

refused-pick : (x : Bool) (a b : Traced) → run_number b.answer ≡ 0 → run_number (pick x a b).answer ≡ 16 → pick x a b ≡ a
refused-pick true a b h k = refl
refused-pick false a b h k = let z : ◌≡◌ {A = ℕ} 0 16 = sym h ∙ k in absurd (omega arith)

pub trace-room : TraceRoom
unfolding trace_of needed
trace-room t records room params b flags = answer-pick (ltb (length room) (length records + length records % 2)) _ _ refl refl

pub batch-room : BatchRoom
unfolding batch_of
batch-room t events room params b flags = answer-pick (ltb (length room) (2 * length events)) _ _ refl refl

pub trace-refused : TraceRefused
unfolding trace_of needed
trace-refused t records room params b flags h = refused-pick (ltb (length room) (length records + length records % 2)) (unchanged t b room) _ refl h

pub batch-refused : BatchRefused
unfolding batch_of
batch-refused t events room params b flags h = refused-pick (ltb (length room) (2 * length events)) (unchanged t b room) _ refl h

-- The odd byte.

number-pick : (x : Bool) → number_of (pick x BadRecord NotUsable) ≡ pick x 12 13
number-pick true = refl
number-pick false = refl

abbrev one_reply : List ℕ → List ℕ → Running → Running
one_reply params flags s = record {
  target = s.target;
  done = s.done + 1;
  buffers = s.buffers;
  room = written s.room s.done (reply.Refused (pick (stands_usable params flags s) BadRecord NotUsable));
}

room-there : (t : Target) (records room params : List ℕ) (b : Buffers) (flags : List ℕ) → ltb (length room) (length records + length records % 2) ≡ false
    → trace_of t records room params b flags ≡ traced (Ok tt) (odd_answered params flags (length records) (ran t records room params b flags))
unfolding trace_of needed
room-there t records room params b flags h =
    ap (λ (x : Bool). pick x (unchanged t b room) (traced (Ok tt) (odd_answered params flags (length records) (ran t records room params b flags)))) h

odd-there : (params flags : List ℕ) (n : ℕ) (s : Running) (x : Bool) → eqb (n % 2) 1 ≡ x → odd_answered params flags n s ≡ pick x (one_reply params flags s) s
unfolding odd_answered
odd-there params flags n s x h = ap (λ (y : Bool). pick y (one_reply params flags s) s) h

pub odd_byte : OddByte
unfolding stands_usable
odd_byte t records room params b flags s at there odd =
    let stands = lets_pass s.target params s.buffers flags in (
      pick stands BadRecord NotUsable,
      (
        number-pick stands,
        room-there t records room params b flags there
            ∙ ap (λ (x : Running). traced (Ok tt) (odd_answered params flags (length records) x)) (sym at)
            ∙ ap (traced (Ok tt)) (odd-there params flags (length records) s true odd),
      ),
    )

pub no-odd-byte : NoOddByte
no-odd-byte t records room params b flags there even =
    room-there t records room params b flags there
    ∙ ap (traced (Ok tt)) (odd-there params flags (length records) (ran t records room params b flags) false even)
