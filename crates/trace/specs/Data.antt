-- For the code: many data cycles in a row, without going through the record at each. What a trace promises says nothing of this.
use Rattle.std.specs.Prelude.{ℕ, zero, suc, ◌+◌, ◌*◌, ◌≤◌, ◌<◌, ◌≡◌, Bool, true, false, ◌&&◌, List, length, get_or, set, drop, eqb}
use Rattle.slices.specs.Cells.{part, splice}
use Rattle.target.specs.declared.Fill.{Fill}
use Rattle.target.specs.declared.Decoder.{Decoder}
use Rattle.target.specs.declared.Target.{Target}
use Rattle.target.specs.declared.Sequence.{Sequence}
use Rattle.target.specs.declared.Sequence.TheVariants.{Filling}
use Rattle.target.specs.declared.Output.{Output}
use Rattle.target.specs.declared.Output.TheVariants as output
use Rattle.target.specs.declared.Reply.TheVariants.{Accepted, Byte}
use Rattle.step.specs.Usable.{usable}
use Rattle.trace.specs.Run.{Running, written, ran_all, events_of, stands_usable}

-- record j is a data-in cycle, or a data-out cycle
abbrev pub is_data : Bool → List ℕ → ℕ → Bool
is_data false records j = eqb (get_or records (2 * j) 0) 2
is_data true records j = eqb (get_or records (2 * j) 0) 3 && eqb (get_or records (2 * j + 1) 0) 0

-- the k records from i on are
pub record AllData (out : Bool) (records : List ℕ) (i k : ℕ) : Type 0 where
  pub each : (j : ℕ) → j < k → is_data out records (i + j) ≡ true

-- the record with another decoder, and with its mark of the first FFh written out
abbrev pub decoding : Target → Bool → Decoder → Target
decoding t seen d = record {
  powered = t.powered;
  geometry = t.geometry;
  words = t.words;
  ids = t.ids;
  high = t.high;
  clear = t.clear;
  seen = seen;
  selected = t.selected;
  luns = t.luns;
  decoder = d;
}

-- a program with its next place, and the place of the register that is put out
abbrev pub filling_at : Fill → ℕ → Sequence
filling_at f at = Filling (record { first = f.first; row = f.row; at = record { 0 = at } })

abbrev pub register_at : ℕ → ℕ → Output
register_at l c = output.Register l (record { 0 = c })

-- the record at that place
abbrev pub filling : Target → Fill → ℕ → Target
filling t f at = decoding t t.seen (record { sequence = filling_at f at; output = t.decoder.output; kept = t.decoder.kept })

abbrev pub giving : Target → ℕ → ℕ → Target
giving t l c = decoding t t.seen (record { sequence = t.decoder.sequence; output = register_at l c; kept = t.decoder.kept })

-- registers and replies after k data-in cycles, the first of them record i, into the register that starts at `base`, from `at` on
pub record Taking : Type 0 where
  pub registers : List ℕ
  pub room : List ℕ

abbrev pub took_one : ℕ → ℕ → List ℕ → ℕ → ℕ → Taking → Taking
took_one page base records j c s = record {
  registers = splice s.registers base page (set (part s.registers base page) c (get_or records (2 * j + 1) 0));
  room = written s.room j Accepted;
}

unfoldable pub taken_in : ℕ → ℕ → List ℕ → ℕ → ℕ → ℕ → Taking → Taking
taken_in page base records i at zero s = s
taken_in page base records i at (suc k) s = took_one page base records (i + k) (at + k) (taken_in page base records i at k s)

-- replies after k data-out cycles, the first of them record i, from byte `from` of the registers on
unfoldable pub given_out : List ℕ → ℕ → ℕ → ℕ → List ℕ → List ℕ
given_out registers i from zero room = room
given_out registers i from (suc k) room = written (given_out registers i from k room) (i + k) (Byte (get_or registers (from + k) 0))

-- where a run stands
abbrev pub standing : Target → ℕ → List ℕ → List ℕ → List ℕ → List ℕ → Running
standing t i array registers counts room = record { target = t; done = i; buffers = record { array = array; registers = registers; counts = counts }; room = room }

-- the trace was carried on from record i to record n, and what is left of it gives what it gave before
pub record Carried (params flags records array counts : List ℕ) (t : Target) (i : ℕ) (registers room : List ℕ) (next : Target) (n : ℕ) (put : List ℕ) (told : List ℕ) : Type 0 where
  pub within : 2 * n ≤ length records
  pub fit : stands_usable params flags (standing next n array put counts told) ≡ stands_usable params flags (standing t i array registers counts room)
  pub rest : ran_all params flags (drop n (events_of records)) (standing next n array put counts told) ≡ ran_all params flags (drop i (events_of records)) (standing t i array registers counts room)

-- whatever the other buffers hold, where 13 does not hold
abbrev pub CarriesOn : List ℕ → Target → ℕ → List ℕ → List ℕ → Target → ℕ → List ℕ → List ℕ → Type 0
CarriesOn records t i registers room next n put told =
    (params flags array counts : List ℕ) → usable t (length params) (length array) (length registers) (length counts) (length flags) ≡ true
    → Carried params flags records array counts t i registers room next n put told
