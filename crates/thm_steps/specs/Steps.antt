-- Document 01's "The steps", paragraph by paragraph and in its order: a record for each paragraph, a field for each
-- sentence, stated over `step_of`. proofs/ proves them.
use Rattle.std.specs.Prelude.{◌≡◌, Bool, true, false, ◌&&◌, ◌||◌, not, List, ℕ, ◌+◌, ◌-◌, ◌*◌, ◌%◌, ◌≤◌, ◌<◌, length, get_or, set, replicate, eqb, ltb}
use Rattle.std.specs.Int.Bits.{bit_and}
use Rattle.slices.specs.Cells.{part, splice, and_bytes}
use Rattle.target.specs.Pick.{pick}
use Rattle.target.specs.Numbers.{number_of}
use Rattle.target.specs.Events.{is_bus, is_reset}
use Rattle.target.specs.Words.{has_feature, has_option}
use Rattle.target.specs.Sizes.{page_size}
use Rattle.target.specs.Place.{is_open, put_out, is_page, shows_status, is_register_of, has_output}
use Rattle.target.specs.Commands.{byte_of, cycles_of, needs_copyback, second_of, is_second_found, class_of, is_known, offered}
use Rattle.target.specs.Address.{column_from, row_from, page_of, lun_of, lun_exists, row_exists}
use Rattle.target.specs.Luns.{lun_at, lun_closed, works, failed, copyback_at, blank_at, all_readied}
use Rattle.target.specs.declared.Column.{Column}
use Rattle.target.specs.declared.Row.{Row}
use Rattle.target.specs.declared.Lun.{Lun}
use Rattle.target.specs.declared.Event.{Event}
use Rattle.target.specs.declared.Wait.{Wait}
use Rattle.target.specs.declared.Fill.{Fill}
use Rattle.target.specs.declared.Decoder.{Decoder}
use Rattle.target.specs.declared.Target.{Target}
use Rattle.target.specs.declared.First.{First}
use Rattle.target.specs.declared.First.TheVariants as first
use Rattle.target.specs.declared.Sequence.{Sequence}
use Rattle.target.specs.declared.Sequence.TheVariants.{Idle, Columns, Rows, Single, Due, Filling, Moving, Setting}
use Rattle.target.specs.declared.Output.{Output}
use Rattle.target.specs.declared.Output.TheVariants as output
use Rattle.target.specs.declared.Refusal.{Refusal}
use Rattle.target.specs.declared.Reply.TheVariants as reply
use Rattle.rules.specs.Rules.{output_works, output_ended}
use Rattle.effects.specs.Effects.{advanced}
use Rattle.memory.specs.Memory.{remembered}
use Rattle.blocks.specs.Blocks.{block_index, page_index, block_bad, page_full, out_of_order, blank_block}
use Rattle.step.specs.Buffers.{output_byte}
use Rattle.step.specs.Step.{Buffers, Outcome, step_of}
use Rattle.thm_kept.specs.Kept.{lets_pass}

-- events
abbrev pub command : ℕ → Event
command v = record { kind = 0; value = v }

abbrev pub address : ℕ → Event
address v = record { kind = 1; value = v }

abbrev pub data_in : ℕ → Event
data_in v = record { kind = 2; value = v }

abbrev pub data_out : Event
data_out = record { kind = 3; value = 0 }

abbrev pub finish : ℕ → Event
finish l = record { kind = 4; value = l }

abbrev pub protect : ℕ → Event
protect level = record { kind = 5; value = level }

-- the place reached: `got` of a first command's two column cycles have come
abbrev pub column : First → ℕ → ℕ → Sequence
column f got low = Columns (record { first = f; got = got; low = low })

-- a bare 00h, with no address yet
abbrev pub bare : ℕ → Sequence
bare low = column first.Read 0 low

-- all addresses of a first command have come
abbrev pub due : First → Column → Row → Sequence
due f c r = Due (record { first = f; column = c; row = r })

-- `got` of its three row cycles have come
abbrev pub row : First → Column → ℕ → ℕ → ℕ → Sequence
row f c got low mid = Rows (record { first = f; column = c; got = got; low = low; mid = mid })

-- all but the last
abbrev pub last_row : First → Column → ℕ → ℕ → Sequence
last_row f c low mid = row f c 2 low mid

-- a program that this command opened takes data, next at this place
abbrev pub filling : First → Row → Column → Sequence
filling f r c = Filling (record { first = f; row = r; at = c })

-- 85h inside it: `got` of its two column cycles have come
abbrev pub moving : First → Row → ℕ → ℕ → Sequence
moving f r got low = Moving (record { first = f; row = r; got = got; low = low })

-- EFh with `got` of its four bytes, the first of which was `value`
abbrev pub setting : ℕ → ℕ → Sequence
setting got value = Setting (record { got = got; value = value })

-- the decoder: the place reached, the output that is open, and what is kept of one behind a status
abbrev pub decoding : Sequence → Output → Output → Decoder
decoding s o kept = record { sequence = s; output = o; kept = kept }

-- the record with no sequence open, this output open and none kept
abbrev pub putting : Target → Output → Target
putting t o = record {
  powered = t.powered;
  geometry = t.geometry;
  words = t.words;
  ids = t.ids;
  high = t.high;
  clear = t.clear;
  seen = t.seen;
  selected = t.selected;
  luns = t.luns;
  decoder = decoding Idle o output.Nothing;
}

-- a LUN's record: it works, it is ready; with this FAIL, with a copyback open or not, and with so many blank blocks
abbrev pub working : Bool → Bool → ℕ → Lun
working fail copyback blank = record { working = true; fail = fail; copyback = copyback; blank = blank }

abbrev pub waiting : Bool → Bool → ℕ → Lun
waiting fail copyback blank = record { working = false; fail = fail; copyback = copyback; blank = blank }

-- 30h, 35h, 10h and D0h
abbrev pub begins_work : Event → Bool
begins_work e =
    eqb e.kind 0 && (eqb e.value 0x30 || eqb e.value 0x35 || eqb e.value 0x10 || eqb e.value 0xd0)

-- 10h and D0h, which alone move a number of blank blocks
abbrev pub moves_number : Event → Bool
moves_number e = eqb e.kind 0 && (eqb e.value 0x10 || eqb e.value 0xd0)

-- Every paragraph is about a record, the parameter bytes and the lent buffers.
module _ (t : Target) (params : List ℕ) (b : Buffers) (flags : List ℕ) where
  abbrev pub after : Event → Outcome
  after e = step_of t e params b flags

  -- and a further event
  abbrev pub next : Outcome → Event → Outcome
  next o e = step_of o.target e params o.buffers flags

  -- the event is accepted: it is not refused, with 13 or otherwise
  abbrev pub Taken : Event → Type 0
  Taken e = (q : Refusal) → (after e).reply ≡ reply.Refused q → ⊥

  -- it is refused with this number
  abbrev pub RefusedWith : ℕ → Event → Type 0
  RefusedWith n e = (q : Refusal) × (((after e).reply ≡ reply.Refused q) × (number_of q ≡ n))

  -- the first FFh has come, and rule 13 lets the record and the buffers pass
  pub record Live : Type 0 where
    pub passes : lets_pass t params b flags ≡ true
    pub seen : t.seen ≡ true

  -- the place reached; the output that is open; and what is kept of one behind a status
  abbrev pub At : Sequence → Type 0
  At s = t.decoder.sequence ≡ s

  abbrev pub Open : Output → Type 0
  Open o = t.decoder.output ≡ o

  abbrev pub kept : Output
  kept = t.decoder.kept

  -- a data-out cycle puts this out: the output that is open, or after a bare 00h the one that is kept
  abbrev pub Out : Output → Type 0
  Out o = put_out t.decoder ≡ o

  -- P, and where a LUN's register, a page and a block begin
  abbrev pub size : ℕ
  size = page_size t.geometry

  abbrev pub lun : Row → ℕ
  lun r = lun_of t.geometry r

  abbrev pub register_at : ℕ → ℕ
  register_at l = l * size

  abbrev pub page_at : Row → ℕ
  page_at r = page_index t.geometry r * size

  -- the LUN's copyback after a 10h: open where it was, unless the program is a copyback's
  abbrev pub still_open : First → Row → Bool
  still_open f r = copyback_at t.luns (lun r) && not (needs_copyback f)

  -- document 02, A7: the LUN's number of blank blocks, and whether the row's block is one of them
  abbrev pub blanks : Row → ℕ
  blanks r = blank_at t.luns (lun r)

  abbrev pub is_blank : Row → Bool
  is_blank r = blank_block t.geometry (block_index t.geometry r) b.counts flags

  -- the number after a 10h that proceeds: "down if the block was blank"; an untrue one stops at 0
  abbrev pub fewer : Row → ℕ
  fewer r = pick (is_blank r) (blanks r - 1) (blanks r)

  -- and after a D0h that proceeds: "up if it was not"; an untrue one stops at the LUN's blocks
  abbrev pub more : Row → ℕ
  more r = pick (not (is_blank r)) (pick (ltb (blanks r) t.geometry.blocks) (blanks r + 1) (blanks r)) (blanks r)

  -- an event that changes no lent byte
  abbrev pub LeavesBuffers : Event → Type 0
  LeavesBuffers e = (after e).buffers ≡ b

  -- an event that changes the registers alone
  abbrev pub LeavesRegisters : Event → List ℕ → Type 0
  LeavesRegisters e new = (after e).buffers ≡ record { array = b.array; registers = new; counts = b.counts }

  -- **Place.** The rest of the paragraph is the definitions of crates/target/specs, Place.antt and Views.antt.
  pub record Place : Type 0 where
    -- "A first command is accepted with no sequence open"; 85h is a second command too, a program's move
    pub none_open : (f : First) → is_second_found (second_of (byte_of f)) ≡ false → Taken (command (byte_of f)) → At Idle
    -- "it ends output"; only 70h, which has no address cycle, puts out at once
    pub ends-output : (f : First) → eqb (cycles_of f) 0 ≡ false → Taken (command (byte_of f))
        → (after (command (byte_of f))).target.decoder.output ≡ output.Nothing

  -- **Read.**
  pub record Read : Type 0 where
    -- 30h is accepted after 00h and its five addresses alone
    pub only_here : Taken (command 0x30) → (k : Wait) × ((At (Due k)) × (k.first ≡ first.Read))
    -- "30h copies the page into the LUN's register"
    pub copies : (c : Column) (r : Row) → At (due first.Read c r) → Taken (command 0x30)
        → LeavesRegisters (command 0x30) (splice b.registers (register_at (lun r)) size (part b.array (page_at r) size))
    -- "and starts work"; "FAIL .. 0 for a read", on a bad block too
    pub starts : (c : Column) (r : Row) → At (due first.Read c r) → Taken (command 0x30)
        → (after (command 0x30)).target.luns ≡ set t.luns (lun r) (working false false (blanks r))
    -- "output will begin at the column"
    pub puts-out : (c : Column) (r : Row) → At (due first.Read c r) → Taken (command 0x30)
        → (after (command 0x30)).target.decoder ≡ decoding Idle (output.Register (lun r) c) kept
    -- a byte that is put out is the register's, and the next one is a place further
    pub byte : (l : ℕ) (c : Column) → Out (output.Register l c) → Taken data_out
        → ((after data_out).reply ≡ reply.Byte (get_or b.registers (register_at l + c.0) 0))
        × ((after data_out).target.decoder.output ≡ output.Register l (record { 0 = c.0 + 1 }))
    -- "06h needs a ready LUN": its last row cycle is refused with 5 while the LUN works
    pub needs-ready : (c : Column) (low mid v : ℕ) → At (last_row first.ChangeColumnEnhanced c low mid) → Live
        → lun_exists t.geometry (row_from low mid v) ≡ true → works t.luns (lun (row_from low mid v)) ≡ true
        → RefusedWith 5 (address v)
    -- "and E0h then starts output there"
    pub there : (c : Column) (r : Row) → At (due first.ChangeColumnEnhanced c r) → Taken (command 0xe0)
        → ((after (command 0xe0)).target.decoder ≡ decoding Idle (output.Register (lun r) c) kept)
        × ((after (command 0xe0)).target.luns ≡ t.luns) × LeavesBuffers (command 0xe0)
    -- "05h does it for the selected LUN"
    pub selected : (c : Column) (r : Row) → At (due first.ChangeColumn c r) → Taken (command 0xe0)
        → ((after (command 0xe0)).target.decoder ≡ decoding Idle (output.Register t.selected c) kept)
        × ((after (command 0xe0)).target.luns ≡ t.luns) × LeavesBuffers (command 0xe0)
    -- "the busy check at its second column cycle": refused with 5 there, and not before
    pub busy : (low v : ℕ) → At (column first.ChangeColumn 1 low) → Live
        → (column_from low v).0 < size → works t.luns t.selected ≡ true → RefusedWith 5 (address v)
    pub not-before : (v : ℕ) → At (column first.ChangeColumn 0 0) → Live
        → (after (address v)).reply ≡ reply.Accepted
    -- "Selected is the LUN of the last accepted row"
    pub selects : (f : First) (c : Column) (low mid v : ℕ) → At (last_row f c low mid) → Taken (address v)
        → (after (address v)).target.selected ≡ lun (row_from low mid v)
    -- "LUN 0 after FFh"
    pub selects-first : lets_pass t params b flags ≡ true → (after (command 0xff)).target.selected ≡ 0

  -- **Program.**
  pub record Program : Type 0 where
    -- "With program-clear off, 80h fills every register with FFh when it is accepted"
    pub clears-all : t.clear ≡ false → Taken (command 0x80)
        → LeavesRegisters (command 0x80) (replicate (length b.registers) 0xff)
    -- and none with its last row cycle
    pub clears-once : t.clear ≡ false → (c : Column) (low mid v : ℕ) → At (last_row first.Program c low mid)
        → Taken (address v)
        → LeavesBuffers (address v)
    -- "With it on, only the addressed LUN's, when the last row cycle is accepted"
    pub clears-one : t.clear ≡ true → (c : Column) (low mid v : ℕ) → At (last_row first.Program c low mid)
        → Taken (address v)
        → LeavesRegisters (address v)
        (splice b.registers (register_at (lun (row_from low mid v))) size (replicate size 0xff))
    -- and none with 80h itself
    pub clears-later : t.clear ≡ true → Taken (command 0x80) → LeavesBuffers (command 0x80)
    -- "Data goes in from the column upward"
    pub begins : (c : Column) (low mid v : ℕ) → At (last_row first.Program c low mid) → Taken (address v)
        → (after (address v)).target.decoder.sequence ≡ filling first.Program (row_from low mid v) c
    pub goes_in : (f : First) (r : Row) (c : Column) (v : ℕ) → At (filling f r c) → Taken (data_in v)
        → LeavesRegisters (data_in v)
        (splice b.registers (register_at (lun r)) size (set (part b.registers (register_at (lun r)) size) c.0 v))
    pub upward : (f : First) (r : Row) (c : Column) (v : ℕ) → At (filling f r c) → Taken (data_in v)
        → (after (data_in v)).target.decoder.sequence ≡ filling f r (record { 0 = c.0 + 1 })
    -- "85h and two cycles move it"
    pub moves : (f : First) (r : Row) (c : Column) → At (filling f r c) → Taken (command 0x85)
        → ((after (command 0x85)).target.decoder.sequence ≡ moving f r 0 0) × LeavesBuffers (command 0x85)
    pub moves-low : (f : First) (r : Row) (v : ℕ) → At (moving f r 0 0) → Taken (address v)
        → ((after (address v)).target.decoder.sequence ≡ moving f r 1 v) × LeavesBuffers (address v)
    pub moves-high : (f : First) (r : Row) (low v : ℕ) → At (moving f r 1 low) → Taken (address v)
        → ((after (address v)).target.decoder.sequence ≡ filling f r (column_from low v)) × LeavesBuffers (address v)
    -- with a sequence open 85h is accepted where a program takes data alone
    pub only-moves : Taken (command 0x85) → is_open t.decoder.sequence ≡ true → (k : Fill) × At (Filling k)
    -- 10h is accepted where a program takes data alone
    pub only_here : Taken (command 0x10) → (k : Fill) × At (Filling k)
    -- "10h: each array byte becomes old AND register, the count rises by one"
    pub programs : (f : First) (r : Row) (c : Column) → At (filling f r c) → Taken (command 0x10)
        → block_bad t.geometry r flags ≡ false → page_full t.geometry r b.counts ≡ false
        → out_of_order t.geometry t.words r b.counts ≡ false
        → (after (command 0x10)).buffers ≡ record {
          array = splice b.array (page_at r) size (and_bytes (part b.array (page_at r) size) (part b.registers (register_at (lun r)) size));
          registers = b.registers;
          counts = set b.counts (page_index t.geometry r) (get_or b.counts (page_index t.geometry r) 0 + 1);
        }
    pub each-byte : (f : First) (r : Row) (c : Column) → At (filling f r c) → Taken (command 0x10)
        → block_bad t.geometry r flags ≡ false → page_full t.geometry r b.counts ≡ false
        → out_of_order t.geometry t.words r b.counts ≡ false
        → (i : ℕ) → i < size
        → get_or (after (command 0x10)).buffers.array (page_at r + i) 0
        ≡ bit_and (get_or b.array (page_at r + i) 0) (get_or b.registers (register_at (lun r) + i) 0)
    -- "work starts"
    pub starts : (f : First) (r : Row) (c : Column) → At (filling f r c) → Taken (command 0x10)
        → block_bad t.geometry r flags ≡ false → page_full t.geometry r b.counts ≡ false
        → out_of_order t.geometry t.words r b.counts ≡ false
        → (after (command 0x10)).target.luns ≡ set t.luns (lun r) (working false (still_open f r) (fewer r))
    -- "If the block's flag is not 0 or the count is at or above programs a page, array and count stay, FAIL is 1, and
    -- work still starts"; out of order too
    pub stays : (f : First) (r : Row) (c : Column) → At (filling f r c) → Taken (command 0x10)
        → (block_bad t.geometry r flags || page_full t.geometry r b.counts || out_of_order t.geometry t.words r b.counts) ≡ true
        → LeavesBuffers (command 0x10)
        × ((after (command 0x10)).target.luns ≡ set t.luns (lun r) (working true (still_open f r) (blanks r)))
    -- "No data at all before 10h is allowed": wherever data may come 10h is accepted, with the line high
    pub no-data : (f : First) (r : Row) (c : Column) → At (filling f r c) → Live → t.high ≡ true
        → (after (command 0x10)).reply ≡ reply.Accepted

  -- **Page order** (document 02, A4).
  pub record PageOrder : Type 0 where
    -- "If feature bit 2 is 0, a 10h for a page lower than some page of that block with count above 0 does not proceed and gives
    -- FAIL"
    pub stays : (f : First) (r : Row) (c : Column) → At (filling f r c) → Taken (command 0x10)
        → has_feature t.words 2 ≡ false
        → (p : ℕ) → page_of t.geometry r < p → p < t.geometry.pages
        → 0 < get_or b.counts (block_index t.geometry r * t.geometry.pages + p) 0
        → LeavesBuffers (command 0x10)
        × ((after (command 0x10)).target.luns ≡ set t.luns (lun r) (working true (still_open f r) (blanks r)))
    -- no other page's count stands in its way: "the same page again is allowed up to its count"
    pub in_order : (r : Row)
        → ((p : ℕ) → page_of t.geometry r < p → p < t.geometry.pages
        → get_or b.counts (block_index t.geometry r * t.geometry.pages + p) 0 ≡ 0)
        → out_of_order t.geometry t.words r b.counts ≡ false
    -- and with feature bit 2 set none does
    pub any_order : (r : Row) → has_feature t.words 2 ≡ true → out_of_order t.geometry t.words r b.counts ≡ false

  -- **Erase.**
  pub record Erase : Type 0 where
    -- D0h is accepted after 60h and its three addresses alone
    pub only_here : Taken (command 0xd0) → (k : Wait) × ((At (Due k)) × (k.first ≡ first.Erase))
    -- "D0h sets the block's bytes to FFh and its counts to 0"
    pub erases : (c : Column) (r : Row) → At (due first.Erase c r) → Taken (command 0xd0)
        → block_bad t.geometry r flags ≡ false
        → ((after (command 0xd0)).buffers ≡ record {
          array = splice b.array (block_index t.geometry r * t.geometry.pages * size) (t.geometry.pages * size)
              (replicate (t.geometry.pages * size) 0xff);
          registers = b.registers;
          counts = splice b.counts (block_index t.geometry r * t.geometry.pages) t.geometry.pages
              (replicate t.geometry.pages 0);
        })
        × ((after (command 0xd0)).target.luns ≡ set t.luns (lun r) (working false false (more r)))
    -- "A factory bad block stays and gives FAIL"
    pub stays : (c : Column) (r : Row) → At (due first.Erase c r) → Taken (command 0xd0)
        → block_bad t.geometry r flags ≡ true
        → LeavesBuffers (command 0xd0)
        × ((after (command 0xd0)).target.luns ≡ set t.luns (lun r) (working true false (blanks r)))

  -- **Copyback** (document 02, A1).
  pub record Copyback : Type 0 where
    -- 35h is accepted after 00h and its five addresses alone
    pub only_here : Taken (command 0x35) → (k : Wait) × ((At (Due k)) × (k.first ≡ first.Read))
    -- "35h reads as 30h does"
    pub copies : (c : Column) (r : Row) → At (due first.Read c r) → Taken (command 0x35)
        → LeavesRegisters (command 0x35)
        (splice b.registers (register_at (lun r)) size (part b.array (page_at r) size))
    pub puts-out : (c : Column) (r : Row) → At (due first.Read c r) → Taken (command 0x35)
        → (after (command 0x35)).target.decoder ≡ decoding Idle (output.Register (lun r) c) kept
    -- "and opens a copyback on that LUN"
    pub opens : (c : Column) (r : Row) → At (due first.Read c r) → Taken (command 0x35)
        → (after (command 0x35)).target.luns ≡ set t.luns (lun r) (working false true (blanks r))
    -- "85h as a first command (no sequence open)", which clears nothing, whatever program-clear
    pub begins : At Idle → Taken (command 0x85)
        → ((after (command 0x85)).target.decoder
        ≡ decoding (column first.CopybackProgram 0 0) output.Nothing output.Nothing)
        × LeavesBuffers (command 0x85)
    -- "programs the register without clearing it": its row clears nothing and leaves the copyback open; data may come
    pub takes-data : (c : Column) (low mid v : ℕ) → At (last_row first.CopybackProgram c low mid) → Taken (address v)
        → ((after (address v)).target.decoder.sequence ≡ filling first.CopybackProgram (row_from low mid v) c)
        × ((after (address v)).target.luns ≡ t.luns) × LeavesBuffers (address v)
    -- "its row is checked as 80h's, 5 included"
    pub no_row : (c : Column) (low mid v : ℕ) → At (last_row first.CopybackProgram c low mid) → Live
        → row_exists t.geometry (row_from low mid v) ≡ false
        → RefusedWith 4 (address v)
    pub busy : (c : Column) (low mid v : ℕ) → At (last_row first.CopybackProgram c low mid) → Live
        → row_exists t.geometry (row_from low mid v) ≡ true → works t.luns (lun (row_from low mid v)) ≡ true
        → RefusedWith 5 (address v)
    -- "New refusal 14, checked after 5 at the last row cycle: no copyback open there"
    pub none_open : (c : Column) (low mid v : ℕ) → At (last_row first.CopybackProgram c low mid) → Live
        → row_exists t.geometry (row_from low mid v) ≡ true → works t.luns (lun (row_from low mid v)) ≡ false
        → copyback_at t.luns (lun (row_from low mid v)) ≡ false
        → RefusedWith 14 (address v)
    pub one-open : (c : Column) (low mid v : ℕ) → At (last_row first.CopybackProgram c low mid) → Live
        → row_exists t.geometry (row_from low mid v) ≡ true → works t.luns (lun (row_from low mid v)) ≡ false
        → copyback_at t.luns (lun (row_from low mid v)) ≡ true
        → (after (address v)).reply ≡ reply.Accepted
    -- "85h moves are allowed as in a program", and in a program they need no optional bit
    pub moves : (f : First) (r : Row) (c : Column) → At (filling f r c) → Live
        → (after (command 0x85)).reply ≡ reply.Accepted
    -- "Optional bit 4; without it 35h, and 85h as a first command, are refusal 1"
    pub not-offered : Live → has_option t.words 4 ≡ false → RefusedWith 1 (command 0x35)
    pub lone : At Idle → Live → has_option t.words 4 ≡ false → RefusedWith 1 (command 0x85)
    -- "Any later .. 80h row .. accepted for that LUN .. closes it": that LUN's alone (30h, D0h and FFh stand with Read,
    -- Erase and Reset)
    pub program-closes : (c : Column) (low mid v : ℕ) → At (last_row first.Program c low mid) → Taken (address v)
        → (after (address v)).target.luns
        ≡ set t.luns (lun (row_from low mid v)) (lun_closed (lun_at t.luns (lun (row_from low mid v))))
    -- "a copyback 10h", with FAIL too; the 10h of a program that 80h opened leaves the mark as it is
    pub closes : (r : Row) → still_open first.CopybackProgram r ≡ false
    pub keeps : (r : Row) → still_open first.Program r ≡ copyback_at t.luns (lun r)
    -- a refusal leaves register and mark as they are
    pub refused : (e : Event) (q : Refusal) → (after e).reply ≡ reply.Refused q
        → LeavesBuffers e × ((after e).target.luns ≡ t.luns)

  -- **Blank blocks** (document 02, A7). Program and Erase say that a 10h that proceeds leaves its LUN `fewer` and a D0h
  -- `more`, that one that does not proceed leaves the number, and that no other LUN's moves.
  pub record Blank : Type 0 where
    -- "all counts 0 and .. not bad"
    pub blank : (r : Row) → block_bad t.geometry r flags ≡ false
        → ((p : ℕ) → p < t.geometry.pages
        → get_or b.counts (block_index t.geometry r * t.geometry.pages + p) 0 ≡ 0)
        → is_blank r ≡ true
    pub written : (r : Row) (p : ℕ) → p < t.geometry.pages
        → 0 < get_or b.counts (block_index t.geometry r * t.geometry.pages + p) 0
        → is_blank r ≡ false
    pub bad : (r : Row) → block_bad t.geometry r flags ≡ true → is_blank r ≡ false
    -- "The number moves at 10h .. D0h, not at the finish", nor by any other event; "FFh keeps it"
    pub else-stays : (e : Event) → Taken e → moves_number e ≡ false
        → (l : ℕ) → l < 4 → blank_at (after e).target.luns l ≡ blank_at t.luns l
    -- nor by one that is refused
    pub refused : (e : Event) (q : Refusal) → (after e).reply ≡ reply.Refused q
        → (l : ℕ) → blank_at (after e).target.luns l ≡ blank_at t.luns l

  -- **Work.** Read, Program, Erase and Copyback say that 30h, 10h, D0h and 35h begin it, and which FAIL each sets
  -- afresh.
  pub record Work : Type 0 where
    -- "A LUN works .. to its finish event", which leaves FAIL as it is
    pub finishes : (l : ℕ) → Taken (finish l)
        → (after (finish l)).target.luns
        ≡ set t.luns l (waiting (failed t.luns l) (copyback_at t.luns l) (blank_at t.luns l))
    -- and no other event but FFh begins or ends it, or sets FAIL
    pub else-as-it-is : (e : Event) → Taken e → begins_work e ≡ false → eqb e.kind 4 ≡ false → is_reset e ≡ false
        → (l : ℕ) → (works (after e).target.luns l ≡ works t.luns l)
        × (failed (after e).target.luns l ≡ failed t.luns l)
    -- of the others only the last row cycle of 80h may change the records
    pub only-a-row : (e : Event) → Taken e → begins_work e ≡ false → eqb e.kind 4 ≡ false → is_reset e ≡ false
        → ((c : Column) (low mid : ℕ) → At (last_row first.Program c low mid) → eqb e.kind 1 ≡ false)
        → (after e).target.luns ≡ t.luns

  -- **Status.**
  pub record Status : Type 0 where
    -- "70h and 78h give it": of the selected LUN, and of the row's
    pub of-selected : Taken (command 0x70)
        → (after (command 0x70)).target.decoder ≡ decoding Idle (output.Status t.selected) (remembered t.decoder)
    pub of_row : (c : Column) (low mid v : ℕ) → At (last_row first.StatusEnhanced c low mid) → Taken (address v)
        → (after (address v)).target.decoder
        ≡ decoding Idle (output.Status (lun (row_from low mid v)))
        (pick (is_register_of (lun (row_from low mid v)) kept) kept output.Nothing)
    -- "128 if the line is high, plus 96 if ready, plus FAIL if ready"; "always the present value"; never refused
    pub gives : (l : ℕ) → Out (output.Status l) → Live
        → (after data_out).reply
        ≡ reply.Byte (pick t.high 128 0 + pick (not (works t.luns l)) 96 0 + pick (not (works t.luns l) && failed t.luns l) 1 0)
    -- "as often as asked": nothing changes by it
    pub stays : (l : ℕ) → Out (output.Status l) → Live → ((after data_out).target ≡ t) × LeavesBuffers data_out

  -- the output of an address or data-out cycle that ends a sequence at once: no LUN works for it, no lent byte changes
  pub record Shows (e : Event) (o : Output) : Type 0 where
    pub decoder : (after e).target.decoder ≡ decoding Idle o kept
    pub luns : (after e).target.luns ≡ t.luns
    pub buffers : LeavesBuffers e

  -- a data-out cycle gives this byte, and the output is then this one
  abbrev pub Gives : ℕ → Output → Type 0
  Gives v o = ((after data_out).reply ≡ reply.Byte v) × (((after data_out).target.decoder.output ≡ o) × LeavesBuffers data_out)

  -- **Identification.**
  pub record Identification : Type 0 where
    -- "90h with 00h: maker ID, device ID", and no third
    pub ids : At (Single first.ReadId) → Taken (address 0x00) → Shows (address 0x00) (output.Ids 0)
    pub maker : Out (output.Ids 0) → Live → Gives t.ids.maker (output.Ids 1)
    pub device : Out (output.Ids 1) → Live → Gives t.ids.device (output.Ids 2)
    pub no_third : Out (output.Ids 2) → Live → RefusedWith 8 data_out
    -- "With 20h: 4F 4E 46 49", and no fifth
    pub signature : At (Single first.ReadId) → Taken (address 0x20) → Shows (address 0x20) (output.Signature 0)
    pub O : Out (output.Signature 0) → Live → Gives 0x4f (output.Signature 1)
    pub N : Out (output.Signature 1) → Live → Gives 0x4e (output.Signature 2)
    pub F : Out (output.Signature 2) → Live → Gives 0x46 (output.Signature 3)
    pub I : Out (output.Signature 3) → Live → Gives 0x49 (output.Signature 4)
    pub no-fifth : Out (output.Signature 4) → Live → RefusedWith 8 data_out
    -- "ECh with 00h: the page three times, 768 bytes"
    pub page : At (Single first.ParameterPage) → Taken (address 0x00) → Shows (address 0x00) (output.Parameters 0)
    pub page-byte : (at : ℕ) → at < 768 → Out (output.Parameters at) → Live
        → Gives (get_or params (at % 256) 0) (output.Parameters (at + 1))
    pub page-ends : Out (output.Parameters 768) → Live → RefusedWith 8 data_out
    -- "EEh/EFh know address 01h only"
    pub get : At (Single first.GetFeatures) → Taken (address 0x01) → Shows (address 0x01) (output.Feature 0)
    pub get-only : (v : ℕ) → eqb v 0x01 ≡ false → At (Single first.GetFeatures) → Live → RefusedWith 4 (address v)
    pub set-bytes : At (Single first.SetFeatures) → Taken (address 0x01)
        → (after (address 0x01)).target.decoder.sequence ≡ setting 0 0
    pub set-only : (v : ℕ) → eqb v 0x01 ≡ false → At (Single first.SetFeatures) → Live → RefusedWith 4 (address v)
    -- EEh: "four bytes, P1 0 or 40h, the rest 0"
    pub p1-out : Out (output.Feature 0) → Live → Gives (pick t.clear 0x40 0) (output.Feature 1)
    pub p2-out : Out (output.Feature 1) → Live → Gives 0 (output.Feature 2)
    pub p3-out : Out (output.Feature 2) → Live → Gives 0 (output.Feature 3)
    pub p4-out : Out (output.Feature 3) → Live → Gives 0 (output.Feature 4)
    pub four-out : Out (output.Feature 4) → Live → RefusedWith 8 data_out
    -- EFh: "P1 0 or 40h .. 40h needs feature bit 8"
    pub p1-offered : (v value : ℕ) → At (setting 0 value) → Live
        → (eqb v 0 || eqb v 0x40 && has_feature t.words 8) ≡ true
        → (after (data_in v)).reply ≡ reply.Accepted
    pub p1-else : (v value : ℕ) → At (setting 0 value) → Live
        → (eqb v 0 || eqb v 0x40 && has_feature t.words 8) ≡ false
        → RefusedWith 9 (data_in v)
    -- "the rest 0"
    pub rest-zero : (got value v : ℕ) → eqb got 0 ≡ false → At (setting got value) → Live → eqb v 0 ≡ false
        → RefusedWith 9 (data_in v)
    -- "EFh takes hold at its fourth byte": the first three are kept in the decoder
    pub first_byte : (v value : ℕ) → At (setting 0 value) → Taken (data_in v)
        → ((after (data_in v)).target.decoder.sequence ≡ setting 1 v) × ((after (data_in v)).target.clear ≡ t.clear)
    pub second-byte : (v value : ℕ) → At (setting 1 value) → Taken (data_in v)
        → ((after (data_in v)).target.decoder.sequence ≡ setting 2 value) × ((after (data_in v)).target.clear ≡ t.clear)
    pub third-byte : (v value : ℕ) → At (setting 2 value) → Taken (data_in v)
        → ((after (data_in v)).target.decoder.sequence ≡ setting 3 value) × ((after (data_in v)).target.clear ≡ t.clear)
    pub fourth-byte : (v value : ℕ) → At (setting 3 value) → Taken (data_in v)
        → ((after (data_in v)).target.decoder.sequence ≡ Idle) × ((after (data_in v)).target.clear ≡ eqb value 0x40)
    -- "These end at once": no LUN works for EFh, no lent byte changes
    pub at_once : (v got value : ℕ) → At (setting got value) → Taken (data_in v)
        → ((after (data_in v)).target.luns ≡ t.luns) × LeavesBuffers (data_in v)

  -- **Polling** (document 02, A2). Status says that 70h and 78h give the status, and that a data-out cycle then changes
  -- nothing.

  -- the parameter page is open, or kept behind a status
  abbrev pub page_open : Bool
  page_open = is_page t.decoder.output || is_page kept

  pub record Polling : Type 0 where
    -- "70h keeps that memory": the output that was open, whatever it is but a status
    pub keeps : shows_status t.decoder.output ≡ false → Taken (command 0x70)
        → (after (command 0x70)).target.decoder.kept ≡ t.decoder.output
    -- and of a second status what the first one kept
    pub hands_on : (l : ℕ) → Open (output.Status l) → Taken (command 0x70)
        → (after (command 0x70)).target.decoder.kept ≡ kept
    -- 78h holds it in the same way until its row has come
    pub holds : Taken (command 0x78)
        → (after (command 0x78)).target.decoder
        ≡ decoding (row first.StatusEnhanced (record { 0 = 0 }) 0 0 0) output.Nothing (remembered t.decoder)
    pub still-holds : (f : First) (c : Column) (got low mid v : ℕ) → eqb got 2 ≡ false → At (row f c got low mid)
        → Taken (address v)
        → (after (address v)).target.decoder.kept ≡ kept
    -- "78h keeps it only if the row names the register's LUN"
    pub row_keeps : (c at : Column) (low mid v : ℕ) → At (last_row first.StatusEnhanced c low mid) → Taken (address v)
        → kept ≡ output.Register (lun (row_from low mid v)) at
        → (after (address v)).target.decoder.kept ≡ kept
    pub row-loses : (c : Column) (low mid v : ℕ) → At (last_row first.StatusEnhanced c low mid) → Taken (address v)
        → ((at : Column) → kept ≡ output.Register (lun (row_from low mid v)) at → ⊥)
        → (after (address v)).target.decoder.kept ≡ output.Nothing
    -- "after status, 00h with no address" still has it
    pub asks : (l : ℕ) → Open (output.Status l) → Taken (command 0x00)
        → (after (command 0x00)).target.decoder ≡ decoding (bare 0) output.Nothing kept
    -- "and then data out goes on from the output that was open before": answer, record and lent bytes are those of that
    -- output, refusals too
    pub goes_on : (low : ℕ) → At (bare low) → lets_pass t params b flags ≡ true
        → after data_out ≡ step_of (putting t kept) data_out params b flags
    -- "at its next byte", and then it is plain output, at the place after it
    pub next-byte : (low : ℕ) → At (bare low) → Taken data_out
        → ((after data_out).reply ≡ reply.Byte (output_byte t params b.registers kept))
        × ((after data_out).target.decoder ≡ decoding Idle (advanced kept) output.Nothing) × LeavesBuffers data_out
    -- it is given where the output has begun and has not ended, and where a register's LUN is ready
    pub gives : (low : ℕ) → At (bare low) → Live → has_output kept ≡ true → output_works t.luns kept ≡ false
        → output_ended t.geometry kept ≡ false
        → (after data_out).reply ≡ reply.Byte (output_byte t params b.registers kept)
    pub too-early : (low l : ℕ) (at : Column) → At (bare low) → Live → kept ≡ output.Register l at
        → works t.luns l ≡ true
        → RefusedWith 5 data_out
    pub all-given : (low : ℕ) → At (bare low) → Live → output_works t.luns kept ≡ false
        → output_ended t.geometry kept ≡ true
        → RefusedWith 8 data_out
    -- the whole of it: output is open, then come 70h and a bare 00h, and data out is answered, and leaves all, as if
    -- neither had come
    pub polled : shows_status t.decoder.output ≡ false → Taken (command 0x70)
        → next (next (after (command 0x70)) (command 0x00)) data_out
        ≡ step_of (putting t t.decoder.output) data_out params b flags
    -- 00h straight after output, with no status between, ends it
    pub no-status : shows_status t.decoder.output ≡ false → Taken (command 0x00)
        → (after (command 0x00)).target.decoder ≡ decoding (bare 0) output.Nothing output.Nothing
    -- "any other first command .. loses it"
    pub other-loses : (v : ℕ) → (eqb v 0x70 || eqb v 0x78 || eqb v 0x00) ≡ false → At Idle → Taken (command v)
        → (after (command v)).target.decoder.kept ≡ output.Nothing
    -- "or a refused bus cycle (12 and 13 apart) loses it, since the memory counts as output"
    pub refused-loses : (e : Event) (q : Refusal) → (after e).reply ≡ reply.Refused q → is_bus e ≡ true
        → eqb (number_of q) 12 ≡ false → eqb (number_of q) 13 ≡ false
        → (after e).target.decoder ≡ decoding Idle output.Nothing output.Nothing
    -- 12, 13 and the refusal of a bench event leave the whole record
    pub refused-keeps : (e : Event) (q : Refusal) → (after e).reply ≡ reply.Refused q
        → (not (is_bus e) || eqb (number_of q) 12 || eqb (number_of q) 13) ≡ true
        → (after e).target ≡ t
    -- and an accepted bench event the decoder: a LUN may finish while its status is asked for
    pub bench-keeps : (e : Event) → is_bus e ≡ false → Taken e → (after e).target.decoder ≡ t.decoder
    -- "and then it is 3"
    pub none_kept : (low : ℕ) → At (bare low) → Live → kept ≡ output.Nothing → RefusedWith 3 data_out
    -- "An address after 00h makes it a plain read"
    pub plain-read : (low v : ℕ) → At (bare low) → Taken (address v)
        → (after (address v)).target.decoder ≡ decoding (column first.Read 1 v) t.decoder.output output.Nothing
    pub plain-taken : (low v : ℕ) → At (bare low) → Live → (after (address v)).reply ≡ reply.Accepted
    -- until then a bare 00h is an open sequence: the line may not change, and no command fits but FFh, 05h neither
    pub line-held : (low level : ℕ) → ltb 1 level ≡ false → At (bare low) → Live → RefusedWith 11 (protect level)
    pub no-command : (low v : ℕ) → eqb v 0xff ≡ false → (is_known (class_of v) && offered t.words true v) ≡ true
        → At (bare low) → Live
        → RefusedWith 3 (command v)
    -- "With the parameter page open, or kept behind 70h, 05h moves within its 768 bytes instead"
    pub in-page : page_open ≡ true → Taken (command 0x05)
        → (after (command 0x05)).target.decoder
        ≡ decoding (column first.ChangeColumnInPage 0 0) output.Nothing output.Nothing
    pub in-register : page_open ≡ false → Taken (command 0x05)
        → (after (command 0x05)).target.decoder ≡ decoding (column first.ChangeColumn 0 0) output.Nothing output.Nothing
    pub page-low : (low v : ℕ) → At (column first.ChangeColumnInPage 0 low) → Live
        → ((after (address v)).reply ≡ reply.Accepted)
        × ((after (address v)).target.decoder
        ≡ decoding (column first.ChangeColumnInPage 1 v) t.decoder.output kept)
    -- "columns below 768", above P too, and while the selected LUN works
    pub page-high : (low v : ℕ) → At (column first.ChangeColumnInPage 1 low) → Live → (column_from low v).0 < 768
        → ((after (address v)).reply ≡ reply.Accepted)
        × ((after (address v)).target.decoder
        ≡ decoding (due first.ChangeColumnInPage (column_from low v) (record { 0 = 0 })) t.decoder.output kept)
    pub page-beyond : (low v : ℕ) → At (column first.ChangeColumnInPage 1 low) → Live → 768 ≤ (column_from low v).0
        → RefusedWith 4 (address v)
    -- and E0h puts the page out from there
    pub page-out : (c : Column) (r : Row) → At (due first.ChangeColumnInPage c r) → Live
        → ((after (command 0xe0)).reply ≡ reply.Accepted)
        × ((after (command 0xe0)).target.decoder ≡ decoding Idle (output.Parameters c.0) kept)
        × ((after (command 0xe0)).target.luns ≡ t.luns) × LeavesBuffers (command 0xe0)

  -- **Reset.** "FFh: sequence and output dropped, registers FFh, program-clear off, every LUN ready, FAIL 0, array
  -- and counts as they are", and so the numbers of blank blocks: accepted wherever rule 13 lets pass, and nothing else
  -- changes
  abbrev pub Reset : Type 0
  Reset =
      lets_pass t params b flags ≡ true
      → after (command 0xff) ≡ record {
        reply = reply.Accepted;
        target = record {
          powered = t.powered;
          geometry = t.geometry;
          words = t.words;
          ids = t.ids;
          high = t.high;
          clear = false;
          seen = true;
          selected = 0;
          luns = all_readied t.luns;
          decoder = decoding Idle output.Nothing output.Nothing;
        };
        buffers = record { array = b.array; registers = replicate (length b.registers) 0xff; counts = b.counts };
      }
