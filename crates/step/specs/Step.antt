-- One event, whole: the reply, the record after it and every lent byte.
use Rattle.std.specs.Prelude.{◌≡◌, true, List, ℕ, ◌*◌, ◌<◌, length, get_or, eqb, Err, None, Ok, Option, Result, Some}
use Rattle.target.specs.Pick.{pick}
use Rattle.target.specs.Sizes.{page_size}
use Rattle.target.specs.Address.{block_exists, row_exists}
use Rattle.target.specs.Commands.{second_row}
use Rattle.target.specs.Place.{put_out}
use Rattle.target.specs.declared.Row.{Row}
use Rattle.target.specs.declared.commands.Act.{Act}
use Rattle.target.specs.declared.commands.Act.TheVariants as act
use Rattle.target.specs.declared.Event.{Event}
use Rattle.target.specs.declared.Geometry.{Geometry}
use Rattle.target.specs.declared.Target.{Target}
use Rattle.target.specs.declared.Findings.{Findings}
use Rattle.target.specs.declared.Work.{Work}
use Rattle.target.specs.declared.Work.TheVariants as work
use Rattle.target.specs.declared.Refusal.TheVariants.{NotUsable}
use Rattle.target.specs.declared.Reply.{Reply}
use Rattle.target.specs.declared.Reply.TheVariants.{Accepted, Byte, Refused}
use Rattle.rules.specs.Rules.{verdict}
use Rattle.effects.specs.Effects.{target_after, target_refused, work_of}
use Rattle.step.specs.Usable.{usable}
use Rattle.blocks.specs.Blocks.{page_index}
use Rattle.step.specs.Buffers.{findings, registers_after, array_after, counts_after, output_byte}
use Rattle.target.specs.declared.views.Ended.{Ended}
use Rattle.target.specs.declared.Refusal.{Refusal}

-- the lent buffers that an event may change
pub record Buffers : Type 0 where
  pub array : List ℕ
  pub registers : List ℕ
  pub counts : List ℕ

pub record Outcome : Type 0 where
  pub reply : Reply
  pub target : Target
  pub buffers : Buffers

-- a data-out cycle gives a byte
unfoldable pub reply_of : Target → Event → List ℕ → List ℕ → Reply
reply_of t e params registers = pick (eqb e.kind 3) (Byte (output_byte t params registers (put_out t.decoder))) Accepted

-- the buffers after work
unfoldable pub worked : Geometry → Work → Buffers → Buffers
worked g w b = record {
  array = array_after g w b.array b.registers;
  registers = registers_after g w b.array b.registers;
  counts = counts_after g w b.counts;
}

-- an accepted event, by what the buffers say of it
unfoldable pub accepted_by : Target → Event → List ℕ → Buffers → Findings → Outcome
accepted_by t e params b found = record {
  reply = reply_of t e params b.registers;
  target = target_after t e found;
  buffers = worked t.geometry (work_of t.geometry t.clear t.decoder.sequence e found) b;
}

unfoldable pub accepted : Target → Event → List ℕ → Buffers → List ℕ → Outcome
accepted t e params b flags =
    accepted_by t e params b (findings t.geometry t.words t.decoder.sequence e b.counts flags)

-- a record and buffers that rule 13 lets pass, by the verdict
unfoldable pub by_verdict : Result Unit Refusal → Target → Event → List ℕ → Buffers → List ℕ → Outcome
by_verdict (Ok tt) t e params b flags = accepted t e params b flags
by_verdict (Err r) t e params b flags = record { reply = Refused r; target = target_refused t e; buffers = b }

-- the step where rule 13 does not hold
unfoldable pub steady : Target → Event → List ℕ → Buffers → List ℕ → Outcome
steady t e params b flags = by_verdict (verdict t e) t e params b flags

-- rule 13 comes first, and changes nothing
unfoldable pub step_of : Target → Event → List ℕ → Buffers → List ℕ → Outcome
step_of t e params b flags =
    pick (usable t (length params) (length b.array) (length b.registers) (length b.counts) (length flags))
    (steady t e params b flags)
    (record { reply = Refused NotUsable; target = t; buffers = b })

-- where a run stands: the record, and what the lent buffers hold
pub record State : Type 0 where
  pub target : Target
  pub buffers : Buffers

-- For the code: the buffers have the geometry's lengths, and work stays within them.
pub record Sizes (g : Geometry) (array registers counts : List ℕ) : Type 0 where
  pub array_size : length array ≡ g.luns * g.blocks * g.pages * page_size g
  pub registers-size : length registers ≡ g.luns * page_size g
  pub counts-size : length counts ≡ g.luns * g.blocks * g.pages

unfoldable pub Ready : Geometry → Work → List ℕ → Type 0
Ready g work.Nothing counts = Unit
Ready g work.ClearAll counts = Unit
Ready g (work.ClearOne l) counts = l < g.luns
Ready g (work.Load r) counts = row_exists g r ≡ true
Ready g (work.Put l c v) counts = (l < g.luns) × (c.0 < page_size g)
Ready g (work.Program r) counts = (row_exists g r ≡ true) × (get_or counts (page_index g r) 0 < 255)
Ready g (work.Erase r) counts = block_exists g r ≡ true

-- what a second command works on is there: the page for 30h and 10h, the block for D0h
unfoldable pub Reaches : Geometry → Act → Row → Type 0
Reaches g act.Nothing r = Unit
Reaches g act.Load r = row_exists g r ≡ true
Reaches g act.Program r = row_exists g r ≡ true
Reaches g act.Erase r = block_exists g r ≡ true
Reaches g act.Move r = Unit

unfoldable pub EnderReaches : Geometry → Option Ended → Type 0
EnderReaches g None = Unit
EnderReaches g (Some k) = Reaches g (second_row k.second).act k.row
