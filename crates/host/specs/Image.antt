-- A target's record for a host, all plain numbers, and what the exported functions do with it.
use Rattle.std.specs.Prelude.{◌≡◌, true, false, Result, MatchResult, Option, Some, None, ℕ, ◌+◌, ◌*◌, ◌%◌, Bool, ◌&&◌, List, leb}
use Rattle.target.specs.Pick.{pick}
use Rattle.target.specs.Numbers.{reply_first, reply_second}
use Rattle.target.specs.declared.Target.{Target}
use Rattle.target.specs.declared.Reply.{Reply}
use Rattle.power.specs.Power.{power_number, unpowered, Powering, power_of}
use Rattle.step.specs.Step.{Buffers, Outcome, step_of}
use Rattle.trace.specs.Run.{run_number, Traced, trace_of}
use Rattle.unread.specs.Rest.{unread_of}
use Rattle.unread.specs.declared.Source.{Source}
use Rattle.unread.specs.declared.Source.TheVariants as source
use Rattle.unread.specs.declared.Unread.{Unread}
use Rattle.host.specs.declared.numbers.Cycles.{Cycles}
use Rattle.host.specs.declared.numbers.Place.{Place}
use Rattle.host.specs.declared.Image.{Image}
use Rattle.host.specs.declared.NotPacked.{NotPacked}
use Rattle.host.specs.Numbers.{mark_byte, is_set, sequence_of, cycles_of, output_of, output_place, luns_of, working_of, fail_of, copyback_of, blank_of, same_cycles, same_place, four_marks}

-- the numbers of the open sequence, of the output and of the output that was kept
abbrev pub cycles_in : Image → Cycles
cycles_in i = record {
  kind = i.sequence;
  first = i.first;
  got = i.got;
  low = i.low;
  mid = i.mid;
  value = i.value;
  column = i.column;
  row = i.row;
}

abbrev pub place_in : Image → Place
place_in i = record { kind = i.output; lun = i.output_lun; at = i.output_at }

abbrev pub kept_in : Image → Place
kept_in i = record { kind = i.kept; lun = i.kept_lun; at = i.kept_at }

-- the record that the numbers stand for
unfoldable pub unpacked : Image → Target
unpacked i = record {
  powered = is_set i.powered;
  geometry = record {
    bytes = i.data_bytes;
    spare = i.spare_bytes;
    pages = i.pages;
    blocks = i.blocks;
    luns = i.luns;
    programs = i.programs;
  };
  words = record { features = i.features; optional = i.optional_commands };
  ids = record { maker = i.maker; device = i.device };
  high = is_set i.high;
  clear = is_set i.clear;
  seen = is_set i.seen;
  selected = i.selected;
  luns = luns_of i.working i.fail i.copyback i.blank;
  decoder = record { sequence = sequence_of (cycles_in i); output = output_of (place_in i); kept = output_of (kept_in i) };
}

abbrev pub image_from : Target → Cycles → Place → Place → Image
image_from t c p k = record {
  data_bytes = t.geometry.bytes;
  spare_bytes = t.geometry.spare;
  features = t.words.features;
  optional_commands = t.words.optional;
  pages = t.geometry.pages;
  blocks = t.geometry.blocks;
  luns = t.geometry.luns;
  programs = t.geometry.programs;
  selected = t.selected;
  column = c.column;
  row = c.row;
  output_lun = p.lun;
  output_at = p.at;
  kept_lun = k.lun;
  kept_at = k.at;
  powered = mark_byte t.powered;
  high = mark_byte t.high;
  clear = mark_byte t.clear;
  seen = mark_byte t.seen;
  working = working_of t.luns;
  fail = fail_of t.luns;
  maker = t.ids.maker;
  device = t.ids.device;
  sequence = c.kind;
  first = c.first;
  got = c.got;
  low = c.low;
  mid = c.mid;
  value = c.value;
  output = p.kind;
  copyback = copyback_of t.luns;
  kept = k.kind;
  blank = blank_of t.luns;
}

unfoldable pub packed : Target → Image
packed t = image_from t (cycles_of t.decoder.sequence) (output_place t.decoder.output) (output_place t.decoder.kept)

-- every mark is 0 or 1
unfoldable pub marks_good : Image → Bool
marks_good i =
    leb i.powered 1
    && leb i.high 1
    && leb i.clear 1
    && leb i.seen 1
    && four_marks i.working
    && four_marks i.fail
    && four_marks i.copyback

-- the numbers are those that some record packs to: every mark is 0 or 1, every kind is one that there is, and what the
-- present sequence, output and memory have not is 0
unfoldable pub good : Image → Bool
good i =
    marks_good i
    && same_cycles (cycles_in i) (cycles_of (sequence_of (cycles_in i)))
    && same_place (place_in i) (output_place (output_of (place_in i)))
    && same_place (kept_in i) (output_place (output_of (kept_in i)))

-- what comes of taking the record from the numbers: it, or that no record packs to them
abbrev pub Unpacks : Image → Result Target NotPacked → Type 0
Unpacks i outcome = MatchResult outcome (λ t. (good i ≡ true) × (t ≡ unpacked i)) (λ _. good i ≡ false)

-- numbers that no record packs to stand for a target that is not powered, of which every event is refused 13 ..
abbrev pub taken : Image → Target
taken i = pick (good i) (unpacked i) unpowered

-- .. and stay as they are
abbrev pub put_back : Image → Target → Image
put_back i t = pick (good i) (packed t) i

-- a reply as one number: its first byte times 256, and its second
abbrev pub reply_number : Reply → ℕ
reply_number r = reply_first r * 256 + reply_second r

-- one event
pub record HostEvent : Type 0 where
  pub answer : ℕ
  pub image : Image
  pub buffers : Buffers

abbrev pub evented : Image → Outcome → HostEvent
evented i o = record { answer = reply_number o.reply; image = put_back i o.target; buffers = o.buffers }

abbrev pub event_on : Image → ℕ → ℕ → List ℕ → Buffers → List ℕ → HostEvent
event_on i kind value page b flags = evented i (step_of (taken i) (record { kind = kind; value = value }) page b flags)

-- a byte trace
pub record HostTrace : Type 0 where
  pub answer : ℕ
  pub image : Image
  pub buffers : Buffers
  pub room : List ℕ

abbrev pub traced : Image → Traced → HostTrace
traced i o = record { answer = run_number o.answer; image = put_back i o.target; buffers = o.buffers; room = o.room }

abbrev pub trace_on : Image → List ℕ → List ℕ → List ℕ → Buffers → List ℕ → HostTrace
trace_on i records room page b flags = traced i (trace_of (taken i) records room page b flags)

-- power-on: whatever the record held before
pub record HostPower : Type 0 where
  pub answer : ℕ
  pub image : Image
  pub registers : List ℕ

abbrev pub powered : Powering → HostPower
powered o = record { answer = power_number o.answer; image = packed o.target; registers = o.registers }

abbrev pub power_with : List ℕ → ℕ → List ℕ → List ℕ → List ℕ → List ℕ → HostPower
power_with page device array registers counts flags = powered (power_of page device array registers counts flags)

-- where the unread rest lies: 0 where there is none, else the buffer times 2^60, where it starts times 2^30, and how long it is
abbrev pub source_number : Source → ℕ
source_number source.Registers = 1
source_number source.Parameters = 2

abbrev pub rest_number : Option Unread → ℕ
rest_number None = 0
rest_number (Some u) = source_number u.source * 1152921504606846976 + u.at % 1073741824 * 1073741824 + u.count % 1073741824

abbrev pub rest_on : Image → ℕ → ℕ → ℕ
rest_on i page registers = rest_number (unread_of (taken i) page registers)
