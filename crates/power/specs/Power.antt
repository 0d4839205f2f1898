-- Power-on (document 01, "Power-on and the parameter page"; document 02, A7).
use Rattle.std.specs.Prelude.{Result, Ok, Err, Bool, true, false, ◌&&◌, not, List, [], ◌∷◌, ℕ, length, replicate, eqb, ltb}
use Rattle.slices.specs.Cells.{all_at_most}
use Rattle.page.specs.Page.{signed, crc_good, fields_in_limits, features, optional_commands, maker_id, data_bytes, spare_bytes, pages_a_block, blocks_a_lun, lun_count, programs_a_page}
use Rattle.target.specs.Pick.{pick}
use Rattle.target.specs.Luns.{lun_ready, lun_unused}
use Rattle.target.specs.Sizes.{sized}
use Rattle.blocks.specs.Blocks.{blank_blocks}
use Rattle.target.specs.declared.Geometry.{Geometry}
use Rattle.target.specs.declared.Words.{Words}
use Rattle.target.specs.declared.Lun.{Lun}
use Rattle.target.specs.declared.Target.{Target}
use Rattle.target.specs.declared.Sequence.TheVariants as sequence
use Rattle.target.specs.declared.Output.TheVariants as output
use Rattle.power.specs.declared.PowerRefusal.{PowerRefusal}
use Rattle.power.specs.declared.NotPowered.{NotPowered}
use Rattle.power.specs.declared.PowerRefusal.TheVariants.{PageLength, Signature, Crc, Field, BufferLength, Content}

-- document 01's numbers: 0 stands for a success
abbrev pub refusal_number : PowerRefusal → ℕ
refusal_number PageLength = 20
refusal_number Signature = 21
refusal_number Crc = 22
refusal_number Field = 23
refusal_number BufferLength = 24
refusal_number Content = 25

abbrev pub power_number : Result Unit PowerRefusal → ℕ
power_number (Ok done) = 0
power_number (Err r) = refusal_number r

-- the fields that the record keeps: sizes, words and IDs
unfoldable pub geometry_of : List ℕ → Geometry
geometry_of page = record {
  bytes = data_bytes page;
  spare = spare_bytes page;
  pages = pages_a_block page;
  blocks = blocks_a_lun page;
  luns = lun_count page;
  programs = programs_a_page page;
}

unfoldable pub words_of : List ℕ → Words
words_of page = record { features = features page; optional = optional_commands page }

-- A7: how many blocks of the LUN are blank, by the walk; one that does not exist has none
unfoldable pub walked : Geometry → List ℕ → List ℕ → ℕ → ℕ
walked g counts flags l = pick (ltb l g.luns) (blank_blocks g l counts flags) 0

-- a LUN as power-on finds it
abbrev pub lun_found : Geometry → List ℕ → List ℕ → ℕ → Lun
lun_found g counts flags l = lun_ready (walked g counts flags l)

abbrev pub luns_found : Geometry → List ℕ → List ℕ → List Lun
luns_found g counts flags =
    lun_found g counts flags 0 ∷ lun_found g counts flags 1 ∷ lun_found g counts flags 2 ∷ lun_found g counts flags 3 ∷ []

-- protect line high, program-clear off, every LUN ready, FAIL 0, no FFh seen
unfoldable pub powered_of : List ℕ → ℕ → List ℕ → List ℕ → Target
powered_of page device counts flags = record {
  powered = true;
  geometry = geometry_of page;
  words = words_of page;
  ids = record { maker = maker_id page; device = device };
  high = true;
  clear = false;
  seen = false;
  selected = 0;
  luns = luns_found (geometry_of page) counts flags;
  decoder = record { sequence = sequence.Idle; output = output.Nothing; kept = output.Nothing };
}

-- an unpowered target
unfoldable pub unpowered : Target
unpowered = record {
  powered = false;
  geometry = record { bytes = 0; spare = 0; pages = 0; blocks = 0; luns = 0; programs = 0 };
  words = record { features = 0; optional = 0 };
  ids = record { maker = 0; device = 0 };
  high = false;
  clear = false;
  seen = false;
  selected = 0;
  luns = lun_unused ∷ lun_unused ∷ lun_unused ∷ lun_unused ∷ [];
  decoder = record { sequence = sequence.Idle; output = output.Nothing; kept = output.Nothing };
}

-- 20: length not 256
unfoldable pub wrong_length : List ℕ → Bool
wrong_length page = not (eqb (length page) 256)

-- 21: signature
unfoldable pub unsigned : List ℕ → Bool
unsigned page = not (signed page)

-- 22: CRC
unfoldable pub crc_bad : List ℕ → Bool
crc_bad page = not (crc_good page)

-- 23: a field outside its limits
unfoldable pub field_bad : List ℕ → Bool
field_bad page = not (fields_in_limits page)

-- 24: a buffer length
unfoldable pub buffer_bad : List ℕ → ℕ → ℕ → ℕ → ℕ → Bool
buffer_bad page array registers counts flags = not (sized (geometry_of page) array registers counts flags)

-- 25: a count above programs a page, or a flag that is neither 0 nor 1
unfoldable pub content_bad : List ℕ → List ℕ → List ℕ → Bool
content_bad page counts flags = not (all_at_most (programs_a_page page) counts && all_at_most 1 flags)

-- the refusal where its rule holds, else what the later rules say
unfoldable pub or_refused : Bool → PowerRefusal → Result Unit PowerRefusal → Result Unit PowerRefusal
or_refused b r a = pick b (Err r) a

-- lowest first
unfoldable pub power_answer : List ℕ → ℕ → ℕ → List ℕ → List ℕ → Result Unit PowerRefusal
power_answer page array registers counts flags =
    or_refused (wrong_length page) PageLength
    (or_refused (unsigned page) Signature
    (or_refused (crc_bad page) Crc
    (or_refused (field_bad page) Field
    (or_refused (buffer_bad page array registers (length counts) (length flags)) BufferLength
    (or_refused (content_bad page counts flags) Content
    (Ok tt))))))

-- power-on, whole: the answer, the record, and the registers; no other lent buffer can change
pub record Powering : Type 0 where
  pub answer : Result Unit PowerRefusal
  pub target : Target
  pub registers : List ℕ

-- success fills the registers with FFh; a refusal changes no lent byte and gives an unpowered target
abbrev pub powering : Result Unit PowerRefusal → List ℕ → ℕ → List ℕ → List ℕ → List ℕ → Powering
powering (Ok done) page device registers counts flags = record {
  answer = Ok tt;
  target = powered_of page device counts flags;
  registers = replicate (length registers) 0xff;
}
powering (Err r) page device registers counts flags = record { answer = Err r; target = unpowered; registers = registers }

unfoldable pub power_of : List ℕ → ℕ → List ℕ → List ℕ → List ℕ → List ℕ → Powering
power_of page device array registers counts flags =
    powering (power_answer page (length array) (length registers) counts flags) page device registers counts flags

-- what power-on gives, and the registers after it
abbrev pub told : Result Target NotPowered → List ℕ → Powering
told (Ok t) registers = record { answer = Ok tt; target = t; registers = registers }
told (Err e) registers = record { answer = Err e.why; target = e.target; registers = registers }
