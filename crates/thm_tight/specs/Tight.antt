-- Rule 13's record part is what document 01 says of it ("Refusal numbers"): it refuses where the target is not powered
-- "or a number in the record, taken by itself, is one that no run with that geometry gives it". Proved in proofs/.
--     Tight       each number of a record that it lets pass is given by a run
--     ByItself    and a record each of whose numbers is given by some run passes, however they stand together
use Rattle.std.specs.Prelude.{◌≡◌, Bool, true, ◌&&◌, List, [], ◌∷◌, ℕ, ◌<◌, ◌≤◌, length, leb, Ok}
use Rattle.slices.specs.Cells.{all_at_most}
use Rattle.target.specs.Luns.{works, failed, copyback_at, blank_at}
use Rattle.target.specs.declared.Event.{Event}
use Rattle.target.specs.declared.Geometry.{Geometry}
use Rattle.target.specs.declared.Target.{Target}
use Rattle.target.specs.declared.Column.{Column}
use Rattle.target.specs.declared.Row.{Row}
use Rattle.target.specs.declared.First.{First}
use Rattle.target.specs.declared.Sequence.{Sequence}
use Rattle.target.specs.declared.Sequence.TheVariants.{Idle, Columns, Rows, Single, Due, Filling, Moving, Setting}
use Rattle.target.specs.declared.Output.{Output}
use Rattle.target.specs.declared.Output.TheVariants as output
use Rattle.power.specs.Power.{geometry_of, power_answer}
use Rattle.step.specs.Usable.{record_sound}
use Rattle.thm_demands.specs.Runs.{after, powered_up}

-- the kind and the value of each event are bytes
unfoldable pub byte_events : List Event → Bool
byte_events [] = true
byte_events (e ∷ es) = leb e.kind 255 && leb e.value 255 && byte_events es

-- P holds of the target after some events from an accepted power-on with geometry g; what is lent is bytes (counts and
-- flags are where power-on accepts them)
pub record Reached (g : Geometry) (P : Target → Type 0) : Type 0 where
  pub page : List ℕ
  pub device : ℕ
  pub array : List ℕ
  pub registers : List ℕ
  pub counts : List ℕ
  pub flags : List ℕ
  pub events : List Event
  pub page-bytes : all_at_most 255 page ≡ true
  pub device-byte : device ≤ 255
  pub array-bytes : all_at_most 255 array ≡ true
  pub registers-bytes : all_at_most 255 registers ≡ true
  pub events-bytes : byte_events events ≡ true
  pub on : power_answer page (length array) (length registers) counts flags ≡ Ok tt
  pub sizes : geometry_of page ≡ g
  pub holds : P (after page flags events (powered_up page device array registers counts flags)).target

-- a run that leaves this sequence, this output, this output kept behind a status
abbrev pub Stands : Geometry → Sequence → Type 0
Stands g s = Reached g (λ t. t.decoder.sequence ≡ s)

abbrev pub Shows : Geometry → Output → Type 0
Shows g o = Reached g (λ t. t.decoder.output ≡ o)

abbrev pub Keeps : Geometry → Output → Type 0
Keeps g o = Reached g (λ t. t.decoder.kept ≡ o)

-- a run that leaves a sequence of the same shape with the same value there, whatever stands beside it
pub record Leaves {K A : Type 0} (g : Geometry) (shape : K → Sequence) (value : K → A) (k : K) : Type 0 where
  pub other : K
  pub stands : Stands g (shape other)
  pub same : value other ≡ value k

-- each number of a sequence is given by a run, together with the command that it belongs to
abbrev pub SequenceGiven : Geometry → Sequence → Type 0
SequenceGiven g Idle = Stands g Idle
SequenceGiven g (Columns k) =
    Leaves {A = First × ℕ} g Columns (λ j. (j.first, j.got)) k
    × Leaves {A = First × ℕ} g Columns (λ j. (j.first, j.low)) k
SequenceGiven g (Rows k) =
    Leaves {A = First × Column} g Rows (λ j. (j.first, j.column)) k
    × Leaves {A = First × ℕ} g Rows (λ j. (j.first, j.got)) k
    × Leaves {A = First × ℕ} g Rows (λ j. (j.first, j.low)) k
    × Leaves {A = First × ℕ} g Rows (λ j. (j.first, j.mid)) k
SequenceGiven g (Single f) = Stands g (Single f)
SequenceGiven g (Due k) =
    Leaves {A = First × Column} g Due (λ j. (j.first, j.column)) k
    × Leaves {A = First × Row} g Due (λ j. (j.first, j.row)) k
SequenceGiven g (Filling k) =
    Leaves {A = First × Row} g Filling (λ j. (j.first, j.row)) k
    × Leaves {A = First × Column} g Filling (λ j. (j.first, j.at)) k
SequenceGiven g (Moving k) =
    Leaves {A = First × Row} g Moving (λ j. (j.first, j.row)) k
    × Leaves {A = First × ℕ} g Moving (λ j. (j.first, j.got)) k
    × Leaves {A = First × ℕ} g Moving (λ j. (j.first, j.low)) k
SequenceGiven g (Setting k) = Leaves g Setting (λ j. j.got) k × Leaves g Setting (λ j. j.value) k

-- each number of an output is given by a run that leaves it: a register's LUN and its column each by one of its own
abbrev pub EachGiven : (Output → Type 0) → Output → Type 0
EachGiven Leaving output.Nothing = Leaving output.Nothing
EachGiven Leaving (output.Register l c) =
    ((d : Column) × Leaving (output.Register l d)) × ((k : ℕ) × Leaving (output.Register k c))
EachGiven Leaving (output.Parameters at) = Leaving (output.Parameters at)
EachGiven Leaving (output.Status l) = Leaving (output.Status l)
EachGiven Leaving (output.Ids at) = Leaving (output.Ids at)
EachGiven Leaving (output.Signature at) = Leaving (output.Signature at)
EachGiven Leaving (output.Feature at) = Leaving (output.Feature at)

abbrev pub OutputGiven : Geometry → Output → Type 0
OutputGiven g o = EachGiven (Shows g) o

-- no run keeps a status, so that none is given here
abbrev pub KeptGiven : Geometry → Output → Type 0
KeptGiven g o = EachGiven (Keeps g) o

-- each number of a record is given by a run with its geometry, data and spare bytes among its sizes; there are four LUN
-- records
pub record Given (t : Target) : Type 0 where
  pub geometry : Reached t.geometry (λ u. u.geometry ≡ t.geometry)
  pub features : Reached t.geometry (λ u. u.words.features ≡ t.words.features)
  pub optional : Reached t.geometry (λ u. u.words.optional ≡ t.words.optional)
  pub maker : Reached t.geometry (λ u. u.ids.maker ≡ t.ids.maker)
  pub device : Reached t.geometry (λ u. u.ids.device ≡ t.ids.device)
  pub high : Reached t.geometry (λ u. u.high ≡ t.high)
  pub clear : Reached t.geometry (λ u. u.clear ≡ t.clear)
  pub seen : Reached t.geometry (λ u. u.seen ≡ t.seen)
  pub selected : Reached t.geometry (λ u. u.selected ≡ t.selected)
  pub working : (l : ℕ) → l < 4 → Reached t.geometry (λ u. works u.luns l ≡ works t.luns l)
  pub fail : (l : ℕ) → l < 4 → Reached t.geometry (λ u. failed u.luns l ≡ failed t.luns l)
  pub copyback : (l : ℕ) → l < 4 → Reached t.geometry (λ u. copyback_at u.luns l ≡ copyback_at t.luns l)
  pub blank : (l : ℕ) → l < 4 → Reached t.geometry (λ u. blank_at u.luns l ≡ blank_at t.luns l)
  pub sequence : SequenceGiven t.geometry t.decoder.sequence
  pub output : OutputGiven t.geometry t.decoder.output
  pub kept : KeptGiven t.geometry t.decoder.kept

-- what has come of a half-given address is bytes
abbrev pub BytesHeld : Sequence → Type 0
BytesHeld Idle = Unit
BytesHeld (Columns k) = k.low ≤ 255
BytesHeld (Rows k) = (k.low ≤ 255) × (k.mid ≤ 255)
BytesHeld (Single f) = Unit
BytesHeld (Due k) = Unit
BytesHeld (Filling k) = Unit
BytesHeld (Moving k) = k.low ≤ 255
BytesHeld (Setting k) = Unit

-- what the types of the record give: words have 16 bits, IDs and address cycles are bytes
pub record Typed (t : Target) : Type 0 where
  pub features : t.words.features ≤ 65535
  pub optional : t.words.optional ≤ 65535
  pub maker : t.ids.maker ≤ 255
  pub device : t.ids.device ≤ 255
  pub sequence : BytesHeld t.decoder.sequence

abbrev pub Tight : Type 0
Tight = (t : Target) → Typed t → record_sound t ≡ true → Given t

abbrev pub ByItself : Type 0
ByItself = (t : Target) → t.powered ≡ true → Given t → record_sound t ≡ true
