-- A target in two halves: what no event of a mixture changes, and the rest.
-- Assumes nothing.
use mathlib.Core.Path.{◌≡◌}
use mathlib.Core.Bool.{Bool}
use mathlib.Core.List.{List}
use Prim.Native.Nat.{ℕ}
use Rattle.target.specs.declared.Decoder.{Decoder}
use Rattle.target.specs.declared.Geometry.{Geometry}
use Rattle.target.specs.declared.Ids.{Ids}
use Rattle.target.specs.declared.Lun.{Lun}
use Rattle.target.specs.declared.Words.{Words}
use Rattle.target.specs.declared.Target.{Target}

pub record Fixed : Type 0 where
  pub powered : Bool
  pub geometry : Geometry
  pub words : Words
  pub ids : Ids
  pub high : Bool
  pub clear : Bool
  pub seen : Bool

abbrev pub fixed_of : Target → Fixed
fixed_of t = record { powered = t.powered; geometry = t.geometry; words = t.words; ids = t.ids; high = t.high; clear = t.clear; seen = t.seen }

-- the target of this fixed half, a selected LUN, LUN records and a decoder
abbrev pub made : Fixed → ℕ → List Lun → Decoder → Target
made k selected luns d = record {
  powered = k.powered;
  geometry = k.geometry;
  words = k.words;
  ids = k.ids;
  high = k.high;
  clear = k.clear;
  seen = k.seen;
  selected = selected;
  luns = luns;
  decoder = d;
}

-- an event that keeps program-clear and the first reset's mark keeps the fixed half
pub refixed : (k : Fixed) {clear seen : Bool} → clear ≡ k.clear → seen ≡ k.seen
    → record { powered = k.powered; geometry = k.geometry; words = k.words; ids = k.ids; high = k.high; clear = clear; seen = seen } ≡ k
refixed k p q = λ i. record { powered = k.powered; geometry = k.geometry; words = k.words; ids = k.ids; high = k.high; clear = p i; seen = q i }
