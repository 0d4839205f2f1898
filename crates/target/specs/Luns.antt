-- The LUN records (document 01, "Work"; document 02, A1, A7): a record is the working mark, FAIL, whether a copyback is open, and the
-- number of blank blocks. Each way in which it changes has its name here.
use Rattle.std.specs.Prelude.{ℕ, Bool, true, false, ◌&&◌, ◌||◌, not, List, [], ◌∷◌, get_or, eqb}
use Rattle.target.specs.declared.Lun.{Lun}

-- a LUN that is ready, with FAIL 0 and no copyback, and with so many blank blocks
abbrev pub lun_ready : ℕ → Lun
lun_ready blank = record { working = false; fail = false; copyback = false; blank = blank }

-- a LUN that does not exist is ready and has no block
abbrev pub lun_unused : Lun
lun_unused = lun_ready 0

-- work begins, and sets FAIL afresh; it may open a copyback, or close the one that is open, and change the number of blank blocks
abbrev pub lun_begun : Lun → Bool → Bool → Bool → ℕ → Lun
lun_begun old fail opens closes blank =
    record { working = true; fail = fail; copyback = opens || old.copyback && not closes; blank = blank }

-- its finish event, which leaves FAIL, the copyback and the number of blank blocks as they are
abbrev pub lun_finished : Lun → Lun
lun_finished old = record { working = false; fail = old.fail; copyback = old.copyback; blank = old.blank }

-- a row closes the copyback
abbrev pub lun_closed : Lun → Lun
lun_closed old = record { working = old.working; fail = old.fail; copyback = false; blank = old.blank }

-- the record is that of a LUN that does not exist
abbrev pub is_unused : Lun → Bool
is_unused x = not x.working && not x.fail && not x.copyback && eqb x.blank 0

-- the l-th LUN's record
abbrev pub lun_at : List Lun → ℕ → Lun
lun_at luns l = get_or luns l lun_unused

abbrev pub works : List Lun → ℕ → Bool
works luns l = (lun_at luns l).working

-- the LUN's FAIL
abbrev pub failed : List Lun → ℕ → Bool
failed luns l = (lun_at luns l).fail

-- a copyback is open on the LUN
abbrev pub copyback_at : List Lun → ℕ → Bool
copyback_at luns l = (lun_at luns l).copyback

-- how many blocks of the LUN are blank
abbrev pub blank_at : List Lun → ℕ → ℕ
blank_at luns l = (lun_at luns l).blank

-- every LUN made ready; the numbers of blank blocks stay
abbrev pub all_readied : List Lun → List Lun
all_readied luns =
    lun_ready (blank_at luns 0) ∷ lun_ready (blank_at luns 1) ∷ lun_ready (blank_at luns 2) ∷ lun_ready (blank_at luns 3) ∷ []

abbrev pub any_works : List Lun → Bool
any_works luns = works luns 0 || works luns 1 || works luns 2 || works luns 3

-- a LUN other than l works
abbrev pub others_work : List Lun → ℕ → Bool
others_work luns l =
    not (eqb l 0) && works luns 0 || not (eqb l 1) && works luns 1 || not (eqb l 2) && works luns 2 || not (eqb l 3) && works luns 3
