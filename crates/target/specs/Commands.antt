-- The command list (document 01, "What the model covers" and "Place"): the first commands and the second commands, what each is
-- like, and the class of each byte.
use Rattle.std.specs.Prelude.{ℕ, Bool, true, false, ◌&&◌, ◌||◌, List, [], ◌∷◌, map, get_or, eqb, None, Option, Some}
use Rattle.target.specs.Pick.{pick}
use Rattle.target.specs.Words.{has_option}
use Rattle.target.specs.declared.Words.{Words}
use Rattle.target.specs.declared.First.{First}
use Rattle.target.specs.declared.First.TheVariants.{Read, ChangeColumn, ChangeColumnEnhanced, Erase, Status, StatusEnhanced, Program, ReadId, ParameterPage, GetFeatures, SetFeatures, CopybackProgram, ChangeColumnInPage}
use Rattle.target.specs.declared.Second.{Second}
use Rattle.target.specs.declared.Second.TheVariants.{StartRead, StartOutput, StartProgram, StartErase, Move, StartCopyback}
use Rattle.target.specs.declared.commands.Class.{Class}
use Rattle.target.specs.declared.commands.Class.TheVariants as class
use Rattle.target.specs.declared.commands.Looks.{Looks}
use Rattle.target.specs.declared.commands.Looks.TheVariants as looks
use Rattle.target.specs.declared.commands.Then.{Then}
use Rattle.target.specs.declared.commands.Then.TheVariants as then
use Rattle.target.specs.declared.commands.Waits.{Waits}
use Rattle.target.specs.declared.commands.Waits.TheVariants as waits
use Rattle.target.specs.declared.commands.Act.{Act}
use Rattle.target.specs.declared.commands.Act.TheVariants as act
use Rattle.target.specs.declared.commands.FirstRow.{FirstRow}
use Rattle.target.specs.declared.commands.SecondRow.{SecondRow}

-- The first commands.

-- the short list: byte, address cycles, second command (0 where there is none) and another that may stand for it (0 where there is
-- none), which fields of its row are looked at, what follows its addresses, whether 5 is asked of its LUN, which LUNs 6 waits for,
-- whether it clears registers, whether its row closes the LUN's copyback, whether its row wants one that is open there, the addresses
-- that a lone address cycle may have, the optional bit that offers it (none: every part has it), and whether its column is one of the
-- parameter page
abbrev pub first_row : ℕ → ℕ → ℕ → ℕ → Looks → Then → Bool → Waits → Bool → Bool → Bool → ℕ → ℕ → Option ℕ → Bool → FirstRow
first_row b n s alt l t r w c k p x y o m = record {
  byte = b;
  cycles = n;
  second = s;
  or = alt;
  looks = l;
  then = t;
  ready = r;
  waits = w;
  clears = c;
  closes = k;
  copies = p;
  one = x;
  other = y;
  option = o;
  page = m;
}

abbrev pub firsts : List FirstRow
firsts =
    first_row 0x00 5 0x30 0x35 looks.Page then.Second true waits.Nobody false false false 0x00 0x00 None false
    ∷ first_row 0x05 2 0xe0 0x00 looks.Nothing then.Second true waits.Nobody false false false 0x00 0x00 None false
    ∷ first_row 0x06 5 0xe0 0x00 looks.Lun then.Second true waits.Nobody false false false 0x00 0x00 (Some 6) false
    ∷ first_row 0x60 3 0xd0 0x00 looks.Block then.Second true waits.Nobody false false false 0x00 0x00 None false
    ∷ first_row 0x70 0 0x00 0x00 looks.Nothing then.Status false waits.Others false false false 0x00 0x00 None false
    ∷ first_row 0x78 3 0x00 0x00 looks.Lun then.Status false waits.Nobody false false false 0x00 0x00 (Some 3) false
    ∷ first_row 0x80 5 0x10 0x00 looks.Page then.Data true waits.Nobody true true false 0x00 0x00 None false
    ∷ first_row 0x90 1 0x00 0x00 looks.Nothing then.Id false waits.All false false false 0x00 0x20 None false
    ∷ first_row 0xec 1 0x00 0x00 looks.Nothing then.ParameterPage false waits.All false false false 0x00 0x00 None false
    ∷ first_row 0xee 1 0x00 0x00 looks.Nothing then.FeatureOut false waits.All false false false 0x01 0x01 (Some 2) false
    ∷ first_row 0xef 1 0x00 0x00 looks.Nothing then.FeatureIn false waits.All false false false 0x01 0x01 (Some 2) false
    ∷ first_row 0x85 5 0x10 0x00 looks.Page then.Data true waits.Nobody false false true 0x00 0x00 (Some 4) false
    ∷ first_row 0x05 2 0xe0 0x00 looks.Nothing then.Second false waits.Nobody false false false 0x00 0x00 None true
    ∷ []

-- the place of a first command in that list
abbrev pub place_of : First → ℕ
place_of Read = 0
place_of ChangeColumn = 1
place_of ChangeColumnEnhanced = 2
place_of Erase = 3
place_of Status = 4
place_of StatusEnhanced = 5
place_of Program = 6
place_of ReadId = 7
place_of ParameterPage = 8
place_of GetFeatures = 9
place_of SetFeatures = 10
place_of CopybackProgram = 11
place_of ChangeColumnInPage = 12

-- the commands in the list's order
abbrev pub first_commands : List First
first_commands = Read ∷ ChangeColumn ∷ ChangeColumnEnhanced ∷ Erase ∷ Status ∷ StatusEnhanced ∷ Program ∷ ReadId ∷ ParameterPage ∷ GetFeatures ∷ SetFeatures ∷ CopybackProgram ∷ ChangeColumnInPage ∷ []

unfoldable pub row_of : First → FirstRow
row_of f =
    get_or firsts (place_of f)
    (first_row 0 0 0 0 looks.Nothing then.Second false waits.Nobody false false false 0 0 None false)

abbrev pub byte_of : First → ℕ
byte_of f = (row_of f).byte

abbrev pub cycles_of : First → ℕ
cycles_of f = (row_of f).cycles

abbrev pub end_of : First → ℕ
end_of f = (row_of f).second

abbrev pub other_end : First → ℕ
other_end f = (row_of f).or

abbrev pub looks_of : First → Looks
looks_of f = (row_of f).looks

abbrev pub then_of : First → Then
then_of f = (row_of f).then

abbrev pub needs_ready : First → Bool
needs_ready f = (row_of f).ready

abbrev pub waits_for : First → Waits
waits_for f = (row_of f).waits

abbrev pub clears_register : First → Bool
clears_register f = (row_of f).clears

-- its row closes the LUN's copyback; its row wants one that is open there
abbrev pub closes_copyback : First → Bool
closes_copyback f = (row_of f).closes

abbrev pub needs_copyback : First → Bool
needs_copyback f = (row_of f).copies

-- its column is one of the parameter page
abbrev pub in_page : First → Bool
in_page f = (row_of f).page

abbrev pub knows_address : First → ℕ → Bool
knows_address f v = eqb v (row_of f).one || eqb v (row_of f).other

-- of five cycles the first two are the column and the last three the row; two are a column, three a row
abbrev pub takes_column : First → Bool
takes_column f = eqb (cycles_of f) 2 || eqb (cycles_of f) 5

abbrev pub takes_row : First → Bool
takes_row f = eqb (cycles_of f) 3 || eqb (cycles_of f) 5

abbrev pub is_second : Then → Bool
is_second then.Second = true
is_second then.Data = false
is_second then.FeatureIn = false
is_second then.Status = false
is_second then.Id = false
is_second then.ParameterPage = false
is_second then.FeatureOut = false

abbrev pub waits_second : First → Bool
waits_second f = is_second (then_of f)

abbrev pub is_data : Then → Bool
is_data then.Second = false
is_data then.Data = true
is_data then.FeatureIn = false
is_data then.Status = false
is_data then.Id = false
is_data then.ParameterPage = false
is_data then.FeatureOut = false

abbrev pub is_status : Then → Bool
is_status then.Second = false
is_status then.Data = false
is_status then.FeatureIn = false
is_status then.Status = true
is_status then.Id = false
is_status then.ParameterPage = false
is_status then.FeatureOut = false

-- 70h and 78h: a status comes out
abbrev pub gives_status : First → Bool
gives_status f = is_status (then_of f)

-- 80h and 85h: data goes in once the addresses have come
abbrev pub takes_program_data : First → Bool
takes_program_data f = is_data (then_of f)

-- the first command of the list with this byte; 05h stands there twice, and the place reached says which of the two it is
abbrev pub first_in : List First → ℕ → Option First
first_in [] v = None
first_in (f ∷ fs) v = pick (eqb v (byte_of f)) (Some f) (first_in fs v)

unfoldable pub first_of : ℕ → Option First
first_of v = first_in first_commands v

-- a part has what no bit stands for, and else what its bit offers
abbrev pub offers : Words → Option ℕ → Bool
offers w None = true
offers w (Some k) = has_option w k

-- 78h, 06h, EEh, EFh and 85h are optional: optional bit 3, 6, 2, 2 and 4
abbrev pub offered_to : Words → First → Bool
offered_to w f = offers w (row_of f).option

abbrev pub offered_found : Words → Option First → Bool
offered_found w None = true
offered_found w (Some f) = offered_to w f

-- The second commands.

-- byte; whether the LUN works from it on; whether 7 guards it; whether it puts the register out; what it does with the page or block;
-- whether it opens a copyback on the LUN, and whether it closes it; the optional bit that offers it (none: every part has it)
abbrev pub second_line : ℕ → Bool → Bool → Bool → Act → Bool → Bool → Option ℕ → SecondRow
second_line b s g x a o c n = record { byte = b; starts = s; guarded = g; shows = x; act = a; opens = o; closes = c; option = n }

abbrev pub seconds : List SecondRow
seconds =
    second_line 0x30 true false true act.Load false true None
    ∷ second_line 0xe0 false false true act.Nothing false false None
    ∷ second_line 0x10 true true false act.Program false false None
    ∷ second_line 0xd0 true true false act.Erase false true None
    ∷ second_line 0x85 false false false act.Move false false None
    ∷ second_line 0x35 true false true act.Load true false (Some 4)
    ∷ []

abbrev pub second_place : Second → ℕ
second_place StartRead = 0
second_place StartOutput = 1
second_place StartProgram = 2
second_place StartErase = 3
second_place Move = 4
second_place StartCopyback = 5

abbrev pub second_commands : List Second
second_commands = StartRead ∷ StartOutput ∷ StartProgram ∷ StartErase ∷ Move ∷ StartCopyback ∷ []

unfoldable pub second_row : Second → SecondRow
second_row s =
    get_or seconds (second_place s) (second_line 0 false false false act.Nothing false false None)

abbrev pub second_byte : Second → ℕ
second_byte s = (second_row s).byte

abbrev pub second_in : List Second → ℕ → Option Second
second_in [] v = None
second_in (s ∷ ss) v = pick (eqb v (second_byte s)) (Some s) (second_in ss v)

unfoldable pub second_of : ℕ → Option Second
second_of v = second_in second_commands v

-- 35h is optional: optional bit 4
abbrev pub offered_second : Words → Option Second → Bool
offered_second w None = true
offered_second w (Some s) = offers w (second_row s).option

abbrev pub is_second_found : Option Second → Bool
is_second_found None = false
is_second_found (Some s) = true

-- the part has the command of this byte; while a sequence is open a byte of both lists is the second command
unfoldable pub offered : Words → Bool → ℕ → Bool
offered w inside v = offered_second w (second_of v) && (inside && is_second_found (second_of v) || offered_found w (first_of v))

-- The class of each byte.

abbrev pub is_in : ℕ → List ℕ → Bool
is_in v [] = false
is_in v (x ∷ xs) = eqb v x || is_in v xs

abbrev pub first_bytes : List ℕ
first_bytes = map byte_of first_commands

abbrev pub second_bytes : List ℕ
second_bytes = map second_byte second_commands

-- FFh
abbrev pub alone_bytes : List ℕ
alone_bytes = 0xff ∷ []

-- first, second, both, alone or unknown, by the two lists; optional bits don't count
unfoldable pub class_of : ℕ → Class
class_of v =
    pick (is_in v first_bytes && is_in v second_bytes) class.Both
    (pick (is_in v first_bytes) class.First
    (pick (is_in v second_bytes) class.Second
    (pick (is_in v alone_bytes) class.Alone
    class.Unknown)))

abbrev pub is_first : Class → Bool
is_first class.First = true
is_first class.Second = false
is_first class.Both = true
is_first class.Alone = false
is_first class.Unknown = false

abbrev pub is_known : Class → Bool
is_known class.First = true
is_known class.Second = true
is_known class.Both = true
is_known class.Alone = true
is_known class.Unknown = false
