-- The place reached (document 01, "Place"; document 02, A2): what the open sequence and the open output take next, and what is kept of
-- the output behind a status.
use Rattle.std.specs.Prelude.{ℕ, Bool, true, false, ◌&&◌, ◌||◌, eqb, None, Option, Some}
use Rattle.target.specs.Pick.{pick}
use Rattle.target.specs.Commands.{class_of, is_first, byte_of, first_of}
use Rattle.target.specs.Views.{taking, ending}
use Rattle.target.specs.declared.Sequence.{Sequence}
use Rattle.target.specs.declared.Sequence.TheVariants.{Idle, Columns, Rows, Single, Due, Filling, Moving, Setting}
use Rattle.target.specs.declared.First.TheVariants.{ChangeColumnInPage}
use Rattle.target.specs.declared.Decoder.{Decoder}
use Rattle.target.specs.declared.Output.{Output}
use Rattle.target.specs.declared.Output.TheVariants as output
use Rattle.target.specs.declared.views.Taker.{Taker}
use Rattle.target.specs.declared.views.Taker.TheVariants as takes
use Rattle.target.specs.declared.views.Ended.{Ended}
use Rattle.target.specs.declared.First.{First}

-- a sequence is open
abbrev pub is_open : Sequence → Bool
is_open Idle = false
is_open (Columns k) = true
is_open (Rows k) = true
is_open (Single f) = true
is_open (Due k) = true
is_open (Filling k) = true
is_open (Moving k) = true
is_open (Setting k) = true

abbrev pub is_ended : Option Ended → Bool
is_ended None = false
is_ended (Some k) = true

-- a command other than FFh fits: with no sequence open a first command, else the second one that the sequence waits for
abbrev pub command_fits : Sequence → ℕ → Bool
command_fits s v = pick (is_open s) (is_ended (ending s v)) (is_first (class_of v))

-- FFh fits everywhere
abbrev pub takes_command : Sequence → ℕ → Bool
takes_command s v = eqb v 0xff || command_fits s v

-- an address cycle fits
abbrev pub takes_address : Sequence → Bool
takes_address Idle = false
takes_address (Columns k) = true
takes_address (Rows k) = true
takes_address (Single f) = true
takes_address (Due k) = false
takes_address (Filling k) = false
takes_address (Moving k) = true
takes_address (Setting k) = false

abbrev pub is_taken : Option Taker → Bool
is_taken None = false
is_taken (Some (takes.Program k)) = true
is_taken (Some (takes.Feature k)) = true

-- a data-in cycle fits
abbrev pub takes_data : Sequence → Bool
takes_data s = is_taken (taking s)

-- 00h has come, and no address yet
abbrev pub is_bare : Sequence → Bool
is_bare Idle = false
is_bare (Columns k) = eqb (byte_of k.first) 0x00 && eqb k.got 0
is_bare (Rows k) = false
is_bare (Single f) = false
is_bare (Due k) = false
is_bare (Filling k) = false
is_bare (Moving k) = false
is_bare (Setting k) = false

-- what a data-out cycle gives: after a bare 00h the output that was kept, else the one that is open
abbrev pub put_out : Decoder → Output
put_out d = pick (is_bare d.sequence) d.kept d.output

-- the parameter page is put out
abbrev pub is_page : Output → Bool
is_page output.Nothing = false
is_page (output.Register l c) = false
is_page (output.Parameters at) = true
is_page (output.Status l) = false
is_page (output.Ids at) = false
is_page (output.Signature at) = false
is_page (output.Feature at) = false

-- a status is put out
abbrev pub shows_status : Output → Bool
shows_status output.Nothing = false
shows_status (output.Register l c) = false
shows_status (output.Parameters at) = false
shows_status (output.Status l) = true
shows_status (output.Ids at) = false
shows_status (output.Signature at) = false
shows_status (output.Feature at) = false

-- this LUN's page register is put out
abbrev pub is_register_of : ℕ → Output → Bool
is_register_of l output.Nothing = false
is_register_of l (output.Register x c) = eqb x l
is_register_of l (output.Parameters at) = false
is_register_of l (output.Status x) = false
is_register_of l (output.Ids at) = false
is_register_of l (output.Signature at) = false
is_register_of l (output.Feature at) = false

-- the first command that a byte is at this place: with the parameter page open, or kept behind a status, 05h moves within it
abbrev pub first_here : Decoder → ℕ → Option First
first_here d v = pick (eqb v 0x05 && (is_page d.output || is_page d.kept)) (Some ChangeColumnInPage) (first_of v)

-- a data-out cycle fits
abbrev pub has_output : Output → Bool
has_output output.Nothing = false
has_output (output.Register l c) = true
has_output (output.Parameters at) = true
has_output (output.Status l) = true
has_output (output.Ids at) = true
has_output (output.Signature at) = true
has_output (output.Feature at) = true
