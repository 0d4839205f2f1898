-- The record's parts as plain numbers, and back.
use Rattle.std.specs.Prelude.{ℕ, Bool, true, false, ◌&&◌, List, [], ◌∷◌, get_or, eqb, leb}
use Rattle.target.specs.Pick.{pick}
use Rattle.target.specs.Commands.{place_of, first_commands}
use Rattle.target.specs.Luns.{works, failed, copyback_at, blank_at}
use Rattle.target.specs.declared.Lun.{Lun}
use Rattle.target.specs.declared.First.{First}
use Rattle.target.specs.declared.First.TheVariants as first
use Rattle.target.specs.declared.Sequence.{Sequence}
use Rattle.target.specs.declared.Sequence.TheVariants.{Idle, Columns, Rows, Single, Due, Filling, Moving, Setting}
use Rattle.target.specs.declared.Output.{Output}
use Rattle.target.specs.declared.Output.TheVariants as output
use Rattle.host.specs.declared.numbers.Cycles.{Cycles}
use Rattle.host.specs.declared.numbers.Place.{Place}

-- a mark is 1 or 0
abbrev pub mark_byte : Bool → ℕ
mark_byte true = 1
mark_byte false = 0

abbrev pub is_set : ℕ → Bool
is_set n = eqb n 1

-- the first command at a place of the command list; a number past its end is read as the first, and then the numbers are not
-- what it packs to
abbrev pub first_at : ℕ → First
first_at n = get_or first_commands n first.Read

-- the open sequence, its first command by its place in the list; what a sequence has not is 0
abbrev pub cycles_of : Sequence → Cycles
cycles_of Idle = record { kind = 0; first = 0; got = 0; low = 0; mid = 0; value = 0; column = 0; row = 0 }
cycles_of (Columns k) =
    record { kind = 1; first = place_of k.first; got = k.got; low = k.low; mid = 0; value = 0; column = 0; row = 0 }
cycles_of (Rows k) =
    record { kind = 2; first = place_of k.first; got = k.got; low = k.low; mid = k.mid; value = 0; column = k.column.0; row = 0 }
cycles_of (Single f) = record { kind = 3; first = place_of f; got = 0; low = 0; mid = 0; value = 0; column = 0; row = 0 }
cycles_of (Due k) =
    record { kind = 4; first = place_of k.first; got = 0; low = 0; mid = 0; value = 0; column = k.column.0; row = k.row.0 }
cycles_of (Filling k) =
    record { kind = 5; first = place_of k.first; got = 0; low = 0; mid = 0; value = 0; column = k.at.0; row = k.row.0 }
cycles_of (Moving k) =
    record { kind = 6; first = place_of k.first; got = k.got; low = k.low; mid = 0; value = 0; column = 0; row = k.row.0 }
cycles_of (Setting k) = record { kind = 7; first = 0; got = k.got; low = 0; mid = 0; value = k.value; column = 0; row = 0 }

-- back; a kind above 7 is read as no sequence, and then the numbers are not what it packs to
abbrev pub sequence_of : Cycles → Sequence
sequence_of c =
    pick (eqb c.kind 1) (Columns (record { first = first_at c.first; got = c.got; low = c.low }))
    (pick (eqb c.kind 2)
    (Rows (record { first = first_at c.first; column = record { 0 = c.column }; got = c.got; low = c.low; mid = c.mid }))
    (pick (eqb c.kind 3) (Single (first_at c.first))
    (pick (eqb c.kind 4) (Due (record { first = first_at c.first; column = record { 0 = c.column }; row = record { 0 = c.row } }))
    (pick (eqb c.kind 5) (Filling (record { first = first_at c.first; row = record { 0 = c.row }; at = record { 0 = c.column } }))
    (pick (eqb c.kind 6) (Moving (record { first = first_at c.first; row = record { 0 = c.row }; got = c.got; low = c.low }))
    (pick (eqb c.kind 7) (Setting (record { got = c.got; value = c.value })) Idle))))))

-- the output; what it has not is 0
abbrev pub output_place : Output → Place
output_place output.Nothing = record { kind = 0; lun = 0; at = 0 }
output_place (output.Register l c) = record { kind = 1; lun = l; at = c.0 }
output_place (output.Parameters at) = record { kind = 2; lun = 0; at = at }
output_place (output.Status l) = record { kind = 3; lun = l; at = 0 }
output_place (output.Ids at) = record { kind = 4; lun = 0; at = at }
output_place (output.Signature at) = record { kind = 5; lun = 0; at = at }
output_place (output.Feature at) = record { kind = 6; lun = 0; at = at }

abbrev pub output_of : Place → Output
output_of p =
    pick (eqb p.kind 1) (output.Register p.lun (record { 0 = p.at }))
    (pick (eqb p.kind 2) (output.Parameters p.at)
    (pick (eqb p.kind 3) (output.Status p.lun)
    (pick (eqb p.kind 4) (output.Ids p.at)
    (pick (eqb p.kind 5) (output.Signature p.at)
    (pick (eqb p.kind 6) (output.Feature p.at) output.Nothing)))))

-- the marks of the four LUN records, and their numbers of blank blocks
abbrev pub lun_of : ℕ → ℕ → ℕ → ℕ → Lun
lun_of working fail copyback blank =
    record { working = is_set working; fail = is_set fail; copyback = is_set copyback; blank = blank }

abbrev pub luns_of : List ℕ → List ℕ → List ℕ → List ℕ → List Lun
luns_of w f c b =
    lun_of (get_or w 0 0) (get_or f 0 0) (get_or c 0 0) (get_or b 0 0) ∷ lun_of (get_or w 1 0) (get_or f 1 0) (get_or c 1 0) (get_or b 1 0)
    ∷ lun_of (get_or w 2 0) (get_or f 2 0) (get_or c 2 0) (get_or b 2 0) ∷ lun_of (get_or w 3 0) (get_or f 3 0) (get_or c 3 0) (get_or b 3 0) ∷ []

abbrev pub working_of : List Lun → List ℕ
working_of luns =
    mark_byte (works luns 0) ∷ mark_byte (works luns 1) ∷ mark_byte (works luns 2) ∷ mark_byte (works luns 3) ∷ []

abbrev pub fail_of : List Lun → List ℕ
fail_of luns =
    mark_byte (failed luns 0) ∷ mark_byte (failed luns 1) ∷ mark_byte (failed luns 2) ∷ mark_byte (failed luns 3) ∷ []

abbrev pub copyback_of : List Lun → List ℕ
copyback_of luns =
    mark_byte (copyback_at luns 0) ∷ mark_byte (copyback_at luns 1) ∷ mark_byte (copyback_at luns 2)
    ∷ mark_byte (copyback_at luns 3) ∷ []

abbrev pub blank_of : List Lun → List ℕ
blank_of luns = blank_at luns 0 ∷ blank_at luns 1 ∷ blank_at luns 2 ∷ blank_at luns 3 ∷ []

-- the same numbers
unfoldable pub same_cycles : Cycles → Cycles → Bool
same_cycles a b =
    eqb a.kind b.kind
    && eqb a.first b.first
    && eqb a.got b.got
    && eqb a.low b.low
    && eqb a.mid b.mid
    && eqb a.value b.value
    && eqb a.column b.column
    && eqb a.row b.row

unfoldable pub same_place : Place → Place → Bool
same_place a b = eqb a.kind b.kind && eqb a.lun b.lun && eqb a.at b.at

-- four bytes, each 0 or 1
unfoldable pub four_marks : List ℕ → Bool
four_marks m = leb (get_or m 0 0) 1 && leb (get_or m 1 0) 1 && leb (get_or m 2 0) 1 && leb (get_or m 3 0) 1
