-- Each whole job keeps to its LUN, from every decoder with no sequence open. The lemmas take the commands that open and
-- close a job as parameters and ask for their attributes: a job of another command is one more line of `job-alike`.
-- Assumes nothing.
use mathlib.Core.Path.{◌≡◌, refl, sym, ◌∙◌}
use mathlib.Core.Bool.{Bool, true, false, ◌&&◌, ◌||◌, not, false≢true}
use mathlib.Core.List.{List, [], ◌∷◌, ◌++◌}
use Prim.Native.Nat.{ℕ, zero, suc, ◌+◌}
use lib.ListN.{replicate}
use lib.Dec.{eqb}
use borrow.Author.Tests.{not-true}
use Rattle.target.specs.Pick.{pick}
use Rattle.target.specs.Address.{column_from, lun_of}
use Rattle.target.specs.Commands.{row_of, cycles_of, then_of, needs_ready, waits_for, takes_column, takes_row, in_page, first_of, second_row, second_of, class_of}
use Rattle.target.specs.Views.{asks_selected, ended_with, ended_by, ends_with, ending}
use Rattle.target.specs.Place.{takes_command}
use Rattle.target.specs.declared.Column.{Column}
use Rattle.target.specs.declared.Row.{Row}
use Rattle.target.specs.declared.Decoder.{Decoder}
use Rattle.target.specs.declared.Fill.{Fill}
use Rattle.target.specs.declared.Geometry.{Geometry}
use Rattle.target.specs.declared.RowCycles.{RowCycles}
use Rattle.target.specs.declared.Wait.{Wait}
use Rattle.target.specs.declared.First.{First}
use Rattle.target.specs.declared.First.TheVariants.{Read, ChangeColumnEnhanced, Erase, StatusEnhanced, Program, CopybackProgram}
use Rattle.target.specs.declared.Sequence.{Sequence}
use Rattle.target.specs.declared.Sequence.TheVariants.{Idle, Columns, Rows, Due, Filling}
use Rattle.target.specs.declared.Output.{Output}
use Rattle.target.specs.declared.Output.TheVariants as output
use Rattle.target.specs.declared.commands.Then.TheVariants as then
use Rattle.target.proofs.Both.{both, other}
use Rattle.target.proofs.Firsts.{each_first}
use Rattle.rules.specs.Rules.{fits}
use Rattle.effects.specs.Effects.{started, is_move, ended_sequence, followed, sequence_after, ended_place, ended_output, shown, advanced, output_after}
use Rattle.thm_kept.proofs.Choice.{by-pick}
use Rattle.jobs.specs.Cycles.{Cycle, command, data_out, ColumnBytes, RowBytes, two, three}
use Rattle.thm_stations.specs.Jobs.{event_of, whole_row, Piece, byte, move, pieces, Job, read, read_out, program, erase, status, copyback_read, copyback_program, cycles, lun_named}
use Rattle.thm_stations.proofs.Ties.{Quiet}
use Rattle.thm_stations.proofs.Course.{decoder, is_nobody, aimed, plain, plainly, EndedOf, GivenOf, TakerOf, OutputOf, CycleOf, Course, Spared, spared-address, spared-in, spared-out, spared-command, at-start, Alike}
use Rattle.std.specs.Prelude.{None, Option, Some}
use Rattle.target.specs.declared.views.Ended.{Ended}
use Rattle.target.specs.declared.Second.{Second}

-- v is the first command f, which has addresses, a row among them, and waits for no LUN
pub record Opens (v : ℕ) (f : First) : Type 0 where
  pub found : first_of v ≡ Some f
  pub no-reset : eqb v 0xff ≡ false
  pub no-page : eqb v 0x05 ≡ false
  pub is-aimed : aimed f ≡ true
  pub rowed : takes_row f ≡ true

pub opens : {v : ℕ} {f : First} → first_of v ≡ Some f → eqb v 0xff ≡ false → eqb v 0x05 ≡ false → aimed f ≡ true
    → takes_row f ≡ true → Opens v f
opens found no-reset no-page is-aimed rowed =
    record { found = found; no-reset = no-reset; no-page = no-page; is-aimed = is-aimed; rowed = rowed }

abbrev pub is_moved : Option Second → Bool
is_moved None = false
is_moved (Some s) = is_move (second_row s).act

-- v ends a sequence, and opens none
pub record Closes (v : ℕ) : Type 0 where
  pub is_plain : plain v ≡ true
  pub not_first : takes_command Idle v ≡ false
  pub no_move : is_moved (second_of v) ≡ false

pub closes : {v : ℕ} → plain v ≡ true → takes_command Idle v ≡ false → is_moved (second_of v) ≡ false → Closes v
closes is_plain not_first no_move = record { is_plain = is_plain; not_first = not_first; no_move = no_move }

none_of : (a : Bool) → (a && false) ≡ false
none_of true = refl
none_of false = refl

-- a command with a row asks nothing of the selected LUN
asks-nobody : (f : First) → takes_row f ≡ true → asks_selected f ≡ false
asks-nobody f row = rw row (none_of (needs_ready f))

-- nor has a column of the parameter page
row-test : (f : First) → (not (takes_row f) || not (in_page f)) ≡ true
unfolding row_of
row-test f = each_first (λ (x : First). not (takes_row x) || not (in_page x)) refl f

row-outside : (f : First) → takes_row f ≡ true → in_page f ≡ false
row-outside f row = not-true (in_page f) (other (not (takes_row f)) (not (in_page f)) (row-test f) (rw row))

-- what closes a sequence leaves none open
over-with : (x : Option Second) (f : First) (c : Column) (r : Row) → is_moved x ≡ false
    → ended_sequence (ended_with x f c r) ≡ Idle
over-with None f c r h = refl
over-with (Some s) f c r h = rw h

over : (b : Bool) (v : ℕ) (f : First) (c : Column) (r : Row) → is_moved (second_of v) ≡ false
    → ended_sequence (pick b (ended_by v f c r) None) ≡ Idle
over true v f c r h = over-with (second_of v) f c r h
over false v f c r h = refl

-- a program's data and moves, and the command that closes it
abbrev closed_by : ℕ → List Piece → List Cycle
closed_by last ps = pieces ps ++ (command last ∷ [])

module _ (g : Geometry) where
  -- a second command has the sequence's row
  ended-with : (x : Option Second) (f : First) (c : Column) (r : Row) → takes_row f ≡ true
      → EndedOf g (lun_of g r) (ended_with x f c r)
  unfolding EndedOf
  ended-with None f c r h = tt
  ended-with (Some s) f c r h = (h, refl)

  ended-pick : (b : Bool) (v : ℕ) (f : First) (c : Column) (r : Row) → takes_row f ≡ true
      → EndedOf g (lun_of g r) (pick b (ended_by v f c r) None)
  unfolding EndedOf
  ended-pick true v f c r h = ended-with (second_of v) f c r h
  ended-pick false v f c r h = tt

  -- and puts out that row's LUN
  ended-output : (l : ℕ) (x : Option Ended) → EndedOf g l x → OutputOf l (ended_output g l x)
  unfolding EndedOf OutputOf
  ended-output l None w = tt
  ended-output l (Some k) w =
      by-pick (OutputOf l) (second_row k.second).shows
      (ended_place g l k) output.Nothing (λ _. rw (row-outside k.first w.0, w.0) w.1) (λ _. tt)

  -- data out of what is the LUN's
  advanced-of : (l : ℕ) (o : Output) → OutputOf l o → OutputOf l (advanced o)
  unfolding OutputOf
  advanced-of l output.Nothing q = q
  advanced-of l (output.Register m c) q = q
  advanced-of l (output.Parameters at) q = q
  advanced-of l (output.Status m) q = q
  advanced-of l (output.Ids at) q = q
  advanced-of l (output.Signature at) q = q
  advanced-of l (output.Feature at) q = q

  outs-course : (l n : ℕ) (o : Output) → OutputOf l o → Course g l (replicate n data_out) Idle o
  unfolding Course CycleOf sequence_after output_after
  outs-course l zero o q = refl
  outs-course l (suc n) o q = ((refl, q), λ _. outs-course l n (advanced o) (advanced-of l o q))

  outs-spared : (l n : ℕ) → Spared g l (replicate n data_out)
  unfolding Spared
  outs-spared l zero = tt
  outs-spared l (suc n) = spared-out g l (replicate n data_out) (outs-spared l n)

  -- a second command, and data out
  second-spared : (l last n : ℕ) → Closes last → Spared g l (command last ∷ replicate n data_out)
  second-spared l last n k =
      spared-command g l (replicate n data_out) (outs-spared l n) last k.is_plain k.not_first

  closed-course : (l v n : ℕ) (s : Sequence) (o : Output) → plain v ≡ true → EndedOf g l (ending s v)
      → sequence_after (decoder s o) (event_of (command v)) ≡ Idle → OutputOf l (output_after g l (decoder s o) (event_of (command v)))
      → Course g l (command v ∷ replicate n data_out) s o
  unfolding Course CycleOf
  closed-course l v n s o known ends idle out =
      ((known, ends), λ _. rw idle (outs-course l n (output_after g l (decoder s o) (event_of (command v))) out))

  due-course : (w : Wait) (last n : ℕ) (o : Output) → takes_row w.first ≡ true → Closes last
      → Course g (lun_of g w.row) (command last ∷ replicate n data_out) (Due w) o
  unfolding sequence_after output_after
  due-course w last n o row k =
      let l = lun_of g w.row in
      let test = ends_with w.first last in
      let ends : EndedOf g l (ending (Due w) last) = ended-pick test last w.first w.column w.row row in
      let calm = (plainly last k.is_plain).no-reset in
      closed-course l last n (Due w) o k.is_plain ends
      (rw calm (over test last w.first w.column w.row k.no_move))
      (rw calm (ended-output l (ending (Due w) last) ends))

  -- the last command of a program
  last-course : (k : Fill) (last : ℕ) (o : Output) → takes_row k.first ≡ true → Closes last
      → Course g (lun_of g k.row) (command last ∷ []) (Filling k) o
  unfolding sequence_after output_after
  last-course k last o row h =
      let l = lun_of g k.row in
      let test = eqb last 0x10 || eqb last 0x85 in
      let ends : EndedOf g l (ending (Filling k) last) = ended-pick test last k.first k.at k.row row in
      let calm = (plainly last h.is_plain).no-reset in
      closed-course l last 0 (Filling k) o h.is_plain ends
      (rw calm (over test last k.first k.at k.row h.no_move))
      (rw calm (ended-output l (ending (Filling k) last) ends))

  -- data and moves before it
  pieces-course : (k : Fill) (last : ℕ) → takes_row k.first ≡ true → Closes last → (ps : List Piece) (o : Output)
      → Course g (lun_of g k.row) (closed_by last ps) (Filling k) o
  unfolding Course CycleOf EndedOf GivenOf TakerOf sequence_after output_after second_of second_row first_of row_of
  pieces-course k last row h [] o = last-course k last o row h
  pieces-course k last row h (byte v ∷ ps) o =
      (refl, λ _. pieces-course (record { first = k.first; row = k.row; at = record { 0 = k.at.0 + 1 } }) last row h ps o)
  pieces-course k last row h (move b ∷ ps) o =
      ((refl, (row, refl)), λ _. (tt, λ _. (refl, λ _. pieces-course _ last row h ps output.Nothing)))

  -- none of them fits where a row is due
  pieces-misfit : (l last : ℕ) → Closes last → (ps : List Piece) (k : RowCycles) (o : Output)
      → Course g l (closed_by last ps) (Rows k) o
  unfolding Course CycleOf EndedOf TakerOf fits first_of row_of
  pieces-misfit l last h [] k o =
      ((h.is_plain, tt), λ fit. absurd (false≢true (rw (plainly last h.is_plain).no-reset at fit)))
  pieces-misfit l last h (byte v ∷ ps) k o = (tt, λ fit. absurd (false≢true fit))
  pieces-misfit l last h (move b ∷ ps) k o = ((refl, tt), λ fit. absurd (false≢true fit))

  -- a move with no sequence open is a copyback's first command with its column; no row follows
  move-course : (l last : ℕ) → Closes last → (b : ColumnBytes) (ps : List Piece)
      → Course g l (command 0x85 ∷ two b (closed_by last ps)) Idle output.Nothing
  unfolding Course CycleOf EndedOf GivenOf sequence_after output_after first_of row_of
  move-course l last h b ps =
      ((refl, tt), λ _. (tt, λ _. (refl, λ _. pieces-misfit l last h ps _ output.Nothing)))

  spared-column : (l : ℕ) (c : ColumnBytes) (cs : List Cycle) → Spared g l cs → Spared g l (two c cs)
  spared-column l c cs h = spared-address g l _ (spared-address g l cs h c.high) c.low

  -- after a refusal no row completes, and the last command leaves nothing open
  pieces-spared : (l last : ℕ) → Closes last → (ps : List Piece) → Spared g l (closed_by last ps)
  unfolding Spared
  pieces-spared l last h [] = second-spared l last 0 h
  pieces-spared l last h (byte v ∷ ps) = spared-in g l (closed_by last ps) (pieces-spared l last h ps) v
  pieces-spared l last h (move b ∷ ps) =
      (move-course l last h b ps, spared-column l b (closed_by last ps) (pieces-spared l last h ps))

  -- a course behind the addresses of a first command
  abbrev Behind : First → Column → Row → List Cycle → Output → Type 0
  Behind f c r cs o = Course g (lun_of g r) cs (followed (then_of f) f c r) (shown (then_of f) (lun_of g r) 0 o)

  -- the addresses of any first command: its row, and the column before it
  row-course : (f : First) (c : Column) (r : RowBytes) (cs : List Cycle) (o : Output)
      → Behind f c (whole_row r) cs o
      → Course g (lun_of g (whole_row r)) (three r cs)
      (Rows (record { first = f; column = c; got = 0; low = 0; mid = 0 })) o
  unfolding Course CycleOf GivenOf sequence_after output_after
  row-course f c r cs o h = (tt, λ _. (tt, λ _. (refl, λ _. h)))

  column-course : (l : ℕ) (f : First) → takes_row f ≡ true → (c : ColumnBytes) (cs : List Cycle) (o : Output)
      → Course g l cs (Rows (record { first = f; column = column_from c.low c.high; got = 0; low = 0; mid = 0 })) o
      → Course g l (two c cs) (Columns (record { first = f; got = 0; low = 0 })) o
  unfolding Course CycleOf GivenOf sequence_after output_after
  column-course l f row c cs o h = (tt, λ _. (asks-nobody f row, λ _. rw row h))

  spared-row : (l : ℕ) (r : RowBytes) (cs : List Cycle) → Spared g l cs → Spared g l (three r cs)
  spared-row l r cs h =
      spared-address g l _ (spared-address g l _ (spared-address g l cs h r.high) r.mid) r.low

  -- the sequence that a first command opens, and no output
  opened-course : (l v : ℕ) (f : First) (cs : List Cycle) (o : Output) → Opens v f
      → Course g l cs (started f) output.Nothing
      → Course g l cs (sequence_after (decoder Idle o) (event_of (command v)))
      (output_after g l (decoder Idle o) (event_of (command v)))
  unfolding sequence_after output_after
  opened-course l v f cs o k h =
      let addresses = (both (is_nobody (waits_for f)) (not (eqb (cycles_of f) 0)) k.is-aimed).1 in
      rw (k.no-reset, k.no-page, k.found, not-true (eqb (cycles_of f) 0) addresses) h

  -- a job from its first command on, whatever was put out before
  begun : (l v : ℕ) (f : First) (cs : List Cycle) {d e : Decoder} → Opens v f → Quiet d → Quiet e
      → Course g l cs (started f) output.Nothing → Spared g l cs → Alike g l (command v ∷ cs) d e
  unfolding Course CycleOf EndedOf
  begun l v f cs {d} k p q course spared = record {
    sequence = p ∙ sym q;
    standing = at-start;
    course = rw p ((rw (k.no-reset, k.no-page, k.found) k.is-aimed, tt), λ _. opened-course l v f cs d.output k course);
    rest = spared;
  }

  module _ (v : ℕ) (f : First) (opens : Opens v f) (r : RowBytes) (cs : List Cycle) {d e : Decoder} (p : Quiet d) (q : Quiet e) (spared : Spared g (lun_of g (whole_row r)) cs) where
    -- a command with five address cycles, and one with three
    five : takes_column f ≡ true → (c : ColumnBytes)
        → Behind f (column_from c.low c.high) (whole_row r) cs output.Nothing
        → Alike g (lun_of g (whole_row r)) (command v ∷ two c (three r cs)) d e
    five column c h =
        let l = lun_of g (whole_row r) in
        let at = column_from c.low c.high in
        begun l v f (two c (three r cs)) opens p q
        (rw column
        (column-course l f opens.rowed c (three r cs) output.Nothing (row-course f at r cs output.Nothing h)))
        (spared-column l c (three r cs) (spared-row l r cs spared))

    three-only : takes_column f ≡ false
        → Behind f (record { 0 = 0 }) (whole_row r) cs output.Nothing
        → Alike g (lun_of g (whole_row r)) (command v ∷ three r cs) d e
    three-only column h =
        let l = lun_of g (whole_row r) in
        begun l v f (three r cs) opens p q
        (rw (column, opens.rowed) (row-course f (record { 0 = 0 }) r cs output.Nothing h))
        (spared-row l r cs spared)

  -- what follows the addresses: a second command and data out, a program's data, or data out of a status
  second-follows : (f : First) (c : Column) (r : Row) (last n : ℕ) → then_of f ≡ then.Second → takes_row f ≡ true
      → Closes last
      → Behind f c r (command last ∷ replicate n data_out) output.Nothing
  second-follows f c r last n then row k =
      rw then (due-course (record { first = f; column = c; row = r }) last n output.Nothing row k)

  data-follows : (f : First) (c : Column) (r : Row) (last : ℕ) (ps : List Piece) → then_of f ≡ then.Data → takes_row f ≡ true
      → Closes last
      → Behind f c r (closed_by last ps) output.Nothing
  data-follows f c r last ps then row k = rw then (pieces-course _ last row k ps output.Nothing)

  status-of : (l : ℕ) → OutputOf l (output.Status l)
  unfolding OutputOf
  status-of l = refl

  status-follows : (f : First) (c : Column) (r : Row) (n : ℕ) → then_of f ≡ then.Status
      → Behind f c r (replicate n data_out) output.Nothing
  status-follows f c r n then = rw then (outs-course (lun_of g r) n (output.Status (lun_of g r)) (status-of (lun_of g r)))

  -- The jobs, by the commands that open and close them.

  -- a command with column and row, its second command, and data out
  pub five-second : (v last : ℕ) (f : First) → Opens v f → takes_column f ≡ true → then_of f ≡ then.Second → Closes last
      → (c : ColumnBytes) (r : RowBytes) (n : ℕ) {d e : Decoder} → Quiet d → Quiet e
      → Alike g (lun_of g (whole_row r)) (command v ∷ two c (three r (command last ∷ replicate n data_out))) d e
  five-second v last f k column then z c r n p q =
      five v f k r (command last ∷ replicate n data_out) p q (second-spared (lun_of g (whole_row r)) last n z) column c
      (second-follows f (column_from c.low c.high) (whole_row r) last n then k.rowed z)

  -- a command with a row alone, and its second command
  pub three-second : (v last : ℕ) (f : First) → Opens v f → takes_column f ≡ false → then_of f ≡ then.Second → Closes last
      → (r : RowBytes) {d e : Decoder} → Quiet d → Quiet e
      → Alike g (lun_of g (whole_row r)) (command v ∷ three r (command last ∷ [])) d e
  three-second v last f k column then z r p q =
      three-only v f k r (command last ∷ []) p q (second-spared (lun_of g (whole_row r)) last 0 z) column
      (second-follows f (record { 0 = 0 }) (whole_row r) last 0 then k.rowed z)

  -- a program: column and row, data and moves, its last command
  pub five-data : (v last : ℕ) (f : First) → Opens v f → takes_column f ≡ true → then_of f ≡ then.Data → Closes last
      → (c : ColumnBytes) (r : RowBytes) (ps : List Piece) {d e : Decoder} → Quiet d → Quiet e
      → Alike g (lun_of g (whole_row r)) (command v ∷ two c (three r (closed_by last ps))) d e
  five-data v last f k column then z c r ps p q =
      five v f k r (closed_by last ps) p q (pieces-spared (lun_of g (whole_row r)) last z ps) column c
      (data-follows f (column_from c.low c.high) (whole_row r) last ps then k.rowed z)

  -- a status: a row, and data out
  pub three-status : (v : ℕ) (f : First) → Opens v f → takes_column f ≡ false → then_of f ≡ then.Status
      → (r : RowBytes) (n : ℕ) {d e : Decoder} → Quiet d → Quiet e
      → Alike g (lun_of g (whole_row r)) (command v ∷ three r (replicate n data_out)) d e
  three-status v f k column then r n p q =
      three-only v f k r (replicate n data_out) p q (outs-spared (lun_of g (whole_row r)) n) column
      (status-follows f (record { 0 = 0 }) (whole_row r) n then)

-- each job's commands have these attributes
pub job-alike : (g : Geometry) (j : Job) {d e : Decoder} → Quiet d → Quiet e → Alike g (lun_named g j) (cycles j) d e
unfolding cycles row_of first_of second_row second_of class_of
job-alike g (read c r) p q =
    five-second g _ _ Read (opens refl refl refl refl refl) refl refl (closes refl refl refl) c r 0 p q
job-alike g (read_out c r n) p q =
    five-second g _ _ ChangeColumnEnhanced (opens refl refl refl refl refl) refl refl (closes refl refl refl) c r n p q
job-alike g (program c r ps) p q =
    five-data g _ _ Program (opens refl refl refl refl refl) refl refl (closes refl refl refl) c r ps p q
job-alike g (erase r) p q = three-second g _ _ Erase (opens refl refl refl refl refl) refl refl (closes refl refl refl) r p q
job-alike g (status r n) p q = three-status g _ StatusEnhanced (opens refl refl refl refl refl) refl refl r n p q
job-alike g (copyback_read c r) p q =
    five-second g _ _ Read (opens refl refl refl refl refl) refl refl (closes refl refl refl) c r 0 p q
job-alike g (copyback_program c r ps) p q =
    five-data g _ _ CopybackProgram (opens refl refl refl refl refl) refl refl (closes refl refl refl) c r ps p q
