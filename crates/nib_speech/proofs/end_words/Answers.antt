-- `nib_speech::end_words`: one after the other.
use Rattle.std.proofs.Common.{◌≡◌, ℕ}
use Rattle.nib_text.specs.declared.writing.Writing.{Writing}
use Rattle.nib_text.specs.declared.writing.Wrote.{Wrote}
use Rattle.nib_text.specs.declared.writing.Piece.{Piece}
use Rattle.nib_text.specs.Writing.{wrote_odd, wrote_end}
use Rattle.nib_words.specs.declared.desk.Desk.{Desk}
use Rattle.nib_words.specs.Desk.{Writes}
use Rattle.nib_words.proofs.Desks.{and_then}
use Rattle.nib_speech.specs.Speech.{writing_of}
use Rattle.nib_speech.specs.Pieces.{piece_words, end_words}
use Rattle.nib_speech.proofs.end_words.Goals as goal

ends : (d0 d1 d2 : Desk) (state : ℕ) (w : Writing) (x : Wrote) (p : Piece) → w ≡ writing_of state → x ≡ wrote_odd w → p ≡ wrote_end x.writing
    → Writes d0 d1 (piece_words x.piece) → Writes d1 d2 (piece_words p) → Writes d0 d2 (end_words state)
ends d0 d1 d2 state w x p e f g h k =
    let h2 : Writes d0 d1 (piece_words (wrote_odd (writing_of state)).piece) = rw (f, e) at h in
    let k2 : Writes d1 d2 (piece_words (wrote_end (wrote_odd (writing_of state)).writing)) = rw (g, f, e) at k in
    and_then h2 k2

pub returns : goal.returns
returns c =
    ends _ _ _ _ _ _ _ c.writing_of.ensures c.wrote_odd-wrote.ensures c.wrote_end.ensures c.piece_words.ensures c.piece_words-2.ensures
