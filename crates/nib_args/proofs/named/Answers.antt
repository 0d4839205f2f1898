-- The longest word: its bytes, one by one, are the word.
use Rattle.std.proofs.Common.{arith}
use Rattle.std.proofs.lemmas.Slice.Eq.{text_from_reads}
use Rattle.nib_args.specs.Asked.{explain_word}
use Rattle.nib_args.proofs.named.Goals as goal

pub returns-in-explain : goal.returns-in-explain
returns-in-explain c =
    let e = text_from_reads c.args.w.now explain_word (omega arith)
    (omega arith, (omega arith, (omega arith, (omega arith, (omega arith, (omega arith, (omega arith, tt))))))) in
    rw e
