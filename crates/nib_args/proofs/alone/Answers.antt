-- The two long words: their bytes, one by one, are the word.
use Rattle.std.proofs.Common.{arith}
use Rattle.std.proofs.lemmas.Slice.Eq.{text_from_reads}
use Rattle.nib_args.specs.Asked.{version_word, help_flag}
use Rattle.nib_args.proofs.alone.Goals as goal

pub returns-in-version : goal.returns-in-version
returns-in-version c =
    let e = text_from_reads c.args.w.now version_word (omega arith)
    (omega arith, (omega arith, (omega arith, (omega arith, (omega arith, (omega arith, (omega arith, tt))))))) in
    rw e

pub returns-in-help-2 : goal.returns-in-help-2
returns-in-help-2 c =
    let e = text_from_reads c.args.w.now help_flag (omega arith)
    (omega arith, (omega arith, (omega arith, (omega arith, (omega arith, (omega arith, tt)))))) in
    rw e
