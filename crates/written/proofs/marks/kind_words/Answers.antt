-- `written::marks::kind_words` meets its contract.
use Rattle.written.proofs.Marked.{kind_made}
use Rattle.written.proofs.marks.kind_words.Goals as goal

pub returns : goal.returns
returns c =
    kind_made _ _ c.dims_at.ensures c.words_of-exponents.ensures.bits_value c.mark_words-marks.ensures c.copy_from_slice.ensures.after c.copy_from_slice-2.ensures.after
