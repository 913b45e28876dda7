-- `written::whole::front_words` meets its contract.
use mathlib.Core.Path.{refl}
use Rattle.written.proofs.Parts.{front_made}
use Rattle.written.proofs.whole.front_words.Goals as goal

pub returns : goal.returns
returns c =
    front_made c.args.keyed.image.now c.args.t.now c.args.used c.args.keyed.few c.requires.used_value c.head_words-head.ensures refl c.copy_from_slice.ensures.after refl c.copy_from_slice-2.ensures.after c.kinds_words.ensures
