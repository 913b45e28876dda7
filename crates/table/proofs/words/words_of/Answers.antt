use mathlib.Core.Path.{◌≡◌, refl}
use lib.ListN.{length, length-set}
use native.Mathlib.Omega.{arith}
use Rattle.table.proofs.ExponentsInWords.{words_none, words_next, words_end, bits_none, bits_next, bits_end}
use Rattle.table.proofs.words.words_of.Goals as goal

pub loop-b-init : goal.loop-b-init
loop-b-init c = (refl, words_none _ c.args.d.powers, bits_none c.args.d)

pub loop-b-preserved : goal.loop-b-preserved
loop-b-preserved c =
    let twelve : length c.args.d.powers ≡ 12 = omega arith in
    let l = c.loop-b in (
      simp length-set l.invariant.0,
      words_next l.w l.b _ _ l.invariant.0 (omega arith) _ _ _ twelve refl c.num_word.ensures refl l.invariant.1,
      bits_next _ l.w l.b _ _ _ _ l.invariant.0 (omega arith) twelve refl (omega arith) c.num_word.ensures refl l.invariant.2,
    )

pub returns-clause-words_value : goal.returns-clause-words_value
returns-clause-words_value c =
    let twelve : length c.args.d.powers ≡ 12 = omega arith in
    words_end _ c.loop-b.b _ twelve (omega arith) (omega arith) c.loop-b.invariant.1

pub returns-clause-bits_value : goal.returns-clause-bits_value
returns-clause-bits_value c = bits_end _ _ c.loop-b.b c.loop-b.invariant.0 (omega arith) (omega arith) c.loop-b.invariant.2
