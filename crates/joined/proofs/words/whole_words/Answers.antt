use Prim.Native.Nat.{◌<◌}
use mathlib.Core.Path.{refl, sym, ◌∙◌, ap}
use lib.ListN.{length-set}
use native.Mathlib.Omega.{arith}
use Rattle.laws.specs.Ranges.{tab}
use Rattle.laws.proofs.Tab.{tab_at, length_tab}
use Rattle.dimension.specs.Integer as I
use Rattle.dimension.specs.Fraction as F
use Rattle.dimension.specs.Dimension as D
use Rattle.table.proofs.ExponentsInWords.{words_none, words_next, words_end}
use Rattle.joined.proofs.Sums.{joined_at, bits_are, joined_is}
use Rattle.joined.proofs.words.whole_words.Goals as goal

pub loop-i-init : goal.loop-i-init
loop-i-init c = (refl, words_none _ (tab (joined_at c.args.a.words.now c.args.b.words.now c.args.div) 12))

pub loop-i-preserved : goal.loop-i-preserved
loop-i-preserved c =
    let l = c.loop-i in
    let a = c.args.a in
    let b = c.args.b in
    let f = joined_at a.words.now b.words.now c.args.div in
    let h : l.i < 12 = c.loop-i-test.true in
    let n = bits_are a.words.now b.words.now a.bits b.bits a.whole b.whole l.i h c.args.div in (
      simp length-set l.invariant.0,
      words_next l.w l.i _ 1 l.invariant.0 h (tab f 12) (f l.i) F.zero (length_tab f 12) (sym (tab_at f 12 l.i F.zero h)) (ap (I.twos 2147483648) c.word_by.ensures ∙ n) refl l.invariant.1,
    )

pub returns-clause-words_value : goal.returns-clause-words_value
returns-clause-words_value c =
    let l = c.loop-i in
    let a = c.args.a in
    let b = c.args.b in
    let f = joined_at a.words.now b.words.now c.args.div in
    let d = joined_is a.words.now b.words.now a.bits b.bits a.whole b.whole c.args.div in
    words_end _ l.i (D.dimensions (tab f 12)) (length_tab f 12) (omega arith) (omega arith) l.invariant.1 ∙ sym d
