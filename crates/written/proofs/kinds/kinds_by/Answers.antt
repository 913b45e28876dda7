use borrow.Author.Rules.{rules}
use Prim.Native.Nat.{◌+◌, ◌-◌, ◌*◌}
use mathlib.Core.Path.{refl}
use native.Mathlib.Omega.{arith}
use lib.ListN.{length}
use Rattle.std.proofs.lemmas.Slice.{put_mid-paste}
use Rattle.written.proofs.Pasted.{appends, flat_turn}
use Rattle.written.proofs.Marked.{kind_listed}
use Rattle.written.proofs.kinds.kinds_by.Goals as goal

pub loop-k-init : goal.loop-k-init
loop-k-init c = (refl, search (appends, rules), search (appends, rules))

pub loop-k-preserved : goal.loop-k-preserved
loop-k-preserved c =
    let l = c.loop-k in
    let a = c.args in
    let w = c.kind_words-w.result in
    let k = kind_listed a.image.now a.links.now l.k c.kind_place.ensures (rw c.from-i.ensures at c.kind_words-w.ensures) in
    let p = put_mid-paste (32 * l.k) (32 * l.k + 32 - 32 * l.k) l.t c.copy_from_slice.new.self w 32 c.copy_from_slice.ensures.after (omega arith) (omega arith) in
    let t = flat_turn _ l.k (32 * l.k) 32 (length a.t.now) _ w p l.invariant.2 l.invariant.1 l.invariant.0 (omega (arith, c.requires.n_in_bounds)) k.0 k.1 in
    rw c.from-i.ensures (t.0, omega (arith, t.1), t.2)
