-- `written::links::list_links` meets its contract.
use Prim.Native.Nat.{◌+◌}
use mathlib.Core.Path.{◌≡◌, refl, sym, ap, ◌∙◌}
use native.Mathlib.Omega.{arith}
use lib.ListN.{length, length-set}
use Rattle.laws.specs.Ranges.{tab}
use Rattle.laws.proofs.Tab.{length_tab}
use Rattle.written.specs.Shown.{link_of}
use Rattle.written.proofs.Listed.{partly, none_listed, listed_below, same_by, put_difference, put_target, put_named, put_rate, keep_named, keep_rate}
use Rattle.written.proofs.links.list_links.Goals as goal
use Rattle.written.proofs.links.list_links.Goals.{in-Some, in_default, in-Some-target, in_default-target}

pub loop-k-init : goal.loop-k-init
loop-k-init c = (refl, c.requires.links_value ∙ none_listed _ _)

pub bounds-links-j : goal.bounds-links-j
bounds-links-j c =
    let l = listed_below _ (length c.args.links.now) _ c.requires.image_bound c.link-difference.ensures c.in-Some.is in
    rw c.from-j.ensures (simp length-set (rw c.loop-k.invariant.0 l))

pub bounds-links-j-in-Some : goal.bounds-links-j-in-Some
bounds-links-j-in-Some c =
    let l = listed_below _ (length c.args.links.now) _ c.requires.image_bound c.link-difference.ensures c.in-Some.is in
    rw c.from-j.ensures (simp length-set (rw c.loop-k.invariant.0 l))

pub bounds-links-j-in-Some-target : goal.bounds-links-j-in-Some-target
bounds-links-j-in-Some-target c =
    let l = listed_below _ (length c.args.links.now) _ c.requires.image_bound c.link-target.ensures c.in-Some-target.is in
    let e : length c.match-difference.links ≡ length c.args.links.now = elim c.match-difference.branch [
      | in-Some w ↦ ap length w.links-is ∙ simp length-set c.loop-k.invariant.0
      | in_default w ↦ ap length w.links-is ∙ simp length-set c.loop-k.invariant.0
    ] in
    rw c.from-j-in-Some-target.ensures (rw e l)

pub bounds-links-j-in-Some-target-2 : goal.bounds-links-j-in-Some-target-2
bounds-links-j-in-Some-target-2 c =
    let l = listed_below _ (length c.args.links.now) _ c.requires.image_bound c.link-target.ensures c.in-Some-target.is in
    let e : length c.match-difference.links ≡ length c.args.links.now = elim c.match-difference.branch [
      | in-Some w ↦ ap length w.links-is ∙ simp length-set c.loop-k.invariant.0
      | in_default w ↦ ap length w.links-is ∙ simp length-set c.loop-k.invariant.0
    ] in
    rw c.from-j-in-Some-target.ensures (rw e l)

pub loop-k-preserved : goal.loop-k-preserved
unfolding link_of
loop-k-preserved c =
    let s = c.args.keyed.image.now in
    let k = c.loop-k.k in
    let r = length c.args.links.now in
    let d : c.link-difference.result ≡ link_of s 32 k = c.link-difference.ensures ∙ rw c.kind_place-p.ensures in
    let g : c.link-target.result ≡ link_of s 64 k = c.link-target.ensures ∙ rw c.kind_place-p.ensures in
    let e = put_target s r k (omega arith) (put_difference s r k (omega arith) (c.loop-k.invariant.1 ∙ same_by s r k) d) g in
    let m : c.match-difference.links ≡ tab (partly s r (k + 1) (k + 1) (k + 1) k) r = elim c.match-difference.branch [
      | in-Some w ↦ (rw (w.from-j.ensures, c.from-i.ensures) at w.links-is) ∙ put_named s r k w.in-Some.d (listed_below _ _ _ c.requires.image_bound c.link-difference.ensures w.in-Some.is) e (sym d ∙ w.in-Some.is) (rw (w.from-j.ensures, c.from-i.ensures) at w.or.ensures)
      | in_default w ↦ (rw c.from-i.ensures at w.links-is) ∙ e ∙ keep_named s r k (sym d ∙ w.in_default.is)
    ] in
    let n : c.match-target.links ≡ tab (partly s r (k + 1) (k + 1) (k + 1) (k + 1)) r = elim c.match-target.branch [
      | in-Some-target w ↦ (rw w.from-j-in-Some-target.ensures at w.links-is) ∙ put_rate s r k w.in-Some-target.g (listed_below _ _ _ c.requires.image_bound c.link-target.ensures w.in-Some-target.is) m (sym g ∙ w.in-Some-target.is) (rw w.from-j-in-Some-target.ensures at w.or-in-Some-target.ensures)
      | in_default-target w ↦ w.links-is ∙ m ∙ keep_rate s r k (sym g ∙ w.in_default-target.is)
    ] in
    let e₁ = n ∙ sym (same_by s r (k + 1)) in
    (ap length e₁ ∙ length_tab _ r, e₁)
