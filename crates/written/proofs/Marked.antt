-- A kind's marks and words, by its links. Assumes nothing.
use Prim.Native.Nat.{ℕ, zero, suc, ◌/◌, ◌<◌, ◌≤◌}
use mathlib.Core.Path.{◌≡◌, refl, sym, ◌∙◌, ap}
use mathlib.Core.List.{List, [], ◌∷◌}
use native.Mathlib.Omega.{arith}
use lib.ListN.{length, get_or, take, replicate, length-append}
use borrow.Rule.Slice.PartMut.{put_mid}
use Rattle.std.proofs.lemmas.Slice.{put_mid-paste}
use lib.Seq.{take_all}
use Rattle.laws.specs.Options.{found}
use Rattle.dimension.specs.Fraction as F
use Rattle.dimension.specs.Dimension as D
use Rattle.dimension.specs.declared.rational.Rational.{Rational}
use Rattle.dimension.specs.declared.dimensions.Dimensions.{Dimensions}
use Rattle.rules.specs.Catalog.{Kind, kind_at, kind_from}
use Rattle.rules.specs.Table.{exponent_word}
use Rattle.laws.proofs.Tab.{length_tab}
use Rattle.table.specs.Shown.{exponents_of}
use Rattle.written.specs.declared.links.Links.{Links}
use Rattle.written.specs.Shown.{marks_by, kind_by, kind_in, no_links}
use Rattle.written.proofs.Pasted.{two_parts}

-- ---- an exponent read from an array, whatever stands for one past its end
get_d_any : (l : List Rational) (i : ℕ) (y z : Rational) → i < length l → get_or l i y ≡ get_or l i z
get_d_any [] i y z h = absurd (omega arith)
get_d_any (x ∷ l) zero y z h = refl
get_d_any (x ∷ l) (suc i) y z h = get_d_any l i y z (omega arith)

pub exponent_at_law : (d : Dimensions) (i : ℕ) (x z : Rational) {v : ℕ} → length d.powers ≡ 12 → i < 24 → x ≡ get_or d.powers (i / 2) z → v ≡ exponent_word x i → v ≡ exponent_word (D.exponent d (i / 2)) i
exponent_at_law d i x z l h q e = rw (get_d_any d.powers (i / 2) F.zero z (omega arith), ← q) e

-- ---- the 32 words of a kind
pub exponents_length : (d : Dimensions) → length (exponents_of d) ≡ 24
unfolding exponents_of
exponents_length d = length_tab (λ i. exponent_word (D.exponent d (i / 2)) i) 24

pub marks_length : (x : Kind) (ls : Links) → length (marks_by x ls) ≡ 8
unfolding marks_by
marks_length x ls = refl

pub kind_length : (x : Kind) (ls : Links) → length (kind_by x ls) ≡ 32
unfolding kind_by
kind_length x ls =
    length-append (exponents_of (found x.dims (λ e. e) D.one)) (marks_by x ls)
    ∙ omega (arith, exponents_length (found x.dims (λ e. e) D.one), marks_length x ls)

-- put together from both
pub kind_made : (x : Kind) (ls : Links) {a b y z : List ℕ} {e : Dimensions} → e ≡ found x.dims (λ g. g) D.one → a ≡ exponents_of e → b ≡ marks_by x ls → y ≡ a → z ≡ b → put_mid 24 8 (put_mid 0 24 (replicate 32 0) y) z ≡ kind_by x ls
unfolding kind_by
kind_made x ls {a} {b} {y} {z} {e} i j k p q =
    let l : length a ≡ 24 = ap length j ∙ exponents_length e in
    let m : length b ≡ 8 = ap length k ∙ marks_length x ls in
    let u = put_mid 0 24 (replicate 32 0) y in
    two_parts a b 24 8 (put_mid-paste 0 24 (replicate 32 0) y a 24 p refl (sym l)) (put_mid-paste 24 8 u z b 8 q refl (sym m)) l m ∙ rw (j, i, k)

-- kind k of those at the list's links
pub kind_listed : (s : List ℕ) (ls : List Links) (k : ℕ) {p : ℕ} {w : List ℕ} → p ≡ kind_at k → w ≡ kind_by (kind_from s p) (get_or ls k no_links) → (32 ≤ length w) × (take 32 w ≡ kind_in s ls k)
unfolding kind_in
kind_listed s ls k {p} {w} e q =
    let l : length w ≡ 32 = ap length q ∙ kind_length (kind_from s p) (get_or ls k no_links) in
    (omega arith, take_all 32 w (omega arith) ∙ q ∙ rw e)
