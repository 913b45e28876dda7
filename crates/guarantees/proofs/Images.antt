-- From two images that compile to demand 3. Assumes nothing.
use Prim.Native.Nat.{ℕ}
use mathlib.Core.Path.{◌≡◌, refl, sym, ◌∙◌, ap, subst, fun_ext}
use mathlib.Core.Bool.{Bool, true, false}
use mathlib.Core.List.{List}
use lib.Dec.{ltb}
use borrow.Author.Tests.{ltb-true, ltb-false}
use Rattle.laws.specs.Out.{given}
use Rattle.rules.specs.Kinds.{Kinds}
use Rattle.rules.specs.Catalog.{Catalog, catalog_in, find, link, rate_among, names, covers, kinds_of, rows_of}
use Rattle.rules.specs.Compile.{Compiled}
use Rattle.rules.specs.Image.{compile_image}
use Rattle.rules.specs.Formula.{Token}
use Rattle.guarantees.specs.Larger.{Extends}
use Rattle.guarantees.specs.Premises.{Guaranteed, Scalars, Premises}
use Rattle.guarantees.specs.Demand3.{Demand3}
use Rattle.guarantees.specs.Images.{Bytes, SameKinds, MoreRows, Repeats}
use Rattle.guarantees.proofs.KindRules.{Quiet}
use Rattle.guarantees.proofs.Compiles.{Passed, compiled_of, compile_tells, guaranteed, extends}
use Rattle.guarantees.proofs.Laid.{image_tells}
use Rattle.guarantees.proofs.Declares.{quiet, grades, exponents}
use Rattle.guarantees.proofs.Shown.{demand3}

-- ---- the same kinds: only the rows may differ
module _ (S L : Catalog) (same : SameKinds S L) (q : Quiet S) (r : Quiet L) where
  -- the kinds of S with the rows of L
  abbrev mixed : Catalog
  mixed = record { kind_count = S.kind_count; kind = S.kind; dimensionless = S.dimensionless; time = S.time; row_count = L.row_count; row = L.row }

  kinds_same : S.kind ≡ L.kind
  kinds_same = fun_ext (λ k. go k (ltb k S.kind_count) refl)
    where
      go : (k : ℕ) (t : Bool) → ltb k S.kind_count ≡ t → S.kind k ≡ L.kind k
      go k true p = same.kind k (ltb-true k S.kind_count p)
      go k false p = let h = ltb-false k S.kind_count p in q k h ∙ sym (r k (rw same.count at h))

  mixed_same : mixed ≡ L
  mixed_same i = record {
    kind_count = same.count i;
    kind = kinds_same i;
    dimensionless = same.dimensionless i;
    time = same.time i;
    row_count = L.row_count;
    row = L.row;
  }

  kinds_mixed : kinds_of S ≡ kinds_of mixed
  unfolding kinds_of link find rate_among
  kinds_mixed = refl

  pub same_kinds : kinds_of S ≡ kinds_of L
  same_kinds = kinds_mixed ∙ ap kinds_of mixed_same

  find_mixed : find S ≡ find mixed
  unfolding find
  find_mixed = refl

  covers_mixed : covers S ≡ covers mixed
  unfolding covers names find
  covers_mixed = refl

  -- the same rows, in any order, among others
  pub repeats_more : Repeats S L → MoreRows S L
  repeats_more f i h l op x t =
      let g = f i h in
      let c : covers S ≡ covers L = covers_mixed ∙ ap covers mixed_same in
      let d : find S ≡ find L = find_mixed ∙ ap find mixed_same in
      (g.0, g.1, rw (g.2, ← c) t, rw (g.2, ← d))

-- ---- one image
module _ (s : List ℕ) (bytes : Bytes s) (room : ℕ) (c : Compiled) (e : compile_image s room ≡ given c) where
  pub image_passes : Passed (catalog_in s)
  image_passes = (compile_tells (catalog_in s) c (image_tells s room c e).1).0

  pub image_compiled : compiled_of (catalog_in s) ≡ c
  image_compiled = (compile_tells (catalog_in s) c (image_tells s room c e).1).1

  -- "both catalogs compile" guarantees what demand 3 asks
  pub image_guaranteed : Guaranteed c.kinds c.rows
  image_guaranteed =
      let laid = (image_tells s room c e).0 in
      subst (λ (d : Compiled). Guaranteed d.kinds d.rows) image_compiled
      (guaranteed (catalog_in s) image_passes (quiet s bytes laid) (grades s bytes laid) (exponents s bytes laid))

-- ---- two images
module _ (s l : List ℕ) (bytes : Bytes s) (bytes-too : Bytes l) (room room-too : ℕ) (c d : Compiled)
    (small : compile_image s room ≡ given c) (large : compile_image l room-too ≡ given d)
    (same : SameKinds (catalog_in s) (catalog_in l)) where
  pub images_kinds : c.kinds ≡ d.kinds
  images_kinds =
      ap (λ (x : Compiled). x.kinds) (sym (image_compiled s bytes room c small))
      ∙ same_kinds (catalog_in s) (catalog_in l) same (quiet s bytes (image_tells s room c small).0) (quiet l bytes-too (image_tells l room-too d large).0)
      ∙ ap (λ (x : Compiled). x.kinds) (image_compiled l bytes-too room-too d large)

  pub images_repeat : Repeats (catalog_in s) (catalog_in l) → MoreRows (catalog_in s) (catalog_in l)
  images_repeat =
      repeats_more (catalog_in s) (catalog_in l) same (quiet s bytes (image_tells s room c small).0) (quiet l bytes-too (image_tells l room-too d large).0)

  module _ (more : MoreRows (catalog_in s) (catalog_in l)) (scalars : Scalars c.kinds) where
    images_extend : Extends c.rows d.rows
    images_extend =
        subst (λ (x : Compiled). Extends c.rows x.rows) (image_compiled l bytes-too room-too d large)
        (subst (λ (x : Compiled). Extends x.rows (rows_of (catalog_in l))) (image_compiled s bytes room c small)
        (extends (catalog_in s) (catalog_in l) (image_passes s bytes room c small) (image_passes l bytes-too room-too d large) more))

    pub images_premises : Premises c.kinds c.rows d.rows
    images_premises = record {
      compiles = image_guaranteed s bytes room c small;
      compiles_too = subst (λ (K : Kinds). Guaranteed K d.rows) (sym images_kinds) (image_guaranteed l bytes-too room-too d large);
      more = images_extend;
      scalars = scalars;
    }

    pub images_demand3 : (toks : List Token) → Demand3 c.kinds c.rows d.rows toks
    images_demand3 toks = demand3 c.kinds c.rows d.rows images_premises toks
