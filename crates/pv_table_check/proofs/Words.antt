-- What is known of what is tested: its parts by number, and its word's length.
use Rattle.std.proofs.Common.{None, Some, length, slice_get, subst, sym, ℕ, ◌≡◌}
use Rattle.std.proofs.lemmas.List.{length-map}
use Rattle.pv_rules.specs.Flat.{flat_contents, flat_parts}
use Rattle.pv_rules.specs.PlainForms.{IsFlat}
use Rattle.pv_rules.specs.Sites.{PlainSite}
use Rattle.pv_rules.specs.declared.flat.FlatContent.{FlatContent}
use Rattle.pv_rules.specs.declared.flat.FlatPart.{FlatPart}
use Rattle.pv_table_check.specs.ClosedForms.{WeighsNothing}
use Rattle.pv_table_check.specs.Tested.{dtd_in, word_in}
use Rattle.pv_table_check.specs.declared.tested.Tested.{Tested}

module _ (t : Tested) where
  pub as_long : length (word_in t) ≡ length t.word.now
  as_long = simp length-map

  module _ (s : PlainSite) where
    pub nothing_to : WeighsNothing t.entries.now s (length t.word.now) → WeighsNothing t.entries.now s (length (word_in t))
    nothing_to h = subst (WeighsNothing t.entries.now s) (sym as_long) h

    pub nothing_from : WeighsNothing t.entries.now s (length (word_in t)) → WeighsNothing t.entries.now s (length t.word.now)
    nothing_from h = subst (WeighsNothing t.entries.now s) as_long h

  module _ (flat : IsFlat (dtd_in t) t.flat.now) (n : ℕ) where
    pub flat_part : (f : FlatPart) → Some f ≡ slice_get t.flat.now.parts.items n → slice_get (flat_parts (dtd_in t)) n ≡ Some f
    flat_part f e = let p = flat.parts in rw (← p) (sym e)

    pub no_flat_part : None ≡ slice_get t.flat.now.parts.items n → slice_get (flat_parts (dtd_in t)) n ≡ None
    no_flat_part e = let p = flat.parts in rw (← p) (sym e)

    pub flat_content : (f : FlatContent) → Some f ≡ slice_get t.flat.now.contents.items n → slice_get (flat_contents 0 (dtd_in t).models) n ≡ Some f
    flat_content f e = let p = flat.contents in rw (← p) (sym e)

    pub no_flat_content : None ≡ slice_get t.flat.now.contents.items n → slice_get (flat_contents 0 (dtd_in t).models) n ≡ None
    no_flat_content e = let p = flat.contents in rw (← p) (sym e)
