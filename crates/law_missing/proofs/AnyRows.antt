-- The rows on the DTDs with ANY.
use Rattle.std.specs.Prelude.{codes}
use Rattle.std.proofs.Common.{List, Some, [], ap, arith, inl, map, refl, subst, ℕ, ◌++◌, ◌∙◌, ◌∷◌, ◌≡◌}
use Rattle.pv_model.specs.Plain.{PlainModel, PlainToken, any, children, name, named, no_parts, opt, other, part, seq, text}
use Rattle.pv_model.specs.Models.{Allows}
use Rattle.pv_dtd.specs.Plain.{model_of, number_of}
use Rattle.pv_dtd.specs.Hedge.{AreGood, Hedge, cdata, data_unit, done, elem, leaf, misc, token, white, word}
use Rattle.pv_tree.specs.Lists.{an_element, lists_from, the_document}
use Rattle.pv_tree.specs.Plain.{Tree, forest_of, no_trees, tree}
use Rattle.pv_missing.specs.Covers.{IsPossibleWith}
use Rattle.pv_dtd.specs.Proper.{IsProperDtd}
use Rattle.pv_missing.specs.LiveWords.{live_unproductive, live_name, live_none, live_other, live_text}
use Rattle.pv_dtd.specs.Productive.{IsProductive, IsProductiveName}
use Rattle.law_missing.specs.Documents.{mentioned_name, tag, unknown_name}
use Rattle.law_missing.specs.Dtds.{any_dtd, any_endless_dtd}
use Rattle.law_missing.specs.Rows.{AnyRow, LiveWords, UnknownRow}
use Rattle.pv_missing.proofs.DocLists.{live_misses_by}
use Rattle.pv_missing.proofs.OneList.{covered_by_productive}
use Rattle.pv_dtd.proofs.ProperDtds.{proper_dtd}
use Rattle.law_missing.proofs.RowTools.{alone_productive, impossible_at}
use Rattle.pv_missing.proofs.Verdict.{own_live}

-- <!ELEMENT r ANY> <!ELEMENT s (u?)>
proper_any : IsProperDtd any_dtd
proper_any = proper_dtd any_dtd refl (omega arith) refl

r_good : IsProductive any_dtd 0
r_good = alone_productive any_dtd 0 any refl tt

s_good : IsProductive any_dtd 1
s_good = alone_productive any_dtd 1 (children (seq (part (opt (name 2)) no_parts))) refl ([], refl, ([], [], refl, inl refl, refl))

u_unproductive : IsProductive any_dtd 2 → ⊥
u_unproductive p = let e = p.fits.is_model in cc

r_name : IsProductiveName any_dtd (codes "r")
r_name = record { number = 0; is_number = refl; productive = r_good }

s_name : IsProductiveName any_dtd (codes "s")
s_name = record { number = 1; is_number = refl; productive = s_good }

pub other_never : (x n : ℕ) → IsPossibleWith any_dtd x n (named 1 ∷ other ∷ []) → ⊥
other_never x n p = (covered_by_productive any_dtd n p.whole (named 1 ∷ other ∷ []) p.covers).1.0

pub unknown_name_law : UnknownRow
unknown_name_law = (
  impossible_at any_dtd (codes "r") proper_any unknown_name (0 ∷ []) (record { rooted = refl; units = (tt, (tt, tt)) }) (record {
    before = record { path = []; owner = the_document; kids = tree unknown_name no_trees } ∷ [];
    list = record { path = 0 ∷ []; owner = an_element (codes "r"); kids = forest_of (tag (codes "s") [] ∷ tag (codes "zz") [] ∷ []) };
    after = lists_from (0 ∷ []) 0 (forest_of (tag (codes "s") [] ∷ tag (codes "zz") [] ∷ []));
    is_split = refl;
    all_before = (own_live any_dtd (codes "r") the_document (tree unknown_name no_trees) (refl, refl) tt (r_name, tt), tt);
    is_not = λ l. let p = live_misses_by any_dtd (codes "r") (an_element (codes "r")) (forest_of (tag (codes "s") [] ∷ tag (codes "zz") [] ∷ [])) l in
        other_never p.1.number p.0 p.1.possible;
    is_path = refl;
  }),
  impossible_at any_dtd (codes "r") proper_any mentioned_name (0 ∷ 0 ∷ []) (record { rooted = refl; units = ((tt, tt), tt) }) (record {
    before =
        record { path = []; owner = the_document; kids = tree mentioned_name no_trees } ∷
        record { path = 0 ∷ []; owner = an_element (codes "r"); kids = forest_of (tag (codes "s") (tag (codes "u") [] ∷ []) ∷ []) } ∷ [];
    list = record { path = 0 ∷ 0 ∷ []; owner = an_element (codes "s"); kids = forest_of (tag (codes "u") [] ∷ []) };
    after = lists_from (0 ∷ 0 ∷ []) 0 (forest_of (tag (codes "u") [] ∷ []));
    is_split = refl;
    all_before = (
      own_live any_dtd (codes "r") the_document (tree mentioned_name no_trees) (refl, refl) tt (r_name, tt),
      (
        own_live any_dtd (codes "r") (an_element (codes "r")) (forest_of (tag (codes "s") (tag (codes "u") [] ∷ []) ∷ []))
            (record { number = 0; is_owner = refl; model = any; is_model = refl; no_kids = λ z. absurd cc; allowed = (omega arith, tt) }) r_name (s_name, tt),
        tt,
      ),
    );
    is_not = λ l. let p = live_misses_by any_dtd (codes "r") (an_element (codes "s")) (forest_of (tag (codes "u") [] ∷ [])) l in
        u_unproductive (covered_by_productive any_dtd p.0 p.1.possible.whole (named 2 ∷ []) p.1.possible.covers).0;
    is_path = refl;
  }),
)

-- <!ELEMENT r ANY> <!ELEMENT a (a)>
proper_any_endless : IsProperDtd any_endless_dtd
proper_any_endless = proper_dtd any_endless_dtd refl (omega arith) refl

abbrev endless_model : PlainModel
endless_model = children (seq (part (name 1) no_parts))

first_is : (y : ℕ) (u v : List ℕ) (w : List PlainToken) → u ≡ y ∷ [] → w ≡ map named (u ++ v) → v ≡ [] → w ≡ named y ∷ []
first_is y u v w e f z = rw (e, z) at f

endless_one : (v : List PlainToken) → Allows 2 endless_model v → v ≡ named 1 ∷ []
endless_one v (ws, e, (a, b, f, h, z)) = first_is 1 a b v h (e ∙ ap (map named) f) z

-- an a has an a in it, and that one another
no_end : (h : Hedge) → AreGood any_endless_dtd h → (w : List PlainToken) → word any_endless_dtd h ≡ named 1 ∷ w → ⊥
no_end done p w e = cc
no_end (leaf (white b) h) p w e = no_end h p w e
no_end (leaf (misc b) h) p w e = no_end h p w e
no_end (leaf (data_unit b) h) p w e = cc
no_end (leaf (cdata b) h) p w e = cc
no_end (elem x a k h) (y, is, f, in_kids, after) w e =
    let j : y ≡ 1 = let i : token (Some y) ≡ named 1 = rw is at (first_token (token (number_of any_endless_dtd x)) (word any_endless_dtd h) w e) in cc in
    let m : model_of any_endless_dtd 1 ≡ Some f.model = rw j at f.is_model in let n : f.model ≡ endless_model = cc in
    no_end k in_kids [] (endless_one (word any_endless_dtd k) (subst (λ q. Allows 2 q (word any_endless_dtd k)) n f.allowed))
  where
    first_token : (s : PlainToken) (u v : List PlainToken) → s ∷ u ≡ named 1 ∷ v → s ≡ named 1
    first_token s u v i = cc

endless_unproductive : IsProductive any_endless_dtd 1 → ⊥
endless_unproductive p = let e = p.fits.is_model in let n : p.fits.model ≡ endless_model = cc in
    no_end p.kids p.good [] (endless_one (word any_endless_dtd p.kids) (subst (λ q. Allows 2 q (word any_endless_dtd p.kids)) n p.fits.allowed))

abbrev a_in_r : Tree Unit
a_in_r = tag (codes "r") (tag (codes "a") [] ∷ [])

r_any : IsProductiveName any_endless_dtd (codes "r")
r_any = record { number = 0; is_number = refl; productive = alone_productive any_endless_dtd 0 any refl tt }

pub unproductive_kid_of_any_law : AnyRow
unproductive_kid_of_any_law = (
  impossible_at any_endless_dtd (codes "r") proper_any_endless a_in_r (0 ∷ []) (record { rooted = refl; units = (tt, tt) }) (record {
    before = record { path = []; owner = the_document; kids = tree a_in_r no_trees } ∷ [];
    list = record { path = 0 ∷ []; owner = an_element (codes "r"); kids = forest_of (tag (codes "a") [] ∷ []) };
    after = lists_from (0 ∷ []) 0 (forest_of (tag (codes "a") [] ∷ []));
    is_split = refl;
    all_before = (own_live any_endless_dtd (codes "r") the_document (tree a_in_r no_trees) (refl, refl) tt (r_any, tt), tt);
    is_not = λ l. let p = live_misses_by any_endless_dtd (codes "r") (an_element (codes "r")) (forest_of (tag (codes "a") [] ∷ [])) l in
        endless_unproductive (covered_by_productive any_endless_dtd p.0 p.1.possible.whole (named 1 ∷ []) p.1.possible.covers).0;
    is_path = refl;
  }),
  record { number = 0; is_owner = refl; model = any; is_model = refl; no_kids = λ z. absurd cc; allowed = (omega arith, tt) },
)

pub live_words : LiveWords
live_words = live_name 1 (named 2 ∷ text ∷ other ∷ []) (other ∷ text ∷ other ∷ []) s_good
    (live_unproductive 2 (text ∷ other ∷ []) (text ∷ other ∷ []) u_unproductive (live_text (other ∷ []) (other ∷ []) (live_other [] [] live_none)))
