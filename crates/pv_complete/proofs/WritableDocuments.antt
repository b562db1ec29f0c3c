-- What every DTD and document of the program has for being written.
use Rattle.std.proofs.Common.{Bool, IsTrue, List, [], false, refl, true, ℕ, ◌&&◌, ◌∷◌, ◌≡◌}
use Rattle.std.proofs.Math.Logic.{∥∥₁_elim}
use Rattle.std.proofs.lemmas.Bool.{and_from, and_parts}
use Rattle.std.specs.List.{list_all}
use Rattle.pv_chars.specs.Names.{is_name}
use Rattle.pv_chars.proofs.NameLemmas.{is_name-IsName}
use Rattle.pv_dtd.specs.Facts.{AreLegalNames, are_distinct, is_short_name}
use Rattle.pv_dtd.specs.PlainForms.{plain_dtd}
use Rattle.pv_dtd.specs.declared.dtd.Dtd.{Dtd}
use Rattle.pv_tree.specs.Legal.{has_names, has_no_close_mark, is_formed, starts_no_close_mark}
use Rattle.pv_tree.specs.Plain.{Tree, cdata_node, element, is_element, misc_node, no_trees, text_node, tree}
use Rattle.pv_tree.specs.PlainForms.{plain}
use Rattle.pv_tree.specs.Prolog.{IsEpilog}
use Rattle.pv_tree.specs.declared.document.Doc.{Doc}
use Rattle.pv_tree.specs.declared.nodes.Mark.{Mark}
use Rattle.pv_tree.proofs.Decisions.{had}
use Rattle.pv_tree.proofs.DecidedForms.{epilog, legal}
use Rattle.pv_complete.specs.GrownTrees.{HasShortNames}
use Rattle.pv_complete.specs.Writable.{AreWritable, HasNames}

all_names : (xs : List (List ℕ)) → AreLegalNames xs → list_all is_name xs ≡ true
all_names [] a = refl
all_names (x ∷ xs) a = and_from (is_name x) (list_all is_name xs) (is_name-IsName x a.0) (all_names xs a.1)

names_are : (xs : List (List ℕ)) → ∥ AreLegalNames xs ∥₁ → (b : Bool) → list_all is_name xs ≡ b → list_all is_name xs ≡ true
names_are xs h true e = e
names_are xs h false e = absurd (∥∥₁_elim h (λ x. absurd x) (λ a. let t = all_names xs a in cc))

pub dtd_names : (d : Dtd) → HasNames (plain_dtd d)
dtd_names d = names_are (plain_dtd d).names d.legal (list_all is_name (plain_dtd d).names) refl

pub short_names : (d : Dtd) → HasShortNames (plain_dtd d)
short_names d = (and_parts (list_all is_short_name (plain_dtd d).names) (are_distinct (plain_dtd d).names) d.distinct).0

starts_alone : (t : Tree Mark) → IsTrue (is_element t) → IsTrue (starts_no_close_mark t no_trees)
starts_alone (element x a e k m) is = refl
starts_alone (text_node us) is = absurd cc
starts_alone (cdata_node b) is = absurd cc
starts_alone (misc_node b) is = absurd cc

pub doc_writable : (d : Doc) → AreWritable (tree (plain d.root) no_trees)
doc_writable d = record {
  named = and_from (has_names (plain d.root)) true d.named refl;
  formed = and_from (is_formed (plain d.root)) true d.formed refl;
  units = (d.units, tt);
  legal = (had (legal (plain d.root)) d.legal, tt);
  no_close_mark = and_from (has_no_close_mark (plain d.root) && starts_no_close_mark (plain d.root) no_trees) true
      (and_from (has_no_close_mark (plain d.root)) (starts_no_close_mark (plain d.root) no_trees) d.no_close_mark (starts_alone (plain d.root) d.rooted)) refl;
}

pub doc_epilog : (d : Doc) → IsEpilog d.after
doc_epilog d = had (epilog d.after) d.epilog
