-- A document has one answer to `check`, whatever its marks are.
use Rattle.std.proofs.Common.{◌≡◌, ℕ, List, sym, ap, ◌∙◌, subst}
use Rattle.pv_dtd.specs.Plain.{PlainDtd}
use Rattle.pv_tree.specs.Lists.{lists_of}
use Rattle.pv_tree.specs.Marks.{unmarked_doc}
use Rattle.pv_tree.specs.Plain.{PlainDoc}
use Rattle.pv_tree.specs.declared.nodes.Mark.{Mark}
use Rattle.pv_missing.proofs.Counts.{one_count_of_lists, same_counts}
use Rattle.pv_missing.specs.Verdicts.{HavePossible, is_possible as is_possible_verdict}
use Rattle.pv_read.specs.DocumentLaws.{SpellsOneDocument}
use Rattle.pv_commands.specs.Check.{IsCheckCourse}
use Rattle.pv_opening.specs.Course.{Course}
use Rattle.pv_opening.specs.Documents.{PlainOpened}
use Rattle.pv_opening.specs.Possibility.{TellsPossibility, is_no_more, is_possible, possible_text}
use Rattle.pv_opening.specs.Possibility.{width_stage}
use Rattle.pv_opening.specs.Stage.{Behind, Responds}
use Rattle.pv_opening.specs.Response.{PlainResponse, with_line}
use Rattle.pv_opening.specs.declared.status.Status.TheVariants.{Done}
use Rattle.pv_opening.proofs.OneOpening.{AreSameOpened, IsEqual, RunsAs, one_like, told}
use Rattle.pv_opening.proofs.OneOpening.{unmarked_same}
use Rattle.pv_opening.proofs.OnePossibility.{one_impossible, possible_or, width_sure}

-- one of two documents without marks is the other
one_count : {M : Type 0} (g : PlainDtd) (root : List ℕ) (doc same : PlainDoc M) (n m : ℕ) →
    unmarked_doc doc ≡ unmarked_doc same → HavePossible g root (lists_of doc) n →
    HavePossible g root (lists_of same) m → n ≡ m
one_count {M = M} g root doc same n m e h k =
    one_count_of_lists M is_possible_verdict g root (lists_of same) n m
    (same_counts M M is_possible_verdict g root doc same n e h) k

pub one_possibility : (root : List ℕ) (g : PlainDtd) (doc same : PlainDoc Mark)
    (a b : PlainResponse) → unmarked_doc doc ≡ unmarked_doc same →
    TellsPossibility root g doc a → TellsPossibility root g same b → a ≡ b
one_possibility root g doc same a b e (is_possible n v k is) (is_possible m w l are) =
    is ∙ ap (λ i. with_line Done (possible_text i)) (one_count g root doc same n m e k l) ∙ sym are
one_possibility root g doc same a b e (is_possible n v k is) (is_no_more denies) =
    absurd (possible_or root g doc same b e v denies)
one_possibility root g doc same a b e (is_no_more denies) (is_possible m w l are) =
    absurd (possible_or root g same doc a (sym e) w denies)
one_possibility root g doc same a b e (is_no_more denies) (is_no_more others) =
    one_impossible root g doc same a b e denies others

-- documents with one text and the same DTD have one response to `check`
pub check_once : SpellsOneDocument →
    (root : List ℕ) (x y : PlainOpened) (course other : Course) (r also : PlainResponse) →
    AreSameOpened x y → RunsAs course other r also →
    IsCheckCourse root x course → IsCheckCourse root y other → r ≡ also
check_once one root x y course other r also same so is are =
    let alike = unmarked_same one x.doc y.doc same.docs in
    let moved : Behind (width_stage x.dtd y.doc) (λ _. Responds (TellsPossibility root x.dtd y.doc))
    other =
    subst (λ (g : PlainDtd). Behind (width_stage g y.doc)
    (λ _. Responds (TellsPossibility root g y.doc)) other) (sym same.dtds) are in
    one_like (width_stage x.dtd x.doc) (width_stage x.dtd y.doc) IsEqual
    (λ _. Responds (TellsPossibility root x.dtd x.doc))
    (λ _. Responds (TellsPossibility root x.dtd y.doc)) r also (r ≡ also) (λ e. e)
    (width_sure x.dtd x.doc y.doc alike)
    (λ u v rest more e both here there. one_possibility root x.dtd x.doc y.doc r also alike
    (told _ rest r here both.ends) (told _ more also there both.ends_too)) course other so is moved
