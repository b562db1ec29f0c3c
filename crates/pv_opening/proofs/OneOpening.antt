-- Over given files a stage opens one thing or refuses with one response.
use Rattle.std.proofs.Common.{◌≡◌, ◌⊎◌, inl, inr, ℕ, List, length, codes, Option, Some, sym, ap, ◌∙◌, subst, arith}
use Rattle.pv_dtd.specs.Plain.{PlainDtd}
use Rattle.pv_dtd.specs.Facts.{MAX_DTD_BYTES}
use Rattle.pv_dtd.specs.Laws.{OneMeaning}
use Rattle.pv_dtd.specs.Meaning.{Outcome, is_dtd, faulty, DtdTextMeans}
use Rattle.pv_tree.specs.Marks.{blank_mark, unmarked_doc}
use Rattle.pv_tree.specs.Plain.{PlainDoc}
use Rattle.pv_tree.specs.Units.{HasUnits}
use Rattle.pv_tree.specs.declared.nodes.Mark.{Mark}
use Rattle.pv_read.specs.Grammar.{IsDocumentText}
use Rattle.pv_read.specs.Meaning.{MAX_DOC_BYTES, document_limits, is_document, faulty as faulty_document, too_long as too_long_document}
use Rattle.pv_read.specs.DocumentLaws.{DocumentsMeanOne, MeansWhatItSpells, SpellsOneDocument, with_marks}
use Rattle.pv_read.proofs.DocumentFacts.{keeps}
use Rattle.pv_opening.specs.Documents.{OpensDocument, PlainOpened, document_refusal, RefusesDocument, no_document, too_many_bytes, document_stage}
use Rattle.pv_opening.specs.Course.{responds, Course, after_fetches}
use Rattle.pv_opening.specs.Opening.{Files, IsFetched, IsFileTooLong, file_at, fetch_stage, RefusesDtd, no_dtd, dtd_refusal, dtd_stage}
use Rattle.pv_opening.specs.Opening.{expanded_dtd_stage, dtd_file_stage, document_fetch_stage, fetching_stage, opening_stage}
use Rattle.pv_opening.specs.Response.{PlainResponse}
use Rattle.pv_opening.specs.Parameters.{RefusesParameters, not_expanded, parameters_refusal, expansion_stage}
use Rattle.pv_params.specs.Laws.{AtMostOne}
use Rattle.pv_params.specs.Meaning.{Expands, expanded, faulty as faulty_parameters}
use Rattle.pv_opening.specs.Stage.{Stage, without_fetch, followed_by, beside, Behind, opened, refused, stopped, short_of_memory, Responds, responded, short_of_memory as out_of_memory}

-- Two stages don't open and refuse, they refuse with one response, and what they open is the same in this sense.
pub record AreSure {X : Type 0} (here there : Stage X) (Same : X → X → Type 0) : Type 0 where
  pub opens_or : (x : X) (r : PlainResponse) (k m : ℕ) → here.Opens x k → there.Refuses r m → ⊥
  pub refuses_or : (x : X) (r : PlainResponse) (k m : ℕ) → here.Refuses r k → there.Opens x m → ⊥
  pub one_refusal : (r also : PlainResponse) (k m : ℕ) → here.Refuses r k → there.Refuses also m → r ≡ also
  pub same : (x y : X) (k m : ℕ) → here.Opens x k → there.Opens y m → Same x y

-- and so a stage with itself
abbrev pub IsSure : {X : Type 0} → Stage X → (X → X → Type 0) → Type 0
IsSure stage Same = AreSure stage stage Same

abbrev pub IsEqual : {X : Type 0} → X → X → Type 0
IsEqual x y = x ≡ y

module _ {X Y : Type 0} (here there : Stage X) (Same : X → X → Type 0) (behind beyond : X → Stage Y) (Like : Y → Y → Type 0)
    (sure : AreSure here there Same) (next : (x z : X) → Same x z → AreSure (behind x) (beyond z) Like) where
  followed_opens_or : (y : Y) (r : PlainResponse) (k m : ℕ) → (followed_by here behind).Opens y k → (followed_by there beyond).Refuses r m → ⊥
  followed_opens_or y r k m (x, i, j, opens, goes, e) (inl refuses) = sure.opens_or x r i m opens refuses
  followed_opens_or y r k m (x, i, j, opens, goes, e) (inr (z, u, v, others, refuses, f)) = (next x z (sure.same x z i u opens others)).opens_or y r j v goes refuses

  followed_refuses_or : (y : Y) (r : PlainResponse) (k m : ℕ) → (followed_by here behind).Refuses r k → (followed_by there beyond).Opens y m → ⊥
  followed_refuses_or y r k m (inl refuses) (z, u, v, others, goes, f) = sure.refuses_or z r k u refuses others
  followed_refuses_or y r k m (inr (x, i, j, opens, refuses, e)) (z, u, v, others, goes, f) = (next x z (sure.same x z i u opens others)).refuses_or y r j v refuses goes

  followed_one_refusal : (r also : PlainResponse) (k m : ℕ) → (followed_by here behind).Refuses r k → (followed_by there beyond).Refuses also m → r ≡ also
  followed_one_refusal r also k m (inl refuses) (inl others) = sure.one_refusal r also k m refuses others
  followed_one_refusal r also k m (inl refuses) (inr (z, u, v, opens, others, f)) = absurd (sure.refuses_or z r k u refuses opens)
  followed_one_refusal r also k m (inr (x, i, j, opens, refuses, e)) (inl others) = absurd (sure.opens_or x also i m opens others)
  followed_one_refusal r also k m (inr (x, i, j, opens, refuses, e)) (inr (z, u, v, there_too, others, f)) =
      (next x z (sure.same x z i u opens there_too)).one_refusal r also j v refuses others

  followed_same : (y w : Y) (k m : ℕ) → (followed_by here behind).Opens y k → (followed_by there beyond).Opens w m → Like y w
  followed_same y w k m (x, i, j, opens, goes, e) (z, u, v, others, more, f) = (next x z (sure.same x z i u opens others)).same y w j v goes more

  pub followed_sure : AreSure (followed_by here behind) (followed_by there beyond) Like
  followed_sure = record { opens_or = followed_opens_or; refuses_or = followed_refuses_or; one_refusal = followed_one_refusal; same = followed_same }

-- a stage after equal ones
pub sure_at : {X Y : Type 0} (behind : X → Stage Y) (Like : Y → Y → Type 0) → ((x : X) → IsSure (behind x) Like) → (x z : X) → x ≡ z → AreSure (behind x) (behind z) Like
sure_at behind Like sure x z is = subst (λ (w : _). AreSure (behind x) (behind w) Like) is (sure x)

-- two pairs whose first parts are equal
abbrev pub IsSamePair : {X Y : Type 0} → (Y → Y → Type 0) → X × Y → X × Y → Type 0
IsSamePair Same a b = (a.0 ≡ b.0) × Same a.1 b.1

pub beside_sure : {X Y : Type 0} (x : X) (stage : Stage Y) (Same : Y → Y → Type 0) → IsSure stage Same → IsSure (beside x stage) (IsSamePair Same)
beside_sure x stage Same sure = record {
  opens_or = λ both r k m opens refuses. sure.opens_or both.1 r k m opens.1 refuses;
  refuses_or = λ both r k m refuses opens. sure.refuses_or both.1 r k m refuses opens.1;
  one_refusal = sure.one_refusal;
  same = λ a b k m opens others. (opens.0 ∙ sym others.0, sure.same a.1 b.1 k m opens.1 others.1);
}

-- stages that fetch nothing
pub reading_sure : {X : Type 0} (Opens Others : X → Type 0) (Refuses Denies : PlainResponse → Type 0) (Same : X → X → Type 0) →
    ((x : X) (r : PlainResponse) → Opens x → Denies r → ⊥) → ((x : X) (r : PlainResponse) → Refuses r → Others x → ⊥) →
    ((r also : PlainResponse) → Refuses r → Denies also → r ≡ also) → ((x y : X) → Opens x → Others y → Same x y) →
    AreSure (without_fetch Opens Refuses) (without_fetch Others Denies) Same
reading_sure Opens Others Refuses Denies Same opens_or refuses_or one same = record {
  opens_or = λ x r k m opens denies. opens_or x r opens.0 denies.0;
  refuses_or = λ x r k m refuses others. refuses_or x r refuses.0 others.0;
  one_refusal = λ r also k m refuses denies. one r also refuses.0 denies.0;
  same = λ x y k m opens others. same x y opens.0 others.0;
}

one_file : (file : Option (List ℕ)) (bytes other : List ℕ) → file ≡ Some bytes → file ≡ Some other → bytes ≡ other
one_file file bytes other is are = let same : Some bytes ≡ Some other = sym is ∙ are in cc

fetch_not_both : (file : Option (List ℕ)) (most : ℕ) (passed bytes : List ℕ) (r : PlainResponse) → IsFetched file most bytes → IsFileTooLong file most passed r → ⊥
fetch_not_both file most passed bytes r is are =
    let same = ap length (one_file file are.bytes bytes are.is_file is.is_file) in
    let beyond = are.beyond in
    let within = is.within in absurd (omega arith)

pub fetch_sure : (file : Option (List ℕ)) (most : ℕ) (passed : List ℕ) → IsSure (fetch_stage file most passed) IsEqual
fetch_sure file most passed = record {
  opens_or = λ bytes r k m is are. fetch_not_both file most passed bytes r is.0 are.0;
  refuses_or = λ bytes r k m is are. fetch_not_both file most passed bytes r are.0 is.0;
  one_refusal = λ r also k m is are. is.0.is_response ∙ sym are.0.is_response;
  same = λ bytes other k m is are. one_file file bytes other is.0.is_file are.0.is_file;
}

-- a DTD text has one meaning
same_meaning : OneMeaning → (bytes : List ℕ) (o p : Outcome) → DtdTextMeans bytes o → DtdTextMeans bytes p → o ≡ p
same_meaning one bytes o p a b = (one bytes).only o a ∙ sym ((one bytes).only p b)

dtd_not_both : OneMeaning → (bytes : List ℕ) (g : PlainDtd) (r : PlainResponse) → DtdTextMeans bytes (is_dtd g) → RefusesDtd bytes r → ⊥
dtd_not_both one bytes g r is (no_dtd kind k means line) = let same = same_meaning one bytes (is_dtd g) (faulty kind k) is means in cc

dtd_one_refusal : OneMeaning → (bytes : List ℕ) (r also : PlainResponse) → RefusesDtd bytes r → RefusesDtd bytes also → r ≡ also
dtd_one_refusal one bytes r also (no_dtd kind k means line) (no_dtd other n again next) =
    let same = same_meaning one bytes (faulty kind k) (faulty other n) means again in
    let of_kind : kind ≡ other = cc in
    let behind : k ≡ n = cc in
    line ∙ ap (λ x. dtd_refusal x k) of_kind ∙ ap (dtd_refusal other) behind ∙ sym next

pub dtd_sure : OneMeaning → (bytes : List ℕ) → IsSure (dtd_stage bytes) IsEqual
dtd_sure one bytes =
    reading_sure (λ g. DtdTextMeans bytes (is_dtd g)) (λ g. DtdTextMeans bytes (is_dtd g)) (RefusesDtd bytes) (RefusesDtd bytes) IsEqual
    (λ g r is denies. dtd_not_both one bytes g r is denies) (λ g r denies is. dtd_not_both one bytes g r is denies) (dtd_one_refusal one bytes)
    (λ g h is are. let same = same_meaning one bytes (is_dtd g) (is_dtd h) is are in cc)

-- a file has one expansion
expansion_not_both : AtMostOne → (bytes text : List ℕ) (r : PlainResponse) → Expands bytes (expanded text) → RefusesParameters bytes r → ⊥
expansion_not_both one bytes text r is (not_expanded fault faults line) = let same = one bytes (expanded text) (faulty_parameters fault) is faults in cc

expansion_one_refusal : AtMostOne → (bytes : List ℕ) (r also : PlainResponse) → RefusesParameters bytes r → RefusesParameters bytes also → r ≡ also
expansion_one_refusal one bytes r also (not_expanded fault faults line) (not_expanded other again next) =
    let same = one bytes (faulty_parameters fault) (faulty_parameters other) faults again in
    let of_fault : fault ≡ other = cc in
    line ∙ ap parameters_refusal of_fault ∙ sym next

expansion_sure : AtMostOne → (bytes : List ℕ) → IsSure (expansion_stage bytes) IsEqual
expansion_sure one bytes =
    reading_sure (λ text. Expands bytes (expanded text)) (λ text. Expands bytes (expanded text)) (RefusesParameters bytes) (RefusesParameters bytes) IsEqual
    (λ text r is denies. expansion_not_both one bytes text r is denies) (λ text r denies is. expansion_not_both one bytes text r is denies) (expansion_one_refusal one bytes)
    (λ text other is are. let same = one bytes (expanded text) (expanded other) is are in cc)

-- what the laws say of a DTD's file that the proof stands on
pub record ReadsOneDtd : Type 0 where
  pub expands_one : AtMostOne
  pub means_one : OneMeaning

expanded_dtd_sure : ReadsOneDtd → (bytes : List ℕ) → IsSure (expanded_dtd_stage bytes) IsEqual
expanded_dtd_sure one bytes =
    let first = expansion_stage bytes in
    followed_sure first first IsEqual dtd_stage dtd_stage IsEqual (expansion_sure one.expands_one bytes) (sure_at dtd_stage IsEqual (dtd_sure one.means_one))

-- the DTD's file
pub dtd_file_sure : ReadsOneDtd → (file : Option (List ℕ)) → IsSure (dtd_file_stage file) IsEqual
dtd_file_sure one file =
    let fetch = fetch_stage file MAX_DTD_BYTES (codes "limit dtd-file") in
    followed_sure fetch fetch IsEqual expanded_dtd_stage expanded_dtd_stage IsEqual
    (fetch_sure file MAX_DTD_BYTES (codes "limit dtd-file")) (sure_at expanded_dtd_stage IsEqual
    (expanded_dtd_sure one))

-- two documents with one text
pub record IsSameText (doc same : PlainDoc Mark) : Type 0 where
  pub root : List ℕ
  pub bytes : List ℕ
  pub is_text : IsDocumentText root bytes doc
  pub is_same : IsDocumentText root bytes same

-- the laws on document texts that the proof stands on
pub record ReadsOne : Type 0 where
  pub means_one : DocumentsMeanOne
  pub means : MeansWhatItSpells
  pub spells_one : SpellsOneDocument

pub document_not_both : ReadsOne → (root bytes : List ℕ) (doc : PlainDoc Mark) (r : PlainResponse) → IsDocumentText root bytes doc → RefusesDocument root bytes r → ⊥
document_not_both one root bytes doc r is (no_document kind k means line) =
    let same = one.means_one document_limits root bytes (is_document (with_marks blank_mark doc)) (faulty_document kind k) (one.means document_limits blank_mark root bytes doc is) means in cc
document_not_both one root bytes doc r is (too_many_bytes beyond line) =
    let same = one.means_one document_limits root bytes (is_document (with_marks blank_mark doc)) too_long_document (one.means document_limits blank_mark root bytes doc is) beyond in cc

document_one_refusal : ReadsOne → (root bytes : List ℕ) (r also : PlainResponse) → RefusesDocument root bytes r → RefusesDocument root bytes also → r ≡ also
document_one_refusal one root bytes r also (no_document kind k means line) (no_document other n again next) =
    let same = one.means_one document_limits root bytes (faulty_document kind k) (faulty_document other n) means again in
    let of_kind : kind ≡ other = cc in
    let behind : k ≡ n = cc in
    line ∙ ap (λ x. document_refusal x k) of_kind ∙ ap (document_refusal other) behind ∙ sym next
document_one_refusal one root bytes r also (no_document kind k means line) (too_many_bytes beyond next) =
    let same = one.means_one document_limits root bytes (faulty_document kind k) too_long_document means beyond in cc
document_one_refusal one root bytes r also (too_many_bytes beyond line) (no_document kind k means next) =
    let same = one.means_one document_limits root bytes too_long_document (faulty_document kind k) beyond means in cc
document_one_refusal one root bytes r also (too_many_bytes beyond line) (too_many_bytes again next) = line ∙ sym next

-- both have the same DTD and bytes, and documents with one text
pub record AreSameOpened (x y : PlainOpened) : Type 0 where
  pub dtds : x.dtd ≡ y.dtd
  pub bytes : x.bytes ≡ y.bytes
  pub docs : IsSameText x.doc y.doc

pub document_sure : ReadsOne → (root : List ℕ) (g : PlainDtd) (bytes : List ℕ) → IsSure (document_stage root g bytes) AreSameOpened
document_sure one root g bytes =
    reading_sure (OpensDocument root g bytes) (OpensDocument root g bytes) (RefusesDocument root bytes) (RefusesDocument root bytes) AreSameOpened
    (λ o r is denies. document_not_both one root bytes o.doc r is.is_text denies) (λ o r denies is. document_not_both one root bytes o.doc r is.is_text denies)
    (document_one_refusal one root bytes)
    (λ x y is are. record { dtds = is.is_dtd ∙ sym are.is_dtd; bytes = is.are_bytes ∙ sym are.are_bytes; docs = record { root = root; bytes = bytes; is_text = is.is_text; is_same = are.is_text } })

fetching_sure : ReadsOneDtd → (files : Files) → IsSure (fetching_stage files) (IsSamePair IsEqual)
fetching_sure one files =
    let first = dtd_file_stage (file_at 0 files) in
    let second = document_fetch_stage (file_at 1 files) in
    followed_sure first first IsEqual (λ g. beside g second) (λ g. beside g second) (IsSamePair IsEqual) (dtd_file_sure one (file_at 0 files))
    (sure_at (λ g. beside g second) (IsSamePair IsEqual) (λ g. beside_sure g second IsEqual (fetch_sure (file_at 1 files) MAX_DOC_BYTES (codes "limit document-file"))))

documents_sure : ReadsOne → (root : List ℕ) (x z : PlainDtd × List ℕ) → IsSamePair IsEqual x z → AreSure (document_stage root x.0 x.1) (document_stage root z.0 z.1) AreSameOpened
documents_sure one root x z same =
    subst (λ (g : PlainDtd). AreSure (document_stage root x.0 x.1) (document_stage root g z.1) AreSameOpened) same.0
    (subst (λ (bytes : List ℕ). AreSure (document_stage root x.0 x.1) (document_stage root x.0 bytes) AreSameOpened) same.1 (document_sure one root x.0 x.1))

pub opening_sure : ReadsOneDtd → ReadsOne → (root : List ℕ) (files : Files) → IsSure (opening_stage root files) AreSameOpened
opening_sure one documents root files =
    let first = fetching_stage files in
    let read : PlainDtd × List ℕ → Stage PlainOpened = λ both. document_stage root both.0 both.1 in
    followed_sure first first (IsSamePair IsEqual) read read AreSameOpened (fetching_sure one files) (documents_sure documents root)

-- what went on after a stage, where a run over it responds
pub record GoesWith {X : Type 0} (stage : Stage X) (Goes : X → Course → Type 0) (course : Course) : Type 0 where
  pub x : X
  pub count : ℕ
  pub rest : Course
  pub opens : stage.Opens x count
  pub goes : Goes x rest
  pub is_rest : course ≡ after_fetches count rest

-- where a run over a stage responds, it went on, or this is the stage's refusal
pub went_on : {X : Type 0} (stage : Stage X) (Goes : X → Course → Type 0) (course : Course) (r : PlainResponse) → Behind stage Goes course → course.ending ≡ responds r →
    GoesWith stage Goes course ⊎ ((k : ℕ) × stage.Refuses r k)
went_on stage Goes course r (opened x k rest opens goes is) ends = inl (record { x = x; count = k; rest = rest; opens = opens; goes = goes; is_rest = is })
went_on stage Goes course r (refused s k refuses is) ends =
    let here = ap (λ (c : Course). c.ending) is in
    let same : s ≡ r = cc in inr (k, subst (λ (p : PlainResponse). stage.Refuses p k) same refuses)
went_on stage Goes course r (stopped k asks is) ends = let here = ap (λ (c : Course). c.ending) is in cc
went_on stage Goes course r (short_of_memory k lacks is) ends = let here = ap (λ (c : Course). c.ending) is in cc

-- two courses with the same input and the same lines without memory, that end with these responses
pub record RunsAs (course other : Course) (r also : PlainResponse) : Type 0 where
  pub taken : course.taken ≡ other.taken
  pub silent : course.silent ≡ other.silent
  pub ends : course.ending ≡ responds r
  pub ends_too : other.ending ≡ responds also

rest_as : (course other rest more : Course) (k m : ℕ) (r also : PlainResponse) → RunsAs course other r also → course ≡ after_fetches k rest → other ≡ after_fetches m more → RunsAs rest more r also
rest_as course other rest more k m r also so is are = record {
  taken = sym (ap (λ (c : Course). c.taken) is) ∙ so.taken ∙ ap (λ (c : Course). c.taken) are;
  silent = sym (ap (λ (c : Course). c.silent) is) ∙ so.silent ∙ ap (λ (c : Course). c.silent) are;
  ends = sym (ap (λ (c : Course). c.ending) is) ∙ so.ends;
  ends_too = sym (ap (λ (c : Course). c.ending) are) ∙ so.ends_too;
}

-- responses of runs over stages that are sure are in a relation, where those of the runs after them are
module _ {X : Type 0} (here there : Stage X) (Same : X → X → Type 0) (Goes GoesToo : X → Course → Type 0) (r also : PlainResponse) (Like : Type 0) (one_is : r ≡ also → Like)
    (sure : AreSure here there Same) (one : (x y : X) (rest more : Course) → Same x y → RunsAs rest more r also → Goes x rest → GoesToo y more → Like) where
  either : (course other : Course) → RunsAs course other r also → GoesWith here Goes course ⊎ ((k : ℕ) × here.Refuses r k) → GoesWith there GoesToo other ⊎ ((k : ℕ) × there.Refuses also k) → Like
  either course other so (inl a) (inl b) =
      one a.x b.x a.rest b.rest (sure.same a.x b.x a.count b.count a.opens b.opens) (rest_as course other a.rest b.rest a.count b.count r also so a.is_rest b.is_rest) a.goes b.goes
  either course other so (inl a) (inr b) = absurd (sure.opens_or a.x also a.count b.0 a.opens b.1)
  either course other so (inr a) (inl b) = absurd (sure.refuses_or b.x r a.0 b.count a.1 b.opens)
  either course other so (inr a) (inr b) = one_is (sure.one_refusal r also a.0 b.0 a.1 b.1)

  pub one_like : (course other : Course) → RunsAs course other r also → Behind here Goes course → Behind there GoesToo other → Like
  one_like course other so is are = either course other so (went_on here Goes course r is so.ends) (went_on there GoesToo other also are so.ends_too)

pub told : (P : PlainResponse → Type 0) (course : Course) (r : PlainResponse) → Responds P course → course.ending ≡ responds r → P r
told P course r (responded s is ends) at =
    let here = ap (λ (c : Course). c.ending) ends in
    let same : s ≡ r = cc in subst P same is
told P course r (out_of_memory ends) at = let here = ap (λ (c : Course). c.ending) ends in cc

pub has_units : (doc : PlainDoc Mark) (root bytes : List ℕ) → IsDocumentText root bytes doc → HasUnits doc.root
has_units doc root bytes text = (keeps root bytes doc text).units

-- two documents with one text differ in marks at most
pub unmarked_same : SpellsOneDocument → (doc same : PlainDoc Mark) → IsSameText doc same → unmarked_doc doc ≡ unmarked_doc same
unmarked_same one doc same text = one text.root text.bytes doc same text.is_text.spelled text.is_same.spelled
