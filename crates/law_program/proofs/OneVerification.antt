-- Over given files `verify` has one response.
use Rattle.std.proofs.Common.{◌≡◌, [], ◌∷◌, ◌++◌, ◌∙◌, ℕ, List, Option, ap, codes, decimal, subst, sym}
use Rattle.std.proofs.lemmas.List.Elements.{All-contains}
use Rattle.std.specs.List.{Contains}
use Rattle.pv_cert.specs.Laws.{OneMeaning}
use Rattle.pv_cert.specs.Meaning.{MAX_PACK_BYTES, PackMeans, is_fault, is_pack, is_past_limit}
use Rattle.pv_cert.specs.declared.packs.Pack.{Pack}
use Rattle.pv_table_check.specs.ClosedTables.{AreNarrowTables, IsFirstWideTable, IsNarrowTable}
use Rattle.pv_dtd.specs.Plain.{PlainDtd}
use Rattle.pv_read.specs.DocumentLaws.{DocumentsMeanOne}
use Rattle.pv_read.specs.Meaning.{document_limits, is_document}
use Rattle.pv_words.specs.Paths.{path_text}
use Rattle.pv_tables.specs.declared.tables.Table.{Table}
use Rattle.pv_tree.specs.Lists.{Listed, lists_of}
use Rattle.pv_tree.specs.Plain.{PlainDoc}
use Rattle.pv_tree.specs.declared.nodes.Mark.{Mark}
use Rattle.pv_tree.proofs.JoinedLists.{contains_first, contains_later}
use Rattle.pv_verify.specs.Laws.{OneAnswer}
use Rattle.pv_commands.specs.Certificates.{certificate_stage}
use Rattle.pv_opening.specs.Documents.{PlainOpened}
use Rattle.pv_opening.specs.Opening.{Files, fetch_stage, file_at, opening_stage}
use Rattle.pv_commands.specs.PackFiles.{RefusesPack, no_pack, pack_file_stage, pack_stage, too_large}
use Rattle.pv_opening.specs.Response.{PlainResponse, with_line}
use Rattle.pv_opening.specs.Stage.{Stage, beside}
use Rattle.pv_commands.specs.Verify.{TellsAcceptance, TellsOfPack, is_accepted, is_rejected, names_wide, test_text}
use Rattle.pv_opening.specs.declared.status.Status.TheVariants.{BadPack, Limit, Negative}
use Rattle.pv_opening.proofs.OneOpening.{AreSameOpened, AreSure, IsEqual, IsSure, ReadsOne, ReadsOneDtd, fetch_sure, followed_sure, opening_sure, reading_sure, sure_at}

-- both have the same DTD, document and certificate
abbrev pub AreSameFiles : {Z : Type 0} → PlainOpened × Z → PlainOpened × Z → Type 0
AreSameFiles a b = AreSameOpened a.0 b.0 × (a.1 ≡ b.1)

module _ {X Z : Type 0} (stage : Stage Z) (sure : IsSure stage IsEqual)
    (Same : X → X → Type 0) where
  pub beside_same : (x z : X) → Same x z →
      AreSure (beside x stage) (beside z stage) (λ a b. Same a.0 b.0 × (a.1 ≡ b.1))
  beside_same x z same = record {
    opens_or = λ both r k m opens refuses. sure.opens_or both.1 r k m opens.1 refuses;
    refuses_or = λ both r k m refuses opens. sure.refuses_or both.1 r k m refuses opens.1;
    one_refusal = sure.one_refusal;
    same = λ a b k m opens others. (
      subst (λ (p : X). Same a.0 p) (sym others.0)
          (subst (λ (p : X). Same p z) (sym opens.0) same),
      sure.same a.1 b.1 k m opens.1 others.1,
    );
  }

-- over given files the same DTD, document and certificate are opened, or there is one refusal
pub certificate_sure : {Z : Type 0} (reading : Option (List ℕ) → Stage Z) →
    ((file : Option (List ℕ)) → IsSure (reading file) IsEqual) → ReadsOneDtd → ReadsOne →
    (root : List ℕ) (files : Files) →
    IsSure (certificate_stage reading root files) AreSameFiles
certificate_sure reading sure dtds documents root files =
    let first = opening_stage root files in
    let second = reading (file_at 2 files) in
    followed_sure first first AreSameOpened (λ o. beside o second) (λ o. beside o second)
    AreSameFiles (opening_sure dtds documents root files)
    (beside_same second (sure (file_at 2 files)) AreSameOpened)

module _ (one : OneMeaning) (bytes : List ℕ) where
  pack_or : (pack : Pack) (r : PlainResponse) → PackMeans bytes (is_pack pack) →
      RefusesPack bytes r → ⊥
  pack_or pack r means (no_pack k faulty is) =
      let same = one bytes (is_pack pack) (is_fault k) means faulty in cc
  pack_or pack r means (too_large past is) =
      let same = one bytes (is_pack pack) is_past_limit means past in cc

  one_pack_refusal : (r also : PlainResponse) → RefusesPack bytes r → RefusesPack bytes also →
      r ≡ also
  one_pack_refusal r also (no_pack k faulty is) (no_pack n again are) =
      let same = one bytes (is_fault k) (is_fault n) faulty again in
      let lines : k ≡ n = cc in
      is ∙ ap (λ l. with_line BadPack (codes "pack line " ++ decimal l)) lines ∙ sym are
  one_pack_refusal r also (no_pack k faulty is) (too_large past are) =
      let same = one bytes (is_fault k) is_past_limit faulty past in cc
  one_pack_refusal r also (too_large past is) (no_pack n again are) =
      let same = one bytes is_past_limit (is_fault n) past again in cc
  one_pack_refusal r also (too_large past is) (too_large again are) = is ∙ sym are

  pack_sure : IsSure (pack_stage bytes) IsEqual
  pack_sure =
      reading_sure (λ pack. PackMeans bytes (is_pack pack)) (λ pack. PackMeans bytes (is_pack pack))
      (RefusesPack bytes) (RefusesPack bytes) IsEqual
      pack_or (λ pack r denies means. pack_or pack r means denies) one_pack_refusal
      (λ pack other means again. let same = one bytes (is_pack pack) (is_pack other) means again in
      cc)

pub pack_file_sure : OneMeaning → (file : Option (List ℕ)) → IsSure (pack_file_stage file) IsEqual
pack_file_sure one file =
    let fetch = fetch_stage file MAX_PACK_BYTES (codes "limit pack-file") in
    followed_sure fetch fetch IsEqual pack_stage pack_stage IsEqual
    (fetch_sure file MAX_PACK_BYTES (codes "limit pack-file"))
    (sure_at pack_stage IsEqual (pack_sure one))

holds : (before : List Table) (t : Table) (after : List Table) → Contains (before ++ t ∷ after) t
holds [] t after = contains_first t after
holds (b ∷ bs) t after = contains_later b (bs ++ t ∷ after) t (holds bs t after)

-- of two first ones that aren't so, one is the other
first_is : (P : Table → Type 0) (b c : List Table) (t u : Table) (vs ws : List Table) →
    b ++ t ∷ vs ≡ c ++ u ∷ ws → ((z : Table) → Contains b z → P z) →
    ((z : Table) → Contains c z → P z) →
    (P t → ⊥) → (P u → ⊥) → t ≡ u
first_is P [] [] t u vs ws e p q n m = cc
first_is P [] (y ∷ c) t u vs ws e p q n m =
    let same : t ≡ y = cc in absurd (n (subst P (sym same) (q y (contains_first y c))))
first_is P (x ∷ b) [] t u vs ws e p q n m =
    let same : x ≡ u = cc in absurd (m (subst P same (p x (contains_first x b))))
first_is P (x ∷ b) (y ∷ c) t u vs ws e p q n m =
    let rest : b ++ t ∷ vs ≡ c ++ u ∷ ws = cc in
    first_is P b c t u vs ws rest (λ z k. p z (contains_later x b z k))
    (λ z k. q z (contains_later y c z k)) n m

module _ {M : Type 0} (g : PlainDtd) (lists : List (Listed M)) (ts : List Table)
    (path : List ℕ) where
  not_narrow : (f : IsFirstWideTable g lists ts path) → IsNarrowTable g lists f.table → ⊥
  not_narrow f is = f.is_wide (is f.list f.is_listed f.is_path)

  none_wide : AreNarrowTables g lists ts → IsFirstWideTable g lists ts path → ⊥
  none_wide all f =
      not_narrow f
      (All-contains (IsNarrowTable g lists) ts f.table all
      (subst (λ (us : List Table). Contains us f.table) (sym f.is_split)
      (holds f.before f.table f.after)))

  one_wide : (other : List ℕ) → IsFirstWideTable g lists ts path →
      IsFirstWideTable g lists ts other → path ≡ other
  one_wide other f h =
      let same = first_is (IsNarrowTable g lists) f.before h.before f.table h.table f.after h.after
      (sym f.is_split ∙ h.is_split)
      (λ z k. All-contains (IsNarrowTable g lists) f.before z f.all_before k)
      (λ z k. All-contains (IsNarrowTable g lists) h.before z h.all_before k) (not_narrow f)
      (λ is. h.is_wide (is h.list h.is_listed h.is_path)) in
      f.is_first ∙ ap (λ (t : Table). t.path) same ∙ sym h.is_first

module _ (once : OneAnswer Mark) (g : PlainDtd) (root : List ℕ) (doc : PlainDoc Mark)
    (pack : Pack) where
  one_acceptance : (r also : PlainResponse) → TellsAcceptance root g doc pack r →
      TellsAcceptance root g doc pack also → r ≡ also
  one_acceptance r also (is_accepted narrow passes least is) (is_accepted too pass short are) =
      is ∙ sym are
  one_acceptance r also (is_accepted narrow passes least is) (is_rejected test too fails are) =
      absurd ((once g root doc pack).not_both test fails passes)
  one_acceptance r also (is_accepted narrow passes least is) (names_wide path first are) =
      absurd (none_wide g (lists_of doc) pack.tables path narrow first)
  one_acceptance r also (is_rejected test narrow fails is) (is_accepted too passes least are) =
      absurd ((once g root doc pack).not_both test fails passes)
  one_acceptance r also (is_rejected test narrow fails is) (is_rejected other too again are) =
      is ∙ ap (λ t. with_line Negative (codes "rejected " ++ test_text t))
      ((once g root doc pack).one_first test other fails again) ∙ sym are
  one_acceptance r also (is_rejected test narrow fails is) (names_wide path first are) =
      absurd (none_wide g (lists_of doc) pack.tables path narrow first)
  one_acceptance r also (names_wide path first is) (is_accepted narrow passes least are) =
      absurd (none_wide g (lists_of doc) pack.tables path narrow first)
  one_acceptance r also (names_wide path first is) (is_rejected test narrow fails are) =
      absurd (none_wide g (lists_of doc) pack.tables path narrow first)
  one_acceptance r also (names_wide path first is) (names_wide other next are) =
      is ∙ ap (λ p. with_line Limit (codes "limit width " ++ path_text p))
      (one_wide g (lists_of doc) pack.tables path other first next) ∙ sym are

-- what the laws of packs say that the proof stands on
pub record VerifiesOnce : Type 0 where
  pub packs : OneMeaning
  pub answers : OneAnswer Mark

one_told : VerifiesOnce → DocumentsMeanOne →
    (root : List ℕ) (g : PlainDtd) (bytes : List ℕ) (pack : Pack) (r also : PlainResponse) →
    TellsOfPack root g bytes pack r → TellsOfPack root g bytes pack also → r ≡ also
one_told known one root g bytes pack r also here there =
    let same = one document_limits root bytes (is_document here.doc) (is_document there.doc)
    here.means there.means in
    let docs : there.doc ≡ here.doc = cc in
    one_acceptance known.answers g root here.doc pack r also here.tells
    (subst (λ (d : PlainDoc Mark). TellsAcceptance root g d pack also) docs there.tells)

pub one_verification : VerifiesOnce → DocumentsMeanOne →
    (root : List ℕ) (x y : PlainOpened × Pack) (r also : PlainResponse) → AreSameFiles x y →
    TellsOfPack root x.0.dtd x.0.bytes x.1 r → TellsOfPack root y.0.dtd y.0.bytes y.1 also →
    r ≡ also
one_verification known one root x y r also same here there =
    one_told known one root x.0.dtd x.0.bytes x.1 r also here
    (subst (λ (g : PlainDtd). TellsOfPack root g x.0.bytes x.1 also) (sym same.0.dtds)
    (subst (λ (bytes : List ℕ). TellsOfPack root y.0.dtd bytes x.1 also) (sym same.0.bytes)
    (subst (λ (pack : Pack). TellsOfPack root y.0.dtd y.0.bytes pack also) (sym same.1) there)))
