-- Over given files, script and silent lines there is one response, but for the documents of
-- completions.
use Rattle.std.proofs.Common.{◌≡◌, ℕ, List, Some, None, sym, ◌∙◌, subst}
use Rattle.pv_dtd.specs.Plain.{PlainDtd}
use Rattle.pv_tree.specs.Laws.{IsValidByLists}
use Rattle.pv_tree.specs.declared.nodes.Mark.{Mark}
use Rattle.pv_read.specs.DocumentLaws.{SpellsOneDocument}
use Rattle.law_program.specs.Alike.{VerbRespondsAlike, are_one}
use Rattle.pv_commands.specs.Certificates.{certificate_stage}
use Rattle.pv_cli.specs.CommandLine.{drill, on_certificate, on_document, on_dtd, on_ranges}
use Rattle.pv_cli.specs.Commands.{VerbTells}
use Rattle.pv_opening.specs.Course.{Course}
use Rattle.pv_commands.specs.DenialFiles.{denial_file_stage}
use Rattle.pv_commands.specs.Deny.{TellsJudgement}
use Rattle.pv_opening.specs.Documents.{PlainOpened}
use Rattle.pv_cli.specs.Drill.{TellsCounts, drill_stage}
use Rattle.pv_commands.specs.Dtd.{TellsDtd}
use Rattle.law_program.specs.Laws.{HasOneResponse}
use Rattle.pv_opening.specs.Opening.{dtd_file_stage, file_at, opening_stage}
use Rattle.pv_opening.specs.Response.{PlainResponse}
use Rattle.pv_opening.specs.Stage.{Responds}
use Rattle.pv_commands.specs.Standoff.{IsShownCourse, nested_stage}
use Rattle.pv_commands.specs.Valid.{IsValidCourse, TellsValidity}
use Rattle.pv_commands.specs.PackFiles.{pack_file_stage}
use Rattle.pv_commands.specs.Verify.{TellsOfPack}
use Rattle.pv_cli.specs.declared.checker.Checker.TheVariants.{Deny, Verify}
use Rattle.pv_cli.specs.declared.verb.Verb.{Verb}
use Rattle.pv_cli.specs.declared.verb.Verb.TheVariants.{Valid, Check, Session, Complete, Why}
use Rattle.pv_conversation.proofs.Likeness.{one_response_alike}
use Rattle.law_program.proofs.OneAnnotation.{NestsOnce, nested_sure, one_annotation}
use Rattle.law_program.proofs.OneCheck.{check_once}
use Rattle.law_program.proofs.OneDenial.{DeniesOnce, denial_file_sure, one_denial, why_once}
use Rattle.law_program.proofs.OneDrill.{drill_sure, one_drill}
use Rattle.law_program.proofs.OneDtd.{one_dtd}
use Rattle.pv_opening.proofs.OneOpening.{AreSameOpened, IsEqual, IsSamePair, ReadsOne, ReadsOneDtd}
use Rattle.pv_opening.proofs.OneOpening.{RunsAs, dtd_file_sure, has_units, one_like, opening_sure}
use Rattle.pv_opening.proofs.OneOpening.{told, unmarked_same}
use Rattle.law_program.proofs.OnePack.{ListsOnce, complete_once}
use Rattle.pv_conversation.proofs.OneReplies.{AnswersOnce}
use Rattle.pv_conversation.proofs.OneSession.{session_once}
use Rattle.law_program.proofs.OneVerdict.{one_verdict}
use Rattle.law_program.proofs.OneVerification.{AreSameFiles, VerifiesOnce, certificate_sure}
use Rattle.law_program.proofs.OneVerification.{one_verification, pack_file_sure}

valid_once : SpellsOneDocument → IsValidByLists Mark →
    (root : List ℕ) (x y : PlainOpened) (course other : Course) (r also : PlainResponse) →
    AreSameOpened x y → RunsAs course other r also →
    IsValidCourse root x course → IsValidCourse root y other → r ≡ also
valid_once one by_lists root x y course other r also same so is are =
    let text = same.docs in
    one_verdict by_lists root x.dtd x.doc y.doc r also
    (has_units x.doc text.root text.bytes text.is_text)
    (has_units y.doc text.root text.bytes text.is_same)
    (unmarked_same one x.doc y.doc text) (told (TellsValidity root x.dtd x.doc) course r is so.ends)
    (subst (λ (d : PlainDtd). TellsValidity root d y.doc also) (sym same.dtds)
    (told (TellsValidity root y.dtd y.doc) other also are so.ends_too))

-- what the laws that this stands on say
record KnowsOne : Type 0 where
  documents : ReadsOne
  by_lists : IsValidByLists Mark
  once : AnswersOnce
  lists : ListsOnce
  denials : DeniesOnce

-- a line for each verb
verb_once : KnowsOne →
    (verb : Verb) (root : List ℕ) (x y : PlainOpened) (course other : Course)
    (r also : PlainResponse) → AreSameOpened x y → RunsAs course other r also →
    VerbTells verb root x course → VerbTells verb root y other → VerbRespondsAlike verb r also
verb_once known Valid = valid_once known.documents.spells_one known.by_lists
verb_once known Check = check_once known.documents.spells_one
verb_once known Session = session_once known.once known.documents.spells_one
verb_once known Complete = complete_once known.lists known.documents.spells_one
verb_once known Why = why_once known.denials known.documents.spells_one

equal_alike : (verb : Verb) (r also : PlainResponse) → r ≡ also → VerbRespondsAlike verb r also
equal_alike Valid r also is = is
equal_alike Check r also is = is
equal_alike Session r also is = one_response_alike r also is
equal_alike Complete r also is = are_one is
equal_alike Why r also is = is

pub one_response : ReadsOneDtd → ReadsOne → IsValidByLists Mark → AnswersOnce → ListsOnce →
    VerifiesOnce → NestsOnce → DeniesOnce → HasOneResponse
one_response dtds documents by_lists once lists packs nests denials None files course other r also
    is are taken silent at on = told _ course r is at ∙ sym (told _ other also are on)
one_response dtds documents by_lists once lists packs nests denials (Some (on_dtd dtd)) files course
    other r also is are taken silent at on =
    let stage = dtd_file_stage (file_at 0 files) in
    one_like stage stage IsEqual (λ g. Responds (TellsDtd g)) (λ g. Responds (TellsDtd g)) r also
    (r ≡ also) (λ e. e) (dtd_file_sure dtds (file_at 0 files))
    (λ g h rest more same both goes others. one_dtd g r also
    (told (TellsDtd g) rest r goes both.ends)
    (subst (λ (d : PlainDtd). TellsDtd d also) (sym same)
    (told (TellsDtd h) more also others both.ends_too)))
    course other (record { taken = taken; silent = silent; ends = at; ends_too = on }) is are
one_response dtds documents by_lists once lists packs nests denials
    (Some (on_document verb dtd root doc)) files course other r also is are taken silent at on =
    let stage = opening_stage root files in
    one_like stage stage AreSameOpened (VerbTells verb root) (VerbTells verb root) r also
    (VerbRespondsAlike verb r also) (equal_alike verb r also)
    (opening_sure dtds documents root files)
    (λ x y rest more same both goes others. verb_once
    (record {
      documents = documents;
      by_lists = by_lists;
      once = once;
      lists = lists;
      denials = denials;
    }) verb root x y rest more r also same both goes others)
    course other (record { taken = taken; silent = silent; ends = at; ends_too = on }) is are
one_response dtds documents by_lists once lists packs nests denials
    (Some (on_certificate Verify dtd root doc file)) files course other r also is are taken silent
    at on =
    let stage = certificate_stage pack_file_stage root files in
    one_like stage stage AreSameFiles
    (λ both. Responds (TellsOfPack root both.0.dtd both.0.bytes both.1))
    (λ both. Responds (TellsOfPack root both.0.dtd both.0.bytes both.1)) r also (r ≡ also) (λ e. e)
    (certificate_sure pack_file_stage (pack_file_sure packs.packs) dtds documents root files)
    (λ x y rest more same both goes others. one_verification packs documents.means_one root x y r
    also same (told (TellsOfPack root x.0.dtd x.0.bytes x.1) rest r goes both.ends)
    (told (TellsOfPack root y.0.dtd y.0.bytes y.1) more also others both.ends_too))
    course other (record { taken = taken; silent = silent; ends = at; ends_too = on }) is are
one_response dtds documents by_lists once lists packs nests denials
    (Some (on_certificate Deny dtd root doc file)) files course other r also is are taken silent
    at on =
    let stage = certificate_stage denial_file_stage root files in
    one_like stage stage AreSameFiles
    (λ both. Responds (TellsJudgement root both.0.dtd both.0.doc both.1))
    (λ both. Responds (TellsJudgement root both.0.dtd both.0.doc both.1)) r also (r ≡ also) (λ e. e)
    (certificate_sure denial_file_stage (denial_file_sure denials.texts) dtds documents root files)
    (λ x y rest more same both goes others. one_denial denials documents.spells_one root x y r also
    same (told (TellsJudgement root x.0.dtd x.0.doc x.1) rest r goes both.ends)
    (told (TellsJudgement root y.0.dtd y.0.doc y.1) more also others both.ends_too))
    course other (record { taken = taken; silent = silent; ends = at; ends_too = on }) is are
one_response dtds documents by_lists once lists packs nests denials
    (Some (on_ranges dtd root text ranges)) files course other r also is are taken silent at on =
    let stage = nested_stage root files in
    one_like stage stage (IsSamePair IsEqual) (λ nested. IsShownCourse root nested.0 nested.1)
    (λ nested. IsShownCourse root nested.0 nested.1) r also (r ≡ also) (λ e. e)
    (nested_sure nests root dtds files)
    (λ x y rest more same both here there. one_annotation root x y rest more r also same both here
    there)
    course other (record { taken = taken; silent = silent; ends = at; ends_too = on }) is are
one_response dtds documents by_lists once lists packs nests denials (Some (drill n)) files course
    other r also is are taken silent at on =
    one_like (drill_stage n) (drill_stage n) IsEqual (λ s. Responds (TellsCounts n s))
    (λ s. Responds (TellsCounts n s)) r also (r ≡ also) (λ e. e)
    (drill_sure dtds.means_one documents n)
    (λ x y rest more same both here there. one_drill once n x y r also same
    (told (TellsCounts n x) rest r here both.ends)
    (told (TellsCounts n y) more also there both.ends_too))
    course other (record { taken = taken; silent = silent; ends = at; ends_too = on }) is are
