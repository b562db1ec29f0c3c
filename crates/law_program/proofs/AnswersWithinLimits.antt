-- Where the words are a command, and its files and its script are within their grammars and limits,
-- there is an answer.
use Rattle.std.proofs.Common.{◌⊎◌, ◌≤◌, ◌<◌, inl, inr, ℕ, List}
use Rattle.std.proofs.Common.{Option, Ok, Err, refl, sym, subst, arith}
use Rattle.pv_cert.specs.Laws.{OneMeaning as PacksMeanOne}
use Rattle.pv_cert.specs.Meaning.{is_fault, is_pack, is_past_limit}
use Rattle.pv_chars.specs.Laws.{TextsMeanOne}
use Rattle.pv_denial_text.specs.Laws.{OneMeaning as DenialsMeanOne}
use Rattle.pv_denial_text.specs.Meaning.{is_denial, is_fault as is_table_fault}
use Rattle.pv_denial_text.specs.Meaning.{is_past_limit as is_past_table_limit}
use Rattle.pv_dtd.specs.Laws.{OneMeaning as DtdsMeanOne}
use Rattle.pv_dtd.specs.Meaning.{is_dtd, faulty as faulty_dtd}
use Rattle.pv_params.specs.Laws.{AtMostOne}
use Rattle.pv_params.specs.Meaning.{expanded, faulty as faulty_parameters}
use Rattle.pv_read.specs.DocumentLaws.{DocumentsMeanOne}
use Rattle.pv_read.specs.Meaning.{document_limits, faulty, is_document, too_long}
use Rattle.pv_standoff.specs.Laws.{OneMeaning as NestsMeanOne, OneReading}
use Rattle.pv_standoff.specs.declared.errors.NestError.TheVariants.{Deep}
use Rattle.pv_standoff.specs.declared.errors.RangesError.TheVariants.{Limit as TooMany, Syntax}
use Rattle.law_program.specs.Causes.{PassesLimit, RespondsBy}
use Rattle.law_program.specs.Causes.{IsBadDtd, HasBadParameters, IsBadDocument, IsBadText}
use Rattle.law_program.specs.Causes.{IsBadPack, IsBadRanges, AreUnnested}
use Rattle.law_program.specs.Causes.{IsBadDenial, denial_values, denial_file, in_denial}
use Rattle.law_program.specs.Causes.{denial_width}
use Rattle.law_program.specs.Causes.{dtd_file, document_file, parameters, in_dtd, in_document}
use Rattle.law_program.specs.Causes.{document_bytes, list_width, weights_width, missing_elements}
use Rattle.law_program.specs.Causes.{table_entries, pack_file, in_pack, pack_width, text_file}
use Rattle.law_program.specs.Causes.{ranges_file, range_lines, nested_depth, nested_width}
use Rattle.law_program.specs.Causes.{script_line, whole_script}
use Rattle.pv_cli.specs.CommandLine.{PlainCommandLine}
use Rattle.pv_opening.specs.Devices.{Devices}
use Rattle.pv_cli.specs.Headline.{HadNoMemory}
use Rattle.pv_cli.specs.Laws.{Answered, AnswersWithoutFault}
use Rattle.pv_opening.specs.Opening.{Files}
use Rattle.pv_cli.specs.Program.{Runs}
use Rattle.law_program.specs.Within.{AnswersWithin, IsAllWithin, IsAnswered, PassesLimitOfLists}
use Rattle.pv_opening.specs.declared.status.Status.{Status}
use Rattle.pv_opening.specs.declared.status.Status.TheVariants.{Done, Negative, Usage, ReadFault}
use Rattle.pv_opening.specs.declared.status.Status.TheVariants.{WriteFault, NoMemory, BadDtd}
use Rattle.pv_opening.specs.declared.status.Status.TheVariants.{BadDocument, BadPack, Limit}
use Rattle.law_program.proofs.Causes.{responds_caused}

-- what the laws say that the proof stands on
pub record MeanOnce : Type 0 where
  pub expansions : AtMostOne
  pub dtds : DtdsMeanOne
  pub documents : DocumentsMeanOne
  pub packs : PacksMeanOne
  pub denials : DenialsMeanOne
  pub texts : TextsMeanOne
  pub lines : OneReading
  pub nests : NestsMeanOne

no_more : (most n : ℕ) → n ≤ most → most < n → ⊥
no_more most n within past = omega arith

module _ (once : MeanOnce) (line : Option PlainCommandLine) (files : Files)
    (taken : Option (List ℕ)) (within : IsAllWithin line files taken) where
  limited : PassesLimit line files taken → PassesLimitOfLists line files taken
  limited (dtd_file bytes is past) = absurd (no_more _ _ (within.dtd_file bytes is).short past)
  limited (document_file bytes is past) = absurd (no_more _ _ (within.second_file bytes is) past)
  limited (parameters bytes fault is faulty_too limit) =
      let fine = within.dtd_file bytes is in
      let same = once.expansions bytes (expanded fine.text) (faulty_parameters fault) fine.expands
      faulty_too in
      cc
  limited (in_dtd bytes kind items reads means limit) =
      let fine = within.dtd bytes reads in
      let one = once.dtds bytes in
      let same = one.only (is_dtd fine.g) fine.means in
      let other = one.only (faulty_dtd kind items) means in
      cc
  limited (in_document root bytes kind items reads means limit) =
      let fine = within.document root bytes reads in
      let same = once.documents document_limits root bytes (is_document fine.doc)
      (faulty kind items) fine.means means in
      cc
  limited (document_bytes root bytes reads means) =
      let fine = within.document root bytes reads in
      let same = once.documents document_limits root bytes (is_document fine.doc) too_long
      fine.means means in
      cc
  limited (list_width root g doc path test tests wide reads first) =
      record { limit = list_width root g doc path test tests wide reads first; is_of_lists = refl }
  limited (weights_width root g doc path makes reads stops) =
      record { limit = weights_width root g doc path makes reads stops; is_of_lists = refl }
  limited (missing_elements root g doc makes reads heavy) =
      record { limit = missing_elements root g doc makes reads heavy; is_of_lists = refl }
  limited (table_entries root g doc makes reads many) =
      record { limit = table_entries root g doc makes reads many; is_of_lists = refl }
  limited (denial_values root g doc tests reads many) =
      record { limit = denial_values root g doc tests reads many; is_of_lists = refl }
  limited (pack_file bytes reads past) = absurd (no_more _ _ (within.pack bytes reads).means.0 past)
  limited (in_pack bytes reads means) =
      let fine = within.pack bytes reads in
      let same = once.packs bytes (is_pack fine.pack) is_past_limit fine.means means in
      cc
  limited (pack_width root g doc pack path reads first) =
      record { limit = pack_width root g doc pack path reads first; is_of_lists = refl }
  limited (denial_file bytes reads past) =
      absurd (no_more _ _ (within.denial bytes reads).means.0 past)
  limited (in_denial bytes reads means) =
      let fine = within.denial bytes reads in
      let same = once.denials bytes (is_denial fine.denial) is_past_table_limit fine.means means in
      cc
  limited (denial_width root g doc denial reads wide) =
      record { limit = denial_width root g doc denial reads wide; is_of_lists = refl }
  limited (text_file root bytes reads past) =
      absurd (no_more _ _ (within.text root bytes reads).short past)
  limited (ranges_file bytes reads past) =
      absurd (no_more _ _ (within.ranges bytes reads).short past)
  limited (range_lines bytes reads mean) =
      let fine = within.ranges bytes reads in
      let same = once.lines bytes (Ok fine.ranges) (Err TooMany) fine.mean mean in
      cc
  limited (nested_depth root g text ranges reads nests) =
      let fine = within.nested root g text ranges reads in
      let same = once.nests root text ranges (Ok fine.doc) (Err Deep) fine.nests nests in
      cc
  limited (nested_width root g doc path reads first) =
      record { limit = nested_width root g doc path reads first; is_of_lists = refl }
  limited (script_line script reads is long) =
      let fine = (within.script script reads is).lines in cc
  limited (whole_script script reads is past) =
      absurd (no_more _ _ (within.script script reads is).whole past)

  no_bad_dtd : IsBadDtd line files ⊎ HasBadParameters files → ⊥
  no_bad_dtd (inl bad) =
      let fine = within.dtd bad.bytes bad.reads in
      let one = once.dtds bad.bytes in
      let same = one.only (is_dtd fine.g) fine.means in
      let other = one.only (faulty_dtd bad.kind bad.items) bad.means in
      cc
  no_bad_dtd (inr bad) =
      let fine = within.dtd_file bad.bytes bad.is_file in
      let same = once.expansions bad.bytes (expanded fine.text) (faulty_parameters bad.fault)
      fine.expands bad.expands in
      cc

  no_bad_document : IsBadDocument line files ⊎ IsBadText line files → ⊥
  no_bad_document (inl bad) =
      let fine = within.document bad.root bad.bytes bad.reads in
      let same = once.documents document_limits bad.root bad.bytes (is_document fine.doc)
      (faulty bad.kind bad.items) fine.means bad.means in
      cc
  no_bad_document (inr bad) =
      let fine = within.text bad.root bad.bytes bad.reads in
      let same = once.texts bad.bytes (Ok fine.units) (Err bad.fault) fine.means bad.means in
      cc

  no_bad_pack : IsBadPack line files ⊎ IsBadRanges line files ⊎ AreUnnested line files
      ⊎ IsBadDenial line files → ⊥
  no_bad_pack (inl bad) =
      let fine = within.pack bad.bytes bad.reads in
      let same = once.packs bad.bytes (is_pack fine.pack) (is_fault bad.lines) fine.means
      bad.means in
      cc
  no_bad_pack (inr (inl bad)) =
      let fine = within.ranges bad.bytes bad.reads in
      let same = once.lines bad.bytes (Ok fine.ranges) (Err (Syntax bad.lines)) fine.mean
      bad.means in
      cc
  no_bad_pack (inr (inr (inr bad))) =
      let fine = within.denial bad.bytes bad.reads in
      let same = once.denials bad.bytes (is_denial fine.denial) (is_table_fault bad.lines)
      fine.means bad.means in
      cc
  no_bad_pack (inr (inr (inl bad))) =
      let fine = within.nested bad.root bad.g bad.text bad.ranges bad.reads in
      let same = once.nests bad.root bad.text bad.ranges (Ok fine.doc) (Err bad.fault) fine.nests
      bad.means in
      cc

  -- a response of each status
  answer : (status : Status) → RespondsBy line files taken status →
      IsAnswered line files taken status
  answer Done cause = inl refl
  answer Negative cause = inr (inl (refl, cause))
  answer Usage cause = absurd (within.command cause)
  answer ReadFault cause = absurd cause
  answer WriteFault cause = absurd cause
  answer NoMemory cause = absurd cause
  answer BadDtd cause = absurd (no_bad_dtd cause)
  answer BadDocument cause = absurd (no_bad_document cause)
  answer Limit cause = inr (inr (refl, limited cause))
  answer BadPack cause = absurd (no_bad_pack cause)

answered : {S : Type 0} (once : MeanOnce) (line : Option PlainCommandLine)
    (before after : Devices S) (status : Status) (run : Runs line before after status) →
    IsAllWithin line run.files run.course.taken → HadNoMemory before after status ⊎ Answered run →
    HadNoMemory before after status ⊎ IsAnswered line run.files run.course.taken status
answered once line before after status run within (inl none) = inl none
answered once line before after status run within (inr told) =
    let cause = responds_caused line run.files run.course told.response run.is_defined
    told.is_response in
    inr (subst (IsAnswered line run.files run.course.taken) (sym told.is_status)
    (answer once line run.files run.course.taken within told.response.status cause))

pub answers_within : (S : Type 0) → MeanOnce → AnswersWithoutFault S → AnswersWithin S
answers_within S once complete line before after status run no_shelf no_input no_output within =
    answered once line before after status run within
    (complete line before after status run no_shelf no_input no_output)
