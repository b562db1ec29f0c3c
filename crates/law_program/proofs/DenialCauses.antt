-- The causes of responses to `why` and to a denial.
use Rattle.std.proofs.Common.{inl, inr, ℕ, List, Option, Some, refl, sym, subst}
use Rattle.pv_denial.specs.declared.denials.Denial.{Denial}
use Rattle.pv_dtd.specs.Plain.{PlainDtd}
use Rattle.pv_tree.specs.Plain.{PlainDoc}
use Rattle.pv_tree.specs.declared.nodes.Mark.{Mark}
use Rattle.law_program.specs.Causes.{ReadsBoth, ReadsCertificate, ReadsDenial, RespondsBy, TestsFor}
use Rattle.law_program.specs.Causes.{can_be_valid, denial_file, denial_values, denial_width}
use Rattle.law_program.specs.Causes.{in_denial, not_denied}
use Rattle.pv_commands.specs.Certificates.{certificate_stage}
use Rattle.pv_cli.specs.CommandLine.{PlainCommandLine, on_certificate}
use Rattle.law_program.specs.Tests.{impossibility}
use Rattle.pv_commands.specs.DenialFiles.{RefusesDenial, denial_file_stage, no_denial, too_large}
use Rattle.pv_commands.specs.Deny.{TellsJudgement, is_denied, is_rejected, is_too_wide}
use Rattle.pv_opening.specs.Documents.{PlainOpened}
use Rattle.pv_opening.specs.Opening.{Files, opening_stage}
use Rattle.pv_opening.specs.Response.{PlainResponse}
use Rattle.pv_commands.specs.Why.{TellsWhy, has_too_many, is_denied as is_explained, is_possible}
use Rattle.pv_cli.specs.declared.checker.Checker.TheVariants.{Deny}
use Rattle.pv_opening.specs.declared.status.Status.TheVariants.{Done, Negative, BadPack, Limit}
use Rattle.law_program.proofs.ResponseCauses.{by_status, opening_reads, opening_refused}

-- why a document is impossible
pub why_told : (line : Option PlainCommandLine) (files : Files) (taken : Option (List ℕ))
    (root : List ℕ) (g : PlainDtd) (doc : PlainDoc Mark) → ReadsBoth line files root g doc →
    (r : PlainResponse) →
    TestsFor line impossibility → TellsWhy root g doc r → RespondsBy line files taken r.status
why_told line files taken root g doc both r tests (is_explained denial never denies is) =
    by_status line files taken Done r _ is refl tt
why_told line files taken root g doc both r tests (has_too_many never many is) =
    by_status line files taken Limit r _ is refl (denial_values root g doc tests both many)
why_told line files taken root g doc both r tests (is_possible can is) =
    by_status line files taken Negative r _ is refl (can_be_valid root g doc tests both can)

-- a denial, and the tests of it
pub denial_refused : (line : Option PlainCommandLine) (files : Files) (taken : Option (List ℕ))
    (bytes : List ℕ) (r : PlainResponse) → ReadsCertificate Deny line files bytes →
    RefusesDenial bytes r → RespondsBy line files taken r.status
denial_refused line files taken bytes r reads (no_denial k means is) =
    by_status line files taken BadPack r _ is refl
    (inr (inr (inr record { bytes = bytes; reads = reads; lines = k; means = means })))
denial_refused line files taken bytes r reads (too_large means is) =
    by_status line files taken Limit r _ is refl (in_denial bytes reads means)

judgement_told : (line : Option PlainCommandLine) (files : Files) (taken : Option (List ℕ))
    (root : List ℕ) (g : PlainDtd) (doc : PlainDoc Mark) (denial : Denial) (r : PlainResponse) →
    ReadsDenial line files root g doc denial →
    TellsJudgement root g doc denial r → RespondsBy line files taken r.status
judgement_told line files taken root g doc denial r reads (is_denied judges never is) =
    by_status line files taken Done r _ is refl tt
judgement_told line files taken root g doc denial r reads (is_rejected test fails is) =
    by_status line files taken Negative r _ is refl (not_denied root g doc denial test reads fails)
judgement_told line files taken root g doc denial r reads (is_too_wide wide is) =
    by_status line files taken Limit r _ is refl (denial_width root g doc denial reads wide)

module _ (dtd root doc file : List ℕ) (files : Files) where
  abbrev deny_line : Option PlainCommandLine
  deny_line = Some (on_certificate Deny dtd root doc file)

  -- what `deny` read
  pub denial_reads : (both : PlainOpened × Denial) (k : ℕ) →
      (certificate_stage denial_file_stage root files).Opens both k →
      ReadsDenial (Some (on_certificate Deny dtd root doc file)) files root both.0.dtd both.0.doc
      both.1
  denial_reads both k (o, i, j, opens, (same, (bytes, u, v, given, read, f)), e) = record {
    both = opening_reads deny_line root files (λ text is. is) (λ bytes is. (refl, is)) both.0 i
        (subst (λ (p : PlainOpened). (opening_stage root files).Opens p i) (sym same) opens);
    bytes = bytes;
    reads = (refl, given.0.is_file);
    means = read.0;
  }

  module _ (taken : Option (List ℕ)) where
    pub deny_refused : (r : PlainResponse) (k : ℕ) →
        (certificate_stage denial_file_stage root files).Refuses r k →
        RespondsBy (Some (on_certificate Deny dtd root doc file)) files taken r.status
    deny_refused r k (inl denies) =
        opening_refused deny_line root files (λ text is. is) (λ bytes is. (refl, is)) taken r k
        denies
    deny_refused r k (inr (o, i, j, opens, inl long, e)) =
        by_status deny_line files taken Limit r _ long.0.is_response refl
        (denial_file long.0.bytes (refl, long.0.is_file) long.0.beyond)
    deny_refused r k (inr (o, i, j, opens, inr (bytes, u, v, given, denies, f), e)) =
        denial_refused deny_line files taken bytes r (refl, given.0.is_file) denies.0

    pub deny_told : (both : PlainOpened × Denial) (k : ℕ) (r : PlainResponse) →
        (certificate_stage denial_file_stage root files).Opens both k →
        TellsJudgement root both.0.dtd both.0.doc both.1 r →
        RespondsBy (Some (on_certificate Deny dtd root doc file)) files taken r.status
    deny_told both k r opens told =
        judgement_told deny_line files taken root both.0.dtd both.0.doc both.1 r
        (denial_reads both k opens) told
