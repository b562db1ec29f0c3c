-- The causes of responses to a certificate.
use Rattle.std.proofs.Common.{inl, inr, ℕ, List, Option, Some, refl, sym, subst}
use Rattle.pv_cert.specs.declared.packs.Pack.{Pack}
use Rattle.pv_dtd.specs.Plain.{PlainDtd}
use Rattle.pv_read.proofs.Agreement.{spelled_where_meant}
use Rattle.pv_read.specs.Meaning.{DocumentMeans, is_document}
use Rattle.pv_tree.specs.Marks.{blank_mark}
use Rattle.pv_tree.specs.Plain.{PlainDoc}
use Rattle.pv_tree.specs.declared.nodes.Mark.{Mark}
use Rattle.law_program.specs.Causes.{ReadsCertificate, ReadsPack, in_pack, not_accepted, pack_file}
use Rattle.law_program.specs.Causes.{pack_width, RespondsBy}
use Rattle.pv_commands.specs.Certificates.{certificate_stage}
use Rattle.pv_cli.specs.CommandLine.{PlainCommandLine, on_certificate}
use Rattle.pv_opening.specs.Documents.{PlainOpened}
use Rattle.pv_opening.specs.Opening.{Files, opening_stage}
use Rattle.pv_commands.specs.PackFiles.{RefusesPack, no_pack, pack_file_stage, too_large}
use Rattle.pv_opening.specs.Response.{PlainResponse}
use Rattle.pv_commands.specs.Verify.{TellsAcceptance, TellsOfPack, is_accepted, is_rejected}
use Rattle.pv_commands.specs.Verify.{names_wide}
use Rattle.pv_cli.specs.declared.checker.Checker.TheVariants.{Verify}
use Rattle.pv_opening.specs.declared.status.Status.TheVariants.{Done, Negative, BadPack, Limit}
use Rattle.law_program.proofs.ResponseCauses.{by_status, opening_reads_as, opening_refused}

-- a pack, and the tests of it
pub pack_refused : (line : Option PlainCommandLine) (files : Files) (taken : Option (List ℕ))
    (bytes : List ℕ) (r : PlainResponse) → ReadsCertificate Verify line files bytes →
    RefusesPack bytes r → RespondsBy line files taken r.status
pack_refused line files taken bytes r reads (no_pack k means is) =
    by_status line files taken BadPack r _ is refl
    (inl record { bytes = bytes; reads = reads; lines = k; means = means })
pack_refused line files taken bytes r reads (too_large means is) =
    by_status line files taken Limit r _ is refl (in_pack bytes reads means)

pub acceptance_told : (line : Option PlainCommandLine) (files : Files) (taken : Option (List ℕ))
    (root : List ℕ) (g : PlainDtd) (doc : PlainDoc Mark) (pack : Pack) (r : PlainResponse) →
    ReadsPack line files root g doc pack →
    TellsAcceptance root g doc pack r → RespondsBy line files taken r.status
acceptance_told line files taken root g doc pack r reads (is_accepted narrow passes least is) =
    by_status line files taken Done r _ is refl tt
acceptance_told line files taken root g doc pack r reads (is_rejected test narrow fails is) =
    by_status line files taken Negative r _ is refl (not_accepted root g doc pack test reads fails)
acceptance_told line files taken root g doc pack r reads (names_wide path first is) =
    by_status line files taken Limit r _ is refl (pack_width root g doc pack path reads first)

module _ (dtd root doc file : List ℕ) (files : Files) where
  -- what `verify` read
  pub pack_reads : (both : PlainOpened × Pack) (k : ℕ) →
      (certificate_stage pack_file_stage root files).Opens both k → (d : PlainDoc Mark) →
      DocumentMeans blank_mark root both.0.bytes (is_document d) →
      ReadsPack (Some (on_certificate Verify dtd root doc file)) files root both.0.dtd d both.1
  pack_reads both k (o, i, j, opens, (same, (bytes, u, v, given, read, f)), e) d means = record {
    both =
        opening_reads_as (Some (on_certificate Verify dtd root doc file)) root files (λ text is. is)
        (λ bytes is. (refl, is)) both.0 i
        (subst (λ (p : PlainOpened). (opening_stage root files).Opens p i) (sym same) opens)
        d (spelled_where_meant blank_mark root both.0.bytes d means).0;
    bytes = bytes;
    reads = (refl, given.0.is_file);
    means = read.0;
  }

module _ (dtd root doc file : List ℕ) (files : Files) (taken : Option (List ℕ)) where
  abbrev verify_line : Option PlainCommandLine
  verify_line = Some (on_certificate Verify dtd root doc file)

  pub verify_refused : (r : PlainResponse) (k : ℕ) →
      (certificate_stage pack_file_stage root files).Refuses r k →
      RespondsBy verify_line files taken r.status
  verify_refused r k (inl denies) =
      opening_refused verify_line root files (λ text is. is) (λ bytes is. (refl, is)) taken r k
      denies
  verify_refused r k (inr (o, i, j, opens, inl long, e)) =
      by_status verify_line files taken Limit r _ long.0.is_response refl
      (pack_file long.0.bytes (refl, long.0.is_file) long.0.beyond)
  verify_refused r k (inr (o, i, j, opens, inr (bytes, u, v, given, denies, f), e)) =
      pack_refused verify_line files taken bytes r (refl, given.0.is_file) denies.0

  pub verify_told : (both : PlainOpened × Pack) (k : ℕ) (r : PlainResponse) →
      (certificate_stage pack_file_stage root files).Opens both k →
      TellsOfPack root both.0.dtd both.0.bytes both.1 r →
      RespondsBy verify_line files taken r.status
  verify_told both k r opens told =
      acceptance_told verify_line files taken root both.0.dtd told.doc both.1 r
      (pack_reads dtd root doc file files both k opens told.doc told.means) told.tells
