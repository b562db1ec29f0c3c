-- Responses of commands that are the same but for the documents that completions show.
use Rattle.std.specs.Prelude.{◌≡◌, Option, Some, None}
use Rattle.pv_cert.specs.Packs.{lines_of_pack, lines_text}
use Rattle.pv_cert.specs.declared.packs.Pack.{Pack}
use Rattle.pv_cli.specs.CommandLine.{PlainCommandLine, drill, on_certificate, on_document, on_dtd}
use Rattle.pv_cli.specs.CommandLine.{on_ranges}
use Rattle.pv_opening.specs.Response.{PlainResponse}
use Rattle.pv_opening.specs.declared.status.Status.TheVariants.{Done}
use Rattle.pv_cli.specs.declared.verb.Verb.{Verb}
use Rattle.pv_cli.specs.declared.verb.Verb.TheVariants.{Session, Complete}
use Rattle.pv_conversation.specs.Alike.{ResponsesAlike}

-- one response, or the packs of two least completions, with the same total and the same tables
pub data PacksAlike (r also : PlainResponse) : Type 0 where
  are_one : r ≡ also → PacksAlike r also
  are_packs : (pack other : Pack) → pack.total ≡ other.total → pack.tables ≡ other.tables →
      r ≡ record { status = Done; output = lines_text (lines_of_pack pack) } →
      also ≡ record { status = Done; output = lines_text (lines_of_pack other) } → PacksAlike r also

-- what two responses to such a verb are to each other: one, by default
abbrev pub VerbRespondsAlike : Verb → PlainResponse → PlainResponse → Type 0
VerbRespondsAlike Session r also = ResponsesAlike r also
VerbRespondsAlike Complete r also = PacksAlike r also
VerbRespondsAlike other r also = r ≡ also

-- and to such a command line
abbrev pub RespondsAlike : Option PlainCommandLine → PlainResponse → PlainResponse → Type 0
RespondsAlike None r also = r ≡ also
RespondsAlike (Some (on_dtd dtd)) r also = r ≡ also
RespondsAlike (Some (on_document verb dtd root doc)) r also = VerbRespondsAlike verb r also
RespondsAlike (Some (on_certificate checker dtd root doc file)) r also = r ≡ also
RespondsAlike (Some (on_ranges dtd root text ranges)) r also = r ≡ also
RespondsAlike (Some (drill n)) r also = r ≡ also
