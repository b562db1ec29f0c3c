-- A DTD in whose file nothing is to be put in place.
use Rattle.std.specs.Prelude.{ℕ, List}
use Rattle.pv_cli.specs.Headline.{HoldsDtd}
use Rattle.pv_dtd.specs.Plain.{PlainDtd}
use Rattle.pv_params.specs.Laws.{IsUnchanged}
use Rattle.law_session.specs.Sessions.{HoldsSimpleDtd, SimpleSessionsAreGuarded}

-- such a file is the text of the DTD once its parameter entities are put in place
holds_dtd : (told : List (List ℕ × List ℕ)) (name : List ℕ) (g : PlainDtd) → IsUnchanged →
    HoldsSimpleDtd told name g → HoldsDtd told name g
holds_dtd told name g unchanged d = record {
  bytes = d.bytes;
  is_file = d.is_file;
  within = d.limits.few_bytes;
  text = d.bytes;
  expands = unchanged d.bytes d.simple;
  is_text = d.is_text;
  limits = d.limits;
}

pub simple_sessions : (S : Type 0) → IsUnchanged → SimpleSessionsAreGuarded S
simple_sessions S unchanged line before after status guards told dtd root name script g doc is
    is_told is_left quiet d e narrow within =
    guards told dtd root name script g doc is is_told is_left quiet
    (holds_dtd told dtd g unchanged d) e narrow within
