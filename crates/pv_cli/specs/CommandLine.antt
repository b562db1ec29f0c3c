-- The command lines.
use Rattle.std.specs.Prelude.{◌≤◌, ◌&&◌, nat_le, option_and_then, option_map, ℕ, List, [], ◌∷◌}
use Rattle.std.specs.Prelude.{codes, if◌then◌else◌, Option, Some, None}
use Rattle.std.specs.Str.{bytes_eq}
use Rattle.pv_chars.specs.Names.{IsName, is_name}
use Rattle.pv_words.specs.Numbers.{number_spelled}
use Rattle.pv_cli.specs.declared.checker.Checker.{Checker}
use Rattle.pv_cli.specs.declared.checker.Checker.TheVariants.{Deny, Verify}
use Rattle.pv_cli.specs.declared.command_line.CommandLine.{CommandLine}
use Rattle.pv_cli.specs.declared.command_line.CommandLine.TheVariants.{Drill, OnCertificate}
use Rattle.pv_cli.specs.declared.command_line.CommandLine.TheVariants.{OnDocument, OnDtd, OnRanges}
use Rattle.pv_cli.specs.declared.verb.Verb.{Verb}
use Rattle.pv_cli.specs.declared.verb.Verb.TheVariants.{Valid, Check, Session, Complete, Why}

-- by form: `dtd DTD`; a verb with DTD ROOT DOC; a checker with these and a certificate;
-- `standoff DTD ROOT TEXT RANGES`; and `drill N`
pub data PlainCommandLine : Type 0 where
  on_dtd : (dtd : List ℕ) → PlainCommandLine
  on_document : (verb : Verb) (dtd root doc : List ℕ) → PlainCommandLine
  on_certificate : (checker : Checker) (dtd root doc file : List ℕ) → PlainCommandLine
  on_ranges : (dtd root text ranges : List ℕ) → PlainCommandLine
  drill : (n : ℕ) → PlainCommandLine

-- the verb that a word is
abbrev pub verb_of : List ℕ → Option Verb
verb_of word =
    if bytes_eq word (codes "valid") then Some Valid
    else if bytes_eq word (codes "check") then Some Check
    else if bytes_eq word (codes "session") then Some Session
    else if bytes_eq word (codes "complete") then Some Complete
    else if bytes_eq word (codes "why") then Some Why
    else None

-- the checker that a word is
abbrev pub checker_of : List ℕ → Option Checker
checker_of word =
    if bytes_eq word (codes "verify") then Some Verify
    else if bytes_eq word (codes "deny") then Some Deny
    else None

-- how many sections a drill may have
abbrev pub IsDrillSize : ℕ → Type 0
IsDrillSize n = (1 ≤ n) × (n ≤ 20000)

-- the size of a drill that a word is: its decimal digits
abbrev pub drill_size : List ℕ → Option ℕ
drill_size word = option_and_then (λ n. if nat_le 1 n && nat_le n 20000 then Some n else None)
    (number_spelled word)

-- a command with one word after it
abbrev pub with_one_word : List ℕ → List ℕ → Option PlainCommandLine
with_one_word command word =
    if bytes_eq command (codes "dtd") then Some (on_dtd word)
    else if bytes_eq command (codes "drill") then option_map drill (drill_size word)
    else None

-- a command with a root and three files after it
abbrev pub with_three_files : List ℕ → List ℕ → List ℕ → List ℕ → List ℕ → Option PlainCommandLine
with_three_files command dtd root doc file =
    if bytes_eq command (codes "standoff") then Some (on_ranges dtd root doc file)
    else option_map (λ checker. on_certificate checker dtd root doc file) (checker_of command)

-- the command line that these words are; ROOT is a Name of XML
unfoldable pub command_line_of : List (List ℕ) → Option PlainCommandLine
command_line_of (command ∷ dtd ∷ root ∷ doc ∷ file ∷ []) =
    if is_name root then with_three_files command dtd root doc file else None
command_line_of (command ∷ dtd ∷ root ∷ doc ∷ []) =
    if is_name root then option_map (λ verb. on_document verb dtd root doc) (verb_of command)
    else None
command_line_of (command ∷ word ∷ []) = with_one_word command word
command_line_of words = None

-- the names of the files of a command line, in the order in which they are fetched
abbrev pub files_named : Option PlainCommandLine → List (List ℕ)
files_named None = []
files_named (Some (on_dtd dtd)) = dtd ∷ []
files_named (Some (on_document verb dtd root doc)) = dtd ∷ doc ∷ []
files_named (Some (on_certificate checker dtd root doc file)) = dtd ∷ doc ∷ file ∷ []
files_named (Some (on_ranges dtd root text ranges)) = dtd ∷ text ∷ ranges ∷ []
files_named (Some (drill n)) = []

abbrev pub plain_command_line : CommandLine → PlainCommandLine
plain_command_line (OnDtd name) = on_dtd name.now
plain_command_line (OnDocument verb named) =
    on_document verb named.dtd.now named.root.now named.doc.now
plain_command_line (OnCertificate checker named file) =
    on_certificate checker named.dtd.now named.root.now named.doc.now file.now
plain_command_line (OnRanges named) =
    on_ranges named.dtd.now named.root.now named.text.now named.ranges.now
plain_command_line (Drill n) = drill n

-- a drill has such a size, and the root of `standoff` a Name
abbrev pub IsSized : CommandLine → Type 0
IsSized (OnDtd name) = Unit {0}
IsSized (OnDocument verb named) = Unit {0}
IsSized (OnCertificate checker named file) = Unit {0}
IsSized (OnRanges named) = IsName named.root.now
IsSized (Drill n) = IsDrillSize n
