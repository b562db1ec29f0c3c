use Rattle.std.proofs.Common.{◌≡◌, List, String, string_bytes, Global, Some, None, true, false, sym}
use Rattle.std.proofs.Common.{ap, ◌∙◌, arith, lit<}
use Rattle.std.proofs.lemmas.Grind.{common_steps}
use Rattle.pv_io.specs.Files.{byte_lists}
use Rattle.pv_chars.specs.Names.{is_name}
use Rattle.pv_cli.specs.CommandLine.{command_line_of, verb_of}
use Rattle.pv_cli.proofs.CommandLines.{other_root, verb_words}
use Rattle.pv_opening.proofs.ArgumentWords.{four}
use Rattle.pv_cli.proofs.command_line.line_of_four.Goals as goal

pub returns-then-not-is_name-clause-line : goal.returns-then-not-is_name-clause-line
returns-then-not-is_name-clause-line c =
    let words = four c.args.words.now _ _ _ _ c.in-len4.len_at_least c.in-len4.len_below
    c.command-item.is c.dtd-item.is c.root-item.is c.doc-item.is in
    let other : is_name (string_bytes c.root-item.result) ≡ false = grind (arith, common_steps) in
    sym (ap (λ (ws : List (String Global)). command_line_of (byte_lists ws)) words
    ∙ other_root _ _ _ _ other)

pub returns-in_default-verb_of-clause-line : goal.returns-in_default-verb_of-clause-line
returns-in_default-verb_of-clause-line c =
    let words = four c.args.words.now _ _ _ _ c.in-len4.len_at_least c.in-len4.len_below
    c.command-item.is c.dtd-item.is c.root-item.is c.doc-item.is in
    let named : is_name (string_bytes c.root-item.result) ≡ true = grind (arith, common_steps) in
    let none : None ≡ verb_of (string_bytes c.command-item.result) = grind (arith, common_steps) in
    sym (ap (λ (ws : List (String Global)). command_line_of (byte_lists ws)) words
    ∙ verb_words _ _ _ _ None named none)

pub returns-clause-line : goal.returns-clause-line
returns-clause-line c =
    let words = four c.args.words.now _ _ _ _ c.in-len4.len_at_least c.in-len4.len_below
    c.command-item.is c.dtd-item.is c.root-item.is c.doc-item.is in
    let named : is_name (string_bytes c.root-item.result) ≡ true = grind (arith, common_steps) in
    let some : Some c.in-Some.verb ≡ verb_of (string_bytes c.command-item.result) =
    grind (arith, common_steps) in
    let is = ap (λ (ws : List (String Global)). command_line_of (byte_lists ws)) words
    ∙ verb_words _ _ _ _ (Some c.in-Some.verb) named some in
    cc

pub returns-clause-named : goal.returns-clause-named
returns-clause-named c =
    let words = four c.args.words.now _ _ _ _ c.in-len4.len_at_least c.in-len4.len_below
    c.command-item.is c.dtd-item.is c.root-item.is c.doc-item.is in
    rw words (
      (0, lit< tt, sym c.as_str-2.ensures.value),
      ((1, lit< tt, sym c.as_str-3.ensures.value), tt),
    )
