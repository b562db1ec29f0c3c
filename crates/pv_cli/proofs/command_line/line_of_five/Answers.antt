use Rattle.std.proofs.Common.{◌≡◌, List, String, string_bytes, Global, Some, None, true, false}
use Rattle.std.proofs.Common.{codes, sym, ap, ◌∙◌, arith, lit<}
use Rattle.std.proofs.lemmas.Grind.{common_steps}
use Rattle.std.specs.Str.{bytes_eq}
use Rattle.pv_io.specs.Files.{byte_lists}
use Rattle.pv_chars.specs.Names.{is_name}
use Rattle.pv_cli.specs.CommandLine.{command_line_of, checker_of}
use Rattle.pv_cli.proofs.CommandLines.{checker_words, five, other_root_of_five, standoff_words}
use Rattle.pv_cli.proofs.command_line.line_of_five.Goals as goal

pub returns-then-not-is_name-clause-line : goal.returns-then-not-is_name-clause-line
returns-then-not-is_name-clause-line c =
    let words = five c.args.words.now _ _ _ _ _ c.in-len5.len_at_least c.in-len5.len_below
    c.command-item.is c.dtd-item.is c.root-item.is c.doc-item.is c.file-item.is in
    let other : is_name (string_bytes c.root-item.result) ≡ false = grind (arith, common_steps) in
    sym (ap (λ (ws : List (String Global)). command_line_of (byte_lists ws)) words
    ∙ other_root_of_five _ _ _ _ _ other)

pub returns-then-eq-clause-line : goal.returns-then-eq-clause-line
returns-then-eq-clause-line c =
    let words = five c.args.words.now _ _ _ _ _ c.in-len5.len_at_least c.in-len5.len_below
    c.command-item.is c.dtd-item.is c.root-item.is c.doc-item.is c.file-item.is in
    let named : is_name (string_bytes c.root-item.result) ≡ true = grind (arith, common_steps) in
    let same : bytes_eq (string_bytes c.command-item.result) (codes "standoff") ≡ true =
    grind (arith, common_steps) in
    let is = ap (λ (ws : List (String Global)). command_line_of (byte_lists ws)) words
    ∙ standoff_words _ _ _ _ _ named same in
    cc

pub returns-then-eq-clause-named : goal.returns-then-eq-clause-named
returns-then-eq-clause-named c =
    let words = five c.args.words.now _ _ _ _ _ c.in-len5.len_at_least c.in-len5.len_below
    c.command-item.is c.dtd-item.is c.root-item.is c.doc-item.is c.file-item.is in
    rw words (
      (0, lit< tt, sym c.as_str-then-eq.ensures.value),
      (
        (1, lit< tt, sym c.as_str-then-eq-2.ensures.value),
        ((2, lit< tt, sym c.as_str-then-eq-3.ensures.value), tt),
      ),
    )

pub returns-in_default-checker_of-clause-line : goal.returns-in_default-checker_of-clause-line
returns-in_default-checker_of-clause-line c =
    let words = five c.args.words.now _ _ _ _ _ c.in-len5.len_at_least c.in-len5.len_below
    c.command-item.is c.dtd-item.is c.root-item.is c.doc-item.is c.file-item.is in
    let named : is_name (string_bytes c.root-item.result) ≡ true = grind (arith, common_steps) in
    let other : bytes_eq (string_bytes c.command-item.result) (codes "standoff") ≡ false =
    grind (arith, common_steps) in
    let none : None ≡ checker_of (string_bytes c.command-item.result) =
    grind (arith, common_steps) in
    sym (ap (λ (ws : List (String Global)). command_line_of (byte_lists ws)) words
    ∙ checker_words _ _ _ _ _ None named other none)

pub returns-clause-line : goal.returns-clause-line
returns-clause-line c =
    let words = five c.args.words.now _ _ _ _ _ c.in-len5.len_at_least c.in-len5.len_below
    c.command-item.is c.dtd-item.is c.root-item.is c.doc-item.is c.file-item.is in
    let named : is_name (string_bytes c.root-item.result) ≡ true = grind (arith, common_steps) in
    let other : bytes_eq (string_bytes c.command-item.result) (codes "standoff") ≡ false =
    grind (arith, common_steps) in
    let some : Some c.in-Some.checker ≡ checker_of (string_bytes c.command-item.result) =
    grind (arith, common_steps) in
    let is = ap (λ (ws : List (String Global)). command_line_of (byte_lists ws)) words
    ∙ checker_words _ _ _ _ _ (Some c.in-Some.checker) named other some in
    cc

pub returns-clause-named : goal.returns-clause-named
returns-clause-named c =
    let words = five c.args.words.now _ _ _ _ _ c.in-len5.len_at_least c.in-len5.len_below
    c.command-item.is c.dtd-item.is c.root-item.is c.doc-item.is c.file-item.is in
    rw words (
      (0, lit< tt, sym c.as_str-3.ensures.value),
      (
        (1, lit< tt, sym c.as_str-4.ensures.value),
        ((2, lit< tt, sym c.as_str-5.ensures.value), tt),
      ),
    )
