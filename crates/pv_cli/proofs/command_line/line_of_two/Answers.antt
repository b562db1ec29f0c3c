use Rattle.std.proofs.Common.{◌≡◌, List, String, string_bytes, Global, Some, None, option_map, true}
use Rattle.std.proofs.Common.{false, codes, sym, ap, ◌∙◌, arith}
use Rattle.std.proofs.lemmas.Grind.{common_steps}
use Rattle.std.specs.Str.{bytes_eq}
use Rattle.pv_io.specs.Files.{byte_lists}
use Rattle.pv_cli.specs.CommandLine.{command_line_of, drill, drill_size}
use Rattle.pv_cli.proofs.CommandLines.{drill_words, dtd_words, other_two, two}
use Rattle.pv_cli.proofs.command_line.line_of_two.Goals as goal

pub returns-then-eq-clause-line : goal.returns-then-eq-clause-line
returns-then-eq-clause-line c =
    let words = two c.args.words.now _ _ c.in-len2.len_at_least c.in-len2.len_below
    c.command-item.is c.word-item.is in
    let same : bytes_eq (string_bytes c.command-item.result) (codes "dtd") ≡ true =
    grind (arith, common_steps) in
    let is = ap (λ (ws : List (String Global)). command_line_of (byte_lists ws)) words
    ∙ dtd_words _ _ same in
    cc

pub returns-in-Some-clause-line : goal.returns-in-Some-clause-line
returns-in-Some-clause-line c =
    let words = two c.args.words.now _ _ c.in-len2.len_at_least c.in-len2.len_below
    c.command-item.is c.word-item.is in
    let other : bytes_eq (string_bytes c.command-item.result) (codes "dtd") ≡ false =
    grind (arith, common_steps) in
    let same : bytes_eq (string_bytes c.command-item.result) (codes "drill") ≡ true =
    grind (arith, common_steps) in
    let size : Some c.in-Some.size ≡ drill_size (string_bytes c.word-item.result) =
    rw c.as_bytes.ensures.value at c.in-Some.ensures.size in
    sym (ap (λ (ws : List (String Global)). command_line_of (byte_lists ws)) words
    ∙ drill_words _ _ other same ∙ ap (option_map drill) (sym size))

pub returns-in-None-clause-line : goal.returns-in-None-clause-line
returns-in-None-clause-line c =
    let words = two c.args.words.now _ _ c.in-len2.len_at_least c.in-len2.len_below
    c.command-item.is c.word-item.is in
    let other : bytes_eq (string_bytes c.command-item.result) (codes "dtd") ≡ false =
    grind (arith, common_steps) in
    let same : bytes_eq (string_bytes c.command-item.result) (codes "drill") ≡ true =
    grind (arith, common_steps) in
    let size : None ≡ drill_size (string_bytes c.word-item.result) =
    rw c.as_bytes.ensures.value at c.in-None.ensures.size in
    sym (ap (λ (ws : List (String Global)). command_line_of (byte_lists ws)) words
    ∙ drill_words _ _ other same ∙ ap (option_map drill) (sym size))

pub returns-clause-line : goal.returns-clause-line
returns-clause-line c =
    let words = two c.args.words.now _ _ c.in-len2.len_at_least c.in-len2.len_below
    c.command-item.is c.word-item.is in
    let other : bytes_eq (string_bytes c.command-item.result) (codes "dtd") ≡ false =
    grind (arith, common_steps) in
    let another : bytes_eq (string_bytes c.command-item.result) (codes "drill") ≡ false =
    grind (arith, common_steps) in
    sym (ap (λ (ws : List (String Global)). command_line_of (byte_lists ws)) words
    ∙ other_two _ _ other another)
