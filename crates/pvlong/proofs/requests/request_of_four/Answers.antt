use Rattle.std.proofs.Common.{◌≡◌, List, String, string_bytes, Global, Some, None, true, false, sym, ap, ◌∙◌, arith, lit<}
use Rattle.std.proofs.lemmas.Grind.{common_steps}
use Rattle.pv_chars.specs.Names.{is_name}
use Rattle.pv_io.specs.Files.{byte_lists}
use Rattle.pvlong.specs.Requests.{question_of, request_of}
use Rattle.pv_opening.proofs.ArgumentWords.{four}
use Rattle.pvlong.proofs.RequestWords.{question_words, root_no_name}
use Rattle.pvlong.proofs.requests.request_of_four.Goals as goal

pub returns-then-not-is_name-clause-request : goal.returns-then-not-is_name-clause-request
returns-then-not-is_name-clause-request c =
    let words = four c.args.words.now _ _ _ _ c.in-len4.len_at_least c.in-len4.len_below
    c.question-item.is c.dtd-item.is c.root-item.is c.doc-item.is in
    let other : is_name (string_bytes c.root-item.result) ≡ false = grind (arith, common_steps) in
    sym (ap (λ (ws : List (String Global)). request_of (byte_lists ws)) words ∙ root_no_name _ _ _ _ other)

pub returns-in_default-question_of-clause-request : goal.returns-in_default-question_of-clause-request
returns-in_default-question_of-clause-request c =
    let words = four c.args.words.now _ _ _ _ c.in-len4.len_at_least c.in-len4.len_below
    c.question-item.is c.dtd-item.is c.root-item.is c.doc-item.is in
    let named : is_name (string_bytes c.root-item.result) ≡ true = grind (arith, common_steps) in
    let none : None ≡ question_of (string_bytes c.question-item.result) = grind (arith, common_steps) in
    sym (ap (λ (ws : List (String Global)). request_of (byte_lists ws)) words ∙ question_words _ _ _ _ None named none)

pub returns-clause-request : goal.returns-clause-request
returns-clause-request c =
    let words = four c.args.words.now _ _ _ _ c.in-len4.len_at_least c.in-len4.len_below
    c.question-item.is c.dtd-item.is c.root-item.is c.doc-item.is in
    let named : is_name (string_bytes c.root-item.result) ≡ true = grind (arith, common_steps) in
    let some : Some c.in-Some.question ≡ question_of (string_bytes c.question-item.result) = grind (arith, common_steps) in
    let is = ap (λ (ws : List (String Global)). request_of (byte_lists ws)) words ∙ question_words _ _ _ _ (Some c.in-Some.question) named some in
    cc

pub returns-clause-named : goal.returns-clause-named
returns-clause-named c =
    let words = four c.args.words.now _ _ _ _ c.in-len4.len_at_least c.in-len4.len_below
    c.question-item.is c.dtd-item.is c.root-item.is c.doc-item.is in
    rw words ((0, lit< tt, sym c.as_str-2.ensures.value), ((1, lit< tt, sym c.as_str-3.ensures.value), tt))
