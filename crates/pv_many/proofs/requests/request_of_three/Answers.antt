use Rattle.std.proofs.Common.{◌≡◌, List, String, string_bytes, Global, Some, None, true, false, sym, ap, ◌∙◌, arith, lit<}
use Rattle.std.proofs.lemmas.Grind.{common_steps}
use Rattle.pv_chars.specs.Names.{is_name}
use Rattle.pv_io.specs.Files.{byte_lists}
use Rattle.pv_many.specs.Requests.{asked_question, asked_request}
use Rattle.pv_many.proofs.RequestWords.{of_three, question_words, root_no_name}
use Rattle.pv_many.proofs.requests.request_of_three.Goals as goal

pub returns-then-not-is_name-clause-request : goal.returns-then-not-is_name-clause-request
returns-then-not-is_name-clause-request c =
    let words = of_three c.args.words.now _ _ _ c.in-len3.len_at_least c.in-len3.len_below c.question-item.is c.dtd-item.is c.root-item.is in
    let other : is_name (string_bytes c.root-item.result) ≡ false = grind (arith, common_steps) in
    sym (ap (λ (ws : List (String Global)). asked_request (byte_lists ws)) words ∙ root_no_name _ _ _ other)

pub returns-in_default-question_of-clause-request : goal.returns-in_default-question_of-clause-request
returns-in_default-question_of-clause-request c =
    let words = of_three c.args.words.now _ _ _ c.in-len3.len_at_least c.in-len3.len_below c.question-item.is c.dtd-item.is c.root-item.is in
    let named : is_name (string_bytes c.root-item.result) ≡ true = grind (arith, common_steps) in
    let none : None ≡ asked_question (string_bytes c.question-item.result) = grind (arith, common_steps) in
    sym (ap (λ (ws : List (String Global)). asked_request (byte_lists ws)) words ∙ question_words _ _ _ None named none)

pub returns-clause-request : goal.returns-clause-request
returns-clause-request c =
    let words = of_three c.args.words.now _ _ _ c.in-len3.len_at_least c.in-len3.len_below c.question-item.is c.dtd-item.is c.root-item.is in
    let named : is_name (string_bytes c.root-item.result) ≡ true = grind (arith, common_steps) in
    let some : Some c.in-Some.question ≡ asked_question (string_bytes c.question-item.result) = grind (arith, common_steps) in
    let is = ap (λ (ws : List (String Global)). asked_request (byte_lists ws)) words ∙ question_words _ _ _ (Some c.in-Some.question) named some in
    cc

pub returns-clause-named : goal.returns-clause-named
returns-clause-named c =
    let words = of_three c.args.words.now _ _ _ c.in-len3.len_at_least c.in-len3.len_below c.question-item.is c.dtd-item.is c.root-item.is in
    rw words ((0, lit< tt, sym c.as_str-2.ensures.value), tt)
