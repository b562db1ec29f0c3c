use Rattle.std.proofs.Common.{◌≡◌, List, [], ◌∷◌, None, Some, codes, sym, ℕ}
use Rattle.pv_io.specs.Files.{byte_lists}
use Rattle.pv_opening.specs.Response.{PlainResponse, with_line}
use Rattle.pv_opening.specs.declared.status.Status.TheVariants.{Usage}
use Rattle.pv_opening.proofs.Stages.{tells_found}
use Rattle.pvlong.specs.Requests.{plain_request, request_of}
use Rattle.pvlong.specs.ToldNumbers.{response_in}
use Rattle.pvlong.proofs.Answers.{found_answers, none_found}
use Rattle.pvlong.proofs.program.pvlong.Goals as goal

pub returns-in-Some-clause-answers : goal.returns-in-Some-clause-answers
returns-in-Some-clause-answers g c =
    let asked = plain_request c.in-Some.request in
    found_answers (byte_lists c.args.words.now) (Some asked) _ _ _ _ c.answer.result _ (sym c.in-Some.ensures.request) c.answer.ensures.finds c.end.ensures

pub returns-in-None-clause-answers : goal.returns-in-None-clause-answers
returns-in-None-clause-answers g c =
    let tells = λ (r : PlainResponse). r ≡ with_line Usage (codes "usage") in
    let finds = none_found _ c.usage.result (tells_found tells (response_in c.usage.result) c.usage.ensures) in
    found_answers (byte_lists c.args.words.now) None _ _ _ _ c.usage.result _ (sym c.in-None.ensures.request) finds c.end-in-None.ensures

pub answer-requires-clause-dtd_named : goal.answer-requires-clause-dtd_named
answer-requires-clause-dtd_named g c =
    let named = c.in-Some.ensures.named in
    rw c.requires.names named.0

pub answer-requires-clause-doc_named : goal.answer-requires-clause-doc_named
answer-requires-clause-doc_named g c =
    let named = c.in-Some.ensures.named in
    rw c.requires.names named.1.0

no_files : (name : List ℕ) (names : List (List ℕ)) → name ∷ names ≡ [] → ⊥
no_files name names none = cc

pub returns-in-Some-clause-unasked : goal.returns-in-Some-clause-unasked
returns-in-Some-clause-unasked g c =
    let asked : request_of (byte_lists c.args.words.now) ≡ Some (plain_request c.in-Some.request) = sym c.in-Some.ensures.request in
    rw asked (λ none. absurd (no_files _ _ none))
