use Rattle.std.proofs.Common.{◌≡◌, ℕ, List, [], ◌∷◌, refl, sym, Some, None, codes}
use Rattle.pv_io.specs.Files.{byte_lists}
use Rattle.pv_cli.specs.CommandLine.{command_line_of, drill, on_certificate, on_document, on_dtd}
use Rattle.pv_cli.specs.CommandLine.{on_ranges}
use Rattle.pv_opening.specs.Response.{PlainResponse, with_line}
use Rattle.pv_opening.specs.declared.status.Status.TheVariants.{Usage}
use Rattle.pv_cli.proofs.Runs.{found_alone, found_runs}
use Rattle.pv_opening.proofs.Stages.{tells_found}
use Rattle.pv_cli.proofs.program.run_words.Goals as goal

pub returns-in-Some-OnDocument-clause-runs : goal.returns-in-Some-OnDocument-clause-runs
returns-in-Some-OnDocument-clause-runs g c =
    let named = c.in-Some-OnDocument.named in
    let is = on_document c.in-Some-OnDocument.verb named.dtd.now named.root.now named.doc.now in
    let line : command_line_of (byte_lists c.args.words.now) ≡ Some is =
    sym (rw c.in-Some-OnDocument.field-0-is at c.in-Some-OnDocument.ensures.line) in
    rw line c.run_on_document.ensures.runs

pub returns-in-Some-OnDtd-clause-runs : goal.returns-in-Some-OnDtd-clause-runs
returns-in-Some-OnDtd-clause-runs g c =
    let is = on_dtd c.in-Some-OnDtd.name.now in
    let line : command_line_of (byte_lists c.args.words.now) ≡ Some is =
    sym (rw c.in-Some-OnDtd.field-0-is at c.in-Some-OnDtd.ensures.line) in
    rw line
    (found_runs (Some is) _ _ _ _ _ _ _ c.dtd.result _ (c.dtd.ensures.finds _)
    c.respond-in-Some-OnDtd.ensures)

pub returns-in-Some-OnCertificate-clause-runs : goal.returns-in-Some-OnCertificate-clause-runs
returns-in-Some-OnCertificate-clause-runs g c =
    let named = c.in-Some-OnCertificate.named in
    let checker = c.in-Some-OnCertificate.checker in
    let file = c.in-Some-OnCertificate.file.now in
    let is = on_certificate checker named.dtd.now named.root.now named.doc.now file in
    let line : command_line_of (byte_lists c.args.words.now) ≡ Some is =
    sym (rw c.in-Some-OnCertificate.field-0-is at c.in-Some-OnCertificate.ensures.line) in
    rw line
    (found_runs (Some is) _ _ _ _ _ _ _ c.run_on_certificate.result _
    (c.run_on_certificate.ensures.finds _) c.respond.ensures)

pub returns-in-Some-OnRanges-clause-runs : goal.returns-in-Some-OnRanges-clause-runs
returns-in-Some-OnRanges-clause-runs g c =
    let named = c.in-Some-OnRanges.named in
    let is = on_ranges named.dtd.now named.root.now named.text.now named.ranges.now in
    let line : command_line_of (byte_lists c.args.words.now) ≡ Some is =
    sym (rw c.in-Some-OnRanges.field-0-is at c.in-Some-OnRanges.ensures.line) in
    rw line
    (found_runs (Some is) _ _ _ _ _ _ _ c.standoff.result _ c.standoff.ensures.finds
    c.respond-in-Some-OnRanges.ensures)

pub returns-in-None-clause-runs : goal.returns-in-None-clause-runs
returns-in-None-clause-runs g c =
    let line : command_line_of (byte_lists c.args.words.now) ≡ None = sym c.in-None.ensures.line in
    let tells = λ (r : PlainResponse). r ≡ with_line Usage (codes "usage") in
    rw line
    (found_runs None _ _ _ _ _ _ _ c.usage.result _
    (found_alone None _ _ _ c.usage.result tt (tells_found tells c.usage.result c.usage.ensures)
    refl) c.respond-in-None.ensures)

pub returns-in-Some-Drill-clause-runs : goal.returns-in-Some-Drill-clause-runs
returns-in-Some-Drill-clause-runs g c =
    let is = drill c.in-Some-Drill.n in
    let line : command_line_of (byte_lists c.args.words.now) ≡ Some is =
    sym (rw c.in-Some-Drill.field-0-is at c.in-Some-Drill.ensures.line) in
    rw line
    (found_runs (Some is) _ _ _ _ _ _ _ c.drill.result _
    (found_alone (Some is) _ _ _ c.drill.result tt c.drill.ensures.finds c.drill.ensures.checks)
    c.respond-in-Some-Drill.ensures)

pub run_on_document-requires-clause-dtd_named : goal.run_on_document-requires-clause-dtd_named
run_on_document-requires-clause-dtd_named g c =
    let named = rw c.in-Some-OnDocument.field-0-is at c.in-Some-OnDocument.ensures.named in
    rw c.requires.names (λ κs l. named.0)

pub run_on_document-requires-clause-doc_named : goal.run_on_document-requires-clause-doc_named
run_on_document-requires-clause-doc_named g c =
    let named = rw c.in-Some-OnDocument.field-0-is at c.in-Some-OnDocument.ensures.named in
    rw c.requires.names (λ κs l. named.1.0)

pub run_on_certificate-requires-clause-dtd_named : goal.run_on_certificate-requires-clause-dtd_named
run_on_certificate-requires-clause-dtd_named g c =
    let named = rw c.in-Some-OnCertificate.field-0-is at c.in-Some-OnCertificate.ensures.named in
    rw c.requires.names named.0

pub run_on_certificate-requires-clause-doc_named : goal.run_on_certificate-requires-clause-doc_named
run_on_certificate-requires-clause-doc_named g c =
    let named = rw c.in-Some-OnCertificate.field-0-is at c.in-Some-OnCertificate.ensures.named in
    rw c.requires.names named.1.0

pub run_on_certificate-requires-clause-file_named :
    goal.run_on_certificate-requires-clause-file_named
run_on_certificate-requires-clause-file_named g c =
    let named = rw c.in-Some-OnCertificate.field-0-is at c.in-Some-OnCertificate.ensures.named in
    rw c.requires.names named.1.1.0

pub standoff-requires-clause-dtd_named : goal.standoff-requires-clause-dtd_named
standoff-requires-clause-dtd_named g c =
    let named = rw c.in-Some-OnRanges.field-0-is at c.in-Some-OnRanges.ensures.named in
    rw c.requires.names (λ κs l. named.0)

pub standoff-requires-clause-text_named : goal.standoff-requires-clause-text_named
standoff-requires-clause-text_named g c =
    let named = rw c.in-Some-OnRanges.field-0-is at c.in-Some-OnRanges.ensures.named in
    rw c.requires.names (λ κs l. named.1.0)

pub standoff-requires-clause-ranges_named : goal.standoff-requires-clause-ranges_named
standoff-requires-clause-ranges_named g c =
    let named = rw c.in-Some-OnRanges.field-0-is at c.in-Some-OnRanges.ensures.named in
    rw c.requires.names (λ κs l. named.1.1.0)

pub standoff-requires-clause-root_named : goal.standoff-requires-clause-root_named
standoff-requires-clause-root_named g c =
    λ κs l. rw c.in-Some-OnRanges.field-0-is at c.in-Some-OnRanges.ensures.sized

pub dtd-requires : goal.dtd-requires
dtd-requires g c =
    let named = rw c.in-Some-OnDtd.field-0-is at c.in-Some-OnDtd.ensures.named in
    rw c.requires.names named.0

no_files : (name : List ℕ) (names : List (List ℕ)) → name ∷ names ≡ [] → ⊥
no_files name names none = cc

pub returns-in-Some-OnDocument-clause-unasked : goal.returns-in-Some-OnDocument-clause-unasked
returns-in-Some-OnDocument-clause-unasked g c =
    let named = c.in-Some-OnDocument.named in
    let is = on_document c.in-Some-OnDocument.verb named.dtd.now named.root.now named.doc.now in
    let line : command_line_of (byte_lists c.args.words.now) ≡ Some is =
    sym (rw c.in-Some-OnDocument.field-0-is at c.in-Some-OnDocument.ensures.line) in
    rw line (λ none. absurd (no_files _ _ none))

pub returns-in-Some-OnCertificate-clause-unasked : goal.returns-in-Some-OnCertificate-clause-unasked
returns-in-Some-OnCertificate-clause-unasked g c =
    let named = c.in-Some-OnCertificate.named in
    let checker = c.in-Some-OnCertificate.checker in
    let file = c.in-Some-OnCertificate.file.now in
    let is = on_certificate checker named.dtd.now named.root.now named.doc.now file in
    let line : command_line_of (byte_lists c.args.words.now) ≡ Some is =
    sym (rw c.in-Some-OnCertificate.field-0-is at c.in-Some-OnCertificate.ensures.line) in
    rw line (λ none. absurd (no_files _ _ none))

pub returns-in-Some-OnRanges-clause-unasked : goal.returns-in-Some-OnRanges-clause-unasked
returns-in-Some-OnRanges-clause-unasked g c =
    let named = c.in-Some-OnRanges.named in
    let is = on_ranges named.dtd.now named.root.now named.text.now named.ranges.now in
    let line : command_line_of (byte_lists c.args.words.now) ≡ Some is =
    sym (rw c.in-Some-OnRanges.field-0-is at c.in-Some-OnRanges.ensures.line) in
    rw line (λ none. absurd (no_files _ _ none))

pub returns-in-Some-OnDtd-clause-unasked : goal.returns-in-Some-OnDtd-clause-unasked
returns-in-Some-OnDtd-clause-unasked g c =
    let is = on_dtd c.in-Some-OnDtd.name.now in
    let line : command_line_of (byte_lists c.args.words.now) ≡ Some is =
    sym (rw c.in-Some-OnDtd.field-0-is at c.in-Some-OnDtd.ensures.line) in
    rw line (λ none. absurd (no_files _ _ none))
