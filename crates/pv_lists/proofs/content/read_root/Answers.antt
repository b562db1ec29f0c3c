use Rattle.std.proofs.Common.{◌≡◌, ◌+◌, ℕ, suc, List, [], subst, arith}
use Rattle.std.specs.Result.{IfErr}
use Rattle.std.proofs.lemmas.Result.{err_from_is_err_and}
use Rattle.pv_tree.specs.Marks.{blank_mark}
use Rattle.pv_tree.specs.Plain.{short}
use Rattle.pv_read.specs.Left.{in_content, just_opened}
use Rattle.pv_read.specs.Meaning.{DocumentRestMeans}
use Rattle.pv_lists.specs.Answers.{RefusesLists}
use Rattle.pv_lists.proofs.RootItems.{begun_room}
use Rattle.pv_lists.proofs.WholeDocuments.{short_root}
use Rattle.pv_lists.proofs.content.read_root.Goals as goal

pub close-requires-clause-room : goal.close-requires-clause-room
close-requires-clause-room g c = begun_room (g.J.ListJudge.judgement c.args.judge.now)
    c.args.root.now c.args.opening.now.tag.name.now c.args.opening.now.tag.attrs.now
    c.in_ok-lists.lists (c.in_ok-lists.ensures.read c.args.root.now c.args.opening.now.tag.attrs.now)

pub returns-in-Ok-clause-read : goal.returns-in-Ok-clause-read
returns-in-Ok-clause-read g c =
    let o = c.args.opening.now in
    let next : o.count + 1 ≡ suc o.count = omega arith in
    short_root c.args.most_depth (g.J.ListJudge.judgement c.args.judge.now) c.args.root.now o.tag.name.now o.tag.attrs.now o.rest.now o.count (o.count + 1) o.is_short c.in-Ok.field-0 c.close.new.lists
    (c.in-Ok.ensures.ended c.args.root.now o.tag.attrs.now
    (just_opened o.tag.name.now o.tag.attrs.now) [] short blank_mark
    (c.in_ok-lists.ensures.read c.args.root.now o.tag.attrs.now)) c.if-opening.true next

pub returns-in_err-lists-clause-refused : goal.returns-in_err-lists-clause-refused
returns-in_err-lists-clause-refused g c =
    let from = err_from_is_err_and c.from_residual.result c.from_residual.ensures.1 in
    rw (from.1, from.2) (λ before. tt)

pub returns-clause-refused : goal.returns-clause-refused
returns-clause-refused g c =
    let o = c.args.opening.now in
    let P : ℕ → Type 0 = λ n. IfErr c.read_content.result (λ e. (before : List ℕ) →
    RefusesLists (DocumentRestMeans c.args.most_depth blank_mark c.args.root.now n
    (in_content before (just_opened o.tag.name.now o.tag.attrs.now) []) o.rest.now) e) in
    let same : o.count + 1 ≡ suc o.count = omega arith in
    rw c.if-opening.false (subst P same c.read_content.ensures.refused)
