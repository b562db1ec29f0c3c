use Rattle.std.proofs.Common.{◌≡◌, ◌+◌, ℕ, suc, List, [], subst, arith}
use Rattle.std.specs.Result.{IfErr}
use Rattle.pv_tree.specs.Marks.{blank_mark}
use Rattle.pv_read.specs.Left.{in_content, just_opened}
use Rattle.pv_read.specs.Meaning.{DocumentRestMeans}
use Rattle.pv_read.specs.Errors.{Refuses}
use Rattle.pv_read.proofs.reading.root_at.Goals as goal

pub returns-clause-refused : goal.returns-clause-refused
returns-clause-refused c =
    let o = c.args.opening.now in
    let P : ℕ → Type 0 = λ n. IfErr c.read_content.result (λ e. (before : List ℕ) →
    Refuses (DocumentRestMeans c.args.most_depth blank_mark c.args.root.now n (in_content before
    (just_opened o.tag.name.now o.tag.attrs.now) []) o.rest.now) e) in
    let same : o.count + 1 ≡ suc o.count = omega arith in
    rw c.if-opening.false (subst P same c.read_content.ensures.refused)
