use Rattle.std.proofs.Common.{◌≡◌, ap, List, subst}
use Rattle.pv_dtd.specs.Plain.{PlainDtd}
use Rattle.pv_dtd.specs.PlainForms.{plain_dtd}
use Rattle.pv_edit.specs.Reasons.{items_of, kids_at}
use Rattle.pv_tree.specs.Plain.{Tree, forest_of}
use Rattle.pv_tree.specs.PlainDocs.{plain_doc}
use Rattle.pv_tree.specs.PlainForms.{plain_all}
use Rattle.pv_tree.specs.declared.nodes.Mark.{Mark}
use Rattle.pv_cache.specs.ChangedWords.{AreListTokens}
use Rattle.pv_cache.proofs.well_marked.WellMarked.tokens_before.Goals as goal

pub returns : goal.returns
returns c =
    let kids : plain_all c.in-Some.kids.now
    ≡ kids_at c.args.task.now.list (plain_doc c.args.self.now.doc).root =
    ap items_of c.in-Some.ensures in
    let tokens = c.in_ok-tokens.tokens in
    subst (λ (e : PlainDtd).
    AreListTokens e
    (forest_of (kids_at c.args.task.now.list (plain_doc c.args.self.now.doc).root)) tokens)
    c.dtd.ensures
    (subst (λ (ks : List (Tree Mark)).
    AreListTokens (plain_dtd c.dtd.result.now) (forest_of ks) tokens) kids c.in_ok-tokens.ensures)
