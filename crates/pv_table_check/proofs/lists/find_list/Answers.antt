use Rattle.std.proofs.Common.{arith}
use Rattle.pv_dtd.specs.PlainForms.{plain_dtd}
use Rattle.pv_rules.specs.PlainForms.{plain_site}
use Rattle.pv_tree.specs.PlainDocs.{plain_doc, plain_found}
use Rattle.pv_tree.specs.PlainForms.{plain_all}
use Rattle.pv_table_check.proofs.ListPlaces.{list_few, list_found, no_site, no_spot}
use Rattle.pv_table_check.proofs.lists.find_list.Goals as goal

pub returns-in_err-found-clause-none : goal.returns-in_err-found-clause-none
returns-in_err-found-clause-none c = λ n list s m e h.
    no_spot c.list_at_law.ensures (plain_dtd c.args.dtd.now) c.args.root.now (plain_doc c.args.doc.now) c.args.path.now c.in_err-found.ensures list m e

pub returns-in_err-site-clause-none : goal.returns-in_err-site-clause-none
returns-in_err-site-clause-none c = λ n list s m e h.
    no_site c.list_at_law.ensures (plain_dtd c.args.dtd.now) c.args.root.now
    (plain_doc c.args.doc.now) c.args.path.now (plain_found c.in_ok-found.found)
    c.in_ok-found.ensures c.in_err-site.ensures list s m e h

pub returns-clause-found : goal.returns-clause-found
returns-clause-found c =
    list_found c.list_at_law.ensures (plain_dtd c.args.dtd.now) c.args.root.now
    (plain_doc c.args.doc.now) c.args.path.now (plain_found c.in_ok-found.found)
    (plain_site c.in_ok-site.site) (plain_all c.in_ok-kids.kids.now)
    c.in_ok-found.ensures c.in_ok-site.ensures c.in_ok-kids.ensures

pub returns-clause-few : goal.returns-clause-few
returns-clause-few c =
    let l = list_few (plain_doc c.args.doc.now).root c.args.path.now (plain_all c.in_ok-kids.kids.now) c.in_ok-kids.ensures in
    let s = c.args.doc.now.small in omega arith
