use Rattle.std.proofs.Common.{ap, map, subst, sym, ◌∙◌, ◌≡◌}
use Rattle.pv_model.specs.PlainForms.{plain_token}
use Rattle.pv_dtd.specs.PlainForms.{plain_dtd}
use Rattle.pv_rules.specs.PlainForms.{plain_site}
use Rattle.pv_rules.specs.Rules.{IsKnownWord}
use Rattle.pv_tree.specs.PlainDocs.{plain_doc}
use Rattle.pv_tree.specs.PlainForms.{forest}
use Rattle.pv_tree.specs.Words.{word_of}
use Rattle.pv_table_check.proofs.TableParts.{table_from, table_to}
use Rattle.pv_table_check.proofs.WordLengths.{tokens_few}
use Rattle.pv_table_check.proofs.tables.table_closed.Goals as goal

pub entries_closed-requires-clause-few : goal.entries_closed-requires-clause-few
entries_closed-requires-clause-few c =
    let e : map plain_token c.as_slice.result.now ≡ word_of (plain_dtd c.args.dtd.now) (forest c.in-Some.list.kids.now) = ap (λ x. map plain_token x) c.as_slice.ensures ∙ c.in_ok-tokens.ensures in
    tokens_few (plain_dtd c.args.dtd.now) (forest c.in-Some.list.kids.now) c.as_slice.result.now e c.in-Some.ensures.few

pub entries_closed-requires-clause-known : goal.entries_closed-requires-clause-known
entries_closed-requires-clause-known c =
    let e : map plain_token c.as_slice.result.now ≡ word_of (plain_dtd c.args.dtd.now) (forest c.in-Some.list.kids.now) = ap (λ x. map plain_token x) c.as_slice.ensures ∙ c.in_ok-tokens.ensures in
    subst (IsKnownWord (plain_dtd c.args.dtd.now)) (sym e) (c.known_word_law.ensures (plain_dtd c.args.dtd.now) (forest c.in-Some.list.kids.now))

pub returns : goal.returns
returns c =
    let e : map plain_token c.as_slice.result.now ≡ word_of (plain_dtd c.args.dtd.now) (forest c.in-Some.list.kids.now) = ap (λ x. map plain_token x) c.as_slice.ensures ∙ c.in_ok-tokens.ensures in (
      λ t. let k = c.entries_closed.ensures.0 t in
          table_to (plain_dtd c.args.dtd.now) c.args.root.now (plain_doc c.args.doc.now)
          c.args.table.now (plain_site c.in-Some.list.site) (forest c.in-Some.list.kids.now)
          c.in-Some.ensures.found (map plain_token c.as_slice.result.now) e
          c.as_slice-2.result.now c.as_slice-2.ensures k.0 k.1,
      λ h. c.entries_closed.ensures.1 (table_from (plain_dtd c.args.dtd.now) c.args.root.now
          (plain_doc c.args.doc.now) c.args.table.now (plain_site c.in-Some.list.site)
          (forest c.in-Some.list.kids.now) c.in-Some.ensures.found
          (map plain_token c.as_slice.result.now) e c.as_slice-2.result.now c.as_slice-2.ensures
          c.list_at_law.ensures h),
    )
