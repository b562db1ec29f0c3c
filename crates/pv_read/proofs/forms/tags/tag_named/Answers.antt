use Rattle.std.proofs.Common.{◌++◌}
use Rattle.std.specs.Prelude.{codes}
use Rattle.pv_chars.proofs.Options.{match_none}
use Rattle.pv_read.specs.Items.{BeginsItem}
use Rattle.pv_read.specs.PlainItems.{plain_item, BeginsNoneOf}
use Rattle.pv_read.specs.declared.forms.sorts.Sort.TheVariants as sort
use Rattle.pv_read.proofs.TagLemmas.{no_tag_by_end}
use Rattle.pv_read.proofs.forms.tags.tag_named.Goals as goal

pub returns-in_err-rest : goal.returns-in_err-rest
returns-in_err-rest c =
    let name = c.args.name.now in
    let bytes = c.args.bytes.now in
    let whole = codes "<" ++ (name ++ bytes) in
    match_none _ (BeginsNoneOf sort.Tag whole) (λ r. BeginsItem (plain_item r.0) whole r.1.now) c.from_residual.ensures
    (no_tag_by_end name bytes c.requires.named c.requires.ends c.attributes_at.result.0.now c.attributes_at.result.1.now c.attributes_at.ensures c.in_default.ensures.found c.in_err-rest.ensures.found)
