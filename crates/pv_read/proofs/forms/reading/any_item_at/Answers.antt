use Rattle.std.proofs.Common.{sym, ◌∙◌}
use Rattle.pv_chars.specs.Fronts.{BeginsNone}
use Rattle.pv_chars.specs.Markup.{IsComment, IsInstruction, IsCdata}
use Rattle.pv_chars.specs.Declarations.{IsXmlDecl}
use Rattle.pv_chars.proofs.Options.{match_same}
use Rattle.pv_read.specs.Items.{BeginsItem}
use Rattle.pv_read.specs.PlainItems.{plain_item, BeginsNoItem, BeginsNoneOf}
use Rattle.pv_read.specs.declared.forms.sorts.Sort.TheVariants as sort
use Rattle.pv_read.proofs.AnyItem.{none_of_sort, no_misc, no_section}
use Rattle.pv_read.proofs.forms.reading.any_item_at.Goals as goal

pub returns-in-Text : goal.returns-in-Text
returns-in-Text c =
    let bytes = c.args.bytes.now in
    match_same _ (BeginsNoneOf sort.Text bytes) (BeginsNoItem bytes) (λ r. BeginsItem (plain_item r.0) bytes r.1.now) (λ r. BeginsItem (plain_item r.0) bytes r.1.now)
    (none_of_sort bytes sort.Text (sym c.sort_of.ensures ∙ c.in-Text.is)) (λ r b. b) c.text_run_at.ensures

pub returns-in-Tag : goal.returns-in-Tag
returns-in-Tag c =
    let bytes = c.args.bytes.now in
    match_same _ (BeginsNoneOf sort.Tag bytes) (BeginsNoItem bytes) (λ r. BeginsItem (plain_item r.0) bytes r.1.now) (λ r. BeginsItem (plain_item r.0) bytes r.1.now)
    (none_of_sort bytes sort.Tag (sym c.sort_of.ensures ∙ c.in-Tag.is)) (λ r b. b) c.tag_at.ensures

pub returns-in-EndTag : goal.returns-in-EndTag
returns-in-EndTag c =
    let bytes = c.args.bytes.now in
    match_same _ (BeginsNoneOf sort.EndTag bytes) (BeginsNoItem bytes) (λ r. BeginsItem (plain_item r.0) bytes r.1.now) (λ r. BeginsItem (plain_item r.0) bytes r.1.now)
    (none_of_sort bytes sort.EndTag (sym c.sort_of.ensures ∙ c.in-EndTag.is)) (λ r b. b) c.end_tag_at.ensures

pub returns-in-Misc : goal.returns-in-Misc
returns-in-Misc c =
    let bytes = c.args.bytes.now in
    match_same _ (BeginsNone IsComment bytes × BeginsNone IsInstruction bytes
    × BeginsNone IsXmlDecl bytes) (BeginsNoItem bytes) (λ r. BeginsItem (plain_item r.0) bytes
    r.1.now) (λ r. BeginsItem (plain_item r.0) bytes r.1.now)
    (no_misc bytes (sym c.sort_of.ensures ∙ c.in-Misc.is)) (λ r b. b) c.misc_at.ensures

pub returns-in-Section : goal.returns-in-Section
returns-in-Section c =
    let bytes = c.args.bytes.now in
    match_same _ (BeginsNone IsCdata bytes) (BeginsNoItem bytes) (λ r. BeginsItem (plain_item r.0) bytes r.1.now) (λ r. BeginsItem (plain_item r.0) bytes r.1.now)
    (no_section bytes (sym c.sort_of.ensures ∙ c.in-Section.is)) (λ r b. b) c.cdata_at.ensures

pub returns-in-Doctype : goal.returns-in-Doctype
returns-in-Doctype c =
    let bytes = c.args.bytes.now in
    match_same _ (BeginsNoneOf sort.Doctype bytes) (BeginsNoItem bytes) (λ r. BeginsItem (plain_item r.0) bytes r.1.now) (λ r. BeginsItem (plain_item r.0) bytes r.1.now)
    (none_of_sort bytes sort.Doctype (sym c.sort_of.ensures ∙ c.in-Doctype.is)) (λ r b. b) c.doctype_at.ensures
