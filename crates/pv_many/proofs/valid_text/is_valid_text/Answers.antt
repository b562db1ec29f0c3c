use Rattle.std.proofs.Common.{length, ap, refl, subst, sym, List, ℕ}
use Rattle.pv_dtd.specs.PlainForms.{plain_dtd}
use Rattle.pv_missing.specs.Widths.{FitsVerdict}
use Rattle.pv_read.proofs.Agreement.{spelled_where_meant}
use Rattle.pv_tree.specs.Lists.{IsRootElement}
use Rattle.pv_tree.specs.Marks.{blank_mark}
use Rattle.pv_many.proofs.valid_text.is_valid_text.Goals as goal

pub returns-in-Ok-clause-valid : goal.returns-in-Ok-clause-valid
returns-in-Ok-clause-valid c = λ yes.
    let g = plain_dtd c.args.dtd.now in
    let root = c.args.root.now in
    let doc = c.in-Ok.ensures.read.0 in
    let means = c.in-Ok.ensures.read.1 in
    let has = (c.in-Ok.ensures.lists doc means).has_root in
    let is = c.is_root.ensures yes in
    record {
      doc = doc;
      is_text = (spelled_where_meant blank_mark root c.args.bytes.now doc means).0;
      lists = (
        (
          (subst (λ (name : List ℕ). IsRootElement name doc.root) is.0 has.is_named, refl),
          subst
              (FitsVerdict g) (sym (ap length has.is_word)) is.1,
        ),
        has.finds,
      );
    }
