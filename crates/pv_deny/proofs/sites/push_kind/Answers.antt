use Rattle.std.proofs.Common.{List, Vec, ap, subst, sym, true≢false, ◌+◌, ◌∙◌}
use Rattle.std.specs.declared.alloc.Global.{Global}
use Rattle.pv_rules.specs.declared.sites.Site.{Site}
use Rattle.pv_productive.specs.PlainForms.{dtd_of}
use Rattle.pv_deny.specs.ToldRows.{AreToldSites, rank_of, site_by}
use Rattle.pv_deny.proofs.ToldSites.{by_number, by_rank, one_skipped, one_told, told_at}
use Rattle.pv_deny.proofs.sites.push_kind.Goals as goal
use Rattle.pv_deny.proofs.sites.push_kind.Goals.{then-is_told+in_ok-push, else-is_told}

pub loop-number-preserved : goal.loop-number-preserved
loop-number-preserved c =
    let g = dtd_of c.args.grammar.now in let r = c.args.reaches.now in let l = c.loop-number in let t = site_by c.args.kind l.number in
    let P : List Site → Type 0 = λ v. AreToldSites g r (rank_of c.args.kind) (l.number + 1) v in
    let items = λ (v : Vec Site Global). v.items in
    elim c.if-is_told.branch [
      | then-is_told+in_ok-push w ↦
          subst P (sym (ap items w.sites-is ∙ w.in_ok-push.ensures.items))
          (one_told g r (rank_of c.args.kind) l.number l.sites.items l.invariant t
          (by_rank c.args.kind l.number) (by_number c.args.kind l.number) c.sites_law.ensures
          c.site_of-site.result c.site_of-site.ensures
          (told_at g r _ t c.site_of-site.ensures (c.is_told.ensures.0 w.if-is_told.true)))
      | else-is_told w ↦
          subst P (sym (ap items w.sites-is))
          (one_skipped g r (rank_of c.args.kind) l.number l.sites.items l.invariant t (by_rank c.args.kind l.number) (by_number c.args.kind l.number) c.sites_law.ensures
          (λ told. true≢false (sym (c.is_told.ensures.1 (told_at g r t _ (sym c.site_of-site.ensures) told)) ∙ w.if-is_told.false)))
    ]
