use Rattle.pv_tree.proofs.document.Doc.copy.Goals as goal

-- the parts are those of the document that is copied
pub invariant_of-result : goal.invariant_of-result
invariant_of-result c =
    let d = c.args.self.now in
    let same = c.in_ok-root.ensures in
    record {
      rooted = rw same d.rooted;
      formed = rw same d.formed;
      shallow = rw same d.shallow;
      small = rw same d.small;
      named = rw same d.named;
      units = rw same d.units;
      legal = rw same d.legal;
      no_close_mark = rw same d.no_close_mark;
      prolog = rw (c.in_ok-before.ensures, c.as_slice.ensures) d.prolog;
      epilog = rw (c.in_ok-after.ensures, c.as_slice-2.ensures) d.epilog;
    }
