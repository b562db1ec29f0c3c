use Rattle.pv_missing.proofs.laws.proper.proper_doc_law.Goals as goal

pub returns : goal.returns
returns c = let d = c.args._doc.now in record { rooted = d.rooted; units = d.units }
