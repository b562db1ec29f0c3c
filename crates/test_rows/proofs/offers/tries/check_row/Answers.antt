use Rattle.test_rows.proofs.offers.tries.check_row.Goals as goal

-- the document of the session keeps what it kept
pub invariant_of-session-inside : goal.invariant_of-session-inside
invariant_of-session-inside g c =
    let doc = c.drop.inside.document.doc in
    record {
      rooted = doc.rooted;
      formed = doc.formed;
      shallow = doc.shallow;
      small = doc.small;
      named = doc.named;
      units = doc.units;
      legal = doc.legal;
      no_close_mark = doc.no_close_mark;
      prolog = doc.prolog;
      epilog = doc.epilog;
    }
