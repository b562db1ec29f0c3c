use Rattle.test_lists.proofs.games.judging.judge_text.Goals as goal

-- the document keeps what it kept
pub invariant_of-document-inside : goal.invariant_of-document-inside
invariant_of-document-inside g c =
    let doc = c.document.inside.document.doc in
    record {
      rooted = doc.rooted;
      formed = doc.formed;
      shallow = doc.shallow;
      small = doc.small;
      named = doc.named;
      units = doc.units;
      legal = doc.legal;
      no_close_mark = doc.no_close_mark;
      prolog = doc.prolog;
      epilog = doc.epilog;
    }
