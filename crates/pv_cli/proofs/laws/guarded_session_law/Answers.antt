use Rattle.pv_cli.proofs.Headline.{guards_session}
use Rattle.pv_cli.proofs.laws.guarded_session_law.Goals as goal

pub returns : goal.returns
returns g c =
    guards_session _
    (record {
      expands_one = c.one_expansion_law.ensures.at_most;
      means_one = c.one_meaning_law.ensures;
    }) c.dtd_text_law.ensures
    (record {
      means_one = c.one_meaning_law-2.ensures;
      means = c.meant_law.ensures;
      spells_one = c.one_document_law.ensures;
    })
    c.complete_law.ensures
