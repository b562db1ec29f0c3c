use Rattle.law_program.proofs.OneResponse.{one_response}
use Rattle.law_program.proofs.laws.one_response_law.Goals as goal

pub returns : goal.returns
returns c =
    one_response
    (record {
      expands_one = c.one_expansion_law.ensures.at_most;
      means_one = c.one_meaning_law.ensures;
    }) (record {
      means_one = c.one_meaning_law-2.ensures;
      means = c.meant_law.ensures;
      spells_one = c.one_document_law.ensures;
    }) c.valid_lists_law.ensures
    (record {
      commands = c.one_command_law.ensures.one;
      steps = c.one_answer_law.ensures;
      offers = record {
        offers = c.one_offer_law.ensures;
        grounds = c.one_ground_law.ensures;
        asked = c.no_ground_law.ensures;
      };
    })
    (record { word = c.one_live_word_law.ensures; tables = c.one_tables_law.ensures })
    (record { packs = c.one_meaning_law-3.ensures; answers = c.one_answer_law-2.ensures })
    (record {
      texts = c.one_meaning_law-4.ensures.text;
      lines = c.one_reading_law.ensures;
      nests = c.one_meaning_law-5.ensures;
    })
    (record {
      texts = c.one_meaning_law-6.ensures;
      judged = c.one_judged_law.ensures;
      denials = c.one_denial_law.ensures;
    })
