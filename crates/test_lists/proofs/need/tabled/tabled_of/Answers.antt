use Rattle.test_lists.proofs.need.tabled.tabled_of.Goals as goal

pub complete_with_tables-requires : goal.complete_with_tables-requires
complete_with_tables-requires c =
    let text = c.in_ok-doc.ensures.read in
    let spelled = text.spelled in
    record { names = spelled.is_prolog }
