use Rattle.pv_deny.proofs.words.reaches_over.Goals as goal

pub furthest_by-requires : goal.furthest_by-requires
furthest_by-requires c = rw c.requires.same c.requires.productive

pub returns-in-Ok : goal.returns-in-Ok
returns-in-Ok c = rw c.requires.same at c.in-Ok.ensures.reaches

pub unreachable-requires : goal.unreachable-requires
unreachable-requires c =
    let wide = rw c.requires.same at (c.in-Err-TooWide.ensures.wide c.in-Err-TooWide.field-0-is) in wide c.requires.narrow
