use Rattle.std.proofs.Common.{true, ◌≡◌}
use Rattle.pv_missing.specs.LiveWords.{live_name, live_other, live_text, live_unproductive}
use Rattle.pv_missing.proofs.live.live_token.Goals as goal

pub is_productive-requires : goal.is_productive-requires
is_productive-requires c = c.requires 0 c.in-Name.id.0 (let e = c.in-Name.is in cc)

pub returns-then-is_productive : goal.returns-then-is_productive
returns-then-is_productive c w live l = rw c.in-Name.is (live_name c.in-Name.id.0 w live (c.is_productive.ensures.0 c.if-is_productive.true) l)

pub returns-else-is_productive : goal.returns-else-is_productive
returns-else-is_productive c w live l = rw c.in-Name.is (live_unproductive c.in-Name.id.0 w live (λ p. let t : c.is_productive.result ≡ true = c.is_productive.ensures.1 p in cc) l)

pub returns-in-Text : goal.returns-in-Text
returns-in-Text c w live l = rw c.in-Text.is (live_text w live l)

pub returns-in-Other : goal.returns-in-Other
returns-in-Other c w live l = rw c.in-Other.is (live_other w live l)
