-- Two stages over files, one after another, that hand on what both open.
use Rattle.std.proofs.Common.{ℕ, ◌+◌, List, Option, Ok, Err, refl, subst, ◌∙◌, arith}
use Rattle.pv_opening.specs.Devices.{ShelfNow}
use Rattle.pv_opening.specs.Returns.{ReturnsOver, StopCounts}
use Rattle.pv_opening.specs.Stage.{Stage, beside, followed_by}
use Rattle.pv_opening.specs.declared.stop.Stop.{Stop}
use Rattle.pv_opening.proofs.Stages.{stopped_beside, stopped_first, stopped_second}

module _ {F G V W X Y : Type 0} (AreFirst : Option (List (List ℕ × List ℕ)) → F →
    Type 0) (AreSecond : Option (List (List ℕ × List ℕ)) → G → Type 0) (shown : V → W) (first : F →
    Stage W) (plain : X → Y)
    (second : G → Stage Y) (before : ShelfNow) where
  abbrev pub AreBoth : F × G → Type 0
  AreBoth files = AreFirst before.files files.0 × AreSecond before.files files.1

  abbrev pub plain_both : V × X → W × Y
  plain_both both = (shown both.0, plain both.1)

  abbrev pub both_stage : F × G → Stage (W × Y)
  both_stage files = followed_by (first files.0) (λ w. beside w (second files.1))

  pub first_stops : (after : ShelfNow) (stop : Stop) (g : G) → AreSecond before.files g → ReturnsOver {X = V} (AreFirst before.files) shown first before after (Err stop) →
      ReturnsOver {X = V × X} AreBoth plain_both both_stage before after (Err stop)
  first_stops after stop g is over = record {
    files = (over.files, g);
    are_such = (over.are_such, is);
    fetches = over.fetches;
    returns = stopped_first (first over.files) (λ w. beside w (second g)) over.fetches stop over.returns;
    calls = over.calls;
    faults = over.faults;
    same = over.same;
  }

  module _ (between after : ShelfNow) (v : V) (one : ReturnsOver (AreFirst before.files) shown first before between (Ok v)) where
    pub second_stops : (stop : Stop) → ReturnsOver {X = X} (AreSecond between.files) plain second
        between after (Err stop) → ReturnsOver {X = V × X} AreBoth plain_both both_stage before
        after (Err stop)
    second_stops stop two = record {
      files = (one.files, two.files);
      are_such = (one.are_such, subst (λ t. AreSecond t two.files) one.same two.are_such);
      fetches = one.fetches + two.fetches;
      returns = stopped_second (first one.files) (λ w. beside w (second two.files))
          (shown v) one.fetches two.fetches stop one.returns (stopped_beside (shown v)
          (second two.files) two.fetches stop two.returns);
      calls = let here = one.calls in let more = two.calls in omega arith;
      faults = subst (λ (n : ℕ). StopCounts n after.faults stop) one.faults two.faults;
      same = two.same ∙ one.same;
    }

    pub both_open : (x : X) → ReturnsOver (AreSecond between.files) plain second between after (Ok x) → ReturnsOver AreBoth plain_both both_stage before after (Ok (v, x))
    both_open x two = record {
      files = (one.files, two.files);
      are_such = (one.are_such, subst (λ t. AreSecond t two.files) one.same two.are_such);
      fetches = one.fetches + two.fetches;
      returns = (shown v, one.fetches, two.fetches, one.returns, (refl, two.returns), refl);
      calls = let here = one.calls in let more = two.calls in omega arith;
      faults = two.faults ∙ one.faults;
      same = two.same ∙ one.same;
    }
