-- The empty word of a particle, and the words that can end it.
use Rattle.std.proofs.Common.{Bool, true, false, ◌&&◌, ◌||◌, ◌⊎◌, inl, inr, ◌↔◌, [], IsTrue, refl}
use Rattle.std.proofs.lemmas.Bool.{and_from, and_parts}
use Rattle.pv_model.specs.Plain.{PlainPart, name, seq, choice, opt, star, plus, PlainParts, no_parts, part}
use Rattle.pv_model.specs.Models.{Rounds, no_round, Matches, MatchesAll, MatchesSome}
use Rattle.pv_model.specs.Positions.{may_be_empty, all_may_be_empty, some_may_be_empty}
use Rattle.pv_model.proofs.Joins.{or-cases, or-left, or-right, joined-none}
use Rattle.pv_model.proofs.ReachedPositions.{Positions, AllPositions, Continues, ContinuesInOrder, ContinuesSome, ends, ends_in_order, ends_some}

mutual
  matches_empty : (p : PlainPart) → IsTrue (may_be_empty p) → Matches p []
  matches_empty (name y) h = absurd cc
  matches_empty (seq ps) h = let r = all_match_empty ps true h in r.1
  matches_empty (choice ps) h = elim (some_matches_empty ps false h) [ inl f ↦ absurd cc | inr m ↦ m ]
  matches_empty (opt p) h = inl refl
  matches_empty (star p) h = no_round
  matches_empty (plus p) h = ([], [], refl, matches_empty p h, no_round)

  all_match_empty : (ps : PlainParts) (before : Bool) → IsTrue (all_may_be_empty before ps) → IsTrue before × MatchesAll ps []
  all_match_empty no_parts before h = (h, refl)
  all_match_empty (part p ps) before h =
      let rest = all_match_empty ps (before && may_be_empty p) h in
      let both = and_parts before (may_be_empty p) rest.0 in
      (both.0, ([], [], refl, matches_empty p both.1, rest.1))

  some_matches_empty : (ps : PlainParts) (before : Bool) → IsTrue (some_may_be_empty before ps) → IsTrue before ⊎ MatchesSome ps []
  some_matches_empty no_parts before h = inl h
  some_matches_empty (part p ps) before h =
      elim (some_matches_empty ps (before || may_be_empty p) h) [
        | inl either ↦ elim (or-cases before (may_be_empty p) either) [ inl b ↦ inl b | inr m ↦ inr (inl (matches_empty p m)) ]
        | inr m ↦ inr (inr m)
      ]

mutual
  empty_matched : (p : PlainPart) → Matches p [] → IsTrue (may_be_empty p)
  empty_matched (name y) m = absurd cc
  empty_matched (seq ps) m = empty_matched_all ps true refl m
  empty_matched (choice ps) m = empty_matched_some ps false (inr m)
  empty_matched (opt p) m = refl
  empty_matched (star p) m = refl
  empty_matched (plus p) m = let parts = joined-none (Matches p) (Rounds (Matches p)) m.0 m.1 m.2 m.3 m.4 in empty_matched p parts.0

  empty_matched_all : (ps : PlainParts) (before : Bool) → IsTrue before → MatchesAll ps [] → IsTrue (all_may_be_empty before ps)
  empty_matched_all no_parts before b m = b
  empty_matched_all (part p ps) before b m =
      let parts = joined-none (Matches p) (MatchesAll ps) m.0 m.1 m.2 m.3 m.4 in
      empty_matched_all ps (before && may_be_empty p) (and_from before (may_be_empty p) b (empty_matched p parts.0)) parts.1

  empty_matched_some : (ps : PlainParts) (before : Bool) → IsTrue before ⊎ MatchesSome ps [] → IsTrue (some_may_be_empty before ps)
  empty_matched_some no_parts before m = elim m [ inl b ↦ b | inr n ↦ absurd n ]
  empty_matched_some (part p ps) before m =
      empty_matched_some ps (before || may_be_empty p) (elim m [
        | inl b ↦ inl (or-left before (may_be_empty p) b)
        | inr n ↦ elim n [ inl one ↦ inl (or-right before (may_be_empty p) (empty_matched p one)) | inr rest ↦ inr rest ]
      ])

pub may_be_empty-means : (p : PlainPart) → IsTrue (may_be_empty p) ↔ Matches p []
may_be_empty-means p = (matches_empty p, empty_matched p)

mutual
  ends_continues : (p : PlainPart) (m : Positions p) → IsTrue (ends p m) → Continues p m []
  ends_continues (name y) m h = (h, refl)
  ends_continues (seq ps) m h = elim (ends_continues_in_order ps false m h) [ inl f ↦ absurd cc | inr c ↦ c ]
  ends_continues (choice ps) m h = elim (ends_continues_some ps false m h) [ inl f ↦ absurd cc | inr c ↦ c ]
  ends_continues (opt p) m h = ends_continues p m h
  ends_continues (star p) m h = ([], [], refl, ends_continues p m h, no_round)
  ends_continues (plus p) m h = ([], [], refl, ends_continues p m h, no_round)

  ends_continues_in_order : (ps : PlainParts) (before : Bool) (m : AllPositions ps) → IsTrue (ends_in_order before ps m) → (IsTrue before × MatchesAll ps []) ⊎ ContinuesInOrder ps m []
  ends_continues_in_order no_parts before m h = inl (h, refl)
  ends_continues_in_order (part p ps) before m h =
      elim (ends_continues_in_order ps (ends p m.0 || before && may_be_empty p) m.1 h) [
        | inl both ↦ elim (or-cases (ends p m.0) (before && may_be_empty p) both.0) [
          | inl e ↦ inr (inl ([], [], refl, ends_continues p m.0 e, both.1))
          | inr b ↦ let r = and_parts before (may_be_empty p) b in inl (r.0, ([], [], refl, matches_empty p r.1, both.1))
        ]
        | inr c ↦ inr (inr c)
      ]

  ends_continues_some : (ps : PlainParts) (before : Bool) (m : AllPositions ps) → IsTrue (ends_some before ps m) → IsTrue before ⊎ ContinuesSome ps m []
  ends_continues_some no_parts before m h = inl h
  ends_continues_some (part p ps) before m h =
      elim (ends_continues_some ps (before || ends p m.0) m.1 h) [
        | inl either ↦ elim (or-cases before (ends p m.0) either) [ inl b ↦ inl b | inr e ↦ inr (inl (ends_continues p m.0 e)) ]
        | inr c ↦ inr (inr c)
      ]

mutual
  continued_ends : (p : PlainPart) (m : Positions p) → Continues p m [] → IsTrue (ends p m)
  continued_ends (name y) m c = c.0
  continued_ends (seq ps) m c = continued_ends_in_order ps false m (inr c)
  continued_ends (choice ps) m c = continued_ends_some ps false m (inr c)
  continued_ends (opt p) m c = continued_ends p m c
  continued_ends (star p) m c = let parts = joined-none (Continues p m) (Rounds (Matches p)) c.0 c.1 c.2 c.3 c.4 in continued_ends p m parts.0
  continued_ends (plus p) m c = let parts = joined-none (Continues p m) (Rounds (Matches p)) c.0 c.1 c.2 c.3 c.4 in continued_ends p m parts.0

  continued_ends_in_order : (ps : PlainParts) (before : Bool) (m : AllPositions ps) → (IsTrue before × MatchesAll ps []) ⊎ ContinuesInOrder ps m [] → IsTrue (ends_in_order before ps m)
  continued_ends_in_order no_parts before m c = elim c [ inl b ↦ b.0 | inr n ↦ absurd n ]
  continued_ends_in_order (part p ps) before m c =
      continued_ends_in_order ps (ends p m.0 || before && may_be_empty p) m.1 (elim c [
        | inl b ↦
            let parts = joined-none (Matches p) (MatchesAll ps) b.1.0 b.1.1 b.1.2 b.1.3 b.1.4 in
            inl (or-right (ends p m.0) (before && may_be_empty p) (and_from before (may_be_empty p) b.0 (empty_matched p parts.0)), parts.1)
        | inr n ↦ elim n [
          | inl one ↦
              let parts = joined-none (Continues p m.0) (MatchesAll ps) one.0 one.1 one.2 one.3 one.4 in
              inl (or-left (ends p m.0) (before && may_be_empty p) (continued_ends p m.0 parts.0), parts.1)
          | inr rest ↦ inr rest
        ]
      ])

  continued_ends_some : (ps : PlainParts) (before : Bool) (m : AllPositions ps) → IsTrue before ⊎ ContinuesSome ps m [] → IsTrue (ends_some before ps m)
  continued_ends_some no_parts before m c = elim c [ inl b ↦ b | inr n ↦ absurd n ]
  continued_ends_some (part p ps) before m c =
      continued_ends_some ps (before || ends p m.0) m.1 (elim c [
        | inl b ↦ inl (or-left before (ends p m.0) b)
        | inr n ↦ elim n [ inl one ↦ inl (or-right before (ends p m.0) (continued_ends p m.0 one)) | inr rest ↦ inr rest ]
      ])

pub ends-means : (p : PlainPart) (m : Positions p) → IsTrue (ends p m) ↔ Continues p m []
ends-means p m = (ends_continues p m, continued_ends p m)
