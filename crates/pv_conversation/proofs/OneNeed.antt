-- A session has one reply to `need`, and one to `complete` but for the document.
use Rattle.std.proofs.Common.{◌≡◌, ◌≤◌, List, ap, arith, sym, ℕ, ◌∙◌}
use Rattle.std.proofs.Math.Logic.{∥∥₁_elim, ∥∥₁_map}
use Rattle.std.specs.Coded.{Coded-set, coded_list, coded_ℕ}
use Rattle.pv_complete.specs.LeastCompletions.{IsLeastCompletion}
use Rattle.pv_complete.specs.NeededElements.{CanNeed, CanWeigh, IsHeavy, Needs, StopsAtWide}
use Rattle.pv_fresh.specs.Answers.{IsImpossibleAt}
use Rattle.pv_missing.specs.Verdicts.{IsLive}
use Rattle.pv_script.specs.declared.replies.Reply.{Reply}
use Rattle.pv_script.specs.declared.replies.Reply.TheVariants as reply
use Rattle.pv_session.specs.Sessions.{PlainSession}
use Rattle.pv_tree.specs.Lists.{lists_of}
use Rattle.pv_tree.proofs.FirstLists.{one_first}
use Rattle.pv_conversation.specs.Alike.{RepliesAlike, are_completions, are_one}
use Rattle.pv_conversation.specs.MissingReplies.{TellsCompletion, TellsNeed, Withholds}
use Rattle.pv_conversation.specs.MissingReplies.{is_completed, is_heavy, is_impossible, is_needed}
use Rattle.pv_conversation.specs.MissingReplies.{is_not_completed, is_wide, is_withheld}
use Rattle.pv_opening.proofs.OnePossibility.{none_first}

module _ (s : PlainSession) where
  -- all lists can be weighed, or one is too wide
  not_wide : (path : List ℕ) → CanNeed s.dtd s.root s.doc → StopsAtWide s.dtd s.root s.doc path → ⊥
  not_wide path can stops = none_first (CanWeigh s.dtd s.root) (lists_of s.doc) path can.weighed stops.first

  not_heavy : (k : ℕ) → Needs s.dtd s.root s.doc k → IsHeavy s.dtd s.root s.doc → ⊥
  not_heavy k needs heavy = let many = heavy.heavy k needs.least.completes in let few = needs.light in omega arith

  same_need : (k n : ℕ) → Needs s.dtd s.root s.doc k → Needs s.dtd s.root s.doc n → k ≡ n
  same_need k n here there =
      let low : k ≤ n = here.least.least n there.least.completes in
      let high : n ≤ k = there.least.least k here.least.completes in
      omega arith

  pub one_need : (k n : ℕ) → ∥ Needs s.dtd s.root s.doc k ∥₁ → ∥ Needs s.dtd s.root s.doc n ∥₁ → k ≡ n
  one_need k n here there = ∥∥₁_elim here (Coded-set coded_ℕ k n) (λ here. ∥∥₁_elim there (Coded-set coded_ℕ k n) (λ there. same_need k n here there))

  same_wide : (path other : List ℕ) → ∥ StopsAtWide s.dtd s.root s.doc path ∥₁ → ∥ StopsAtWide s.dtd s.root s.doc other ∥₁ → path ≡ other
  same_wide path other f h =
      let set = Coded-set (coded_list coded_ℕ) path other in
      ∥∥₁_elim f set (λ f. ∥∥₁_elim h set (λ h. one_first (CanWeigh s.dtd s.root) (lists_of s.doc) path other f.first h.first))

  -- not both
  neither : {A B : Type 0} → ∥ A ∥₁ → ∥ B ∥₁ → (A → B → ⊥) → ⊥
  neither a b not = ∥∥₁_elim a (λ x. absurd x) (λ a. ∥∥₁_elim b (λ x. absurd x) (λ b. not a b))

  same_impossible : (path other : List ℕ) → ∥ IsImpossibleAt s.root s.dtd s.doc path ∥₁ → ∥ IsImpossibleAt s.root s.dtd s.doc other ∥₁ → path ≡ other
  same_impossible path other f h =
      let set = Coded-set (coded_list coded_ℕ) path other in
      ∥∥₁_elim f set (λ f. ∥∥₁_elim h set (λ h. one_first (IsLive s.dtd s.root) (lists_of s.doc) path other f.first h.first))

  pub one_withheld : (told also : Reply) → Withholds s told → Withholds s also → told ≡ also
  one_withheld told also (is_impossible path f is) (is_impossible other h are) = is ∙ ap reply.Impossible (same_impossible path other f h) ∙ sym are
  one_withheld told also (is_impossible path f is) (is_wide other h are) = absurd (neither f h (λ f h. f.impossible h.possible))
  one_withheld told also (is_impossible path f is) (is_heavy h are) = absurd (neither f h (λ f h. f.impossible h.can.possible))
  one_withheld told also (is_wide path f is) (is_impossible other h are) = absurd (neither h f (λ h f. h.impossible f.possible))
  one_withheld told also (is_heavy h is) (is_impossible other f are) = absurd (neither f h (λ f h. f.impossible h.can.possible))
  one_withheld told also (is_wide path f is) (is_wide other h are) =
      is ∙ ap reply.Wide (same_wide path other f h) ∙ sym are
  one_withheld told also (is_wide path f is) (is_heavy h are) = absurd (neither h f (λ h f. not_wide path h.can f))
  one_withheld told also (is_heavy h is) (is_wide path f are) = absurd (neither h f (λ h f. not_wide path h.can f))
  one_withheld told also (is_heavy h is) (is_heavy m are) = is ∙ sym are

  -- the number isn't both told and not told
  pub told_or_withheld : (k : ℕ) (also : Reply) → ∥ Needs s.dtd s.root s.doc k ∥₁ → Withholds s also → ⊥
  told_or_withheld k also needs (is_impossible path f are) = neither needs f (λ needs f. f.impossible needs.can.possible)
  told_or_withheld k also needs (is_wide path f are) = neither needs f (λ needs f. not_wide path needs.can f)
  told_or_withheld k also needs (is_heavy h are) = neither needs h (λ needs h. not_heavy k needs h)

  pub one_told : (told also : Reply) → TellsNeed s told → TellsNeed s also → told ≡ also
  one_told told also (is_needed k needs is) (is_needed n others are) = is ∙ ap reply.Need (one_need k n needs others) ∙ sym are
  one_told told also (is_needed k needs is) (is_withheld w) = absurd (told_or_withheld k also needs w)
  one_told told also (is_withheld w) (is_needed k needs is) = absurd (told_or_withheld k told needs w)
  one_told told also (is_withheld w) (is_withheld v) = one_withheld told also w v

  needs_of : (k : ℕ) (marks body : List ℕ) → ∥ IsLeastCompletion s.dtd s.root s.doc k marks body ∥₁ → ∥ Needs s.dtd s.root s.doc k ∥₁
  needs_of k marks body c = ∥∥₁_map c (λ c. c.needs)

  pub one_completion : (told also : Reply) → TellsCompletion s told → TellsCompletion s also → RepliesAlike told also
  one_completion told also (is_completed k marks body c here is) (is_completed n others text d there are) =
      are_completions k body text is (are ∙ ap (λ (i : ℕ). reply.Completed i text) (sym (one_need k n (needs_of k marks body c) (needs_of n others text d))))
  one_completion told also (is_completed k marks body c here is) (is_not_completed w) = absurd (told_or_withheld k also (needs_of k marks body c) w)
  one_completion told also (is_not_completed w) (is_completed k marks body c here is) = absurd (told_or_withheld k told (needs_of k marks body c) w)
  one_completion told also (is_not_completed w) (is_not_completed v) = are_one (one_withheld told also w v)
