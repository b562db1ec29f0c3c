-- What came of lists, and of jobs, joined.
use Rattle.std.proofs.Common.{Err, List, Ok, Result, Vec, [], append-nil, append_assoc, ap, arith, drop, get_or, length, length-append, refl, subst}
use Rattle.std.proofs.Common.{suc, sym, zero, ℕ, ◌%◌, ◌+◌, ◌++◌, ◌<◌, ◌^◌, ◌∙◌, ◌∷◌, ◌≡◌, ◌≢◌, ◌≤◌, ◌⊎◌, ◌-◌, inl, inr}
use Rattle.std.specs.List.{AllByRecursion, AllZip}
use Rattle.std.specs.declared.alloc.Global.{Global}
use Rattle.std.proofs.Math.Nat.{mod-eq_of_lt}
use Rattle.std.proofs.lemmas.List.{drop_more}
use Rattle.pv_dtd.specs.Plain.{PlainDtd}
use Rattle.pv_tree.specs.Lists.{Listed}
use Rattle.pv_tree.specs.declared.nodes.Mark.{Mark}
use Rattle.pv_tree.specs.declared.nodes.Verdict.{Verdict}
use Rattle.pv_tree.proofs.JoinedLists.{all_left, all_right}
use Rattle.pv_missing.specs.Verdicts.{AreVerdicts, IsVerdict}
use Rattle.pv_missing.specs.Widths.{IsListForVerdict}
use Rattle.pv_reach.specs.declared.errors.ReachError.{ReachError}
use Rattle.pv_reach.specs.declared.errors.ReachError.TheVariants.{TooWide}
use Rattle.pv_fresh.proofs.ListWalks.{verdicts_more}
use Rattle.pv_parallel.specs.Jobs.{AreJobs, AreJoined, IsRunOf, JudgesBehind, JudgesJob}
use Rattle.pv_parallel.specs.declared.jobs.Job.{Job}

module _ (g : PlainDtd) (root : List ℕ) (entered : ℕ → Type 0) where
  pub judges_none : (first : ℕ) (vs : List Verdict) → JudgesBehind g root entered first [] vs vs
  judges_none first vs = record {
    verdicts = λ past are. rw append-nil are;
    as_many = omega arith;
    told = λ k low high fits. absurd (omega arith);
  }

  -- one list, whose number was told
  pub judges_one : (first n : ℕ) (list : Listed Mark) (before after : List Verdict) (v : Verdict) →
      after ≡ before ++ v ∷ [] → IsVerdict g root list v → n ≡ (first + length before) % 2 ^ 64 → entered n →
      JudgesBehind g root entered first (list ∷ []) before after
  judges_one first n list before after v whole is number told = record {
    verdicts = λ past are. rw whole (verdicts_more g root past before list v are is);
    as_many = ap length whole ∙ length-append before (v ∷ []);
    told = λ k low high fits.
        let more : length after ≡ length before + 1 = ap length whole ∙ length-append before (v ∷ []) in
        let here : length before ≡ k = omega arith in
        let small : (first + k) % 2 ^ 64 ≡ first + k = mod-eq_of_lt fits in
        subst entered (number ∙ ap (λ i. (first + i) % 2 ^ 64) here ∙ small) told;
  }

  from_either : (first m : ℕ) (before middle after : List Verdict) → ((k : ℕ) → length before ≤ k → k < length middle → first + k < 2 ^ 64 → entered (first + k)) →
      ((k : ℕ) → length middle ≤ k → k < length after → first + k < 2 ^ 64 → entered (first + k)) → (k : ℕ) → length before ≤ k → k < length after → first + k < 2 ^ 64 →
      (k < length middle) ⊎ (length middle ≤ k) → entered (first + k)
  from_either first m before middle after a b k low high fits (inl h) = a k low h fits
  from_either first m before middle after a b k low high fits (inr h) = b k h high fits

  cases : (k n : ℕ) → (k < n) ⊎ (n ≤ k)
  cases k zero = inr (omega arith)
  cases zero (suc n) = inl (omega arith)
  cases (suc k) (suc n) = elim (cases k n) as (λ e. (suc k < suc n) ⊎ (suc n ≤ suc k)) [ inl h ↦ inl (omega arith) | inr h ↦ inr (omega arith) ]

  pub judges_both : (first : ℕ) (xs ys : List (Listed Mark)) (before middle after : List Verdict) →
      JudgesBehind g root entered first xs before middle → JudgesBehind g root entered first ys middle after →
      JudgesBehind g root entered first (xs ++ ys) before after
  judges_both first xs ys before middle after a b = record {
    verdicts = λ past are. rw (sym (append_assoc past xs ys)) (b.verdicts (past ++ xs) (a.verdicts past are));
    as_many = let n = length-append xs ys in let l = a.as_many in let m = b.as_many in omega arith;
    told = λ k low high fits. from_either first 0 before middle after a.told b.told k low high fits (cases k (length middle));
  }

  are_joined : (xs ys : List (Listed Mark)) (vs ws : List Verdict) → AreVerdicts g root xs vs → AreVerdicts g root ys ws → AreVerdicts g root (xs ++ ys) (vs ++ ws)
  are_joined [] ys vs ws a b = let none : vs ≡ [] = a in rw none b
  are_joined (l ∷ xs) ys vs ws a b = (a.0, a.1 ++ ws, ap (λ l. l ++ ws) a.2, a.3, are_joined xs ys a.1 ws a.4 b)

  -- as judged from the first on
  behind_none : (lists : List (Listed Mark)) (vs : List Verdict) → AreVerdicts g root lists vs → (past : List (Listed Mark)) → AreVerdicts g root past [] → AreVerdicts g root (past ++ lists) vs
  behind_none lists vs are [] none = are
  behind_none lists vs are (l ∷ past) none = let e = none.2 in absurd cc

  told_behind : (k m : ℕ) (vs ws : List Verdict) → m ≡ k + length vs → ((i : ℕ) → 0 ≤ i →
      i < length vs → k + i < 2 ^ 64 → entered (k + i)) → ((i : ℕ) → 0 ≤ i → i < length ws →
      m + i < 2 ^ 64 → entered (m + i)) →
      (i : ℕ) → i < length vs + length ws → k + i < 2 ^ 64 → (i < length vs) ⊎ (length vs ≤ i) → (j : ℕ) → (length vs ≤ i → i ≡ length vs + j) → entered (k + i)
  told_behind k m vs ws e a b i high fits (inl h) j same = a i (omega arith) h fits
  told_behind k m vs ws e a b i high fits (inr h) j same =
      let at = same h in
      let place : m + j ≡ k + i = omega arith in
      subst entered place (b j (omega arith) (omega arith) (omega arith))

  judges_behind : (k m : ℕ) (xs ys : List (Listed Mark)) (vs ws : List Verdict) →
      m ≡ k + length xs → JudgesBehind g root entered k xs [] vs →
      JudgesBehind g root entered m ys [] ws → JudgesBehind g root entered k (xs ++ ys) [] (vs ++ ws)
  judges_behind k m xs ys vs ws e a b =
      let n : length vs ≡ length xs = let l = a.as_many in omega arith in
      let both = length-append vs ws in
      record {
        verdicts = behind_none (xs ++ ys) (vs ++ ws) (are_joined xs ys vs ws (a.verdicts [] refl) (b.verdicts [] refl));
        as_many = let l = length-append xs ys in let j = b.as_many in omega arith;
        told = λ i low high fits. told_behind k m vs ws (omega arith) a.told b.told i (omega arith) fits (cases i (length vs)) (i - length vs) (λ h. omega arith);
      }

  -- what came of all jobs, where it is verdicts, are those of all lists
  pub jobs_judged : (k : ℕ) (lists : List (Listed Mark)) (jobs : List Job)
      (judged : List (Result (Vec Verdict Global) ReachError)) (vs : List Verdict) →
      AreJobs k lists jobs → AllZip (JudgesJob g root entered) jobs judged → AreJoined judged vs →
      JudgesBehind g root entered k lists [] vs
  jobs_judged k lists [] [] vs a z j = let none : lists ≡ [] = a in let nothing : vs ≡ [] = j in rw (none, nothing) (judges_none k [])
  jobs_judged k lists [] (one ∷ judged) vs a z j = absurd z
  jobs_judged k lists (job ∷ jobs) [] vs a z j = absurd z
  jobs_judged k lists (job ∷ jobs) (Ok here ∷ judged) vs a z j =
      let own = subst (λ n. JudgesBehind g root entered n a.0 [] here.items) a.3 (z.0.verdicts a.0 a.4) in
      let others = jobs_judged (k + length a.0) a.1 jobs judged j.0 a.5 z.1 j.2 in
      rw (a.2, j.1) (judges_behind k (k + length a.0) a.0 a.1 here.items j.0 refl own others)
  jobs_judged k lists (job ∷ jobs) (Err e ∷ judged) vs a z j = absurd j

  not_wide : (lists : List (Listed Mark)) (job : Job) (one : Result (Vec Verdict Global)
      ReachError) → IsRunOf lists job.run → JudgesJob g root entered job one →
      AllByRecursion (IsListForVerdict g) lists → one ≢ Err TooWide
  not_wide lists job (Ok vs) run judged fits e = absurd cc
  not_wide lists job (Err error) run judged fits e = let same : error ≡ TooWide = cc in judged.wide same lists run fits

  -- none is too wide where none of the lists is
  pub none_too_wide : (k : ℕ) (lists : List (Listed Mark)) (jobs : List Job)
      (judged : List (Result (Vec Verdict Global) ReachError)) → AreJobs k lists jobs →
      AllZip (JudgesJob g root entered) jobs judged → AllByRecursion (IsListForVerdict g) lists →
      AllByRecursion (λ one. one ≢ Err TooWide) judged
  none_too_wide k lists [] [] a z fits = tt
  none_too_wide k lists [] (one ∷ judged) a z fits = absurd z
  none_too_wide k lists (job ∷ jobs) [] a z fits = absurd z
  none_too_wide k lists (job ∷ jobs) (one ∷ judged) a z fits =
      let all = subst (AllByRecursion (IsListForVerdict g)) a.2 fits in
      (not_wide a.0 job one a.4 z.0 (all_left (IsListForVerdict g) a.0 a.1 all), none_too_wide (k + length a.0) a.1 jobs judged a.5 z.1 (all_right (IsListForVerdict g) a.0 a.1 all))

-- the verdicts of the job of this number stand after those before
pub joined_next : (judged : List (Result (Vec Verdict Global) ReachError)) (n : ℕ)
    (one : Result (Vec Verdict Global) ReachError) (here : Vec Verdict Global)
    (before after last : List Verdict) → n < length judged → one ≡ get_or judged n one → one ≡ Ok here →
    after ≡ before ++ here.items → ((rest : List Verdict) → AreJoined (drop n judged) rest →
    AreJoined judged (before ++ rest)) → AreJoined (drop (n + 1) judged) last →
    AreJoined judged (after ++ last)
joined_next judged n one here before after last h e ok new so_far more =
    let whole : drop n judged ≡ Ok here ∷ drop (n + 1) judged = drop_more judged n one h ∙ ap (λ (o : Result (Vec Verdict Global) ReachError). o ∷ drop (n + 1) judged) (sym e ∙ ok) in
    let behind : AreJoined (drop n judged) (here.items ++ last) = subst (λ (l : List (Result (Vec Verdict Global) ReachError)). AreJoined l (here.items ++ last)) (sym whole) (last, refl, more) in
    subst (AreJoined judged) (sym (ap (λ (l : List Verdict). l ++ last) new ∙ append_assoc before here.items last)) (so_far (here.items ++ last) behind)

-- what came of one more job stands after what came of those before it
pub in_turn_next : {A B : Type 0} (R : A → B → Type 0) (jobs : List A) (n : ℕ) (job : A) (one : B)
    (before after last : List B) → n < length jobs → job ≡ get_or jobs n job → R job one →
    after ≡ before ++ one ∷ [] →
    ((rest : List B) → AllZip R (drop n jobs) rest → AllZip R jobs (before ++ rest)) →
    AllZip R (drop (n + 1) jobs) last → AllZip R jobs (after ++ last)
in_turn_next {A} {B} R jobs n job one before after last h e of new so_far more =
    let whole : drop n jobs ≡ job ∷ drop (n + 1) jobs =
    drop_more jobs n job h ∙ ap (λ (j : A). j ∷ drop (n + 1) jobs) (sym e) in
    let behind : AllZip R (drop n jobs) (one ∷ last) =
    subst (λ (l : List A). AllZip R l (one ∷ last)) (sym whole) (of, more) in
    subst (AllZip R jobs)
    (sym (ap (λ (l : List B). l ++ last) new ∙ append_assoc before (one ∷ []) last))
    (so_far (one ∷ last) behind)

pub narrow_next : (judged : List (Result (Vec Verdict Global) ReachError)) (n : ℕ)
    (one : Result (Vec Verdict Global) ReachError) → n < length judged → one ≡ get_or judged n one →
    AllByRecursion (λ one. one ≢ Err TooWide) (drop n judged) →
    AllByRecursion (λ one. one ≢ Err TooWide) (drop (n + 1) judged)
narrow_next judged n one h e all = (subst (AllByRecursion (λ (o : Result (Vec Verdict Global) ReachError). o ≢ Err TooWide)) (drop_more judged n one h) all).1
