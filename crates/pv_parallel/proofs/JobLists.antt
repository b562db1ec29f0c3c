-- The lists of nodes, and jobs in the order of their lists.
use Rattle.std.proofs.Common.{List, [], add-zero, ap, append-nil, append_assoc, arith, drop, get_or, length, length-append, max, refl, subst, suc, sym, take, ℕ, ◌+◌, ◌++◌, ◌<◌, ◌∙◌, ◌∷◌, ◌≡◌, ◌≤◌}
use Rattle.std.proofs.lemmas.List.{length-drop, length-take-le, take-append-drop, take_more}
use Rattle.std.specs.List.{AllByRecursion}
use Rattle.pv_tree.specs.Lists.{Listed, lists_at, lists_from, lists_of, the_document}
use Rattle.pv_tree.specs.Plain.{Forest, PlainDoc, Tree, cdata_node, element, misc_node, no_trees, nodes_in, nodes_in_all, text_node, tree}
use Rattle.pv_tree.specs.PlainForms.{forest, plain}
use Rattle.pv_tree.specs.declared.nodes.Mark.{Mark}
use Rattle.pv_tree.specs.declared.nodes.Node.{Node}
use Rattle.pv_tree.proofs.JoinedLists.{all_joined}
use Rattle.pv_tree.proofs.Forests.{forest-drop, forest-end}
use Rattle.pv_parallel.specs.Jobs.{Adds, AreJobs, HasGathered, IsRunOf, TakesFront}
use Rattle.pv_parallel.specs.Sizes.{HasFewTokens, Measures, Tallies}
use Rattle.pv_parallel.specs.declared.sizes.Front.{Front}
use Rattle.pv_parallel.specs.declared.sizes.Tally.{Tally}
use Rattle.pv_parallel.proofs.ListTallies.{few_more}
use Rattle.pv_parallel.specs.declared.gathering.Gathering.{Gathering}
use Rattle.pv_parallel.specs.declared.jobs.Job.{Job}

-- the lists of nodes that stand after others come after those of these
pub lists_joined : (path : List ℕ) (i : ℕ) (xs ys : List Node) → lists_from path i (forest (xs ++ ys)) ≡ lists_from path i (forest xs) ++ lists_from path (i + length xs) (forest ys)
lists_joined path i [] ys = ap (λ k. lists_from path k (forest ys)) (sym (add-zero i))
lists_joined path i (x ∷ xs) ys =
    let behind : suc i + length xs ≡ i + suc (length xs) = omega arith in
    ap (λ l. lists_at (path ++ i ∷ []) (plain x) ++ l) (lists_joined path (suc i) xs ys ∙ ap (λ k. lists_from path (suc i) (forest xs) ++ lists_from path k (forest ys)) behind)
    ∙ sym (append_assoc (lists_at (path ++ i ∷ []) (plain x)) (lists_from path (suc i) (forest xs)) (lists_from path (i + suc (length xs)) (forest ys)))

nodes_joined : (xs ys : List Node) → nodes_in_all (forest (xs ++ ys)) ≡ nodes_in_all (forest xs) + nodes_in_all (forest ys)
nodes_joined [] ys = omega arith
nodes_joined (x ∷ xs) ys = omega (arith, nodes_joined xs ys)

-- of nodes that are cut in two
pub nodes_cut : (n : ℕ) (nodes : List Node) → nodes_in_all (forest nodes) ≡ nodes_in_all (forest (take n nodes)) + nodes_in_all (forest (drop n nodes))
nodes_cut n nodes = ap (λ l. nodes_in_all (forest l)) (sym (take-append-drop n nodes)) ∙ nodes_joined (take n nodes) (drop n nodes)

length-cut : (n : ℕ) (nodes : List Node) → n ≤ length nodes → length (take n nodes) ≡ n
length-cut n nodes h = length-take-le n nodes h

pub lists_cut : (path : List ℕ) (i n : ℕ) (nodes : List Node) → n ≤ length nodes →
    lists_from path i (forest nodes) ≡ lists_from path i (forest (take n nodes))
    ++ lists_from path (i + n) (forest (drop n nodes))
lists_cut path i n nodes h =
    ap (λ l. lists_from path i (forest l)) (sym (take-append-drop n nodes)) ∙ lists_joined path i (take n nodes) (drop n nodes)
    ∙ ap (λ k. lists_from path i (forest (take n nodes)) ++ lists_from path (i + k) (forest (drop n nodes))) (length-cut n nodes h)

-- the lists of the node of this number, and those of the others after it
pub lists_next : (path : List ℕ) (i n : ℕ) (nodes : List Node) (node : Node) → n < length nodes → node ≡ get_or nodes n node →
    lists_from path (i + n) (forest (drop n nodes)) ≡ lists_at (path ++ (i + n) ∷ []) (plain node) ++ lists_from path (i + (n + 1)) (forest (drop (n + 1) nodes))
lists_next path i n nodes node h e =
    let next : suc (i + n) ≡ i + (n + 1) = omega arith in
    ap (lists_from path (i + n)) (forest-drop nodes n node h e) ∙ ap (λ k. lists_at (path ++ (i + n) ∷ []) (plain node) ++ lists_from path k (forest (drop (n + 1) nodes))) next

pub lists_end : (path : List ℕ) (i n : ℕ) (nodes : List Node) → length nodes ≤ n → lists_from path i (forest (drop n nodes)) ≡ []
lists_end path i n nodes h = rw (forest-end nodes n h) refl

-- there are no more lists than nodes
mutual
  pub few_lists : {M : Type 0} (path : List ℕ) (t : Tree M) → length (lists_at path t) ≤ nodes_in t
  few_lists path (element x attrs ending kids mark) = omega (arith, all_few_lists path 0 kids)
  few_lists path (text_node units) = omega arith
  few_lists path (cdata_node bytes) = omega arith
  few_lists path (misc_node bytes) = omega arith

  pub all_few_lists : {M : Type 0} (path : List ℕ) (i : ℕ) (kids : Forest M) → length (lists_from path i kids) ≤ nodes_in_all kids
  all_few_lists path i no_trees = omega arith
  all_few_lists path i (tree t rest) = omega (arith, length-append (lists_at (path ++ i ∷ []) t) (lists_from path (suc i) rest), few_lists (path ++ i ∷ []) t, all_few_lists path (suc i) rest)

jobs_behind : (k m : ℕ) (past lists : List (Listed Mark)) (jobs more : List Job) → m ≡ k + length past → AreJobs k past jobs → AreJobs m lists more → AreJobs k (past ++ lists) (jobs ++ more)
jobs_behind k m past lists [] more e a b = let none : past ≡ [] = a in let same : m ≡ k = omega (arith, ap length none) in rw none (subst (λ i. AreJobs i lists more) same b)
jobs_behind k m past lists (j ∷ jobs) more e a b =
    let whole = a.2 in
    let n : length past ≡ length a.0 + length a.1 = ap length whole ∙ length-append a.0 a.1 in
    (a.0, a.1 ++ lists, ap (λ l. l ++ lists) whole ∙ append_assoc a.0 a.1 lists, a.3, a.4, jobs_behind (k + length a.0) m a.1 lists jobs more (omega arith) a.5 b)

pub adds_none : (gathering : Gathering) → Adds [] gathering gathering
adds_none gathering = λ past has. rw append-nil has

pub adds_both : (xs ys : List (Listed Mark)) (a b c : Gathering) → Adds xs a b → Adds ys b c → Adds (xs ++ ys) a c
adds_both xs ys a b c f h = λ past has. rw (sym (append_assoc past xs ys)) (h (past ++ xs) (f past has))

-- one job more
pub adds_job : (here : List (Listed Mark)) (before after : Gathering) (job : Job) (longest : ℕ) →
    after.jobs.items ≡ before.jobs.items ++ job ∷ [] → job.first ≡ before.count →
    IsRunOf here job.run → after.count ≡ before.count + length here →
    after.longest ≡ max before.longest longest → AllByRecursion (HasFewTokens longest) here → Adds here before after
adds_job here before after job longest items first run count most few = λ past has.
    record {
      jobs = rw items (jobs_behind 0 before.count past here before.jobs.items (job ∷ []) (let n = has.count in omega arith) has.jobs (here, [], sym (append-nil here), first, run, refl));
      count = count ∙ ap (λ n. n + length here) has.count ∙ sym (length-append past here);
      narrow = all_joined (HasFewTokens after.longest) past here (few_more before.longest after.longest (omega arith) past has.narrow) (few_more longest after.longest (omega arith) here few);
    }

-- of nodes some of which were gathered, the others come after those
pub front_then : (rest next : List Node) (a b : Gathering) → TakesFront rest next a b →
    (last : Gathering) → ((path : List ℕ) (i : ℕ) → Adds (lists_from path i (forest next)) b last) →
    (path : List ℕ) (i : ℕ) → Adds (lists_from path i (forest rest)) a last
front_then rest next a b f last more path i =
    let behind : Adds (lists_from path (i + f.count) (forest (drop f.count rest))) b last =
    subst (λ (l : List Node). Adds (lists_from path (i + f.count) (forest l)) b last) f.is_rest
    (more path (i + f.count)) in
    subst (λ (l : List (Listed Mark)). Adds l a last) (sym (lists_cut path i f.count rest f.within))
    (adds_both (lists_from path i (forest (take f.count rest))) (lists_from path (i + f.count) (forest (drop f.count rest))) a b last (f.adds path i) behind)

pub front_few : (rest next : List Node) (a b : Gathering) → TakesFront rest next a b → b.count + nodes_in_all (forest next) ≤ a.count + nodes_in_all (forest rest)
front_few rest next a b f = let same = ap (λ (l : List Node). nodes_in_all (forest l)) f.is_rest in let cut = nodes_cut f.count rest in let few = f.few in omega arith

pub front_smaller : (rest next : List Node) (a b : Gathering) → TakesFront rest next a b → nodes_in_all (forest next) ≤ nodes_in_all (forest rest)
front_smaller rest next a b f = let same = ap (λ (l : List Node). nodes_in_all (forest l)) f.is_rest in let cut = nodes_cut f.count rest in omega arith

pub front_shorter : (rest next : List Node) (a b : Gathering) → TakesFront rest next a b → length next < length rest
front_shorter rest next a b f = let same = ap length f.is_rest ∙ length-drop f.count rest in let some = f.some in let within = f.within in omega arith

-- the lists of the front are no more than the nodes
few_in_front : (nodes : List Node) (n : ℕ) (m : Front) → ((path : List ℕ) (i : ℕ) → Measures (lists_from path i (forest (take n nodes))) m) → m.lists ≤ nodes_in_all (forest (take n nodes))
few_in_front nodes n m measured = let same = (measured [] 0).counted in let few = all_few_lists [] 0 (forest (take n nodes)) in omega arith

pub few_in_all : (nodes : List Node) (n : ℕ) (m : Front) → ((path : List ℕ) (i : ℕ) → Measures (lists_from path i (forest (take n nodes))) m) → m.lists ≤ nodes_in_all (forest nodes)
few_in_all nodes n m measured = let few = few_in_front nodes n m measured in let cut = nodes_cut n nodes in omega arith

-- one node more in the front
pub measured_next : (nodes : List Node) (n : ℕ) (node : Node) (old new : Front) (a b : Tally) →
    n < length nodes → node ≡ get_or nodes n node → ((path : List ℕ) (i : ℕ) →
    Measures (lists_from path i (forest (take n nodes))) old) →
    a.lists ≡ old.lists → a.longest ≡ old.longest → ((path : List ℕ) → Tallies (lists_at path (plain node)) a b) → new.lists ≡ b.lists → new.longest ≡ b.longest →
    (path : List ℕ) (i : ℕ) → Measures (lists_from path i (forest (take (n + 1) nodes))) new
measured_next nodes n node old new a b h e measured lists longest tallies counted most path i =
    let front = lists_from path i (forest (take n nodes)) in
    let here = lists_at (path ++ (i + n) ∷ []) (plain node) in
    let m = measured path i in
    let t = tallies (path ++ (i + n) ∷ []) in
    let behind : lists_from path (i + length (take n nodes)) (forest (node ∷ [])) ≡ here =
    append-nil (lists_at (path ++ (i + length (take n nodes)) ∷ []) (plain node))
    ∙ ap (λ k. lists_at (path ++ (i + k) ∷ []) (plain node)) (length-cut n nodes (omega arith)) in
    let whole : lists_from path i (forest (take (n + 1) nodes)) ≡ front ++ here =
    ap (λ (l : List Node). lists_from path i (forest l)) (take_more nodes n node h
    ∙ ap (λ (x : Node). take n nodes ++ x ∷ []) (sym e)) ∙ lists_joined path i (take n nodes)
    (node ∷ []) ∙ ap (λ l. front ++ l) behind in
    let all : Measures (front ++ here) new = record {
      counted = let l = length-append front here in let k = m.counted in let j = t.counted in omega arith;
      narrow = let grows = t.grows in all_joined (HasFewTokens new.longest) front here
          (few_more old.longest new.longest (omega arith) front m.narrow)
          (few_more b.longest new.longest (omega arith) here t.narrow);
    } in
    subst (λ (l : List (Listed Mark)). Measures l new) (sym whole) all

-- a front that is one run
pub run_taken : (nodes rest front : List Node) (n : ℕ) (m : Front) (a b : Gathering) → 0 < n →
    n ≤ length nodes → front ≡ take n nodes → rest ≡ drop n nodes → ((path : List ℕ) (i : ℕ) →
    Measures (lists_from path i (forest (take n nodes))) m) →
    ((path : List ℕ) (i : ℕ) → Measures (lists_from path i (forest front)) m → Adds (lists_from path i (forest front)) a b) → b.count ≡ a.count + m.lists → TakesFront nodes rest a b
run_taken nodes rest front n m a b some within is_front is_rest measured added count = record {
  count = n;
  some = some;
  within = within;
  is_rest = is_rest;
  adds = λ path i.
      let same : lists_from path i (forest front) ≡ lists_from path i (forest (take n nodes)) = ap (λ (l : List Node). lists_from path i (forest l)) is_front in
      subst (λ (l : List (Listed Mark)). Adds l a b) same (added path i (subst (λ (l : List (Listed Mark)). Measures l m) (sym same) (measured path i)));
  few = let few = few_in_front nodes n m measured in omega arith;
}

one_front : (nodes : List Node) (node : Node) → 0 < length nodes → node ≡ get_or nodes 0 node → take 1 nodes ≡ node ∷ []
one_front [] node some e = absurd (omega arith)
one_front (x ∷ xs) node some e = ap (λ (y : Node). y ∷ []) (sym e)

-- a front that is one node
pub node_taken : (nodes rest : List Node) (node : Node) (a b : Gathering) → 0 < length nodes →
    node ≡ get_or nodes 0 node → rest ≡ drop 1 nodes → ((path : List ℕ) →
    Adds (lists_at path (plain node)) a b) → b.count ≤ a.count + nodes_in (plain node) →
    TakesFront nodes rest a b
node_taken nodes rest node a b some is is_rest added few =
    let front : take 1 nodes ≡ node ∷ [] = one_front nodes node some is in
    let whole : nodes_in_all (forest (take 1 nodes)) ≡ nodes_in_all (forest (node ∷ [])) = ap (λ (l : List Node). nodes_in_all (forest l)) front in
    record {
      count = 1;
      some = omega arith;
      within = omega arith;
      is_rest = is_rest;
      adds = λ path i. subst (λ (l : List Node). Adds (lists_from path i (forest l)) a b)
          (sym front) (adds_both (lists_at (path ++ i ∷ []) (plain node)) [] a b b (added (path
          ++ i ∷ [])) (adds_none b));
      few = omega arith;
    }

-- the document node's list, and those of the elements after it
pub whole_gathered : (doc : PlainDoc Mark) (a b c : Gathering) → HasGathered [] a →
    Adds (record { path = []; owner = the_document; kids = tree doc.root no_trees } ∷ []) a b →
    Adds (lists_at (0 ∷ []) doc.root ++ []) b c → HasGathered (lists_of doc) c
whole_gathered doc a b c none own below =
    let list : Listed Mark = record { path = []; owner = the_document; kids = tree doc.root no_trees } in
    let all : HasGathered (list ∷ (lists_at (0 ∷ []) doc.root ++ [])) c = below (list ∷ []) (own [] none) in
    subst (λ (l : List (Listed Mark)). HasGathered (list ∷ l) c) (append-nil (lists_at (0 ∷ []) doc.root)) all
