-- The pieces of a list's completion, and its nodes completed, make a completed list.
use Rattle.std.proofs.Common.{Bool, IsTrue, List, Some, [], ap, append-nil, append_assoc, arith, codes, false, if◌then◌else◌, refl, suc, sym, true, ℕ, ◌++◌, ◌+◌, ◌∙◌, ◌∷◌, ◌≡◌, ◌≢◌}
use Rattle.pv_chars.specs.Names.{is_name}
use Rattle.pv_chars.specs.Texts.{has_data}
use Rattle.pv_model.specs.Plain.{PlainModel, PlainToken, named, text}
use Rattle.pv_model.specs.Models.{Allows}
use Rattle.pv_dtd.specs.Hedge.{Hedge, done, leaf}
use Rattle.pv_dtd.specs.Plain.{PlainDtd, declared, model_of, number_of, spelling_of}
use Rattle.pv_dtd.specs.Proper.{IsProperDtd}
use Rattle.pv_dtd.proofs.ProperDtds.{spelled}
use Rattle.pv_tree.specs.Plain.{Forest, Tree, cdata_node, element, misc_node, no_trees, tagged, text_node, tree}
use Rattle.pv_tree.specs.Lists.{IsOwnValid}
use Rattle.pv_tree.specs.View.{spread, unit_leaf, view_all, view_before}
use Rattle.pv_tree.specs.Words.{node_before, word_of}
use Rattle.pv_write.specs.Text.{forest_text, tree_text}
use Rattle.pv_write.proofs.EventLists.{events-join, marks-join, news-join, opens-join}
use Rattle.pv_missing.specs.Completions.{LeavesOut, out_done, out_new}
use Rattle.pv_missing.specs.Extensions.{join}
use Rattle.pv_missing.proofs.CoversToInsertions.{allows-empty, empty_join}
use Rattle.pv_write.specs.Events.{Event, events_text, marks_from, new_end, new_start, news}
use Rattle.pv_write.specs.Events.{old_bytes, old_start, opens}
use Rattle.pv_complete.specs.GrownTrees.{trees_and}
use Rattle.pv_complete.specs.MergedLists.{AreValidTrees, IsCompletedList, IsCompletedTree, Merges}
use Rattle.pv_complete.specs.MergedLists.{merge_along, merge_end, merge_finish, merge_kept}
use Rattle.pv_complete.specs.MergedLists.{merge_left, merge_start, view_beside}
use Rattle.pv_write.specs.Pieces.{PlainPiece, finish, kept, start}
use Rattle.pv_complete.specs.Pieces.{Writes, write_kept, write_new, write_none, write_text}
use Rattle.pv_complete.specs.Writable.{HasNames, KeepsWritable}
use Rattle.pv_complete.proofs.WritableTrees.{keeps_new, keeps_none, name_of_number, no-attributes}

spread-join : (us : List (List ℕ)) (h b : Hedge) → spread us (join h b) ≡ join (spread us h) b
spread-join [] h b = refl
spread-join (u ∷ us) h b = ap (leaf (unit_leaf u)) (spread-join us h b)

new_text : (lt x gt k lt2 : List ℕ) → (lt ++ x ++ [] ++ gt ++ k ++ lt2 ++ x ++ [] ++ gt) ++ [] ≡ (lt ++ x ++ gt) ++ (k ++ ((lt2 ++ x ++ gt) ++ []))
new_text lt x gt k lt2 = simp (append_assoc, append-nil)

text_join : (b : Bool) (a c : List PlainToken) → (if b then text ∷ (a ++ c) else a ++ c) ≡ (if b then text ∷ a else a) ++ c
text_join true a c = refl
text_join false a c = refl

module _ {M : Type 0} where
  text-trees_and : (a b : Forest M) → forest_text (trees_and a b) ≡ forest_text a ++ forest_text b
  text-trees_and no_trees b = refl
  text-trees_and (tree t a) b = ap (λ x. tree_text t ++ x) (text-trees_and a b) ∙ sym (append_assoc (tree_text t) (forest_text a) (forest_text b))

  view-trees_and : (a b : Forest M) (h : Hedge) → view_beside (trees_and a b) h ≡ view_beside a (view_beside b h)
  view-trees_and no_trees b h = refl
  view-trees_and (tree t a) b h = ap (λ x. view_before t x) (view-trees_and a b h)

  trees_and-assoc : (a b c : Forest M) → trees_and a (trees_and b c) ≡ trees_and (trees_and a b) c
  trees_and-assoc no_trees b c = refl
  trees_and-assoc (tree t a) b c = ap (tree t) (trees_and-assoc a b c)

  beside_none : (a b : Forest M) → no_trees ≡ trees_and a b → no_trees ≡ b
  beside_none no_trees b e = e
  beside_none (tree t a) b e = absurd cc

  before-join : (t : Tree M) (h b : Hedge) → view_before t (join h b) ≡ join (view_before t h) b
  before-join (element x a e k m) h b = refl
  before-join (text_node us) h b = spread-join us h b
  before-join (cdata_node c) h b = refl
  before-join (misc_node c) h b = refl

  trees_and-join : (a : Forest M) (h : Hedge) → view_beside a h ≡ join (view_all a) h
  trees_and-join no_trees h = refl
  trees_and-join (tree t a) h = ap (λ x. view_before t x) (trees_and-join a h) ∙ before-join t (view_all a) h

  pub trees_and-none : (a : Forest M) → trees_and a no_trees ≡ a
  trees_and-none no_trees = refl
  trees_and-none (tree t a) = ap (tree t) (trees_and-none a)

  pub trees_and-done : (a : Forest M) → view_beside a done ≡ view_all a
  trees_and-done no_trees = refl
  trees_and-done (tree t a) = ap (λ x. view_before t x) (trees_and-done a)

module _ {M : Type 0} (g : PlainDtd) where
  valid-trees_and : (a b : Forest M) → AreValidTrees g a → AreValidTrees g b → AreValidTrees g (trees_and a b)
  valid-trees_and no_trees b p q = q
  valid-trees_and (tree t a) b p q = (p.0, valid-trees_and a b p.1 q)

  word-before : (t : Tree M) (a b : List PlainToken) → node_before g t (a ++ b) ≡ node_before g t a ++ b
  word-before (element x s e k m) a b = refl
  word-before (text_node us) a b = text_join (has_data us) a b
  word-before (cdata_node c) a b = refl
  word-before (misc_node c) a b = refl

  word-trees_and : (a b : Forest M) → word_of g (trees_and a b) ≡ word_of g a ++ word_of g b
  word-trees_and no_trees b = refl
  word-trees_and (tree t a) b = ap (λ x. node_before g t x) (word-trees_and a b) ∙ word-before t (word_of g a) (word_of g b)

module _ {M : Type 0} (blank : M) (g : PlainDtd) (proper : IsProperDtd g) (names : HasNames g) where
  -- some kids completed, so that their word is u
  record Part (kids : Forest M) (u : List PlainToken) (es : List Event) (n k : ℕ) : Type 0 where
    pub new : Forest M
    pub text : forest_text new ≡ events_text es
    pub tags : (m e : ℕ) (more : List ℕ) (h h' : Hedge) → LeavesOut (m + opens es) e more h h' → LeavesOut m e (marks_from m es ++ more) (view_beside kids h) (view_beside new h')
    pub valid : AreValidTrees g new
    pub word : word_of g new ≡ u
    pub count : news es ≡ n + k
    pub none : u ≡ [] → new ≡ no_trees
    pub keeps : (f f' : Forest M) → KeepsWritable f f' → KeepsWritable (trees_and kids f) (trees_and new f')

  part_none : (n k : ℕ) → n ≡ 0 → k ≡ 0 → Part no_trees [] [] n k
  part_none n k e f = record {
    new = no_trees;
    text = refl;
    tags = λ m i more h h' l. let z : m + 0 ≡ m = omega arith in rw z at l;
    valid = tt;
    word = refl;
    count = omega arith;
    none = λ _. refl;
    keeps = λ f f' k. k;
  }

  part_tree : (t new : Tree M) (es : List Event) (token : PlainToken) → IsCompletedTree g t new es →
      ((u : List PlainToken) → node_before g t u ≡ token ∷ u) →
      Part (tree t no_trees) (token ∷ []) es 0 (news es)
  part_tree t new es token c is = record {
    new = tree new no_trees;
    text = append-nil (tree_text new) ∙ c.text;
    tags = c.tags;
    valid = (c.valid, tt);
    word = c.head [] ∙ is [];
    count = omega arith;
    none = λ e. absurd cc;
    keeps = c.keeps;
  }

  part_along : (t new : Tree M) (kids : Forest M) (u : List PlainToken) (one two : List Event)
      (n k : ℕ) → IsCompletedTree g t new one → ((v : List PlainToken) → node_before g t v ≡ v) →
      u ≢ [] → Part kids u two n k →
      Part (tree t kids) u (one ++ two) n (news one + k)
  part_along t new kids u one two n k c is some p = record {
    new = tree new p.new;
    text = rw (events-join one two) (let a = c.text in let b = p.text in rw (a, b) refl);
    tags = λ m e more h h' l.
        let z : m + opens (one ++ two) ≡ m + opens one + opens two = omega (arith, opens-join one two) in
        rw (marks-join m one two, append_assoc (marks_from m one) (marks_from (m + opens one) two) more)
        (c.tags m e (marks_from (m + opens one) two ++ more) (view_beside kids h) (view_beside p.new h') (p.tags (m + opens one) e more h h' (rw z at l)));
    valid = (c.valid, p.valid);
    word = c.head (word_of g p.new) ∙ is (word_of g p.new) ∙ p.word;
    count = let q = p.count in omega (arith, news-join one two);
    none = λ e. absurd (some e);
    keeps = λ f f' h. c.keeps (trees_and kids f) (trees_and p.new f') (p.keeps f f' h);
  }

  part_join : (a b : Forest M) (u v : List PlainToken) (one two : List Event) (n1 n2 k1 k2 : ℕ) →
      Part a u one n1 k1 → Part b v two n2 k2 → Part (trees_and a b) (u ++ v) (one ++ two) (n1 + n2) (k1 + k2)
  part_join a b u v one two n1 n2 k1 k2 p q = record {
    new = trees_and p.new q.new;
    text = text-trees_and p.new q.new ∙ (let c = p.text in let d = q.text in rw (events-join one two, c, d) refl);
    tags = λ m e more h h' l.
        let z : m + opens (one ++ two) ≡ m + opens one + opens two = omega (arith, opens-join one two) in
        rw (marks-join m one two, append_assoc (marks_from m one) (marks_from (m + opens one) two) more, view-trees_and a b h, view-trees_and p.new q.new h')
        (p.tags m e (marks_from (m + opens one) two ++ more) (view_beside b h) (view_beside q.new h') (q.tags (m + opens one) e more h h' (rw z at l)));
    valid = valid-trees_and g p.new q.new p.valid q.valid;
    word = word-trees_and g p.new q.new ∙ (let c = p.word in let d = q.word in rw (c, d) refl);
    count = let c = p.count in let d = q.count in omega (arith, news-join one two);
    none = λ e. let s = empty_join u v (sym e) in let c = p.none s.0 in let d = q.none s.1 in rw (c, d) refl;
    keeps = λ f f' h. rw (← trees_and-assoc a b f, ← trees_and-assoc p.new q.new f') (p.keeps (trees_and b f) (trees_and q.new f') (q.keeps f f' h));
  }

  part_new : (kids : Forest M) (y n a k : ℕ) (m : PlainModel) (v : List PlainToken) (es : List Event) → n ≡ suc a → model_of g y ≡ Some m → Allows (declared g) m v → Part kids v es a k →
      Part kids (named y ∷ []) (new_start (spelling_of g y) ∷ (es ++ new_end (spelling_of g y) ∷ [])) n k
  part_new kids y n a k m v es f is ok p = record {
    new = tree (element x [] (tagged []) p.new blank) no_trees;
    text = rw (events-join es (new_end x ∷ [])) (let t = p.text in rw (← t) (new_text (codes "<") x (codes ">") (forest_text p.new) (codes "</")));
    tags = λ i e more h h' l.
        let z : i + suc (opens (es ++ new_end x ∷ [])) ≡ suc i + opens es = omega (arith, opens-join es (new_end x ∷ [])) in
        out_new i (suc i + opens es) e (i ∷ (marks_from (suc i) (es ++ new_end x ∷ []) ++ more)) (marks_from (suc i) es) more x (view_beside kids h) (view_all kids) h (view_all p.new) h'
        (rw (marks-join (suc i) es (new_end x ∷ []), append-nil) refl) (trees_and-join kids h) (inner i) (rw z at l);
    valid = ((own, p.valid), tt);
    word = let s = spelled g proper y m is in rw s refl;
    count = let c = p.count in omega (arith, news-join es (new_end x ∷ []));
    none = λ e. absurd cc;
    keeps = λ f f' h. keeps_new x kids p.new f f' blank named no-attributes (rw (trees_and-none kids, trees_and-none p.new) at (p.keeps no_trees no_trees keeps_none)) h;
  }
    where
      x : List ℕ
      x = spelling_of g y

      named : IsTrue (is_name x)
      named = name_of_number g proper names y m is

      inner : (i : ℕ) → LeavesOut (suc i) (suc i + opens es) (marks_from (suc i) es) (view_all kids) (view_all p.new)
      inner i = rw (append-nil, trees_and-done kids, trees_and-done p.new) at (p.tags (suc i) (suc i + opens es) [] done done (out_done (suc i + opens es) (suc i + opens es) refl))

      own : IsOwnValid g (number_of g x) p.new
      own = record {
        number = y;
        is_owner = spelled g proper y m is;
        model = m;
        is_model = is;
        no_kids = λ z. p.none (allows-empty g m v z ok);
        allowed = let w = p.word in rw w ok;
      }

  -- pieces in front, of kids in front, and what is left
  record Taken (qs : List PlainPiece) (kids : Forest M) (es : List Event) (k : ℕ) (u w : List PlainToken) (n : ℕ) : Type 0 where
    pub front : Forest M
    pub back : Forest M
    pub one : List Event
    pub two : List Event
    pub k1 : ℕ
    pub k2 : ℕ
    pub is_forest : kids ≡ trees_and front back
    pub is_events : es ≡ one ++ two
    pub is_count : k ≡ k1 + k2
    pub part : Part front u one n k1
    pub rest : Merges g qs back two k2
    pub rest_word : word_of g back ≡ w

  taken_join : (qs : List PlainPiece) (kids a b : Forest M) (es one two : List Event) (k k1 k2 : ℕ)
      (u v w : List PlainToken) (n n1 n2 : ℕ) → kids ≡ trees_and a b → es ≡ one ++ two →
      k ≡ k1 + k2 → n ≡ n1 + n2 →
      Part a u one n1 k1 → Taken qs b two k2 v w n2 → Taken qs kids es k (u ++ v) w n
  taken_join qs kids a b es one two k k1 k2 u v w n n1 n2 f s c z p t = record {
    front = trees_and a t.front;
    back = t.back;
    one = one ++ t.one;
    two = t.two;
    k1 = k1 + t.k1;
    k2 = t.k2;
    is_forest = f ∙ (let i = t.is_forest in ap (λ x. trees_and a x) i) ∙ trees_and-assoc a t.front t.back;
    is_events = s ∙ (let i = t.is_events in ap (λ x. one ++ x) i) ∙ sym (append_assoc one t.one t.two);
    is_count = let i = t.is_count in omega arith;
    part = rw z (part_join a t.front u v one t.one n1 n2 k1 t.k1 p t.part);
    rest = t.rest;
    rest_word = t.rest_word;
  }

  take_case : (ps qs : List PlainPiece) (kids : Forest M) (es : List Event) (k : ℕ)
      (token : PlainToken) (w : List PlainToken) → ps ≡ kept ∷ qs → Merges g ps kids es k →
      word_of g kids ≡ token ∷ w → Taken qs kids es k (token ∷ []) w 0
  take_case ps qs kids es k token w e (merge_end _ z) f = absurd cc
  take_case ps qs kids es k token w e (merge_left t new rest one two _ _ a i j c d) f = absurd cc
  take_case ps qs kids es k token w e (merge_start y _ _ os ts _ i d) f = absurd cc
  take_case ps qs kids es k token w e (merge_finish y _ _ os ts _ i d) f = absurd cc
  take_case ps qs kids es k token w e (merge_along t new rest os one two _ _ a i j c is d) f =
      let o = take_case (kept ∷ os) qs rest two a token w e d (sym (is (word_of g rest)) ∙ f) in record {
        front = tree t o.front;
        back = o.back;
        one = one ++ o.one;
        two = o.two;
        k1 = news one + o.k1;
        k2 = o.k2;
        is_forest = let q = o.is_forest in ap (tree t) q;
        is_events = i ∙ (let q = o.is_events in ap (λ x. one ++ x) q) ∙ sym (append_assoc one o.one o.two);
        is_count = let q = o.is_count in omega arith;
        part = part_along t new o.front (token ∷ []) one o.one 0 o.k1 c is (λ z. cc) o.part;
        rest = o.rest;
        rest_word = o.rest_word;
      }
  take_case ps qs kids es k token w e (merge_kept t new rest os one two _ token2 _ a i j c is d) f =
      let g1 = sym (is (word_of g rest)) ∙ f in
      let same : token2 ≡ token = cc in
      let others : word_of g rest ≡ w = cc in
      let left : os ≡ qs = cc in record {
        front = tree t no_trees;
        back = rest;
        one = one;
        two = two;
        k1 = news one;
        k2 = a;
        is_forest = refl;
        is_events = i;
        is_count = j;
        part = rw same at (part_tree t new one token2 c is);
        rest = rw left at d;
        rest_word = others;
      }

  started : (y : ℕ) (ps os : List PlainPiece) (kids : Forest M) (es : List Event) (k : ℕ) →
      ps ≡ start y ∷ os → Merges g ps kids es k → (ts : List Event)
      × (es ≡ new_start (spelling_of g y) ∷ ts) × Merges g os kids ts k
  started y ps os kids es k e (merge_end _ z) = absurd cc
  started y ps os kids es k e (merge_left t new rest one two _ _ a i j c d) = absurd cc
  started y ps os kids es k e (merge_along t new rest qs one two _ _ a i j c is d) = absurd cc
  started y ps os kids es k e (merge_kept t new rest qs one two _ token2 _ a i j c is d) = absurd cc
  started y ps os kids es k e (merge_finish z _ _ qs ts _ i d) = absurd cc
  started y ps os kids es k e (merge_start z _ _ qs ts _ i d) = let a : z ≡ y = cc in let b : qs ≡ os = cc in (ts, rw a at i, rw b at d)

  finished : (y : ℕ) (ps os : List PlainPiece) (kids : Forest M) (es : List Event) (k : ℕ) →
      ps ≡ finish y ∷ os → Merges g ps kids es k → (ts : List Event)
      × (es ≡ new_end (spelling_of g y) ∷ ts) × Merges g os kids ts k
  finished y ps os kids es k e (merge_end _ z) = absurd cc
  finished y ps os kids es k e (merge_left t new rest one two _ _ a i j c d) = absurd cc
  finished y ps os kids es k e (merge_along t new rest qs one two _ _ a i j c is d) = absurd cc
  finished y ps os kids es k e (merge_kept t new rest qs one two _ token2 _ a i j c is d) = absurd cc
  finished y ps os kids es k e (merge_start z _ _ qs ts _ i d) = absurd cc
  finished y ps os kids es k e (merge_finish z _ _ qs ts _ i d) = let a : z ≡ y = cc in let b : qs ≡ os = cc in (ts, rw a at i, rw b at d)

  into : (n : ℕ) (u w : List PlainToken) (ps : List PlainPiece) → Writes g n u w ps →
      (qs : List PlainPiece) (kids : Forest M) (es : List Event) (k : ℕ) (v : List PlainToken) →
      word_of g kids ≡ w ++ v →
      Merges g (ps ++ qs) kids es k → Taken qs kids es k u v n
  into n u w ps (write_none _ z) qs kids es k v f d = record {
    front = no_trees;
    back = kids;
    one = [];
    two = es;
    k1 = 0;
    k2 = k;
    is_forest = refl;
    is_events = refl;
    is_count = omega arith;
    part = part_none n 0 z refl;
    rest = d;
    rest_word = f;
  }
  into n u w ps (write_text _ u2 w2 os c) qs kids es k v f d =
      let a = take_case (kept ∷ (os ++ qs)) (os ++ qs) kids es k text (w2 ++ v) refl d f in
      taken_join qs kids a.front a.back es a.one a.two k a.k1 a.k2 (text ∷ []) u2 v n 0 n
      a.is_forest a.is_events a.is_count (omega arith) a.part (into n u2 w2 os c qs a.back a.two
      a.k2 v a.rest_word a.rest)
  into n u w ps (write_kept _ y u2 w2 os c) qs kids es k v f d =
      let a = take_case (kept ∷ (os ++ qs)) (os ++ qs) kids es k (named y) (w2 ++ v) refl d f in
      taken_join qs kids a.front a.back es a.one a.two k a.k1 a.k2 (named y ∷ []) u2 v n 0 n
      a.is_forest a.is_events a.is_count (omega arith) a.part (into n u2 w2 os c qs a.back a.two
      a.k2 v a.rest_word a.rest)
  into n u w ps (write_new _ a b y m z u2 w1 w2 _ one two _ e j h is ok c1 c2) qs kids es k v f d =
      let p : ps ++ qs ≡ start y ∷ (one ++ (finish y ∷ (two ++ qs))) = ap (λ x. x ++ qs) h ∙ ap (λ x. start y ∷ x) (append_assoc one (finish y ∷ two) qs) in
      let s = started y (ps ++ qs) (one ++ (finish y ∷ (two ++ qs))) kids es k p d in
      let i = into a z w1 one c1 (finish y ∷ (two ++ qs)) kids s.0 k (w2 ++ v) (f ∙ ap (λ x. x ++ v) j ∙ append_assoc w1 w2 v) s.2 in
      let o = finished y (finish y ∷ (two ++ qs)) (two ++ qs) i.back i.two i.k2 refl i.rest in
      let t = into b u2 w2 two c2 qs i.back o.0 i.k2 v i.rest_word o.2 in
      let x = spelling_of g y in
      let es_are : es ≡ (new_start x ∷ (i.one ++ new_end x ∷ [])) ++ o.0 = s.1
      ∙ ap (λ r. new_start x ∷ r) ((let q = i.is_events in q) ∙ ap (λ r. i.one ++ r) o.1
      ∙ sym (append_assoc i.one (new_end x ∷ []) o.0)) in
      taken_join qs kids i.front i.back es (new_start x ∷ (i.one ++ new_end x ∷ [])) o.0 k i.k1 i.k2 (named y ∷ []) u2 v n (suc a) b i.is_forest es_are i.is_count (omega arith)
      (part_new i.front y (suc a) a i.k1 m z i.one refl is ok i.part) t

  -- nodes after the last token
  record Left (kids : Forest M) (es : List Event) (k : ℕ) : Type 0 where
    pub new : Forest M
    pub text : forest_text new ≡ events_text es
    pub tags : (m e : ℕ) (more : List ℕ) (h h' : Hedge) → LeavesOut (m + opens es) e more h h' → LeavesOut m e (marks_from m es ++ more) (view_beside kids h) (view_beside new h')
    pub valid : AreValidTrees g new
    pub word : word_of g new ≡ word_of g kids
    pub count : news es ≡ k
    pub none : no_trees ≡ kids → new ≡ no_trees
    pub keeps : (f f' : Forest M) → KeepsWritable f f' → KeepsWritable (trees_and kids f) (trees_and new f')

  left_over : (ps : List PlainPiece) (kids : Forest M) (es : List Event) (k : ℕ) → ps ≡ [] → Merges g ps kids es k → Left kids es k
  left_over ps kids es k e (merge_end _ z) = record {
    new = no_trees;
    text = refl;
    tags = λ m i more h h' l. let y : m + 0 ≡ m = omega arith in rw y at l;
    valid = tt;
    word = refl;
    count = omega arith;
    none = λ _. refl;
    keeps = λ f f' h. h;
  }
  left_over ps kids es k e (merge_left t new rest one two _ _ a i j c d) =
      let o = left_over [] rest two a refl d in rw i (record {
        new = tree new o.new;
        text = rw (events-join one two) (let s = c.text in let b = o.text in rw (s, b) refl);
        tags = λ m n more h h' l.
            let z : m + opens (one ++ two) ≡ m + opens one + opens two = omega (arith, opens-join one two) in
            rw (marks-join m one two, append_assoc (marks_from m one) (marks_from (m + opens one) two) more)
            (c.tags m n (marks_from (m + opens one) two ++ more) (view_beside rest h) (view_beside o.new h') (o.tags (m + opens one) n more h h' (rw z at l)));
        valid = (c.valid, o.valid);
        word = c.head (word_of g o.new) ∙ (let q = o.word in ap (λ x. node_before g t x) q);
        count = let q = o.count in omega (arith, news-join one two);
        none = λ f. absurd cc;
        keeps = λ f f' h. c.keeps (trees_and rest f) (trees_and o.new f') (o.keeps f f' h);
      })
  left_over ps kids es k e (merge_along t new rest qs one two _ _ a i j c is d) = absurd cc
  left_over ps kids es k e (merge_kept t new rest qs one two _ token2 _ a i j c is d) = absurd cc
  left_over ps kids es k e (merge_start z _ _ qs ts _ i d) = absurd cc
  left_over ps kids es k e (merge_finish z _ _ qs ts _ i d) = absurd cc

  both_parts : (kids front back : Forest M) (es one two : List Event) (n k k1 k2 : ℕ)
      (u : List PlainToken) → kids ≡ trees_and front back → es ≡ one ++ two → k ≡ k1 + k2 →
      Part front u one n k1 → Left back two k2 → word_of g back ≡ [] →
      (new : Forest M) × IsCompletedList g kids new u es n k
  both_parts kids front back es one two n k k1 k2 u f q c p o r = (
    trees_and p.new o.new,
    record {
      text = text-trees_and p.new o.new ∙ (let a = p.text in let b = o.text in rw (q, events-join one two, a, b) refl);
      tags = λ m e more h h' l.
          let z : m + opens es ≡ m + opens one + opens two = rw q (omega (arith, opens-join one two)) in
          rw (q, f, marks-join m one two, append_assoc (marks_from m one) (marks_from (m + opens one) two) more, view-trees_and front back h, view-trees_and p.new o.new h')
          (p.tags m e (marks_from (m + opens one) two ++ more) (view_beside back h) (view_beside o.new h') (o.tags (m + opens one) e more h h' (rw z at l)));
      valid = valid-trees_and g p.new o.new p.valid o.valid;
      word = word-trees_and g p.new o.new ∙ (let a = p.word in let b = o.word in rw (a, b, r) (append-nil u));
      count = let a = p.count in let b = o.count in rw q (omega (arith, news-join one two));
      none = λ e z. let a = p.none z in let b = o.none (beside_none front back (sym e ∙ f)) in rw (a, b) refl;
      keeps = λ s s' h. rw (f, ← trees_and-assoc front back s, ← trees_and-assoc p.new o.new s') (p.keeps (trees_and back s) (trees_and o.new s') (o.keeps s s' h));
    },
  )

  pub merged : (n k : ℕ) (u : List PlainToken) (ps : List PlainPiece) (kids : Forest M)
      (es : List Event) → Writes g n u (word_of g kids) ps → Merges g ps kids es k →
      (new : Forest M) × IsCompletedList g kids new u es n k
  merged n k u ps kids es c d =
      let i = into n u (word_of g kids) ps c [] kids es k [] (sym (append-nil (word_of g kids))) (rw append-nil d) in
      both_parts kids i.front i.back es i.one i.two n k i.k1 i.k2 u i.is_forest i.is_events i.is_count i.part (left_over [] i.back i.two i.k2 refl i.rest) i.rest_word
