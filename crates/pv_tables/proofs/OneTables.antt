-- The lists of a document have one list of tables.
use Rattle.std.proofs.Common.{List, [], arith, get_or, inl, inr, refl, subst, suc, sym, ℕ, ◌∙◌, ◌∷◌, ◌≡◌, ◌⊎◌}
use Rattle.std.specs.List.{AllPairs, Contains}
use Rattle.std.proofs.lemmas.List.Elements.{All-contains}
use Rattle.pv_model.specs.Plain.{PlainToken}
use Rattle.pv_dtd.specs.Plain.{PlainDtd}
use Rattle.pv_tree.specs.Lists.{Listed}
use Rattle.pv_tree.specs.Words.{word_of}
use Rattle.pv_tree.proofs.JoinedLists.{contains_cases, contains_first, contains_later}
use Rattle.pv_tree.specs.declared.nodes.Verdict.TheVariants as verdict
use Rattle.pv_missing.specs.Verdicts.{IsVerdict}
use Rattle.pv_missing.specs.WordLaws.{OneLiveWord}
use Rattle.pv_tables.specs.declared.tables.Entry.{Entry}
use Rattle.pv_tables.specs.declared.tables.Table.{Table}
use Rattle.pv_tables.specs.TableLaws.{OneTables}
use Rattle.pv_tables.specs.Tables.{AreAllEntries, AreTables, IsBefore, IsEntry, IsTableOf, Precedes, key_of, no_list, other_list, possible_list}

abbrev table : List ℕ → List Entry → Table
table path es = record { path = path; entries = es }

-- no two keys are each before the other
before_once : (hs ks : List ℕ) → IsBefore hs ks → IsBefore ks hs → ⊥
before_once [] ks b c = b
before_once (h ∷ hs) [] b c = b
before_once (h ∷ hs) (k ∷ ks) (inl x) (inl y) = omega arith
before_once (h ∷ hs) (k ∷ ks) (inl x) (inr (e, y)) = omega arith
before_once (h ∷ hs) (k ∷ ks) (inr (e, x)) (inl y) = omega arith
before_once (h ∷ hs) (k ∷ ks) (inr (e, x)) (inr (f, y)) = before_once hs ks x y

first_before : (e : Entry) (es : List Entry) (x : Entry) → AllPairs Precedes (e ∷ es) → Contains es x → Precedes e x
first_before e es x a (k, lt, h) = let p : Precedes e (get_or es k x) = a 0 (suc k) x (omega arith) (omega arith) in subst (λ (y : Entry). Precedes e y) h p

behind : (e : Entry) (es : List Entry) → AllPairs Precedes (e ∷ es) → AllPairs Precedes es
behind e es a i j d lt below = a (suc i) (suc j) d (omega arith) (omega arith)

same_first : (e f : Entry) (es fs : List Entry) → AllPairs Precedes (e ∷ es) → AllPairs Precedes (f ∷ fs) → (f ≡ e) ⊎ Contains fs e → (e ≡ f) ⊎ Contains es f → e ≡ f
same_first e f es fs a b (inl h) y = sym h
same_first e f es fs a b (inr x) (inl h) = h
same_first e f es fs a b (inr x) (inr y) = absurd (before_once (key_of e) (key_of f) (first_before e es f a y) (first_before f fs e b x))

-- what stands after the first of one list stands after the first of the other
other_behind : (e f : Entry) (es fs : List Entry) (x : Entry) → e ≡ f → AllPairs Precedes (e ∷ es) → Contains es x → (f ≡ x) ⊎ Contains fs x → Contains fs x
other_behind e f es fs x same a m (inl h) = absurd (let p = first_before e es x a m in let q : Precedes x x = subst (λ (y : Entry). Precedes y x) (same ∙ h) p in before_once (key_of x) (key_of x) q q)
other_behind e f es fs x same a m (inr n) = n

same_entries : (es fs : List Entry) → AllPairs Precedes es → AllPairs Precedes fs → ((x : Entry) → Contains es x → Contains fs x) → ((x : Entry) → Contains fs x → Contains es x) → es ≡ fs
same_entries [] [] a b to from = refl
same_entries [] (f ∷ fs) a b to from = absurd (let m = from f (contains_first f fs) in let lt = m.1 in omega arith)
same_entries (e ∷ es) [] a b to from = absurd (let m = to e (contains_first e es) in let lt = m.1 in omega arith)
same_entries (e ∷ es) (f ∷ fs) a b to from =
    let same : e ≡ f = same_first e f es fs a b (contains_cases f fs e (to e (contains_first e es))) (contains_cases e es f (from f (contains_first f fs))) in
    let rest : es ≡ fs = same_entries es fs (behind e es a) (behind f fs b)
    (λ x m. other_behind e f es fs x same a m (contains_cases f fs x (to x (contains_later e es x m))))
    (λ x m. other_behind f e fs es x (sym same) b m (contains_cases e es x (from x (contains_later f fs x m)))) in
    cc

module _ (g : PlainDtd) where
  each_is : (w : List PlainToken) (es : List Entry) → AreAllEntries g w es → (x : Entry) → Contains es x → IsEntry g w x
  each_is w es a x m = All-contains (IsEntry g w) es x a.are.each m

  same_words : (v w : List PlainToken) (es fs : List Entry) → AreAllEntries g v es → AreAllEntries g w fs → v ≡ w → es ≡ fs
  same_words v w es fs a b same = same_entries es fs a.are.ascend moved.are.ascend (λ x m. moved.all x (each_is v es a x m)) (λ x m. a.all x (each_is v fs moved x m))
    where
      moved : AreAllEntries g v fs
      moved = subst (λ (u : List PlainToken). AreAllEntries g u fs) (sym same) b

  one_table : OneLiveWord → (M : Type 0) (list : Listed M) (t u : Table) → IsTableOf g list t → IsTableOf g list u → t ≡ u
  one_table one_live_word M list t u a b = same_table t.path t.entries u.path u.entries (a.is_path ∙ sym b.is_path)
      (same_words a.live b.live t.entries u.entries a.entries b.entries (one_live_word g (word_of g list.kids) a.live b.live a.is_live b.is_live))
    where
      same_table : (p : List ℕ) (es : List Entry) (q : List ℕ) (fs : List Entry) → p ≡ q → es ≡ fs → table p es ≡ table q fs
      same_table p es q fs e f = cc

  module _ (M : Type 0) (root : List ℕ) where
    -- the tables of one list and more
    abbrev pub Splits : Listed M → List (Listed M) → List Table → Type 0
    Splits list lists ts = (IsVerdict g root list verdict.Possible × ((t : Table) × (rest : List Table) × (ts ≡ t ∷ rest) × IsTableOf g list t × AreTables g root lists rest))
        ⊎ ((IsVerdict g root list verdict.Possible → ⊥) × AreTables g root lists ts)

    pub split_tables : (list : Listed M) (lists : List (Listed M)) (ts : List Table) → AreTables g root (list ∷ lists) ts → Splits list lists ts
    split_tables list lists ts (possible_list _ _ t rest p i a) = inl (p, (t, rest, refl, i, a))
    split_tables list lists ts (other_list _ _ _ p a) = inr (p, a)

    pub none_of : (ts : List Table) → AreTables {M = M} g root [] ts → ts ≡ []
    none_of ts no_list = refl

    once : OneLiveWord → (list : Listed M) (lists : List (Listed M)) (ts us : List Table) → ((vs ws : List Table) → AreTables g root lists vs → AreTables g root lists ws → vs ≡ ws) →
        Splits list lists ts → Splits list lists us → ts ≡ us
    once word list lists ts us more (inl (p, (t, rest, e, i, a))) (inl (q, (u, others, f, j, b))) = let h : t ≡ u = one_table word M list t u i j in let k : rest ≡ others = more rest others a b in cc
    once word list lists ts us more (inl (p, x)) (inr (q, y)) = absurd (q p)
    once word list lists ts us more (inr (p, x)) (inl (q, y)) = absurd (p q)
    once word list lists ts us more (inr (p, x)) (inr (q, y)) = more ts us x y

    pub one_list : OneLiveWord → (lists : List (Listed M)) (ts us : List Table) → AreTables g root lists ts → AreTables g root lists us → ts ≡ us
    one_list word [] ts us a b = none_of ts a ∙ sym (none_of us b)
    one_list word (list ∷ lists) ts us a b = once word list lists ts us (λ vs ws x y. one_list word lists vs ws x y) (split_tables list lists ts a) (split_tables list lists us b)

pub one_tables : OneLiveWord → (M : Type 0) → OneTables M
one_tables word M g root = one_list g M root word
