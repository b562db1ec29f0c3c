-- What holds of all bytes of an element declaration.
use Rattle.std.proofs.Common.{◌≡◌, inl, inr, ℕ, List, [], ◌∷◌, ◌++◌, codes, Bool, true, refl, append_assoc, ap, ◌∙◌}
use Rattle.std.specs.List.{list_all}
use Rattle.std.proofs.lemmas.List.Folds.{list_all-append}
use Rattle.pv_chars.specs.Spaces.{IsOptionalSpace}
use Rattle.pv_chars.specs.Names.{IsName}
use Rattle.pv_dtd.specs.Items.{NamedPart, name, seq, choice, opt, star, plus, NamedParts, no_parts, part, NamedModel, empty, any, mixed, children}
use Rattle.pv_dtd.specs.Spelling.{SpellsPart, SpellsGroup, SpellsOthers, SpellsListed, SpellsMixed, SpellsModel, SpellsElement}
use Rattle.pv_dtd.proofs.GroupDepths.{group_regrouped, others_regrouped}

pub all-append : (p : ℕ → Bool) (a b : List ℕ) → list_all p a ≡ true → list_all p b ≡ true → list_all p (a ++ b) ≡ true
all-append p a b e f = list_all-append p a b ∙ rw (e, f) refl

-- what stands between the word of an element declaration and its '>'
abbrev pub inside_element : (n : List ℕ) (m : NamedModel) (text : List ℕ) → SpellsElement n m text → List ℕ
inside_element n m text s = s.before_name ++ (n ++ (s.before_spec ++ (s.spec ++ s.after)))

pub element_whole : (n : List ℕ) (m : NamedModel) (text rest : List ℕ) (s : SpellsElement n m text) → text ++ rest ≡ codes "<!ELEMENT" ++ (inside_element n m text s ++ (62 ∷ rest))
element_whole n m text rest s = ap (λ t. t ++ rest) s.whole ∙ simp append_assoc

pub mixed_regrouped : (before listed after end : List ℕ) → codes "(" ++ before ++ codes "#PCDATA"
    ++ listed ++ after ++ (codes ")" ++ end)
    ≡ (40 ∷ ((before ++ (codes "#PCDATA" ++ (listed ++ after))) ++ codes ")")) ++ end
mixed_regrouped before listed after end = simp append_assoc

-- white space and names pass the test
pub record PassWords (p : ℕ → Bool) : Type 0 where
  pub space : (space : List ℕ) → IsOptionalSpace space → list_all p space ≡ true
  pub name : (n : List ℕ) → IsName n → list_all p n ≡ true

module _ (p : ℕ → Bool) (words : PassWords p) where
  pub all_listed : list_all p (codes "|") ≡ true → (names : List (List ℕ)) (text : List ℕ) → SpellsListed names text → list_all p text ≡ true
  all_listed bar [] text s = rw s refl
  all_listed bar (n ∷ ns) text s =
      rw (s.7, others_regrouped s.0 (codes "|") s.1 n s.2)
      (all-append p s.0 (codes "|" ++ (s.1 ++ (n ++ s.2))) (words.space s.0 s.3) (all-append p (codes "|") (s.1 ++ (n ++ s.2)) bar
      (all-append p s.1 (n ++ s.2) (words.space s.1 s.4) (all-append p n s.2 (words.name n s.5) (all_listed bar ns s.2 s.6)))))

  pub all_in_mixed : list_all p (codes "|") ≡ true → list_all p (codes "#PCDATA") ≡ true → (names : List (List ℕ)) (end text : List ℕ) (s : SpellsMixed names end text) →
      list_all p (s.before ++ (codes "#PCDATA" ++ (s.listed ++ s.after))) ≡ true
  all_in_mixed bar word names end text s =
      all-append p s.before (codes "#PCDATA" ++ (s.listed ++ s.after)) (words.space s.before s.space_before) (all-append p (codes "#PCDATA") (s.listed ++ s.after) word
      (all-append p s.listed s.after (all_listed bar names s.listed s.names_listed) (words.space s.after s.space_after)))

-- and so do the marks and words of content models
pub record PassMarks (p : ℕ → Bool) : Type 0 where
  pub words : PassWords p
  pub opened : list_all p (codes "(") ≡ true
  pub closed : list_all p (codes ")") ≡ true
  pub comma : list_all p (codes ",") ≡ true
  pub bar : list_all p (codes "|") ≡ true
  pub option : list_all p (codes "?") ≡ true
  pub star : list_all p (codes "*") ≡ true
  pub plus : list_all p (codes "+") ≡ true
  pub empty : list_all p (codes "EMPTY") ≡ true
  pub any : list_all p (codes "ANY") ≡ true
  pub data_word : list_all p (codes "#PCDATA") ≡ true

module _ (p : ℕ → Bool) (pass : PassMarks p) where
  all_space : (space : List ℕ) → IsOptionalSpace space → list_all p space ≡ true
  all_space = pass.words.space

  mutual
    all_part : (q : NamedPart) (text : List ℕ) → SpellsPart q text → list_all p text ≡ true
    all_part (name n) text s = rw s.1 (pass.words.name n s.0)
    all_part (seq ps) text s = all_group (codes ",") ps text pass.comma s
    all_part (choice ps) text s = all_group (codes "|") ps text pass.bar s.1
    all_part (opt q) text s = rw s.3 (all-append p s.0 (codes "?") (all_part q s.0 s.2) pass.option)
    all_part (star q) text s = rw s.3 (all-append p s.0 (codes "*") (all_part q s.0 s.2) pass.star)
    all_part (plus q) text s = rw s.3 (all-append p s.0 (codes "+") (all_part q s.0 s.2) pass.plus)

    all_group : (separator : List ℕ) (ps : NamedParts) (text : List ℕ) → list_all p separator ≡ true → SpellsGroup separator ps text → list_all p text ≡ true
    all_group separator no_parts text by s = absurd s
    all_group separator (part q ps) text by s =
        ap (list_all p) (s.8 ∙ group_regrouped s.0 s.1 s.2 s.3)
        ∙ (all-append p (codes "(") ((s.0 ++ (s.1 ++ (s.2 ++ s.3))) ++ codes ")") pass.opened
        (all-append p (s.0 ++ (s.1 ++ (s.2 ++ s.3))) (codes ")")
        (all-append p s.0 (s.1 ++ (s.2 ++ s.3)) (all_space s.0 s.4) (all-append p s.1 (s.2 ++ s.3)
        (all_part q s.1 s.5) (all-append p s.2 s.3 (all_others separator ps s.2 by s.6)
        (all_space s.3 s.7)))) pass.closed))

    all_others : (separator : List ℕ) (ps : NamedParts) (text : List ℕ) → list_all p separator ≡ true → SpellsOthers separator ps text → list_all p text ≡ true
    all_others separator no_parts text by s = rw s refl
    all_others separator (part q ps) text by s =
        rw (s.8, others_regrouped s.0 separator s.1 s.2 s.3) (all-append p s.0 (separator ++ (s.1 ++ (s.2 ++ s.3))) (all_space s.0 s.4) (all-append p separator (s.1 ++ (s.2 ++ s.3)) by
        (all-append p s.1 (s.2 ++ s.3) (all_space s.1 s.5) (all-append p s.2 s.3 (all_part q s.2 s.6) (all_others separator ps s.3 by s.7)))))

  all_mixed : (names : List (List ℕ)) (end text : List ℕ) → list_all p end ≡ true → SpellsMixed names (codes ")" ++ end) text → list_all p text ≡ true
  all_mixed names end text ends s =
      let inner = s.before ++ (codes "#PCDATA" ++ (s.listed ++ s.after)) in
      ap (list_all p) (s.whole ∙ mixed_regrouped s.before s.listed s.after end) ∙ (all-append p (codes "(" ++ (inner ++ codes ")")) end (all-append p (codes "(") (inner ++ codes ")") pass.opened
      (all-append p inner (codes ")") (all_in_mixed p pass.words pass.bar pass.data_word names (codes ")" ++ end) text s) pass.closed)) ends)

  all_model : (m : NamedModel) (text : List ℕ) → SpellsModel m text → list_all p text ≡ true
  all_model empty text s = rw s pass.empty
  all_model any text s = rw s pass.any
  all_model (mixed names) text (inl s) = all_mixed names (codes "*") text pass.star s
  all_model (mixed names) text (inr s) = all_mixed names [] text refl s.1
  all_model (children q) text s = all_part q text s.1

  pub all_inside : (n : List ℕ) (m : NamedModel) (text : List ℕ) (s : SpellsElement n m text) → list_all p (inside_element n m text s) ≡ true
  all_inside n m text s =
      all-append p s.before_name (n ++ (s.before_spec ++ (s.spec ++ s.after)))
      (all_space s.before_name s.space_before_name.space) (all-append p n (s.before_spec
      ++ (s.spec ++ s.after)) (pass.words.name n s.is_name)
      (all-append p s.before_spec (s.spec ++ s.after)
      (all_space s.before_spec s.space_before_spec.space) (all-append p s.spec s.after
      (all_model m s.spec s.is_spec) (all_space s.after s.space_after))))
