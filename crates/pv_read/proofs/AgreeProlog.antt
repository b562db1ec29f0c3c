-- What stands before and after the root, item by item.
use Rattle.std.proofs.Common.{◌≡◌, ℕ, List, [], ◌∷◌, ◌++◌, Bool, true, false, inl, inr, codes, Some, append-nil, append_assoc, refl, sym, ap, subst, ◌∙◌}
use Rattle.std.specs.List.{AllByRecursion, list_all}
use Rattle.std.proofs.lemmas.Bool.{and_from}
use Rattle.std.proofs.lemmas.List.Folds.{list_all-append}
use Rattle.pv_chars.specs.Spaces.{is_space, IsOptionalSpace}
use Rattle.pv_chars.specs.Texts.{joined}
use Rattle.pv_chars.specs.Declarations.{IsOptional, IsXmlDecl}
use Rattle.pv_tree.specs.Plain.{Tree}
use Rattle.pv_tree.specs.Attributes.{AreMadeOf}
use Rattle.pv_tree.specs.Prolog.{IsMisc, IsCommentOrInstruction, IsDoctype, IsProlog}
use Rattle.pv_read.specs.Items.{xml_declaration, doctype, comment_or_instruction, text_run, IsRunEnd}
use Rattle.pv_read.specs.Left.{PlainStage, at_front, before_doctype, behind_doctype, behind_misc, takes_doctype, Left, in_prolog, in_epilog, left_by}
use Rattle.pv_read.proofs.AgreeInvariant.{made_of_both}
use Rattle.pv_read.proofs.AgreeForms.{data_form, space_data, misc_ends_run}
use Rattle.pv_read.proofs.AgreeNodes.{HoldsBefore}

-- Where so many bytes leave this, a misc after them leaves what they leave with it.
record TakesMisc {M : Type 0} (m : M) (IsLeft : List ℕ → Left M → Type 0) : Type 0 where
  comment : (bytes b : List ℕ) (left : Left M) → IsLeft b left → (next : Left M) × (left_by m left (comment_or_instruction bytes) ≡ Some next) × IsLeft (b ++ bytes) next
  white : (bytes b : List ℕ) (left : Left M) → IsLeft b left → list_all is_space bytes ≡ true → (next : Left M) × (left_by m left (text_run bytes) ≡ Some next) × IsLeft (b ++ bytes) next

module _ {M : Type 0} (m : M) (root : List ℕ) (limit : ℕ) (P : Left M → List ℕ → Type 0) (steps : HoldsBefore m root limit P) where
  -- white space, as one run
  white_means : (IsLeft : List ℕ → Left M → Type 0) → TakesMisc m IsLeft → (white b rest : List ℕ) (left : Left M) → IsOptionalSpace white → IsLeft b left → IsRunEnd rest
      → ((next : Left M) → IsLeft (b ++ white) next → P next rest) → P left (white ++ rest)
  white_means IsLeft takes [] b rest left space at ends behind = behind left (subst (λ l. IsLeft l left) (sym (append-nil b)) at)
  white_means IsLeft takes (x ∷ xs) b rest left space at ends behind =
      let chars = space_data (x ∷ xs) (λ e. cc) space in
      let step = takes.white (x ∷ xs) b left at space in
      steps.step (text_run (x ∷ xs)) left step.0 rest (data_form (x ∷ xs) chars) ends step.1
      (record { known = chars; matches = λ is. is; names = λ is. is; within = λ is. let no_open : false ≡ true = is in cc }) (behind step.0 step.2)

  comment_means : (IsLeft : List ℕ → Left M → Type 0) → TakesMisc m IsLeft → (bytes b rest : List ℕ) (left : Left M) → IsCommentOrInstruction bytes → IsLeft b left
      → ((next : Left M) → IsLeft (b ++ bytes) next → P next rest) → P left (bytes ++ rest)
  comment_means IsLeft takes bytes b rest left is at behind =
      let step = takes.comment bytes b left at in
      steps.step (comment_or_instruction bytes) left step.0 rest is tt step.1
      (record { known = tt; matches = λ is. is; names = λ is. is; within = λ is. let no_open : false ≡ true = is in cc }) (behind step.0 step.2)

  -- Misc*, after white space that isn't a whole run yet
  misc_means : (IsLeft : List ℕ → Left M → Type 0) → TakesMisc m IsLeft → (pieces : List (List ℕ)) →
      AllByRecursion IsMisc pieces → (white b rest : List ℕ) (left : Left M) →
      IsOptionalSpace white → IsLeft b left → IsRunEnd rest
      → ((next : Left M) → IsLeft (b ++ (white ++ joined pieces)) next → P next rest) → P left (white ++ (joined pieces ++ rest))
  misc_means IsLeft takes [] all white b rest left space at ends behind =
      white_means IsLeft takes white b rest left space at ends (λ next is. behind next (subst (λ w. IsLeft (b ++ w) next) (sym (append-nil white)) is))
  misc_means IsLeft takes (p ∷ ps) (inl is, all) white b rest left space at ends behind =
      subst (λ bytes. P left (white ++ bytes)) (sym (append_assoc p (joined ps) rest))
      (white_means IsLeft takes white b (p ++ (joined ps ++ rest)) left space at (misc_ends_run p (joined ps ++ rest) is)
      (λ next there. comment_means IsLeft takes p (b ++ white) (joined ps ++ rest) next is there
      (λ more here. misc_means IsLeft takes ps all [] ((b ++ white) ++ p) rest more refl here ends
      (λ last is_last. behind last (subst (λ l. IsLeft l last) (simp append_assoc refl) is_last)))))
  misc_means IsLeft takes (p ∷ ps) (inr is, all) white b rest left space at ends behind =
      subst (λ bytes. P left bytes) (simp append_assoc refl)
      (misc_means IsLeft takes ps all (white ++ p) b rest left (rw list_all-append (and_from (list_all is_space white) (list_all is_space p) space is.space)) at ends
      (λ last is_last. behind last (subst (λ l. IsLeft (b ++ l) last) (append_assoc white p (joined ps)) is_last)))

  -- ---- the prolog
  -- these bytes of the prolog leave this, where a document type declaration may stand or may not
  abbrev IsBehind : Bool → List ℕ → Left M → Type 0
  IsBehind may b left = (stage : PlainStage) × (left ≡ in_prolog stage b) × (takes_doctype stage ≡ may)

  behind_may : (stage : PlainStage) → takes_doctype (behind_misc stage) ≡ takes_doctype stage
  behind_may at_front = refl
  behind_may before_doctype = refl
  behind_may behind_doctype = refl

  prolog_takes : (may : Bool) → TakesMisc m (IsBehind may)
  prolog_takes may = record {
    comment = λ bytes b left at. (
      in_prolog (behind_misc at.0) (b ++ bytes),
      subst (λ l. left_by m l (comment_or_instruction bytes) ≡ Some (in_prolog (behind_misc at.0) (b ++ bytes))) (sym at.1) refl,
      (behind_misc at.0, refl, behind_may at.0 ∙ at.2),
    );
    white = λ bytes b left at space. (
      in_prolog (behind_misc at.0) (b ++ bytes),
      subst (λ l. left_by m l (text_run bytes) ≡ Some (in_prolog (behind_misc at.0) (b ++ bytes))) (sym at.1) (rw space refl),
      (behind_misc at.0, refl, behind_may at.0 ∙ at.2),
    );
  }

  -- Misc* in the prolog
  prolog_misc_means : (may : Bool) (misc b rest : List ℕ) (left : Left M) → AreMadeOf IsMisc misc → IsBehind may b left → IsRunEnd rest
      → ((next : Left M) → IsBehind may (b ++ misc) next → P next rest) → P left (misc ++ rest)
  prolog_misc_means may misc b rest left made at ends behind =
      subst (λ bytes. P left (bytes ++ rest)) (sym made.whole)
      (misc_means (IsBehind may) (prolog_takes may) made.pieces made.are_pieces [] b rest left refl at ends (λ next is. behind next (subst (λ l. IsBehind may (b ++ l) next) (sym made.whole) is)))

  declaration_means : (mark declaration rest : List ℕ) → IsOptional IsXmlDecl declaration → ((next : Left M) → IsBehind true (mark ++ declaration) next → P next rest)
      → P (in_prolog at_front mark) (declaration ++ rest)
  declaration_means mark declaration rest (inl none) behind =
      subst (λ bytes. P (in_prolog at_front mark) (bytes ++ rest)) (sym none)
      (behind (in_prolog at_front mark) (at_front, ap (in_prolog at_front) (sym (append-nil mark) ∙ ap (λ d. mark ++ d) (sym none)), refl))
  declaration_means mark declaration rest (inr is) behind =
      steps.step (xml_declaration declaration) (in_prolog at_front mark) (in_prolog before_doctype (mark ++ declaration)) rest is tt refl
      (record {
        known = tt;
        matches = λ is. is;
        names = λ is. is;
        within = λ is. let no_open : false
            ≡ true = is in cc;
      }) (behind (in_prolog before_doctype (mark ++ declaration))
      (before_doctype, refl, refl))

  doctype_leaves : (b bytes : List ℕ) (left : Left M) → IsBehind true b left → left_by m left (doctype root bytes) ≡ Some (in_prolog behind_doctype (b ++ bytes))
  doctype_leaves b bytes left (at_front, at, may) = subst (λ l. left_by m l (doctype root bytes) ≡ Some (in_prolog behind_doctype (b ++ bytes))) (sym at) refl
  doctype_leaves b bytes left (before_doctype, at, may) = subst (λ l. left_by m l (doctype root bytes) ≡ Some (in_prolog behind_doctype (b ++ bytes))) (sym at) refl
  doctype_leaves b bytes left (behind_doctype, at, may) = cc

  doctype_means : (b bytes rest : List ℕ) (left : Left M) → IsDoctype root bytes → IsBehind true b left → P (in_prolog behind_doctype (b ++ bytes)) rest → P left (bytes ++ rest)
  doctype_means b bytes rest left is at behind =
      steps.step (doctype root bytes) left (in_prolog behind_doctype (b ++ bytes)) rest is tt (doctype_leaves b bytes left at)
      (record { known = tt; matches = λ is. is; names = λ is. is refl; within = λ is. let no_open : false ≡ true = is in cc }) behind

  doctype_ends_run : (bytes rest : List ℕ) → IsDoctype root bytes → IsRunEnd (bytes ++ rest)
  doctype_ends_run bytes rest is = subst (λ b. IsRunEnd (b ++ rest)) (sym (is.whole ∙ ap (λ f. f ++ codes ">") is.is_front.whole)) (inr (_, refl))

  -- Misc*, and a document type declaration with Misc*, or not
  doctype_part_means : (misc doctype more b rest : List ℕ) (left : Left M) → AreMadeOf IsMisc misc → IsOptional (IsDoctype root) doctype → AreMadeOf IsMisc more → IsBehind true b left → IsRunEnd rest
      → ((stage : PlainStage) → P (in_prolog stage (b ++ (misc ++ (doctype ++ more)))) rest) → P left (misc ++ (doctype ++ (more ++ rest)))
  doctype_part_means misc declared more b rest left is_misc (inl none) is_more at ends behind =
      let both = made_of_both IsMisc misc more is_misc is_more in
      let whole : misc ++ more ≡ misc ++ (declared ++ more) = ap (λ d. misc ++ (d ++ more)) (sym none) in
      subst (λ bytes. P left bytes) (append_assoc misc more rest ∙ ap (λ d. misc ++ (d ++ (more ++ rest))) (sym none))
      (prolog_misc_means true (misc ++ more) b rest left both at ends
      (λ next is. subst (λ l. P l rest) (sym is.1) (subst (λ l. P (in_prolog is.0 (b ++ l)) rest) (sym whole) (behind is.0))))
  doctype_part_means misc declared more b rest left is_misc (inr is) is_more at ends behind =
      prolog_misc_means true misc b (declared ++ (more ++ rest)) left is_misc at (doctype_ends_run declared (more ++ rest) is)
      (λ next there. doctype_means (b ++ misc) declared (more ++ rest) next is there
      (prolog_misc_means false more ((b ++ misc) ++ declared) rest (in_prolog behind_doctype ((b ++ misc) ++ declared)) is_more (behind_doctype, refl, refl) ends
      (λ last is_last. subst (λ l. P l rest) (sym is_last.1) (subst (λ l. P (in_prolog is_last.0 l) rest) (sym (simp append_assoc refl)) (behind is_last.0)))))

  -- the prolog, after the byte order mark or nothing
  pub prolog_means : (before rest : List ℕ) (p : IsProlog root before) → IsRunEnd rest → ((stage : PlainStage) → P (in_prolog stage before) rest)
      → P (in_prolog at_front p.mark) (p.declaration ++ (p.misc ++ (p.doctype ++ (p.more_misc ++ rest))))
  prolog_means before rest p ends behind =
      let whole : (p.mark ++ p.declaration) ++ (p.misc ++ (p.doctype ++ p.more_misc)) ≡ before = append_assoc p.mark p.declaration (p.misc ++ (p.doctype ++ p.more_misc)) ∙ sym p.whole in
      declaration_means p.mark p.declaration (p.misc ++ (p.doctype ++ (p.more_misc ++ rest))) p.is_declaration
      (λ next at. doctype_part_means p.misc p.doctype p.more_misc (p.mark ++ p.declaration) rest next p.is_misc p.is_doctype p.is_more_misc at ends
      (λ stage. subst (λ l. P (in_prolog stage l) rest) (sym whole) (behind stage)))

  -- ---- after the root
  epilog_takes : (before : List ℕ) (t : Tree M) → TakesMisc m (λ b left. left ≡ in_epilog before t b)
  epilog_takes before t = record {
    comment = λ bytes b left at. (in_epilog before t (b ++ bytes), subst (λ l. left_by m l (comment_or_instruction bytes) ≡ Some (in_epilog before t (b ++ bytes))) (sym at) refl, refl);
    white = λ bytes b left at space. (in_epilog before t (b ++ bytes), subst (λ l. left_by m l (text_run bytes) ≡ Some (in_epilog before t (b ++ bytes))) (sym at) (rw space refl), refl);
  }

  pub epilog_means : (before after : List ℕ) (t : Tree M) → AreMadeOf IsMisc after → P (in_epilog before t after) [] → P (in_epilog before t []) after
  epilog_means before after t made behind =
      subst (λ bytes. P (in_epilog before t []) bytes) (append-nil (joined made.pieces) ∙ sym made.whole)
      (misc_means (λ b left. left ≡ in_epilog before t b) (epilog_takes before t) made.pieces made.are_pieces [] [] [] (in_epilog before t []) refl refl (inl refl)
      (λ next is. subst (λ l. P l []) (sym (is ∙ ap (in_epilog before t) (sym made.whole))) behind))
