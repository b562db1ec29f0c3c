-- A file has at most one expansion.
use Rattle.std.proofs.Common.{◌≡◌, ◌≢◌, ◌⊎◌, inl, inr, ℕ, List, [], ◌∷◌, ◌++◌, get_or, codes, Bool, false, Some, None, refl, sym, ap, ◌∙◌, subst, arith}
use Rattle.std.proofs.lemmas.List.{append_cancel_right}
use Rattle.pv_chars.proofs.DeclarationLemmas.{one_text_decl}
use Rattle.pv_params.specs.Items.{Mode, file, between, inside, value, TextItem, puts, reference, parameter, declaration}
use Rattle.pv_params.specs.Spelling.{Spells, StandsAt, IsInside, IsConditional, IsExternal, IsBehindTextDecl, HasHead}
use Rattle.pv_chars.proofs.ByteOrderMarkLemmas.{same_byte_order_mark}
use Rattle.pv_params.specs.Meaning.{Fault, SoFar, text_of, RefusesReference, no_entity, being_read, past_limit, not_inside, Enters, Within, Opens}
use Rattle.pv_params.specs.Meaning.{of_reference, of_parameter, of_declaration, Outcome, gives, meets, IsBetween, IsOfEntity, Stops, ends, refused}
use Rattle.pv_params.specs.Meaning.{of_section, of_external, no_item, unread, Reads, stops, copies, meets_within, goes_on, Expansion, expansion_of}
use Rattle.pv_params.specs.Meaning.{Expands}
use Rattle.pv_params.specs.Meaning.{put, finish, blank_before, behind_head}
use Rattle.pv_chars.proofs.ReaderSteps.{same_some}
use Rattle.pv_params.specs.ItemReading.{item_at}
use Rattle.pv_params.proofs.Runs.{Front, same_item}
use Rattle.pv_params.proofs.Runs.{Reads as IsReader}
use Rattle.pv_params.proofs.ItemsRead.{inside_reads}
use Rattle.pv_params.proofs.ValuesRead.{value_reads}
use Rattle.pv_params.proofs.BetweenRead.{between_reads, no_item_in_section, no_item_in_external}

-- ---- one item
pub mode_reads : (mode : Mode) → IsReader (Spells mode) (item_at mode)
unfolding item_at
mode_reads (file after) = between_reads
mode_reads between = between_reads
mode_reads inside = inside_reads
mode_reads value = value_reads

pub front : {mode : Mode} {rest more : List ℕ} {i : TextItem} → StandsAt mode rest i more → Front (Spells mode) rest i more
front s = record { text = s.text; spelled = s.spelled; whole = s.whole }

pub stands : {mode : Mode} {rest more : List ℕ} {i : TextItem} → Front (Spells mode) rest i more → StandsAt mode rest i more
stands f = record { text = f.text; spelled = f.spelled; whole = f.whole }

pub item_found : (mode : Mode) (rest more : List ℕ) (i : TextItem) → StandsAt mode rest i more → item_at mode rest ≡ Some (i, more)
item_found mode rest more i s = let r = mode_reads mode in ap (item_at mode) s.whole ∙ r.is_read i s.text more s.spelled

pub same_standing : {mode : Mode} {rest more other : List ℕ} {i j : TextItem} → StandsAt mode rest i more → StandsAt mode rest j other → (i ≡ j) × (more ≡ other)
same_standing {mode} {rest} {more} {other} {i} {j} a b = same_item (Spells mode) (item_at mode) (mode_reads mode) rest i j more other (front a) (front b)

-- ---- what shuts out what
pub end_item : {mode : Mode} {rest more : List ℕ} {i : TextItem} → rest ≡ [] → StandsAt mode rest i more → ⊥
end_item {mode} {rest} {more} {i} e s = let r = mode_reads mode in nothing s.text (r.some i s.text s.spelled) (sym s.whole ∙ e)
  where
    nothing : (text : List ℕ) → text ≢ [] → text ++ more ≡ [] → ⊥
    nothing [] some w = some refl
    nothing (b ∷ bs) some w = cc

end_section : {rest : List ℕ} → rest ≡ [] → IsConditional rest → ⊥
end_section e s = let w = s.1 in cc

end_external : {rest : List ℕ} → rest ≡ [] → IsExternal rest → ⊥
end_external e s = let w = s.whole in cc

apart : (more other : List ℕ) → codes "<![" ++ more ≡ codes "<!ENTITY" ++ other → ⊥
apart more other e = never (get_or (codes "<![" ++ more) 2 0) refl (ap (λ (l : List ℕ). get_or l 2 0) e)
  where
    never : (b : ℕ) → b ≡ 91 → b ≡ 69 → ⊥
    never b bracket letter = omega arith

section_external : {rest : List ℕ} → IsConditional rest → IsExternal rest → ⊥
section_external s x = apart s.0 _ (sym s.1 ∙ x.whole)

no_item_between : (mode : Mode) (rest : List ℕ) → IsBetween mode → (IsConditional rest ⊎ IsExternal rest) → item_at mode rest ≡ None
unfolding item_at
no_item_between (file after) rest is (inl s) = no_item_in_section rest s
no_item_between (file after) rest is (inr x) = no_item_in_external rest x
no_item_between between rest is (inl s) = no_item_in_section rest s
no_item_between between rest is (inr x) = no_item_in_external rest x
no_item_between inside rest is o = absurd is
no_item_between value rest is o = absurd is

section_item : {mode : Mode} {rest more : List ℕ} {i : TextItem} → IsBetween mode → IsConditional rest → StandsAt mode rest i more → ⊥
section_item {mode} {rest} {more} {i} b s at = let some = item_found mode rest more i at in let none = no_item_between mode rest b (inl s) in cc

external_item : {mode : Mode} {rest more : List ℕ} {i : TextItem} → IsBetween mode → IsExternal rest → StandsAt mode rest i more → ⊥
external_item {mode} {rest} {more} {i} b x at = let some = item_found mode rest more i at in let none = no_item_between mode rest b (inr x) in cc

file_entity : {mode : Mode} {after : Bool} → IsOfEntity mode → mode ≡ file after → ⊥
file_entity {mode} {after} is e = by mode is e
  where
    by : (m : Mode) → IsOfEntity m → m ≡ file after → ⊥
    by (file a) is e = is
    by between is e = cc
    by inside is e = cc
    by value is e = cc

-- ---- references
same_name : {name other : List ℕ} → reference name ≡ reference other → name ≡ other
same_name e = cc

no_refusal : {mode : Mode} {reading : List (List ℕ)} {before : SoFar} {name text : List ℕ} {fault : Fault} → RefusesReference mode reading before name fault → Enters mode reading before name text → ⊥
no_refusal (no_entity e) n = let is = n.is_text in cc
no_refusal (being_read t e) n = let is = n.not_read in cc
no_refusal (past_limit t r e) n = let same = same_some _ _ (sym t ∙ n.is_text) in let is = n.within in let past = rw same at e in cc
no_refusal (not_inside t r l m no_form) n = let same = same_some _ _ (sym t ∙ n.is_text) in no_form (subst IsInside (sym same) (n.judged m))

same_refusal : {mode : Mode} {reading : List (List ℕ)} {before : SoFar} {name : List ℕ} {f
    g : Fault} → RefusesReference mode reading before name f →
    RefusesReference mode reading before name g → f ≡ g
same_refusal (no_entity e) (no_entity f) = refl
same_refusal (no_entity e) (being_read u f) = cc
same_refusal (no_entity e) (past_limit {text = y} u q f) = cc
same_refusal (no_entity e) (not_inside {text = y} u q k o p) = cc
same_refusal (being_read t e) (no_entity f) = cc
same_refusal (being_read t e) (being_read u f) = refl
same_refusal (being_read t e) (past_limit {text = y} u q f) = cc
same_refusal (being_read t e) (not_inside {text = y} u q k o p) = cc
same_refusal (past_limit {text = x} t r e) (no_entity f) = cc
same_refusal (past_limit {text = x} t r e) (being_read u f) = cc
same_refusal (past_limit {text = x} t r e) (past_limit {text = y} u q f) = refl
same_refusal (past_limit {text = x} t r e) (not_inside {text = y} u q k o p) = let same : x ≡ y = same_some _ _ (sym t ∙ u) in let past = rw same at e in cc
same_refusal (not_inside {text = x} t r l m n) (no_entity f) = cc
same_refusal (not_inside {text = x} t r l m n) (being_read u f) = cc
same_refusal (not_inside {text = x} t r l m n) (past_limit {text = y} u q f) = let same : x ≡ y = same_some _ _ (sym t ∙ u) in let within = rw same at l in cc
same_refusal (not_inside {text = x} t r l m n) (not_inside {text = y} u q k o p) = refl

-- ---- ends
same_file : {x y : Bool} → file x ≡ file y → x ≡ y
same_file e = cc

same_stop : {mode : Mode} {reading : List (List ℕ)} {before : SoFar} {rest : List ℕ} {o p : Outcome} → Stops mode reading before rest o → Stops mode reading before rest p → o ≡ p
same_stop (ends e) (ends f) = refl
same_stop (ends e) (refused t q) = absurd (end_item e t)
same_stop (ends e) (of_section c t) = absurd (end_section e t)
same_stop (ends e) (of_external c y) = absurd (end_external e y)
same_stop (ends e) (no_item k h) = absurd (h.some e)
same_stop (ends e) (unread l h) = absurd (h.some e)
same_stop (refused s r) (ends f) = absurd (end_item f s)
same_stop {mode} {reading} {before} (refused {name = x} {fault = f} s r) (refused {name = y} t q) =
    let e : x ≡ y = same_name (same_standing s t).0 in
    ap meets (same_refusal (subst (λ n. RefusesReference mode reading before n f) e r) q)
same_stop (refused s r) (of_section c t) = absurd (section_item c t s)
same_stop (refused s r) (of_external c y) = absurd (external_item c y s)
same_stop (refused s r) (no_item k h) = absurd (h.no_item _ _ s)
same_stop (refused s r) (unread l h) = absurd (h.no_item _ _ s)
same_stop (of_section b s) (ends f) = absurd (end_section f s)
same_stop (of_section b s) (refused t q) = absurd (section_item b s t)
same_stop (of_section b s) (of_section c t) = refl
same_stop (of_section b s) (of_external c y) = absurd (section_external s y)
same_stop (of_section b s) (no_item k h) = absurd (h.not_conditional b s)
same_stop (of_section b s) (unread l h) = absurd (h.not_conditional b s)
same_stop (of_external b x) (ends f) = absurd (end_external f x)
same_stop (of_external b x) (refused t q) = absurd (external_item b x t)
same_stop (of_external b x) (of_section c t) = absurd (section_external t x)
same_stop (of_external b x) (of_external c y) = refl
same_stop (of_external b x) (no_item k h) = absurd (h.not_external b x)
same_stop (of_external b x) (unread l h) = absurd (h.not_external b x)
same_stop (no_item n g) (ends f) = absurd (g.some f)
same_stop (no_item n g) (refused t q) = absurd (g.no_item _ _ t)
same_stop (no_item n g) (of_section c t) = absurd (g.not_conditional c t)
same_stop (no_item n g) (of_external c y) = absurd (g.not_external c y)
same_stop (no_item n g) (no_item k h) = refl
same_stop (no_item n g) (unread l h) = absurd (file_entity n l)
same_stop (unread m g) (ends f) = absurd (g.some f)
same_stop (unread m g) (refused t q) = absurd (g.no_item _ _ t)
same_stop (unread m g) (of_section c t) = absurd (g.not_conditional c t)
same_stop (unread m g) (of_external c y) = absurd (g.not_external c y)
same_stop (unread m g) (no_item k h) = absurd (file_entity k m)
same_stop {mode} {reading} {before} {rest} (unread {after_parameter = x} m g)
    (unread {after_parameter = y} l h) = let e : x ≡ y = same_file (sym m ∙ l) in
    ap (λ z. gives (put (blank_before z ++ rest) before)) e

-- ---- items and ends
stop_copies : {mode : Mode} {reading : List (List ℕ)} {before : SoFar} {rest bytes more : List ℕ} {o : Outcome} → Stops mode reading before rest o → StandsAt mode rest (puts bytes) more → ⊥
stop_copies (ends e) at = end_item e at
stop_copies (refused s r) at = let same = (same_standing s at).0 in cc
stop_copies (of_section b s) at = section_item b s at
stop_copies (of_external b x) at = external_item b x at
stop_copies (no_item n g) at = g.no_item _ _ at
stop_copies (unread m g) at = g.no_item _ _ at

-- the item whose text is read within
record Opened (mode : Mode) (reading : List (List ℕ)) (before : SoFar) (rest : List ℕ) : Type 0 where
  item : TextItem
  more : List ℕ
  stands : StandsAt mode rest item more
  not_put : (bytes : List ℕ) → item ≡ puts bytes → ⊥
  entered : (name : List ℕ) → item ≡ reference name → (text : List ℕ) × Enters mode reading before name text

opened : {mode : Mode} {reading : List (List ℕ)} {before : SoFar} {rest : List ℕ} {w : Within} → Opens mode reading before rest w → Opened mode reading before rest
opened {mode} {reading} {before} (of_reference {name} {text} {more} s n) =
    record {
      item = reference name;
      more = more;
      stands = s;
      not_put = λ bytes e. cc;
      entered = λ other e. let same : name ≡ other = same_name e in
          (text, subst (λ x. Enters mode reading before x text) same n);
    }
opened (of_parameter {name} {text} {more} s) = record { item = parameter name text; more = more; stands = s; not_put = λ bytes e. cc; entered = λ other e. cc }
opened (of_declaration {word} {text} {more} s) = record { item = declaration word text; more = more; stands = s; not_put = λ bytes e. cc; entered = λ other e. cc }

stop_opened : {mode : Mode} {reading : List (List ℕ)} {before : SoFar} {rest : List ℕ} {o : Outcome} → Stops mode reading before rest o → Opened mode reading before rest → ⊥
stop_opened (ends e) v = end_item e v.stands
stop_opened (refused s r) v = let in_it = v.entered _ (sym (same_standing s v.stands).0) in no_refusal r in_it.1
stop_opened (of_section b s) v = section_item b s v.stands
stop_opened (of_external b x) v = external_item b x v.stands
stop_opened (no_item n g) v = g.no_item _ _ v.stands
stop_opened (unread m g) v = g.no_item _ _ v.stands

stop_opens : {mode : Mode} {reading : List (List ℕ)} {before : SoFar} {rest : List ℕ} {w : Within} {o : Outcome} → Stops mode reading before rest o → Opens mode reading before rest w → ⊥
stop_opens s w = stop_opened s (opened w)

copies_opens : {mode : Mode} {reading : List (List ℕ)} {before : SoFar} {rest bytes more : List ℕ} {w : Within} → StandsAt mode rest (puts bytes) more → Opens mode reading before rest w → ⊥
copies_opens {bytes} s w = let v = opened w in v.not_put bytes (sym (same_standing s v.stands).0)

same_within : {mode : Mode} {reading : List (List ℕ)} {before : SoFar} {rest : List ℕ} {w v : Within} → Opens mode reading before rest w → Opens mode reading before rest v → w ≡ v
same_within {mode} {reading} {before} (of_reference {name = x} {text = a} {more = m} s n) (of_reference {name = y} {text = b} {more = l} t k) =
    let is = same_standing s t in
    let name_is : x ≡ y = same_name is.0 in
    let text_is : a ≡ b = same_some _ _ (sym n.is_text ∙ ap (λ z. text_of z before.declared) name_is ∙ k.is_text) in
    rw (name_is, text_is, is.1) refl
same_within (of_reference s n) (of_parameter t) = let is = (same_standing s t).0 in cc
same_within (of_reference s n) (of_declaration t) = let is = (same_standing s t).0 in cc
same_within (of_parameter s) (of_reference t k) = let is = (same_standing s t).0 in cc
same_within (of_parameter {name = x} {text = a} s) (of_parameter {name = y} {text = b} t) =
    let is = same_standing s t in
    let item_is = is.0 in
    let name_is : x ≡ y = cc in
    let text_is : a ≡ b = cc in
    rw (name_is, text_is, is.1) refl
same_within (of_parameter s) (of_declaration t) = let is = (same_standing s t).0 in cc
same_within (of_declaration s) (of_reference t k) = let is = (same_standing s t).0 in cc
same_within (of_declaration s) (of_parameter t) = let is = (same_standing s t).0 in cc
same_within (of_declaration {word = x} {text = a} s) (of_declaration {word = y} {text = b} t) =
    let is = same_standing s t in
    let item_is = is.0 in
    let word_is : x ≡ y = cc in
    let text_is : a ≡ b = cc in
    rw (word_is, text_is, is.1) refl

-- ---- readings
same_after : {a b : SoFar} → gives a ≡ gives b → a ≡ b
same_after e = cc

same_bytes : {bytes other : List ℕ} → puts bytes ≡ puts other → bytes ≡ other
same_bytes e = cc

pub same_reading : {mode : Mode} {reading : List (List ℕ)} {before : SoFar} {rest : List ℕ} {o p : Outcome} → Reads mode reading before rest o → Reads mode reading before rest p → o ≡ p
same_reading (stops s) (stops t) = same_stop s t
same_reading (stops s) (copies g m) = absurd (stop_copies s g)
same_reading (stops s) (meets_within w m) = absurd (stop_opens s w)
same_reading (stops s) (goes_on w m k) = absurd (stop_opens s w)
same_reading (copies g m) (stops s) = absurd (stop_copies s g)
same_reading {mode} {reading} {before} {rest} {o} (copies {bytes = a} {more = q} g m) (copies {bytes = b} {more = r} h l) =
    let is = same_standing g h in
    let P : List ℕ → List ℕ → Type 0 = λ x y. Reads mode reading (put x before) y o in
    let first = subst (λ x. P x q) (same_bytes is.0) m in
    same_reading (subst (λ y. P b y) is.1 first) l
same_reading (copies g m) (meets_within w l) = absurd (copies_opens g w)
same_reading (copies g m) (goes_on w l k) = absurd (copies_opens g w)
same_reading (meets_within w m) (stops s) = absurd (stop_opens s w)
same_reading (meets_within w m) (copies g l) = absurd (copies_opens g w)
same_reading (meets_within {fault = f} w m) (meets_within v l) =
    let P : Within → Type 0 = λ x. Reads x.mode x.reading x.before x.text (meets f) in
    same_reading (subst P (same_within w v) m) l
same_reading (meets_within {fault = f} w m) (goes_on v l k) =
    let P : Within → Type 0 = λ x. Reads x.mode x.reading x.before x.text (meets f) in
    let same = same_reading (subst P (same_within w v) m) l in cc
same_reading (goes_on w m k) (stops s) = absurd (stop_opens s w)
same_reading (goes_on w m k) (copies g l) = absurd (copies_opens g w)
same_reading (goes_on {after = a} w m k) (meets_within v l) =
    let P : Within → Type 0 = λ x. Reads x.mode x.reading x.before x.text (gives a) in
    let same = same_reading (subst P (same_within w v) m) l in cc
same_reading {mode} {reading} {before} {rest} {o} (goes_on {w = x} {after = a} w m k) (goes_on {w = y} {after = b} v l j) =
    let P : Within → Type 0 = λ z. Reads z.mode z.reading z.before z.text (gives a) in
    let same : a ≡ b = same_after (same_reading (subst P (same_within w v) m) l) in
    let Q : Within → SoFar → Type 0 = λ z s. Reads z.mode_behind reading (finish z.ending s) z.behind o in
    let moved = subst (λ z. Q z a) (same_within w v) k in
    same_reading (subst (λ s. Q y s) same moved) j

-- ---- the file's head
same_undeclared : (bytes rest other : List ℕ) → IsBehindTextDecl bytes rest → IsBehindTextDecl bytes other → rest ≡ other
same_undeclared bytes rest other (inl a) (inl b) = one_text_decl bytes rest other a b
same_undeclared bytes rest other (inl a) (inr b) = absurd (b.0 rest a)
same_undeclared bytes rest other (inr a) (inl b) = absurd (a.0 other b)
same_undeclared bytes rest other (inr a) (inr b) = sym a.1 ∙ b.1

pub same_head : (bytes head rest front other : List ℕ) → HasHead bytes head rest → HasHead bytes front other → (head ≡ front) × (rest ≡ other)
same_head bytes head rest front other a b =
    let unmarked = (same_byte_order_mark bytes a.mark.0 a.unmarked b.mark.0 b.unmarked a.mark.1 b.mark.1).1 in
    let same = same_undeclared b.unmarked rest other (subst (λ l. IsBehindTextDecl l rest) unmarked a.text_declaration) b.text_declaration in
    (append_cancel_right head front rest (sym a.whole ∙ b.whole ∙ ap (λ l. front ++ l) (sym same)), same)

pub one_expansion : (bytes : List ℕ) (e f : Expansion) → Expands bytes e → Expands bytes f → e ≡ f
one_expansion bytes e f a b =
    let same = same_head bytes a.head a.rest b.head b.rest a.has_head b.has_head in
    let P : List ℕ → List ℕ → Type 0 = λ h r. Reads (file false) [] (behind_head h) r a.outcome in
    let moved = subst (λ r. P b.head r) same.1 (subst (λ h. P h a.rest) same.0 a.reads) in
    a.is_expansion ∙ ap expansion_of (same_reading moved b.reads) ∙ sym b.is_expansion
