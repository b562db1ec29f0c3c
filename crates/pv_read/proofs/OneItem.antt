-- At most one item stands at the front of any bytes.
use Rattle.std.proofs.Common.{◌≡◌, ◌≢◌, ℕ, ◌<◌, inl, inr, List, [], ◌∷◌, ◌++◌, true, false, ◌==◌, not, codes, refl, sym, ap, ◌∙◌, arith, append_assoc}
use Rattle.std.proofs.lemmas.Bool.{and_parts, ne_eqb, not-true}
use Rattle.pv_chars.specs.Characters.{is_name_start}
use Rattle.pv_chars.specs.Names.{IsName, TakesName}
use Rattle.pv_chars.specs.Markup.{IsComment, IsInstruction, IsCdata}
use Rattle.pv_chars.specs.Declarations.{IsVersionNum, IsXmlDecl}
use Rattle.pv_chars.specs.Fronts.{Begins}
use Rattle.pv_chars.proofs.SpaceLemmas.{ascii_ends}
use Rattle.pv_chars.proofs.MarkupLemmas.{behind, one_comment, one_cdata}
use Rattle.pv_chars.proofs.InstructionLemmas.{one_instruction, no_instruction_target}
use Rattle.pv_chars.proofs.DeclarationLemmas.{one_xml_decl}
use Rattle.pv_chars.proofs.UnitReading.{before}
use Rattle.pv_chars.proofs.TextDeclarations.{xml_is_name, part_ends}
use Rattle.pv_tree.specs.Prolog.{IsCommentOrInstruction}
use Rattle.pv_read.specs.Items.{Item, xml_declaration, doctype, comment_or_instruction, cdata_section, start_tag, empty_tag, end_tag, text_run, BeginsItem}
use Rattle.pv_read.specs.ItemLaws.{ItemsAreDetermined}
use Rattle.pv_read.specs.Sorts.{sort_of, sort_behind_less, sort}
use Rattle.pv_read.specs.declared.forms.sorts.Sort.TheVariants.{Text, Tag, Misc}
use Rattle.pv_read.proofs.AbsentBytes.{has_no}
use Rattle.pv_read.proofs.AttributeLemmas.{name_some}
use Rattle.pv_read.proofs.TagLemmas.{start_has, empty_has, same_tag, same_end_tag}
use Rattle.pv_read.proofs.DoctypeLemmas.{same_doctype as same_declared}
use Rattle.pv_read.proofs.RunLemmas.{run_has_no_less, same_run}

-- ---- items are told apart by their first bytes
-- a name begins with none of these bytes
name_starts : (n : ℕ) (ns : List ℕ) → IsName (n ∷ ns) → (b : ℕ) → b < 128 → is_name_start b ≡ false → (n == b) ≡ false
name_starts n ns is b low other = ne_eqb n b (λ same. ascii_ends is_name_start b ns low other is.first is.others is.is_start (ap (λ x. x ∷ ns) (sym same) ∙ is.whole))

tag_sort : (name rest : List ℕ) → IsName name → sort_behind_less (name ++ rest) ≡ Tag
tag_sort [] rest is = absurd (name_some [] is refl)
tag_sort (n ∷ ns) rest is = rw (name_starts n ns is 47 (omega arith) refl, name_starts n ns is 33 (omega arith) refl, name_starts n ns is 63 (omega arith) refl) refl

run_sort : (run rest : List ℕ) → run ≢ [] → has_no 60 run ≡ true → sort_of (run ++ rest) ≡ Text
run_sort [] rest some free = absurd (some refl)
run_sort (b ∷ bs) rest some free = rw (not-true (b == 60) (and_parts (not (b == 60)) (has_no 60 bs) free).0) refl

pub sort_is : (i : Item) (bytes rest : List ℕ) → BeginsItem i bytes rest → sort_of bytes ≡ sort i
sort_is (xml_declaration own) bytes rest b = ap sort_of (b.whole ∙ ap (λ l. l ++ rest) b.has_form.whole)
sort_is (doctype name own) bytes rest b = ap sort_of (b.whole ∙ ap (λ l. l ++ rest) (b.has_form.whole ∙ ap (λ f. f ++ codes ">") b.has_form.is_front.whole))
sort_is (comment_or_instruction own) bytes rest b = by b.has_form
  where
    by : IsCommentOrInstruction own → sort_of bytes ≡ Misc
    by (inl is) = ap sort_of (b.whole ∙ ap (λ l. l ++ rest) is.whole)
    by (inr is) = ap sort_of (b.whole ∙ ap (λ l. l ++ rest) is.whole)
sort_is (cdata_section own) bytes rest b = ap sort_of (b.whole ∙ ap (λ l. l ++ rest) b.has_form.whole)
sort_is (start_tag name attrs) bytes rest b = ap sort_of (b.whole ∙ append_assoc (codes "<") (name
    ++ (attrs ++ codes ">")) rest ∙ ap (λ l. codes "<" ++ l) (append_assoc name (attrs
    ++ codes ">") rest)) ∙ tag_sort name ((attrs ++ codes ">") ++ rest) b.has_form.0
sort_is (empty_tag name attrs) bytes rest b = ap sort_of (b.whole ∙ append_assoc (codes "<") (name
    ++ (attrs ++ codes "/>")) rest ∙ ap (λ l. codes "<" ++ l) (append_assoc name (attrs
    ++ codes "/>") rest)) ∙ tag_sort name ((attrs ++ codes "/>") ++ rest) b.has_form.0
sort_is (end_tag name gap) bytes rest b = ap sort_of b.whole
sort_is (text_run own) bytes rest b = ap sort_of b.whole ∙ run_sort own rest b.has_form.some (run_has_no_less own b.has_form)

same_sort : (i j : Item) (bytes rest more : List ℕ) → BeginsItem i bytes rest → BeginsItem j bytes more → sort i ≡ sort j
same_sort i j bytes rest more b c = sym (sort_is i bytes rest b) ∙ sort_is j bytes more c

-- ---- items of one sort
-- what is told apart by its end is told by its bytes
by_rest : (a b bytes rest more : List ℕ) → bytes ≡ a ++ rest → bytes ≡ b ++ more → rest ≡ more → a ≡ b
by_rest a b bytes rest more e f same = before a b more (ap (λ r. a ++ r) (sym same) ∙ sym e ∙ f)

whole_of : (P : List ℕ → Type 0) (own bytes rest : List ℕ) → P own → bytes ≡ own ++ rest → Begins P bytes rest
whole_of P own bytes rest is e = record { item = own; is_item = is; whole = e }

-- at most one declaration, comment, processing instruction or section
same_declaration : (a b bytes rest more : List ℕ) → BeginsItem (xml_declaration a) bytes rest → BeginsItem (xml_declaration b) bytes more → (xml_declaration a ≡ xml_declaration b) × (rest ≡ more)
same_declaration a b bytes rest more f g =
    let rests = one_xml_decl bytes rest more (whole_of IsXmlDecl a bytes rest f.has_form f.whole) (whole_of IsXmlDecl b bytes more g.has_form g.whole) in
    (ap xml_declaration (by_rest a b bytes rest more f.whole g.whole rests), rests)

same_section : (a b bytes rest more : List ℕ) → BeginsItem (cdata_section a) bytes rest → BeginsItem (cdata_section b) bytes more → (cdata_section a ≡ cdata_section b) × (rest ≡ more)
same_section a b bytes rest more f g =
    let rests = one_cdata bytes rest more (whole_of IsCdata a bytes rest f.has_form f.whole) (whole_of IsCdata b bytes more g.has_form g.whole) in
    (ap cdata_section (by_rest a b bytes rest more f.whole g.whole rests), rests)

apart : (xs ys : List ℕ) → codes "<?" ++ xs ≡ codes "<!" ++ ys → ⊥
apart xs ys e = cc

comment_or_else : (a b bytes rest more : List ℕ) → IsComment a → IsInstruction b → bytes ≡ a ++ rest → bytes ≡ b ++ more → ⊥
comment_or_else a b bytes rest more is other e f = apart _ _ (sym (f ∙ ap (λ l. l ++ more) other.whole) ∙ (e ∙ ap (λ l. l ++ rest) is.whole))

same_misc : (a b bytes rest more : List ℕ) → BeginsItem (comment_or_instruction a) bytes rest →
    BeginsItem (comment_or_instruction b) bytes more →
    (comment_or_instruction a ≡ comment_or_instruction b) × (rest ≡ more)
same_misc a b bytes rest more f g = let rests = by f.has_form g.has_form in (ap comment_or_instruction (by_rest a b bytes rest more f.whole g.whole rests), rests)
  where
    by : IsCommentOrInstruction a → IsCommentOrInstruction b → rest ≡ more
    by (inl is) (inl other) = one_comment bytes rest more (whole_of IsComment a bytes rest is f.whole) (whole_of IsComment b bytes more other g.whole)
    by (inl is) (inr other) = absurd (comment_or_else a b bytes rest more is other f.whole g.whole)
    by (inr is) (inl other) = absurd (comment_or_else b a bytes more rest other is g.whole f.whole)
    by (inr is) (inr other) = one_instruction bytes rest more (whole_of IsInstruction a bytes rest is f.whole) (whole_of IsInstruction b bytes more other g.whole)

-- a declaration is no comment and no processing instruction, whose target is never `xml`
declaration_or_misc : (a b bytes rest more : List ℕ) → BeginsItem (xml_declaration a) bytes rest → BeginsItem (comment_or_instruction b) bytes more → ⊥
declaration_or_misc a b bytes rest more f g = by g.has_form
  where
    by : IsCommentOrInstruction b → ⊥
    by (inl is) = apart _ _ (sym (f.whole ∙ ap (λ l. l ++ rest) f.has_form.whole) ∙ (g.whole ∙ ap (λ l. l ++ more) is.whole))
    by (inr is) =
        let d = f.has_form in
        let behind_version = d.encoding ++ (d.standalone ++ (d.space ++ (codes "?>" ++ rest))) in
        let after = d.version ++ behind_version in
        let whole : bytes ≡ codes "<?" ++ (codes "xml" ++ after) = f.whole ∙ ap (λ l. l ++ rest) d.whole ∙ simp append_assoc refl in
        let named : TakesName (codes "xml" ++ after) (codes "xml") after =
        record {
          is_name = xml_is_name;
          whole = refl;
          ends = part_ends (codes "version")
              d.version behind_version IsVersionNum d.is_version;
        } in
        no_instruction_target bytes (codes "xml" ++ after) (codes "xml") after whole named refl more (whole_of IsInstruction b bytes more is g.whole)

-- at most one tag
same_start : (x a y b bytes rest more : List ℕ) → BeginsItem (start_tag x a) bytes rest → BeginsItem (start_tag y b) bytes more → (start_tag x a ≡ start_tag y b) × (rest ≡ more)
same_start x a y b bytes rest more f g =
    let same = same_tag x a (codes ">") rest y b (codes ">") more bytes (inl refl) (inl refl) (start_has x a bytes rest f) (start_has y b bytes more g) in
    ((λ i. start_tag (same.0 i) (same.1 i)), behind (codes ">") rest more same.2)

same_empty : (x a y b bytes rest more : List ℕ) → BeginsItem (empty_tag x a) bytes rest → BeginsItem (empty_tag y b) bytes more → (empty_tag x a ≡ empty_tag y b) × (rest ≡ more)
same_empty x a y b bytes rest more f g =
    let same = same_tag x a (codes "/>") rest y b (codes "/>") more bytes (inr refl) (inr refl) (empty_has x a bytes rest f) (empty_has y b bytes more g) in
    ((λ i. empty_tag (same.0 i) (same.1 i)), behind (codes "/>") rest more same.2)

start_or_empty : (x a y b bytes rest more : List ℕ) → BeginsItem (start_tag x a) bytes rest → BeginsItem (empty_tag y b) bytes more → ⊥
start_or_empty x a y b bytes rest more f g =
    let same = (same_tag x a (codes ">") rest y b (codes "/>") more bytes (inl refl) (inr refl) (start_has x a bytes rest f) (empty_has y b bytes more g)).2 in
    cc

same_end : (x a y b bytes rest more : List ℕ) → BeginsItem (end_tag x a) bytes rest → BeginsItem (end_tag y b) bytes more → (end_tag x a ≡ end_tag y b) × (rest ≡ more)
same_end x a y b bytes rest more f g = let same = same_end_tag x a rest y b more bytes f g in ((λ i. end_tag (same.0 i) (same.1 i)), same.2)

same_text : (a b bytes rest more : List ℕ) → BeginsItem (text_run a) bytes rest → BeginsItem (text_run b) bytes more → (text_run a ≡ text_run b) × (rest ≡ more)
same_text a b bytes rest more f g = let same = same_run a rest b more bytes f g in (ap text_run same.0, same.1)

-- at most one document type declaration
same_doctype : (x a y b bytes rest more : List ℕ) → BeginsItem (doctype x a) bytes rest → BeginsItem (doctype y b) bytes more → (doctype x a ≡ doctype y b) × (rest ≡ more)
same_doctype x a y b bytes rest more f g = let same = same_declared x a rest y b more bytes f g in ((λ i. doctype (same.0 i) (same.1 i)), same.2)

pub one_item : ItemsAreDetermined
one_item (xml_declaration a) (xml_declaration b) bytes rest more f g = same_declaration a b bytes rest more f g
one_item (xml_declaration a) (comment_or_instruction b) bytes rest more f g = absurd (declaration_or_misc a b bytes rest more f g)
one_item (comment_or_instruction a) (xml_declaration b) bytes rest more f g = absurd (declaration_or_misc b a bytes more rest g f)
one_item (comment_or_instruction a) (comment_or_instruction b) bytes rest more f g = same_misc a b bytes rest more f g
one_item (doctype x a) (doctype y b) bytes rest more f g = same_doctype x a y b bytes rest more f g
one_item (cdata_section a) (cdata_section b) bytes rest more f g = same_section a b bytes rest more f g
one_item (start_tag x a) (start_tag y b) bytes rest more f g = same_start x a y b bytes rest more f g
one_item (start_tag x a) (empty_tag y b) bytes rest more f g = absurd (start_or_empty x a y b bytes rest more f g)
one_item (empty_tag x a) (start_tag y b) bytes rest more f g = absurd (start_or_empty y b x a bytes more rest g f)
one_item (empty_tag x a) (empty_tag y b) bytes rest more f g = same_empty x a y b bytes rest more f g
one_item (end_tag x a) (end_tag y b) bytes rest more f g = same_end x a y b bytes rest more f g
one_item (text_run a) (text_run b) bytes rest more f g = same_text a b bytes rest more f g
one_item i j bytes rest more f g = let same = same_sort i j bytes rest more f g in cc
