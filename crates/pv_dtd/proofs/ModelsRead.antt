-- A content model that is read is spelled so.
use Rattle.std.proofs.Common.{◌≡◌, ℕ, zero, suc, inl, inr, List, [], ◌∷◌, ◌++◌, length, codes, Option, Some, None, refl, sym, ap, ◌∙◌, subst, append_assoc}
use Rattle.std.proofs.lemmas.Bool.{and_parts}
use Rattle.std.specs.List.{list_all}
use Rattle.pv_chars.specs.Spaces.{IsOptionalSpace}
use Rattle.pv_chars.specs.Scan.{after_space, after_bytes}
use Rattle.pv_chars.proofs.TextScans.{after_space_takes, after_bytes_takes}
use Rattle.pv_chars.specs.Names.{IsName}
use Rattle.pv_chars.specs.CharReading.{name_at}
use Rattle.pv_dtd.specs.Facts.{MAX_NESTING}
use Rattle.pv_dtd.specs.Items.{NamedPart, name, seq, choice, opt, star, plus, NamedModel, mixed}
use Rattle.pv_dtd.specs.Spelling.{SpellsPart, SpellsListed, SpellsMixed, SpellsModel, IsGroup}
use Rattle.pv_dtd.specs.PartReading.{Reader, particle_at}
use Rattle.pv_dtd.specs.ItemReading.{names_after_bar, listed_at, after_end, mixed_at, children_at, group_by, group_model_at, model_by, model_at}
use Rattle.pv_dtd.specs.SoFar.{IsShallow}
use Rattle.pv_chars.proofs.ReaderSteps.{bound, same_some}
use Rattle.pv_chars.proofs.NameBytes.{is_name_byte, name_at_takes, name_bytes, name_some}
use Rattle.pv_dtd.proofs.PartsRead.{Reads, particle_reads}

-- listed names, and space after them
record ReadsListed (bytes : List ℕ) (f : List (List ℕ) × List ℕ) : Type 0 where
  text : List ℕ
  after : List ℕ
  spelled : SpellsListed f.0 text
  space_after : IsOptionalSpace after
  whole : bytes ≡ text ++ (after ++ f.1)

one_more_joined : (bytes before place bar behind space inner next rest text end : List ℕ) →
    bytes ≡ before ++ place → place ≡ bar ++ behind → behind ≡ space ++ inner → inner ≡ next ++ rest → rest ≡ text ++ end →
    bytes ≡ (before ++ bar ++ space ++ next ++ text) ++ end
one_more_joined bytes before place bar behind space inner next rest text end a b c d e = rw (a, b, c, d, e) (simp append_assoc)

name_joined : (bytes behind n rest : List ℕ) (more : List (List ℕ) × List ℕ) → after_bytes (codes "|") (after_space bytes) ≡ Some behind →
    name_at (after_space behind) ≡ Some (n, rest) → ReadsListed rest more → ReadsListed bytes (n ∷ more.0, more.1)
name_joined bytes behind n rest more e read others =
    let before = after_space_takes bytes in
    let space = after_space_takes behind in
    let takes = name_at_takes (after_space behind) n rest read in
    record {
      text = before.space ++ codes "|" ++ space.space ++ n ++ others.text;
      after = others.after;
      spelled = (before.space, space.space, others.text, before.optional, space.optional, takes.is_name, others.spelled, refl);
      space_after = others.space_after;
      whole = one_more_joined bytes before.space (after_space bytes) (codes "|") behind space.space (after_space behind) n rest others.text _
          before.whole (after_bytes_takes (codes "|") (after_space bytes) behind e) space.whole takes.whole others.whole;
    }

abbrev AreListed : Reader (List (List ℕ)) → Type 0
AreListed others = (bytes : List ℕ) (f : List (List ℕ) × List ℕ) → others bytes ≡ Some f → ReadsListed bytes f

listed_by_read : (others : Reader (List (List ℕ))) → AreListed others → (bytes : List ℕ) (f : List (List ℕ) × List ℕ) (o : Option (List ℕ)) → after_bytes (codes "|") (after_space bytes) ≡ o →
    names_after_bar others (after_space bytes) o ≡ Some f → ReadsListed bytes f
listed_by_read others below bytes f None is e =
    let space = after_space_takes bytes in
    subst (ReadsListed bytes) (same_some _ _ e) record { text = []; after = space.space; spelled = refl; space_after = space.optional; whole = space.whole }
listed_by_read others below bytes f (Some behind) is e =
    let next = bound (name_at (after_space behind)) _ f e in
    let more = bound (others next.value.1) _ f next.others in
    subst (ReadsListed bytes) (same_some _ _ more.others)
    (name_joined bytes behind next.value.0 next.value.1 more.value is next.first (below next.value.1 more.value more.first))

listed_reads : (steps : ℕ) → AreListed (listed_at steps)
unfolding listed_at
listed_reads zero bytes f e = cc
listed_reads (suc steps) bytes f e = listed_by_read (listed_at steps) (listed_reads steps) bytes f (after_bytes (codes "|") (after_space bytes)) refl e

abbrev pub SpellsShallow : NamedModel → List ℕ → Type 0
SpellsShallow m text = SpellsModel m text × IsShallow m

abbrev pub ReadsModel : List ℕ → NamedModel × List ℕ → Type 0
ReadsModel bytes f = Reads SpellsShallow bytes f

mixed_joined : (bytes inside before place behind listed after end rest : List ℕ) → bytes ≡ codes "("
    ++ inside → inside ≡ before ++ place → place ≡ codes "#PCDATA" ++ behind → behind ≡ listed
    ++ (after ++ (end ++ rest)) →
    bytes ≡ (codes "(" ++ before ++ codes "#PCDATA" ++ listed ++ after ++ end) ++ rest
mixed_joined bytes inside before place behind listed after end rest a b c d = rw (a, b, c, d) (simp append_assoc)

module _ (bytes inside behind : List ℕ) (opened : bytes ≡ codes "(" ++ inside)
    (data_at : after_bytes (codes "#PCDATA") (after_space inside) ≡ Some behind)
    (listed : List (List ℕ) × List ℕ) (reads : ReadsListed behind listed) where
  mixed_ended : (end rest : List ℕ) → listed.1 ≡ end ++ rest → ((text : List ℕ) → SpellsMixed listed.0 end text → SpellsModel (mixed listed.0) text) → ReadsModel bytes (mixed listed.0, rest)
  mixed_ended end rest ends spells =
      let before = after_space_takes inside in
      let text = codes "(" ++ before.space ++ codes "#PCDATA" ++ reads.text ++ reads.after ++ end in
      record {
        text = text;
        spelled = (
          spells text
              record {
                before = before.space;
                listed = reads.text;
                after = reads.after;
                space_before = before.optional;
                names_listed = reads.spelled;
                space_after =
                    reads.space_after;
                whole = refl;
              },
          tt,
        );
        whole = mixed_joined bytes inside before.space (after_space inside) behind reads.text
            reads.after end rest opened before.whole (after_bytes_takes (codes "#PCDATA")
            (after_space inside) behind data_at) (reads.whole ∙ ap (λ r. reads.text
            ++ (reads.after ++ r)) ends);
      }

  after_end_reads : (names : List (List ℕ)) → names ≡ listed.0 → (close : List ℕ) →
      listed.1 ≡ codes ")" ++ close → (o : Option (List ℕ)) → after_bytes (codes "*") close ≡ o →
      (rest : List ℕ) → after_end names close o ≡ Some rest → ReadsModel bytes (mixed listed.0, rest)
  after_end_reads names same close closed (Some after) is rest e =
      let star : close ≡ codes "*" ++ rest = after_bytes_takes (codes "*") close rest (is ∙ e) in
      mixed_ended (codes ")*") rest (closed ∙ ap (λ r. codes ")" ++ r) star) (λ text s. inl s)
  after_end_reads [] same close closed None is rest e =
      mixed_ended (codes ")") rest (closed ∙ ap (λ r. codes ")" ++ r) (same_some _ _ e)) (λ text s. inr (sym same, s))
  after_end_reads (n ∷ ns) same close closed None is rest e = cc

mixed_reads : (bytes inside behind : List ℕ) → bytes ≡ codes "(" ++ inside →
    after_bytes (codes "#PCDATA") (after_space inside) ≡ Some behind → (f : NamedModel × List ℕ) →
    mixed_at behind ≡ Some f → ReadsModel bytes f
unfolding mixed_at
mixed_reads bytes inside behind opened data_at f e =
    let listed = bound (listed_at (suc (length behind)) behind) _ f e in
    let close = bound (after_bytes (codes ")") listed.value.1) _ f listed.others in
    let rest = bound (after_end listed.value.0 close.value (after_bytes (codes "*") close.value)) _ f close.others in
    subst (ReadsModel bytes) (same_some _ _ rest.others)
    (after_end_reads bytes inside behind opened data_at listed.value (listed_reads (suc (length behind)) behind listed.value listed.first)
    listed.value.0 refl close.value (after_bytes_takes (codes ")") listed.value.1 close.value close.first) (after_bytes (codes "*") close.value) refl rest.value rest.first)

-- a particle that begins with '(' is a group
name_not_open : (n rest inside : List ℕ) → IsName n → n ++ rest ≡ codes "(" ++ inside → ⊥
name_not_open [] rest inside is e = name_some [] is refl
name_not_open (b ∷ bs) rest inside is e =
    let open_first : b ≡ 40 = cc in
    let named = (and_parts (is_name_byte b) (list_all is_name_byte bs) (name_bytes (b ∷ bs) is)).0 in
    let at = ap is_name_byte open_first in
    cc

begins_group : (p : NamedPart) (text rest inside : List ℕ) → SpellsPart p text → text ++ rest ≡ codes "(" ++ inside → IsGroup p
begins_group (name n) text rest inside s e = name_not_open n rest inside s.0 (ap (λ t. t ++ rest) (sym s.1) ∙ e)
begins_group (seq ps) text rest inside s e = tt
begins_group (choice ps) text rest inside s e = tt
begins_group (opt p) text rest inside s e = begins_group p s.0 (codes "?" ++ rest) inside s.2 (sym (append_assoc s.0 (codes "?") rest) ∙ ap (λ t. t ++ rest) (sym s.3) ∙ e)
begins_group (star p) text rest inside s e = begins_group p s.0 (codes "*" ++ rest) inside s.2 (sym (append_assoc s.0 (codes "*") rest) ∙ ap (λ t. t ++ rest) (sym s.3) ∙ e)
begins_group (plus p) text rest inside s e = begins_group p s.0 (codes "+" ++ rest) inside s.2 (sym (append_assoc s.0 (codes "+") rest) ∙ ap (λ t. t ++ rest) (sym s.3) ∙ e)

children_read : (bytes inside : List ℕ) → bytes ≡ codes "(" ++ inside → (f : NamedModel × List ℕ) → children_at bytes ≡ Some f → ReadsModel bytes f
unfolding children_at
children_read bytes inside opened f e =
    let p = bound (particle_at MAX_NESTING bytes) _ f e in
    let r = particle_reads MAX_NESTING bytes p.value p.first in
    subst (ReadsModel bytes) (same_some _ _ p.others) record {
      text = r.text;
      spelled = ((begins_group p.value.0 r.text p.value.1 inside r.spelled.0 (sym r.whole ∙ opened), r.spelled.0), r.spelled.1);
      whole = r.whole;
    }

group_by_reads : (bytes inside : List ℕ) → bytes ≡ codes "(" ++ inside →
    (f : NamedModel × List ℕ) (o : Option (List ℕ)) →
    after_bytes (codes "#PCDATA") (after_space inside) ≡ o → group_by bytes o ≡ Some f → ReadsModel bytes f
group_by_reads bytes inside opened f (Some behind) is e = mixed_reads bytes inside behind opened is f e
group_by_reads bytes inside opened f None is e = children_read bytes inside opened f e

group_reads : (bytes : List ℕ) (f : NamedModel × List ℕ) → group_model_at bytes ≡ Some f → ReadsModel bytes f
unfolding group_model_at
group_reads bytes f e =
    let inside = bound (after_bytes (codes "(") bytes) _ f e in
    group_by_reads bytes inside.value (after_bytes_takes (codes "(") bytes inside.value inside.first) f (after_bytes (codes "#PCDATA") (after_space inside.value)) refl inside.others

model_by_reads : (bytes : List ℕ) (f : NamedModel × List ℕ) (o q : Option (List ℕ)) →
    after_bytes (codes "EMPTY") bytes ≡ o → after_bytes (codes "ANY") bytes ≡ q →
    model_by bytes o q ≡ Some f → ReadsModel bytes f
model_by_reads bytes f (Some rest) q is other e =
    subst (ReadsModel bytes) (same_some _ _ e) record { text = codes "EMPTY"; spelled = (refl, tt); whole = after_bytes_takes (codes "EMPTY") bytes rest is }
model_by_reads bytes f None (Some rest) is other e =
    subst (ReadsModel bytes) (same_some _ _ e) record { text = codes "ANY"; spelled = (refl, tt); whole = after_bytes_takes (codes "ANY") bytes rest other }
model_by_reads bytes f None None is other e = group_reads bytes f e

pub model_reads : (bytes : List ℕ) (f : NamedModel × List ℕ) → model_at bytes ≡ Some f → ReadsModel bytes f
unfolding model_at
model_reads bytes f e = model_by_reads bytes f (after_bytes (codes "EMPTY") bytes) (after_bytes (codes "ANY") bytes) refl refl e
