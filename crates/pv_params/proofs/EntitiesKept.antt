-- Entities in the table that keeps them.
use Rattle.std.proofs.Common.{◌≡◌, ℕ, List, [], ◌∷◌, ◌++◌, Bool, true, false, cond, Option, Some, None, Vec, Global, map, is_some, refl, sym, ap, ◌∙◌}
use Rattle.std.specs.Str.{bytes_eq}
use Rattle.std.specs.Map.{lookup}
use Rattle.indexmap.specs.IndexMap.{insert_entry}
use Rattle.pv_params.specs.Entries.{entity_of}
use Rattle.pv_params.specs.Meaning.{Entity, text_of, with_entity}

abbrev pub Entry : Type 0
Entry = Vec ℕ Global × Vec ℕ Global

abbrev pub items_in : Option (Vec ℕ Global) → Option (List ℕ)
items_in None = None
items_in (Some text) = Some text.items

abbrev pub same_name : Vec ℕ Global → Vec ℕ Global → Bool
same_name a b = bytes_eq a.items b.items

text_by : (b : Bool) (text : Vec ℕ Global) (later : Option (Vec ℕ Global)) (others : Option (List ℕ)) → items_in later ≡ others → items_in (cond b (Some text) later) ≡ cond b (Some text.items) others
text_by true text later others e = refl
text_by false text later others e = e

-- the text of a name is that of the first entry of that name
pub text_of-entries : (name : List ℕ) (entries : List Entry) → items_in (lookup (λ (k : Vec ℕ Global). bytes_eq name k.items) entries) ≡ text_of name (map entity_of entries)
text_of-entries name [] = refl
text_of-entries name (e ∷ es) = text_by (bytes_eq name e.0.items) e.1 (lookup (λ (k : Vec ℕ Global). bytes_eq name k.items) es) (text_of name (map entity_of es)) (text_of-entries name es)

pub text_found : (name : List ℕ) (entries : List Entry) (text : Vec ℕ Global) →
    Some text ≡ lookup (λ (k : Vec ℕ Global). bytes_eq name k.items) entries →
    Some text.items ≡ text_of name (map entity_of entries)
text_found name entries text is = ap items_in is ∙ text_of-entries name entries

pub no_text_found : (name : List ℕ) (entries : List Entry) → None ≡ lookup (λ (k : Vec ℕ Global). bytes_eq name k.items) entries → None ≡ text_of name (map entity_of entries)
no_text_found name entries is = ap items_in is ∙ text_of-entries name entries

inserted_by : (b : Bool) (e : Entry) (name text : Vec ℕ Global) (es others : List Entry) (later : Option (List ℕ)) → cond b (Some e.1.items) later ≡ None →
    (later ≡ None → map entity_of others ≡ map entity_of es ++ entity_of (name, text) ∷ []) →
    map entity_of (cond b ((e.0, text) ∷ es) (e ∷ others)) ≡ map entity_of (e ∷ es)
    ++ entity_of (name, text) ∷ []
inserted_by true e name text es others later none f = cc
inserted_by false e name text es others later none f = ap (λ l. entity_of e ∷ l) (f none)

-- a name that has no text goes last
inserted : (entries : List Entry) (name text : Vec ℕ Global) →
    text_of name.items (map entity_of entries) ≡ None →
    map entity_of (insert_entry same_name entries name text) ≡ map entity_of entries
    ++ entity_of (name, text) ∷ []
inserted [] name text none = refl
inserted (e ∷ es) name text none = inserted_by (same_name name e.0) e name text es (insert_entry same_name es name text) (text_of name.items (map entity_of es)) none (inserted es name text)

-- a name that has a text keeps it, and a new one goes last
pub entity_kept : (entries after : List Entry) (name text : Vec ℕ Global) (x : List ℕ)
    (es : List Entity) → map entity_of entries ≡ es → x ≡ name.items → None ≡ text_of x es →
    after ≡ insert_entry same_name entries name text →
    map entity_of after ≡ with_entity name.items text.items es
entity_kept entries after name text x es seen same none is =
    let there : text_of name.items es ≡ None = sym (none ∙ ap (λ n. text_of n es) same) in
    let kept = inserted entries name text (ap (text_of name.items) seen ∙ there) in
    ap (map entity_of) is ∙ kept ∙ ap (λ l. l ++ entity_of (name, text) ∷ []) seen ∙ sym (ap (λ o. cond (is_some o) es (es ++ entity_of (name, text) ∷ [])) there)

pub entity_known : (es : List Entity) (name text x : List ℕ) (known : List ℕ) → x ≡ name → Some known ≡ text_of x es → es ≡ with_entity name text es
entity_known es name text x known same some =
    sym (ap (λ o. cond (is_some o) es (es ++ record { name = name; text = text } ∷ [])) (sym (some ∙ ap (λ n. text_of n es) same)))
