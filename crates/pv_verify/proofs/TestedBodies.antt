-- The body of a pack that was read, beside a document within its limits.
use Rattle.std.proofs.Common.{Bool, List, ℕ, ◌≡◌, ◌∙◌, lit≤, subst}
use Rattle.std.specs.Prelude.{IsTrue, ◌↔◌}
use Rattle.pv_dtd.specs.Hedge.{Hedge}
use Rattle.pv_tree.specs.Marks.{blank_mark}
use Rattle.pv_tree.specs.Plain.{PlainDoc}
use Rattle.pv_tree.specs.View.{view}
use Rattle.pv_tree.specs.declared.nodes.Mark.{Mark}
use Rattle.pv_read.specs.DocumentLaws.{MeansSameWithinWider}
use Rattle.pv_read.specs.Meaning.{document_limits, is_document}
use Rattle.pv_flat.specs.ComingEvents.{flat_limits}
use Rattle.pv_cert.specs.declared.packs.Pack.{Pack}
use Rattle.pv_compare.specs.Kept.{AreMarks, IsBodyText, KeepsDocument, are_plain, attributes_of}
use Rattle.pv_compare.specs.declared.comparing.BodyRead.{BodyRead}
use Rattle.pv_verify.specs.ReadBodies.{IsMeant, IsReadBeside}

-- the body that the bytes are, and what two answers tell of it
pub record IsTested (root : List ℕ) (doc : PlainDoc Mark) (pack : Pack) (bytes : List ℕ)
    (marked kept_told : Bool) : Type 0 where
  pub body : PlainDoc Mark
  pub is_text : IsBodyText root bytes body
  pub text : IsBodyText root pack.body body
  pub marks : IsTrue marked ↔ AreMarks pack.marks (view body.root)
  pub kept : IsTrue kept_told ↔ KeepsDocument doc body pack.marks

pub tested-body : (root : List ℕ) (doc : PlainDoc Mark) (pack : Pack) (bytes marks : List ℕ)
    (read : BodyRead) (plain : List Bool) (marked : Bool) →
    IsReadBeside root doc bytes marks read → bytes ≡ pack.body → marks ≡ pack.marks →
    MeansSameWithinWider → IsMeant root doc →
    plain ≡ read.plain.items → ((body : Hedge) → plain ≡ are_plain (attributes_of body) →
    IsTrue marked ↔ AreMarks marks body) →
    IsTested root doc pack bytes marked read.kept
tested-body root doc pack bytes marks read plain marked found same-body same-marks wider meant
    same-plain are-marks =
    let here = found.is_read in
    let within = wider document_limits flat_limits blank_mark root meant.bytes (is_document doc)
    (record { depth = tt; bytes = lit≤ tt }) tt meant.means in
    record {
      body = here.body;
      is_text = here.is_text;
      text = subst (λ b. IsBodyText root b here.body) same-body here.is_text;
      marks =
          subst (λ m. IsTrue marked ↔ AreMarks m (view here.body.root)) same-marks
          (are-marks (view here.body.root) (same-plain ∙ here.are));
      kept =
          subst (λ m. IsTrue read.kept ↔ KeepsDocument doc here.body m) same-marks
          (found.keeps meant.bytes here.body within here.is_text);
    }
