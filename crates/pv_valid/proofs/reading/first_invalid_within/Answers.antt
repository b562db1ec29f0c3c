use Rattle.std.proofs.Common.{◌≡◌, true}
use Rattle.pv_dtd.specs.PlainForms.{plain_dtd}
use Rattle.pv_read.specs.declared.errors.DocError.TheVariants.{NoMemory}
use Rattle.pv_read.proofs.OneItem.{one_item}
use Rattle.pv_read.proofs.PartsOfDocuments.{answers_error}
use Rattle.pv_lists.specs.Answers.{limits_of}
use Rattle.pv_valid.proofs.WholeRoots.{other_root, same_root}
use Rattle.pv_valid.proofs.reading.first_invalid_within.Goals as goal

pub returns-in-Err-Judge-clause-exactly : goal.returns-in-Err-Judge-clause-exactly
returns-in-Err-Judge-clause-exactly c = answers_error one_item (limits_of c.args.most_depth c.args.most_bytes) c.args.root.now c.args.bytes.now NoMemory tt

pub returns-then-not-has_name-clause-valid : goal.returns-then-not-has_name-clause-valid
returns-then-not-has_name-clause-valid c = λ doc means.
    (other_root (plain_dtd c.args.dtd.now) c.args.root.now c.args.bytes.now c.in-Ok.lists doc means
    (c.in-Ok.ensures.lists doc means)
    (λ e. let t : c.has_name.result ≡ true = c.has_name.ensures.1 e in cc)).valid

pub returns-then-not-has_name-clause-first : goal.returns-then-not-has_name-clause-first
returns-then-not-has_name-clause-first c = λ doc means.
    rw c.in_ok-new.ensures (other_root (plain_dtd c.args.dtd.now) c.args.root.now c.args.bytes.now
    c.in-Ok.lists doc means (c.in-Ok.ensures.lists doc means)
    (λ e. let t : c.has_name.result ≡ true = c.has_name.ensures.1 e in cc)).first

pub returns-clause-valid : goal.returns-clause-valid
returns-clause-valid c = λ doc means.
    (same_root (plain_dtd c.args.dtd.now) c.args.root.now c.args.bytes.now c.in-Ok.lists doc means (c.in-Ok.ensures.lists doc means) (c.has_name.ensures.0 c.if-not-has_name.false)).valid

pub returns-clause-first : goal.returns-clause-first
returns-clause-first c = λ doc means.
    (same_root (plain_dtd c.args.dtd.now) c.args.root.now c.args.bytes.now c.in-Ok.lists doc means (c.in-Ok.ensures.lists doc means) (c.has_name.ensures.0 c.if-not-has_name.false)).first
