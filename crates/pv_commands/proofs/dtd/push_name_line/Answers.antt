use Rattle.std.proofs.Common.{◌≡◌, ◌++◌, ℕ, List, Some, codes, refl, slice_get, slice_index_or, sym}
use Rattle.std.proofs.Common.{[], suc, zero, ◌∷◌}
use Rattle.std.proofs.lemmas.Grind.{common_steps}
use Rattle.std.proofs.Common.{arith}
use Rattle.pv_dtd.specs.Plain.{model_of, spelling_of}
use Rattle.pv_model.specs.PlainForms.{plain_model}
use Rattle.pv_commands.specs.Dtd.{model_text}
use Rattle.pv_productive.specs.PlainForms.{dtd_of}
use Rattle.pv_commands.proofs.DtdLines.{appended}
use Rattle.pv_commands.proofs.dtd.push_name_line.Goals as goal

spelled : (ns : List (List ℕ)) (y : ℕ) (n : List ℕ) → slice_get ns y ≡ Some n →
    slice_index_or ns y [] ≡ n
spelled [] y n e = absurd cc
spelled (m ∷ ns) zero n e = cc
spelled (m ∷ ns) (suc y) n e = spelled ns y n e

pub returns : goal.returns
returns c =
    let t = c.in_ok-push_tree.ensures in
    let m : model_of (dtd_of c.args.grammar.now) c.args.name ≡ Some
    (plain_model c.in-Some.model.now) = grind (arith, common_steps) in
    let s : slice_get (dtd_of c.args.grammar.now).names c.args.name ≡ Some c.name_of.result.now =
    grind (arith, common_steps) in
    let n : spelling_of (dtd_of c.args.grammar.now) c.args.name ≡ c.name_of.result.now =
    spelled (dtd_of c.args.grammar.now).names c.args.name c.name_of.result.now s in (
      plain_model c.in-Some.model.now,
      spelling_of (dtd_of c.args.grammar.now) c.args.name ++ codes " "
          ++ model_text (plain_model c.in-Some.model.now) ++ codes " " ++ t.0 ++ codes "\n",
      m,
      record { tree = t.0; is_tree = t.1; is_line = refl },
      rw (n, sym c.model_text.ensures)
          (appended _ _ _ _ _ _ _ _ _ _ _ _ _ c.in_ok-extend_from_slice.ensures.items
          c.in_ok-extend_from_slice-2.ensures.items c.in_ok-extend_from_slice-3.ensures.items
          c.in_ok-extend_from_slice-4.ensures.items t.2 c.in_ok-extend_from_slice-5.ensures.items),
    )
