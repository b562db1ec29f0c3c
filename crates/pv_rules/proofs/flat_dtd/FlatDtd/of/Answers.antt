use Rattle.std.proofs.Common.{[], arith, length, ◌++◌, ◌+◌, ◌∷◌, ◌≡◌}
use Rattle.pv_model.specs.PlainForms.{plain_model}
use Rattle.pv_dtd.specs.Plain.{parts_in_model}
use Rattle.pv_dtd.specs.PlainForms.{plain_dtd}
use Rattle.pv_rules.specs.Flat.{one_content}
use Rattle.pv_rules.proofs.FlatModels.{contents_more, fits_now, model_fits, model_length, parts_more}
use Rattle.pv_rules.proofs.flat_dtd.FlatDtd.of.Goals as goal

pub push_model-requires : goal.push_model-requires
push_model-requires c =
    fits_now c.loop-name.parts.items c.loop-name.name (plain_dtd c.args.dtd.now).models (plain_model c.declared_model-model.result.now) c.declared_model-model.ensures
    c.loop-name.invariant.fits

pub overflow_cast-len : goal.overflow_cast-len
overflow_cast-len c =
    let f = fits_now c.loop-name.parts.items c.loop-name.name (plain_dtd c.args.dtd.now).models (plain_model c.declared_model-model.result.now) c.declared_model-model.ensures
    c.loop-name.invariant.fits in
    let l = model_length c.loop-name.parts.items c.push_model.new.parts.items (plain_model c.declared_model-model.result.now) c.in_ok-push_model.ensures in
    omega (arith, f, l, c.len.ensures)

pub loop-name-preserved : goal.loop-name-preserved
loop-name-preserved c = record {
  parts = parts_more c.loop-name.parts.items c.push_model.new.parts.items _ c.loop-name.name (plain_dtd c.args.dtd.now).models (plain_model c.declared_model-model.result.now)
      c.declared_model-model.ensures c.in_ok-push_model.ensures c.loop-name.invariant.parts;
  contents = contents_more c.loop-name.contents.items c.push.new.self.items _ c.loop-name.parts.items c.push_model.new.parts.items c.loop-name.name
      (plain_dtd c.args.dtd.now).models (plain_model c.declared_model-model.result.now) c.declared_model-model.ensures c.in_ok-push_model.ensures pushed
      c.loop-name.invariant.contents;
  fits = model_fits c.loop-name.parts.items c.push_model.new.parts.items c.loop-name.name (plain_dtd c.args.dtd.now).models (plain_model c.declared_model-model.result.now)
      c.declared_model-model.ensures c.in_ok-push_model.ensures c.loop-name.invariant.fits;
}
  where
    pushed : c.push.new.self.items ≡ c.loop-name.contents.items ++ (one_content (length c.loop-name.parts.items) (plain_model c.declared_model-model.result.now) ∷ [])
    pushed =
        let l = model_length c.loop-name.parts.items c.push_model.new.parts.items (plain_model c.declared_model-model.result.now) c.in_ok-push_model.ensures in
        let a : c.len-first.result ≡ length c.loop-name.parts.items = omega arith in
        let b : c.len.result ≡ length c.loop-name.parts.items + parts_in_model (plain_model c.declared_model-model.result.now) = omega arith in
        let k = c.content_kind_of.ensures in
        let e = c.in_ok-push.ensures.items in
        cc
