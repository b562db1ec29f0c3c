-- The plain form of what stands in a column.
use Rattle.std.specs.Prelude.{List, map}
use Rattle.pv_layout.specs.Forms.{PlainForm, of_element, of_none, of_nothing, of_one, of_opt, of_plus}
use Rattle.pv_layout.specs.Forms.{of_star, of_two}
use Rattle.pv_layout.specs.declared.forms.Form.{Form}
use Rattle.pv_layout.specs.declared.forms.Form.TheVariants as form

-- the plain form of what stands in a column
abbrev pub plain_form : Form → PlainForm
plain_form form.Never = of_none
plain_form (form.Element id d) = of_element id.0 d
plain_form form.Nothing = of_nothing
plain_form (form.OneOf ds) = of_one ds.items
plain_form (form.Opt d) = of_opt d
plain_form (form.Star d texts) = of_star d texts
plain_form (form.Plus d) = of_plus d
plain_form (form.Then d e) = of_two d e

-- the plain forms of what stands in all columns
abbrev pub plain_all : List Form → List PlainForm
plain_all forms = map plain_form forms
