-- The views from the forms of node lines, and from node lines, to pure data.
use Rattle.mw_recheck.specs.Judging.{NodeLine, Form, one_type, two_types, three_types, type_and_classifier}
use Rattle.mw_recheck.specs.Judging.{two_types_and_classifier}
use Rattle.mw_recheck.specs.declared.lines.Form.{Form as RustForm}
use Rattle.mw_recheck.specs.declared.lines.Form.TheVariants.{OneType, TwoTypes, ThreeTypes, TypeAndClassifier}
use Rattle.mw_recheck.specs.declared.lines.Form.TheVariants.{TwoTypesAndClassifier}
use Rattle.mw_recheck.specs.declared.lines.Own.{Own}

abbrev pub form_at : RustForm → Form
form_at OneType = one_type
form_at TwoTypes = two_types
form_at ThreeTypes = three_types
form_at TypeAndClassifier = type_and_classifier
form_at TwoTypesAndClassifier = two_types_and_classifier

abbrev pub line_at : Own → NodeLine
line_at x = record { own = x.own; second = x.second; third = x.third }
