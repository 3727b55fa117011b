use Rattle.cx_typed.proofs.Calling.{call_goes}
use Rattle.cx_typed.proofs.Compounds.{literal_goes}
use Rattle.cx_typed.proofs.Forms.{number_goes, letter_goes, paren_goes, index_goes, dot_goes, arrow_goes, post_up_goes, post_down_goes, pre_up_goes, pre_down_goes, unary_goes, binary_goes, cond_goes, assign_goes, comma_goes}
use Rattle.cx_typed.proofs.Named.{name_goes, text_goes, sizeof_goes, sizeof_type_goes, cast_goes, no_args_go, more_args_go}
use Rattle.cx_typed.proofs.expression_forms_are_typed.Goals as goal

pub returns : goal.returns
returns c = record {
  name = name_goes;
  number = number_goes;
  letter = letter_goes;
  text = text_goes;
  paren = paren_goes;
  index = index_goes;
  call = call_goes;
  dot = dot_goes;
  arrow = arrow_goes;
  post_up = post_up_goes;
  post_down = post_down_goes;
  pre_up = pre_up_goes;
  pre_down = pre_down_goes;
  unary = unary_goes;
  sizeof_expr = sizeof_goes;
  sizeof_type = sizeof_type_goes;
  cast = cast_goes;
  binary = binary_goes;
  cond = cond_goes;
  assign = assign_goes;
  comma = comma_goes;
  literal = literal_goes;
  no_args = no_args_go;
  more_args = more_args_go;
}
