use Rattle.cx_typed_units.proofs.RestTrees.{kept_expr_walk, kept_type_name_walk, kept_specs_walk, kept_declarator_walk, kept_initialiser_walk}
use Rattle.cx_typed_units.proofs.expressions_leave_rest.Goals as goal

pub returns : goal.returns
returns c = record {
  expr = λ tree scope. (kept_expr_walk tree scope).kept.rest_is;
  type_name = λ tree scope. (kept_type_name_walk tree scope).kept.rest_is;
  specs = λ alone specs trees scope. (kept_specs_walk alone specs trees scope).kept.rest_is;
  declarator = λ tree scope. (kept_declarator_walk tree scope).kept.rest_is;
  initialiser = λ target tree scope. (kept_initialiser_walk target tree scope).kept.rest_is;
}
