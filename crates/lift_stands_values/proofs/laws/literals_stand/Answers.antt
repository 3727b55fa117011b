use Rattle.lift_stands_values.proofs.Literals.{zeros_leave, nothing_left}
use Rattle.lift_stands_values.proofs.Puts.{scalar_put, record_put, field_put}
use Rattle.lift_stands_values.proofs.laws.literals_stand.Goals as goal

pub returns : goal.returns
returns c = record {
  clears = zeros_leave;
  leaves = λ setting frame number puts images held other at to one no_bits stands slot place e. nothing_left setting frame number puts images held other at to one stands slot place e no_bits;
  scalars = λ setting frame number spot type operand images held other at to kind value given one stands slot place whole found is_scalar is below e.
      scalar_put setting frame number spot type operand images held other at to one stands slot place e kind value given whole found is_scalar is below;
  records = λ setting frame number spot type operand images held other at to source laid room list from one stands slot place whole found is holds e.
      record_put setting frame number spot type operand images held other at to one stands slot place e source laid room list from whole found is holds;
  fields = λ setting frame object spot type operand images held other at to kind number one in_bytes stands slot place some found is e.
      field_put setting frame object spot type operand images held other at to one stands slot place e kind number in_bytes some found is;
}
