-- What results that are `Ok` show.
use Rattle.std.proofs.Common.{◌≡◌, Bool, true, false, if◌then◌else◌, Result, Ok, Err, refl}
use Rattle.cr_base.specs.declared.scalar.Scalar.{Scalar}
use Rattle.cr_base.specs.declared.scalar.Scalar.TheVariants.{Truth, Whole, Object, Code}
use Rattle.cx_mean.specs.Operands.{CWhy, stuck, accessed}
use Rattle.cx_mean.specs.Values.{is_of_kind}
use Rattle.cx_typed_values.proofs.Ranges.{in_range}
use Rattle.mem_bytes.specs.declared.fault.Fault.{Fault}
use Rattle.mem_bytes.specs.declared.value.Value.{Value}
use Rattle.mem_bytes.specs.declared.value.Value.TheVariants.{Whole as Number, Null, Object as Pointer, Code as Function}
use Rattle.mem_bytes.specs.Coding.{IsValueOf}

pub accessed_ok : {A : Type 0} (result : Result A Fault) (value : A) → accessed result ≡ Ok value → result ≡ Ok value
accessed_ok (Ok one) value e = cc
accessed_ok (Err fault) value e = cc

-- behind a test
pub where_true : {A : Type 0} (test : Bool) (result : Result A CWhy) (value : A) → (if test then result else Err stuck) ≡ Ok value → (test ≡ true) × (result ≡ Ok value)
where_true true result value e = (refl, e)
where_true false result value e = cc

-- a value of a kind is a value of that scalar type
pub kind_value : (kind : Scalar) (value : Value) → is_of_kind kind value ≡ true → IsValueOf kind value
kind_value Truth (Number number) is = in_range Truth number is
kind_value (Whole width signed) (Number number) is = in_range (Whole width signed) number is
kind_value Object Null is = tt
kind_value Object (Pointer at) is = tt
kind_value Code Null is = tt
kind_value Code (Function number) is = tt
kind_value kind value is = cc
