-- What results that are `Ok` show.
use Rattle.std.proofs.Common.{◌≡◌, ℤ, Bool, true, false, if◌then◌else◌, Option, Some, None, Result, Ok, Err, refl}
use Rattle.cr_base.specs.declared.rule.URule.{URule}
use Rattle.cx_mean.specs.Operands.{needed, by_pointers, CValue, scalar, cells, names, designates, designates_bits, missing, scalar_value}
use Rattle.cx_mean.specs.Values.{number_in}
use Rattle.mem_bytes.specs.declared.pointer.PointerFault.{PointerFault}
use Rattle.mem_bytes.specs.declared.value.Value.{Value}
use Rattle.mem_bytes.specs.declared.value.Value.TheVariants.{Whole as Number, Null, Object, Code}

pub needed_ok : {A : Type 0} (found : Option A) (one : A) → needed found ≡ Ok one → found ≡ Some one
needed_ok (Some value) one e = cc
needed_ok None one e = cc

pub pointers_ok : {A : Type 0} (rule : URule) (result : Result A PointerFault) (value : A) → by_pointers rule result ≡ Ok value → result ≡ Ok value
pointers_ok rule (Ok one) value e = cc
pointers_ok rule (Err fault) value e = cc

-- behind a test, whatever is wrong else
pub if_ok : {A E : Type 0} (test : Bool) (result : Result A E) (fault : E) (value : A) → (if test then result else Err fault) ≡ Ok value → (test ≡ true) × (result ≡ Ok value)
if_ok true result fault value e = (refl, e)
if_ok false result fault value e = cc

pub scalar_ok : (given : CValue) (value : Value) → scalar_value given ≡ Ok value → given ≡ scalar value
scalar_ok (scalar one) value e = cc
scalar_ok missing value e = cc
scalar_ok (cells held from) value e = cc
scalar_ok (names number) value e = cc
scalar_ok (designates to) value e = cc
scalar_ok (designates_bits at bit width) value e = cc

pub number_ok : (value : Value) (number : ℤ) → number_in value ≡ Ok number → value ≡ Number number
number_ok (Number one) number e = cc
number_ok Null number e = cc
number_ok (Object at) number e = cc
number_ok (Code of) number e = cc
