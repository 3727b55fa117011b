-- Laws of C's operators on pointers, and of the operators and methods of Rust that are written for them (ISO C99, 6.5.3.3p5, 6.5.6p8, 6.5.6p9, 6.5.8p5 and
-- 6.5.9p6; the Rust Reference, "Comparison operators", and `core`, `pointer`).
use Rattle.std.specs.Prelude.{◌≡◌, ℤ, Bool, not, Option, Some, None, Result, Ok}
use Rattle.cr_base.specs.declared.layout.Laid.{Laid}
use Rattle.cx_core.specs.declared.expr.Op2.{Op2}
use Rattle.cx_core.specs.declared.expr.Op2.TheVariants.{Less, Greater, LessOrEqual, GreaterOrEqual, Equal, NotEqual}
use Rattle.cx_core.specs.Trees.{CTy, form_of_type}
use Rattle.cx_mean.specs.Settings.{CSetting, element_extent}
use Rattle.cx_mean.specs.Values.{is_true, moved_by, differ_by, two_pointers}
use Rattle.mem_bytes.specs.declared.value.Value.{Value}
use Rattle.mem_bytes.specs.declared.value.Value.TheVariants.{Whole, Null, Object, Code}
use Rattle.mem_bytes.specs.Memory.{Blocks}
use Rattle.rs_mean.specs.declared.cause.Cause.{Cause}
use Rattle.rs_mean.specs.Values.{Typed, typed, on_pointers, on_functions, is_null_value, offset_by, apart_by}
use Rattle.rs_text.specs.declared.integer.IntegerTy.TheVariants.{Isize}
use Rattle.rs_text.specs.declared.operator.Operator.{Operator}
use Rattle.rs_text.specs.declared.operator.Operator.TheVariants.{Less as IsLess, LessEqual as IsLessOrEqual, Greater as IsGreater, GreaterEqual as IsGreaterOrEqual, Equal as IsEqual, NotEqual as IsNotEqual}
use Rattle.rs_text.specs.Tree.{Ty, Integer, Boolean, Pointer}
use Rattle.lift_stands.specs.Stands.{Images, ValueBelow, StandsFor}

-- the operator of Rust that is written for a comparison of C
abbrev pub comparison_of : Op2 → Option Operator
comparison_of Less = Some IsLess
comparison_of Greater = Some IsGreater
comparison_of LessOrEqual = Some IsLessOrEqual
comparison_of GreaterOrEqual = Some IsGreaterOrEqual
comparison_of Equal = Some IsEqual
comparison_of NotEqual = Some IsNotEqual
comparison_of op = None

-- a value is a pointer
abbrev pub IsAddress : Value → Type 0
IsAddress (Whole number) = ⊥
IsAddress Null = Unit {0}
IsAddress (Object at) = Unit {0}
IsAddress (Code number) = Unit {0}

-- and it isn't one to an object
abbrev pub IsNoObject : Value → Type 0
IsNoObject (Object at) = ⊥
IsNoObject Null = Unit {0}
IsNoObject (Whole number) = Unit {0}
IsNoObject (Code number) = Unit {0}

-- what C's pointer type points to has this size
pub record PointsToSize (setting : CSetting) (type : CTy) (laid : Laid) : Type 0 where
  pub extent : Laid
  pub found : element_extent setting (form_of_type type) ≡ Some extent
  pub same_size : extent.size ≡ laid.size

-- a pointer of the crate, with its type, stands for one of C
pub record PointsTypedBelow (images : Images) (value : Value) (ty : Ty) (result : Result Typed Cause) : Type 0 where
  pub other : Value
  pub is : result ≡ Ok (typed ty other)
  pub below : ValueBelow images value other

pub record OperatorsStand : Type 0 where
  -- `p + n` is `p.offset(n)`; `p - n` is so of `-n`
  pub moves : (images : Images) (memory others : Blocks) (setting : CSetting) (type : CTy) (value other new : Value) (count : ℤ) (target : Ty) (laid : Laid) →
      StandsFor images memory others → ValueBelow images value other → PointsToSize setting type laid → moved_by setting memory type value count ≡ Ok new →
      PointsTypedBelow images new (Pointer target) (offset_by others target (Some laid) other (Whole count))
  -- `p - q` is `p.offset_from(q)`
  pub differs : (images : Images) (memory others : Blocks) (setting : CSetting) (type : CTy) (first second one two : Value) (count : ℤ) (laid : Laid) →
      StandsFor images memory others → ValueBelow images first one → ValueBelow images second two → PointsToSize setting type laid →
      differ_by setting memory type first second ≡ Ok count → apart_by others (Some laid) one two ≡ Ok (typed (Integer Isize) (Whole count))
  -- `<`, `>`, `<=`, `>=`, `==` and `!=`
  pub compares : (images : Images) (memory others : Blocks) (setting : CSetting) (type : CTy) (op : Op2) (operator : Operator) (first second one two : Value)
      (number : ℤ) → StandsFor images memory others → ValueBelow images first one → ValueBelow images second two → comparison_of op ≡ Some operator →
      two_pointers setting op memory type first second ≡ Ok number → on_pointers others operator one two ≡ Ok (typed Boolean (Whole number))
  -- of pointers to functions alone
  pub compares_functions : (images : Images) (memory others : Blocks) (setting : CSetting) (type : CTy) (op : Op2) (operator : Operator)
      (first second one two : Value) (number : ℤ) → StandsFor images memory others → ValueBelow images first one → ValueBelow images second two →
      IsNoObject first → IsNoObject second → comparison_of op ≡ Some operator → two_pointers setting op memory type first second ≡ Ok number →
      on_functions operator one two ≡ Ok (typed Boolean (Whole number))
  -- a pointer as a condition is `is_null` or `is_none`, turned round
  pub tests : (images : Images) (memory others : Blocks) (value other : Value) (test : Bool) → StandsFor images memory others →
      ValueBelow images value other → IsAddress value → is_true memory value ≡ Ok test → is_null_value other ≡ not test
