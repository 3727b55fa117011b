-- What parts of a step come to, put together.
use Rattle.std.proofs.Common.{◌≡◌, Bool, true, false, if◌then◌else◌, Option, Some, None, Result, Ok, Err, refl, subst}
use Rattle.cr_base.specs.declared.rule.URule.{URule}
use Rattle.cx_mean.specs.Operands.{CWhy, breaks, stuck, needed, accessed, by_pointers}
use Rattle.mem_bytes.specs.Access.{and_then}
use Rattle.mem_bytes.specs.declared.fault.Fault.{Fault}
use Rattle.mem_bytes.specs.declared.pointer.PointerFault.{PointerFault}
use Rattle.mem_bytes.specs.declared.pointer.PointerFault.TheVariants.{ToDead, LeavesObject, NotWithinOne, NoPointer}
use Rattle.cx_typed_values.specs.Outcomes.{Comes}

-- one part after another
pub comes_and : {A B : Type 0} (P : A → Type 0) (Q : B → Type 0) (first : Result A CWhy) (next : A → Result B CWhy)
    → Comes P first → ((value : A) → P value → Comes Q (next value)) → Comes Q (and_then first next)
comes_and P Q (Ok value) next one all = all value one
comes_and P Q (Err (breaks rule)) next one all = tt
comes_and P Q (Err stuck) next one all = one

pub comes_as : {A : Type 0} (P Q : A → Type 0) (found : Result A CWhy) → Comes P found → ((value : A) → P value → Q value) → Comes Q found
comes_as P Q (Ok value) one all = all value one
comes_as P Q (Err (breaks rule)) one all = tt
comes_as P Q (Err stuck) one all = one

-- a rule is broken, or not
pub comes_else : {A : Type 0} (P : A → Type 0) (test : Bool) (rule : URule) (value : A) → P value → Comes P (if test then Err (breaks rule) else Ok value)
comes_else P true rule value is = tt
comes_else P false rule value is = is

-- what a typed program has is there
pub comes_needed : {A : Type 0} (P : A → Type 0) (found : Option A) (value : A) → found ≡ Some value → P value → Comes P (needed found)
comes_needed P None value e is = cc
comes_needed P (Some one) value e is =
    let same : value ≡ one = cc (e) in
    subst P same is

-- an access ends in a value, or in a fault, which breaks a rule
pub comes_accessed : {A : Type 0} (P : A → Type 0) (found : Result A Fault) → ((value : A) → found ≡ Ok value → P value) → Comes P (accessed found)
comes_accessed P (Ok value) all = all value refl
comes_accessed P (Err fault) all = tt
