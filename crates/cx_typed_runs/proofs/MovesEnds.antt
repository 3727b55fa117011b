-- What the end of a function gives where no `return` is reached (ISO C99, 5.1.2.2.3, 6.9.1p12).
use Rattle.std.proofs.Common.{◌≡◌, refl, sym, ap, ◌∙◌, subst, true≢false, ℕ, zero, suc, ◌<◌, pos, inl, inr, Bool, true, false, ◌&&◌, if◌then◌else◌, List, [], ◌∷◌, ◌++◌, Option, Some, None, IfSome, find, codes, bytes_eq, append_assoc, arith}
use Rattle.std.proofs.lemmas.Map.Keys.{IsDistinct-head, IsDistinct-tail}
use Rattle.std.proofs.lemmas.Slice.Eq.{bytes_eq-Decides}
use Rattle.std.specs.List.{Contains, IsDistinct, AllByRecursion}
use Rattle.cr_base.specs.declared.scalar.Scalar.TheVariants.{Whole}
use Rattle.cx_core.specs.declared.program.Linkage.{Linkage}
use Rattle.cx_core.specs.declared.ty.Basic.TheVariants.{Int}
use Rattle.cx_core.specs.Linked.{IsLinked, IsMainType, is_main, is_external}
use Rattle.cx_core.specs.Trees.{CTy, ty, CTyForm, basic, form_of_type, unqualified, CObject, CFun, COuter, CProgram}
use Rattle.cx_mean.specs.State.{value_at_end}
use Rattle.cx_typed_work.specs.Calls.{IsReturned}
use Rattle.cx_typed_work.specs.Operands.{IsScalarIn}
use Rattle.mem_bytes.specs.declared.value.Value.TheVariants.{Whole as Number}
use Rattle.cx_typed_runs.specs.Sites.{IsRunning}

-- ---- there is one `main`

both_true : (test other : Bool) → (test && other) ≡ true → (test ≡ true) × (other ≡ true)
both_true true other e = (refl, e)
both_true false other e = cc (e)

abbrev name_before : Option (List ℕ) → List (List ℕ) → List (List ℕ)
name_before None names = names
name_before (Some name) names = name ∷ names

-- the names of a program's objects, functions and external functions, as `names_with` lists them
abbrev names_of_objects : (Linkage → Bool) → List CObject → List (List ℕ)
names_of_objects counts [] = []
names_of_objects counts (one ∷ others) =
    if counts one.linkage then name_before one.name (names_of_objects counts others) else names_of_objects counts others

abbrev names_of_functions : (Linkage → Bool) → List CFun → List (List ℕ)
names_of_functions counts [] = []
names_of_functions counts (one ∷ others) =
    if counts one.linkage then one.name ∷ names_of_functions counts others else names_of_functions counts others

abbrev names_of_outers : (Linkage → Bool) → List COuter → List (List ℕ)
names_of_outers counts [] = []
names_of_outers counts (one ∷ others) =
    if counts one.linkage then one.name ∷ names_of_outers counts others else names_of_outers counts others

distinct_back : (front back : List (List ℕ)) → IsDistinct bytes_eq (front ++ back) → IsDistinct bytes_eq back
distinct_back [] back apart = apart
distinct_back (first ∷ front) back apart = distinct_back front back (IsDistinct-tail bytes_eq first (front ++ back) apart)

-- what is said of all names holds of that of a function with external linkage
named_there : (P : List ℕ → Type 0) (functions : List CFun) (back : List (List ℕ)) (one : CFun) → AllByRecursion P (names_of_functions is_external functions ++ back) → Contains functions one
    → is_external one.linkage ≡ true → P one.name
named_there P [] back one all (k, within, e) is = absurd (omega (arith, within))
named_there P (first ∷ others) back one all there is = by (is_external first.linkage) refl all there (λ left behind. named_there P others back one left behind is)
  where
    by : (test : Bool) → is_external first.linkage ≡ test → AllByRecursion P ((if test then first.name ∷ names_of_functions is_external others else names_of_functions is_external others) ++ back) → Contains (first ∷ others) one
        → (AllByRecursion P (names_of_functions is_external others ++ back) → Contains others one → P one.name) → P one.name
    by true e all (zero, within, same) rest = subst (λ (fun : CFun). P fun.name) same all.0
    by true e all (suc k, within, same) rest = rest all.1 (k, omega (arith, within), same)
    by false e all (zero, within, same) rest = absurd (true≢false (sym is ∙ ap (λ (fun : CFun). is_external fun.linkage) (sym same) ∙ e))
    by false e all (suc k, within, same) rest = rest all (k, omega (arith, within), same)

-- the names of two functions that begin a program are the same
same_name : (first one : CFun) → is_main first ≡ true → is_main one ≡ true → bytes_eq first.name one.name ≡ true
same_name first one is other =
    let name = (bytes_eq-Decides first.name (codes "main")).0 (both_true (bytes_eq first.name (codes "main")) (is_external first.linkage) is).0 in
    let own = (bytes_eq-Decides one.name (codes "main")).0 (both_true (bytes_eq one.name (codes "main")) (is_external one.linkage) other).0 in
    (bytes_eq-Decides first.name one.name).1 (name ∙ sym own)

external_main : (one : CFun) → is_main one ≡ true → is_external one.linkage ≡ true
external_main one is = (both_true (bytes_eq one.name (codes "main")) (is_external one.linkage) is).1

-- the function with which a program begins is the one that is found
main_found : (functions : List CFun) (back : List (List ℕ)) (one : CFun) → IsDistinct bytes_eq (names_of_functions is_external functions ++ back) → Contains functions one → is_main one ≡ true
    → find is_main functions ≡ Some one
main_found [] back one apart (k, within, e) is = absurd (omega (arith, within))
main_found (first ∷ others) back one apart there is = by (is_main first) refl there (λ left behind. main_found others back one left behind is)
  where
    tail : (test : Bool) → IsDistinct bytes_eq ((if test then first.name ∷ names_of_functions is_external others else names_of_functions is_external others) ++ back)
        → IsDistinct bytes_eq (names_of_functions is_external others ++ back)
    tail true all = IsDistinct-tail bytes_eq first.name (names_of_functions is_external others ++ back) all
    tail false all = all

    apart_here : (test : Bool) → test ≡ true → IsDistinct bytes_eq ((if test then first.name ∷ names_of_functions is_external others else names_of_functions is_external others) ++ back)
        → AllByRecursion (λ name. bytes_eq first.name name ≡ false) (names_of_functions is_external others ++ back)
    apart_here true e all = IsDistinct-head bytes_eq first.name (names_of_functions is_external others ++ back) all
    apart_here false e all = cc (e)

    by : (test : Bool) → is_main first ≡ test → Contains (first ∷ others) one
        → (IsDistinct bytes_eq (names_of_functions is_external others ++ back) → Contains others one → find is_main others ≡ Some one) → (if test then Some first else find is_main others) ≡ Some one
    by true e (zero, within, same) rest = ap Some same
    by true e (suc k, within, same) rest =
        let behind : Contains others one = (k, omega (arith, within), same) in
        let no = named_there (λ name. bytes_eq first.name name ≡ false) others back one (apart_here (is_external first.linkage) (external_main first e) apart) behind (external_main one is) in
        absurd (true≢false (sym (same_name first one e is) ∙ no))
    by false e (zero, within, same) rest = absurd (true≢false (sym is ∙ ap is_main (sym same) ∙ e))
    by false e (suc k, within, same) rest = rest (tail (is_external first.linkage) apart) (k, omega (arith, within), same)

-- a function with which the program begins gives an `int`
main_gives : (program : CProgram) (one : CFun) (result : CTy) → IsLinked program → IsRunning program one result → is_main one ≡ true → form_of_type result ≡ basic Int
main_gives program one result linked running is =
    let objects = names_of_objects is_external program.objects in
    let functions = names_of_functions is_external program.functions in
    let outers = names_of_outers is_external program.externals in
    let apart = distinct_back objects (functions ++ outers) (subst (IsDistinct bytes_eq) (append_assoc objects functions outers) linked.names_differ) in
    let found = main_found program.functions outers one apart running.defined is in
    let typed = subst (λ found. IfSome found (λ (main : CFun). IsMainType (form_of_type main.type))) found linked.main_typed in
    (subst IsMainType running.type_is typed).0

zero_given : (program : CProgram) (type : CTy) → form_of_type type ≡ basic Int → IsScalarIn program (unqualified type) (Number (pos 0))
zero_given program (ty form is_const) e =
    subst (λ (own : CTyForm). IsScalarIn program (ty own false) (Number (pos 0))) (sym e) (record { kind = Whole 32 true; kind_is = refl; of_kind = omega arith; leads = tt })

-- the end of a function gives nothing, and that of `main` 0
pub end_is_returned : (program : CProgram) (one : CFun) (result : CTy) → IsLinked program → IsRunning program one result → IsReturned program (unqualified result) (value_at_end (is_main one))
end_is_returned program one result linked running = by (is_main one) refl
  where
    by : (test : Bool) → is_main one ≡ test → IsReturned program (unqualified result) (value_at_end test)
    by true is = inl (zero_given program result (main_gives program one result linked running is))
    by false is = inr tt
