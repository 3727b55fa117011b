-- C's operators on pointers, and Rust's operators and methods.
use Rattle.std.proofs.Common.{◌≡◌, Bool, true, false, not, ℤ, pos, ◌*ℤ◌, int_lt, int_le, Option, Some, Result, Ok, Err, refl, sym, ap, ◌∙◌, subst}
use Rattle.cr_base.specs.declared.layout.Laid.{Laid}
use Rattle.cr_base.specs.declared.rule.URule.{URule}
use Rattle.cr_base.specs.declared.rule.URule.TheVariants.{U11, U12}
use Rattle.cx_core.specs.declared.expr.Op2.{Op2}
use Rattle.cx_core.specs.declared.expr.Op2.TheVariants.{Less, Greater, LessOrEqual, GreaterOrEqual, Equal, NotEqual}
use Rattle.cx_core.specs.Trees.{CTy, form_of_type}
use Rattle.cx_mean.specs.Operands.{needed, by_pointers}
use Rattle.cx_mean.specs.Settings.{CSetting, element_extent}
use Rattle.cx_mean.specs.Values.{is_not_zero, is_true, bytes_of_elements, moved_by, ordered, differ_by, two_pointers}
use Rattle.cx_numbers.specs.Numbers.{number_of_truth}
use Rattle.mem_bytes.specs.declared.pointer.PointerFault.{PointerFault}
use Rattle.mem_bytes.specs.declared.value.Value.{Value}
use Rattle.mem_bytes.specs.declared.value.Value.TheVariants.{Whole, Null, Object, Code}
use Rattle.mem_bytes.specs.Access.{and_then}
use Rattle.mem_bytes.specs.Memory.{Blocks}
use Rattle.mem_bytes.specs.Pointers.{usable, moved, distance, difference, equality, are_equal}
use Rattle.mem_bytes.proofs.Reached.{and_then_ok}
use Rattle.rs_mean.specs.declared.cause.Cause.{Cause}
use Rattle.rs_mean.specs.Values.{Typed, typed, truth, ordered as ordered_by, on_pointers, on_functions, is_null_value, pointing, offset_by, counted, apart_by}
use Rattle.rs_mean.specs.World.{or_cause, cause_of_pointer}
use Rattle.rs_text.specs.declared.integer.IntegerTy.TheVariants.{Isize}
use Rattle.rs_text.specs.declared.operator.Operator.{Operator}
use Rattle.rs_text.specs.declared.operator.Operator.TheVariants.{Less as IsLess, LessEqual as IsLessOrEqual, Greater as IsGreater, GreaterEqual as IsGreaterOrEqual, Equal as IsEqual, NotEqual as IsNotEqual}
use Rattle.rs_text.specs.Tree.{Ty, Integer, Boolean, Pointer}
use Rattle.lift_stands.specs.Stands.{Images, ValueBelow, StandsFor}
use Rattle.lift_stands.proofs.Forms.{null_below, object_below, function_below}
use Rattle.lift_stands_pointers.specs.LawsOperators.{comparison_of, IsAddress, IsNoObject, PointsToSize, PointsTypedBelow}
use Rattle.lift_stands_pointers.proofs.Pointers.{moved_stands, distance_stands, difference_stands, equality_stands}

pointers_ok : {A : Type 0} (rule : URule) (result : Result A PointerFault) (value : A) → by_pointers rule result ≡ Ok value → result ≡ Ok value
pointers_ok rule (Ok one) value e = cc
pointers_ok rule (Err fault) value e = cc

needed_is : (found : Option Laid) (one other : Laid) → found ≡ Some one → needed found ≡ Ok other → one ≡ other
needed_is found one other e f = cc

module _ (images : Images) (memory others : Blocks) (setting : CSetting) (type : CTy) (stands : StandsFor images memory others) where
  -- ---- moving

  pub moves : (value other new : Value) (count : ℤ) (target : Ty) (laid : Laid) → ValueBelow images value other → PointsToSize setting type laid → moved_by setting memory type value count ≡ Ok new → PointsTypedBelow images new (Pointer target) (offset_by others target (Some laid) other (Whole count))
  moves value other new count target laid below points e =
      let outer = and_then_ok (bytes_of_elements setting type count) (λ bytes. by_pointers U11 (moved memory value bytes)) new e in
      let inner = and_then_ok (needed (element_extent setting (form_of_type type))) (λ one. Ok (count *ℤ pos one.size)) outer.0 outer.1 in
      let same : points.extent ≡ inner.0 = needed_is (element_extent setting (form_of_type type)) points.extent inner.0 points.found inner.1 in
      let bytes : count *ℤ pos inner.0.size ≡ outer.0 = cc (inner.2) in
      let all : count *ℤ pos laid.size ≡ outer.0 = ap (λ n. count *ℤ pos n) (sym points.same_size) ∙ ap (λ l. count *ℤ pos l.size) same ∙ bytes in
      let there = moved_stands images memory others value other new outer.0 stands below (pointers_ok U11 (moved memory value outer.0) new outer.2) in
      record {
        other = there.other;
        is = ap (λ n. pointing target (or_cause cause_of_pointer (moved others other n))) all ∙ ap (λ r. pointing target (or_cause cause_of_pointer r)) there.is;
        below = there.below;
      }

  pub differs : (first second one two : Value) (count : ℤ) (laid : Laid) → ValueBelow images first one → ValueBelow images second two → PointsToSize setting type laid → differ_by setting memory type first second ≡ Ok count → apart_by others (Some laid) one two ≡ Ok (typed (Integer Isize) (Whole count))
  differs first second one two count laid below behind points e =
      let outer = and_then_ok (needed (element_extent setting (form_of_type type))) (λ one. by_pointers U11 (difference memory one.size first second)) count e in
      let same : points.extent ≡ outer.0 = needed_is (element_extent setting (form_of_type type)) points.extent outer.0 points.found outer.1 in
      let size : laid.size ≡ outer.0.size = sym points.same_size ∙ ap (λ l. l.size) same in
      let there = difference_stands images memory others stands outer.0.size first second one two count below behind (pointers_ok U11 (difference memory outer.0.size first second) count outer.2) in
      ap (λ n. counted (or_cause cause_of_pointer (difference others n one two))) size ∙ ap (λ r. counted (or_cause cause_of_pointer r)) there

  -- ---- comparisons

  abbrev told : Bool → Result Typed Cause
  told test = Ok (truth test)

  truths : (test : Bool) (number : ℤ) → number_of_truth test ≡ number → told test ≡ Ok (typed Boolean (Whole number))
  truths true number e = ap (λ n. Ok (typed Boolean (Whole n))) e
  truths false number e = ap (λ n. Ok (typed Boolean (Whole n))) e

  ordered_stands : (holds : ℤ → Bool) (first second one two : Value) (number : ℤ) (step : Result ℤ Cause → Result Typed Cause) → ValueBelow images first one → ValueBelow images second two → ((bytes : ℤ) → step (Ok bytes) ≡ Ok (truth (holds bytes))) → ordered holds memory first second ≡ Ok number → step (or_cause cause_of_pointer (distance others one two)) ≡ Ok (typed Boolean (Whole number))
  ordered_stands holds first second one two number step below behind alike e =
      let parts = and_then_ok (by_pointers U12 (distance memory first second)) (λ bytes. Ok (number_of_truth (holds bytes))) number e in
      let is : number_of_truth (holds parts.0) ≡ number = cc (parts.2) in
      let there = distance_stands images memory others stands first second one two parts.0 below behind (pointers_ok U12 (distance memory first second) parts.0 parts.1) in
      ap (λ r. step (or_cause cause_of_pointer r)) there ∙ alike parts.0 ∙ truths (holds parts.0) number is

  equal_stands : (turn : Bool → Bool) (first second one two : Value) (number : ℤ) → ValueBelow images first one → ValueBelow images second two → and_then (by_pointers U12 (equality memory first second)) (λ same. Ok (number_of_truth (turn same))) ≡ Ok number → told (turn (are_equal one two)) ≡ Ok (typed Boolean (Whole number))
  equal_stands turn first second one two number below behind e =
      let parts = and_then_ok (by_pointers U12 (equality memory first second)) (λ same. Ok (number_of_truth (turn same))) number e in
      let is : number_of_truth (turn parts.0) ≡ number = cc (parts.2) in
      let there = equality_stands images memory others stands first second one two parts.0 below behind (pointers_ok U12 (equality memory first second) parts.0 parts.1) in
      ap (λ same. told (turn same)) there ∙ truths (turn parts.0) number is

  pub compares : (op : Op2) (operator : Operator) (first second one two : Value) (number : ℤ) → ValueBelow images first one → ValueBelow images second two → comparison_of op ≡ Some operator → two_pointers setting op memory type first second ≡ Ok number → on_pointers others operator one two ≡ Ok (typed Boolean (Whole number))
  compares Less operator first second one two number below behind is e =
      let same : IsLess ≡ operator = cc in
      subst (λ o. on_pointers others o one two ≡ Ok (typed Boolean (Whole number))) same (ordered_stands (λ bytes. int_lt bytes (pos 0)) first second one two number (ordered_by IsLess) below behind (λ bytes. refl) e)
  compares Greater operator first second one two number below behind is e =
      let same : IsGreater ≡ operator = cc in
      subst (λ o. on_pointers others o one two ≡ Ok (typed Boolean (Whole number))) same (ordered_stands (λ bytes. int_lt (pos 0) bytes) first second one two number (ordered_by IsGreater) below behind (λ bytes. refl) e)
  compares LessOrEqual operator first second one two number below behind is e =
      let same : IsLessOrEqual ≡ operator = cc in
      subst (λ o. on_pointers others o one two ≡ Ok (typed Boolean (Whole number))) same (ordered_stands (λ bytes. int_le bytes (pos 0)) first second one two number (ordered_by IsLessOrEqual) below behind (λ bytes. refl) e)
  compares GreaterOrEqual operator first second one two number below behind is e =
      let same : IsGreaterOrEqual ≡ operator = cc in
      subst (λ o. on_pointers others o one two ≡ Ok (typed Boolean (Whole number))) same (ordered_stands (λ bytes. int_le (pos 0) bytes) first second one two number (ordered_by IsGreaterOrEqual) below behind (λ bytes. refl) e)
  compares Equal operator first second one two number below behind is e =
      let same : IsEqual ≡ operator = cc in
      subst (λ o. on_pointers others o one two ≡ Ok (typed Boolean (Whole number))) same (equal_stands (λ is_same. is_same) first second one two number below behind e)
  compares NotEqual operator first second one two number below behind is e =
      let same : IsNotEqual ≡ operator = cc in
      subst (λ o. on_pointers others o one two ≡ Ok (typed Boolean (Whole number))) same (equal_stands not first second one two number below behind e)
  compares op operator first second one two number below behind is e = cc

  -- no order is told of what isn't to an object
  no_order : (first second : Value) (bytes : ℤ) → IsNoObject first → IsNoObject second → distance memory first second ≡ Ok bytes → ⊥
  no_order (Object at) second bytes none other e = absurd none
  no_order Null (Object at) bytes none other e = absurd other
  no_order Null Null bytes none other e = cc
  no_order first second bytes none other e = cc

  unordered : (holds : ℤ → Bool) (first second : Value) (number : ℤ) → IsNoObject first → IsNoObject second → ordered holds memory first second ≡ Ok number → ⊥
  unordered holds first second number none other e =
      let parts = and_then_ok (by_pointers U12 (distance memory first second)) (λ bytes. Ok (number_of_truth (holds bytes))) number e in
      no_order first second parts.0 none other (pointers_ok U12 (distance memory first second) parts.0 parts.1)

  pub compares_functions : (op : Op2) (operator : Operator) (first second one two : Value) (number : ℤ) → ValueBelow images first one → ValueBelow images second two → IsNoObject first → IsNoObject second → comparison_of op ≡ Some operator → two_pointers setting op memory type first second ≡ Ok number → on_functions operator one two ≡ Ok (typed Boolean (Whole number))
  compares_functions Equal operator first second one two number below behind none other is e =
      let same : IsEqual ≡ operator = cc in
      subst (λ o. on_functions o one two ≡ Ok (typed Boolean (Whole number))) same (equal_stands (λ is_same. is_same) first second one two number below behind e)
  compares_functions NotEqual operator first second one two number below behind none other is e =
      let same : IsNotEqual ≡ operator = cc in
      subst (λ o. on_functions o one two ≡ Ok (typed Boolean (Whole number))) same (equal_stands not first second one two number below behind e)
  compares_functions Less operator first second one two number below behind none other is e = absurd (unordered (λ bytes. int_lt bytes (pos 0)) first second number none other e)
  compares_functions Greater operator first second one two number below behind none other is e = absurd (unordered (λ bytes. int_lt (pos 0) bytes) first second number none other e)
  compares_functions LessOrEqual operator first second one two number below behind none other is e = absurd (unordered (λ bytes. int_le bytes (pos 0)) first second number none other e)
  compares_functions GreaterOrEqual operator first second one two number below behind none other is e = absurd (unordered (λ bytes. int_le (pos 0) bytes) first second number none other e)
  compares_functions op operator first second one two number below behind none other is e = cc

-- ---- conditions

pub tests : (images : Images) (memory others : Blocks) (value other : Value) (test : Bool) → StandsFor images memory others → ValueBelow images value other → IsAddress value → is_true memory value ≡ Ok test → is_null_value other ≡ not test
tests images memory others (Whole number) other test stands below is e = absurd is
tests images memory others Null other test stands below is e =
    let same : false ≡ test = cc in
    ap is_null_value (null_below images other below) ∙ ap not same
tests images memory others (Code number) other test stands below is e =
    let to = function_below images number other below in
    let same : true ≡ test = cc in
    ap is_null_value to.1 ∙ ap not same
tests images memory others (Object at) other test stands below is e =
    let to = object_below images at other below in
    let parts = and_then_ok (by_pointers U12 (usable memory (Object at))) (λ one. Ok (is_not_zero one)) test e in
    let usable_one = pointers_ok U12 (usable memory (Object at)) parts.0 parts.1 in
    let inner = and_then_ok _ (λ _. Ok (Object at)) parts.0 usable_one in
    let one : Object at ≡ parts.0 = cc (inner.2) in
    let tested : is_not_zero parts.0 ≡ test = cc (parts.2) in
    ap is_null_value to.1 ∙ ap not (ap is_not_zero one ∙ tested)
