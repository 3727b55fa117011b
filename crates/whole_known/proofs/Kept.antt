-- What is known of each kind of things once some are kept.
use Rattle.std.proofs.Common.{arith, ◌≡◌, ◌<◌, ◌≤◌, ℕ, zero, suc, ◌==◌, Bool, true, false, if◌then◌else◌, List, [], ◌∷◌, length, drop, get_or, ◌-◌, Option, Some, None, is_some, slice_get, find, refl, sym, ap, ◌∙◌, ◌⊎◌, inl, inr, map, option_map, OnOk, Result as Answer, Ok, Err}
use Rattle.std.proofs.Math.Seq.{drop-cons}
use Rattle.std.proofs.lemmas.Bool.{cases_lt}
use Rattle.std.proofs.lemmas.Bool.Decides.{nat_tests}
use Rattle.std.proofs.lemmas.Cmp.{nat_eq_equiv}
use Rattle.std.proofs.lemmas.Option.{slice_get_past}
use Rattle.std.specs.Option.{option_flatten}
use Rattle.cx_core.specs.BitFields.{has_bit_fields}
use Rattle.cx_core.specs.Trees.{CObject, CFun, COuter, CRecord}
use Rattle.cx_core.specs.Typing.{function_with, object_with, outer_with}
use Rattle.rs_items.specs.Known.{KnownThing, Knows, Names, same_named}
use Rattle.rs_items.specs.declared.known.Named.{Named}
use Rattle.rs_items.specs.declared.known.Named.TheVariants.{Object, Function, BareFunction, Record, Enum, Temporary, Result}
use Rattle.rs_tree.specs.declared.ty.RPath.{RPath}
use Rattle.whole_given.specs.Told.{first_of}
use Rattle.whole_known.specs.Entries.{record_entry}
use Rattle.whole_known.specs.Stages.{put, KeepsRest, KnowsMore, KnowsNothing, KnowsTypes, HasTypes, IsBase, enum_at, enum_with, enum_kind, enums_put, record_at, record_kind, records_put, numbers_put, objects_put, functions_put}
use Rattle.whole_names.specs.Keys.{a_record}
use Rattle.whole_names.specs.Kept.{NamedProgram, function_item, is_completed, module_of, name_in, no_locals, object_item, object_thing, path_if, record_path, record_thing, record_unit}

pub on_ok : {A : Type 0} {E : Type 0} {P Q : Type 0} (result : Answer A E) → (P → Q) → OnOk result P → OnOk result Q
on_ok (Ok one) f p = f p
on_ok (Err why) f p = tt

-- ---- by number

module _ (kind : ℕ → Named) (entry : ℕ → Option KnownThing) (same : (n m : ℕ) → same_named (kind n) (kind m) ≡ (n == m)) (known : Knows) where
  past_by : (count n : ℕ) (t : Bool) → (n == count) ≡ t → count < n → (before : Option KnownThing) → before ≡ known (kind n) → (if t then first_of (entry count) before else before) ≡ known (kind n)
  past_by count n true e past before is = absurd (let equal : n ≡ count = grind (arith, nat_tests, e) in omega (arith, equal, past))
  past_by count n false e past before is = is

  numbers_past : (count n : ℕ) → count ≤ n → numbers_put kind entry count known (kind n) ≡ known (kind n)
  numbers_past zero n past = refl
  numbers_past (suc count) n past =
      ap (λ (t : Bool). if t then first_of (entry count) (numbers_put kind entry count known (kind n)) else numbers_put kind entry count known (kind n)) (same n count)
      ∙ past_by count n (n == count) refl (omega (arith, past)) (numbers_put kind entry count known (kind n)) (numbers_past count n (omega (arith, past)))

  below_by : (count n : ℕ) (t : Bool) → (n == count) ≡ t → n < suc count → (before : Option KnownThing) → (count ≤ n → before ≡ known (kind n)) →
      (n < count → before ≡ first_of (entry n) (known (kind n))) → (if t then first_of (entry count) before else before) ≡ first_of (entry n) (known (kind n))
  below_by count n true e low before past below =
      let equal : n ≡ count = grind (arith, nat_tests, e) in
      ap (λ found. first_of (entry count) found) (past (omega (arith, equal))) ∙ ap (λ (m : ℕ). first_of (entry m) (known (kind n))) (sym equal)
  below_by count n false e low before past below = below (let apart : n ≡ count → ⊥ = λ f. grind (arith, nat_tests, e, f) in omega (arith, low, apart))

  numbers_below : (count n : ℕ) → n < count → numbers_put kind entry count known (kind n) ≡ first_of (entry n) (known (kind n))
  numbers_below zero n low = absurd (omega (arith, low))
  numbers_below (suc count) n low =
      ap (λ (t : Bool). if t then first_of (entry count) (numbers_put kind entry count known (kind n)) else numbers_put kind entry count known (kind n)) (same n count)
      ∙ below_by count n (n == count) refl low (numbers_put kind entry count known (kind n)) (numbers_past count n) (numbers_below count n)

  -- each number from the count on has no entry
  numbers_by : (count n : ℕ) → (count ≤ n → entry n ≡ None) → (n < count) ⊎ (count ≤ n) → numbers_put kind entry count known (kind n) ≡ first_of (entry n) (known (kind n))
  numbers_by count n none (inl low) = numbers_below count n low
  numbers_by count n none (inr far) = numbers_past count n far ∙ sym (ap (λ found. first_of found (known (kind n))) (none far))

  numbers_all : (count n : ℕ) → (count ≤ n → entry n ≡ None) → numbers_put kind entry count known (kind n) ≡ first_of (entry n) (known (kind n))
  numbers_all count n none = numbers_by count n none (cases_lt n count)

  -- things of other kinds are as they were
  numbers_apart : (count : ℕ) (one : Named) → ((m : ℕ) → same_named one (kind m) ≡ false) → numbers_put kind entry count known one ≡ known one
  numbers_apart zero one apart = refl
  numbers_apart (suc count) one apart =
      ap (λ (t : Bool). if t then first_of (entry count) (numbers_put kind entry count known one) else numbers_put kind entry count known one) (apart count)
      ∙ numbers_apart count one apart

-- ---- types

no_enum : (whole : NamedProgram) (n : ℕ) → length whole.program.types.enums ≤ n → enum_at whole n ≡ None
no_enum whole n far = ap (λ (found : Option Bool). enum_with n (slice_get whole.program.types.enum_units n) found) (slice_get_past whole.program.types.enums n far)

abbrev path_of : NamedProgram → ℕ → RPath
path_of whole n = record { home = module_of whole (record_unit whole n); name = name_in whole (record_unit whole n) (a_record n) }

no_record : (whole : NamedProgram) (n : ℕ) → length whole.program.types.records ≤ n → record_at whole n ≡ None
no_record whole n far =
    ap (λ (found : Option (Option CRecord)). record_thing whole n (path_if (is_some (option_flatten found)) (path_of whole n))) (slice_get_past whole.program.types.records n far)

pub record_there : (whole : NamedProgram) (n : ℕ) → is_completed whole n ≡ true → record_at whole n ≡ Some (record_entry whole n (record_unit whole n))
record_there whole n e = ap (λ t. record_thing whole n (path_if t (path_of whole n))) e

pub record_not : (whole : NamedProgram) (n : ℕ) → is_completed whole n ≡ false → record_at whole n ≡ None
record_not whole n e = ap (λ t. record_thing whole n (path_if t (path_of whole n))) e

pub both_rest : {a b c : Names} → KeepsRest a b → KeepsRest b c → KeepsRest a c
both_rest one other = record {
  same_taken = other.same_taken ∙ one.same_taken;
  same_fields = other.same_fields ∙ one.same_fields;
  same_bits = other.same_bits ∙ one.same_bits;
}

-- nothing is put where there is no entry
pub put_nothing : (named : Named) (known : Knows) (one : Named) → known one ≡ put named None known one
put_nothing named known one = by_test (same_named one named)
  where
    by_test : (t : Bool) → known one ≡ (if t then first_of None (known one) else known one)
    by_test true = refl
    by_test false = refl

module _ (whole : NamedProgram) (before : Names) where
  -- the types are known once they are kept where nothing was
  pub types_known : (middle after : Names) → length whole.program.types.enums ≤ length whole.program.types.enum_units → KnowsNothing before → KnowsMore before middle (enums_put whole (length whole.program.types.enums) before.known) →
      KnowsMore middle after (records_put whole (length whole.program.types.records) middle.known) → KnowsTypes whole before after
  types_known middle after units nothing enums records = record {
    units_there = units;
    types = record {
      has_records = λ n. records.known_is (Record n) ∙ numbers_all record_kind (record_at whole) (λ n m. refl) middle.known (length whole.program.types.records) n (no_record whole n)
          ∙ ap (λ found. first_of (record_at whole n) found) (apart (Record n) (λ m. refl)) ∙ nothing_behind (record_at whole n);
      has_enums = λ n. records.known_is (Enum n) ∙ numbers_apart record_kind (record_at whole) (λ n m. refl) middle.known (length whole.program.types.records) (Enum n) (λ m. refl)
          ∙ enums.known_is (Enum n) ∙ numbers_all enum_kind (enum_at whole) (λ n m. refl) before.known (length whole.program.types.enums) n (no_enum whole n)
          ∙ ap (λ found. first_of (enum_at whole n) found) (nothing (Enum n)) ∙ nothing_behind (enum_at whole n);
    };
    no_objects = λ n. apart_both (Object n) (λ m. refl) (λ m. refl);
    no_functions = λ n. apart_both (Function n) (λ m. refl) (λ m. refl);
    no_bares = λ n. apart_both (BareFunction n) (λ m. refl) (λ m. refl);
    no_temporaries = λ n. apart_both (Temporary n) (λ m. refl) (λ m. refl);
    rest = both_rest enums.rest records.rest;
  }
    where
      nothing_behind : {A : Type 0} (found : Option A) → first_of found None ≡ found
      nothing_behind None = refl
      nothing_behind (Some one) = refl

      apart : (one : Named) → ((m : ℕ) → same_named one (enum_kind m) ≡ false) → middle.known one ≡ None
      apart one far = enums.known_is one ∙ numbers_apart enum_kind (enum_at whole) (λ n m. refl) before.known (length whole.program.types.enums) one far ∙ nothing one

      apart_both : (one : Named) → ((m : ℕ) → same_named one (enum_kind m) ≡ false) → ((m : ℕ) → same_named one (record_kind m) ≡ false) → after.known one ≡ None
      apart_both one far other =
          records.known_is one ∙ numbers_apart record_kind (record_at whole) (λ n m. refl) middle.known (length whole.program.types.records) one other ∙ apart one far

-- ---- objects and functions

object_head : (whole : NamedProgram) (one : CObject) (others : List CObject) (n : ℕ) (old known : Option KnownThing) (t : Bool) →
    known ≡ first_of (object_thing whole no_locals (object_with n others)) old →
    (if t then first_of (Some (object_item whole one)) known else known) ≡ first_of (object_thing whole no_locals (if t then Some one else object_with n others)) old
object_head whole one others n old known true e = refl
object_head whole one others n old known false e = e

objects_found : (whole : NamedProgram) (objects : List CObject) (known : Knows) (n : ℕ) →
    objects_put whole objects known (Object n) ≡ first_of (object_thing whole no_locals (object_with n objects)) (known (Object n))
objects_found whole [] known n = refl
objects_found whole (one ∷ others) known n =
    ap (λ (t : Bool). if t then first_of (Some (object_item whole one)) (objects_put whole others known (Object n)) else objects_put whole others known (Object n)) (nat_eq_equiv.symm n one.object)
    ∙ object_head whole one others n (known (Object n)) (objects_put whole others known (Object n)) (one.object == n) (objects_found whole others known n)

pub objects_apart : (whole : NamedProgram) (objects : List CObject) (known : Knows) (one : Named) → ((m : ℕ) → same_named one (Object m) ≡ false) → objects_put whole objects known one ≡ known one
objects_apart whole [] known one far = refl
objects_apart whole (first ∷ others) known one far =
    ap (λ (t : Bool). if t then first_of (Some (object_item whole first)) (objects_put whole others known one) else objects_put whole others known one) (far first.object)
    ∙ objects_apart whole others known one far

function_head : (whole : NamedProgram) (one : CFun) (others : List CFun) (n : ℕ) (old known : Option KnownThing) (t : Bool) →
    known ≡ first_of (option_map (function_item whole) (function_with n others)) old →
    (if t then first_of (Some (function_item whole one)) known else known) ≡ first_of (option_map (function_item whole) (if t then Some one else function_with n others)) old
function_head whole one others n old known true e = refl
function_head whole one others n old known false e = e

functions_found : (whole : NamedProgram) (functions : List CFun) (known : Knows) (n : ℕ) →
    functions_put whole functions known (Function n) ≡ first_of (option_map (function_item whole) (function_with n functions)) (known (Function n))
functions_found whole [] known n = refl
functions_found whole (one ∷ others) known n =
    ap (λ (t : Bool). if t then first_of (Some (function_item whole one)) (functions_put whole others known (Function n)) else functions_put whole others known (Function n)) (nat_eq_equiv.symm n one.function)
    ∙ function_head whole one others n (known (Function n)) (functions_put whole others known (Function n)) (one.function == n) (functions_found whole others known n)

pub functions_apart : (whole : NamedProgram) (functions : List CFun) (known : Knows) (one : Named) → ((m : ℕ) → same_named one (Function m) ≡ false) → functions_put whole functions known one ≡ known one
functions_apart whole [] known one far = refl
functions_apart whole (first ∷ others) known one far =
    ap (λ (t : Bool). if t then first_of (Some (function_item whole first)) (functions_put whole others known one) else functions_put whole others known one) (far first.function)
    ∙ functions_apart whole others known one far

-- ---- all of them

pub base_is : (whole : NamedProgram) (before types objects functions : Names) → before.has_bits ≡ has_bit_fields whole.program.types → KnowsTypes whole before types →
    KnowsMore types objects (objects_put whole whole.program.objects types.known) → KnowsMore objects functions (functions_put whole whole.program.functions objects.known) → IsBase whole functions
base_is whole before types objects functions bits known first second = record {
  types = record {
    has_records = λ n. same (Record n) (λ m. refl) (λ m. refl) ∙ known.types.has_records n;
    has_enums = λ n. same (Enum n) (λ m. refl) (λ m. refl) ∙ known.types.has_enums n;
  };
  objects = λ n. second.known_is (Object n) ∙ functions_apart whole whole.program.functions objects.known (Object n) (λ m. refl) ∙ first.known_is (Object n)
      ∙ objects_found whole whole.program.objects types.known n ∙ ap (λ found. first_of (object_thing whole no_locals (object_with n whole.program.objects)) found) (known.no_objects n)
      ∙ nothing_behind (object_thing whole no_locals (object_with n whole.program.objects));
  functions = λ n one there. function n ∙ ap (λ found. option_map (function_item whole) found) there;
  nothing_else = λ n none outer. function n ∙ ap (λ found. option_map (function_item whole) found) none;
  no_bares = λ n. same (BareFunction n) (λ m. refl) (λ m. refl) ∙ known.no_bares n;
  no_temporaries = λ n. same (Temporary n) (λ m. refl) (λ m. refl) ∙ known.no_temporaries n;
  units_there = known.units_there;
  has_bits_is = second.rest.same_bits ∙ first.rest.same_bits ∙ known.rest.same_bits ∙ bits;
}
  where
    nothing_behind : {A : Type 0} (found : Option A) → first_of found None ≡ found
    nothing_behind None = refl
    nothing_behind (Some one) = refl

    same : (one : Named) → ((m : ℕ) → same_named one (Object m) ≡ false) → ((m : ℕ) → same_named one (Function m) ≡ false) → functions.known one ≡ types.known one
    same one far other =
        second.known_is one ∙ functions_apart whole whole.program.functions objects.known one other ∙ first.known_is one ∙ objects_apart whole whole.program.objects types.known one far

    function : (n : ℕ) → functions.known (Function n) ≡ option_map (function_item whole) (function_with n whole.program.functions)
    function n =
        second.known_is (Function n) ∙ functions_found whole whole.program.functions objects.known n
        ∙ ap (λ found. first_of (option_map (function_item whole) (function_with n whole.program.functions)) found)
        (first.known_is (Function n) ∙ objects_apart whole whole.program.objects types.known (Function n) (λ m. refl) ∙ known.no_functions n)
        ∙ nothing_behind (option_map (function_item whole) (function_with n whole.program.functions))

-- ---- one more

put_alike : (named : Named) (entry : Option KnownThing) (known other : Knows) (one : Named) → known one ≡ other one → put named entry known one ≡ put named entry other one
put_alike named entry known other one e = ap (λ (found : Option KnownThing). if same_named one named then first_of entry found else found) e

pub more_put : (before old new : Names) (known : Knows) (named : Named) (entry : Option KnownThing) → KnowsMore before old known → KnowsMore old new (put named entry old.known) →
    KnowsMore before new (put named entry known)
more_put before old new known named entry first second = record {
  known_is = λ one. second.known_is one ∙ put_alike named entry old.known known one (first.known_is one);
  rest = both_rest first.rest second.rest;
}

pub types_stay : (whole : NamedProgram) (known other : Knows) → ((n : ℕ) → other (Record n) ≡ known (Record n)) → ((n : ℕ) → other (Enum n) ≡ known (Enum n)) → HasTypes whole known → HasTypes whole other
types_stay whole known other records enums has = record {
  has_records = λ n. records n ∙ has.has_records n;
  has_enums = λ n. enums n ∙ has.has_enums n;
}

pub step_back : {A : Type 0} (list : List A) (left : ℕ) (one : A) → 0 < left → left ≤ length list → one ≡ get_or list (left - 1) one → drop (left - 1) list ≡ one ∷ drop left list
step_back list left one some within at =
    let low : left - 1 < length list = omega (arith, some, within) in
    let next : suc (left - 1) ≡ left = omega (arith, some) in
    drop-cons list (left - 1) one low ∙ ap (λ first. first ∷ drop (suc (left - 1)) list) (sym at) ∙ ap (λ (n : ℕ). one ∷ drop n list) next
