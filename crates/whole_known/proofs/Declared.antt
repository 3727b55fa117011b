-- What a module declares, and which names are taken in it.
use Rattle.std.proofs.Common.{arith, ◌≡◌, ◌<◌, ◌≤◌, ◌+◌, ◌^◌, ℕ, zero, suc, ◌==◌, ◌||◌, Bool, true, false, if◌then◌else◌, List, [], ◌∷◌, ◌++◌, append_assoc, length, drop, get_or, Option, Some, None, is_some, Bor, find, slice_get, option_map, refl, sym, ap, ◌∙◌, subst}
use Rattle.std.proofs.Math.Seq.{drop-cons}
use Rattle.std.proofs.lemmas.Bool.{cases_lt}
use Rattle.std.proofs.lemmas.Bool.Decides.{nat_tests}
use Rattle.std.proofs.lemmas.Cmp.{nat_eq_equiv}
use Rattle.std.proofs.lemmas.List.{append-nil}
use Rattle.std.proofs.lemmas.Option.{slice_get_within, slice_get-get_or}
use Rattle.cx_core.specs.BitFields.{has_bit_fields}
use Rattle.cx_core.specs.Trees.{CObject, CFun, COuter, CProgram}
use Rattle.cx_core.specs.Typing.{function_with, object_with, outer_with}
use Rattle.cx_core.specs.Views.{view_function}
use Rattle.cx_core.specs.declared.program.Fun.{Fun}
use Rattle.rs_items.specs.Known.{Begins, KnownThing, Knows, Names, same_named}
use Rattle.rs_items.specs.declared.known.Named.{Named}
use Rattle.rs_items.specs.declared.known.Named.TheVariants.{Object, Function, BareFunction, Record, Enum, Temporary, Result}
use Rattle.rs_items_sets.specs.Sets.{TakenNames}
use Rattle.rs_items_sets.specs.declared.scope.NameScope.TheVariants.{Module}
use Rattle.whole_given.proofs.OwnNames.{given_own}
use Rattle.whole_given.specs.Told.{first_of, taken_more}
use Rattle.whole_known.proofs.Kept.{both_rest}
use Rattle.whole_known.specs.Entries.{enum_entry}
use Rattle.whole_known.specs.Modules.{KnowsAll, KnowsModule, IsModule, TakesNames, is_result, item_names, names_taken, outer_made, some_bare}
use Rattle.whole_known.specs.Stages.{put, KeepsRest, KnowsMore, HasTypes, IsBase, bare_at, bare_put, bares_put, enum_at, enum_with, outer_where, outers_put}
use Rattle.whole_names.specs.Keys.{NameKey, a_function, an_object, a_record, a_calloc, a_bare_function, module_keys, same_key}
use Rattle.whole_names.specs.Kept.{NamedProgram, bare_item, bare_thing, calloc_item, enum_thing, function_item, function_thing, is_key_among, is_replaced, known_thing, no_locals, outer_item, outer_thing, unit_or}
use Rattle.whole_names.specs.ModuleNames.{GivenName, given_from, names_only, own_names}

-- ---- names that are taken

pub takes_more : (a b c : Names) (one other : List (List ℕ)) → TakesNames a b one → TakesNames b c other → TakesNames a c other
takes_more a b c one other first second = record {
  taken_are = second.taken_are ∙ ap (λ (taken : TakenNames). record taken { module_names = other }) first.taken_are;
  same_known = second.same_known ∙ first.same_known;
  same_fields = second.same_fields ∙ first.same_fields;
  same_bits = second.same_bits ∙ first.same_bits;
}

names_listed : (program : CProgram) (taken : List (List ℕ)) (keys : List NameKey) → names_taken program taken keys ≡ taken ++ names_only (given_from program taken keys)
names_listed program taken [] = sym (append-nil taken)
names_listed program taken (key ∷ keys) =
    names_listed program (taken_more program taken key) keys ∙ append_assoc taken _ (names_only (given_from program (taken_more program taken key) keys))

pub names_are : (program : CProgram) (unit : ℕ) (taken : List (List ℕ)) (keys : List NameKey) → taken ≡ [] → keys ≡ module_keys program unit → length keys + 5 < 2 ^ 64 →
    names_taken program taken keys ≡ item_names program unit
names_are program unit taken keys empty same few =
    ap (λ (list : List (List ℕ)). names_taken program list keys) empty ∙ names_listed program [] keys
    ∙ ap (λ (given : List GivenName). names_only given) (sym (given_own program [] keys (omega (arith, few))))
    ∙ ap (λ (list : List NameKey). names_only (given_from program own_names list)) same

-- ---- one external function

pub none_defined : (found : Option (Bor Fun)) (fun : Option CFun) → option_map (λ one. view_function one.now) found ≡ fun → is_some found ≡ false → is_some fun ≡ false
none_defined None fun e none = ap is_some (sym e)
none_defined (Some one) fun e none = cc

found_head : (first : COuter) (others : List COuter) (n : ℕ) (one : COuter) → (outer_with n others ≡ Some one → one.function ≡ n) → (t : Bool) → (first.function == n) ≡ t →
    (if t then Some first else outer_with n others) ≡ Some one → one.function ≡ n
found_head first others n one later true is found =
    let same : first ≡ one = cc in
    let number : first.function ≡ n = grind (arith, nat_tests, is) in
    ap (λ (o : COuter). o.function) (sym same) ∙ number
found_head first others n one later false is found = later found

pub found_number : (externals : List COuter) (n : ℕ) (one : COuter) → outer_with n externals ≡ Some one → one.function ≡ n
found_number [] n one e = cc
found_number (first ∷ others) n one e = found_head first others n one (found_number others n one) (first.function == n) refl e

abbrev chosen : NamedProgram → (unit : ℕ) → COuter → Bool → KnownThing
chosen whole unit one t = if t then calloc_item whole unit one else outer_item whole unit one

chosen_named : (whole : NamedProgram) (unit : ℕ) (one : COuter) (t : Bool) → (chosen whole unit one t).named ≡ Function one.function
chosen_named whole unit one true = refl
chosen_named whole unit one false = refl

pub outer_named : (whole : NamedProgram) (unit : ℕ) (one : COuter) → (outer_made whole unit one).named ≡ Function one.function
outer_named whole unit one = chosen_named whole unit one (is_replaced whole one)

pub outer_there : (whole : NamedProgram) (unit : ℕ) (one : COuter) → is_some (function_with one.function whole.program.functions) ≡ false → outer_where whole unit one ≡ Some (outer_made whole unit one)
outer_there whole unit one e = ap (λ (t : Bool). if t then None else outer_thing whole unit (Some one)) e

-- ---- external functions

abbrev function_outer : NamedProgram → (unit n : ℕ) → List COuter → Option KnownThing
function_outer whole unit n list = if is_some (function_with n whole.program.functions) then None else outer_thing whole unit (outer_with n list)

outer_head : (whole : NamedProgram) (unit n : ℕ) (one : COuter) (others : List COuter) (old known : Option KnownThing) (t : Bool) → (one.function == n) ≡ t →
    known ≡ first_of (function_outer whole unit n others) old →
    (if t then first_of (outer_where whole unit one) known else known)
    ≡ first_of (if is_some (function_with n whole.program.functions) then None else outer_thing whole unit (if t then Some one else outer_with n others)) old
outer_head whole unit n one others old known true is e =
    let same : one.function ≡ n = grind (arith, nat_tests, is) in
    ap (λ (m : ℕ). first_of (if is_some (function_with m whole.program.functions) then None else outer_thing whole unit (Some one)) known) same
    ∙ by_defined (is_some (function_with n whole.program.functions)) e
  where
    by_defined : (s : Bool) → known ≡ first_of (if s then None else outer_thing whole unit (outer_with n others)) old →
        first_of (if s then None else outer_thing whole unit (Some one)) known ≡ first_of (if s then None else outer_thing whole unit (Some one)) old
    by_defined true f = f
    by_defined false f = refl
outer_head whole unit n one others old known false is e = e

outers_found : (whole : NamedProgram) (unit : ℕ) (list : List COuter) (known : Knows) (n : ℕ) →
    outers_put whole unit list known (Function n) ≡ first_of (function_outer whole unit n list) (known (Function n))
outers_found whole unit [] known n = by_defined (is_some (function_with n whole.program.functions))
  where
    by_defined : (s : Bool) → known (Function n) ≡ first_of (if s then None else outer_thing whole unit None) (known (Function n))
    by_defined true = refl
    by_defined false = refl
outers_found whole unit (one ∷ others) known n =
    ap (λ (t : Bool). if t then first_of (outer_where whole unit one) (outers_put whole unit others known (Function n)) else outers_put whole unit others known (Function n)) (nat_eq_equiv.symm n one.function)
    ∙ outer_head whole unit n one others (known (Function n)) (outers_put whole unit others known (Function n)) (one.function == n) refl (outers_found whole unit others known n)

outers_apart : (whole : NamedProgram) (unit : ℕ) (list : List COuter) (known : Knows) (one : Named) → ((m : ℕ) → same_named one (Function m) ≡ false) → outers_put whole unit list known one ≡ known one
outers_apart whole unit [] known one far = refl
outers_apart whole unit (first ∷ others) known one far =
    ap (λ (t : Bool). if t then first_of (outer_where whole unit first) (outers_put whole unit others known one) else outers_put whole unit others known one) (far first.function)
    ∙ outers_apart whole unit others known one far

-- ---- external functions without parameters

bare_alike : (whole : NamedProgram) (unit : ℕ) (key : NameKey) (known other : Knows) (one : Named) → known one ≡ other one → bare_put whole unit key known one ≡ bare_put whole unit key other one
bare_alike whole unit (a_function number) known other one e = e
bare_alike whole unit (an_object number) known other one e = e
bare_alike whole unit (a_record number) known other one e = e
bare_alike whole unit a_calloc known other one e = e
bare_alike whole unit (a_bare_function number) known other one e =
    ap (λ (found : Option KnownThing). if same_named one (BareFunction number) then first_of (bare_at whole unit number) found else found) e

pub bares_alike : (whole : NamedProgram) (unit : ℕ) (keys : List NameKey) (known other : Knows) (one : Named) → known one ≡ other one → bares_put whole unit keys known one ≡ bares_put whole unit keys other one
bares_alike whole unit [] known other one e = e
bares_alike whole unit (key ∷ keys) known other one e =
    bares_alike whole unit keys (bare_put whole unit key known) (bare_put whole unit key other) one (bare_alike whole unit key known other one e)

bare_apart : (whole : NamedProgram) (unit : ℕ) (key : NameKey) (known : Knows) (one : Named) → ((m : ℕ) → same_named one (BareFunction m) ≡ false) → bare_put whole unit key known one ≡ known one
bare_apart whole unit (a_function number) known one far = refl
bare_apart whole unit (an_object number) known one far = refl
bare_apart whole unit (a_record number) known one far = refl
bare_apart whole unit a_calloc known one far = refl
bare_apart whole unit (a_bare_function number) known one far = ap (λ (t : Bool). if t then first_of (bare_at whole unit number) (known one) else known one) (far number)

pub bare_types : (whole : NamedProgram) (unit : ℕ) (key : NameKey) (known : Knows) → HasTypes whole known → HasTypes whole (bare_put whole unit key known)
bare_types whole unit key known has = record {
  has_records = λ n. bare_apart whole unit key known (Record n) (λ m. refl) ∙ has.has_records n;
  has_enums = λ n. bare_apart whole unit key known (Enum n) (λ m. refl) ∙ has.has_enums n;
}

bares_apart : (whole : NamedProgram) (unit : ℕ) (keys : List NameKey) (known : Knows) (one : Named) → ((m : ℕ) → same_named one (BareFunction m) ≡ false) → bares_put whole unit keys known one ≡ known one
bares_apart whole unit [] known one far = refl
bares_apart whole unit (key ∷ keys) known one far =
    bares_apart whole unit keys (bare_put whole unit key known) one far ∙ bare_apart whole unit key known one far

twice : {A : Type 0} (found old : Option A) → first_of found (first_of found old) ≡ first_of found old
twice None old = refl
twice (Some one) old = refl

bare_head : (whole : NamedProgram) (unit n m : ℕ) (old : Option KnownThing) (among t : Bool) → (n == m) ≡ t →
    (if among then first_of (bare_at whole unit n) (if t then first_of (bare_at whole unit m) old else old) else (if t then first_of (bare_at whole unit m) old else old))
    ≡ (if (if t then true else among) then first_of (bare_at whole unit n) old else old)
bare_head whole unit n m old true true is =
    let same : m ≡ n = sym (let e : n ≡ m = grind (arith, nat_tests, is) in e) in
    ap (λ (k : ℕ). first_of (bare_at whole unit n) (first_of (bare_at whole unit k) old)) same ∙ twice (bare_at whole unit n) old
bare_head whole unit n m old false true is =
    let same : m ≡ n = sym (let e : n ≡ m = grind (arith, nat_tests, is) in e) in
    ap (λ (k : ℕ). first_of (bare_at whole unit k) old) same
bare_head whole unit n m old true false is = refl
bare_head whole unit n m old false false is = refl

bares_found : (whole : NamedProgram) (unit : ℕ) (keys : List NameKey) (known : Knows) (n : ℕ) →
    bares_put whole unit keys known (BareFunction n) ≡ (if is_key_among (a_bare_function n) keys then first_of (bare_at whole unit n) (known (BareFunction n)) else known (BareFunction n))
bares_found whole unit [] known n = refl
bares_found whole unit (a_function number ∷ keys) known n = bares_found whole unit keys known n
bares_found whole unit (an_object number ∷ keys) known n = bares_found whole unit keys known n
bares_found whole unit (a_record number ∷ keys) known n = bares_found whole unit keys known n
bares_found whole unit (a_calloc ∷ keys) known n = bares_found whole unit keys known n
bares_found whole unit (a_bare_function m ∷ keys) known n =
    bares_found whole unit keys (bare_put whole unit (a_bare_function m) known) n
    ∙ bare_head whole unit n m (known (BareFunction n)) (is_key_among (a_bare_function n) keys) (n == m) refl

-- ---- the module

function_in : (whole : NamedProgram) (unit n : ℕ) (old : Option KnownThing) (fun : Option CFun) (outer : Option COuter) →
    ((one : CFun) → fun ≡ Some one → old ≡ Some (function_item whole one)) → (fun ≡ None → outer ≡ None → old ≡ None) →
    first_of (if is_some fun then None else outer_thing whole unit outer) old ≡ function_thing whole unit fun outer
function_in whole unit n old (Some one) outer defined none = defined one refl
function_in whole unit n old None (Some one) defined none = refl
function_in whole unit n old None None defined none = none refl refl

bare_in : (whole : NamedProgram) (unit n : ℕ) (old : Option KnownThing) (outer : Option COuter) (among : Bool) → old ≡ None → among ≡ is_key_among (a_bare_function n) (module_keys whole.program unit) →
    (if among then first_of (option_map (bare_item whole unit) outer) old else old) ≡ bare_thing whole unit n outer
bare_in whole unit n old None true e is = e
bare_in whole unit n old None false e is = e
bare_in whole unit n old (Some one) true e is = ap (λ (t : Bool). if t then Some (bare_item whole unit one) else None) is
bare_in whole unit n old (Some one) false e is = e ∙ ap (λ (t : Bool). if t then Some (bare_item whole unit one) else None) is

pub enum_in : (whole : NamedProgram) (unit n : ℕ) → length whole.program.types.enums ≤ length whole.program.types.enum_units → enum_at whole n ≡ enum_thing whole unit n (slice_get whole.program.types.enums n)
enum_in whole unit n within = by_found (slice_get whole.program.types.enums n) refl
  where
    by_found : (found : Option Bool) → slice_get whole.program.types.enums n ≡ found → enum_with n (slice_get whole.program.types.enum_units n) found ≡ enum_thing whole unit n found
    by_found None e = refl
    by_found (Some is_int) e =
        let low = slice_get_within whole.program.types.enums n is_int e in
        let there = slice_get-get_or whole.program.types.enum_units n 0 (omega (arith, low, within)) in
        ap (λ (units : Option ℕ). Some (enum_entry n (unit_or 0 units) is_int)) there ∙ sym (ap (λ (units : Option ℕ). Some (enum_entry n (unit_or unit units) is_int)) there)

pub module_known : (whole : NamedProgram) (unit : ℕ) (before middle after : Names) → IsBase whole before → KnowsMore before middle (outers_put whole unit whole.program.externals before.known) →
    KnowsMore middle after (bares_put whole unit (module_keys whole.program unit) middle.known) → KnowsModule whole unit before after
module_known whole unit before middle after base outers bares = record { known_are = all; rest = both_rest outers.rest bares.rest }
  where
    same : (one : Named) → ((m : ℕ) → same_named one (Function m) ≡ false) → ((m : ℕ) → same_named one (BareFunction m) ≡ false) → after.known one ≡ before.known one
    same one far other =
        bares.known_is one ∙ bares_apart whole unit (module_keys whole.program unit) middle.known one other ∙ outers.known_is one ∙ outers_apart whole unit whole.program.externals before.known one far

    all : KnowsAll whole unit no_locals after
    all (Object n) is = same (Object n) (λ m. refl) (λ m. refl) ∙ base.objects n
    all (Function n) is =
        bares.known_is (Function n) ∙ bares_apart whole unit (module_keys whole.program unit) middle.known (Function n) (λ m. refl) ∙ outers.known_is (Function n)
        ∙ outers_found whole unit whole.program.externals before.known n
        ∙ function_in whole unit n (before.known (Function n)) (function_with n whole.program.functions) (outer_with n whole.program.externals) (base.functions n) (base.nothing_else n)
    all (BareFunction n) is =
        let none = outers.known_is (BareFunction n) ∙ outers_apart whole unit whole.program.externals before.known (BareFunction n) (λ m. refl) ∙ base.no_bares n in
        bares.known_is (BareFunction n) ∙ bares_found whole unit (module_keys whole.program unit) middle.known n
        ∙ bare_in whole unit n (middle.known (BareFunction n)) (outer_with n whole.program.externals) (is_key_among (a_bare_function n) (module_keys whole.program unit)) none refl
    all (Record n) is = same (Record n) (λ m. refl) (λ m. refl) ∙ base.types.has_records n
    all (Enum n) is = same (Enum n) (λ m. refl) (λ m. refl) ∙ base.types.has_enums n ∙ enum_in whole unit n base.units_there
    all (Temporary n) is = same (Temporary n) (λ m. refl) (λ m. refl) ∙ base.no_temporaries n
    all Result is = cc

-- ---- what stays

pub base_begins : (whole : NamedProgram) (before after : Names) → IsBase whole before → Begins Module before after → after.has_bits ≡ before.has_bits → IsBase whole after
base_begins whole before after base begins bits = record {
  types = record { has_records = λ n. begins (Record n) ∙ base.types.has_records n; has_enums = λ n. begins (Enum n) ∙ base.types.has_enums n };
  objects = λ n. begins (Object n) ∙ base.objects n;
  functions = λ n one there. begins (Function n) ∙ base.functions n one there;
  nothing_else = λ n none outer. begins (Function n) ∙ base.nothing_else n none outer;
  no_bares = λ n. begins (BareFunction n) ∙ base.no_bares n;
  no_temporaries = λ n. begins (Temporary n);
  units_there = base.units_there;
  has_bits_is = bits ∙ base.has_bits_is;
}

pub base_takes : (whole : NamedProgram) (before after : Names) (taken : List (List ℕ)) → IsBase whole before → TakesNames before after taken → IsBase whole after
base_takes whole before after taken base takes =
    let same : (one : Named) → after.known one ≡ before.known one = λ one. ap (λ (known : Knows). known one) takes.same_known in
    record {
      types = record { has_records = λ n. same (Record n) ∙ base.types.has_records n; has_enums = λ n. same (Enum n) ∙ base.types.has_enums n };
      objects = λ n. same (Object n) ∙ base.objects n;
      functions = λ n one there. same (Function n) ∙ base.functions n one there;
      nothing_else = λ n none outer. same (Function n) ∙ base.nothing_else n none outer;
      no_bares = λ n. same (BareFunction n) ∙ base.no_bares n;
      no_temporaries = λ n. same (Temporary n) ∙ base.no_temporaries n;
      units_there = base.units_there;
      has_bits_is = takes.same_bits ∙ base.has_bits_is;
    }

-- the names begin, those of the module are taken, and what it declares is kept
pub module_is : (whole : NamedProgram) (unit : ℕ) (before begun_names taken after : Names) → IsBase whole before → begun_names.taken.own_names ≡ [] → begun_names.has_bits ≡ before.has_bits →
    TakesNames begun_names taken (item_names whole.program unit) → KnowsModule whole unit taken after → IsModule whole unit after
module_is whole unit before begun_names taken after base none bits takes known = record {
  known_are = known.known_are;
  taken_are = ap (λ (t : TakenNames). t.module_names) (known.rest.same_taken ∙ takes.taken_are);
  none_own = ap (λ (t : TakenNames). t.own_names) (known.rest.same_taken ∙ takes.taken_are) ∙ none;
  units_there = base.units_there;
  has_bits_is = known.rest.same_bits ∙ takes.same_bits ∙ bits ∙ base.has_bits_is;
}

-- the item of a list at an index, in front of those that follow
pub step_at : {A : Type 0} (list : List A) (index : ℕ) (other : A) → index < length list → drop index list ≡ get_or list index other ∷ drop (index + 1) list
step_at list index other low =
    let next : suc index ≡ index + 1 = omega arith in
    drop-cons list index other low ∙ ap (λ (n : ℕ). get_or list index other ∷ drop n list) next

-- ---- from module to module

among_bare : (n : ℕ) (keys : List NameKey) → some_bare keys ≡ false → is_key_among (a_bare_function n) keys ≡ false
among_bare n [] e = refl
among_bare n (a_function number ∷ keys) e = among_bare n keys e
among_bare n (an_object number ∷ keys) e = among_bare n keys e
among_bare n (a_record number ∷ keys) e = among_bare n keys e
among_bare n (a_calloc ∷ keys) e = among_bare n keys e
among_bare n (a_bare_function number ∷ keys) e = cc

no_bare : (whole : NamedProgram) (unit n : ℕ) (outer : Option COuter) → is_key_among (a_bare_function n) (module_keys whole.program unit) ≡ false → bare_thing whole unit n outer ≡ None
no_bare whole unit n None e = refl
no_bare whole unit n (Some one) e = ap (λ (t : Bool). if t then Some (bare_item whole unit one) else None) e

pub base_again : (whole : NamedProgram) (unit : ℕ) (names : Names) (keys : List NameKey) → IsModule whole unit names → keys ≡ module_keys whole.program unit → some_bare keys ≡ false → IsBase whole names
base_again whole unit names keys is_module same none = record {
  types = record {
    has_records = λ n. is_module.known_are (Record n) refl;
    has_enums = λ n. is_module.known_are (Enum n) refl ∙ sym (enum_in whole unit n is_module.units_there);
  };
  objects = λ n. is_module.known_are (Object n) refl;
  functions = λ n one there. is_module.known_are (Function n) refl ∙ ap (λ (fun : Option CFun). function_thing whole unit fun (outer_with n whole.program.externals)) there;
  nothing_else = λ n fun outer. is_module.known_are (Function n) refl ∙ ap (λ (found : Option CFun). function_thing whole unit found (outer_with n whole.program.externals)) fun
      ∙ ap (λ (found : Option COuter). function_thing whole unit None found) outer;
  no_bares = λ n. is_module.known_are (BareFunction n) refl
      ∙ no_bare whole unit n (outer_with n whole.program.externals) (among_bare n (module_keys whole.program unit) (sym (ap (λ (list : List NameKey). some_bare list) same) ∙ none));
  no_temporaries = λ n. is_module.known_are (Temporary n) refl;
  units_there = is_module.units_there;
  has_bits_is = is_module.has_bits_is;
}
