-- What the names of a written crate stand for, with their types.
use Rattle.std.proofs.Common.{◌≡◌, ℕ, zero, suc, ◌+◌, ◌<◌, ◌==◌, Bool, true, false, cond, ◌||◌, List, [], ◌∷◌, map, length, get_or, Option, Some, bytes_eq, is_some, refl, ap, ◌∙◌, rules, arith}
use Rattle.std.specs.Prelude.{All, IsSome, option_map}
use Rattle.std.specs.List.{list_any, filter}
use Rattle.std.proofs.lemmas.Cmp.{nat_list_eq_equiv}
use Rattle.std.proofs.lemmas.List.Elements.{All-nil, All-cons, All-head, All-tail, All-weaker, All-get_or}
use Rattle.straight_core.specs.Trees.{CObject, COuter, CFun, CStmt, CProgram}
use Rattle.straight_core.specs.Typing.{object_with, outer_with}
use Rattle.straight_rust_mean.specs.Items.{own, signature_of, static_spot, statics_of, local_spot}
use Rattle.straight_rust_mean.specs.Typing.{spot_type, signature_at}
use Rattle.straight_rust_tree.specs.Names.{is_identifier, is_module_name}
use Rattle.straight_rust_tree.specs.Tree.{i32, named, static_at, LocalTree, CrateTree}
use Rattle.straight_whole.specs.Calls.{functions_of, calls_in_stmt}
use Rattle.straight_whole.specs.CrateOf.{names_of, name_of_object, name_of_outer, local_of, main_of_body, initialiser_of, crate_of}
use Rattle.straight_whole.specs.Items.{name_or_empty}
use Rattle.straight_whole.specs.Named.{IsKept}
use Rattle.straight_whole.specs.Straight.{IsStraight}
use Rattle.straight_whole.proofs.Lookups.{written, statics_are, callee_is, found_outer, number_found}
use Rattle.straight_whole.proofs.TypedLift.{and_true, same_number, IsPlace, IsCallable, outer_found}
use Rattle.straight_whole.proofs.TypedNames.{names_apart}

-- ---- objects

-- an object of a list that has a number, by its name; what holds of all holds of it
record IsListed (P : CObject → Type 0) (home : List ℕ) (start : ℕ) (objects : List CObject) (found : Option CObject) : Type 0 where
  pub one : CObject
  pub is : found ≡ Some one
  pub holds : P one
  pub spot : spot_type (static_spot start home (name_or_empty one.name) (map (written home) objects)) ≡ Some i32

here : (home : List ℕ) (start : ℕ) (first : CObject) (others : List CObject) → spot_type (static_spot start home (name_or_empty first.name) (map (written home) (first ∷ others))) ≡ Some i32
here home start first others = rw (nat_list_eq_equiv.refl home, nat_list_eq_equiv.refl (name_or_empty first.name)) refl

-- an object behind another one
behind : (home : List ℕ) (start : ℕ) (first one : CObject) (others : List CObject) → spot_type (static_spot (start + 1) home (name_or_empty one.name) (map (written home) others)) ≡ Some i32 →
    spot_type (static_spot start home (name_or_empty one.name) (map (written home) (first ∷ others))) ≡ Some i32
behind home start first one others typed = by_test (bytes_eq (name_or_empty first.name) (name_or_empty one.name)) refl
  where
    by_test : (test : Bool) → bytes_eq (name_or_empty first.name) (name_or_empty one.name) ≡ test → spot_type (static_spot start home (name_or_empty one.name) (map (written home) (first ∷ others))) ≡ Some i32
    by_test true e = rw (nat_list_eq_equiv.refl home, e) refl
    by_test false e = rw (nat_list_eq_equiv.refl home, e) typed

listed : (P : CObject → Type 0) (home : List ℕ) (start : ℕ) (objects : List CObject) (number : ℕ) → All P objects → IsSome (object_with number objects) → IsListed P home start objects (object_with number objects)
listed P home start [] number all some = absurd (search (rules, some))
listed P home start (first ∷ others) number all some =
    by_test (first.object == number) some (λ rest. listed P home (start + 1) others number (All-tail P first others all) rest)
  where
    by_test : (test : Bool) → IsSome (cond test (Some first) (object_with number others)) → (IsSome (object_with number others) → IsListed P home (start + 1) others (object_with number others)) →
        IsListed P home start (first ∷ others) (cond test (Some first) (object_with number others))
    by_test true some rest = record { one = first; is = refl; holds = All-head P first others all; spot = here home start first others }
    by_test false some rest =
        let found = rest some in
        record { one = found.one; is = found.is; holds = found.holds; spot = behind home start first found.one others found.spot }

-- the name of an object stands for it
pub object_place : (program : CProgram) (body : CStmt) (home : List ℕ) (temporaries : List (List ℕ)) (locals : List LocalTree) → is_module_name home ≡ true → All (λ one. IsKept (name_or_empty one.name)) program.objects →
    (number : ℕ) → IsSome (object_with number program.objects) → IsPlace (record { whole = crate_of program body home temporaries; locals = locals }) (static_at home (name_of_object (object_with number program.objects)))
object_place program body home temporaries locals is_home kept number some =
    let found = listed (λ one. IsKept (name_or_empty one.name)) home 0 program.objects number kept some in
    record {
      valid = and_true _ _ is_home (ap (λ o. is_identifier (name_of_object o)) found.is ∙ found.holds.identifier);
      typed = ap (λ o. spot_type (static_spot 0 home (name_of_object o) (statics_of (crate_of program body home temporaries)))) found.is
          ∙ ap (λ list. spot_type (static_spot 0 home (name_or_empty found.one.name) list)) (statics_are program body home temporaries) ∙ found.spot;
    }

-- each object of a list has a number that is found in it
pub all_found : (objects : List CObject) → All (λ one. IsSome (object_with one.object objects)) objects
all_found objects = by_list objects
  where
    step : (test : Bool) (first : CObject) (rest : Option CObject) → IsSome rest → IsSome (cond test (Some first) rest)
    step true first rest some = refl
    step false first rest some = some

    by_list : (list : List CObject) → All (λ one. IsSome (object_with one.object list)) list
    by_list [] = All-nil (λ (one : CObject). IsSome (object_with one.object []))
    by_list (first ∷ others) = All-cons (λ (one : CObject). IsSome (object_with one.object (first ∷ others))) first others
        (ap (λ test. is_some (cond test (Some first) (object_with first.object others))) (same_number first.object))
        (All-weaker (λ (one : CObject). IsSome (object_with one.object others)) (λ (one : CObject). IsSome (object_with one.object (first ∷ others)))
        (λ one some. step (first.object == one.object) first (object_with one.object others) some) others (by_list others))

-- ---- temporaries

-- a name of a list, as that of a local of type `i32`
local_typed : (start : ℕ) (names : List (List ℕ)) (number : ℕ) → number < length names → spot_type (local_spot start (get_or names number []) (map local_of names)) ≡ Some i32
local_typed start [] number is = absurd (omega arith)
local_typed start (first ∷ others) zero is = rw (nat_list_eq_equiv.refl first) refl
local_typed start (first ∷ others) (suc number) is = by_test (bytes_eq first (get_or others number [])) (local_typed (start + 1) others number (omega arith))
  where
    by_test : (test : Bool) → spot_type (local_spot (start + 1) (get_or others number []) (map local_of others)) ≡ Some i32 →
        spot_type (cond test (Some (record { block = start; ty = i32 })) (local_spot (start + 1) (get_or others number []) (map local_of others))) ≡ Some i32
    by_test true rest = refl
    by_test false rest = rest

pub temporary_is_place : (whole : CrateTree) (temporaries : List (List ℕ)) → All (λ name. is_identifier name ≡ true) temporaries → (number : ℕ) → number < length temporaries →
    IsPlace (record { whole = whole; locals = map local_of temporaries }) (named (get_or temporaries number []))
temporary_is_place whole temporaries identifiers number is = record {
  valid = All-get_or (λ name. is_identifier name ≡ true) temporaries number [] is identifiers;
  typed = local_typed 0 temporaries number is;
}

-- ---- functions

-- the one function of a straight program calls what it calls
pub called : (program : CProgram) (straight : IsStraight program) (number : ℕ) → calls_in_stmt number straight.main.body ≡ true → list_any (λ one. calls_in_stmt number one.body) (functions_of program 0) ≡ true
called program straight number calls =
    ap (λ list. list_any (λ (one : CFun). calls_in_stmt number one.body) (filter (λ (one : CFun). one.unit == 0) list)) straight.functions
    ∙ ap (λ unit. list_any (λ (one : CFun). calls_in_stmt number one.body) (cond (unit == 0) (straight.main ∷ []) [])) straight.unit
    ∙ ap (λ test. test || false) calls

-- the name of a function that is called stands for it
pub function_is_callable : (program : CProgram) (straight : IsStraight program) (home : List ℕ) (temporaries : List (List ℕ)) (locals : List LocalTree) → All (λ one. IsKept one.name) program.externals →
    (number : ℕ) (one : COuter) → calls_in_stmt number straight.main.body ≡ true → outer_with number program.externals ≡ Some one →
    IsCallable (names_of program home temporaries) (record { whole = crate_of program straight.main.body home temporaries; locals = locals }) one number
function_is_callable program straight home temporaries locals kept number one calls found =
    let whole = crate_of program straight.main.body home temporaries in
    let passes : list_any (λ (f : CFun). calls_in_stmt one.function f.body) (functions_of program 0) ≡ true =
    ap (λ n. list_any (λ (f : CFun). calls_in_stmt n f.body) (functions_of program 0)) (number_found program.externals number one found) ∙ called program straight number calls in
    record {
      valid = ap (λ o. is_identifier (name_of_outer o)) found ∙ (outer_found (λ one. IsKept one.name) program.externals number one kept found).identifier;
      found = ap (λ o. signature_at whole home (name_of_outer o)) found
          ∙ ap (option_map signature_of) (callee_is program straight.main.body home temporaries one.name
          ∙ found_outer (λ outer. list_any (λ (f : CFun). calls_in_stmt outer.function f.body) (functions_of program 0)) program.externals
          (own (main_of_body program straight.main.body home temporaries) ∷ own (initialiser_of program home) ∷ []) (names_apart program straight).second number one found passes);
    }
