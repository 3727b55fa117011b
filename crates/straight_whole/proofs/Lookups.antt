-- What the names of a written crate stand for.
use Rattle.std.proofs.Common.{◌≡◌, ◌≢◌, ℕ, suc, ◌+◌, Bool, true, false, cond, List, [], ◌∷◌, ◌++◌, map, Some, codes, bytes_eq, eqb, refl, sym, ap, subst, ◌∙◌, arith, ◌⊎◌, inl, inr}
use Rattle.std.specs.Prelude.{find}
use Rattle.std.specs.List.{flat_map, filter, IsDistinct, AllByRecursion}
use Rattle.std.proofs.lemmas.Bool.Decides.{eqb_tells}
use Rattle.std.proofs.lemmas.Cmp.{nat_list_eq_equiv}
use Rattle.std.proofs.lemmas.List.{append-nil}
use Rattle.straight_core.specs.Trees.{CTyForm, void, int, function, form_of_type, CObject, COuter, CStmt, CProgram}
use Rattle.straight_core.specs.Typing.{object_with, outer_with}
use Rattle.straight_mean.specs.Laws.{in_blocks_from}
use Rattle.straight_mean.specs.Operands.{designates, designated}
use Rattle.mem_bytes.specs.declared.value.Ptr.{Ptr}
use Rattle.straight_rust_mean.specs.Items.{Callee, outer, own, callee_name, callees_of, callee_at, StaticObject, statics_in_item, statics_of, static_spot}
use Rattle.straight_rust_tree.specs.Tree.{i32, ItemTree, defined, FunctionTree}
use Rattle.straight_whole.specs.Calls.{called_by}
use Rattle.straight_whole.specs.CrateOf.{static_of, declared_outer, outer_of, extern_of, main_of_body, initialiser_of, crate_of}
use Rattle.straight_whole.specs.Items.{name_or_empty}

-- ---- static objects

-- the static object that is written for an object
abbrev pub written : List ℕ → CObject → StaticObject
written home one = record { home = home; name = name_or_empty one.name; ty = i32 }

statics_first : (home : List ℕ) (objects : List CObject) (rest : List ItemTree) → flat_map (statics_in_item home) rest ≡ [] → flat_map (statics_in_item home) (map static_of objects ++ rest) ≡ map (written home) objects
statics_first home [] rest e = e
statics_first home (one ∷ others) rest e = ap (λ list. written home one ∷ list) (statics_first home others rest e)

no_statics : (home : List ℕ) (outers : List COuter) (main init : FunctionTree) → flat_map (statics_in_item home) (extern_of outers ++ defined main ∷ defined init ∷ []) ≡ []
no_statics home [] main init = refl
no_statics home (first ∷ others) main init = refl

pub statics_are : (program : CProgram) (body : CStmt) (home : List ℕ) (temporaries : List (List ℕ)) → statics_of (crate_of program body home temporaries) ≡ map (written home) program.objects
statics_are program body home temporaries =
    append-nil (flat_map (statics_in_item home) (map static_of program.objects ++ (extern_of (called_by program 0) ++ defined (main_of_body program body home temporaries) ∷ defined (initialiser_of program home) ∷ [])))
    ∙ statics_first home program.objects (extern_of (called_by program 0) ++ defined (main_of_body program body home temporaries) ∷ defined (initialiser_of program home) ∷ [])
    (no_statics home (called_by program 0) (main_of_body program body home temporaries) (initialiser_of program home))

-- the names of objects
abbrev pub object_names : List CObject → List (List ℕ)
object_names objects = map (λ one. name_or_empty one.name) objects

-- an object in scope: where it stands in the list, and what its name stands for in the crate
pub record Found (home : List ℕ) (start : ℕ) (objects : List CObject) (object : ℕ) (at : Ptr) : Type 0 where
  pub one : CObject
  pub is : object_with object objects ≡ Some one
  pub at_start : at.offset ≡ 0
  pub spot : static_spot start home (name_or_empty one.name) (map (written home) objects) ≡ Some (record { block = at.block; ty = i32 })

-- what holds of all names holds of that of an object in the list
name_among : (P : List ℕ → Type 0) (objects : List CObject) (object : ℕ) (one : CObject) → AllByRecursion P (object_names objects) → object_with object objects ≡ Some one → P (name_or_empty one.name)
name_among P [] object one all e = cc
name_among P (first ∷ others) object one all e = by_test (eqb first.object object) e (name_among P others object one all.1)
  where
    by_test : (test : Bool) → cond test (Some first) (object_with object others) ≡ Some one → (object_with object others ≡ Some one → P (name_or_empty one.name)) → P (name_or_empty one.name)
    by_test true f rest = subst (λ o. P (name_or_empty o.name)) (first_is f) all.0
      where
        first_is : Some first ≡ Some one → first ≡ one
        first_is g = cc
    by_test false f rest = rest f

add_one : (n : ℕ) → n + 1 ≡ suc n
add_one n = omega arith

-- a name of its own module, found first or behind another
spot_here : (home name : List ℕ) (start : ℕ) (rest : List StaticObject) → static_spot start home name (record { home = home; name = name; ty = i32 } ∷ rest) ≡ Some (record { block = start; ty = i32 })
spot_here home name start rest = rw (nat_list_eq_equiv.refl home, nat_list_eq_equiv.refl name) refl

spot_behind : (home other name : List ℕ) (start : ℕ) (rest : List StaticObject) → bytes_eq other name ≡ false → static_spot start home name (record { home = home; name = other; ty = i32 } ∷ rest) ≡ static_spot (start + 1) home name rest
spot_behind home other name start rest e = rw (nat_list_eq_equiv.refl home, e) refl

-- an object that is in scope is found by its name
pub found_in : (home : List ℕ) (start : ℕ) (objects : List CObject) → IsDistinct bytes_eq (object_names objects) → (object : ℕ) (at : Ptr) → designated (in_blocks_from start objects) object ≡ designates at → Found home start objects object at
unfolding IsDistinct
found_in home start [] distinct object at e = cc
found_in home start (first ∷ others) distinct object at e = by_test (eqb first.object object) refl e (λ f. found_in home (suc start) others distinct.1 object at f)
  where
    here : (p : Ptr) → designates (record { block = start; offset = 0 }) ≡ designates p → record { block = start; offset = 0 } ≡ p
    here p f = cc

    by_test : (test : Bool) → eqb first.object object ≡ test → cond test (designates (record { block = start; offset = 0 })) (designated (in_blocks_from (suc start) others) object) ≡ designates at →
        (designated (in_blocks_from (suc start) others) object ≡ designates at → Found home (suc start) others object at) → Found home start (first ∷ others) object at
    by_test true t f rest = record {
      one = first;
      is = ap (λ b. cond b (Some first) (object_with object others)) t;
      at_start = sym (ap (λ (p : Ptr). p.offset) (here at f));
      spot = spot_here home (name_or_empty first.name) start (map (written home) others) ∙ ap (λ (p : Ptr). Some (record { block = p.block; ty = i32 })) (here at f);
    }
    by_test false t f rest =
        let behind = rest f in
        let apart : bytes_eq (name_or_empty first.name) (name_or_empty behind.one.name) ≡ false = name_among (λ name. bytes_eq (name_or_empty first.name) name ≡ false) others object behind.one distinct.0 behind.is in
        record {
          one = behind.one;
          is = ap (λ b. cond b (Some first) (object_with object others)) t ∙ behind.is;
          at_start = behind.at_start;
          spot = spot_behind home (name_or_empty first.name) (name_or_empty behind.one.name) start (map (written home) others) apart
              ∙ ap (λ n. static_spot n home (name_or_empty behind.one.name) (map (written home) others)) (add_one start) ∙ behind.spot;
        }

-- ---- functions

-- the functions of the module of a crate
abbrev pub functions_written : List COuter → FunctionTree → FunctionTree → List Callee
functions_written outers main init = map (λ one. outer (outer_of one)) outers ++ own main ∷ own init ∷ []

externs_first : (outers : List COuter) (main init : FunctionTree) → flat_map callees_of (extern_of outers ++ defined main ∷ defined init ∷ []) ≡ functions_written outers main init
externs_first [] main init = refl
externs_first (first ∷ others) main init = ap (λ list. list ++ own main ∷ own init ∷ []) (map_map (first ∷ others))
  where
    map_map : (list : List COuter) → map outer (map outer_of list) ≡ map (λ one. outer (outer_of one)) list
    map_map [] = refl
    map_map (one ∷ more) = ap (λ rest. outer (outer_of one) ∷ rest) (map_map more)

statics_skipped : (objects : List CObject) (rest : List ItemTree) → flat_map callees_of (map static_of objects ++ rest) ≡ flat_map callees_of rest
statics_skipped [] rest = refl
statics_skipped (one ∷ others) rest = statics_skipped others rest

-- the function that a name of the module stands for
pub callee_is : (program : CProgram) (body : CStmt) (home : List ℕ) (temporaries : List (List ℕ)) (x : List ℕ) →
    callee_at (crate_of program body home temporaries) home x ≡ find (λ callee. bytes_eq (callee_name callee) x) (functions_written (called_by program 0) (main_of_body program body home temporaries) (initialiser_of program home))
callee_is program body home temporaries x =
    let items = map static_of program.objects ++ (extern_of (called_by program 0) ++ defined (main_of_body program body home temporaries) ∷ defined (initialiser_of program home) ∷ []) in
    rw (nat_list_eq_equiv.refl home) (ap (find (λ callee. bytes_eq (callee_name callee) x))
    (statics_skipped program.objects (extern_of (called_by program 0) ++ defined (main_of_body program body home temporaries) ∷ defined (initialiser_of program home) ∷ []) ∙ externs_first (called_by program 0) (main_of_body program body home temporaries) (initialiser_of program home)))

-- a function keeps its name
outer_name : (name : List ℕ) (form : CTyForm) → (declared_outer name form).name ≡ name
outer_name name void = refl
outer_name name int = refl
outer_name name (function result params variadic) = refl

abbrev by_name : List ℕ → Callee → Bool
by_name x callee = bytes_eq (callee_name callee) x

-- no external function has the name
skip_outers : (x : List ℕ) (outers : List COuter) (rest : List Callee) → AllByRecursion (λ name. bytes_eq name x ≡ false) (map (λ one. one.name) outers) → find (by_name x) (map (λ one. outer (outer_of one)) outers ++ rest) ≡ find (by_name x) rest
skip_outers x [] rest all = refl
skip_outers x (first ∷ others) rest all =
    ap (λ b. cond b (Some (outer (outer_of first))) (find (by_name x) (map (λ one. outer (outer_of one)) others ++ rest))) (ap (λ name. bytes_eq name x) (outer_name first.name (form_of_type first.type)) ∙ all.0)
    ∙ skip_outers x others rest all.1

-- what holds of all of a list holds of those that pass a test
kept_or_not : {A : Type 0} (P : List ℕ → Type 0) (name : A → List ℕ) (test : Bool) (first : A) (rest : List A) → P (name first) → AllByRecursion P (map name rest) → AllByRecursion P (map name (cond test (first ∷ rest) rest))
kept_or_not P name true first rest p all = (p, all)
kept_or_not P name false first rest p all = all

pub filtered : {A : Type 0} (P : List ℕ → Type 0) (name : A → List ℕ) (test : A → Bool) (list : List A) → AllByRecursion P (map name list) → AllByRecursion P (map name (filter test list))
filtered P name test [] all = tt
filtered P name test (first ∷ others) all = kept_or_not P name (test first) first (filter test others) all.0 (filtered P name test others all.1)

-- an external function that passes a test is found by its name among those that do
found_first : (x : List ℕ) (one : COuter) (rest : List Callee) → bytes_eq one.name x ≡ true → find (by_name x) (outer (outer_of one) ∷ rest) ≡ Some (outer (outer_of one))
found_first x one rest e = ap (λ b. cond b (Some (outer (outer_of one))) (find (by_name x) rest)) (ap (λ name. bytes_eq name x) (outer_name one.name (form_of_type one.type)) ∙ e)

found_behind : (x : List ℕ) (one : COuter) (rest : List Callee) → bytes_eq one.name x ≡ false → find (by_name x) (outer (outer_of one) ∷ rest) ≡ find (by_name x) rest
found_behind x one rest e = ap (λ b. cond b (Some (outer (outer_of one))) (find (by_name x) rest)) (ap (λ name. bytes_eq name x) (outer_name one.name (form_of_type one.type)) ∙ e)

abbrev outers_in : List COuter → List Callee
outers_in list = map (λ one. outer (outer_of one)) list

behind_filter : (x : List ℕ) (test : Bool) (first : COuter) (others : List COuter) (rest : List Callee) → bytes_eq first.name x ≡ false → find (by_name x) (outers_in (cond test (first ∷ others) others) ++ rest) ≡ find (by_name x) (outers_in others ++ rest)
behind_filter x true first others rest e = found_behind x first (outers_in others ++ rest) e
behind_filter x false first others rest e = refl

outer_among : (P : List ℕ → Type 0) (list : List COuter) (callee : ℕ) (one : COuter) → AllByRecursion P (map (λ o. o.name) list) → outer_with callee list ≡ Some one → P one.name
outer_among P [] callee one all e = cc
outer_among P (first ∷ others) callee one all e = by_test (eqb first.function callee) e (outer_among P others callee one all.1)
  where
    first_is : Some first ≡ Some one → first ≡ one
    first_is g = cc

    by_test : (test : Bool) → cond test (Some first) (outer_with callee others) ≡ Some one → (outer_with callee others ≡ Some one → P one.name) → P one.name
    by_test true f rest = subst (λ (o : COuter). P o.name) (first_is f) all.0
    by_test false f rest = rest f

pub found_outer : (test : COuter → Bool) (list : List COuter) (rest : List Callee) → IsDistinct bytes_eq (map (λ one. one.name) list) → (callee : ℕ) (one : COuter) → outer_with callee list ≡ Some one → test one ≡ true →
    find (by_name one.name) (outers_in (filter test list) ++ rest) ≡ Some (outer (outer_of one))
unfolding IsDistinct
found_outer test [] rest distinct callee one e passes = cc
found_outer test (first ∷ others) rest distinct callee one e passes = by_test (eqb first.function callee) e (λ f. found_outer test others rest distinct.1 callee one f passes)
  where
    first_is : Some first ≡ Some one → first ≡ one
    first_is g = cc

    by_test : (b : Bool) → cond b (Some first) (outer_with callee others) ≡ Some one →
        (outer_with callee others ≡ Some one → find (by_name one.name) (outers_in (filter test others) ++ rest) ≡ Some (outer (outer_of one))) →
        find (by_name one.name) (outers_in (cond (test first) (first ∷ filter test others) (filter test others)) ++ rest) ≡ Some (outer (outer_of one))
    by_test true f behind =
        let passed : test first ≡ true = ap test (first_is f) ∙ passes in
        ap (λ b. find (by_name one.name) (outers_in (cond b (first ∷ filter test others) (filter test others)) ++ rest)) passed
        ∙ found_first one.name first (outers_in (filter test others) ++ rest) (ap (λ (o : COuter). bytes_eq o.name one.name) (first_is f) ∙ nat_list_eq_equiv.refl one.name)
        ∙ ap (λ (o : COuter). Some (outer (outer_of o))) (first_is f)
    by_test false f behind =
        behind_filter one.name (test first) first (filter test others) rest (outer_among (λ name. bytes_eq first.name name ≡ false) others callee one distinct.0 f) ∙ behind f

-- the number of the function that is found is the one that is asked for
pub number_found : (list : List COuter) (callee : ℕ) (one : COuter) → outer_with callee list ≡ Some one → one.function ≡ callee
number_found [] callee one e = cc
number_found (first ∷ others) callee one e = by_test (eqb_tells first.function callee) e (number_found others callee one)
  where
    first_is : Some first ≡ Some one → first ≡ one
    first_is g = cc

    by_test : ((eqb first.function callee ≡ true) × (first.function ≡ callee)) ⊎ ((eqb first.function callee ≡ false) × (first.function ≢ callee)) → cond (eqb first.function callee) (Some first) (outer_with callee others) ≡ Some one → (outer_with callee others ≡ Some one → one.function ≡ callee) → one.function ≡ callee
    by_test (inl (t, same)) f rest = ap (λ (o : COuter). o.function) (sym (first_is (ap (λ b. cond b (Some first) (outer_with callee others)) (sym t) ∙ f))) ∙ same
    by_test (inr (t, other)) f rest = rest (ap (λ b. cond b (Some first) (outer_with callee others)) (sym t) ∙ f)

pub finds_main : (program : CProgram) (body : CStmt) (home : List ℕ) (temporaries : List (List ℕ)) → AllByRecursion (λ name. bytes_eq name (codes "main_0") ≡ false) (map (λ one. one.name) (called_by program 0)) →
    callee_at (crate_of program body home temporaries) home (codes "main_0") ≡ Some (own (main_of_body program body home temporaries))
finds_main program body home temporaries all =
    callee_is program body home temporaries (codes "main_0")
    ∙ skip_outers (codes "main_0") (called_by program 0) (own (main_of_body program body home temporaries) ∷ own (initialiser_of program home) ∷ []) all

pub finds_initialiser : (program : CProgram) (body : CStmt) (home : List ℕ) (temporaries : List (List ℕ)) → AllByRecursion (λ name. bytes_eq name (codes "run_static_initializers") ≡ false) (map (λ one. one.name) (called_by program 0)) →
    callee_at (crate_of program body home temporaries) home (codes "run_static_initializers") ≡ Some (own (initialiser_of program home))
finds_initialiser program body home temporaries all =
    callee_is program body home temporaries (codes "run_static_initializers")
    ∙ skip_outers (codes "run_static_initializers") (called_by program 0) (own (main_of_body program body home temporaries) ∷ own (initialiser_of program home) ∷ []) all
