-- What a search finds is what paths name.
use Rattle.std.proofs.Common.{◌≡◌, refl, sym, ap, ◌∙◌, ℕ, ◌+◌, Bool, true, false, ◌&&◌, if◌then◌else◌, List, [], ◌∷◌, ◌++◌, map, flat_map, find, length, slice_get, bytes_eq, option_map, option_and_then, Option, Some, None, arith}
use Rattle.rs_text.specs.Tree.{Ty, StaticTree, OuterTree, FunctionTree, ItemTree, RecordItem, StaticItem, ExternItem, FunctionItem, ModuleTree}
use Rattle.rs_mean.specs.Lookups.{Callee, outer, own, callee_name, callees_of, callee_among, callee_at, items_in, OwnFunction, own_functions_in, functions_of, is_own, number_from, function_number, function_with, OwnStatic, statics_in, statics_of, static_from, static_home}
use Rattle.rs_mean.specs.Typing.{home_type, own_function_at}
use Rattle.rs_layout.specs.Found.{or_else, static_with, static_among, static_at, function_with_name, function_among, function_at, outer_named, callee_in, callee_in_items}

-- ---- static objects

-- the object of a path in a list
abbrev static_in : List ℕ → List ℕ → List OwnStatic → Option StaticTree
static_in m x [] = None
static_in m x (one ∷ others) = if bytes_eq one.home m && bytes_eq one.object.name x then Some one.object else static_in m x others

abbrev type_in : Option StaticTree → Option Ty
type_in found = option_map (λ object. object.ty) found

type_by : (test : Bool) (block : ℕ) (ty : Ty) (object : StaticTree) (found : Option Rattle.rs_mean.specs.Lookups.Home) (other : Option StaticTree) → object.ty ≡ ty → home_type found ≡ type_in other →
    home_type (if test then Some (record { block = block; ty = ty }) else found) ≡ type_in (if test then Some object else other)
type_by true block ty object found other same rest = ap (λ t. Some t) (sym same)
type_by false block ty object found other same rest = rest

home_in : (block : ℕ) (m x : List ℕ) (list : List OwnStatic) → home_type (static_from block m x list) ≡ type_in (static_in m x list)
home_in block m x [] = refl
home_in block m x (one ∷ others) =
    type_by (bytes_eq one.home m && bytes_eq one.object.name x) block one.object.ty one.object _ _ refl (home_in (block + 1) m x others)

or_if : (A : Type 0) (test : Bool) (one : A) (other rest : Option A) →
    (if test then Some one else or_else A other rest) ≡ or_else A (if test then Some one else other) rest
or_if A true one other rest = refl
or_if A false one other rest = refl

static_append : (m x : List ℕ) (list rest : List OwnStatic) → static_in m x (list ++ rest) ≡ or_else StaticTree (static_in m x list) (static_in m x rest)
static_append m x [] rest = refl
static_append m x (one ∷ others) rest =
    ap (λ found. if bytes_eq one.home m && bytes_eq one.object.name x then Some one.object else found) (static_append m x others rest)
    ∙ or_if StaticTree (bytes_eq one.home m && bytes_eq one.object.name x) one.object (static_in m x others) (static_in m x rest)

static_of_item : (home m x : List ℕ) (item : ItemTree) → static_in m x (statics_in home item) ≡ static_with home m x item
static_of_item home m x (RecordItem one) = refl
static_of_item home m x (StaticItem object) = refl
static_of_item home m x (ExternItem outers) = refl
static_of_item home m x (FunctionItem fun) = refl

static_of_items : (home m x : List ℕ) (items : List ItemTree) → static_in m x (flat_map (statics_in home) items) ≡ static_among home m x items
static_of_items home m x [] = refl
static_of_items home m x (item ∷ items) =
    static_append m x (statics_in home item) (flat_map (statics_in home) items)
    ∙ (ap (λ found. or_else StaticTree found (static_in m x (flat_map (statics_in home) items))) (static_of_item home m x item)
    ∙ ap (λ found. or_else StaticTree (static_with home m x item) found) (static_of_items home m x items))

static_of_modules : (m x : List ℕ) (modules : List ModuleTree) → static_in m x (statics_of modules) ≡ static_at m x modules
static_of_modules m x [] = refl
static_of_modules m x (unit ∷ units) =
    static_append m x (flat_map (statics_in unit.name) unit.items) (statics_of units)
    ∙ (ap (λ found. or_else StaticTree found (static_in m x (statics_of units))) (static_of_items unit.name m x unit.items)
    ∙ ap (λ found. or_else StaticTree (static_among unit.name m x unit.items) found) (static_of_modules m x units))

pub static_is_found : (modules : List ModuleTree) (m x : List ℕ) → home_type (static_home modules m x) ≡ option_map (λ object. object.ty) (static_at m x modules)
static_is_found modules m x = home_in 0 m x (statics_of modules) ∙ ap type_in (static_of_modules m x modules)

-- ---- functions with a body

abbrev function_in : List ℕ → List ℕ → List OwnFunction → Option FunctionTree
function_in m x [] = None
function_in m x (one ∷ others) = if bytes_eq one.home m && bytes_eq one.fun.name x then Some one.fun else function_in m x others

function_append : (m x : List ℕ) (list rest : List OwnFunction) → function_in m x (list ++ rest) ≡ or_else FunctionTree (function_in m x list) (function_in m x rest)
function_append m x [] rest = refl
function_append m x (one ∷ others) rest =
    ap (λ found. if bytes_eq one.home m && bytes_eq one.fun.name x then Some one.fun else found) (function_append m x others rest)
    ∙ or_if FunctionTree (bytes_eq one.home m && bytes_eq one.fun.name x) one.fun (function_in m x others) (function_in m x rest)

function_of_item : (home m x : List ℕ) (item : ItemTree) → function_in m x (own_functions_in home item) ≡ function_with_name home m x item
function_of_item home m x (RecordItem one) = refl
function_of_item home m x (StaticItem object) = refl
function_of_item home m x (ExternItem outers) = refl
function_of_item home m x (FunctionItem fun) = refl

function_of_items : (home m x : List ℕ) (items : List ItemTree) → function_in m x (flat_map (own_functions_in home) items) ≡ function_among home m x items
function_of_items home m x [] = refl
function_of_items home m x (item ∷ items) =
    function_append m x (own_functions_in home item) (flat_map (own_functions_in home) items)
    ∙ (ap (λ found. or_else FunctionTree found (function_in m x (flat_map (own_functions_in home) items))) (function_of_item home m x item)
    ∙ ap (λ found. or_else FunctionTree (function_with_name home m x item) found) (function_of_items home m x items))

function_of_modules : (m x : List ℕ) (modules : List ModuleTree) → function_in m x (functions_of modules) ≡ function_at m x modules
function_of_modules m x [] = refl
function_of_modules m x (unit ∷ units) =
    function_append m x (flat_map (own_functions_in unit.name) unit.items) (functions_of units)
    ∙ (ap (λ found. or_else FunctionTree found (function_in m x (functions_of units))) (function_of_items unit.name m x unit.items)
    ∙ ap (λ found. or_else FunctionTree (function_among unit.name m x unit.items) found) (function_of_modules m x units))

-- the function with a number, in a list that begins with this number
abbrev with_number : List OwnFunction → ℕ → Option FunctionTree
with_number all number = option_map (λ one. one.fun) (slice_get all number)

get_behind : (A : Type 0) (front : List A) (one : A) (rest : List A) → slice_get (front ++ one ∷ rest) (length front) ≡ Some one
get_behind A [] one rest = refl
get_behind A (first ∷ front) one rest = get_behind A front one rest

number_by : (all : List OwnFunction) (test : Bool) (number : ℕ) (one : FunctionTree) (found : Option ℕ) (other : Option FunctionTree) →
    with_number all number ≡ Some one → option_and_then (with_number all) found ≡ other →
    option_and_then (with_number all) (if test then Some number else found) ≡ (if test then Some one else other)
number_by all true number one found other here rest = here
number_by all false number one found other here rest = rest

number_in : (all front list : List OwnFunction) (m x : List ℕ) → front ++ list ≡ all →
    option_and_then (with_number all) (number_from (length front) m x list) ≡ function_in m x list
number_in all front [] m x is = refl
number_in all front (one ∷ others) m x is = number_by all (is_own m x one) (length front) one.fun _ _
    (ap (λ list. with_number list (length front)) (sym is) ∙ ap (λ found. option_map (λ one. one.fun) found) (get_behind OwnFunction front one others))
    (ap (λ number. option_and_then (with_number all) (number_from number m x others)) (length_behind front one)
    ∙ number_in all (front ++ one ∷ []) others m x (behind front one others ∙ is))
  where
    length_behind : (front : List OwnFunction) (one : OwnFunction) → length front + 1 ≡ length (front ++ one ∷ [])
    length_behind [] one = refl
    length_behind (first ∷ front) one = let rest = length_behind front one in omega (arith, rest)

    behind : (front : List OwnFunction) (one : OwnFunction) (rest : List OwnFunction) → (front ++ one ∷ []) ++ rest ≡ front ++ one ∷ rest
    behind [] one rest = refl
    behind (first ∷ front) one rest = ap (λ list. first ∷ list) (behind front one rest)

pub function_is_found : (modules : List ModuleTree) (m x : List ℕ) → own_function_at modules m x ≡ function_at m x modules
function_is_found modules m x = number_in (functions_of modules) [] (functions_of modules) m x refl ∙ function_of_modules m x modules

-- ---- functions that can be called

is_named : List ℕ → Callee → Bool
is_named x callee = bytes_eq (callee_name callee) x

find_append : (A : Type 0) (test : A → Bool) (list rest : List A) → find test (list ++ rest) ≡ or_else A (find test list) (find test rest)
find_append A test [] rest = refl
find_append A test (one ∷ others) rest = ap (λ found. if test one then Some one else found) (find_append A test others rest) ∙ or_if A (test one) one (find test others) (find test rest)

outer_by : (test : Bool) (one : OuterTree) (found : Option Callee) (other : Option OuterTree) → found ≡ option_map outer other →
    (if test then Some (outer one) else found) ≡ option_map outer (if test then Some one else other)
outer_by true one found other rest = refl
outer_by false one found other rest = rest

find_outer : (x : List ℕ) (outers : List OuterTree) → find (λ callee. bytes_eq (callee_name callee) x) (map outer outers) ≡ option_map outer (outer_named x outers)
find_outer x [] = refl
find_outer x (one ∷ others) = outer_by (bytes_eq one.name x) one _ _ (find_outer x others)

callee_of_item : (x : List ℕ) (item : ItemTree) → find (λ callee. bytes_eq (callee_name callee) x) (callees_of item) ≡ callee_in x item
callee_of_item x (RecordItem one) = refl
callee_of_item x (StaticItem object) = refl
callee_of_item x (ExternItem outers) = find_outer x outers
callee_of_item x (FunctionItem fun) = refl

pub callee_of_items : (x : List ℕ) (items : List ItemTree) → callee_among x items ≡ callee_in_items x items
callee_of_items x [] = refl
callee_of_items x (item ∷ items) =
    find_append Callee (λ callee. bytes_eq (callee_name callee) x) (callees_of item) (flat_map callees_of items)
    ∙ (ap (λ found. or_else Callee found (callee_among x items)) (callee_of_item x item)
    ∙ ap (λ found. or_else Callee (callee_in x item) found) (callee_of_items x items))

pub callee_is_found : (modules : List ModuleTree) (m x : List ℕ) → callee_at modules m x ≡ callee_in_items x (items_in modules m)
callee_is_found modules m x = callee_of_items x (items_in modules m)
