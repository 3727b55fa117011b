-- Names for worked examples: what the objects and functions of lift_held's examples, and some beside these, are in a module `m` of a crate.
use Rattle.std.specs.Prelude.{ℕ, zero, suc, ◌*◌, ◌==◌, pos, Bool, true, false, List, [], ◌∷◌, ◌++◌, map, Option, Some, None, codes, slice_get, if◌then◌else◌}
use Rattle.std.specs.Fmt.{decimal}
use Rattle.cx_core.specs.Trees.{CTy, ty, CTyForm, basic, array, record_type, CExpr}
use Rattle.cx_core.specs.declared.ty.Basic.TheVariants.{Truth, Char, UnsignedChar, UnsignedLong}
use Rattle.cx_core.specs.declared.expr.Op2.TheVariants as op2
use Rattle.lift_exprs.specs.Names.{KeptFunction, Names}
use Rattle.lift_forms.specs.Places.{Kept}
use Rattle.lift_held.specs.Example.{int, char, to, struct, array_of, function_of, named, target, member_at, value_of, address_at, two, call_of}
use Rattle.rs_items.specs.Known.{MemberField}
use Rattle.rs_mean.specs.Typing.{Scope}
use Rattle.rs_text.specs.declared.attribute.Attribute.TheVariants.{Mangled}
use Rattle.rs_text.specs.declared.integer.IntegerTy.TheVariants.{I8, I32, U8, U64}
use Rattle.rs_text.specs.Tree.{Ty, Integer, Boolean, Void, Pointer, Array, Code, Record, tys, no_ty, some_ty, no_stmts, Local, Static, FieldTree, LocalTree, ItemTree, RecordItem, StaticItem, ExternItem, FunctionItem, ModuleTree}
use Rattle.rs_tree.specs.declared.ty.RPath.{RPath}

-- ---- types

abbrev pub i32 : Ty
i32 = Integer I32

-- `struct node { int v; struct node *next; }`, `struct flags { int v; unsigned b : 3; unsigned c : 6; }`, `struct outer { int v; struct flags s; }` and
-- `union bytes { int i; char c[4]; }`, and the first of these in another module
abbrev pub node : Ty
node = Record (codes "m") (codes "node")

abbrev pub flags : Ty
flags = Record (codes "m") (codes "flags")

abbrev pub outer : Ty
outer = Record (codes "m") (codes "outer")

abbrev pub bytes : Ty
bytes = Record (codes "m") (codes "bytes")

abbrev pub other_node : Ty
other_node = Record (codes "other") (codes "node")

abbrev pub truth_type : CTy
truth_type = ty (basic Truth) false

abbrev pub small_type : CTy
small_type = ty (basic UnsignedChar) false

abbrev pub size_type : CTy
size_type = ty (basic UnsignedLong) false

-- `int (const char *, ...)`, whose pointer tells of the first parameter alone
abbrev pub printer : Ty
printer = Code (tys (Pointer (Integer I8) ∷ [])) (some_ty i32)

-- ---- objects and functions

abbrev pub declared : List ℕ → Ty → LocalTree
declared name rust = record { name = name; ty = rust }

abbrev pub locals : List LocalTree
locals =
    declared (codes "a") i32 ∷ declared (codes "b") i32 ∷ declared (codes "c") i32 ∷ declared (codes "d") i32 ∷ declared (codes "i") i32
    ∷ declared (codes "n") i32 ∷ declared (codes "x") i32 ∷ declared (codes "y") i32 ∷ declared (codes "p") (Pointer node) ∷ declared (codes "s") node
    ∷ declared (codes "w") (Array i32 4) ∷ declared (codes "q") (Pointer (Integer I8)) ∷ declared (codes "r") (Pointer (Integer I8))
    ∷ declared (codes "h") (Pointer flags) ∷ declared (codes "k") flags ∷ declared (codes "o") (Code (tys (i32 ∷ [])) (some_ty i32)) ∷ declared (codes "val") node
    ∷ declared (codes "val_0") i32 ∷ declared (codes "e") outer ∷ declared (codes "l") (Array flags 4) ∷ declared (codes "u") bytes ∷ declared (codes "z") bytes
    ∷ declared (codes "j") (Integer U8) ∷ declared (codes "is_on") Boolean ∷ declared (codes "v") printer ∷ []

abbrev kept_local : LocalTree → Kept
kept_local one = record { place = Local one.name; ty = one.ty }

-- the text `%d` is a static of the module, and `far` one of another
abbrev statics : List Kept
statics = record { place = Static (codes "m") (codes "lit"); ty = Array (Integer I8) 3 } ∷ record { place = Static (codes "other") (codes "far"); ty = other_node } ∷ []

abbrev pub objects : ℕ → Option Kept
objects number = slice_get (map kept_local locals ++ statics) number

abbrev pub function_in : (home name : List ℕ) → Ty → KeptFunction
function_in home name rust = record { home = home; name = name; ty = rust; symbol = None }

abbrev pub outer_in : (name symbol : List ℕ) → Ty → KeptFunction
outer_in name symbol rust = record { home = codes "m"; name = name; ty = rust; symbol = Some symbol }

abbrev pub allocator : Ty
allocator = Code (tys (Integer U64 ∷ Integer U64 ∷ [])) (some_ty (Pointer Void))

abbrev pub items : List KeptFunction
items =
    function_in (codes "m") (codes "f") (Code (tys []) (some_ty i32))
    ∷ function_in (codes "m") (codes "g") (Code (tys (i32 ∷ [])) (some_ty i32))
    ∷ function_in (codes "m") (codes "sum") (Code (tys (i32 ∷ i32 ∷ [])) (some_ty i32))
    ∷ function_in (codes "m") (codes "make") (Code (tys (Pointer node ∷ [])) no_ty)
    ∷ function_in (codes "m") (codes "take") (Code (tys (Pointer node ∷ [])) (some_ty i32))
    ∷ outer_in (codes "putchar") (codes "putchar") (Code (tys (i32 ∷ [])) (some_ty i32))
    ∷ outer_in (codes "printf") (codes "printf") printer
    ∷ outer_in (codes "calloc") (codes "malloc") allocator
    ∷ function_in (codes "other") (codes "give") (Code (tys (Pointer other_node ∷ Pointer other_node ∷ [])) no_ty)
    ∷ function_in (codes "other") (codes "next") (Code (tys (Pointer other_node ∷ [])) (some_ty (Pointer other_node))) ∷ []

abbrev pub functions : ℕ → Option KeptFunction
functions number = slice_get items number

-- `putchar` without its parameter
abbrev pub bare_functions : ℕ → Option KeptFunction
bare_functions number = if number == 5 then Some (outer_in (codes "putchar_0") (codes "putchar") (Code (tys []) (some_ty i32))) else None

-- ---- members, sizes and temporaries

abbrev field_of : ℕ → Ty → List ℕ → MemberField
field_of byte rust name = record { byte = byte; ty = rust; name = name }

abbrev fields_of_records : List (List MemberField)
fields_of_records =
    (field_of 0 i32 (codes "v") ∷ field_of 8 (Pointer node) (codes "next") ∷ [])
    ∷ (field_of 0 i32 (codes "v") ∷ [])
    ∷ (field_of 0 i32 (codes "v") ∷ field_of 4 flags (codes "s") ∷ [])
    ∷ (field_of 0 i32 (codes "i") ∷ field_of 0 (Array (Integer I8) 4) (codes "c") ∷ []) ∷ []

abbrev pub fields : ℕ → Option (List MemberField)
fields number = slice_get fields_of_records number

abbrev path_to : List ℕ → RPath
path_to name = record { home = codes "m"; name = name }

abbrev pub record_names : ℕ → Option RPath
record_names number = slice_get (map path_to (codes "node" ∷ codes "flags" ∷ codes "outer" ∷ codes "bytes" ∷ [])) number

abbrev size_of_record : ℕ → ℕ
size_of_record number = if number == 0 then 16 else (if number == 1 then 8 else (if number == 2 then 12 else 4))

abbrev mutual
  pub size_of : CTy → ℕ
  size_of (ty form is_const) = size_in form

  pub size_in : CTyForm → ℕ
  size_in (record_type number) = size_of_record number
  size_in (basic Truth) = 1
  size_in (basic Char) = 1
  size_in (basic UnsignedChar) = 1
  size_in (basic UnsignedLong) = 8
  size_in (basic _) = 4
  size_in (array element (Some length)) = length * size_of element
  size_in _ = 8

abbrev pub temporary : ℕ → List ℕ
temporary zero = codes "t"
temporary (suc n) = codes "t_" ++ decimal n

-- of a program without bit-fields, and of one with them
abbrev names_of : Bool → Names
names_of has_bits = record {
  objects = objects;
  functions = functions;
  bare_functions = bare_functions;
  fields = fields;
  types = record { records = record_names; enums = λ _. I32 };
  size_of = size_of;
  temporary = temporary;
  has_bits = has_bits;
}

abbrev pub names : Names
names = names_of false

abbrev pub bit_names : Names
bit_names = names_of true

-- ---- the modules

abbrev member : List ℕ → Ty → FieldTree
member name rust = record { name = name; ty = rust }

abbrev own_function : List ℕ → List Ty → Option Ty → ItemTree
own_function name params result =
    FunctionItem (record { attribute = Mangled; name = name; params = params_from (codes "z") params; result = result; locals = []; body = no_stmts })
  where
    params_from : List ℕ → List Ty → List LocalTree
    params_from name [] = []
    params_from name (first ∷ others) = declared name first ∷ params_from (name ++ codes "z") others

abbrev pub home : ModuleTree
home = record {
  name = codes "m";
  items =
      RecordItem (record { align = None; is_union = false; name = codes "node"; fields = member (codes "v") i32 ∷ member (codes "next") (Pointer node) ∷ [] })
      ∷ RecordItem (record { align = None; is_union = false; name = codes "flags"; fields = member (codes "v") i32 ∷ member (codes "bits") (Array (Integer U8) 4) ∷ [] })
      ∷ RecordItem (record { align = None; is_union = false; name = codes "outer"; fields = member (codes "v") i32 ∷ member (codes "s") flags ∷ [] })
      ∷ RecordItem (record { align = None; is_union = true; name = codes "bytes"; fields = member (codes "i") i32 ∷ member (codes "c") (Array (Integer I8) 4) ∷ [] })
      ∷ StaticItem (record { attribute = Mangled; name = codes "lit"; ty = Array (Integer I8) 3; values = Some (pos 37 ∷ pos 100 ∷ pos 0 ∷ []) })
      ∷ ExternItem
      (record { link_name = None; name = codes "putchar"; params = i32 ∷ []; variadic = false; result = Some i32 }
      ∷ record { link_name = None; name = codes "printf"; params = Pointer (Integer I8) ∷ []; variadic = true; result = Some i32 }
      ∷ record { link_name = None; name = codes "calloc"; params = Integer U64 ∷ Integer U64 ∷ []; variadic = false; result = Some (Pointer Void) }
      ∷ record { link_name = Some (codes "putchar"); name = codes "putchar_0"; params = []; variadic = false; result = Some i32 } ∷ [])
      ∷ own_function (codes "f") [] (Some i32)
      ∷ own_function (codes "g") (i32 ∷ []) (Some i32)
      ∷ own_function (codes "sum") (i32 ∷ i32 ∷ []) (Some i32)
      ∷ own_function (codes "make") (Pointer node ∷ []) None
      ∷ own_function (codes "take") (Pointer node ∷ []) (Some i32) ∷ [];
}

abbrev pub other_home : ModuleTree
other_home = record {
  name = codes "other";
  items =
      RecordItem (record { align = None; is_union = false; name = codes "node"; fields = member (codes "v") i32 ∷ member (codes "next") (Pointer other_node) ∷ [] })
      ∷ StaticItem (record { attribute = Mangled; name = codes "far"; ty = other_node; values = None })
      ∷ own_function (codes "give") (Pointer other_node ∷ Pointer other_node ∷ []) None
      ∷ own_function (codes "next") (Pointer other_node ∷ []) (Some (Pointer other_node)) ∷ [];
}

abbrev pub temporaries_from : ℕ → List Ty → List LocalTree
temporaries_from number [] = []
temporaries_from number (one ∷ others) = declared (temporary number) one ∷ temporaries_from (suc number) others

-- where these names and temporaries are declared
abbrev pub scope_with : List Ty → Scope
scope_with temporaries = record { modules = home ∷ other_home ∷ []; locals = locals ++ temporaries_from 0 temporaries }

-- ---- expressions

abbrev pub p : CExpr
p = named (to (struct 0)) 8

abbrev pub s : CExpr
s = named (struct 0) 9

abbrev pub w : CExpr
w = named (array_of int 4) 10

abbrev pub q : CExpr
q = named (to char) 11

abbrev pub r : CExpr
r = named (to char) 12

abbrev pub h : CExpr
h = named (to (struct 1)) 13

abbrev pub k : CExpr
k = named (struct 1) 14

abbrev pub o : CExpr
o = named (to (function_of int (int ∷ []))) 15

abbrev pub e : CExpr
e = named (struct 2) 18

abbrev pub l : CExpr
l = named (array_of (struct 1) 4) 19

abbrev pub u : CExpr
u = named (struct 3) 20

abbrev pub z : CExpr
z = named (struct 3) 21

abbrev pub j : CExpr
j = named small_type 22

abbrev pub is_on : CExpr
is_on = named truth_type 23

abbrev pub far : CExpr
far = named (struct 0) 26

abbrev pub element : CExpr → CExpr
element index = target int (two op2.Add (to int) (address_at int w) index)

abbrev pub p_v : CExpr
p_v = member_at int (target (struct 0) (value_of p)) 0

abbrev pub next_of : CExpr → CExpr
next_of of = member_at (to (struct 0)) (target (struct 0) (value_of of)) 8

abbrev pub f : CExpr
f = call_of int 0 []

abbrev pub g : CExpr → CExpr
g argument = call_of int 1 (argument ∷ [])
