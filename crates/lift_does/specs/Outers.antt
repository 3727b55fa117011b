-- What has to be known of the names of lifting where a function is called that no unit defines (ISO C99, 6.5.2.2 and 7.1.4; the Rust Reference, "External blocks").
use Rattle.std.specs.Prelude.{◌≡◌, ◌⊎◌, ℕ, ◌==◌, Bool, true, false, List, ◌∷◌, Some, None, codes}
use Rattle.cx_core.specs.Trees.{CTyForm, function, ty, pointer, form_of_type, CExpr, CExprs, no_exprs, more_exprs, COuter}
use Rattle.cx_core.specs.Typing.{function_with, outer_with}
use Rattle.lift_calls.specs.Programs.{Setting}
use Rattle.lift_does.specs.Agree.{OuterMeans}
use Rattle.lift_exprs.specs.Calls.{count_of, is_malloc}
use Rattle.lift_exprs.specs.Names.{Names, KeptFunction, type_in, params_of, result_of}
use Rattle.rs_text.specs.Tree.{Ty, Integer, Tys, no_tys, more_tys, tys, OuterTree}
use Rattle.rs_text.specs.declared.integer.IntegerTy.TheVariants.{U64}

abbrev pub is_variadic : CTyForm → Bool
is_variadic (function result params variadic) = variadic
is_variadic form = false

-- an argument for each parameter, and further ones only where they may follow
abbrev pub TakesAll : Tys → (variadic : Bool) → CExprs → Type 0
TakesAll no_tys variadic no_exprs = Unit {0}
TakesAll no_tys variadic (more_exprs first others) = variadic ≡ true
TakesAll (more_tys param params) variadic no_exprs = ⊥
TakesAll (more_tys param params) variadic (more_exprs first others) = TakesAll params variadic others

-- the item lists the parameters that the function has in C, and takes these arguments
pub record AsListed (s : Setting) (kept called : KeptFunction) (tree : OuterTree) (one : COuter) (args : CExprs) : Type 0 where
  pub same : called ≡ kept
  pub variadic_is : tree.variadic ≡ is_variadic (form_of_type one.type)
  pub takes : TakesAll (params_of kept.ty) tree.variadic args

-- or it has no parameters, beside one that lists some, and the call has no arguments (6.5.2.2p6)
pub record AsBare (names : Names) (number : ℕ) (kept called : KeptFunction) (args : CExprs) : Type 0 where
  pub none : args ≡ no_exprs
  pub bare_is : names.bare_functions number ≡ Some called
  pub lists : (count_of (params_of kept.ty) == 0) ≡ false
  pub no_params : params_of called.ty ≡ no_tys

-- the module in which the call stands declares the function, so that it takes these arguments, with the result that it has in C. A module declares only what it calls, so this can't be said of all names.
pub record OuterItem (s : Setting) (names : Names) (number : ℕ) (args : CExprs) : Type 0 where
  pub one : COuter
  pub undefined : function_with number s.program.functions ≡ None
  pub outer_is : outer_with number s.program.externals ≡ Some one
  pub kept : KeptFunction
  pub kept_is : names.functions number ≡ Some kept
  pub symbol_is : kept.symbol ≡ Some one.name
  pub ty_is : kept.ty ≡ type_in names (ty (pointer one.type) false)
  -- the item that is called
  pub called : KeptFunction
  pub means : OuterMeans s one.name one.name called
  pub result_is : result_of called.ty ≡ result_of kept.ty
  pub way : AsListed s kept called means.tree one args ⊎ AsBare names number kept called args
  -- in a program with a bit-field member `malloc` isn't called by its own item
  pub as_it_is : is_malloc names one.name ≡ false

-- or, in a program with a bit-field member, it declares `calloc` in place of `malloc`: that gives what `malloc` does, and takes a number of items in front of a size
pub record ZeroedItem (s : Setting) (names : Names) (number : ℕ) (args : CExprs) : Type 0 where
  pub one : COuter
  pub undefined : function_with number s.program.functions ≡ None
  pub outer_is : outer_with number s.program.externals ≡ Some one
  pub is : is_malloc names one.name ≡ true
  pub kept : KeptFunction
  pub kept_is : names.functions number ≡ Some kept
  pub means : OuterMeans s one.name (codes "calloc") kept
  pub result_is : result_of kept.ty ≡ result_of (type_in names (ty (pointer one.type) false))
  pub params : List Ty
  pub behind_one : means.tree.params ≡ Integer U64 ∷ params
  pub params_are : tys params ≡ params_of (type_in names (ty (pointer one.type) false))
  pub variadic_is : means.tree.variadic ≡ is_variadic (form_of_type one.type)
  pub takes : TakesAll (tys params) means.tree.variadic args
  -- the size
  pub size : CExpr
  pub args_are : args ≡ more_exprs size no_exprs
