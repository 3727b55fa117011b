-- Calls of typed programs (ISO C99, 6.5.2.2): what is called, with which arguments, and what a call for which a tree waits may give.
use Rattle.std.specs.Prelude.{◌≡◌, ◌⊎◌, Bool, true, List, [], ◌∷◌, length, All}
use Rattle.std.specs.List.{Contains}
use Rattle.cx_core.specs.Compatible.{AreCompatible}
use Rattle.cx_core.specs.Externals.{IsExternalType, IsOpaqueTrailing}
use Rattle.cx_core.specs.Trees.{CTy, CTyForm, function, CParams, unlisted, listed, CTys, no_types, more_types, form_of_type, unqualified, CTypes, CProgram, type_of}
use Rattle.cx_core.specs.Typing.{IsTrailing, IsResult}
use Rattle.cx_mean.specs.Calls.{CCallee, defined, external, CCalled, type_of_callee}
use Rattle.cx_mean.specs.Operands.{CValue, COperand}
use Rattle.cx_mean.specs.Work.{CWork, finished, needs, chooses, tests, carries, updates, fills, waits, CWorks, no_works, more_works}
use Rattle.cx_typed_work.specs.Operands.{IsValueOfType, IsMissing}

-- ---- what is called

-- one that the program defines, or declares and doesn't define
abbrev pub IsCalleeIn : CProgram → CCallee → Type 0
IsCalleeIn program (defined one) = Contains program.functions one
IsCalleeIn program (external one) = Contains program.externals one

-- arguments are values of the unqualified types of the parameters, and those that follow are promoted (6.5.2.2p2, p6 and p7)
abbrev pub AreTaken : CProgram → CTys → Bool → List COperand → Type 0
AreTaken program no_types variadic [] = Unit {0}
AreTaken program no_types variadic (first ∷ others) =
    (variadic ≡ true) × IsTrailing program.types first.type × IsValueOfType program first.type first.value
    × AreTaken program no_types variadic others
AreTaken program (more_types param params) variadic [] = ⊥
AreTaken program (more_types param params) variadic (first ∷ others) =
    (first.type ≡ unqualified param) × IsValueOfType program first.type first.value × AreTaken program params variadic others

-- a function without parameter list takes no arguments in this profile
abbrev pub AreTakenAs : CProgram → CParams → Bool → List COperand → Type 0
AreTakenAs program unlisted variadic args = args ≡ []
AreTakenAs program (listed params) variadic args = AreTaken program params variadic args

-- a call of a function of a type: its arguments, and the type of what it gives (6.5.2.2p5)
abbrev pub IsCalledAs : CProgram → CTyForm → CTy → List COperand → Type 0
IsCalledAs program (function result params variadic) type args =
    (type ≡ unqualified result) × IsResult program.types result × AreTakenAs program params variadic args
IsCalledAs program _ type args = ⊥

-- the types of the arguments behind those that parameters take
abbrev trailing_behind : CTys → List COperand → List CTy
trailing_behind no_types [] = []
trailing_behind no_types (first ∷ others) = first.type ∷ trailing_behind no_types others
trailing_behind (more_types param params) [] = []
trailing_behind (more_types param params) (first ∷ others) = trailing_behind params others

abbrev pub trailing_types_of : CTyForm → List COperand → List CTy
trailing_types_of (function result (listed params) variadic) args = trailing_behind params args
trailing_types_of _ args = []

-- a defined function gets as many arguments as it has parameters (6.5.2.2p6), and one that no unit defines is one of the profile's
abbrev pub FitsCallee : CTypes → CTy → List COperand → CCallee → Type 0
FitsCallee types visible args (defined one) = length one.params ≡ length args
FitsCallee types visible args (external one) =
    IsExternalType types one.name (form_of_type visible) × All IsOpaqueTrailing (trailing_types_of (form_of_type visible) args)

-- a call that a typed program makes: by some type of the function, compatible with that of its definition
pub record IsTypedCall (program : CProgram) (called : CCalled) : Type 0 where
  pub visible : CTy
  pub callee_in : IsCalleeIn program called.callee
  pub compatible : AreCompatible program.types visible (type_of_callee called.callee)
  pub called_as : IsCalledAs program (form_of_type visible) called.type called.args
  pub served : FitsCallee program.types visible called.args called.callee

-- ---- what a tree waits for

abbrev mutual
  -- each call for which a tree waits gives a value of one type
  pub IsWaitingFor : CTy → CWork → Type 0
  IsWaitingFor type (finished operand) = Unit {0}
  IsWaitingFor type (needs node operands) = AreWaitingFor type operands
  IsWaitingFor type (chooses node first) = IsWaitingFor type first
  IsWaitingFor type (tests node marks second) = IsWaitingFor type second
  IsWaitingFor type (carries node marks part) = IsWaitingFor type part
  IsWaitingFor type (updates node update stage marks) = Unit {0}
  IsWaitingFor type (fills node marks one others value) = IsWaitingFor type value
  IsWaitingFor type (waits node marks) = type_of node ≡ type

  pub AreWaitingFor : CTy → CWorks → Type 0
  AreWaitingFor type no_works = Unit {0}
  AreWaitingFor type (more_works first others) = IsWaitingFor type first × AreWaitingFor type others

-- what a call gives: a value of its type, or nothing (6.9.1p12)
abbrev pub IsReturned : CProgram → CTy → CValue → Type 0
IsReturned program type value = IsValueOfType program type value ⊎ IsMissing value
