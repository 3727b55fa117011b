-- What initialisers store where the walk over them finds no broken node (ISO C99, 6.7.8).
use Rattle.std.specs.Prelude.{◌≡◌, ◌⊎◌, ℕ, ◌<◌, Bool, true, false, ◌&&◌, List, [], ◌∷◌, length, Option, None, Some, IsSome, IfSome}
use Rattle.cx_core.specs.Linked.{home_of}
use Rattle.cx_core.specs.Trees.{CTy, CTyForm, record_type, form_of_type, unqualified, CTypes, type_of}
use Rattle.cx_core.specs.Typing.{CHome, IsTyped, IsConstant, AreTypedPuts, AreConstantPuts}
use Rattle.cx_core.specs.ValidTypes.{member_of, has_name, IsObjectForm, IsResultForm}
use Rattle.cx_layout.specs.Calls.{record_at}
use Rattle.cx_rules.specs.Initial.{CAt, CStored, part_type, type_by, completed_type}
use Rattle.cx_rules.specs.Pieces.{CTarget, whole_target, CFilling, from_whole, filled_object}
use Rattle.cx_rules.specs.Readings.{Seen, seen_gives, seen_chain, seen_here, seen_becomes, seen_look}
use Rattle.cx_rules.specs.Scope.{CScope}
use Rattle.cx_rules.specs.Types.{is_too_large}
use Rattle.cx_rules.specs.Units.{seen_initialiser}
use Rattle.cx_rules.specs.Walk as walk
use Rattle.cx_tree.specs.Trees.{ExprTree, InitialiserTree, Single, Braced, InitialiserListTree, InitialiserList, EntryTree, Entry, EntryTrees, no_entries, more_entries, DesignatorTree, Element, Member, DesignatorTrees, no_designators, more_designators}
use Rattle.cx_typed.specs.Growth.{Grows}
use Rattle.cx_typed.specs.Operands.{IsKnownType}
use Rattle.cx_typed.specs.Scopes.{Serves, Passes, AreTypedLiterals}
use Rattle.cx_typed.specs.Walked.{IsGood, Ends, ExprGoes}

-- ---- the object, and its parts

-- the object that is initialised: what of it is known, and whether it lives as long as the program
pub record CWhole : Type 0 where
  pub is_static : Bool
  pub type : CTy

pub record IsKnownWhole (opens : List ℕ) (types : CTypes) (unit : ℕ) (type : CTy) : Type 0 where
  pub known : IsKnownType opens types unit type
  pub object : IsObjectForm (form_of_type type)

-- each member on the way to a part has a name; the length of an array may still be open (6.7.8p9)
abbrev pub is_named_by : CTypes → Option CTy → List ℕ → Bool
is_named_by types found [] = true
is_named_by types None (index ∷ path) = true
is_named_by types (Some type) (index ∷ path) = has_name (member_of types (form_of_type type) index) && is_named_by types (part_type types type index) path

-- a path leads to a part of this type, over named members alone
pub record IsPart (types : CTypes) (whole : CTy) (at : CAt) : Type 0 where
  pub there : type_by types (Some whole) at.path ≡ Some at.type
  pub named : is_named_by types (Some whole) at.path ≡ true

-- ---- what is stored

-- a value that is stored is for a part of the object that is no array
pub record IsStored (types : CTypes) (whole : CTy) (one : CStored) : Type 0 where
  pub part : type_by types (Some whole) one.path ≡ Some one.type
  pub named : is_named_by types (Some whole) one.path ≡ true
  pub no_array : IsResultForm (form_of_type one.type)

-- it is typed, of the type of that part; in an object that lives as long as the program it is a constant, and typed outside of functions, too
pub record IsTypedStored (home : CHome) (is_static : Bool) (one : CStored) : Type 0 where
  pub typed : IsTyped home one.value
  pub type_is : type_of one.value ≡ unqualified one.type
  pub constant : is_static ≡ true → IsConstant home.program one.value
  pub outside : is_static ≡ true → IsTyped (home_of home.program home.mentions home.unit) one.value

abbrev pub EachStored : (CStored → Type 0) → List CStored → Type 0
EachStored P [] = Unit {0}
EachStored P (one ∷ others) = P one × EachStored P others

-- what was stored from a place of a unit to a later one
pub record AreStored (opens : List ℕ) (whole : CWhole) (before : CScope) (stored : List CStored) (after : CScope) : Type 0 where
  pub good : IsGood opens after
  pub passes : Passes opens before after
  pub object : IsKnownWhole opens after.types after.unit whole.type
  pub parts : EachStored (IsStored after.types whole.type) stored
  pub typed : (home : CHome) → Serves home opens before after → EachStored (IsTypedStored home whole.is_static) stored
  pub made : AreTypedLiterals opens before after

-- a part of the whole object, by its place in the part that the innermost list in braces is for
pub record IsPlaced (types : CTypes) (whole : CTy) (target : CTarget) (at : Option CAt) : Type 0 where
  pub part : IfSome (from_whole target.base at) (IsPart types whole)
  pub based : IsSome at → IsSome target.base

-- and where the next value stands
pub record IsFilling (opens : List ℕ) (whole : CWhole) (target : CTarget) (before : CScope) (filling : CFilling) (after : CScope) : Type 0 where
  pub stored : AreStored opens whole before filling.stored after
  pub next : IsPlaced after.types whole.type target filling.next

-- where designators lead to
pub record IsDesignated (opens : List ℕ) (whole : CWhole) (target : CTarget) (before : CScope) (values : List CStored) (at : Option CAt) (after : CScope) : Type 0 where
  pub stored : AreStored opens whole before values after
  pub at_is : IsPlaced after.types whole.type target at

-- the target of a list in braces is a part of the object
pub record IsTarget (types : CTypes) (whole : CWhole) (target : CTarget) : Type 0 where
  pub is_static : target.is_static ≡ whole.is_static
  pub base : IfSome target.base (IsPart types whole.type)

-- a structure or union that has parts is completed
abbrev IsOpenedForm : CTypes → CTyForm → Type 0
IsOpenedForm types (record_type number) = IsSome (record_at types number)
IsOpenedForm types _ = Unit {0}

abbrev pub IsOpened : CTypes → CTy → Type 0
IsOpened types type = IsOpenedForm types (form_of_type type)

abbrev pub IsOpenedAt : CTypes → Option CAt → Type 0
IsOpenedAt types at = IfSome at (λ one. IsOpened types one.type)

-- ---- what is left behind a list, an entry, a value and a designator

-- something is stored in a part that is there
pub record IsListed (opens : List ℕ) (whole : CWhole) (target : CTarget) (before start : CScope) (values : List CStored) (after : CScope) : Type 0 where
  pub goes : Grows opens start.types after.types
  pub stored : AreStored opens whole before values after
  pub some : 0 < length values
  pub based : IsSome target.base
  pub opened : IsOpenedAt after.types target.base

pub record AreEntered (opens : List ℕ) (whole : CWhole) (before start : CScope) (was values : List CStored) (after : CScope) : Type 0 where
  pub goes : Grows opens start.types after.types
  pub stored : AreStored opens whole before values after
  pub some : 0 < length was → 0 < length values

pub record IsEntered (opens : List ℕ) (whole : CWhole) (target : CTarget) (before start : CScope) (was next : CFilling) (after : CScope) : Type 0 where
  pub goes : Grows opens start.types after.types
  pub filling : IsFilling opens whole target before next after
  pub some : 0 < length next.stored
  pub based : IsSome target.base
  -- where no designator says so, the place was known before
  pub opened : IsSome was.next ⊎ IsOpenedAt after.types target.base

pub record IsGiven (opens : List ℕ) (whole : CWhole) (target : CTarget) (before start : CScope) (at : Option CAt) (next : CFilling) (after : CScope) : Type 0 where
  pub goes : Grows opens start.types after.types
  pub filling : IsFilling opens whole target before next after
  pub some : 0 < length next.stored
  pub placed : IsSome at

pub record IsStep (opens : List ℕ) (whole : CWhole) (target : CTarget) (before start : CScope) (stored : List CStored) (from at : Option CAt) (after : CScope) : Type 0 where
  pub goes : Grows opens start.types after.types
  pub designated : IsDesignated opens whole target before stored at after
  pub placed : IsSome from
  pub opened : IsOpenedAt after.types from

pub record IsLed (opens : List ℕ) (whole : CWhole) (target : CTarget) (before start : CScope) (values : List CStored) (at : Option CAt) (after : CScope) : Type 0 where
  pub goes : Grows opens start.types after.types
  pub designated : IsDesignated opens whole target before values at after

-- ---- form by form

-- the initialiser of a whole object
pub record IsInitialised (opens : List ℕ) (whole : CWhole) (before : CScope) (values : List CStored) (after : CScope) : Type 0 where
  pub stored : AreStored opens whole before values after
  pub some : 0 < length values

abbrev pub InitialiserGoes : InitialiserTree → Type 0
InitialiserGoes tree = (opens : List ℕ) (whole : CWhole) (scope : CScope) → IsGood opens scope → IsKnownWhole opens scope.types scope.unit whole.type
    → Ends (seen_initialiser (whole_target whole.is_static (Some whole.type)) tree) scope (IsInitialised opens whole scope)

-- where there is no object to be initialised something is broken
abbrev pub NothingToFill : InitialiserTree → Type 0
NothingToFill tree = (opens : List ℕ) (is_static : Bool) (scope : CScope) → IsGood opens scope → Ends (seen_initialiser (whole_target is_static None) tree) scope (λ stored after. ⊥)

-- a list in braces for a part of an object, of which other parts have been given
abbrev pub ListGoes : InitialiserListTree → Type 0
ListGoes tree = (opens : List ℕ) (whole : CWhole) (target : CTarget) (stored : List CStored) (before start : CScope) → IsTarget start.types whole target
    → AreStored opens whole before stored start
    → Ends (walk.list_walk Seen seen_gives seen_chain seen_here seen_becomes seen_look target stored tree) start (IsListed opens whole target before start)

abbrev pub EntriesGo : EntryTrees → Type 0
EntriesGo trees = (opens : List ℕ) (whole : CWhole) (target : CTarget) (filling : CFilling) (before start : CScope) → IsTarget start.types whole target
    → IsFilling opens whole target before filling start
    → Ends (walk.entries_walk Seen seen_gives seen_chain seen_here seen_becomes seen_look target filling trees) start (AreEntered opens whole before start filling.stored)

abbrev pub EntryGoes : EntryTree → Type 0
EntryGoes tree = (opens : List ℕ) (whole : CWhole) (target : CTarget) (filling : CFilling) (before start : CScope) → IsTarget start.types whole target
    → IsFilling opens whole target before filling start
    → Ends (walk.entry_walk Seen seen_gives seen_chain seen_here seen_becomes seen_look target filling tree) start (IsEntered opens whole target before start filling)

-- what is given for a part
abbrev pub GivenGoes : InitialiserTree → Type 0
GivenGoes tree = (opens : List ℕ) (whole : CWhole) (target : CTarget) (at : Option CAt) (filling : CFilling) (before start : CScope) → IsTarget start.types whole target
    → IsDesignated opens whole target before filling.stored at start
    → Ends (walk.given_walk Seen seen_gives seen_chain seen_here seen_becomes seen_look target at filling tree) start (IsGiven opens whole target before start at)

abbrev pub DesignatorGoes : DesignatorTree → Type 0
DesignatorGoes tree = (opens : List ℕ) (whole : CWhole) (target : CTarget) (at : Option CAt) (stored : List CStored) (before start : CScope) → IsTarget start.types whole target
    → IsDesignated opens whole target before stored at start
    → Ends (walk.designator_walk Seen seen_gives seen_chain seen_here seen_becomes seen_look at tree) start (IsStep opens whole target before start stored at)

abbrev pub DesignatorsGo : DesignatorTrees → Type 0
DesignatorsGo trees = (opens : List ℕ) (whole : CWhole) (target : CTarget) (at : Option CAt) (stored : List CStored) (before start : CScope) → IsTarget start.types whole target
    → IsDesignated opens whole target before stored at start
    → Ends (walk.designators_walk Seen seen_gives seen_chain seen_here seen_becomes seen_look at trees) start (IsLed opens whole target before start stored)

pub record InitialiserFormsGo : Type 0 where
  pub single : (value : ExprTree) → ExprGoes value → InitialiserGoes (Single value)
  pub braced : (list : InitialiserListTree) → ListGoes list → InitialiserGoes (Braced list)
  pub single_nowhere : (value : ExprTree) → ExprGoes value → NothingToFill (Single value)
  pub braced_nowhere : (list : InitialiserListTree) → ListGoes list → NothingToFill (Braced list)
  -- a list has at least one entry (6.7.8p1)
  pub list : (first : EntryTree) (others : EntryTrees) (last_comma : Bool) (lines : List ℕ) → EntryGoes first → EntriesGo others → ListGoes (InitialiserList (more_entries first others) last_comma lines)
  pub none : EntriesGo no_entries
  pub more : (first : EntryTree) (others : EntryTrees) → EntryGoes first → EntriesGo others → EntriesGo (more_entries first others)
  pub entry : (init : InitialiserTree) (lines : List ℕ) → GivenGoes init → EntryGoes (Entry no_designators init lines)
  pub designated : (first : DesignatorTree) (others : DesignatorTrees) (init : InitialiserTree) (lines : List ℕ) → DesignatorGoes first → DesignatorsGo others → GivenGoes init
      → EntryGoes (Entry (more_designators first others) init lines)
  pub given : (value : ExprTree) → ExprGoes value → GivenGoes (Single value)
  pub given_list : (list : InitialiserListTree) → ListGoes list → GivenGoes (Braced list)
  pub element : (index : ExprTree) (lines : List ℕ) → ExprGoes index → DesignatorGoes (Element index lines)
  pub member : (name lines : List ℕ) → DesignatorGoes (Member name lines)
  pub no_more : DesignatorsGo no_designators
  pub more_designators : (first : DesignatorTree) (others : DesignatorTrees) → DesignatorGoes first → DesignatorsGo others → DesignatorsGo (more_designators first others)

-- an array without length gets one element or more, and isn't too large where a rule says so (6.7.8p22)
abbrev pub CompletedTypesAreKnown : Type 0
CompletedTypesAreKnown = (opens : List ℕ) (types : CTypes) (unit : ℕ) (type : CTy) (stored : List CStored) → IsKnownWhole opens types unit type → EachStored (IsStored types type) stored → 0 < length stored
    → is_too_large types (completed_type type stored) ≡ false → IsKnownWhole opens types unit (completed_type type stored)

-- ---- what is filled

-- the puts of what is stored are typed in each program that serves the stretch, and constants for an object that lives as long as the program
pub record IsFilled (opens : List ℕ) (whole : CWhole) (stored : List CStored) (before after : CScope) : Type 0 where
  pub typed : (home : CHome) → Serves home opens before after
      → AreTypedPuts home (filled_object after.types whole.type stored).type (filled_object after.types whole.type stored).puts
  pub constant : (home : CHome) → Serves home opens before after → whole.is_static ≡ true → AreConstantPuts home.program (filled_object after.types whole.type stored).puts
  pub outside : (home : CHome) → Serves home opens before after → whole.is_static ≡ true
      → AreTypedPuts (home_of home.program home.mentions home.unit) (filled_object after.types whole.type stored).type (filled_object after.types whole.type stored).puts

abbrev pub StoredValuesFill : Type 0
StoredValuesFill = (opens : List ℕ) (whole : CWhole) (stored : List CStored) (before after : CScope) → AreStored opens whole before stored after → IsFilled opens whole stored before after
