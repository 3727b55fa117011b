-- The parameters that a declarator of a function declares (ISO C99, 6.7.5.3, 6.9.1).
use Rattle.std.proofs.Common.{◌≡◌, ◌⊎◌, inl, inr, ℕ, suc, ◌≤◌, Bool, true, false, if◌then◌else◌, List, [], ◌∷◌, Option, None, Some, bytes_eq, refl, sym, subst, arith}
use Rattle.cx_core.specs.declared.program.Linkage.TheVariants.{Nothing}
use Rattle.cx_core.specs.Trees.{CTy}
use Rattle.cx_rules.proofs.NodesAgree.{s_params_walk, s_param_walk}
use Rattle.cx_rules.specs.Pieces.{param_list, param_as, with_param}
use Rattle.cx_rules.specs.Readings.{Seen}
use Rattle.cx_rules.specs.Scope.{CMeant, an_object, CScope, ordinary}
use Rattle.cx_rules.specs.Shapes.{CSpecs, no_specs_yet, CParam}
use Rattle.cx_rules.specs.Types.{is_void}
use Rattle.cx_tree.specs.Trees.{ParamTree, Param, ParamTrees, no_params, more_params}
use Rattle.cx_typed.proofs.Goes.{go_gives, go_here_then, go_chain, go_settled, go_changed}
use Rattle.cx_typed.proofs.Params.{param_goes, no_params_go, more_params_go}
use Rattle.cx_typed.proofs.Scopes.{passes_on}
use Rattle.cx_typed.proofs.Spelled.{spelled_trees}
use Rattle.cx_typed.specs.Declarators.{IsShape}
use Rattle.cx_typed.specs.Params.{ParamGoes, ParamsGo}
use Rattle.cx_typed.specs.Scopes.{is_thing, Passes}
use Rattle.cx_typed.specs.Specifiers.{AreSpecs}
use Rattle.cx_typed.specs.Spelled.{AreSpelledParams, IsSpelledParam}
use Rattle.cx_typed.specs.Walked.{IsGood, Ends}

-- ---- parameters and their numbers

-- the objects of parameters have numbers in order, from one number on and below another
abbrev pub AreFrom : ℕ → List CParam → ℕ → Type 0
AreFrom low [] high = low ≤ high
AreFrom low (one ∷ others) high = (low ≤ one.object) × AreFrom (suc one.object) others high

-- it is the object of a parameter
abbrev pub IsParamMeant : List CParam → CMeant → Type 0
IsParamMeant [] meant = ⊥
IsParamMeant (one ∷ others) meant = (meant ≡ an_object one.object one.type one.is_register Nothing) ⊎ IsParamMeant others meant

pub record AreOwn (before : CScope) (params : List CParam) (after : CScope) : Type 0 where
  pub numbers : AreFrom before.next_object params after.next_object
  pub things : (name : List ℕ) (meant : CMeant) → is_thing meant ≡ true → ordinary name after.declared ≡ Some meant → (ordinary name before.declared ≡ Some meant) ⊎ IsParamMeant params meant

pub from_lower : (few low : ℕ) (params : List CParam) (high : ℕ) → few ≤ low → AreFrom low params high → AreFrom few params high
from_lower few low [] high less held = omega (arith, less, held)
from_lower few low (one ∷ others) high less held = (let h : low ≤ one.object = held.0 in omega (arith, less, h), held.1)

pub from_higher : (low : ℕ) (params : List CParam) (high many : ℕ) → high ≤ many → AreFrom low params high → AreFrom low params many
from_higher low [] high many more held = omega (arith, more, held)
from_higher low (one ∷ others) high many more held = (held.0, from_higher (suc one.object) others high many more held.1)

none_own : (scope : CScope) → AreOwn scope [] scope
none_own scope = record { numbers = omega arith; things = λ name meant thing is. inl is }

module _ (before middle after : CScope) (more : List CParam) (second : AreOwn middle more after) where
  both_own : (found : Option CParam) → AreOwn before (param_list found []) middle → AreOwn before (param_list found more) after
  both_own None first = record {
    numbers = from_lower before.next_object middle.next_object more after.next_object first.numbers second.numbers;
    things = λ name meant thing is. none_by name meant thing (second.things name meant thing is);
  }
    where
      none_by : (name : List ℕ) (meant : CMeant) → is_thing meant ≡ true → (ordinary name middle.declared ≡ Some meant) ⊎ IsParamMeant more meant → (ordinary name before.declared ≡ Some meant) ⊎ IsParamMeant more meant
      none_by name meant thing (inl at) = early (first.things name meant thing at)
        where
          early : (ordinary name before.declared ≡ Some meant) ⊎ IsParamMeant [] meant → (ordinary name before.declared ≡ Some meant) ⊎ IsParamMeant more meant
          early (inl was) = inl was
          early (inr nothing) = absurd nothing
      none_by name meant thing (inr of) = inr of
  both_own (Some one) first = record {
    numbers = (first.numbers.0, from_lower (suc one.object) middle.next_object more after.next_object first.numbers.1 second.numbers);
    things = λ name meant thing is. some_by name meant thing (second.things name meant thing is);
  }
    where
      some_by : (name : List ℕ) (meant : CMeant) → is_thing meant ≡ true → (ordinary name middle.declared ≡ Some meant) ⊎ IsParamMeant more meant
          → (ordinary name before.declared ≡ Some meant) ⊎ IsParamMeant (one ∷ more) meant
      some_by name meant thing (inl at) = early (first.things name meant thing at)
        where
          early : (ordinary name before.declared ≡ Some meant) ⊎ IsParamMeant (one ∷ []) meant → (ordinary name before.declared ≡ Some meant) ⊎ IsParamMeant (one ∷ more) meant
          early (inl was) = inl was
          early (inr (inl own)) = inr (inl own)
          early (inr (inr nothing)) = absurd nothing
      some_by name meant thing (inr of) = inr (inr of)

-- ---- a parameter

module _ (opens : List ℕ) (before scope : CScope) (passes : Passes opens before scope) where
  param_own : (name : Option (List ℕ)) (one : CParam) → one.object ≡ scope.next_object → AreOwn before (one ∷ []) (with_param (Some (record one { name = name })) scope)
  param_own None one number = record {
    numbers = (
      let h : before.next_object ≤ scope.next_object = passes.numbers.grows in omega (arith, h, number),
      omega (arith, number),
    );
    things = λ name meant thing is. inl (passes.declared name meant thing is);
  }
  param_own (Some own) one number = record {
    numbers = (
      let h : before.next_object ≤ scope.next_object = passes.numbers.grows in omega (arith, h, number),
      omega (arith, number),
    );
    things = λ name meant thing is. own_by name meant thing (bytes_eq own name) is;
  }
    where
      own_by : (name : List ℕ) (meant : CMeant) → is_thing meant ≡ true → (same : Bool) → (if same then Some (an_object one.object one.type one.is_register Nothing) else ordinary name scope.declared) ≡ Some meant
          → (ordinary name before.declared ≡ Some meant) ⊎ IsParamMeant (one ∷ []) meant
      own_by name meant thing true is = inr (inl (let e : an_object one.object one.type one.is_register Nothing ≡ meant = cc in sym e))
      own_by name meant thing false is = inl (passes.declared name meant thing is)

  param_by : (specs : CSpecs) (name : Option (List ℕ)) (type : CTy) (test : Bool)
      → AreOwn before (param_list (if test then None else Some (param_as scope specs name type)) []) (with_param (if test then None else Some (param_as scope specs name type)) scope)
  param_by specs name type true = record { numbers = passes.numbers.grows; things = λ other meant thing is. inl (passes.declared other meant thing is) }
  param_by specs name type false = param_own name (param_as scope specs name type) refl

pub both_ends : {A : Type 0} (walked : Seen A) (scope : CScope) (P Q : A → CScope → Type 0) → Ends walked scope P → Ends walked scope Q → Ends walked scope (λ value after. P value after × Q value after)
both_ends walked scope P Q first second = record { ends = λ fine. (first.ends fine, second.ends fine) }

own_param : (tree : ParamTree) → IsSpelledParam tree → (is_only : Bool) (opens : List ℕ) (scope : CScope) → IsGood opens scope → Ends (s_param_walk is_only tree) scope (λ found after. AreOwn scope (param_list found []) after)
own_param (Param specs declarator lines) spelled is_only opens scope good =
    go_chain _ _ _ _ scope (AreSpecs opens scope) _ (spelled_trees.specifiers specs spelled.0 opens false no_specs_yet scope good tt) (λ all middle held.
    go_chain _ _ _ _ middle (λ done last. AreSpecs opens scope all last) _ (go_here_then _ _ middle _ (go_settled _ middle _ _ _ middle (λ done last. AreSpecs opens scope all last) (λ unbroken. held))) (λ done last seen.
    go_chain _ _ _ _ last (IsShape opens last) _ (spelled_trees.declarators declarator spelled.1 opens last seen.good) (λ shape later behind.
    go_chain _ _ _ _ later (λ type after. after ≡ later) _ (go_here_then _ _ later _ (go_settled _ later _ _ _ later (λ type after. after ≡ later) (λ unbroken. refl))) (λ type after same.
    go_here_then _ _ after _ (go_changed _ after _ _ _ _ after _ (λ unbroken.
    param_by opens scope after (subst (Passes opens scope) (sym same) (passes_on opens scope last later seen.passes behind.passes)) all shape.name type (is_void type)))))))

pub params_are : (trees : ParamTrees) → AreSpelledParams trees → ParamsGo trees
params_are no_params spelled = no_params_go
params_are (more_params (Param specs declarator lines) others) spelled =
    more_params_go (Param specs declarator lines) others (param_goes specs declarator lines (spelled_trees.specifiers specs spelled.0.0) (spelled_trees.declarators declarator spelled.0.1)) (params_are others spelled.1)

param_is : (tree : ParamTree) → IsSpelledParam tree → ParamGoes tree
param_is (Param specs declarator lines) spelled = param_goes specs declarator lines (spelled_trees.specifiers specs spelled.0) (spelled_trees.declarators declarator spelled.1)

pub own_params : (trees : ParamTrees) → AreSpelledParams trees → (is_only : Bool) (opens : List ℕ) (scope : CScope) → IsGood opens scope → Ends (s_params_walk is_only trees) scope (λ params after. AreOwn scope params after)
own_params no_params spelled is_only opens scope good = go_gives [] scope _ (none_own scope)
own_params (more_params first others) spelled is_only opens scope good =
    go_chain _ _ _ _ scope (λ found middle. IsGood opens middle × AreOwn scope (param_list found []) middle) _
    (record {
      ends = λ fine. (((param_is first spelled.0 opens is_only scope good).ends fine).good, (own_param first spelled.0 is_only opens scope good).ends fine);
    }) (λ found middle held.
    go_chain _ _ _ _ middle (λ params after. AreOwn middle params after) _ (own_params others spelled.1 false opens middle held.0) (λ params after more.
    go_gives _ after _ (both_own scope middle after params more found held.1)))
