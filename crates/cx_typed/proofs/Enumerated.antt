-- The walk over enumerators (ISO C99, 6.7.2.2).
use Rattle.std.proofs.Common.{◌≡◌, ℕ, ℤ, Bool, true, false, if◌then◌else◌, List, [], ◌∷◌, ◌++◌, length, Option, None, Some, bytes_eq, slice_get, refl, sym, ap, ◌∙◌, subst, append_assoc, arith}
use Rattle.std.specs.Prelude.{IfSome}
use Rattle.cr_base.specs.Scalar.{IsInRange}
use Rattle.cx_rules.proofs.NodesAgree.{s_enum_begins, s_enum_ends, s_enumerator_as, s_enumerator_seen}
use Rattle.cx_rules.specs.Lines.{own_line}
use Rattle.cx_rules.specs.Nodes.{enumerator_node}
use Rattle.cx_rules.specs.Operands.{COperand, value_of}
use Rattle.cx_rules.specs.Pieces.{with_open_enum, with_closed_enum}
use Rattle.cx_rules.specs.Scope.{CMeant, an_enumerator, a_tag, CScope, ordinary, with_declared}
use Rattle.cx_tree.specs.Trees.{OptionExprTree, Enum, some_enumerator_list, EnumeratorTree, Enumerator, EnumeratorTrees, no_enumerators, more_enumerators}
use Rattle.cx_typed.proofs.Constants.{constants}
use Rattle.cx_typed.proofs.Goes.{go_gives, go_becomes, go_here_then, go_chain, go_changed}
use Rattle.cx_typed.proofs.OfNumbers.{constant_numbers}
use Rattle.cx_typed.proofs.Opened.{begun_good, ended_good, ended_there, ended_closed, whole_grows}
use Rattle.cx_typed.proofs.Numbered.{numbers_by}
use Rattle.cx_typed.proofs.Scopes.{grows_not, passes_on, stays_itself}
use Rattle.cx_typed.proofs.Specifiers.{behind_known, types_on}
use Rattle.cx_typed.proofs.Walked.{standing_of}
use Rattle.cx_typed.specs.Completed.{IsWritten, OptionGoes}
use Rattle.cx_typed.specs.Constants.{int_scalar, IsOfNumbers}
use Rattle.cx_typed.specs.Enumerated.{AreEnumerators, EnumeratorGoes, EnumeratorsGo}
use Rattle.cx_typed.specs.Names.{IsKnownMeant}
use Rattle.cx_typed.specs.Scopes.{Passes, is_thing}
use Rattle.cx_typed.specs.Specifiers.{AreSpecs, SpecGoes}
use Rattle.cx_typed.specs.Unbroken.{IsUnbroken}
use Rattle.cx_typed.specs.Walked.{IsGood, Ends}

-- ---- an enumerator

module _ (opens : List ℕ) (scope : CScope) (good : IsGood opens scope) (name : List ℕ) (value : ℤ) (fits : IsInRange int_scalar value) where
  abbrev declared : CScope
  declared = with_declared name (an_enumerator value) scope

  known_by : (other : List ℕ) (meant : CMeant) (test : Bool) → (if test then Some (an_enumerator value) else ordinary other scope.declared) ≡ Some meant → IsKnownMeant opens scope.types scope.unit meant
  known_by other meant true is = (let e : an_enumerator value ≡ meant = cc in subst (IsKnownMeant opens scope.types scope.unit) e fits)
  known_by other meant false is = good.known other meant is

  declared_good : IsGood opens declared
  declared_good = record { sound = good.sound; known = λ other meant is. known_by other meant (bytes_eq name other) is; tags = good.tags }

  thing_by : (other : List ℕ) (meant : CMeant) (test : Bool) → is_thing meant ≡ true → (if test then Some (an_enumerator value) else ordinary other scope.declared) ≡ Some meant
      → ordinary other scope.declared ≡ Some meant
  thing_by other meant true thing is = absurd (let e : an_enumerator value ≡ meant = cc in let h : false ≡ true = ap is_thing e ∙ thing in cc)
  thing_by other meant false thing is = is

  declared_passes : Passes opens scope declared
  declared_passes = record {
    unit_is = refl;
    grows = grows_not opens scope.types;
    declared = λ other meant thing is. thing_by other meant (bytes_eq name other) thing is;
    mentions = λ index x is. is;
    literals = λ index x is. is;
    front = record { name = name; meant = an_enumerator value } ∷ [];
    declared_is = refl;
    begins_is = refl;
    rest_is = refl;
    numbers = numbers_by scope declared (omega arith) refl;
  }

module _ (opens : List ℕ) (before scope : CScope) (tree : OptionExprTree) (name : List ℕ) (line : ℕ) where
  enumerator_numbers : (written : Option COperand) (value : ℤ) → IsUnbroken scope scope.types (enumerator_node name written value) → IfSome written (λ one. IsOfNumbers (value_of one))
  enumerator_numbers None value unbroken = tt
  enumerator_numbers (Some one) value unbroken = constant_numbers scope.types (value_of one) unbroken.k17

  enumerator_is : (written : Option COperand) (value : ℤ) → IsWritten opens tree before written scope
      → Ends (s_enumerator_as scope name line written value) scope (λ found after. AreEnumerators opens before after)
  enumerator_is written value held =
      go_changed _ scope line _ _ _ scope (λ found after. AreEnumerators opens before after) (λ unbroken.
      let fits = (constants (standing_of opens scope line)).enumerator name written value unbroken in
      record {
        good = declared_good opens scope held.good name value fits;
        passes = passes_on opens before scope (with_declared name (an_enumerator value) scope) held.passes (declared_passes opens scope held.good name value fits);
        makes_none = held.makes_none (enumerator_numbers written value unbroken);
      })

  enumerator_by : (next : ℤ) (written : Option COperand) → IsWritten opens tree before written scope → Ends (s_enumerator_seen name line next written) scope (λ found after. AreEnumerators opens before after)
  enumerator_by next None held = go_here_then _ _ scope _ (enumerator_is None next held)
  enumerator_by next (Some one) held = go_here_then _ _ scope _ (enumerator_is (Some one) _ held)

pub enumerator_goes : (name : List ℕ) (value : OptionExprTree) (lines : List ℕ) → OptionGoes value → EnumeratorGoes (Enumerator name value lines)
enumerator_goes name value lines first opens next scope good =
    go_chain _ _ _ _ scope (IsWritten opens value scope) _ (first opens scope good) (λ written after held. enumerator_by opens scope after value name (own_line lines) next written held)

pub no_enumerators_go : EnumeratorsGo no_enumerators
no_enumerators_go opens next negative scope good = go_gives negative scope _ (record { good = good; passes = stays_itself opens scope; makes_none = refl })

pub more_enumerators_go : (first : EnumeratorTree) (others : EnumeratorTrees) → EnumeratorGoes first → EnumeratorsGo others → EnumeratorsGo (more_enumerators first others)
more_enumerators_go first others one more opens next negative scope good =
    go_chain _ _ _ _ scope (λ value after. AreEnumerators opens scope after) _ (one opens next scope good) (λ value middle held.
    record {
      ends = λ fine.
          let last = (more opens _ _ middle held.good).ends fine in
          record { good = last.good; passes = passes_on opens scope middle _ held.passes last.passes; makes_none = last.makes_none ∙ held.makes_none };
    })

-- ---- an enumerated type with its list

record IsEnumBegun (opens : List ℕ) (start : CScope) (name : Option (List ℕ)) (value after : CScope) : Type 0 where
  value_is : value ≡ start
  after_is : after ≡ with_open_enum name start

enum_begins : (opens : List ℕ) (name : Option (List ℕ)) (scope : CScope) → Ends (s_enum_begins name) scope (IsEnumBegun opens scope name)
enum_begins opens name scope =
    go_here_then _ _ scope _ (go_chain _ _ _ _ scope (λ done after. after ≡ with_open_enum name scope) _ (go_becomes (with_open_enum name scope) scope (λ done after. after ≡ with_open_enum name scope) refl) (λ done after is.
    go_gives scope after _ (record { value_is = refl; after_is = is })))

module _ (opens : List ℕ) (scope : CScope) (good : IsGood opens scope) (negative : Bool) where
  abbrev number : ℕ
  number = length scope.types.enums

  module _ (middle : CScope) where
    enum_passes : (name : Option (List ℕ)) → AreEnumerators (number ∷ opens) (with_open_enum name scope) middle → Passes opens scope (with_closed_enum name number negative middle)
    enum_passes None held = record {
      unit_is = held.passes.unit_is;
      grows = whole_grows opens scope good None middle held.passes held.good negative;
      declared = λ other meant thing is. held.passes.declared other meant thing is;
      mentions = held.passes.mentions;
      literals = held.passes.literals;
      front = held.passes.front;
      declared_is = held.passes.declared_is;
      begins_is = held.passes.begins_is;
      rest_is = held.passes.rest_is;
      numbers = numbers_by scope (with_closed_enum None number negative middle) held.passes.numbers.grows held.makes_none;
    }
    enum_passes (Some name) held = record {
      unit_is = held.passes.unit_is;
      grows = whole_grows opens scope good (Some name) middle held.passes held.good negative;
      declared = λ other meant thing is. held.passes.declared other meant thing is;
      mentions = held.passes.mentions;
      literals = held.passes.literals;
      front = record { name = name; meant = a_tag false false number } ∷ (held.passes.front ++ record { name = name; meant = a_tag false true number } ∷ []);
      declared_is = ap (λ declared. record { name = name; meant = a_tag false false number } ∷ declared)
          (held.passes.declared_is ∙ sym (append_assoc held.passes.front (record { name = name; meant = a_tag false true number } ∷ []) scope.declared));
      begins_is = held.passes.begins_is;
      rest_is = held.passes.rest_is;
      numbers = numbers_by scope (with_closed_enum (Some name) number negative middle) held.passes.numbers.grows held.makes_none;
    }

    closed_there : (name : Option (List ℕ)) → AreEnumerators (number ∷ opens) (with_open_enum name scope) middle
        → slice_get (with_closed_enum name number negative middle).types.enum_units number ≡ Some (with_closed_enum name number negative middle).unit
    closed_there None held = ended_there opens scope good None middle held.passes held.good negative
    closed_there (Some name) held = ended_there opens scope good (Some name) middle held.passes held.good negative

    enum_makes_none : (name : Option (List ℕ)) → AreEnumerators (number ∷ opens) (with_open_enum name scope) middle → (with_closed_enum name number negative middle).literals ≡ scope.literals
    enum_makes_none None held = held.makes_none
    enum_makes_none (Some name) held = held.makes_none

pub enum_list_goes : (name : Option (List ℕ)) (list : EnumeratorTrees) (last_comma : Bool) (lines : List ℕ) → EnumeratorsGo list → SpecGoes (Enum name (some_enumerator_list list) last_comma lines)
enum_list_goes name list last_comma lines first opens alone specs scope good held =
    go_chain _ _ _ _ scope (IsEnumBegun opens scope name) _ (enum_begins opens name scope) (λ before start begun.
    go_chain _ _ _ _ start (λ negative middle. AreEnumerators (length scope.types.enums ∷ opens) start middle) _
    (first (length scope.types.enums ∷ opens) _ _ start (subst (IsGood (length scope.types.enums ∷ opens)) (sym begun.after_is) (begun_good opens scope good name))) (λ negative middle are.
    subst (λ value. Ends (s_enum_ends value specs name (own_line lines) negative) middle (AreSpecs opens scope)) (sym begun.value_is)
    (go_here_then _ _ middle _ (go_changed _ middle _ _ _ _ middle _ (λ unbroken.
    let listed = subst (λ one. AreEnumerators (length scope.types.enums ∷ opens) one middle) begun.after_is are in
    let after = with_closed_enum name (length scope.types.enums) negative middle in
    let passes = enum_passes opens scope good negative middle name listed in
    record {
      good = ended_good opens scope good name middle listed.passes listed.good negative;
      passes = passes;
      makes_none = enum_makes_none opens scope good negative middle name listed;
      known = behind_known opens after.types after.unit specs.types _ (types_on opens scope after specs.types passes held)
          (record { type_in = closed_there opens scope good negative middle name listed; settled = ended_closed opens scope good name middle listed.passes listed.good negative });
    })))))
