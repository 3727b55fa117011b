-- The walk over specifiers (ISO C99, 6.7.2, 6.7.7).
use Rattle.std.proofs.Common.{◌≡◌, ℕ, Bool, true, false, ◌||◌, List, [], ◌∷◌, ◌++◌, length, Option, None, Some, refl, sym, ◌∙◌, subst}
use Rattle.cx_core.specs.Trees.{CTy, ty, enum_type, record_type, CTypes}
use Rattle.cx_lex.specs.declared.token.Keyword.{Keyword}
use Rattle.cx_lex.specs.declared.token.Keyword.TheVariants as keyword
use Rattle.cx_rules.specs.Nodes.{enum_use_node, record_use_node}
use Rattle.cx_rules.specs.Pieces.{typedef_type, typedef_in, find_tag, seen_tag, tag_number, with_used}
use Rattle.cx_rules.specs.Rules.{is_other_kind}
use Rattle.cx_rules.specs.Readings.{Seen, seen_gives, seen_chain, seen_here, seen_becomes, seen_look}
use Rattle.cx_rules.specs.Scope.{CMeant, an_object, a_function, a_type_name, an_enumerator, a_tag, CTag, CScope, ordinary}
use Rattle.cx_rules.specs.Shapes.{CSpecs, with_key, with_type}
use Rattle.cx_rules.specs.Walk as walk
use Rattle.cx_tree.specs.Trees.{SpecTree, Key, Typedef, Record, Enum, no_members, no_enumerator_list, SpecTrees, no_specs, more_specs}
use Rattle.cx_typed.proofs.Goes.{go_gives, go_here_then, go_chain, go_settled, go_changed}
use Rattle.cx_typed.proofs.Promoted.{neither, not_not}
use Rattle.cx_typed.proofs.Scopes.{passes_on, stays_itself}
use Rattle.cx_typed.proofs.Tags.{IsTagOf, seen_known, there, used_good, used_passes, used_makes_none}
use Rattle.cx_typed.proofs.Walked.{type_on}
use Rattle.cx_typed.specs.Names.{IsKnownTag}
use Rattle.cx_typed.specs.Operands.{IsKnownType}
use Rattle.cx_typed.specs.Scopes.{Passes}
use Rattle.cx_typed.specs.Specifiers.{AreKnownTypes, AreSpecs, SpecGoes, SpecsGo, SpecFormsGo}
use Rattle.cx_typed.specs.Unbroken.{IsUnbroken}
use Rattle.cx_typed.specs.Walked.{IsGood, Ends}

-- ---- types that are named

pub behind_known : (opens : List ℕ) (types : CTypes) (unit : ℕ) (before : List CTy) (type : CTy) → AreKnownTypes opens types unit before → IsKnownType opens types unit type
    → AreKnownTypes opens types unit (before ++ type ∷ [])
behind_known opens types unit [] type held known = (known, tt)
behind_known opens types unit (first ∷ before) type held known = (held.0, behind_known opens types unit before type held.1 known)

-- a keyword names none
key_types : (word : Keyword) (specs : CSpecs) → (with_key word specs).types ≡ specs.types
key_types keyword.Auto specs = refl
key_types keyword.Break specs = refl
key_types keyword.Case specs = refl
key_types keyword.Char specs = refl
key_types keyword.Const specs = refl
key_types keyword.Continue specs = refl
key_types keyword.Default specs = refl
key_types keyword.Do specs = refl
key_types keyword.Double specs = refl
key_types keyword.Else specs = refl
key_types keyword.Enum specs = refl
key_types keyword.Extern specs = refl
key_types keyword.Float specs = refl
key_types keyword.For specs = refl
key_types keyword.Goto specs = refl
key_types keyword.If specs = refl
key_types keyword.Inline specs = refl
key_types keyword.Int specs = refl
key_types keyword.Long specs = refl
key_types keyword.Register specs = refl
key_types keyword.Restrict specs = refl
key_types keyword.Return specs = refl
key_types keyword.Short specs = refl
key_types keyword.Signed specs = refl
key_types keyword.Sizeof specs = refl
key_types keyword.Static specs = refl
key_types keyword.Struct specs = refl
key_types keyword.Switch specs = refl
key_types keyword.Typedef specs = refl
key_types keyword.Union specs = refl
key_types keyword.Unsigned specs = refl
key_types keyword.Void specs = refl
key_types keyword.Volatile specs = refl
key_types keyword.While specs = refl
key_types keyword.Bool specs = refl
key_types keyword.Complex specs = refl
key_types keyword.Imaginary specs = refl

pub key_goes : (word : Keyword) (lines : List ℕ) → SpecGoes (Key word lines)
key_goes word lines opens alone specs scope good held =
    go_gives (with_key word specs) scope _ (record {
      good = good;
      passes = stays_itself opens scope;
      makes_none = refl;
      known = subst (AreKnownTypes opens scope.types scope.unit) (sym (key_types word specs)) held;
    })

module _ (opens : List ℕ) (scope : CScope) (good : IsGood opens scope) (specs : CSpecs) (held : AreKnownTypes opens scope.types scope.unit specs.types) where
  more_type : (type : CTy) → IsKnownType opens scope.types scope.unit type → AreSpecs opens scope (with_type type specs) scope
  more_type type known = record {
    good = good;
    passes = stays_itself opens scope;
    makes_none = refl;
    known = behind_known opens scope.types scope.unit specs.types type held known;
  }

  typedef_by : (name : List ℕ) (found : Option CMeant) → ordinary name scope.declared ≡ found → IsKnownType opens scope.types scope.unit (typedef_type found)
  typedef_by name (Some (a_type_name type)) is = good.known name (a_type_name type) is
  typedef_by name (Some (an_object number type is_register linkage)) is = record { type_in = tt; settled = tt }
  typedef_by name (Some (a_function number type linkage)) is = record { type_in = tt; settled = tt }
  typedef_by name (Some (an_enumerator value)) is = record { type_in = tt; settled = tt }
  typedef_by name (Some (a_tag is_record goes_on number)) is = record { type_in = tt; settled = tt }
  typedef_by name None is = record { type_in = tt; settled = tt }

  -- an enumerated type whose list has ended
  ended_enum : (name : List ℕ) (goes_on is_record : Bool) (number : ℕ) → IsKnownTag opens scope.types scope.unit name (record { is_record = is_record; is_open = goes_on; number = number }) → (is_record || goes_on) ≡ false
      → IsKnownType opens scope.types scope.unit (ty (enum_type number) false)
  ended_enum name false false number known is = record { type_in = known.0; settled = known.1 refl }
  ended_enum name goes_on true number known is = absurd cc
  ended_enum name true false number known is = absurd cc

  enum_by : (name : Option (List ℕ)) (found : Option CTag) → find_tag name scope.declared ≡ found → IsUnbroken scope scope.types (enum_use_node found)
      → IsKnownType opens scope.types scope.unit (ty (enum_type (tag_number 0 found)) false)
  enum_by name None is unbroken = absurd (let h : true ≡ false = unbroken.k24 in cc)
  enum_by None (Some one) is unbroken = absurd cc
  enum_by (Some name) (Some one) is unbroken = ended_enum name one.is_open one.is_record one.number (good.tags name one is) unbroken.k24

pub typedef_goes : (name lines : List ℕ) → SpecGoes (Typedef name lines)
typedef_goes name lines opens alone specs scope good held =
    go_here_then _ _ scope _ (go_gives _ scope _
    (more_type opens scope good specs held (typedef_in scope name) (typedef_by opens scope good specs held name (ordinary name scope.declared) refl)))

pub enum_use_goes : (name : Option (List ℕ)) (last_comma : Bool) (lines : List ℕ) → SpecGoes (Enum name no_enumerator_list last_comma lines)
enum_use_goes name last_comma lines opens alone specs scope good held =
    go_here_then _ _ scope _ (go_settled _ scope _ _ _ scope _ (λ unbroken.
    more_type opens scope good specs held _ (enum_by opens scope good specs held name (find_tag name scope.declared) refl unbroken)))

-- ---- structures and unions without members

is_a_record : (types : CTypes) (is_union : Bool) (one : CTag) → is_other_kind types is_union one ≡ false → one.is_record ≡ true
is_a_record types is_union one is = not_not (neither is).0

record_tag : (opens : List ℕ) (types : CTypes) (unit : ℕ) (name : List ℕ) (is_record goes_on : Bool) (number : ℕ) → IsKnownTag opens types unit name (record { is_record = is_record; is_open = goes_on; number = number })
    → is_record ≡ true → IsKnownType opens types unit (ty (record_type number) false)
record_tag opens types unit name true goes_on number known is = record { type_in = known.0; settled = tt }
record_tag opens types unit name false goes_on number known is = absurd cc

pub types_on : (opens : List ℕ) (before after : CScope) (types : List CTy) → Passes opens before after → AreKnownTypes opens before.types before.unit types
    → AreKnownTypes opens after.types after.unit types
types_on opens before after [] passes known = tt
types_on opens before after (type ∷ others) passes known = (type_on opens before after type passes known.0, types_on opens before after others passes known.1)

module _ (opens : List ℕ) (scope : CScope) (good : IsGood opens scope) (specs : CSpecs) (held : AreKnownTypes opens scope.types scope.unit specs.types) (is_union : Bool) where
  record_known : (name : Option (List ℕ)) (found : Option CTag) → ((one : CTag) → found ≡ Some one → IsTagOf opens scope.types scope.unit name one)
      → IsUnbroken scope scope.types (record_use_node is_union found)
      → IsKnownType opens (with_used found name is_union scope).types (with_used found name is_union scope).unit (ty (record_type (tag_number (length scope.types.records) found)) false)
  record_known None (Some one) tags unbroken = absurd (tags one refl)
  record_known (Some name) (Some one) tags unbroken =
      record_tag opens scope.types scope.unit name one.is_record one.is_open one.number (tags one refl) (is_a_record scope.types is_union one unbroken.k24)
  record_known None None tags unbroken = record { type_in = there opens scope good is_union None; settled = tt }
  record_known (Some name) None tags unbroken = record { type_in = there opens scope good is_union (Some name); settled = tt }

  record_used : (name : Option (List ℕ)) (found : Option CTag) → ((one : CTag) → found ≡ Some one → IsTagOf opens scope.types scope.unit name one)
      → IsUnbroken scope scope.types (record_use_node is_union found)
      → AreSpecs opens scope (with_type (ty (record_type (tag_number (length scope.types.records) found)) false) specs) (with_used found name is_union scope)
  record_used name found tags unbroken =
      let passes = used_passes opens scope good is_union name found in
      record {
        good = used_good opens scope good is_union name found;
        passes = passes;
        makes_none = used_makes_none opens scope good is_union name found;
        known = behind_known opens _ _ specs.types _ (types_on opens scope (with_used found name is_union scope) specs.types passes held) (record_known name found tags unbroken);
      }

pub record_use_goes : (is_union : Bool) (name : Option (List ℕ)) (lines : List ℕ) → SpecGoes (Record is_union name no_members lines)
record_use_goes is_union name lines opens alone specs scope good held =
    go_here_then _ _ scope _ (go_changed _ scope _ _ _ _ scope _
    (record_used opens scope good specs held is_union name (seen_tag alone name scope) (seen_known opens scope good alone name)))

pub none_go : SpecsGo no_specs
none_go opens alone specs scope good held = go_gives specs scope _ (record { good = good; passes = stays_itself opens scope; makes_none = refl; known = held })

pub more_go : (first : SpecTree) (others : SpecTrees) → SpecGoes first → SpecsGo others → SpecsGo (more_specs first others)
more_go first others one more opens alone specs scope good held =
    go_chain _ _ _ _ scope (AreSpecs opens scope) _ (one opens alone specs scope good held) (λ next middle is.
    later next middle is (more opens alone next middle is.good is.known))
  where
    later : (next : CSpecs) (middle : CScope) → AreSpecs opens scope next middle
        → Ends (walk.specs_walk Seen seen_gives seen_chain seen_here seen_becomes seen_look alone next others) middle (AreSpecs opens middle)
        → Ends (walk.specs_walk Seen seen_gives seen_chain seen_here seen_becomes seen_look alone next others) middle (AreSpecs opens scope)
    later next middle is behind = record {
      ends = λ fine.
          let last = behind.ends fine in
          record { good = last.good; passes = passes_on opens scope middle _ is.passes last.passes; makes_none = last.makes_none ∙ is.makes_none; known = last.known };
    }

pub specifiers : SpecFormsGo
specifiers = record { key = key_goes; typedef = typedef_goes; record_use = record_use_goes; enum_use = enum_use_goes; none = none_go; more = more_go }
