-- How mentions of a kind are found by their names.
use Rattle.std.specs.Prelude.{◌≡◌, ℕ, suc, Bool, if◌then◌else◌, List, [], ◌∷◌, ◌++◌, Option, Some, None, bytes_eq}
use Rattle.std.specs.Global.{Vec}
use Rattle.std.specs.HashMap.{HashMap, get_by}
use Rattle.cx_core.specs.Trees.{CTypes, CMention}
use Rattle.cx_link.specs.declared.chain.Chain.{Chain}
use Rattle.cx_link.specs.declared.chain.Kind.{Kind}
use Rattle.cx_link.specs.declared.chain.Kind.TheVariants.{Declaration, Definition, StaticDefinition}
use Rattle.cx_link.specs.declared.rules.Chains.{Chains}
use Rattle.cx_link.specs.declared.rules.Relation.{Relation}
use Rattle.cx_link.specs.declared.rules.Relation.TheVariants.{DefinedBefore, Clashes, DefinedThere}
use Rattle.cx_links.specs.Rules.{declares_external, defines_external, defines_static, is_kind_of, stands_earlier, stands_in_same_unit, clashes}

abbrev pub kind_of : Kind → CMention → Bool
kind_of Declaration = declares_external
kind_of Definition = defines_external
kind_of StaticDefinition = defines_static

abbrev pub later_or : Option ℕ → Bool → Option ℕ
later_or (Some index) here = Some (suc index)
later_or None here = if here then Some 0 else None

-- the index of the last element that passes a test
abbrev pub latest : {A : Type 0} → (A → Bool) → List A → Option ℕ
latest test [] = None
latest test (one ∷ others) = later_or (latest test others) (test one)

-- the last mention of a kind and a name
abbrev pub latest_of : (CMention → Bool) → List CMention → List ℕ → Option ℕ
latest_of kind all name = latest (is_kind_of kind name) all

-- for each mention the last one of a kind in front of it that has its name
abbrev pub earlier_from : (CMention → Bool) → List CMention → List CMention → List (Option ℕ)
earlier_from kind done [] = []
earlier_from kind done (one ∷ others) = latest_of kind done one.name ∷ earlier_from kind (done ++ one ∷ []) others

module _ {S : Type 0} where
  -- what an index holds of a name
  abbrev pub indexed : HashMap (Vec ℕ) ℕ S → List ℕ → Option ℕ
  indexed index name = get_by (λ key. bytes_eq name key.items) index

-- the chain tells of each name the last mention of a kind, and before each mention that in front of it
pub record IsChain (chain : Chain) (kind : CMention → Bool) (all : List CMention) : Type 0 where
  pub last : (name : List ℕ) → indexed chain.last name ≡ latest_of kind all name
  pub earlier : chain.earlier ≡ earlier_from kind [] all

-- all chains of a list
pub record Links (chains : Chains) (all : List CMention) : Type 0 where
  pub declarations : IsChain chains.declarations declares_external all
  pub definitions : IsChain chains.definitions defines_external all
  pub statics : IsChain chains.statics defines_static all

-- the kind of mentions of which a relation speaks
abbrev pub wanted : Relation → Kind
wanted DefinedBefore = Definition
wanted Clashes = Declaration
wanted DefinedThere = StaticDefinition

abbrev pub relates : CTypes → Relation → CMention → CMention → Bool
relates types DefinedBefore one other = stands_earlier one other
relates types Clashes one other = clashes types one other
relates types DefinedThere one other = stands_in_same_unit one other
