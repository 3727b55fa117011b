-- What the things of a C program have become in a written crate.
use Rattle.std.specs.Prelude.{◌≡◌, ℕ, ◌==◌, Bool, true, false, if◌then◌else◌, List, map, Option, Some, None, option_map}
use Rattle.indexmap.specs.IndexMap.{IndexMap, get_by}
use Rattle.rs_items_sets.specs.Sets.{TakenNames}
use Rattle.rs_items.specs.declared.known.Known.{Known}
use Rattle.rs_items.specs.declared.known.Named.{Named}
use Rattle.rs_items.specs.declared.known.Named.TheVariants.{Object, Function, BareFunction, Record, Enum, Temporary, Result}
use Rattle.rs_items.specs.declared.known.MemberField.{MemberField as FieldOfMember}
use Rattle.rs_items.specs.declared.map.NameMap.{NameMap}
use Rattle.rs_items_sets.specs.declared.scope.NameScope.{NameScope}
use Rattle.rs_items_sets.specs.declared.scope.NameScope.TheVariants.{Module, Fields, Function as FunctionNames}
use Rattle.rs_text.specs.Tree.{Ty}
use Rattle.rs_tree.specs.Views.{ty_view}

-- what a thing has become
pub record KnownThing : Type 0 where
  pub named : Named
  pub unit : ℕ
  pub module_name : Option (List ℕ)
  pub name : List ℕ
  pub symbol : Option (List ℕ)
  pub ty : Ty
  pub size : ℕ

abbrev pub view_known : Known → KnownThing
view_known one = record {
  named = one.named;
  unit = one.unit;
  module_name = one.«module»;
  name = one.name;
  symbol = one.symbol;
  ty = ty_view one.ty;
  size = one.size;
}

abbrev pub same_named : Named → Named → Bool
same_named (Object one) (Object other) = one == other
same_named (Function one) (Function other) = one == other
same_named (BareFunction one) (BareFunction other) = one == other
same_named (Record one) (Record other) = one == other
same_named (Enum one) (Enum other) = one == other
same_named (Temporary one) (Temporary other) = one == other
same_named Result Result = true
same_named _ _ = false

-- the field of a member that is no bit-field: the byte at which it stands, and its Rust type; two members of a union may be alike in both, and then
-- they are one and the same in memory
pub record MemberField : Type 0 where
  pub byte : ℕ
  pub ty : Ty
  pub name : List ℕ

abbrev pub view_field : FieldOfMember → MemberField
view_field one = record { byte = one.byte; ty = ty_view one.ty; name = one.name }

-- ---- the names of a module

-- what is known of each thing
abbrev pub Knows : Type 0
Knows = Named → Option KnownThing

-- what is told of a thing: temporaries are kept apart from all else
abbrev pub known_of : {S : Type 0} → IndexMap Named Known S → IndexMap ℕ Known S → Named → Option KnownThing
known_of kept temporaries (Object number) = option_map view_known (get_by (same_named (Object number)) kept)
known_of kept temporaries (Function number) = option_map view_known (get_by (same_named (Function number)) kept)
known_of kept temporaries (BareFunction number) = option_map view_known (get_by (same_named (BareFunction number)) kept)
known_of kept temporaries (Record number) = option_map view_known (get_by (same_named (Record number)) kept)
known_of kept temporaries (Enum number) = option_map view_known (get_by (same_named (Enum number)) kept)
known_of kept temporaries (Temporary number) = option_map view_known (get_by (λ other. number == other) temporaries)
known_of kept temporaries Result = option_map view_known (get_by (same_named Result) kept)

abbrev pub known_in : NameMap → Knows
known_in names = known_of names.kept names.temporaries

-- the fields of the members of a record
abbrev pub fields_of : {S : Type 0} → IndexMap ℕ (List FieldOfMember) S → ℕ → Option (List MemberField)
fields_of fields number = option_map (map view_field) (get_by (λ other. number == other) fields)

-- the names of a module of the written crate
pub record Names : Type 0 where
  -- the number of its unit
  pub unit : ℕ
  -- the program has a bit-field member
  pub has_bits : Bool
  pub taken : TakenNames
  -- the newest entry of a thing
  pub known : Knows
  -- the fields of the members of a record that was written, by its number
  pub fields : ℕ → Option (List MemberField)

abbrev pub view_names : NameMap → Names
view_names names = record {
  unit = names.unit;
  has_bits = names.has_bits;
  taken = names.scopes;
  known = known_in names;
  fields = fields_of names.fields;
}

-- ---- what calls leave

-- nothing that is kept changed
abbrev pub KeepsAll : Names → Names → Type 0
KeepsAll before after = (one : Named) → after.known one ≡ before.known one

-- one entry is new, and the newest of its thing
abbrev pub KeepsOne : Names → Names → KnownThing → Type 0
KeepsOne before after new = (one : Named) → after.known one ≡ if same_named one new.named then Some new else before.known one

-- a temporary
abbrev pub is_temporary : Named → Bool
is_temporary (Object number) = false
is_temporary (Function number) = false
is_temporary (BareFunction number) = false
is_temporary (Record number) = false
is_temporary (Enum number) = false
is_temporary (Temporary number) = true
is_temporary Result = false

-- no temporary is known, and all else is as it was
abbrev pub ForgetsTemporaries : Names → Names → Type 0
ForgetsTemporaries before after = (one : Named) → after.known one ≡ if is_temporary one then None else before.known one

-- what is known as another module's names, another function's, or another record's fields begin
abbrev pub Begins : NameScope → Names → Names → Type 0
Begins Module before after = ForgetsTemporaries before after
Begins FunctionNames before after = ForgetsTemporaries before after
Begins Fields before after = KeepsAll before after
