-- What else the calls of a scope change.
use Rattle.std.specs.Prelude.{ℕ, min, Bool, true, false, ◌&&◌, is_none, slice_get, slice_set, List, [], ◌∷◌, ◌++◌, length, take, drop, Option, None, Some}
use Rattle.std.specs.Bool.{beq}
use Rattle.std.specs.Option.{option_flatten}
use Rattle.cx_core.specs.declared.program.Linkage.TheVariants.{Nothing}
use Rattle.cx_core.specs.Trees.{CTypes, CRecord, CRecordTag, CPuts}
use Rattle.cx_rules.specs.Scope.{an_object, CDeclared, CTag, CScope, down_to, with_record, with_tag}
use Rattle.cx_rules.specs.Shapes.{CParam}

-- the innermost scope begins behind so many declarations
abbrev pub begun_at : ℕ → CScope → CScope
begun_at from scope = record scope { begins = from }

-- the newest declarations are dropped, down to so many, of which there are no fewer; a scope that began behind them begins there
abbrev pub dropped_to : ℕ → CScope → CScope
dropped_to count scope = record scope { declared = down_to count scope.declared; begins = min scope.begins count }

-- the places that follow stand inside a function, or outside
abbrev pub inside : Bool → CScope → CScope
inside block scope = record scope { in_function = block }

-- ---- new types

-- the tag, the kind and the unit of a new structure or union
abbrev pub with_tag_of : Option (List ℕ) → Bool → (unit : ℕ) → CTypes → CTypes
with_tag_of name is_union unit types = record types {
  record_tags = types.record_tags ++ record { tag = name; is_union = is_union } ∷ [];
  record_units = types.record_units ++ unit ∷ [];
}

-- a structure or union of a unit that isn't completed
abbrev pub with_record_types : Option (List ℕ) → Bool → (unit : ℕ) → CTypes → CTypes
with_record_types name is_union unit types = record types {
  records = types.records ++ None ∷ [];
  record_tags = types.record_tags ++ record { tag = name; is_union = is_union } ∷ [];
  record_units = types.record_units ++ unit ∷ [];
}

abbrev pub with_enum_types : (unit : ℕ) → CTypes → CTypes
with_enum_types unit types = record types { enums = types.enums ++ true ∷ []; enum_units = types.enum_units ++ unit ∷ [] }

-- the number of a record stands behind those that were completed
abbrev pub with_number_completed : ℕ → CScope → CScope
with_number_completed number scope = record scope { completed = scope.completed ++ number ∷ [] }

-- the record with a number has these members
abbrev pub with_contents : ℕ → CRecord → CScope → CScope
with_contents number one scope = record scope { types = record scope.types { records = slice_set scope.types.records number (Some one) } }

-- a structure or union that isn't there yet is declared
abbrev pub with_declared_record : Option (List ℕ) → Bool → CScope → CScope
with_declared_record name is_union scope = with_tag name true false (length scope.types.records) (with_record name is_union scope)

-- the newest declaration goes, where there is a tag
abbrev pub without_tag : Option (List ℕ) → CScope → CScope
without_tag None scope = scope
without_tag (Some name) scope = record scope { declared = drop 1 scope.declared }

-- a record is a union, or a structure
abbrev pub is_of_kind : Bool → Option CRecordTag → Bool
is_of_kind is_union None = false
is_of_kind is_union (Some one) = beq one.is_union is_union

-- a list of members completes what a tag declares
abbrev pub is_continued : CTypes → Bool → CTag → Bool
is_continued types is_union one =
    one.is_record && (is_of_kind is_union (slice_get types.record_tags one.number) && is_none (option_flatten (slice_get types.records one.number)))

-- ---- parameters

-- the declaration that a parameter of a name is
abbrev pub declared_as : List ℕ → CParam → CDeclared
declared_as name one = record { name = name; meant = an_object one.object one.type one.is_register Nothing }

abbrev named_as : Option (List ℕ) → CParam → CScope → CScope
named_as None one scope = scope
named_as (Some name) one scope = record scope { declared = declared_as name one ∷ scope.declared }

-- the name of a parameter comes into scope, where it has one
abbrev pub with_param_name : CParam → CScope → CScope
with_param_name one scope = named_as one.name one scope

-- ---- what isn't evaluated

-- the literals and the mentions behind so many go
abbrev pub cut_back : (literals mentions : ℕ) → CScope → CScope
cut_back literals mentions scope = record scope { literals = take literals scope.literals; mentions = take mentions scope.mentions }

-- what is stored in a compound literal before the program begins
abbrev pub fixed_outside : Bool → CPuts → Option CPuts
fixed_outside true puts = None
fixed_outside false puts = Some puts
