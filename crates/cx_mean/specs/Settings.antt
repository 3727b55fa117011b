-- What the meaning of a program looks up: the program, the layouts of its records, and which of its types are compatible.
use Rattle.std.specs.Prelude.{ℕ, zero, suc, ◌==◌, ◌&&◌, Bool, List, [], ◌∷◌, ◌++◌, filter, length, Option, None}
use Rattle.std.specs.List.{list_any}
use Rattle.cr_base.specs.declared.layout.Laid.{Laid}
use Rattle.cr_base.specs.declared.scalar.Scalar.{Scalar}
use Rattle.cx_core.specs.Compatible.{agree, of_two_units, pair_agrees}
use Rattle.cx_core.specs.Conversions.{scalar_of}
use Rattle.cx_core.specs.Layouts.{CLayouts, extent, layouts_of}
use Rattle.cx_core.specs.Trees.{CTy, CTyForm, void, basic, enum_type, pointer, array, record_type, function, form_of_type, CTypes, CProgram}

-- ---- compatible types (6.2.7), as a test

-- two records, by their numbers
pub record CPair : Type 0 where
  pub first : ℕ
  pub second : ℕ

-- the pairs of one record with those numbered below another number
abbrev pub pairs_below : ℕ → ℕ → List CPair
pairs_below first zero = []
pairs_below first (suc n) = record { first = first; second = n } ∷ pairs_below first n

-- the pairs of those numbered below a number with those below another
abbrev pub all_pairs : ℕ → ℕ → List CPair
all_pairs zero count = []
all_pairs (suc n) count = pairs_below n count ++ all_pairs n count

-- the records of two units
abbrev pub pairs_of_two_units : CTypes → List CPair
pairs_of_two_units types =
    filter (λ pair. of_two_units types.record_units pair.first pair.second) (all_pairs (length types.record_tags) (length types.record_tags))

-- a pair is in a list
abbrev pub is_pair_in : List CPair → ℕ → ℕ → Bool
is_pair_in pairs first second = list_any (λ pair. pair.first == first && pair.second == second) pairs

-- a pair agrees where every pair of a list counts as compatible
abbrev pub agrees_with : CTypes → List CPair → CPair → Bool
agrees_with types pairs one = pair_agrees types (is_pair_in pairs) (record { first = one.first; second = one.second })

-- those pairs that agree where every pair of the list counts as compatible, so many times one after the other
abbrev pub agreeing : CTypes → ℕ → List CPair → List CPair
agreeing types zero pairs = pairs
agreeing types (suc n) pairs = agreeing types n (filter (agrees_with types pairs) pairs)

-- the largest good set of pairs of records: after as many times as there are pairs nothing more falls away
abbrev pub compatible_records : CTypes → List CPair
compatible_records types = let pairs = pairs_of_two_units types in agreeing types (length pairs) pairs

-- ---- settings

pub record CSetting : Type 0 where
  pub program : CProgram
  pub layouts : CLayouts
  -- the pairs of records of two units that are compatible
  pub pairs : List CPair

abbrev pub setting_of : CProgram → CSetting
setting_of program = record {
  program = program;
  layouts = layouts_of program.types;
  pairs = compatible_records program.types;
}

abbrev pub types_in_setting : CSetting → CTypes
types_in_setting setting = setting.program.types

-- two types are compatible
abbrev pub are_compatible : CSetting → CTy → CTy → Bool
are_compatible setting first second = agree setting.program.types (is_pair_in setting.pairs) first second

-- the scalar type that memory sees in a type; none where it isn't scalar
abbrev pub scalar_in_type : CSetting → CTy → Option Scalar
scalar_in_type setting type = scalar_of setting.program.types (form_of_type type)

-- the size and the alignment of a type; none where it is incomplete
abbrev pub extent_in : CSetting → CTy → Option Laid
extent_in setting type = extent setting.layouts type

-- the size and the alignment of what a pointer type points to
abbrev pub element_extent : CSetting → CTyForm → Option Laid
element_extent setting (pointer to) = extent_in setting to
element_extent setting void = None
element_extent setting (basic which) = None
element_extent setting (enum_type number) = None
element_extent setting (array element length) = None
element_extent setting (record_type number) = None
element_extent setting (function result params variadic) = None
