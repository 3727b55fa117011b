-- A type says all that another one says (ISO C99, 6.2.7p3).
use Rattle.std.specs.Prelude.{◌≡◌, ℕ, Bool, true, false, Option, Some, None}
use Rattle.cx_core.specs.Compatible.{same_basics, are_kept_by_promotions}
use Rattle.cx_core.specs.Conversions.{basic_of}
use Rattle.cx_core.specs.Trees.{CTy, ty, CTyForm, void, basic, enum_type, pointer, array, record_type, function, CParams, unlisted, listed, CTys, no_types, more_types, CTypes}

-- an array type may leave its length out (6.7.5.2p6)
abbrev pub CoversLength : Option ℕ → Option ℕ → Type 0
CoversLength one None = Unit {0}
CoversLength (Some one) (Some part) = one ≡ part
CoversLength None (Some part) = ⊥

module _ (types : CTypes) where
  abbrev mutual
    -- the type is the same as its part, but for a length or a parameter list that the part leaves out, and an enumerated type beside the integer
    -- type that it is compatible with
    pub Covers : (one part : CTy) → Type 0
    Covers (ty one one_const) (ty part part_const) = (one_const ≡ part_const) × CoversForm one part

    pub CoversForm : (one part : CTyForm) → Type 0
    CoversForm void void = Unit {0}
    CoversForm (basic one) (basic part) = one ≡ part
    CoversForm (enum_type one) (basic part) = same_basics (Some part) (basic_of types (enum_type one)) ≡ true
    CoversForm (enum_type one) (enum_type part) = one ≡ part
    CoversForm (pointer one) (pointer part) = Covers one part
    CoversForm (array one one_length) (array part part_length) = CoversLength one_length part_length × Covers one part
    CoversForm (record_type one) (record_type part) = one ≡ part
    CoversForm (function one ones one_more) (function part parts part_more) = Covers one part × CoversParams ones one_more parts part_more
    CoversForm _ _ = ⊥

    -- a list stands for one that is left out where its parameters take arguments as they are promoted (6.7.5.3p15)
    pub CoversParams : CParams → Bool → CParams → Bool → Type 0
    CoversParams unlisted one_more unlisted part_more = one_more ≡ part_more
    CoversParams unlisted one_more (listed parts) part_more = ⊥
    CoversParams (listed ones) one_more unlisted part_more = (one_more ≡ false) × (are_kept_by_promotions ones ≡ true)
    CoversParams (listed ones) one_more (listed parts) part_more = (one_more ≡ part_more) × CoversTypes ones parts

    -- the unqualified versions of parameters' types
    pub CoversTypes : (ones parts : CTys) → Type 0
    CoversTypes no_types no_types = Unit {0}
    CoversTypes (more_types (ty one one_const) ones) (more_types (ty part part_const) parts) = CoversForm one part × CoversTypes ones parts
    CoversTypes _ _ = ⊥
