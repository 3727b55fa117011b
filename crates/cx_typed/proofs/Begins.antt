-- Before the first declaration of a unit its types are sound, and what is declared is known: nothing is there.
use Rattle.std.proofs.Common.{refl}
use Rattle.cx_typed.specs.Spelled.{UnitsBeginGood}

pub begins_good : UnitsBeginGood
begins_good unit = record {
  sound = record {
    types_are = record {
      tags = refl;
      record_units = refl;
      enum_units = refl;
      records = λ number other one is unit_is. absurd cc;
    };
    records_here = λ number other is. absurd cc;
    enums_here = λ number other is. absurd cc;
    settled = λ number one is. absurd cc;
    opens_here = λ number from. refl;
  };
  known = λ name meant is. absurd cc;
  tags = λ name one is. absurd cc;
}
