-- Layouts are those of the types before the first declaration, and stay so where a record is completed.
use Rattle.std.proofs.Common.{◌≡◌, ℕ, Bool, true, false, not, List, [], Option, None, Some, is_none, is_some, refl, sym, ap, ◌∙◌, slice_get, map}
use Rattle.cx_context.proofs.Declaring.{same_row}
use Rattle.cx_context.specs.Laid.{IsLaid}
use Rattle.cx_context.specs.Slots.{is_open}
use Rattle.cx_core.specs.Layouts.{CLayouts, row_of, layouts_of}
use Rattle.cx_core.specs.Trees.{CRecord, CTypes, no_types_yet}
use Rattle.cx_core.specs.Views.{view_member, view_record}
use Rattle.cx_core.specs.declared.ty.RecordTy.{RecordTy}
use Rattle.cx_layout.specs.Calls.{Completes}
use Rattle.cx_rules.specs.Rules.{record_too_large}
use Rattle.cx_rules.specs.Scope.{CScope, with_completed}

none_is : {A : Type 0} (found : Option A) → is_none found ≡ not (is_some found)
none_is None = refl
none_is (Some one) = refl

-- whether there is a row is asked of layouts with the same rows
pub large_by : (types : CTypes) (layouts : CLayouts) (one : RecordTy) (found : Bool) → IsLaid types layouts → found ≡ is_some (row_of layouts (view_record one)) →
    record_too_large types one.is_union one.number (map view_member one.members) ≡ not found
large_by types layouts one found laid e =
    ap is_none (sym (same_row layouts (layouts_of types) laid.same (view_record one)))
    ∙ none_is (row_of layouts (view_record one)) ∙ ap not (sym e)

open_is : (found : Option (Option CRecord)) → is_open found ≡ true → found ≡ Some None
open_is None e = absurd cc
open_is (Some None) e = refl
open_is (Some (Some one)) e = absurd cc

pub completes : (scope : CScope) (one : CRecord) → is_open (slice_get scope.types.records one.number) ≡ true → Completes scope.types one (with_completed one.number one scope).types
completes scope one e = record { incomplete = open_is (slice_get scope.types.records one.number) e; records_are = refl }

pub none_laid : IsLaid no_types_yet []
unfolding layouts_of
none_laid = record {
  same = λ number. refl;
  all = λ number there. absurd (let none = there in cc);
}
