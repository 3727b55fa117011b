-- What stands where an object or function of a name was found, and what stands there then.
use Rattle.std.proofs.Common.{◌≡◌, sym, ap, ◌∙◌, ℕ, List, map, Option, Some, IfSome, Bor, option_map, slice_get, slice_set, subst}
use Rattle.std.proofs.lemmas.List.{map-set}
use Rattle.std.proofs.lemmas.Option.{slice_get-map}
use Rattle.std.specs.Option.{option_copied}
use Rattle.cx_scope.specs.Places.{IsThingAt, named, get_found, set_found, changed_by}
use Rattle.cx_rules.specs.Declare.{thing_named}
use Rattle.cx_rules.specs.Scope.{CThing}

-- ---- one that is replaced

read_at : {A B : Type 0} (view : A → B) (raw : List A) (n : ℕ) (got : Option (Bor A)) (before : Bor A) → option_copied got ≡ slice_get raw n → got ≡ Some before
    → slice_get (map view raw) n ≡ Some (view before.now)
read_at view raw n got before e is = slice_get-map view raw n ∙ ap (option_map view) (sym e ∙ ap option_copied is)

pub named_is : {A : Type 0} (view : A → CThing) (name : List ℕ) (raw : List A) (found : Option ℕ) (n : ℕ) (got : Option (Bor A)) (before : Bor A)
    → IsThingAt name (map view raw) found → found ≡ Some n → option_copied got ≡ slice_get raw n → got ≡ Some before
    → thing_named name (map view raw) ≡ Some (view before.now)
named_is view name raw found n got before at f e is =
    at.is ∙ ap (λ o. get_found o (map view raw)) f ∙ read_at view raw n got before e is

pub named_set : {A : Type 0} (view : A → CThing) (name : List ℕ) (raw now : List A) (found : Option ℕ) (n : ℕ) (again : A)
    → IsThingAt name (map view raw) found → found ≡ Some n → now ≡ slice_set raw n again
    → map view now ≡ changed_by (named name) (λ _. view again) (map view raw)
named_set view name raw now found n again at f e =
    ap (map view) e ∙ map-set view raw n again ∙ sym (at.set (view again) ∙ ap (λ o. set_found o (view again) (map view raw)) f)

-- it keeps its name
pub keeps_name : {A : Type 0} (view : A → CThing) (name_of : A → List ℕ) → ((one : A) → (view one).name ≡ name_of one) → (raw : List A) (n : ℕ) (got : Option (Bor A)) (before : Bor A) (again : A)
    → option_copied got ≡ slice_get raw n → got ≡ Some before → (view again).name ≡ (view before.now).name → IfSome (slice_get raw n) (λ was. name_of was ≡ name_of again)
keeps_name view name_of is raw n got before again e f same =
    subst (λ found. IfSome found (λ was. name_of was ≡ name_of again)) (sym (ap option_copied f) ∙ e)
    (sym (is before.now) ∙ sym same ∙ is again)
