-- Chains of tests, as the definition of rules has them and as the code asks them.
use Rattle.std.proofs.Common.{◌≡◌, refl}
use Rattle.std.specs.Prelude.{Bool, true, false, not, ◌&&◌, ◌||◌, if◌then◌else◌, [], ◌∷◌, ◌++◌, None, Some}
use Rattle.std.specs.List.{list_any}
use Rattle.cr_base.specs.declared.rule.Rule.TheVariants.{K10, K12, K15, K17, K18, K20, K21}

-- a value that something is asked of
pub asked_value : (g h f k : Bool) →
    (if ((g || false) || (h || false)) || false then Some K10 else if (f || false) || false then Some K15 else if k then Some K18 else None)
    ≡ (if g || h then Some K10 else if f then Some K15 else if k then Some K18 else None)
asked_value true h f k = refl
asked_value false true f k = refl
asked_value false false true k = refl
asked_value false false false k = refl

-- a `case` label
pub constant_value : (g h f u k : Bool) →
    (if ((g || false) || (h || false)) || false then Some K10 else if (f || false) || false then Some K15 else if u then Some K17 else if k then Some K18 else None)
    ≡ (if g || h then Some K10 else if f then Some K15 else if u then Some K17 else if k then Some K18 else None)
constant_value true h f u k = refl
constant_value false true f u k = refl
constant_value false false true u k = refl
constant_value false false false u k = refl

-- an index in a designator
pub indexed_value : (g h f u k : Bool) →
    (if ((g || false) || (h || false)) || false then Some K10 else if (f || false) || false then Some K15 else if u then Some K17 else if k then Some K21 else None)
    ≡ (if g || h then Some K10 else if f then Some K15 else if u then Some K17 else if k then Some K21 else None)
indexed_value true h f u k = refl
indexed_value false true f u k = refl
indexed_value false false true u k = refl
indexed_value false false false u k = refl

-- an expression statement
pub passed_value : (h f : Bool) →
    (if (h || false) || false then Some K10 else if (f || false) || false then Some K15 else None)
    ≡ (if h then Some K10 else if f then Some K15 else None)
passed_value true f = refl
passed_value false true = refl
passed_value false false = refl

-- a given value
pub given_value : (g h a f c p : Bool) →
    (if ((g || false) || (h || false)) || false then Some K10 else if a then Some K12 else if (f || false) || false then Some K15 else if c then Some K17 else if p then Some K21 else None)
    ≡ (if g || h then Some K10 else if a then Some K12 else if f then Some K15 else if c then Some K17 else if p then Some K21 else None)
given_value true h a f c p = refl
given_value false true a f c p = refl
given_value false false true f c p = refl
given_value false false false true c p = refl
given_value false false false false c p = refl

-- a `default` label
pub either_label : (a b : Bool) →
    (if a || b then Some K18 else None)
    ≡ (if a then Some K18 else if b then Some K18 else None)
either_label true b = refl
either_label false b = refl

evaluated : (h f : Bool) → (if (h || false) || false then Some K10 else if (f || false) || false then Some K15 else Some K20) ≡ (if h then Some K10 else if f then Some K15 else Some K20)
evaluated true f = refl
evaluated false true = refl
evaluated false false = refl

fitted_result : (g h m f : Bool) → (if ((g || false) || (h || false)) || false then Some K10 else if m then Some K12 else if (f || false) || false then Some K15 else None) ≡ (if g || h then Some K10 else if m then Some K12 else if f then Some K15 else None)
fitted_result true h m f = refl
fitted_result false true m f = refl
fitted_result false false true f = refl
fitted_result false false false true = refl
fitted_result false false false false = refl

-- a value that is returned, and only evaluated where the function gives none
pub returned : {A : Type 0} (v : Bool) (gives holds fixed : A → Bool) (on : A) (misfit : Bool) →
    (if (list_any gives (if v then [] else on ∷ []) || list_any holds ((if v then [] else on ∷ []) ++ (if v then on ∷ [] else []))) || false then Some K10 else if not v && misfit then Some K12 else if list_any fixed ((if v then [] else on ∷ []) ++ (if v then on ∷ [] else [])) || false then Some K15 else if v then Some K20 else None)
    ≡ (if (if v then holds on else (gives on || holds on)) then Some K10 else if not v && misfit then Some K12 else if fixed on then Some K15 else if v then Some K20 else None)
returned true gives holds fixed on misfit = evaluated (holds on) (fixed on)
returned false gives holds fixed on misfit = fitted_result (gives on) (holds on) misfit (fixed on)
