-- Chains of tests, as the definition of rules has them and as the code asks them.
use Rattle.std.proofs.Common.{◌≡◌, refl}
use Rattle.std.specs.Prelude.{Bool, true, false, not, ◌&&◌, ◌||◌, if◌then◌else◌, [], ◌∷◌, ◌++◌, None, Some}
use Rattle.std.specs.List.{list_any}
use Rattle.cr_base.specs.declared.rule.Rule.TheVariants.{O11, K8, K10, K11, K12, K13, K15, K16}

-- a node that takes one value
pub one_taker : (g h n f : Bool) →
    (if ((g || false) || (h || false)) || n then Some K10 else if (f || false) || false then Some K15 else None)
    ≡ (if g || h then Some K10 else if n then Some K10 else if f then Some K15 else None)
one_taker true h n f = refl
one_taker false true n f = refl
one_taker false false true f = refl
one_taker false false false true = refl
one_taker false false false false = refl

-- a node that takes two values
pub two_takers : (a b c d n e f : Bool) →
    (if ((a || (b || false)) || (c || (d || false))) || n then Some K10 else if (e || (f || false)) || false then Some K15 else None)
    ≡ (if a || c then Some K10 else if b || d then Some K10 else if n then Some K10 else if e then Some K15 else if f then Some K15 else None)
two_takers true b c d n e f = refl
two_takers false true true d n e f = refl
two_takers false true false d n e f = refl
two_takers false false true d n e f = refl
two_takers false false false true n e f = refl
two_takers false false false false true e f = refl
two_takers false false false false false true f = refl
two_takers false false false false false false true = refl
two_takers false false false false false false false = refl

-- a simple assignment
pub stored_value : (g h m a f : Bool) →
    (if ((g || false) || (h || false)) || false then Some K10 else if m then Some K11 else if a then Some K12 else if (f || false) || false then Some K15 else None)
    ≡ (if g || h then Some K10 else if m then Some K11 else if a then Some K12 else if f then Some K15 else None)
stored_value true h m a f = refl
stored_value false true m a f = refl
stored_value false false true a f = refl
stored_value false false false true f = refl
stored_value false false false false true = refl
stored_value false false false false false = refl

-- a compound assignment
pub stored_by : (g h n m f : Bool) →
    (if ((g || false) || (h || false)) || n then Some K10 else if m then Some K11 else if (f || false) || false then Some K15 else None)
    ≡ (if g || h then Some K10 else if n then Some K10 else if m then Some K11 else if f then Some K15 else None)
stored_by true h n m f = refl
stored_by false true n m f = refl
stored_by false false true m f = refl
stored_by false false false true f = refl
stored_by false false false false true = refl
stored_by false false false false false = refl

-- a node that evaluates two operands
pub two_passed : (a b e f : Bool) →
    (if (a || (b || false)) || false then Some K10 else if (e || (f || false)) || false then Some K15 else None)
    ≡ (if a then Some K10 else if b then Some K10 else if e then Some K15 else if f then Some K15 else None)
two_passed true b e f = refl
two_passed false true e f = refl
two_passed false false true f = refl
two_passed false false false true = refl
two_passed false false false false = refl

-- a node that takes one value and evaluates two operands
pub one_tested : (g h a b e x y s c : Bool) →
    (if ((g || false) || (h || (a || (b || false)))) || false then Some K10 else if (e || (x || (y || false))) || false then Some K15 else if s || c then Some K16 else None)
    ≡ (if g || h then Some K10 else if a then Some K10 else if b then Some K10 else if e then Some K15 else if x then Some K15 else if y then Some K15 else if s then Some K16 else if c then Some K16 else None)
one_tested true h a b e x y s c = refl
one_tested false true a b e x y s c = refl
one_tested false false true b e x y s c = refl
one_tested false false false true e x y s c = refl
one_tested false false false false true x y s c = refl
one_tested false false false false false true y s c = refl
one_tested false false false false false false true s c = refl
one_tested false false false false false false false true c = refl
one_tested false false false false false false false false c = refl

-- a member of an operand
pub either_lacks : (p r n : Bool) →
    (if p then Some O11 else if r || n then Some K8 else None)
    ≡ (if p then Some O11 else if r then Some K8 else if n then Some K8 else None)
either_lacks true r n = refl
either_lacks false true n = refl
either_lacks false false n = refl

evaluated : (h f : Bool) → (if (h || false) || false then Some K10 else if (f || false) || false then Some K15 else None) ≡ (if h then Some K10 else if f then Some K15 else None)
evaluated true f = refl
evaluated false true = refl
evaluated false false = refl

cast_value : (g h s f : Bool) → (if ((g || false) || (h || false)) || false then Some K10 else if not s then Some K13 else if (f || false) || false then Some K15 else None) ≡ (if g || h then Some K10 else if not s then Some K13 else if f then Some K15 else None)
cast_value true h s f = refl
cast_value false true s f = refl
cast_value false false true true = refl
cast_value false false true false = refl
cast_value false false false f = refl

-- a cast, which takes the value unless it is one to `void`
pub cast_operand : {A : Type 0} (v : Bool) (gives holds fixed : A → Bool) (on : A) (s : Bool) →
    (if (list_any gives (if v then [] else on ∷ []) || list_any holds ((if v then [] else on ∷ []) ++ (if v then on ∷ [] else []))) || false then Some K10 else if not v && not s then Some K13 else if list_any fixed ((if v then [] else on ∷ []) ++ (if v then on ∷ [] else [])) || false then Some K15 else None)
    ≡ (if (if v then holds on else (gives on || holds on)) then Some K10 else if not v && not s then Some K13 else if fixed on then Some K15 else None)
cast_operand true gives holds fixed on s = evaluated (holds on) (fixed on)
cast_operand false gives holds fixed on s = cast_value (gives on) (holds on) s (fixed on)
