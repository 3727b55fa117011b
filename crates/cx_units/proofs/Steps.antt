-- What the steps of a check find of units.
use Rattle.std.proofs.Common.{rules, arith, ◌≡◌, ℕ, zero, suc, ◌+◌, ◌<◌, ◌≤◌, ◌⊎◌, inl, inr, List, [], ◌∷◌, ◌++◌, map, take, length, Option, Some, None, option_map, refl, sym, ap, ◌∙◌, subst, slice_get, unwrap_or}
use Rattle.std.proofs.Math.Seq.{take-length}
use Rattle.std.proofs.lemmas.Option.{slice_get_within}
use Rattle.std.specs.Prelude.{IfErr, IfOk, Result, Ok, Err}
use Rattle.std.specs.Result.{IsErrAnd}
use Rattle.cr_base.specs.declared.refusal.Refusal.{Refusal}
use Rattle.cr_base.specs.declared.refusal.Stop.{Stop}
use Rattle.cr_base.specs.declared.refusal.Stop.TheVariants.{Refused, Memory}
use Rattle.cr_base.specs.declared.rule.Rule.TheVariants.{M1}
use Rattle.cx_core.specs.Trees.{CUnit}
use Rattle.cx_lex.specs.declared.token.Token.{Token}
use Rattle.cx_lex.specs.Lexed.{IsFirstFault}
use Rattle.cx_lex.proofs.SpellLemmas.{spell_once, spell_or_break}
use Rattle.cx_links.specs.Rules.{broken_links}
use Rattle.cx_parse.specs.Parsed.{IsNotDerived}
use Rattle.cx_rules.specs.Readings.{first_broken}
use Rattle.cx_rules.specs.Units.{seen_unit}
use Rattle.cx_tree.specs.Derives.{Derives}
use Rattle.cx_tree.specs.Trees.{UnitTree}
use Rattle.cx_units.specs.Broken.{IsTypedAs, AreTyped, AreSound, AreUnbroken, told_at, BreaksUnit, FirstBroken, most_bytes}
use Rattle.cx_units.specs.Sources.{AreSpelled, IsOf, AreOf, StopsUnit, StopsUnits, stopped_in}
use Rattle.cx_units.specs.declared.source.Source.{Source}

-- an error that is this one keeps what is known of this one
pub kept_error : {X : Type 0} (P : Stop → Type 0) (stop : Stop) (r : Result X Stop) → IsErrAnd r (λ e. e ≡ stop) → P stop → IfErr r P
kept_error P stop (Ok found) same known = tt
kept_error P stop (Err e) same known = subst P (sym same) known

-- what holds in any case holds where something was found
pub whenever : {X E : Type 0} (P : Type 0) (r : Result X E) → P → IfOk r (λ found. P)
whenever P (Ok found) known = known
whenever P (Err e) known = tt

-- ---- a unit

pub size_stops : (unit : ℕ) (Has : List ℕ → Type 0) → ((bytes : List ℕ) → Has bytes → most_bytes < length bytes) → StopsUnit unit Has (Refused (record { rule = M1; unit = unit; line = 1 }))
size_stops unit Has large = (refl, λ bytes has. inl (record { rule_is = refl; line_is = refl; large = large bytes has }))

pub token_stops : (unit : ℕ) (given : List ℕ) (stop : Stop) → length given ≤ most_bytes → IsFirstFault given unit stop → StopsUnit unit (λ bytes. given ≡ bytes) stop
token_stops unit given (Refused refusal) small fault = (
  fault.1,
  λ bytes same. subst (λ (b : List ℕ). BreaksUnit unit b refusal.rule refusal.line) same (inr (inl (record { small = small; fault = fault.0 }))),
)
token_stops unit given Memory small fault = tt

pub syntax_stops : (unit : ℕ) (tokens : List Token) (stop : Stop) → IsNotDerived tokens unit stop → StopsUnit unit (AreSpelled tokens) stop
syntax_stops unit tokens (Refused refusal) stops = (
  stops.1,
  λ bytes has. inr (inr (inl (record {
    rule_is = stops.0;
    small = has.small;
    spelled = (spell_or_break bytes).0 (tokens, has.spelled);
    none = λ tree. stops.2 tree.0 (subst (λ (list : List Token). Derives list tree.0) (spell_once bytes tree.1.tokens tokens tree.1.spelled has.spelled) tree.1.derived);
  }))),
)
syntax_stops unit tokens Memory stops = tt

pub node_stops : (unit : ℕ) (tokens : List Token) (tree : UnitTree) (stop : Stop) → Derives tokens tree
    → ((refusal : Refusal) → stop ≡ Refused refusal → first_broken (seen_unit unit tree).nodes ≡ Some refusal) → StopsUnit unit (AreSpelled tokens) (stopped_in unit stop)
node_stops unit tokens tree (Refused refusal) derived broken = (
  refl,
  λ bytes has. inr (inr (inr (record {
    small = has.small;
    tree = tree;
    read = record { tokens = tokens; spelled = has.spelled; derived = derived };
    broken = ap told_at (broken refusal refl);
  }))),
)
node_stops unit tokens tree Memory derived broken = tt

-- the bytes that spell the tokens are those that were given
pub given_stops : (unit : ℕ) (tokens : List Token) (given : List ℕ) (stop : Stop) → AreSpelled tokens given → StopsUnit unit (AreSpelled tokens) stop
    → StopsUnit unit (λ bytes. given ≡ bytes) stop
given_stops unit tokens given (Refused refusal) spelled stops =
    (stops.0, λ bytes same. subst (λ (b : List ℕ). BreaksUnit unit b refusal.rule refusal.line) same (stops.1 given spelled))
given_stops unit tokens given Memory spelled stops = tt

pub typed_found : (unit : ℕ) (tokens : List Token) (tree : UnitTree) (core : CUnit) → Derives tokens tree → first_broken (seen_unit unit tree).nodes ≡ None
    → core ≡ (seen_unit unit tree).meaning → (bytes : List ℕ) → AreSpelled tokens bytes → IsTypedAs unit bytes core
typed_found unit tokens tree core derived unbroken meaning bytes has = record {
  small = has.small;
  tree = tree;
  read = record { tokens = tokens; spelled = has.spelled; derived = derived };
  unbroken = unbroken;
  meaning = sym meaning;
}

-- ---- one unit behind another

pub of_at : (sources : List Source) (units : List (List ℕ)) (k : ℕ) (source : Source) → AreOf sources units → slice_get sources k ≡ Some source
    → (bytes : List ℕ) × (slice_get units k ≡ Some bytes) × IsOf source bytes
of_at [] units k source are is = cc
of_at (s ∷ sources) [] k source are is = absurd are
of_at (s ∷ sources) (unit ∷ units) zero source are is = (unit, refl, subst (λ (x : Source). IsOf x unit) (ap (λ o. unwrap_or o source) is) are.0)
of_at (s ∷ sources) (unit ∷ units) (suc k) source are is = of_at sources units k source are.1 is

same_length : (sources : List Source) (units : List (List ℕ)) → AreOf sources units → length units ≡ length sources
same_length [] [] are = refl
same_length [] (unit ∷ units) are = absurd are
same_length (s ∷ sources) [] are = absurd are
same_length (s ∷ sources) (unit ∷ units) are = ap suc (same_length sources units are.1)

typed_more : (number : ℕ) (units : List (List ℕ)) (cores : List CUnit) (k : ℕ) (bytes : List ℕ) (core : CUnit) → AreTyped number (take k units) cores
    → slice_get units k ≡ Some bytes → IsTypedAs (k + number) bytes core → AreTyped number (take (suc k) units) (cores ++ core ∷ [])
typed_more number [] cores k bytes core typed is one = cc
typed_more number (unit ∷ units) [] zero bytes core typed is one =
    (subst (λ (b : List ℕ). IsTypedAs number b core) (sym (ap (λ o. unwrap_or o bytes) is)) (subst (λ (n : ℕ). IsTypedAs n bytes core) (zero_before number) one), tt) where
      zero_before : (n : ℕ) → 0 + n ≡ n
      zero_before n = omega arith
typed_more number (unit ∷ units) (c ∷ cores) zero bytes core typed is one = absurd typed
typed_more number (unit ∷ units) [] (suc k) bytes core typed is one = absurd typed
typed_more number (unit ∷ units) (c ∷ cores) (suc k) bytes core typed is one =
    (typed.0, typed_more (suc number) units cores k bytes core typed.1 is (subst (λ (n : ℕ). IsTypedAs n bytes core) (next_number k number) one)) where
      next_number : (m n : ℕ) → suc m + n ≡ m + suc n
      next_number m n = omega arith

-- what is known of the first units
abbrev pub AreTypedTo : List Source → List CUnit → ℕ → Type 0
AreTypedTo sources cores k = (units : List (List ℕ)) → AreOf sources units → AreTyped 0 (take k units) cores

pub typed_next : (sources : List Source) (cores : List CUnit) (k : ℕ) (source : Source) (core : CUnit) → AreTypedTo sources cores k → slice_get sources k ≡ Some source
    → ((bytes : List ℕ) → IsOf source bytes → IsTypedAs k bytes core) → AreTypedTo sources (cores ++ core ∷ []) (suc k)
typed_next sources cores k source core before is one units are =
    let at = of_at sources units k source are is in
    typed_more 0 units cores k at.0 core (before units are) at.1 (subst (λ (n : ℕ). IsTypedAs n at.0 core) (zero_behind k) (one at.0 at.2)) where
      zero_behind : (n : ℕ) → n ≡ n + 0
      zero_behind n = omega arith

pub typed_all : (sources : List Source) (cores : List CUnit) → AreTypedTo sources cores (length sources) → (units : List (List ℕ)) → AreOf sources units → AreTyped 0 units cores
typed_all sources cores typed units are =
    subst (λ (us : List (List ℕ)). AreTyped 0 us cores) (ap (λ n. take n units) (sym (same_length sources units are)) ∙ take-length units) (typed units are)

pub stops_there : (sources : List Source) (cores : List CUnit) (k : ℕ) (source : Source) (stop : Stop) → AreTypedTo sources cores k → slice_get sources k ≡ Some source
    → StopsUnit k (IsOf source) stop → StopsUnits sources stop
stops_there sources cores k source Memory before is stops = tt
stops_there sources cores k source (Refused refusal) before is stops = (
  subst (λ (n : ℕ). n < length sources) (sym stops.0) (slice_get_within sources k source is),
  λ units are.
      let at = of_at sources units k source are is in
      inl (record {
        bytes = at.0;
        unit = ap (slice_get units) stops.0 ∙ at.1;
        broken = subst (λ (n : ℕ). BreaksUnit n at.0 refusal.rule refusal.line) (sym stops.0) (stops.1 at.0 at.2);
        before = subst (λ (n : ℕ). AreSound 0 (take n units)) (sym stops.0) (cores, before units are);
      }),
)

-- ---- units together

pub together_stops : (sources : List Source) (cores : List CUnit) (refusal : Refusal) → ((units : List (List ℕ)) → AreOf sources units → AreTyped 0 units cores)
    → refusal.unit < length sources → broken_links cores ≡ Some refusal → StopsUnits sources (Refused refusal)
together_stops sources cores refusal typed within broken = (within, λ units are. inr (record { cores = cores; typed = typed units are; broken = broken }))
