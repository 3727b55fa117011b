-- What stops the units of a job, from what its steps find.
use Rattle.std.proofs.Common.{◌≡◌, ℕ, ◌<◌, ◌≤◌, inl, inr, List, [], ◌∷◌, map, length, Option, Some, None, Result, Ok, Err, IfOk, IfErr, refl, sym, ap, subst, ◌∙◌, arith, get_or, slice_get}
use Rattle.std.specs.Result.{IsErrAnd}
use Rattle.cr_base.specs.declared.refusal.Refusal.{Refusal}
use Rattle.cr_base.specs.declared.refusal.Stop.{Stop}
use Rattle.cr_base.specs.declared.refusal.Stop.TheVariants.{Refused, Memory}
use Rattle.cx_core.specs.Trees.{CUnit}
use Rattle.cx_lex.specs.declared.token.Token.{Token}
use Rattle.cx_lex.specs.Lexed.{IsFirstFault}
use Rattle.cx_lex.specs.Tokens.{Spells, token_fault}
use Rattle.cx_lex.proofs.SpellLemmas.{spell_once, spell_or_break}
use Rattle.cx_units.specs.Broken.{AreUnbroken, IsTypedAs, most_bytes}
use Rattle.cx_units.specs.Sources.{AreOf, StopsUnits}
use Rattle.cx_units.specs.declared.source.Source.{Source}
use Rattle.cx_units.specs.declared.source.Source.TheVariants.{Bytes, TooLarge}
use Rattle.straight_core.specs.Trees.{CProgram}
use Rattle.straight_core.specs.declared.program.Program.{Program}
use Rattle.straight_core.specs.Views.{view_program}
use Rattle.straight_tree.specs.Derives.{Derives}
use Rattle.straight_items.specs.Modules.{module_name, stem_of}
use Rattle.shelf.specs.declared.file.File.{File}
use Rattle.straight_rust_tree.specs.Text.{file_of}
use Rattle.front.specs.Kept.{KeepsNames}
use Rattle.front.specs.Refusals.{IsBuiltAs, AreBuiltAs, bytes_of, not_built}
use Rattle.front.specs.Sources.{IsBuiltOf, StopsJob}
use Rattle.front.specs.Steps.{HasProgram, BuildsAs, StopsAs}

-- an error that is this one keeps what is known of this one
pub kept_error : {X : Type 0} (P : Stop → Type 0) (stop : Stop) (r : Result X Stop) → IsErrAnd r (λ e. e ≡ stop) → P stop → IfErr r P
kept_error P stop (Ok found) same known = tt
kept_error P stop (Err e) same known = subst P (sym same) known

-- ---- one unit

-- there is no program where there is none of the tokens, or where it isn't kept
pub no_program : (file : List ℕ) (tokens : List Token) (stop : Stop) → StopsAs (HasProgram tokens) stop → StopsAs (BuildsAs file tokens) stop
no_program file tokens Memory stops = tt
no_program file tokens (Refused refusal) stops = (stops.0, λ program builds. stops.1 program builds.has)

-- there is none where the names of the one program aren't kept
pub not_kept : (file : List ℕ) (tokens : List Token) (found : CProgram) (stop : Stop) → ¬ KeepsNames found → ((other : CProgram) → HasProgram tokens other → found ≡ other) → stop ≡ Refused not_built → StopsAs (BuildsAs file tokens) stop
not_kept file tokens found stop lacks only e = subst (StopsAs (BuildsAs file tokens)) (sym e) (refl, λ program builds. lacks (subst KeepsNames (sym (only program builds.has)) builds.kept))

-- the program of the unit
built_found : (unit : File) (tokens : List Token) (program : CProgram) → Spells unit.bytes tokens → BuildsAs unit.name tokens program → IsBuiltAs unit program
built_found unit tokens program spells builds = record {
  plain = builds.plain;
  program_is = record { tokens = tokens; tree = builds.has.tree; spelled = spells; derived = builds.has.derived; typed = builds.has.typed };
  kept = builds.kept;
}

pub all_found : (unit : File) (tokens : List Token) (r : Result Program Stop) → Spells unit.bytes tokens
    → IfOk r (λ program. BuildsAs unit.name tokens (view_program program)) → IfOk r (λ program. IsBuiltAs unit (view_program program))
all_found unit tokens (Ok program) spells builds = built_found unit tokens (view_program program) spells builds
all_found unit tokens (Err stop) spells builds = tt

-- tokens of which there is no program that is translated today
built_stops : (unit : File) (tokens : List Token) (stop : Stop) → Spells unit.bytes tokens → StopsAs (BuildsAs unit.name tokens) stop → StopsAs (IsBuiltAs unit) stop
built_stops unit tokens Memory spells stops = tt
built_stops unit tokens (Refused refusal) spells stops = (
  stops.0,
  λ program built. stops.1 program (record {
    plain = built.plain;
    has = record {
      tree = built.program_is.tree;
      derived = subst (λ (list : List Token). Derives list built.program_is.tree) (spell_once unit.bytes built.program_is.tokens tokens built.program_is.spelled spells) built.program_is.derived;
      typed = built.program_is.typed;
    };
    kept = built.kept;
  }),
)

pub all_stopped : (unit : File) (tokens : List Token) (r : Result Program Stop) → Spells unit.bytes tokens → IfErr r (StopsAs (BuildsAs unit.name tokens)) → IfErr r (StopsAs (IsBuiltAs unit))
all_stopped unit tokens (Ok program) spells stops = tt
all_stopped unit tokens (Err stop) spells stops = built_stops unit tokens stop spells stops

none_not_some : {X : Type 0} {x : X} {o : Option X} → o ≡ None → o ≡ Some x → ⊥
none_not_some e d = cc

-- bytes that break no rule of tokens have no first fault
pub fault_never : (Has : CProgram → Type 0) (bytes : List ℕ) (stop : Stop) → token_fault bytes ≡ None → IsFirstFault bytes 0 stop → StopsAs Has stop
fault_never Has bytes Memory spelled fault = tt
fault_never Has bytes (Refused refusal) spelled fault = absurd (none_not_some spelled fault.0)

-- ---- all units

abbrev AreSound : List Source → List CUnit → Type 0
AreSound sources cores = (units : List (List ℕ)) → AreOf sources units → AreUnbroken units cores

-- a rule of the profile
pub check_stops : (first : List ℕ) (sources : List Source) (stop : Stop) → StopsUnits sources stop → StopsJob first sources stop
check_stops first sources Memory stops = tt
check_stops first sources (Refused refusal) stops = (stops.0, λ units got. inl (stops.1 (bytes_of units) got.given))

-- several units
many_unbuilt : (sources : List Source) (units : List File) (program : CProgram) → 1 < length sources → AreOf sources (bytes_of units) → AreBuiltAs units program → ⊥
many_unbuilt sources [] program more are built = built
many_unbuilt sources (unit ∷ other ∷ others) program more are built = built
many_unbuilt [] (unit ∷ []) program more are built = are
many_unbuilt (source ∷ []) (unit ∷ []) program more are built = absurd (omega (arith, more))
many_unbuilt (source ∷ other ∷ others) (unit ∷ []) program more are built = are.1

pub many_stop : (first : List ℕ) (sources : List Source) (cores : List CUnit) (stop : Stop) → 1 < length sources → AreSound sources cores → stop ≡ Refused not_built
    → StopsJob first sources stop
many_stop first sources cores stop more sound e = subst (StopsJob first sources) (sym e) (
  omega (arith, more),
  λ units got. inr (record {
    refused = refl;
    unbroken = (cores, sound (bytes_of units) got.given);
    unbuilt = λ program built. many_unbuilt sources units program more got.given built;
  }),
)

-- a unit that is too large breaks a rule
large_never : (units : List (List ℕ)) (cores : List CUnit) → AreOf (TooLarge ∷ []) units → AreUnbroken units cores → ⊥
large_never [] cores are sound = are
large_never (unit ∷ other ∷ others) cores are sound = are.1
large_never (unit ∷ []) [] are sound = sound.typed
large_never (unit ∷ []) (core ∷ cores) are sound =
    let small : length unit ≤ most_bytes = sound.typed.0.small in
    let large : most_bytes < length unit = are.0 in
    omega (arith, small, large)

pub large_stop : (first : List ℕ) (sources : List Source) (cores : List CUnit) (stop : Stop) → sources ≡ TooLarge ∷ [] → AreSound sources cores → stop ≡ Refused not_built
    → StopsJob first sources stop
large_stop first sources cores stop one sound e =
    subst (StopsJob first sources) (sym e) (subst (λ (list : List Source). AreSound list cores → StopsJob first list (Refused not_built)) (sym one) (λ sound. (
      omega arith,
      λ units got. absurd (large_never (bytes_of units) cores got.given (sound (bytes_of units) got.given)),
    )) sound)

-- one unit, which breaks no rule
one_typed : (bytes : List ℕ) (cores : List CUnit) → AreUnbroken (bytes ∷ []) cores → (core : CUnit) × IsTypedAs 0 bytes core
one_typed bytes [] sound = absurd sound.typed
one_typed bytes (core ∷ cores) sound = (core, sound.typed.0)

abbrev IsOne : List Source → List ℕ → Type 0
IsOne sources bytes = sources ≡ Bytes bytes ∷ []

one_sound : (sources : List Source) (bytes : List ℕ) (cores : List CUnit) → IsOne sources bytes → AreSound sources cores → AreUnbroken (bytes ∷ []) cores
one_sound sources bytes cores one sound = sound (bytes ∷ []) (subst (λ (list : List Source). AreOf list (bytes ∷ [])) (sym one) (refl, tt))

pub one_small : (sources : List Source) (bytes : List ℕ) (cores : List CUnit) → IsOne sources bytes → AreSound sources cores → length bytes ≤ most_bytes
one_small sources bytes cores one sound = (one_typed bytes cores (one_sound sources bytes cores one sound)).1.small

pub one_spelled : (sources : List Source) (bytes : List ℕ) (cores : List CUnit) → IsOne sources bytes → AreSound sources cores → token_fault bytes ≡ None
one_spelled sources bytes cores one sound =
    let typed = (one_typed bytes cores (one_sound sources bytes cores one sound)).1 in
    (spell_or_break bytes).0 (typed.read.tokens, typed.read.spelled)

pub one_found : (first : List ℕ) (sources : List Source) (bytes : List ℕ) (cores : List CUnit) (r : Result Program Stop) → IsOne sources bytes → AreSound sources cores
    → IfOk r (λ program. IsBuiltAs (file_of first bytes) (view_program program)) → IfOk r (λ program. IsBuiltOf first sources (view_program program))
one_found first sources bytes cores (Err stop) one sound built = tt
one_found first sources bytes cores (Ok program) one sound built = record {
  bytes = bytes;
  one = one;
  core = record { unbroken = (cores, one_sound sources bytes cores one sound); built = built };
}

-- a unit of this name and these bytes
same_built : (name bytes : List ℕ) (unit : File) (program : CProgram) → unit.name ≡ name → unit.bytes ≡ bytes → IsBuiltAs unit program → IsBuiltAs (file_of name bytes) program
same_built name bytes unit program named given built = record {
  plain = subst (λ (word : List ℕ). module_name word ≡ stem_of word) named built.plain;
  program_is = record {
    tokens = built.program_is.tokens;
    tree = built.program_is.tree;
    spelled = subst (λ (b : List ℕ). Spells b built.program_is.tokens) given built.program_is.spelled;
    derived = built.program_is.derived;
    typed = built.program_is.typed;
  };
  kept = built.kept;
}

one_unbuilt : (first bytes : List ℕ) (units : List File) (program : CProgram) → slice_get (map (λ (unit : File). unit.name) units) 0 ≡ Some first
    → AreOf (Bytes bytes ∷ []) (bytes_of units) → AreBuiltAs units program → IsBuiltAs (file_of first bytes) program
one_unbuilt first bytes [] program named are built = absurd built
one_unbuilt first bytes (unit ∷ other ∷ others) program named are built = absurd built
one_unbuilt first bytes (unit ∷ []) program named are built =
    let name : unit.name ≡ first = cc in
    same_built first bytes unit program name (sym are.0) built

one_stops : (first : List ℕ) (sources : List Source) (bytes : List ℕ) (cores : List CUnit) (stop : Stop) → IsOne sources bytes → AreSound sources cores
    → StopsAs (IsBuiltAs (file_of first bytes)) stop → StopsJob first sources stop
one_stops first sources bytes cores Memory one sound stops = tt
one_stops first sources bytes cores (Refused refusal) one sound stops =
    let within : 0 < length sources = subst (λ (n : ℕ). 0 < n) (sym (ap length one)) (omega arith) in (
      subst (λ (by : Refusal). by.unit < length sources) (sym stops.0) within,
      λ units got. inr (record {
        refused = stops.0;
        unbroken = (cores, sound (bytes_of units) got.given);
        unbuilt = λ program built. stops.1 program
            (one_unbuilt first bytes units program got.first_is (subst (λ (list : List Source). AreOf list (bytes_of units)) one got.given) built);
      }),
    )

pub one_stopped : (first : List ℕ) (sources : List Source) (bytes : List ℕ) (cores : List CUnit) (r : Result Program Stop) → IsOne sources bytes → AreSound sources cores
    → IfErr r (StopsAs (IsBuiltAs (file_of first bytes))) → IfErr r (StopsJob first sources)
one_stopped first sources bytes cores (Ok program) one sound stops = tt
one_stopped first sources bytes cores (Err stop) one sound stops = one_stops first sources bytes cores stop one sound stops

-- the one unit, by the first of a list of no more
pub one_is : (sources : List Source) (source : Source) (bytes given : List ℕ) → 0 < length sources → length sources ≤ 1 → source ≡ get_or sources 0 source → source ≡ Bytes bytes → given ≡ bytes
    → IsOne sources given
one_is [] source bytes given some few at is same = absurd (omega (arith, some))
one_is (first ∷ []) source bytes given some few at is same = ap (λ (one : Source). one ∷ []) (sym at ∙ is ∙ ap (λ (b : List ℕ). Bytes b) (sym same))
one_is (first ∷ other ∷ others) source bytes given some few at is same = absurd (omega (arith, few))
