-- Calls by other words for them.
use Rattle.std.proofs.Common.{◌≡◌, ◌∙◌, refl, sym, ap, subst, arith, ℤ, List, [], ◌++◌, Option, Some, None, Result, Ok, Err}
use Rattle.cr_world.specs.Known.{Known, KnownFunction, known_named}
use Rattle.cr_world.specs.World.{World, Got, answered}
use Rattle.cx_access.specs.declared.trouble.Trouble.{Trouble}
use Rattle.cx_access.specs.declared.trouble.Trouble.TheVariants as trouble
use Rattle.cx_access.specs.Finds.{Finds}
use Rattle.cx_core.specs.Trees.{COuter}
use Rattle.cx_mean.specs.Calls.{CCalled, returns_value, COutcome, arguments, values_of, wrong_at, answer_as, with_answer, opaque_call, known_call, external_call, call_by_table}
use Rattle.cx_mean.specs.Operands.{CStop, CWhy, CValue}
use Rattle.cx_mean.specs.Settings.{CSetting, scalar_in_type}
use Rattle.ext_calls.specs.declared.call.Arg.{Arg}
use Rattle.ext_calls.specs.declared.call.Call.{Call}
use Rattle.ext_calls.specs.declared.call.Made.{Made}
use Rattle.mem_bytes.specs.Access.{and_then}
use Rattle.mem_bytes.specs.declared.value.Value.{Value}
use Rattle.cx_outside.specs.Called.{IsHalt, Calls, library_piece}
use Rattle.cx_outside.specs.Comes.{Comes, Lacks, got}
use Rattle.cx_outside.specs.Effects.{library_view}
use Rattle.cx_outside.specs.States.{Around, world_at, Quiet}
use Rattle.cx_outside.specs.declared.calls.Halt.{Halt}
use Rattle.cx_outside.specs.declared.calls.Halt.TheVariants as halt
use Rattle.cx_outside.specs.declared.calls.Returned.{Returned}
use Rattle.cx_outside.specs.declared.calls.Returned.TheVariants as returned
use Rattle.cx_outside.specs.declared.library.Library.{Library}
use Rattle.cx_outside.specs.declared.outside.Lack.{Lack}
use Rattle.cx_outside.specs.declared.outside.Lack.TheVariants as lack

-- ---- a piece that is another one

module _ (piece other : World → COutcome) (before after : Around) (is : (world : World) → piece world ≡ other world) where
  lacks_by : (why : Lack) → Lacks other why before after → Lacks piece why before after
  lacks_by (lack.Full need left) one = record { quiet = one.quiet; stops = λ made ahead. is _ ∙ one.stops made ahead }
  lacks_by (lack.Refused name) one = record {
    call = one.call;
    named = one.named;
    declined = one.declined;
    asks = record { quiet = one.asks.quiet; stops = λ made. is _ ∙ one.asks.stops made };
  }
  lacks_by lack.Failed one = record {
    call = one.call;
    taken = one.taken;
    rose = one.rose;
    asks = record { quiet = one.asks.quiet; stops = λ made. is _ ∙ one.asks.stops made };
  }
  lacks_by lack.Memory one = tt

  pub calls_by : (result : Result Returned Halt) → Calls other result before after → Calls piece result before after
  calls_by (Ok (returned.Gives value)) one = record { between = one.between; goes = λ made ahead. is _ ∙ one.goes made ahead }
  calls_by (Ok (returned.Ends status)) one = record { quiet = one.quiet; ends = λ made ahead. is _ ∙ one.ends made ahead }
  calls_by (Err (halt.Undefined rule place)) one = record { quiet = one.quiet; stops = λ made ahead. is _ ∙ one.stops made ahead }
  calls_by (Err (halt.Lacks why)) one = lacks_by why one

quiet_still : (at : Around) → Quiet at at
quiet_still at = record { trail = refl; made = refl; left = refl; limit = refl; takes = refl; later = omega arith }

-- ---- functions of the library

pub known_by : (called : CCalled) (does : Known) (values : List Value) (before after : Around) (result : Result Returned Halt) → values_of called.args ≡ Ok values →
    Calls (library_piece does called.place values) result before after → Calls (known_call called does) result before after
known_by called does values before after result is =
    calls_by (known_call called does) (library_piece does called.place values) before after
    (λ world. ap (λ (one : Result (List Value) CWhy). and_then (wrong_at called.place one) (λ args. library_piece does called.place args world)) is) result

-- what is wrong with arguments is wrong with the call
pub values_fail : (called : CCalled) (does : Known) (why : Trouble) (halt : Halt) (at : Around) → Finds {A = List Value} (λ values. values) (Err why) (values_of called.args) → IsHalt why called.place halt →
    Calls (known_call called does) (Err halt) at at
values_fail called does (trouble.Undefined rule) halt at finds is =
    subst (λ (one : Halt). Calls (known_call called does) (Err one) at at) (sym is)
    (record {
      quiet = quiet_still at;
      stops = λ made ahead. ap (λ (one : Result (List Value) CWhy). and_then (wrong_at called.place one) (λ args. library_piece does called.place args (world_at at made ahead))) finds;
    })
values_fail called does trouble.Memory halt at finds is = subst (λ (one : Halt). Calls (known_call called does) (Err one) at at) (sym is) tt

-- ---- other functions

abbrev asks_for : CSetting → CCalled → COuter → World → List Arg → COutcome
asks_for setting called callee world args =
    with_answer (scalar_in_type setting called.type) (answered (record { name = callee.name; args = args }) world)

module _ (setting : CSetting) (called : CCalled) (callee : COuter) (before : Around) where
  pub arguments_fail : (why : Trouble) (halt : Halt) → Finds {A = List Arg} (λ args. args) (Err why) (arguments setting before.held.blocks called.args) → IsHalt why called.place halt →
      Calls (opaque_call setting called callee) (Err halt) before before
  arguments_fail (trouble.Undefined rule) halt finds is =
      subst (λ (one : Halt). Calls (opaque_call setting called callee) (Err one) before before) (sym is)
      (record {
        quiet = quiet_still before;
        stops = λ made ahead. ap (λ (one : Result (List Arg) CWhy). and_then (wrong_at called.place one) (asks_for setting called callee (world_at before made ahead))) finds;
      })
  arguments_fail trouble.Memory halt finds is = subst (λ (one : Halt). Calls (opaque_call setting called callee) (Err one) before before) (sym is) tt

  module _ (args : List Arg) (call : Call) (found : arguments setting before.held.blocks called.args ≡ Ok args) (same : call ≡ record { name = callee.name; args = args }) where
    pub asks_call : (made : List Made) (ahead : List ℤ) →
        opaque_call setting called callee (world_at before made ahead) ≡ with_answer (scalar_in_type setting called.type) (answered call (world_at before made ahead))
    asks_call made ahead =
        ap (λ (one : Result (List Arg) CWhy). and_then (wrong_at called.place one) (asks_for setting called callee (world_at before made ahead))) found
        ∙ ap (λ (one : Call). with_answer (scalar_in_type setting called.type) (answered one (world_at before made ahead))) (sym same)

    stopped : (found : Result (Got ℤ) CStop) (why : CStop) → found ≡ Err why → with_answer (scalar_in_type setting called.type) found ≡ Err why
    stopped found why is = ap (λ (one : Result (Got ℤ) CStop). with_answer (scalar_in_type setting called.type) one) is

    pub answer_lacks : (why : Lack) (after : Around) → Lacks (answered call) why before after → Lacks (opaque_call setting called callee) why before after
    answer_lacks (lack.Full need left) after one = record { quiet = one.quiet; stops = λ made ahead. asks_call made ahead ∙ stopped _ _ (one.stops made ahead) }
    answer_lacks (lack.Refused name) after one = record {
      call = one.call;
      named = one.named;
      declined = one.declined;
      asks = record { quiet = one.asks.quiet; stops = λ made. asks_call made [] ∙ stopped _ _ (one.asks.stops made) };
    }
    answer_lacks lack.Failed after one = record {
      call = one.call;
      taken = one.taken;
      rose = one.rose;
      asks = record { quiet = one.asks.quiet; stops = λ made. asks_call made [] ∙ stopped _ _ (one.asks.stops made) };
    }
    answer_lacks lack.Memory after one = tt

    pub answer_gives : (answer : ℤ) (value : CValue) (after : Around) → Comes (answered call) (got answer) before after → value ≡ answer_as (scalar_in_type setting called.type) answer →
        Comes (opaque_call setting called callee) (λ world. Ok (returns_value value world)) before after
    answer_gives answer value after comes is = record {
      between = comes.between;
      goes = λ made ahead.
          asks_call made (comes.between.answers ++ ahead)
          ∙ ap (λ (one : Result (Got ℤ) CStop). with_answer (scalar_in_type setting called.type) one) (comes.goes made ahead)
          ∙ ap (λ (one : CValue). Ok (returns_value one (world_at after (made ++ comes.between.calls) ahead))) (sym is);
    }

-- ---- by the table

pub by_known : (setting : CSetting) (called : CCalled) (callee : COuter) (which : Library) (before after : Around) (result : Result Returned Halt) →
    Some (library_view which) ≡ known_named callee.name → Calls (known_call called (library_view which).does) result before after → Calls (external_call setting called callee) result before after
by_known setting called callee which before after result is =
    calls_by (external_call setting called callee) (known_call called (library_view which).does) before after
    (λ world. ap (λ (one : Option KnownFunction). call_by_table setting called callee world one) (sym is)) result

pub by_opaque : (setting : CSetting) (called : CCalled) (callee : COuter) (before after : Around) (result : Result Returned Halt) →
    None ≡ known_named callee.name → Calls (opaque_call setting called callee) result before after → Calls (external_call setting called callee) result before after
by_opaque setting called callee before after result is =
    calls_by (external_call setting called callee) (opaque_call setting called callee) before after
    (λ world. ap (λ (one : Option KnownFunction). call_by_table setting called callee world one) (sym is)) result
